-- What an event makes of the eras that a group stands for.
use Rattle.std.proofs.Common.{◌≡◌, ℕ, suc, ◌+◌, ◌-◌, ◌<◌, ◌≤◌, ◌==◌, nat_lt, nat_le, ◌&&◌, Bool, true, false, List, []}
use Rattle.std.proofs.Common.{◌∷◌, ◌++◌, length, map, Option, Some, None, if◌then◌else◌, refl, sym, ap, ◌∙◌}
use Rattle.std.proofs.Common.{append_assoc, length-append, arith}
use Rattle.std.specs.Prelude.{All}
use Rattle.std.specs.Option.{option_map, unwrap_or}
use Rattle.std.proofs.lemmas.Option.{none-some}
use Rattle.std.proofs.lemmas.List.Elements.{All-head, All-tail}
use Rattle.std.proofs.lemmas.Bool.Decides.{nat_tests}
use Rattle.group_types.specs.Hash.{home_of}
use Rattle.group_types.specs.Lists.{at}
use Rattle.group_types.specs.Each.{Each}
use Rattle.group_types.specs.declared.process.ProcessId.{ProcessId}
use Rattle.memc_table.specs.Act.{key_of}
use Rattle.memc_table.specs.Asked.{Asked}
use Rattle.memc_table.specs.declared.act.Act.{Act}
use Rattle.memc_table.specs.declared.act.Act.TheVariants.{Add, Append, Cas, Decr, Delete, Get, Incr, Prepend, Replace, Set, Touch}
use Rattle.group_calls.specs.Turns.{CallName, call_entry, name_of}
use Rattle.group_calls.specs.declared.entry.Entry.{Entry}
use Rattle.group_calls.specs.declared.event.Event.{Event}
use Rattle.group_calls.specs.declared.event.Event.TheVariants.{Ask, Collect, Deliver, Fail, Flush, Trace}
use Rattle.group_run.specs.World.{AskedCall, Ticket, World, WorldStep, call_of, next_name, same_call, step}
use Rattle.law_moves.proofs.Reading.{grown-is}
use Rattle.group_eras.specs.Eras.{EraEntry, era_step}
use Rattle.group_eras.specs.Told.{Bases, based_reply, event_in, op_for_era, op_out, told_entry, told_op}
use Rattle.group_regroup.specs.declared.changing.Lowered.{Lowered}
use Rattle.group_regroup.specs.Kept.{covers, entry_of_era, eras_of, is_low, lowered_by, lowered_until, op_asked, past_from, told_from}
use Rattle.group_regroup.proofs.Asked.{logged-ops}

-- an op comes out as it was asked, unless it went in lowered
pub op-back : (bases : Bases) (k : ℕ) (op : Asked) → is_low bases k op.act ≡ false → op_out bases k (op_for_era bases k op) ≡ op
op-back bases k op high = by op.act high where
  by : (act : Act) → is_low bases k act ≡ false
      → op_out bases k (op_for_era bases k (record { moment = op.moment; act = act }))
      ≡ record { moment = op.moment; act = act }
  by (Cas key flags expiry cas value) above =
      let whole : at 0 bases (home_of key k) + (cas - at 0 bases (home_of key k)) ≡ cas = less above in
      ap (λ (n : ℕ). record { moment = op.moment; act = Cas key flags expiry n value }) whole where
        less : nat_le cas (at 0 bases (home_of key k)) ≡ false → at 0 bases (home_of key k) + (cas - at 0 bases (home_of key k)) ≡ cas
        less above2 = let more : at 0 bases (home_of key k) < cas = grind (arith, nat_tests) in omega (arith, more)
  by (Get key) above = refl
  by (Set key flags expiry value) above = refl
  by (Add key flags expiry value) above = refl
  by (Replace key flags expiry value) above = refl
  by (Delete key) above = refl
  by (Touch key expiry) above = refl
  by (Append key value) above = refl
  by (Prepend key value) above = refl
  by (Incr key n) above = refl
  by (Decr key n) above = refl

module _ (bases : Bases) (k era : ℕ) where
  pub told-append : (l : List Lowered) (p : ℕ) (xs ys : List Entry) → told_from bases k era l p (xs ++ ys)
      ≡ told_from bases k era l p xs ++ told_from bases k era l (p + length xs) ys
  told-append l p [] ys = let same : p ≡ p + 0 = omega arith in ap (λ (n : ℕ). told_from bases k era l n ys) same
  told-append l p (x ∷ xs) ys =
      let same : suc p + length xs ≡ p + suc (length xs) = omega arith in
      ap (λ (zs : List EraEntry). (era, entry_of_era bases k l p x) ∷ zs) (told-append l (suc p) xs ys
      ∙ ap (λ (n : ℕ). told_from bases k era l (suc p) xs ++ told_from bases k era l n ys) same)

-- what is lowered later doesn't cover an earlier place
early : (x : Lowered) (place : ℕ) (name : CallName) → place < x.from → covers x place name ≡ false
early x place name low = by (nat_le x.from place) refl where
  by : (b : Bool) → nat_le x.from place ≡ b → ((b && nat_lt place x.until) && (x.caller == name.caller && x.call == name.call)) ≡ false
  by true is = absurd (let high : x.from ≤ place = grind (arith, nat_tests) in omega (arith, high, low))
  by false is = refl

-- and what was lowered earlier no later one
late : (x : Lowered) (place : ℕ) (name : CallName) → x.until ≤ place → covers x place name ≡ false
late x place name high = by (nat_le x.from place) (nat_lt place x.until) refl where
  by : (a b : Bool) → nat_lt place x.until ≡ b → ((a && b) && (x.caller == name.caller && x.call == name.call)) ≡ false
  by a true is = absurd (let low : place < x.until = grind (arith, nat_tests) in omega (arith, high, low))
  by true false is = refl
  by false false is = refl

pub asked-early : (l : List Lowered) (x : Lowered) (place : ℕ) (name : CallName) → covers x place name ≡ false
    → op_asked (l ++ x ∷ []) place name ≡ op_asked l place name
asked-early [] x place name none = ap (λ (b : Bool). if b then Some x.op else None) none
asked-early (y ∷ l) x place name none = ap (λ (rest : Option Asked). if covers y place name then Some y.op else rest) (asked-early l x place name none)

pub asked-none : (l : List Lowered) (n place : ℕ) (name : CallName) → All (λ x. x.until ≤ n) l → n ≤ place → op_asked l place name ≡ None
asked-none [] n place name all high = refl
asked-none (x ∷ l) n place name all high =
    let low : x.until ≤ n = All-head (λ x. x.until ≤ n) x l all in
    ap (λ (b : Bool). if b then Some x.op else op_asked l place name) (late x place name (omega (arith, low, high)))
    ∙ asked-none l n place name (All-tail (λ x. x.until ≤ n) x l all) high

asked-last : (l : List Lowered) (x : Lowered) (n place : ℕ) (name : CallName) → All (λ x. x.until ≤ n) l → n ≤ place
    → op_asked (l ++ x ∷ []) place name ≡ (if covers x place name then Some x.op else None)
asked-last [] x n place name all high = refl
asked-last (y ∷ l) x n place name all high =
    let low : y.until ≤ n = All-head (λ x. x.until ≤ n) y l all in
    ap (λ (b : Bool). if b then Some y.op else op_asked (l ++ x ∷ []) place name)
    (late y place name (omega (arith, low, high)))
    ∙ asked-last l x n place name (All-tail (λ x. x.until ≤ n) y l all) high

module _ (bases : Bases) (k era : ℕ) where
  pub told-early : (l : List Lowered) (x : Lowered) (p : ℕ) (es : List Entry) → p + length es ≤ x.from
      → told_from bases k era (l ++ x ∷ []) p es ≡ told_from bases k era l p es
  told-early l x p [] low = refl
  told-early l x p (e ∷ es) low =
      let here : op_asked (l ++ x ∷ []) p (name_of e) ≡ op_asked l p (name_of e) = asked-early l x p (name_of e) (early x p (name_of e) (omega (arith, low))) in
      ap (λ (asked : Option Asked). (
        era,
        call_entry (name_of e) (unwrap_or asked (op_out bases k e.op))
            (based_reply bases (home_of (key_of e.op.act) k) e.reply),
      ) ∷ told_from bases k era (l ++ x ∷ []) (suc p) es)
      here
      ∙ ap (λ (rest : List EraEntry). (era, entry_of_era bases k l p e) ∷ rest) (told-early l x (suc p) es (omega (arith, low)))

  -- entries at places behind all that was lowered, told by what says of each which op was asked
  abbrev pub tell_by : Option AskedCall → Entry → EraEntry
  tell_by c entry = (era, told_entry bases k c entry)

  -- the op that is found at a place is the one that is told
  abbrev pub AreFound : List Lowered → Option AskedCall → ℕ → ℕ → Entry → Type 0
  AreFound l c low high entry = (place : ℕ) → low ≤ place → place < high
      → unwrap_or (op_asked l place (name_of entry)) (op_out bases k entry.op) ≡ told_op bases k c entry

  pub told-found : (l : List Lowered) (c : Option AskedCall) (p high : ℕ) (es : List Entry) → p + length es ≤ high
      → Each (AreFound l c p high) es → told_from bases k era l p es ≡ map (tell_by c) es
  told-found l c p high [] fits all = refl
  told-found l c p high (e ∷ es) fits (here, rest) =
      ap (λ (op : Asked). (era, call_entry (name_of e) op (based_reply bases (home_of (key_of e.op.act) k) e.reply))
      ∷ told_from bases k era l (suc p) es) (here p (omega arith) (omega (arith, fits)))
      ∙ ap (λ (zs : List EraEntry). tell_by c e ∷ zs) (told-found l c (suc p) high es (omega (arith, fits)) (later es rest)) where
        later : (es : List Entry) → Each (AreFound l c p high) es → Each (AreFound l c (suc p) high) es
        later [] all = tt
        later (x ∷ xs) (h, hs) = ((λ place low lt. h place (omega (arith, low)) lt), later xs hs)

-- what an event logs behind a log, as it is told
module _ (w : World) (bases : Bases) (era : ℕ) (l : List Lowered) (within : All (λ x. x.until ≤ length w.log) l) (es : List Entry) where
  abbrev place_behind : ℕ
  place_behind = length w.log + length es

  quiet : (e : Event) → call_of w e ≡ None → lowered_by w bases e ≡ None
      → told_from bases w.shape.k era (lowered_until l (lowered_by w bases e) place_behind) (length w.log) es
      ≡ map (tell_by bases w.shape.k era (call_of w e)) es
  quiet e none same = rw (same, none) (told-found bases w.shape.k era l None (length w.log) place_behind es (omega arith) (each es)) where
    each : (xs : List Entry) → Each (AreFound bases w.shape.k era l None (length w.log) place_behind) xs
    each [] = tt
    each (x ∷ xs) = (
      (λ place low high. ap (λ (o : Option Asked). unwrap_or o (op_out bases w.shape.k x.op))
          (asked-none l (length w.log) place (name_of x) within low)),
      each xs,
    )

  module _ (caller : ℕ) (op : Asked) (p : ProcessId) where
    abbrev call : AskedCall
    call = record { name = next_name w caller; op = op }

    abbrev pub HasOp : Entry → Type 0
    HasOp entry = same_call (next_name w caller) (name_of entry) ≡ true → entry.op ≡ op_for_era bases w.shape.k op

    abbrev lowest : Lowered
    lowest = record { from = length w.log; until = place_behind; caller = caller; call = at 0 w.asked caller; op = op }

    high-each : is_low bases w.shape.k op.act ≡ false → (xs : List Entry) → Each HasOp xs
        → Each (AreFound bases w.shape.k era l (Some call) (length w.log) place_behind) xs
    high-each high [] all = tt
    high-each high (x ∷ xs) (own, rest) = (
      (λ place low lt. ap (λ (o : Option Asked). unwrap_or o (op_out bases w.shape.k x.op))
          (asked-none l (length w.log) place (name_of x) within low) ∙ by (same_call (next_name w caller) (name_of x))
          own),
      high-each high xs rest,
    ) where
      by : (b : Bool) → (b ≡ true → x.op ≡ op_for_era bases w.shape.k op) → op_out bases w.shape.k x.op ≡ (if b then op else op_out bases w.shape.k x.op)
      by true is = ap (op_out bases w.shape.k) (is refl) ∙ op-back bases w.shape.k op high
      by false is = refl

    low-each : (xs : List Entry) → Each (AreFound bases w.shape.k era (l ++ lowest ∷ []) (Some call) (length w.log) place_behind) xs
    low-each [] = tt
    low-each (x ∷ xs) = (
      (λ place low lt. ap (λ (o : Option Asked). unwrap_or o (op_out bases w.shape.k x.op)) (asked-last l lowest (length w.log) place (name_of x) within low)
          ∙ by (nat_le (length w.log) place) (nat_lt place place_behind) (same_call (next_name w caller) (name_of x))
          (grind (arith, nat_tests)) (grind (arith, nat_tests))),
      low-each xs,
    ) where
      by : (a b s : Bool) → a ≡ true → b ≡ true → unwrap_or (if ((a && b) && s) then Some op else None)
          (op_out bases w.shape.k x.op) ≡ (if s then op else op_out bases w.shape.k x.op)
      by a b true one two = rw (one, two) refl
      by a b false one two = rw (one, two) refl

    asks : Each HasOp es → told_from bases w.shape.k era (lowered_until l (lowered_by w bases (Ask caller op p)) place_behind)
        (length w.log) es ≡ map (tell_by bases w.shape.k era (Some call)) es
    asks own = by (is_low bases w.shape.k op.act) refl where
      by : (b : Bool) → is_low bases w.shape.k op.act ≡ b
          → told_from bases w.shape.k era
          (lowered_until l (if b then Some
          (record { from = length w.log; until = length w.log; caller = caller; call = at 0 w.asked caller; op = op })
          else None) place_behind) (length w.log) es
          ≡ map (tell_by bases w.shape.k era (Some call)) es
      by true is = told-found bases w.shape.k era (l ++ lowest ∷ []) (Some call) (length w.log) place_behind es (omega arith) (low-each es)
      by false is = told-found bases w.shape.k era l (Some call) (length w.log) place_behind es (omega arith) (high-each is es own)

  -- what stood in the log is told as before
  before : (x : Option Lowered) → ((y : Lowered) → x ≡ Some y → y.from ≡ length w.log)
      → told_from bases w.shape.k era (lowered_until l x place_behind) 0 w.log ≡ told_from bases w.shape.k era l 0 w.log
  before None from = refl
  before (Some y) from = let at_end : y.from ≡ length w.log = from y refl in
      told-early bases w.shape.k era l (record y { until = place_behind }) 0 w.log (omega (arith, at_end))

abbrev pub IsOldTicket : World → Ticket → Type 0
IsOldTicket w t = t.name.call < at 0 w.asked t.name.caller

lowered-from : (w : World) (bases : Bases) (e : Event) (y : Lowered) → lowered_by w bases e ≡ Some y → y.from ≡ length w.log
lowered-from w bases (Ask caller op p) y is = by (is_low bases w.shape.k op.act) is where
  by : (b : Bool)
      → (if b then Some
      (record { from = length w.log; until = length w.log; caller = caller; call = at 0 w.asked caller; op = op }) else
      None) ≡ Some y → y.from ≡ length w.log
  by true is = sym (ap (λ (o : Option Lowered). unwrap_or (option_map (λ x. x.from) o) 0) is)
  by false is = absurd (none-some y is)
lowered-from w bases (Collect caller number p) y is = absurd (none-some y is)
lowered-from w bases (Deliver from to) y is = absurd (none-some y is)
lowered-from w bases (Fail p keep) y is = absurd (none-some y is)
lowered-from w bases (Flush p) y is = absurd (none-some y is)
lowered-from w bases (Trace caller number d p) y is = absurd (none-some y is)

-- the log of the eras after an event
pub told-step : (w : World) (bases : Bases) (past : List (List Entry)) (l : List Lowered) (e : Event)
    → All (IsOldTicket w) w.tickets → All (λ x. x.until ≤ length w.log) l
    → eras_of (step w (event_in bases w.shape.k e)).world bases past
    (lowered_until l (lowered_by w bases e) (length (step w (event_in bases w.shape.k e)).world.log))
    ≡ (era_step (eras_of w bases past l) e).eras
told-step w bases past l e old within = ap (λ (log : List EraEntry). record { era = length past; world = t.world; bases = bases; log = log }) whole where
  t : WorldStep
  t = step w (event_in bases w.shape.k e)

  es : List Entry
  es = t.turn.logged

  grows : t.world.log ≡ w.log ++ es
  grows = grown-is w.log es

  many : length t.world.log ≡ length w.log + length es
  many = ap length grows ∙ length-append w.log es

  now : List Lowered
  now = lowered_until l (lowered_by w bases e) (length w.log + length es)

  own : (e : Event)
      → told_from bases w.shape.k (length past)
      (lowered_until l (lowered_by w bases e) (length w.log + length (step w (event_in bases w.shape.k e)).turn.logged))
      (length w.log) (step w (event_in bases w.shape.k e)).turn.logged
      ≡ map (tell_by bases w.shape.k (length past) (call_of w e)) (step w (event_in bases w.shape.k e)).turn.logged
  own (Ask caller op p) = asks w bases (length past) l within _ caller op p (logged-ops w caller (op_for_era bases w.shape.k op) p old)
  own (Collect caller number p) = quiet w bases (length past) l within _ (Collect caller number p) refl refl
  own (Deliver from to) = quiet w bases (length past) l within _ (Deliver from to) refl refl
  own (Fail p keep) = quiet w bases (length past) l within _ (Fail p keep) refl refl
  own (Flush p) = quiet w bases (length past) l within _ (Flush p) refl refl
  own (Trace caller number d p) = quiet w bases (length past) l within _ (Trace caller number d p) refl refl

  parts : told_from bases w.shape.k (length past) now 0 (w.log ++ es) ≡ told_from bases w.shape.k (length past) l 0
      w.log ++ map (tell_by bases w.shape.k (length past) (call_of w e)) es
  parts = told-append bases w.shape.k (length past) now 0 w.log es
      ∙ (let front : 0 + length w.log ≡ length w.log = omega arith in
      ap (λ (n : ℕ). told_from bases w.shape.k (length past) now 0 w.log ++ told_from bases w.shape.k (length past)
      now n es) front)
      ∙ ap (λ (xs : List EraEntry). xs ++ told_from bases w.shape.k (length past) now (length w.log) es)
      (before w bases (length past) l within es (lowered_by w bases e) (lowered-from w bases e))
      ∙ ap (λ (xs : List EraEntry). told_from bases w.shape.k (length past) l 0 w.log ++ xs) (own e)

  whole : past_from 0 past ++ told_from bases w.shape.k (length past) (lowered_until l (lowered_by w bases e) (length t.world.log)) 0 t.world.log
      ≡ (past_from 0 past ++ told_from bases w.shape.k (length past) l 0 w.log) ++ map (tell_by bases w.shape.k (length past) (call_of w e)) es
  whole = ap (λ (n : ℕ). past_from 0 past ++ told_from bases w.shape.k (length past) (lowered_until l (lowered_by w bases e) n) 0 t.world.log) many
      ∙ ap (λ (log : List Entry). past_from 0 past ++ told_from bases w.shape.k (length past) now 0 log) grows
      ∙ ap (λ (xs : List EraEntry). past_from 0 past ++ xs) parts
      ∙ sym (append_assoc (past_from 0 past) (told_from bases w.shape.k (length past) l 0 w.log) _)
