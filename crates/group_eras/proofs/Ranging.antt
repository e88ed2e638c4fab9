-- Untils of items are those that exptimes of 64 bits ask for.
use Rattle.std.proofs.Common.{ℕ, ℤ, pos, negsuc, suc, ◌≡◌, ◌≤◌, ◌+◌, ◌^◌, ◌==◌, nat_le, Bool, true, false, List, []}
use Rattle.std.proofs.Common.{◌∷◌, ◌++◌, length, take, Option, Some, None, if◌then◌else◌, refl, sym, ap, subst, ◌∙◌}
use Rattle.std.proofs.Common.{arith}
use Rattle.group_types.proofs.Eaches.{each-append, each-map, each-take, each-weaker}
use Rattle.std.specs.Prelude.{Contains, slice_get}
use Rattle.std.proofs.lemmas.Grind.{common_steps}
use Rattle.group_types.specs.Dimensions.{Dimensions}
use Rattle.group_types.specs.Each.{Each}
use Rattle.group_types.specs.Lists.{same_key}
use Rattle.group_types.specs.Shape.{IsShape}
use Rattle.memc_table.specs.Act.{key_of}
use Rattle.memc_table.specs.Asked.{Asked}
use Rattle.memc_table.specs.Contents.{Contents, after_ruling, count_of, empty_table, ruling_on, table_after}
use Rattle.memc_table.specs.Expiry.{is_live, live_at, longest_offset, until_of}
use Rattle.memc_table.specs.Numeral.{number_of}
use Rattle.memc_table.specs.Ruling.{joined, longest_value, lowered, raised, ruling_of}
use Rattle.memc_table.specs.declared.act.Act.{Act}
use Rattle.memc_table.specs.declared.act.Act.TheVariants.{Add, Append, Cas, Decr, Delete, Get, Incr, Prepend, Replace, Set, Touch}
use Rattle.memc_table.specs.declared.holding.Holding.{Holding}
use Rattle.memc_table.specs.declared.reply.Reply.TheVariants as reply
use Rattle.memc_table.specs.declared.ruling.Ruling.{Ruling}
use Rattle.memc_table.specs.declared.ruling.Ruling.TheVariants.{Accepted, Refused}
use Rattle.group_calls.specs.Log.{table_of}
use Rattle.group_calls.specs.declared.entry.Entry.{Entry}
use Rattle.group_calls.specs.declared.event.Event.{Event}
use Rattle.group_calls.specs.declared.event.Event.TheVariants.{Ask, Collect, Deliver, Fail, Flush, Trace}
use Rattle.group_run.specs.Headline.{IsRun, IsRunFrom, MayCome}
use Rattle.group_run.specs.Meaning.{IsDown, IsDrained}
use Rattle.group_run.specs.World.{World, after, opening, step, turns_of}
use Rattle.law_log.proofs.Calls.{each-contained}
use Rattle.law_log.proofs.Turnings.{get-contained}
use Rattle.law_headline.proofs.Headlines.{headline_always}
use Rattle.law_answers.proofs.Entries.{after-more, run-more}
use Rattle.group_eras.specs.Carry.{Parcel, begun, carried, expiry_of, reading, setting}
use Rattle.group_eras.specs.Eras.{Eras, era_step, eras_after, first_era}
use Rattle.group_eras.specs.Items.{loads}
use Rattle.group_eras.specs.Moments.{IsLowUntil, UntilsAreLow}
use Rattle.group_eras.specs.Promise.{Begins, Carries, EraMove, Makes, MayAllBeDone, MayBeDone, all_done, done}
use Rattle.group_eras.specs.Range.{HasLowExpiry, IsInRange, IsLow}
use Rattle.group_eras.specs.Refusal.{CanCarry, IsAtRest, IsSuccessor}
use Rattle.group_eras.specs.Told.{Bases, event_in, with_cas}
use Rattle.group_eras.proofs.Asking.{turn-event}
use Rattle.group_eras.proofs.Carrying as carrying
use Rattle.group_eras.proofs.Draining.{shape-after}
use Rattle.group_eras.proofs.Finding as finding
use Rattle.group_eras.proofs.Following.{IsSame, run-first}
use Rattle.group_eras.proofs.Making.{may-in}
use Rattle.group_eras.proofs.Naming.{logged-turn}
use Rattle.group_eras.proofs.Promises.{move-stands}
use Rattle.group_eras.proofs.Readings.{IsLoad, are-loads, parcel_for}
use Rattle.group_eras.proofs.Resting.{IsGet, IsStill, Rests}
use Rattle.group_eras.proofs.SetAll.{IsPlain}
use Rattle.group_eras.proofs.Standing.{Stands, stands-first}

-- an act that brings an exptime brings a low one, at a low moment
abbrev pub IsLowAct : ℕ → Act → Type 0
IsLowAct t (Set _ _ expiry _) = (t ≤ 2 ^ 62) × IsLow expiry
IsLowAct t (Add _ _ expiry _) = (t ≤ 2 ^ 62) × IsLow expiry
IsLowAct t (Replace _ _ expiry _) = (t ≤ 2 ^ 62) × IsLow expiry
IsLowAct t (Cas _ _ expiry _ _) = (t ≤ 2 ^ 62) × IsLow expiry
IsLowAct t (Touch _ expiry) = (t ≤ 2 ^ 62) × IsLow expiry
IsLowAct t _ = Unit {0}

abbrev pub IsLowEvent : Event → Type 0
IsLowEvent (Ask caller op p) = IsLowAct op.moment op.act
IsLowEvent _ = Unit {0}

act-low : (t : ℕ) (act : Act) → t ≤ 2 ^ 62 → HasLowExpiry act → IsLowAct t act
act-low t (Get key) low has = tt
act-low t (Set key flags expiry value) low has = (low, has)
act-low t (Add key flags expiry value) low has = (low, has)
act-low t (Replace key flags expiry value) low has = (low, has)
act-low t (Cas key flags expiry cas value) low has = (low, has)
act-low t (Delete key) low has = tt
act-low t (Touch key expiry) low has = (low, has)
act-low t (Append key value) low has = tt
act-low t (Prepend key value) low has = tt
act-low t (Incr key by) low has = tt
act-low t (Decr key by) low has = tt

event-low : (e : Event) → IsInRange e → IsLowEvent e
event-low (Ask caller op p) range = act-low op.moment op.act range.moment range.expiry
event-low (Collect caller call p) range = tt
event-low (Deliver from to) range = tt
event-low (Fail p keep) range = tt
event-low (Flush p) range = tt
event-low (Trace caller call d p) range = tt

cas-low : (f : ℕ → ℕ) (t : ℕ) (act : Act) → IsLowAct t act → IsLowAct t (with_cas f act)
cas-low f t (Get key) low = low
cas-low f t (Set key flags expiry value) low = low
cas-low f t (Add key flags expiry value) low = low
cas-low f t (Replace key flags expiry value) low = low
cas-low f t (Cas key flags expiry cas value) low = low
cas-low f t (Delete key) low = low
cas-low f t (Touch key expiry) low = low
cas-low f t (Append key value) low = low
cas-low f t (Prepend key value) low = low
cas-low f t (Incr key by) low = low
cas-low f t (Decr key by) low = low

in-low : (bases : Bases) (k : ℕ) (e : Event) → IsLowEvent e → IsLowEvent (event_in bases k e)
in-low bases k (Ask caller op p) low = cas-low _ op.moment op.act low
in-low bases k (Collect caller call p) low = tt
in-low bases k (Deliver from to) low = tt
in-low bases k (Fail p keep) low = tt
in-low bases k (Flush p) low = tt
in-low bases k (Trace caller call d p) low = tt

get-low : (t : ℕ) (act : Act) → IsGet act → IsLowAct t act
get-low t (Get key) is = tt
get-low t (Set key flags expiry value) is = absurd is
get-low t (Add key flags expiry value) is = absurd is
get-low t (Replace key flags expiry value) is = absurd is
get-low t (Cas key flags expiry cas value) is = absurd is
get-low t (Delete key) is = absurd is
get-low t (Touch key expiry) is = absurd is
get-low t (Append key value) is = absurd is
get-low t (Prepend key value) is = absurd is
get-low t (Incr key by) is = absurd is
get-low t (Decr key by) is = absurd is

still-low : (e : Event) → IsStill e → IsLowEvent e
still-low (Ask caller op p) still = get-low op.moment op.act still
still-low (Deliver from to) still = tt
still-low (Collect caller call p) still = tt
still-low (Fail p keep) still = tt
still-low (Flush p) still = tt
still-low (Trace caller call d p) still = tt

-- the until that an exptime asks for
until-low : (expiry : ℤ) (t : ℕ) → t ≤ 2 ^ 62 → IsLow expiry → IsLowUntil (until_of expiry t)
until-low (negsuc n) t low is = omega arith
until-low (pos n) t low is = by (n == 0) (nat_le n longest_offset) refl where
  by : (a b : Bool) → nat_le n longest_offset ≡ b → IsLowUntil (if a then None else (if b then Some (t + n) else Some n))
  by true b test = tt
  by false true test = let few : n ≤ longest_offset = grind (arith, common_steps) in omega (arith, few, low)
  by false false test = is

abbrev HeldLow : Option Holding → Type 0
HeldLow None = Unit {0}
HeldLow (Some h) = IsLowUntil h.until

abbrev LeavesLow : Ruling → Type 0
LeavesLow (Refused reply) = Unit {0}
LeavesLow (Accepted reply left) = HeldLow left

joined-low : (n : ℕ) (h : Holding) (value : List ℕ) → IsLowUntil h.until → LeavesLow (joined n h value)
joined-low n h value low = by (nat_le (length value) longest_value) where
  by : (b : Bool)
      → LeavesLow (if b then Accepted reply.Stored
      (Some (record { item = record { flags = h.item.flags; cas = n; value = value }; until = h.until })) else Refused
      reply.TooLarge)
  by true = low
  by false = tt

raised-low : (n : ℕ) (h : Holding) (by : ℕ) (o : Option ℕ) → IsLowUntil h.until → LeavesLow (raised n h by o)
raised-low n h by None low = tt
raised-low n h by (Some v) low = low

lowered-low : (n : ℕ) (h : Holding) (by : ℕ) (o : Option ℕ) → IsLowUntil h.until → LeavesLow (lowered n h by o)
lowered-low n h by None low = tt
lowered-low n h by (Some v) low = low

ruling-low : (t n : ℕ) (act : Act) (y : Option Holding) → IsLowAct t act → HeldLow y → LeavesLow (ruling_of t n act y)
ruling-low t n (Get key) None low held = tt
ruling-low t n (Get key) (Some h) low held = tt
ruling-low t n (Set key flags expiry value) y low held = until-low expiry t low.0 low.1
ruling-low t n (Add key flags expiry value) None low held = until-low expiry t low.0 low.1
ruling-low t n (Add key flags expiry value) (Some h) low held = tt
ruling-low t n (Replace key flags expiry value) None low held = tt
ruling-low t n (Replace key flags expiry value) (Some h) low held = until-low expiry t low.0 low.1
ruling-low t n (Cas key flags expiry cas value) None low held = tt
ruling-low t n (Cas key flags expiry cas value) (Some h) low held = by (h.item.cas == cas) where
  by : (b : Bool) → LeavesLow (if b then ruling_of t n (Set key flags expiry value) None else Refused reply.Exists)
  by true = until-low expiry t low.0 low.1
  by false = tt
ruling-low t n (Delete key) None low held = tt
ruling-low t n (Delete key) (Some h) low held = tt
ruling-low t n (Touch key expiry) None low held = tt
ruling-low t n (Touch key expiry) (Some h) low held = until-low expiry t low.0 low.1
ruling-low t n (Append key value) None low held = tt
ruling-low t n (Append key value) (Some h) low held = joined-low n h (h.item.value ++ value) held
ruling-low t n (Prepend key value) None low held = tt
ruling-low t n (Prepend key value) (Some h) low held = joined-low n h (value ++ h.item.value) held
ruling-low t n (Incr key by) None low held = tt
ruling-low t n (Incr key by) (Some h) low held = raised-low n h by (number_of h.item.value) held
ruling-low t n (Decr key by) None low held = tt
ruling-low t n (Decr key by) (Some h) low held = lowered-low n h by (number_of h.item.value) held

live-low : (t : ℕ) (y : Option Holding) → HeldLow y → HeldLow (live_at t y)
live-low t None low = tt
live-low t (Some h) low = by (is_live t h.until) where
  by : (b : Bool) → HeldLow (if b then Some h else None)
  by true = low
  by false = tt

table-low : (t : Contents) (log : List Entry) → ((key : List ℕ) → HeldLow (t.items key))
    → Each (λ e. IsLowAct e.op.moment e.op.act) log → (key : List ℕ) → HeldLow ((table_of t log).items key)
table-low t [] all ops key = all key
table-low t (e ∷ es) all ops key = table-low (table_after t e.op) es (λ other. next other) es-ops key where
  es-ops : Each (λ x. IsLowAct x.op.moment x.op.act) es
  es-ops = ops.1

  next : (other : List ℕ) → HeldLow ((table_after t e.op).items other)
  next other = by (ruling_on t e.op) (ruling-low e.op.moment (count_of t (key_of e.op.act) + 1) e.op.act
      (live_at e.op.moment (t.items (key_of e.op.act))) ops.0
      (live-low e.op.moment (t.items (key_of e.op.act)) (all (key_of e.op.act)))) where
        choose : (b : Bool) (left : Option Holding) → HeldLow left → HeldLow (if b then left else t.items other)
        choose true left low = low
        choose false left low = all other

        by : (r : Ruling) → LeavesLow r → HeldLow ((after_ruling t (key_of e.op.act) r).items other)
        by (Refused reply) low = all other
        by (Accepted reply left) low = choose (same_key (key_of e.op.act) other) left low

-- an era whose events ask for nothing else
pub record Ranged (e : Eras) : Type 0 where
  pub events : List Event
  pub run : IsRun e.world.shape events
  pub stands : e.world ≡ after e.world.shape events
  pub low : Each IsLowEvent events

module _ (s : Dimensions) (es : List Event) (run : IsRun s es) (low : Each IsLowEvent es) where
  entry-low : (entry : Entry) → Contains (after s es).log entry → IsLowAct entry.op.moment entry.op.act
  entry-low entry there =
      let h = headline_always s es run in
      let found = logged-turn (turns_of s es) entry (subst (λ (log : List Entry). Contains log entry) h.one_log.kept there) in
      let ask = h.one_log.within.asked found.0 found.1 entry found.2 found.3 in
      let event : slice_get es ask.0 ≡ Some (Ask entry.caller entry.op ask.3.at) = turn-event (opening s) es ask.0 ask.1 ask.3.there ∙ ap Some ask.3.event in
      each-contained IsLowEvent es (Ask entry.caller entry.op ask.3.at) low (get-contained es ask.0 (Ask entry.caller entry.op ask.3.at) event)

  items-low : (key : List ℕ) → HeldLow ((table_of (empty_table s.k) (after s es).log).items key)
  items-low = table-low (empty_table s.k) (after s es).log (λ key. tt) (every (after s es).log (λ y there. there)) where
    every : (ys : List Entry) → ((y : Entry) → Contains ys y → Contains (after s es).log y) → Each (λ y. IsLowAct y.op.moment y.op.act) ys
    every [] within = tt
    every (y ∷ ys) within = (
      entry-low y (within y (0, omega arith, refl)),
      every ys (λ z there. within z (suc there.0, (let less = there.1 in omega (arith, less)), there.2)),
    )

low-loads : (e : Eras) → Ranged e → IsAtRest e.world → Each (λ x. IsLowUntil x.slot.until) (loads e.world)
low-loads e ranged rest =
    let s : Dimensions = e.world.shape in
    let es : List Event = ranged.events in
    let rests : Rests e.world.shape ranged.events =
    record {
      run = ranged.run;
      drained = subst IsDrained ranged.stands rest.drained;
      up = λ down. rest.up (subst IsDown (sym ranged.stands) down);
    } in
    subst (λ (v : World). Each (λ x. IsLowUntil x.slot.until) (loads v)) (sym ranged.stands)
    (each-weaker (IsLoad s (after s es)) (λ x. IsLowUntil x.slot.until)
    (λ x load. subst HeldLow (finding.in-table s es rests x.partition load.below (x.key, x.slot) load.there).there (items-low s es ranged.run ranged.low x.key))
    (loads (after s es)) (are-loads s (after s es) (shape-after (opening s) es)))

ranged-next : (e : Eras) → Ranged e → (event : Event) → MayCome e.world event → IsLowEvent event → Ranged (era_step e event).eras
ranged-next e ranged event may low =
    let came : Event = event_in e.bases e.world.shape.k event in
    record {
      events = ranged.events ++ came ∷ [];
      run = (
        ranged.run.0,
        run-more (opening e.world.shape) ranged.events came ranged.run.1
            (subst (λ (w : World). MayCome w came) ranged.stands (may-in e.bases e.world.shape.k e.world event may)),
      );
      stands = ap (λ (w : World). (step w came).world) ranged.stands ∙ sym (after-more (opening e.world.shape) ranged.events came);
      low = each-append IsLowEvent ranged.events (came ∷ []) ranged.low (in-low e.bases e.world.shape.k event low, tt);
    }

ranged-along : (e : Eras) → Ranged e → (events : List Event) → Each IsSame events → IsRunFrom e.world events
    → Each IsLowEvent events → Ranged (eras_after e events)
ranged-along e ranged [] same run low = ranged
ranged-along e ranged (x ∷ xs) same run low =
    ranged-along (era_step e x).eras (ranged-next e ranged x run.0 low.0) xs same.1
    (subst (λ (y : Event). IsRunFrom (step e.world y).world xs) (sym (same.0 e.bases e.world.shape.k)) run.1) low.1

expiry-low : (until : Option ℕ) → IsLowUntil until → IsLow (expiry_of until)
expiry-low None low = omega arith
expiry-low (Some u) low = low

plain-low : (all : List Parcel) → Each (λ x. IsLowUntil x.until) all → (e : Event) → IsPlain all e → IsLowEvent e
plain-low all low (Ask caller op p) plain = subst (λ (o : Asked). IsLowAct o.moment o.act) (sym plain.2)
    (omega arith, expiry-low plain.0.until (each-contained (λ x. IsLowUntil x.until) all plain.0 low plain.1))
plain-low all low (Deliver from to) plain = tt
plain-low all low (Collect caller call p) plain = absurd plain
plain-low all low (Fail p keep) plain = absurd plain
plain-low all low (Flush p) plain = absurd plain
plain-low all low (Trace caller call d p) plain = absurd plain

module _ (e : Eras) (stands : Stands e) (ranged : Ranged e) (rest : IsAtRest e.world) where
  reads-low : Each IsLowEvent (reading e.world).events
  reads-low = each-weaker IsStill IsLowEvent still-low (reading e.world).events (carrying.still e stands rest)

  begun-ranged : (many : ℕ) → Ranged (begun e many)
  begun-ranged many = ranged-along e ranged (take many (reading e.world).events) (each-take IsSame many (reading e.world).events (carrying.same e stands rest))
      (run-first many e.world (reading e.world).events (carrying.run-read e stands rest)) (each-take IsLowEvent many (reading e.world).events reads-low)

  parcels-low : Each (λ x. IsLowUntil x.until) (carrying.parcels e stands rest)
  parcels-low = each-map (λ (x : Parcel). IsLowUntil x.until)
      (parcel_for e.world.shape stands.era.events (carrying.rests e stands rest))
      (loads (after e.world.shape stands.era.events))
      (subst (λ (v : World). Each (λ x. IsLowUntil x.slot.until) (loads v)) (carrying.world e stands rest) (low-loads e ranged rest))

  carried-ranged : (s : Dimensions) (successor : IsSuccessor e.world s) (can : CanCarry e.world s) → Ranged (carried e s)
  carried-ranged s successor can =
      let shape : (carried e s).world.shape ≡ s = carrying.shape3 e stands rest s successor can in
      let sets : List Event = setting (opening s) (carrying.parcels e stands rest) in
      record {
        events = sets;
        run = subst (λ (t : Dimensions). IsRun t (setting (opening s) (carrying.parcels e stands rest))) (sym shape)
            (carrying.setup e stands rest s successor can).rests.run;
        stands = carrying.world3 e stands rest s successor can
            ∙ ap (λ (t : Dimensions). after t (setting (opening s) (carrying.parcels e stands rest))) (sym shape);
        low = each-weaker (IsPlain (carrying.parcels e stands rest)) IsLowEvent
            (plain-low (carrying.parcels e stands rest) parcels-low) sets
            (carrying.all-set e stands rest s successor can).plain;
      }

move-ranged : (e : Eras) (move : EraMove) → Stands e → Ranged e → MayBeDone e move → Ranged (done e move)
move-ranged e (Makes event) stands ranged may = ranged-next e ranged event may.may (event-low event may.range)
move-ranged e (Carries s) stands ranged may = carried-ranged e stands ranged may.1.rest s may.0 may.1
move-ranged e (Begins many) stands ranged may = begun-ranged e stands ranged may many

all-ranged : (e : Eras) (moves : List EraMove) → Stands e → Ranged e → MayAllBeDone e moves → Ranged (all_done e moves)
all-ranged e [] stands ranged may = ranged
all-ranged e (move ∷ moves) stands ranged may = all-ranged (done e move) moves (move-stands e move stands may.0) (move-ranged e move stands ranged may.0) may.1

first-ranged : (s : Dimensions) → IsShape s → Ranged (first_era (opening s))
first-ranged s shaped = record { events = []; run = (shaped, tt); stands = refl; low = tt }

pub untils_are_low : UntilsAreLow
untils_are_low e led rest =
    low-loads e (subst Ranged (sym led.is)
    (all-ranged (first_era (opening led.s)) led.moves (stands-first led.s led.limits) (first-ranged led.s led.limits)
    led.may)) rest
