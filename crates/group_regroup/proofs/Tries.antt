-- How an item is read: the get, and where a block has to be rebuilt first a drain and the get again.
use Rattle.std.proofs.Common.{◌≡◌, ℕ, zero, suc, ◌+◌, ◌-◌, ◌≤◌, ◌<◌, Bool, true, false, if◌then◌else◌, List, [], ◌∷◌}
use Rattle.std.proofs.Common.{◌++◌, length, take, drop, Option, Some, None, is_some, refl, sym, ap, subst, ◌∙◌}
use Rattle.std.proofs.Common.{append_assoc, append-nil, arith}
use mathlib.Core.Bool.{false≢true}
use Rattle.std.specs.List.{range_with_len}
use Rattle.std.specs.Option.{unwrap_or}
use Rattle.std.proofs.lemmas.Option.{none-some}
use Rattle.group_types.specs.Dimensions.{Dimensions}
use Rattle.group_types.specs.Names.{IsProcess, of_rank}
use Rattle.group_types.specs.declared.process.ProcessId.TheVariants.{DataNode, ParityNode}
use Rattle.memc_table.specs.declared.reply.Reply.TheVariants as reply
use Rattle.group_calls.specs.declared.event.Answer.{Answer}
use Rattle.group_calls.specs.declared.event.Answer.TheVariants as says
use Rattle.group_calls.specs.declared.event.Event.{Event}
use Rattle.group_calls.specs.declared.event.Event.TheVariants.{Ask}
use Rattle.group_run.specs.Causes.{IsFailure}
use Rattle.group_run.specs.Headline.{MayCome}
use Rattle.group_run.specs.Meaning.{IsDown, is_dead}
use Rattle.group_run.specs.World.{World, WorldStep, step, world_after}
use Rattle.group_eras.specs.Carry.{Getting, bytes_got, drained, draining, get_with, got_behind, is_retry, only_got}
use Rattle.group_eras.specs.Items.{first_living, head_of}
use Rattle.group_eras.proofs.Draining.{up-still}
use Rattle.scenario_run.proofs.Leading.{keeps-shape}
use Rattle.group_regroup.specs.Parts.{MayAsk, IsPart}
use Rattle.group_regroup.specs.Reading.{IsValueFound, tried, value_found}
use Rattle.group_regroup.proofs.Draining.{after-push, take-front}

pub ask-up : (w v : World) (e : Event) → MayAsk w e → ¬ (IsDown w) → v ≡ (step w e).world → ¬ (IsDown v)
ask-up w v e ask up is = subst (λ (u : World). ¬ (IsDown u)) (sym is) (up-still w e (λ fails. by e ask.is fails) up) where
  by : (e : Event) → e ≡ Ask ask.caller ask.op ask.at → IsFailure e → ⊥
  by e is fails = subst IsFailure is fails

pub ask-later : (w v : World) (e : Event) → MayAsk w e → v.shape ≡ w.shape → MayAsk v e
ask-later w v e ask same = record {
  caller = ask.caller;
  op = ask.op;
  at = ask.at;
  is = ask.is;
  may = subst (MayCome v) (sym ask.is) (by (subst (MayCome w) ask.is ask.may));
} where
  by : MayCome w (Ask ask.caller ask.op ask.at) → MayCome v (Ask ask.caller ask.op ask.at)
  by (low, pin, bytes) = (low, subst (λ (s : Dimensions). IsProcess s ask.at) (sym same) pin, bytes)

-- the ranks of a partition, one after the other
module _ (w : World) (d : ℕ) where
  pub ranks-first : is_dead w (DataNode d) ≡ true → head_of w d ≡ of_rank d (first_living w d (range_with_len 1 (w.shape.m - 0)))
  ranks-first dead =
      let all : w.shape.m ≡ w.shape.m - 0 = omega arith in
      ap (λ (b : Bool). of_rank d (if b then first_living w d (range_with_len 1 w.shape.m) else 0)) dead
      ∙ ap (λ (n : ℕ). of_rank d (first_living w d (range_with_len 1 n))) all

  one-more : (i n : ℕ) → n ≡ suc (w.shape.m - suc i) → first_living w d (range_with_len (suc i) n)
      ≡ (if is_dead w (ParityNode i) then first_living w d (range_with_len (suc (suc i)) (w.shape.m - suc i)) else suc
      i)
  one-more i zero is = absurd (cc is)
  one-more i (suc n) is =
      let same : n ≡ w.shape.m - suc i = omega (arith, is) in
      let next : suc i + 1 ≡ suc (suc i) = omega arith in
      ap (λ (j : ℕ). if is_dead w (ParityNode i) then first_living w d (range_with_len j n) else suc i) next
      ∙ ap (λ (n : ℕ). if is_dead w (ParityNode i) then first_living w d (range_with_len (suc (suc i)) n) else suc i) same

  module _ (i : ℕ) (low : i < w.shape.m) (so-far : head_of w d ≡ of_rank d (first_living w d (range_with_len (suc i) (w.shape.m - i)))) where
    more : w.shape.m - i ≡ suc (w.shape.m - suc i)
    more = omega (arith, low)

    pub ranks-here : is_dead w (ParityNode i) ≡ false → head_of w d ≡ ParityNode i
    ranks-here lives = so-far
        ∙ ap (of_rank d) (one-more i (w.shape.m - i) more
        ∙ ap (λ (b : Bool). if b then first_living w d (range_with_len (suc (suc i)) (w.shape.m - suc i)) else suc i)
        lives)

    pub ranks-next : is_dead w (ParityNode i) ≡ true → head_of w d ≡ of_rank d (first_living w d (range_with_len (suc (suc i)) (w.shape.m - suc i)))
    ranks-next dead = so-far
        ∙ ap (of_rank d) (one-more i (w.shape.m - i) more
        ∙ ap (λ (b : Bool). if b then first_living w d (range_with_len (suc (suc i)) (w.shape.m - suc i)) else suc i)
        dead)

  pub ranks-none : (i : ℕ) → w.shape.m ≤ i → head_of w d ≡ of_rank d (first_living w d (range_with_len (suc i) (w.shape.m - i))) → head_of w d ≡ DataNode d
  ranks-none i high so-far = let none : w.shape.m - i ≡ 0 = omega (arith, high) in
      so-far ∙ ap (λ (n : ℕ). of_rank d (first_living w d (range_with_len (suc i) n))) none

pub after-append : (w : World) (es fs : List Event) → world_after w (es ++ fs) ≡ world_after (world_after w es) fs
after-append w [] fs = refl
after-append w (e ∷ es) fs = after-append (step w e).world es fs

-- the first of some events are the first of more
front-take : {X : Type 0} (xs ys : List X) (m : ℕ) → (n : ℕ) × (take n (xs ++ ys) ≡ take m xs)
front-take [] ys zero = (0, refl)
front-take [] ys (suc m) = (0, refl)
front-take (x ∷ xs) ys zero = (0, refl)
front-take {X} (x ∷ xs) ys (suc m) = let (n, is) = front-take xs ys m in (suc n, ap (λ (zs : List X). x ∷ zs) is)

pub part-front : (w v : World) (es fs : List Event) → IsPart w es v → IsPart w (es ++ fs) v
part-front w v es fs (many, is) = let (n, same) = front-take es fs many in (n, is ∙ ap (world_after w) (sym same))

back-take : {X : Type 0} (xs ys : List X) (m : ℕ) → take (length xs + m) (xs ++ ys) ≡ xs ++ take m ys
back-take [] ys m = let same : 0 + m ≡ m = omega arith in ap (λ (n : ℕ). take n ys) same
back-take {X} (x ∷ xs) ys m = let same : suc (length xs) + m ≡ suc (length xs + m) = omega arith in
    ap (λ (n : ℕ). take n (x ∷ xs ++ ys)) same ∙ ap (λ (zs : List X). x ∷ zs) (back-take xs ys m)

pub part-back : (w u v : World) (es fs : List Event) → u ≡ world_after w es → IsPart u fs v → IsPart w (es ++ fs) v
part-back w u v es fs led (many, is) = (
  length es + many,
  is ∙ ap (λ (x : World). world_after x (take many fs)) led
      ∙ sym (after-append w es (take many fs)) ∙ ap (world_after w) (sym (back-take es fs many)),
)

pub part-whole : (w v : World) (es : List Event) → v ≡ world_after w es → IsPart w es v
part-whole w v es is = (length es, is ∙ ap (world_after w) (sym (whole es))) where
  whole : (es : List Event) → take (length es) es ≡ es
  whole es = sym (ap (take (length es)) (append-nil es)) ∙ take-front es []

-- a get was made so often, and this is what the last found
pub record Trying (w : World) (get : Event) (v : World) (value : Option (List ℕ)) (tries : ℕ) : Type 0 where
  pub ask : MayAsk v get
  pub up : ¬ (IsDown v)
  pub before : List Event
  pub last : WorldStep
  pub world : v ≡ last.world
  pub found : IsValueFound last.turn.answer value
  pub after : v ≡ world_after w (before ++ get ∷ [])
  pub whole : tried w get ≡ got_behind before (get_with tries get last)

pub Trying-first : (w v : World) (get : Event) (value : Option (List ℕ)) → MayAsk w get → ¬ (IsDown v)
    → v ≡ (step w get).world → IsValueFound (step w get).turn.answer value → Trying w get v value w.shape.blocks
Trying-first w v get value ask up is found = record {
  ask = ask-later w v get ask (ap (λ (x : World). x.shape) is);
  up = up;
  before = [];
  last = step w get;
  world = is;
  found = found;
  after = is;
  whole = refl;
}

module _ (w v : World) (get : Event) (value : Option (List ℕ)) (tries : ℕ) (t : Trying w get v value tries) where
  events-are : (g : Getting) → tried w get ≡ got_behind t.before g → (tried w get).events ≡ t.before ++ g.events
  events-are g is = ap (λ (x : Getting). x.events) is

  retries : value ≡ None → is_retry t.last.turn.answer ≡ true
  retries none = t.found.again none

  rest-of : (n : ℕ) → tries ≡ suc n → value ≡ None → get_with tries get t.last ≡ got_behind (get ∷ draining v) (get_with n get (step (drained v) get))
  rest-of n more none =
      ap (λ (k : ℕ). get_with k get t.last) more
      ∙ ap (λ (b : Bool). if b then got_behind (get ∷ draining t.last.world)
      (get_with n get (step (drained t.last.world) get)) else only_got get t.last) (retries none)
      ∙ ap (λ (u : World). got_behind (get ∷ draining u) (get_with n get (step (drained u) get))) (sym t.world)

  -- the events up to now, and up to the next get
  pub Trying-part : IsPart w (tried w get).events v
  Trying-part = subst (λ (es : List Event). IsPart w es v) (sym (ap (λ (x : Getting). x.events) t.whole ∙ front tries t.last))
      (part-front w v (t.before ++ get ∷ []) (behind tries t.last) (part-whole w v (t.before ++ get ∷ []) t.after)) where
        behind : ℕ → WorldStep → List Event
        behind n s = drop 1 (get_with n get s).events

        begins : (n : ℕ) (s : WorldStep) → (get_with n get s).events ≡ get ∷ drop 1 (get_with n get s).events
        begins zero s = refl
        begins (suc n) s = by (is_retry s.turn.answer) where
          by : (b : Bool) → (if b then got_behind (get ∷ draining s.world) (get_with n get (step (drained s.world) get)) else only_got get s).events
              ≡ get ∷ drop 1 (if b then got_behind (get ∷ draining s.world) (get_with n get (step (drained s.world) get)) else only_got get s).events
          by true = refl
          by false = refl

        front : (n : ℕ) (s : WorldStep) → (got_behind t.before (get_with n get s)).events ≡ (t.before ++ get ∷ []) ++ drop 1 (get_with n get s).events
        front n s = ap (λ (es : List Event). t.before ++ es) (begins n s) ∙ sym (append_assoc t.before (get ∷ []) (drop 1 (get_with n get s).events))

  module _ (n : ℕ) (more : tries ≡ suc n) (none : value ≡ None) where
    now : List Event
    now = t.before ++ get ∷ draining v

    whole-next : tried w get ≡ got_behind (t.before ++ get ∷ draining v) (get_with n get (step (drained v) get))
    whole-next = t.whole ∙ ap (got_behind t.before) (rest-of n more none) ∙ joined (get_with n get (step (drained v) get)) where
      joined : (g : Getting) → got_behind t.before (got_behind (get ∷ draining v) g) ≡ got_behind (t.before ++ get ∷ draining v) g
      joined g = ap (λ (es : List Event). record { events = es; world = g.world; answer = g.answer }) (sym (append_assoc t.before (get ∷ draining v) g.events))

    split : t.before ++ get ∷ draining v ≡ (t.before ++ get ∷ []) ++ draining v
    split = sym (append_assoc t.before (get ∷ []) (draining v))

    led-now : drained v ≡ world_after w (t.before ++ get ∷ draining v)
    led-now = ap (λ (u : World). world_after u (draining v)) t.after ∙ sym (after-append w (t.before ++ get ∷ []) (draining v)) ∙ ap (world_after w) (sym split)

    -- want of memory in the drain
    pub drain-part : (u : World) → IsPart v (draining v) u → IsPart w (tried w get).events u
    drain-part u part = subst (λ (es : List Event). IsPart w es u)
        (sym (ap (λ (x : Getting). x.events) whole-next
        ∙ ap (λ (es : List Event). es ++ (get_with n get (step (drained v) get)).events) split))
        (part-front w u ((t.before ++ get ∷ []) ++ draining v) (get_with n get (step (drained v) get)).events
        (part-back w v u (t.before ++ get ∷ []) (draining v) t.after part))

    -- and in the next get
    pub again-part : (u : World) → IsPart (drained v) (get ∷ []) u → IsPart w (tried w get).events u
    again-part u part = subst (λ (es : List Event). IsPart w es u) (sym (ap (λ (x : Getting). x.events) whole-next ∙ begins-next))
        (part-front w u ((t.before ++ get ∷ draining v) ++ get ∷ [])
        (drop 1 (get_with n get (step (drained v) get)).events)
        (part-back w (drained v) u (t.before ++ get ∷ draining v) (get ∷ []) led-now part)) where
          begins : (n : ℕ) (s : WorldStep) → (get_with n get s).events ≡ get ∷ drop 1 (get_with n get s).events
          begins zero s = refl
          begins (suc n) s = by (is_retry s.turn.answer) where
            by : (b : Bool) → (if b then got_behind (get ∷ draining s.world) (get_with n get (step (drained s.world) get)) else only_got get s).events
                ≡ get ∷ drop 1 (if b then got_behind (get ∷ draining s.world) (get_with n get (step (drained s.world) get)) else only_got get s).events
            by true = refl
            by false = refl

          begins-next : (t.before ++ get ∷ draining v) ++ (get_with n get (step (drained v) get)).events
              ≡ ((t.before ++ get ∷ draining v) ++ get ∷ []) ++ drop 1 (get_with n get (step (drained v) get)).events
          begins-next = ap (λ (es : List Event). (t.before ++ get ∷ draining v) ++ es) (begins n (step (drained v) get))
              ∙ sym (append_assoc (t.before ++ get ∷ draining v) (get ∷ []) _)

    pub Trying-next : (u x : World) (found : Option (List ℕ)) → u ≡ drained v → ¬ (IsDown x) → x ≡ (step u get).world
        → IsValueFound (step u get).turn.answer found → Trying w get x found n
    Trying-next u x found drained_is up is found_is = record {
      ask = ask-later v x get t.ask (ap (λ (y : World). y.shape) (is ∙ ap (λ (y : World). (step y get).world) drained_is) ∙ keeps-shape v (draining v));
      up = up;
      before = t.before ++ get ∷ draining v;
      last = step (drained v) get;
      world = is ∙ ap (λ (y : World). (step y get).world) drained_is;
      found = subst (λ (y : World). IsValueFound (step y get).turn.answer found) drained_is found_is;
      after = is ∙ ap (λ (y : World). (step y get).world) (drained_is ∙ led-now) ∙ sym (after-push w (t.before ++ get ∷ draining v) get);
      whole = whole-next;
    }

  -- the value was found
  ends : (n : ℕ) (s : WorldStep) → is_retry s.turn.answer ≡ false → get_with n get s ≡ only_got get s
  ends zero s is = refl
  ends (suc n) s is = ap (λ (b : Bool). if b then got_behind (get ∷ draining s.world) (get_with n get (step (drained s.world) get)) else only_got get s) is

  found-some : (x : List ℕ) (a : Answer) → Some x ≡ value_found a → (is_retry a ≡ false) × (x ≡ bytes_got a)
  found-some x (says.Reply (reply.Value item)) is = (refl, ap (λ (o : Option (List ℕ)). unwrap_or o x) is)
  found-some x (says.Reply reply.Miss) is = absurd (none-some x (sym is))
  found-some x (says.Reply reply.Stored) is = absurd (none-some x (sym is))
  found-some x (says.Reply reply.NotStored) is = absurd (none-some x (sym is))
  found-some x (says.Reply reply.Exists) is = absurd (none-some x (sym is))
  found-some x (says.Reply reply.NotFound) is = absurd (none-some x (sym is))
  found-some x (says.Reply reply.Deleted) is = absurd (none-some x (sym is))
  found-some x (says.Reply reply.Touched) is = absurd (none-some x (sym is))
  found-some x (says.Reply (reply.Number k)) is = absurd (none-some x (sym is))
  found-some x (says.Reply reply.NotNumber) is = absurd (none-some x (sym is))
  found-some x (says.Reply reply.TooLarge) is = absurd (none-some x (sym is))
  found-some x (says.Ticket k) is = absurd (none-some x (sym is))
  found-some x says.NotYet is = absurd (none-some x (sym is))
  found-some x says.NoSpace is = absurd (none-some x (sym is))
  found-some x (says.Retry k) is = absurd (none-some x (sym is))
  found-some x says.Moved is = absurd (none-some x (sym is))
  found-some x says.Lost is = absurd (none-some x (sym is))
  found-some x says.Down is = absurd (none-some x (sym is))
  found-some x says.Idle is = absurd (none-some x (sym is))
  found-some x says.Stranger is = absurd (none-some x (sym is))
  found-some x says.Done is = absurd (none-some x (sym is))
  found-some x says.AlreadyDead is = absurd (none-some x (sym is))
  found-some x says.Gone is = absurd (none-some x (sym is))
  found-some x (says.Stale k) is = absurd (none-some x (sym is))

  module _ (x : List ℕ) (some : value ≡ Some x) where
    last-is : (is_retry t.last.turn.answer ≡ false) × (x ≡ bytes_got t.last.turn.answer)
    last-is = found-some x t.last.turn.answer (sym some ∙ t.found.value_is)

    whole-is : tried w get ≡ got_behind t.before (only_got get t.last)
    whole-is = t.whole ∙ ap (got_behind t.before) (ends tries t.last last-is.0)

    pub got-world : v ≡ (tried w get).world
    got-world = t.world ∙ sym (ap (λ (g : Getting). g.world) whole-is)

    pub got-value : x ≡ bytes_got (tried w get).answer
    got-value = last-is.1 ∙ sym (ap (λ (g : Getting). bytes_got g.answer) whole-is)

pub none-of : {X : Type 0} (o : Option X) → is_some o ≡ false → o ≡ None
none-of None is = refl
none-of (Some x) is = absurd (false≢true (sym is))

-- want of memory in the first get
pub first-part : (w v : World) (get : Event) → IsPart w (get ∷ []) v → IsPart w (tried w get).events v
first-part w v get part = subst (λ (es : List Event). IsPart w es v) (sym (begins w.shape.blocks (step w get)))
    (part-front w v (get ∷ []) (drop 1 (tried w get).events) part) where
      begins : (n : ℕ) (s : WorldStep) → (get_with n get s).events ≡ get ∷ drop 1 (get_with n get s).events
      begins zero s = refl
      begins (suc n) s = by (is_retry s.turn.answer) where
        by : (b : Bool) → (if b then got_behind (get ∷ draining s.world) (get_with n get (step (drained s.world) get)) else only_got get s).events
            ≡ get ∷ drop 1 (if b then got_behind (get ∷ draining s.world) (get_with n get (step (drained s.world) get)) else only_got get s).events
        by true = refl
        by false = refl
