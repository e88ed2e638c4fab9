-- Events of a run and its turns, place by place, and events as they were asked of eras.
use Rattle.std.proofs.Common.{ℕ, zero, suc, ◌≡◌, ◌<◌, ◌+◌, List, [], ◌∷◌, ◌++◌, length, map, take, Some, refl, sym, ap, ◌∙◌, arith}
use Rattle.std.specs.Prelude.{slice_get}
use Rattle.group_types.specs.declared.process.ProcessId.{ProcessId}
use Rattle.memc_table.specs.Asked.{Asked}
use Rattle.group_calls.specs.Turns.{Turn, asks_in, asks_of}
use Rattle.group_calls.specs.declared.event.Event.{Event}
use Rattle.group_calls.specs.declared.event.Event.TheVariants.{Ask, Collect, Deliver, Fail, Flush, Trace}
use Rattle.group_run.specs.Headline.{IsRunFrom}
use Rattle.group_run.specs.World.{World, step, turns_from, world_after}
use Rattle.law_moves.proofs.Reading.{some-same}
use Rattle.law_log.proofs.Turnings.{asks-self}
use Rattle.group_run.specs.Causes.{asks_among}
use Rattle.group_eras.specs.Told.{Bases, event_in, op_for_era}

pub turns-long : (w : World) (es : List Event) → length (turns_from w es) ≡ length es
turns-long w [] = refl
turns-long w (e ∷ es) = ap suc (turns-long (step w e).world es)

-- the event of a turn
pub turn-event : (w : World) (es : List Event) (j : ℕ) (turn : Turn) → slice_get (turns_from w es) j ≡ Some turn → slice_get es j ≡ Some turn.event
turn-event w [] j turn is = absurd (cc is)
turn-event w (e ∷ es) zero turn is = ap (λ (t : Turn). Some t.event) (some-same (step w e).turn turn is)
turn-event w (e ∷ es) (suc j) turn is = turn-event (step w e).world es j turn is

pub turns-asks : (caller j : ℕ) (w : World) (es : List Event) → asks_of caller (take j (turns_from w es)) ≡ asks_among caller (take j es)
turns-asks caller zero w es = refl
turns-asks caller (suc j) w [] = refl
turns-asks caller (suc j) w (e ∷ es) = ap (λ (n : ℕ). asks_in caller e + n) (turns-asks caller j (step w e).world es)

pub among-all : (caller : ℕ) (w : World) (es : List Event) → asks_of caller (turns_from w es) ≡ asks_among caller es
among-all caller w [] = refl
among-all caller w (e ∷ es) = ap (λ (n : ℕ). asks_in caller e + n) (among-all caller (step w e).world es)

-- an ask counts for those behind it
pub among-before : (caller j : ℕ) (es : List Event) (op : Asked) (p : ProcessId)
    → slice_get es j ≡ Some (Ask caller op p) → asks_among caller (take j es) < asks_among caller es
among-before caller j [] op p is = absurd (cc is)
among-before caller zero (e ∷ es) op p is =
    let one : asks_in caller e ≡ 1 = ap (asks_in caller) (some-same e (Ask caller op p) is) ∙ asks-self caller op p in omega (arith, one)
among-before caller (suc j) (e ∷ es) op p is = let rest = among-before caller j es op p is in omega (arith, rest)

pub run-behind : (w : World) (xs ys : List Event) → IsRunFrom w (xs ++ ys) → IsRunFrom (world_after w xs) ys
run-behind w [] ys run = run
run-behind w (x ∷ xs) ys run = run-behind (step w x).world xs ys run.1

module _ (bases : Bases) (k : ℕ) where
  asks-in-era : (caller : ℕ) (e : Event) → asks_in caller (event_in bases k e) ≡ asks_in caller e
  asks-in-era caller (Ask who op p) = refl
  asks-in-era caller (Collect who call p) = refl
  asks-in-era caller (Deliver from to) = refl
  asks-in-era caller (Fail p keep) = refl
  asks-in-era caller (Flush p) = refl
  asks-in-era caller (Trace who call d p) = refl

  pub among-in : (caller j : ℕ) (es : List Event) → asks_among caller (take j (map (event_in bases k) es)) ≡ asks_among caller (take j es)
  among-in caller zero es = refl
  among-in caller (suc j) [] = refl
  among-in caller (suc j) (e ∷ es) = let here = asks-in-era caller e in let rest = among-in caller j es in omega (arith, here, rest)

  pub among-map : (caller : ℕ) (es : List Event) → asks_among caller (map (event_in bases k) es) ≡ asks_among caller es
  among-map caller [] = refl
  among-map caller (e ∷ es) = let here = asks-in-era caller e in let rest = among-map caller es in omega (arith, here, rest)

  -- an ask that came in is one that was asked
  pub record WasAsked (es : List Event) (j caller : ℕ) (op : Asked) (p : ProcessId) : Type 0 where
    pub asked : Asked
    pub there : slice_get es j ≡ Some (Ask caller asked p)
    pub changed : op ≡ op_for_era bases k asked

  one-asked : (e : Event) (caller : ℕ) (op : Asked) (p : ProcessId) → event_in bases k e ≡ Ask caller op p
      → (asked : Asked) × (e ≡ Ask caller asked p) × (op ≡ op_for_era bases k asked)
  one-asked (Ask who asked q) caller op p is =
      let a : who ≡ caller = cc is in
      let b : op_for_era bases k asked ≡ op = ap (λ (e : Event). op-of e) is in
      let c : q ≡ p = cc is in
      (asked, ap (λ (n : ℕ). Ask n asked q) a ∙ ap (λ (x : ProcessId). Ask caller asked x) c, sym b)
    where
      op-of : Event → Asked
      op-of (Ask who op p) = op
      op-of (Collect who call p) = asked
      op-of (Deliver from to) = asked
      op-of (Fail p keep) = asked
      op-of (Flush p) = asked
      op-of (Trace who call d p) = asked
  one-asked (Collect who call q) caller op p is = absurd (cc is)
  one-asked (Deliver from to) caller op p is = absurd (cc is)
  one-asked (Fail q keep) caller op p is = absurd (cc is)
  one-asked (Flush q) caller op p is = absurd (cc is)
  one-asked (Trace who call d q) caller op p is = absurd (cc is)

  pub was-asked : (es : List Event) (j caller : ℕ) (op : Asked) (p : ProcessId)
      → slice_get (map (event_in bases k) es) j ≡ Some (Ask caller op p) → WasAsked es j caller op p
  was-asked [] j caller op p is = absurd (cc is)
  was-asked (e ∷ es) zero caller op p is =
      let one = one-asked e caller op p (some-same (event_in bases k e) (Ask caller op p) is) in
      record { asked = one.0; there = ap Some one.1; changed = one.2 }
  was-asked (e ∷ es) (suc j) caller op p is = let later = was-asked es j caller op p is in
      record { asked = later.asked; there = later.there; changed = later.changed }
