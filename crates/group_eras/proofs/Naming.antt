-- Entries of a run by the names of their calls: an entry has the op of the one ask of its name.
use Rattle.std.proofs.Common.{ℕ, zero, suc, ◌≡◌, ◌<◌, ◌≤◌, ◌+◌, List, [], ◌∷◌, ◌++◌, length, take, Some, ◌⊎◌, inl, inr, refl, sym, ap, subst, ◌∙◌, arith}
use Rattle.group_eras.proofs.Lists.{get-front, take-front}
use Rattle.std.specs.Prelude.{Contains, slice_get}
use Rattle.std.proofs.lemmas.Bool.{cases_lt}
use Rattle.std.proofs.lemmas.List.Elements.{Contains-append_cases, Contains-append_left}
use Rattle.group_types.specs.Dimensions.{Dimensions}
use Rattle.group_types.specs.Lists.{at}
use Rattle.group_types.specs.declared.process.ProcessId.{ProcessId}
use Rattle.memc_table.specs.Asked.{Asked}
use Rattle.group_calls.specs.Turns.{CallName, Turn, log_of, name_of}
use Rattle.group_calls.specs.Within.{IsAsk}
use Rattle.group_calls.specs.declared.entry.Entry.{Entry}
use Rattle.group_calls.specs.declared.event.Event.{Event}
use Rattle.group_calls.specs.declared.event.Event.TheVariants.{Ask, Collect, Deliver, Fail, Flush, Trace}
use Rattle.group_run.specs.Headline.{IsRun}
use Rattle.group_run.specs.World.{World, after, opening, step, turns_of, world_after}
use Rattle.law_moves.proofs.Reading.{grown-is, some-same}
use Rattle.law_log.proofs.Turnings.{asks-self}
use Rattle.law_headline.proofs.Headlines.{headline_always}
use Rattle.group_run.specs.Causes.{asks_among}
use Rattle.group_eras.proofs.Asking.{among-before, turn-event, turns-asks}
use Rattle.group_eras.proofs.Making.{asked-among}

-- an entry of the log is one that a turn logged
pub logged-turn : (turns : List Turn) (entry : Entry) → Contains (log_of turns) entry → (i : ℕ) × (turn : Turn)
    × (slice_get turns i ≡ Some turn) × Contains turn.logged entry
logged-turn [] entry there = absurd (let low = there.1 in omega (arith, low))
logged-turn (t ∷ ts) entry there = by (Contains-append_cases t.logged (log_of ts) entry there) (logged-turn ts entry) where
  by : Contains t.logged entry ⊎ Contains (log_of ts) entry
      → (Contains (log_of ts) entry → (i : ℕ) × (turn : Turn) × (slice_get ts i ≡ Some turn)
      × Contains turn.logged entry)
      → (i : ℕ) × (turn : Turn) × (slice_get (t ∷ ts) i ≡ Some turn) × Contains turn.logged entry
  by (inl here) later = (0, t, refl, here)
  by (inr behind) later = let found = later behind in (suc found.0, found.1, found.2, found.3)

-- the log only grows
pub log-grows : (w : World) (es : List Event) (entry : Entry) → Contains w.log entry → Contains (world_after w es).log entry
log-grows w [] entry there = there
log-grows w (e ∷ es) entry there =
    log-grows (step w e).world es entry
    (subst (λ (log : List Entry). Contains log entry) (sym (grown-is w.log (step w e).turn.logged))
    (Contains-append_left w.log (step w e).turn.logged entry there))

among-both : (caller : ℕ) (es fs : List Event) → asks_among caller (es ++ fs) ≡ asks_among caller es + asks_among caller fs
among-both caller [] fs = omega arith
among-both caller (e ∷ es) fs = let rest = among-both caller es fs in omega (arith, rest)

get-at : {X : Type 0} (xs ys : List X) (x : X) → slice_get (xs ++ x ∷ ys) (length xs) ≡ Some x
get-at [] ys x = refl
get-at (z ∷ zs) ys x = get-at zs ys x

-- of those behind an ask each counts it
among-behind : (caller : ℕ) (es rest : List Event) (op : Asked) (p : ProcessId) (j : ℕ) → length es < j
    → suc (asks_among caller es) ≤ asks_among caller (take j (es ++ Ask caller op p ∷ rest))
among-behind caller [] rest op p zero low = absurd (omega (arith, low))
among-behind caller [] rest op p (suc j) low = let one = asks-self caller op p in omega (arith, one)
among-behind caller (e ∷ es) rest op p zero low = absurd (omega (arith, low))
among-behind caller (e ∷ es) rest op p (suc j) low = let later = among-behind caller es rest op p j (omega (arith, low)) in omega (arith, later)

module _ (s : Dimensions) (es rest : List Event) (caller : ℕ) (op : Asked) (p : ProcessId) (run : IsRun s es)
    (whole : IsRun s (es ++ Ask caller op p ∷ rest)) where
  abbrev all : List Event
  all = es ++ Ask caller op p ∷ rest

  counted : at 0 (after s es).asked caller ≡ asks_among caller es
  counted = asked-among s es run caller

  -- the ask of this name is the one behind the first events
  one-ask : (j : ℕ) (turn : Turn) (other : Asked)
      → IsAsk (turns_of s all) j turn (record { caller = caller; call = at 0 (after s es).asked caller }) other
      → other ≡ op
  one-ask j turn other ask = by (cases_lt j (length es)) (cases_lt (length es) j) where
    there : slice_get all j ≡ Some (Ask caller other ask.at)
    there = turn-event (opening s) all j turn ask.there ∙ ap Some ask.event

    calls : asks_among caller (take j all) ≡ asks_among caller es
    calls = sym (turns-asks caller j (opening s) all) ∙ ask.place ∙ counted

    op-of : Event → Asked
    op-of (Ask who o q) = o
    op-of (Collect who call q) = op
    op-of (Deliver from to) = op
    op-of (Fail q keep) = op
    op-of (Flush q) = op
    op-of (Trace who call d q) = op

    by : (j < length es) ⊎ (length es ≤ j) → (length es < j) ⊎ (j ≤ length es) → other ≡ op
    by (inl low) more =
        let before = among-before caller j es other ask.at (sym (get-front es (Ask caller op p ∷ rest) j low) ∙ there) in
        let same = ap (asks_among caller) (sym (take-front es (Ask caller op p ∷ rest) j (omega (arith, low)))) ∙ calls in
        absurd (omega (arith, before, same))
    by (inr high) (inl later) = let behind = among-behind caller es rest op p j later in absurd (omega (arith, behind, calls))
    by (inr high) (inr low) =
        let place : j ≡ length es = omega (arith, high, low) in
        let here : Ask caller other ask.at ≡ Ask caller op p = some-same (Ask caller other ask.at) (Ask caller op p)
        (sym there ∙ ap (slice_get all) place ∙ get-at es rest (Ask caller op p)) in
        ap op-of here

  -- so an entry of that name has its op
  pub named-op : (entry : Entry) → Contains (after s (es ++ Ask caller op p ∷ rest)).log entry
      → name_of entry ≡ record { caller = caller; call = at 0 (after s es).asked caller } → entry.op ≡ op
  named-op entry there named =
      let h = headline_always s all whole in
      let found = logged-turn (turns_of s all) entry (subst (λ (log : List Entry). Contains log entry) h.one_log.kept there) in
      let ask = h.one_log.within.asked found.0 found.1 entry found.2 found.3 in
      one-ask ask.0 ask.1 entry.op (subst (λ (name : CallName). IsAsk (turns_of s all) ask.0 ask.1 name entry.op) named ask.3)
