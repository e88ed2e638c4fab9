-- What acknowledgements tell holds along every run; so where all are delivered a head has settled all its log.
use Rattle.std.proofs.Common.{ℕ, zero, suc, ◌≡◌, ◌≢◌, ◌<◌, ◌≤◌, ◌+◌, Bool, true, false, not, ◌&&◌, List, [], ◌∷◌, ◌++◌}
use Rattle.std.proofs.Common.{length, Option, Some, None, inl, inr, refl, sym, ap, subst, ◌∙◌, arith}
use Rattle.std.specs.Prelude.{cond, filter, unwrap_or}
use Rattle.std.specs.List.{range_with_len}
use Rattle.group_types.specs.Dimensions.{Dimensions}
use Rattle.group_types.specs.Lists.{at}
use Rattle.group_types.specs.Names.{IsProcess, same_process}
use Rattle.group_types.specs.Shape.{IsShape}
use Rattle.group_types.specs.declared.process.ProcessId.{ProcessId}
use Rattle.group_types.specs.declared.process.ProcessId.TheVariants.{ParityNode}
use Rattle.group_types.proofs.Names.{same-refl}
use Rattle.membership.specs.Members.{knows_dead}
use Rattle.group_message.specs.declared.message.Message.{Message}
use Rattle.group_message.specs.declared.message.Message.TheVariants as tells
use Rattle.group_message.specs.declared.update.Update.{Update}
use Rattle.group_calls.specs.declared.event.Event.{Event}
use Rattle.group_run.specs.Applying.{head_at, replica_of}
use Rattle.group_run.specs.Headline.{IsRun}
use Rattle.group_run.specs.Heading.{acked_by, least_acked}
use Rattle.group_run.specs.History.{history_of}
use Rattle.group_run.specs.Process.{Head}
use Rattle.group_run.specs.Replica.{last_of}
use Rattle.law_moves.proofs.Moves.{Keeps}
use Rattle.law_moves.specs.State.{State, state_of}
use Rattle.law_moves.proofs.Runs.{holds_always}
use Rattle.law_moves.proofs.Members.{Stands}
use Rattle.law_histories.proofs.LaneWords.{next}
use Rattle.law_histories.proofs.Histories.{length-history}
use Rattle.law_histories.proofs.Reach.{EndsAt, IsKeeper, seen_at}
use Rattle.law_histories.proofs.Around.{keeper-rank}
use Rattle.law_histories.proofs.Keeping.{keeps_reach}
use Rattle.law_histories.proofs.Ranks.{head-from}
use Rattle.law_histories.proofs.Told.{IsTold, Told, ToldAlways, newest}
use Rattle.law_histories.proofs.ToldKeeping.{Reached, told-dies, told-opens, told-treats}
use Rattle.law_histories.proofs.Receiving.{told-receives}
use Rattle.law_histories.proofs.Folds.{run}

-- every move keeps it
pub keeps-told : (s : Dimensions) → IsShape s → Keeps s (λ v. Reached s v × Told s v)
keeps-told s shaped = record {
  opens = λ v starts. ((keeps_reach s shaped).opens v starts, told-opens s shaped v starts);
  treats = λ v w p t pin up lives treated both acts. (
    (keeps_reach s shaped).treats v w p t pin up lives treated both.0 acts,
    told-treats s shaped v w p t pin up lives
        treated both.0 both.1 acts,
  );
  receives =
      λ v u w x p m xin pin apart up lives both pops acts. (
        (keeps_reach s shaped).receives v u w x p m xin pin apart up lives both.0 pops acts,
        told-receives s shaped v u w x p xin pin apart up lives both.0 both.1 m pops acts,
      );
  dies = λ v w p keep pin both died. ((keeps_reach s shaped).dies v w p keep pin both.0 died, told-dies s shaped v w p keep pin both.1 died);
}

pub reached-and-told : (s : Dimensions) (es : List Event) → IsRun s es → Reached s (state_of (history_of s es)) × Told s (state_of (history_of s es))
reached-and-told s es ran = holds_always s (λ v. Reached s v × Told s v) (keeps-told s ran.0) es ran

-- links into living processes are empty
abbrev pub IsEmpty : Dimensions → State → Type 0
IsEmpty s v = (from to : ProcessId) → IsProcess s from → IsProcess s to → v.dead to ≡ false → from ≢ to → v.link from to ≡ []

-- the least of numbers none of which is lower
least-all : (h : Head) (last : ℕ) (test : ℕ → Bool) (a n : ℕ)
    → ((i : ℕ) → a ≤ i → i < a + n → test i ≡ true → last ≤ acked_by h i)
    → last ≤ least_acked h last (filter test (range_with_len a n))
least-all h last test a zero all = omega arith
least-all h last test a (suc n) all = by (test a) refl (least-all h last test (a + 1) n (λ i low high. all i (omega (arith, low)) (omega (arith, high)))) where
  by : (b : Bool) → test a ≡ b → last ≤ least_acked h last (filter test (range_with_len (a + 1) n))
      → last ≤ least_acked h last (cond b (a ∷ filter test (range_with_len (a + 1) n)) (filter test (range_with_len (a + 1) n)))
  by true is rest = let here = all a (omega arith) (omega arith) is in omega (arith, here, rest)
  by false is rest = rest

-- whoever isn't known dead lives, where no notice is on its way
pub living-by : (x : ProcessId) (dead known : Bool) (link : List Message) → Stands x dead known link → known ≡ false → link ≡ [] → dead ≡ false
living-by x false known link stands unknown empty = refl
living-by x true true link stands unknown empty = cc unknown
living-by x true false link stands unknown empty = absurd (behind stands.front (sym stands.is ∙ empty)) where
  behind : (front : List Message) → front ++ tells.Notice x ∷ [] ≡ [] → ⊥
  behind [] e = cc e
  behind (m ∷ ms) e = cc e

module _ (s : Dimensions) (v : State) (reached : Reached s v) (told : Told s v) (empty : IsEmpty s v) (p : ProcessId) (d : ℕ) (h : Head) (pin : IsProcess s p)
    (lives : v.dead p ≡ false) (below : d < s.k) (heads : head_at (v.process p) d ≡ Some h) where
  pub keeps-it : IsKeeper d p
  keeps-it = keeper-rank d h.rank p (head-from s v d reached.0 below p h pin lives heads).0

  -- whoever the head doesn't know dead
  module _ (i : ℕ) (iin : i < s.m) (other : p ≢ ParityNode i) (unknown : knows_dead (v.process p).known (ParityNode i) ≡ false) where
    pub lives-too : v.dead (ParityNode i) ≡ false
    lives-too = living-by (ParityNode i) (v.dead (ParityNode i)) (knows_dead (v.process p).known (ParityNode i)) (v.link (ParityNode i) p)
        (reached.0.stands (ParityNode i) p iin pin (λ same. other (sym same)) lives) unknown (empty (ParityNode i) p iin pin lives (λ same. other (sym same)))

    ends : EndsAt (v.settled d) (replica_of (v.process p) d) h (seen_at d (v.settled d) (v.process (ParityNode i)))
    ends =
        subst
        (λ (ms : List Message). EndsAt (v.settled d) (replica_of (v.process p) d) h (run (next d) (seen_at d (v.settled d) (v.process (ParityNode i))) ms))
        (empty p (ParityNode i) pin iin lives-too other)
        (((reached.1 d below).lanes p i pin iin other lives-too).ends lives h heads)

    -- it has acknowledged all that the head has
    pub told-all : IsTold h.rank (at None h.acks i) (last_of (replica_of (v.process p) d))
    told-all = subst (IsTold h.rank (at None h.acks i)) same
        (subst (λ (ms : List Message). IsTold h.rank (newest d (at None h.acks i) ms)
        (last_of (replica_of (v.process (ParityNode i)) d)))
        (empty (ParityNode i) p iin pin lives (λ k. other (sym k)))
        (told.acks p i d pin iin other lives lives-too below h heads ends.rank))
      where
        same : last_of (replica_of (v.process (ParityNode i)) d) ≡ last_of (replica_of (v.process p) d)
        same =
            sym (length-history (v.settled d) (replica_of (v.process (ParityNode i)) d) ((reached.1 d below).replicas (ParityNode i) iin lives-too tt).applied)
            ∙ ap length ends.history_is
            ∙ length-history (v.settled d) (replica_of (v.process p) d) ((reached.1 d below).replicas p pin lives keeps-it).applied

  acked-all : (i : ℕ) → i < s.m → p ≢ ParityNode i → knows_dead (v.process p).known (ParityNode i) ≡ false → last_of (replica_of (v.process p) d) ≤ acked_by h i
  acked-all i iin other unknown = by (told-all i iin other unknown) where
    by : IsTold h.rank (at None h.acks i) (last_of (replica_of (v.process p) d)) → last_of (replica_of (v.process p) d) ≤ acked_by h i
    by (inl all) = let number : acked_by h i ≡ last_of (replica_of (v.process p) d) = ap (λ (o : Option ℕ). unwrap_or o 0) all in omega (arith, number)
    by (inr none) = let last = none.2 in omega (arith, last)

  -- nothing is left in its log
  pub log-empty : (replica_of (v.process p) d).log ≡ []
  log-empty =
      let settled = told.settles p d pin lives below h heads in
      let least = least-all h (last_of (replica_of (v.process p) d)) test 0 s.m each in
      nothing (replica_of (v.process p) d).log (omega (arith, settled, least))
    where
      test : ℕ → Bool
      test i = not (same_process (v.process p).name (ParityNode i)) && not (knows_dead (v.process p).known (ParityNode i))

      parts : (a b : Bool) → (not a && not b) ≡ true → (a ≡ false) × (b ≡ false)
      parts false false e = (refl, refl)
      parts false true e = cc e
      parts true b e = cc e

      each : (i : ℕ) → 0 ≤ i → i < 0 + s.m → test i ≡ true → last_of (replica_of (v.process p) d) ≤ acked_by h i
      each i low high passes =
          let both = parts (same_process (v.process p).name (ParityNode i)) (knows_dead (v.process p).known (ParityNode i)) passes in
          acked-all i (omega (arith, high))
          (λ same. cc (
            both.0,
            ap (λ (y : ProcessId). same_process y (ParityNode i)) (reached.0.named p pin ∙ same),
            same-refl (ParityNode i),
          )) both.1

      nothing : (us : List Update) → length us ≡ 0 → us ≡ []
      nothing [] none = refl
      nothing (u ∷ us) none = absurd (omega (arith, none))

pub told_always : ToldAlways
told_always s es ran = (reached-and-told s es ran).1
