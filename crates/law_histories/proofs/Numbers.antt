-- What of the headline is told of numbers alone, from what every replica has seen.
use Rattle.std.proofs.Common.{ℕ, zero, suc, ◌≡◌, ◌<◌, ◌≤◌, ◌+◌, ◌==◌, Bool, true, false, List, [], ◌∷◌, length, take}
use Rattle.std.proofs.Common.{get_or, Option, Some, None, ◌⊎◌, inl, inr, refl, sym, ap, subst, ◌∙◌, if◌then◌else◌}
use Rattle.std.proofs.Common.{arith}
use Rattle.std.proofs.lemmas.Grind.{common_steps}
use Rattle.std.proofs.lemmas.List.{get_or-append-add, get_or-take}
use Rattle.std.proofs.lemmas.Option.{get_or_from_slice_get, slice_get-get_or, slice_get_within}
use Rattle.std.specs.List.{slice_get}
use Rattle.group_types.specs.Dimensions.{Dimensions}
use Rattle.group_types.specs.Lists.{at}
use Rattle.group_types.specs.declared.process.ProcessId.{ProcessId}
use Rattle.group_types.specs.declared.process.ProcessId.TheVariants.{DataNode, ParityNode}
use Rattle.group_message.specs.declared.update.Update.{Update}
use Rattle.group_calls.specs.declared.event.Event.{Event}
use Rattle.group_run.specs.Applying.{head_at, replica_of}
use Rattle.group_run.specs.Fitting.{NumberedFrom}
use Rattle.group_run.specs.Headline.{IsRun, LogsAreShort}
use Rattle.group_run.specs.History.{History, history_of, no_history, history}
use Rattle.group_run.specs.Meaning.{Lives, process_of}
use Rattle.group_run.specs.Process.{Head}
use Rattle.group_run.specs.Replica.{Replica}
use Rattle.group_run.specs.World.{World}
use Rattle.law_moves.specs.State.{State, state_of}
use Rattle.law_moves.proofs.Runs.{shape-from, world-from}
use Rattle.law_moves.proofs.Members.{Members}
use Rattle.law_histories.specs.Numbers.{KeepsNumbers, LogsShortAlways, NumbersKept, NumbersKeptAlways}
use Rattle.law_histories.proofs.Reach.{Any, HeadReaches, IsKeeper, Reach, ReplicaFits, ReplicaReaches}
use Rattle.law_histories.proofs.Histories.{front-long, length-history, log-numbered}
use Rattle.law_histories.proofs.Keeping.{reach_always}
use Rattle.law_histories.proofs.Messages.{seat-some}

-- the number at a place
numbered-get : (a j : ℕ) (us : List Update) (d : Update) → NumberedFrom a us → j < length us → (get_or us j d).number ≡ a + j
numbered-get a j [] d all low = absurd (omega (arith, low))
numbered-get a zero (u ∷ us) d all low = let here : u.number ≡ a = all.0 in omega (arith, here)
numbered-get a (suc j) (u ∷ us) d all low = let rest = numbered-get (suc a) j us d all.1 (omega (arith, low)) in omega (arith, rest)

module _ (F : ℕ → ℕ → List Update → Type 0) (d : ℕ) (settled : List Update) (r : Replica) (head : Option Head) (fits : ReplicaFits F d settled r head) where
  log-number : (j : ℕ) (u : Update) → slice_get r.log j ≡ Some u → u.number ≡ suc (r.applied + j)
  log-number j u is =
      let number = numbered-get (suc r.applied) j r.log u (log-numbered settled r fits.applied fits.fine.0) (slice_get_within r.log j u is) in
      let same : (get_or r.log j u).number ≡ u.number = ap (λ (x : Update). x.number) (get_or_from_slice_get r.log j u u is) in
      omega (arith, number, same)

  log-settled : (j : ℕ) (u : Update) → r.applied + j < length settled → slice_get r.log j ≡ Some u → slice_get settled (r.applied + j) ≡ Some u
  log-settled j u low is =
      slice_get-get_or settled (r.applied + j) u low
      ∙ ap Some (ap (λ (us : List Update). get_or us (r.applied + j) u) (sym fits.prolongs.front)
      ∙ get_or-take (length settled) (history settled r) (r.applied + j) u low
      ∙ ap (λ (k : ℕ). get_or (history settled r) (k + j) u) (sym (front-long settled r fits.applied))
      ∙ get_or-append-add (take r.applied settled) r.log j u
      ∙ get_or_from_slice_get r.log j u u is)

  pub keeps-numbers : KeepsNumbers settled r
  keeps-numbers = record {
    applied = fits.applied;
    reached = let long = length-history settled r fits.applied in let reach = fits.prolongs.reaches in omega (arith, long, reach);
    numbers = log-number;
    log = log-settled;
  }

-- a data process has applied all that is settled
pub data-applied : (F : ℕ → ℕ → List Update → Type 0) (s : Dimensions) (v : State) → Members s v → Reach F s v → (d : ℕ) → d < s.k → v.dead (DataNode d) ≡ false
    → (replica_of (v.process (DataNode d)) d).applied ≡ length (v.settled d)
data-applied F s v members reach d below lives = by (fits.heads h heads) where
  fits : ReplicaReaches F d (v.settled d) (v.process (DataNode d))
  fits = (reach d below).replicas (DataNode d) below lives refl

  seat : (h : Head) × (head_at (v.process (DataNode d)) d ≡ Some h) × (h.rank ≡ 0)
  seat =
      seat-some (head_at (v.process (DataNode d)) d) 0
      ((members.sits (DataNode d) d below lives below).0 ∙ (let own : (d == d) ≡ true = grind (arith, common_steps) in
      ap (λ (b : Bool). if b then Some 0 else None) own))

  h : Head
  h = seat.0

  heads : head_at (v.process (DataNode d)) d ≡ Some h
  heads = seat.1

  by : HeadReaches (v.settled d) (replica_of (v.process (DataNode d)) d) h → (replica_of (v.process (DataNode d)) d).applied ≡ length (v.settled d)
  by reaches = which reaches.all_or where
    none : h.inherited ≡ 0
    none = reaches.first seat.2

    which : ((replica_of (v.process (DataNode d)) d).applied ≡ length (v.settled d))
        ⊎ (((replica_of (v.process (DataNode d)) d).applied < h.inherited) × (length (v.settled d) ≤ h.inherited))
        → (replica_of (v.process (DataNode d)) d).applied ≡ length (v.settled d)
    which (inl all) = all
    which (inr waits) = let less = waits.0 in absurd (omega (arith, less, none))

-- of a group, in its own words
module _ (h : History) (members : Members h.world.shape (state_of h)) (reach : Reach Any h.world.shape (state_of h)) where
  fits_at : (p : ProcessId) (d : ℕ) → d < h.world.shape.k → IsKeeper d p → Lives h.world p → ReplicaReaches Any d (at [] h.settled d) (process_of h.world p)
  fits_at p d below keeps lives = (reach d below).replicas p lives.0 lives.1 keeps

  numbers-kept : NumbersKept h.world h.settled
  numbers-kept = record {
    at_data =
        λ d lives. keeps-numbers Any d (at [] h.settled d) (replica_of (process_of h.world (DataNode d)) d) (head_at (process_of h.world (DataNode d)) d)
        (fits_at (DataNode d) d lives.0 refl lives);
    all_applied = λ d lives. data-applied Any h.world.shape (state_of h) members reach d lives.0 lives.1;
    at_parity =
        λ i d below lives. keeps-numbers Any d (at [] h.settled d) (replica_of (process_of h.world (ParityNode i)) d)
        (head_at (process_of h.world (ParityNode i)) d) (fits_at (ParityNode i) d below tt lives);
  }

  logs-short : LogsAreShort h.world
  logs-short = record {
    at_data = λ d lives. (fits_at (DataNode d) d lives.0 refl lives).short;
    at_parity = λ i d below lives. (fits_at (ParityNode i) d below tt lives).short;
  }

history-members : (s : Dimensions) (es : List Event) → IsRun s es
    → Members (history_of s es).world.shape (state_of (history_of s es)) × Reach Any (history_of s es).world.shape (state_of (history_of s es))
history-members s es run = subst (λ (t : Dimensions). Members t (state_of (history_of s es))
    × Reach Any t (state_of (history_of s es))) (sym (shape-from (no_history s) es)) (reach_always s es run)

pub numbers_kept_always : NumbersKeptAlways
numbers_kept_always s es run =
    let both = history-members s es run in
    subst (λ (w : World). NumbersKept w (history_of s es).settled) (world-from (no_history s) es) (numbers-kept (history_of s es) both.0 both.1)

pub logs_short_always : LogsShortAlways
logs_short_always s es run =
    let both = history-members s es run in
    subst LogsAreShort (world-from (no_history s) es) (logs-short (history_of s es) both.0 both.1)
