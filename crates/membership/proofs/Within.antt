-- Who is known dead is told by the words of the data processes, and by those of the parity processes.
use Rattle.std.proofs.Common.{ℕ, ◌≡◌, ◌↔◌, Bool, true, false, IsTrue}
use Rattle.group_types.specs.Lists.{at}
use Rattle.group_types.specs.declared.process.ProcessId.{ProcessId}
use Rattle.group_types.specs.declared.process.ProcessId.TheVariants.{DataNode, ParityNode}
use Rattle.membership.specs.Members.{Membership, knows_dead}

module _ (m n : Membership) where
  abbrev pub DataWithin : Type 0
  DataWithin = (i : ℕ) → at false m.data_dead i ≡ true → at false n.data_dead i ≡ true

  abbrev pub ParityWithin : Type 0
  ParityWithin = (i : ℕ) → at false m.parity_dead i ≡ true → at false n.parity_dead i ≡ true

  abbrev pub AllWithin : Type 0
  AllWithin = (p : ProcessId) → knows_dead m p ≡ true → knows_dead n p ≡ true

  both : DataWithin → ParityWithin → AllWithin
  both values parity (DataNode d) = values d
  both values parity (ParityNode i) = parity i

  pub by-parity : (a b : Bool) → (IsTrue a ↔ DataWithin) → IsTrue a → (IsTrue b ↔ ParityWithin) → IsTrue b ↔ AllWithin
  by-parity a b values within parity = (λ told. both (values.0 within) (parity.0 told), λ all. parity.1 (λ i. all (ParityNode i)))

  pub by-data : (a : Bool) → (IsTrue a ↔ DataWithin) → a ≡ false → IsTrue a ↔ AllWithin
  by-data a values outside = (λ told. absurd (cc (told, outside)), λ all. values.1 (λ d. all (DataNode d)))
