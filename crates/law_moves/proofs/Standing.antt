-- What stands in a link of whom is dead or known to be, and what goes to one process.
use Rattle.std.proofs.Common.{◌≡◌, Bool, true, false, List, [], ◌∷◌, ◌++◌, refl, ap, subst}
use Rattle.group_types.specs.Names.{same_process}
use Rattle.group_types.specs.declared.process.ProcessId.{ProcessId}
use Rattle.group_types.proofs.Names.{same-eq}
use Rattle.group_types.specs.Each.{Each}
use Rattle.group_message.specs.declared.message.Message.{Message}
use Rattle.group_message.specs.declared.message.Message.TheVariants as tells
use Rattle.group_run.specs.Applying.{Sent}
use Rattle.group_run.specs.World.{front_if, sent_to}
use Rattle.law_moves.proofs.Members.{EndsInNotice, IsPlain, Stands}
use Rattle.law_moves.specs.Known.{is_notice}

-- what is said of each message that is sent, is said of each that goes to one process
pub each-sent_to : (P : ProcessId → Message → Type 0) (q : ProcessId) (sent : List Sent) → Each (λ z. P z.to z.message) sent → Each (P q) (sent_to q sent)
each-sent_to P q [] a = tt
each-sent_to P q (z ∷ zs) a = by (same_process z.to q) refl (each-sent_to P q zs a.1) where
  by : (b : Bool) → same_process z.to q ≡ b → Each (P q) (sent_to q zs) → Each (P q) (front_if b z.message (sent_to q zs))
  by true same rest = (subst (λ (x : ProcessId). P x z.message) (same-eq z.to q same) a.0, rest)
  by false other rest = rest

-- a message that isn't a notice is taken out of a link
pub stands-popped : (x : ProcessId) (dead known : Bool) (m : Message) (rest : List Message) → is_notice m ≡ false
    → Stands x dead known (m ∷ rest) → Stands x dead known rest
stands-popped x false false m rest plain stands = stands.1
stands-popped x false true m rest plain stands = absurd stands
stands-popped x true true m rest plain stands = absurd (cc stands)
stands-popped x true false m rest plain stands = by stands.front stands.is stands.plain where
  by : (front : List Message) → m ∷ rest ≡ front ++ tells.Notice x ∷ [] → IsPlain front → EndsInNotice x rest
  by [] is none = let first : is_notice m ≡ true = ap first_is is in cc (plain, first)
    where
      first_is : List Message → Bool
      first_is [] = false
      first_is (y ∷ ys) = is_notice y
  by (y ∷ ys) is all = record { front = ys; is = ap tail is; plain = all.1 }
    where
      tail : List Message → List Message
      tail [] = []
      tail (z ∷ zs) = zs

-- a notice is that of the sender, and the last
pub stands-notice : (x : ProcessId) (dead known : Bool) (d : ProcessId) (rest : List Message) → Stands x dead known (tells.Notice d ∷ rest)
    → (dead ≡ true) × (known ≡ false) × (d ≡ x) × (rest ≡ [])
stands-notice x false false d rest stands = cc stands.0
stands-notice x false true d rest stands = absurd stands
stands-notice x true true d rest stands = absurd (cc stands)
stands-notice x true false d rest stands = by stands.front stands.is stands.plain where
  dead_in : List Message → ProcessId
  dead_in (tells.Notice y ∷ ys) = y
  dead_in _ = x

  tail : List Message → List Message
  tail [] = []
  tail (z ∷ zs) = zs

  by : (front : List Message) → tells.Notice d ∷ rest ≡ front ++ tells.Notice x ∷ [] → IsPlain front → (true ≡ true) × (false ≡ false) × (d ≡ x) × (rest ≡ [])
  by [] is none = (refl, refl, ap dead_in is, ap tail is)
  by (y ∷ ys) is all = absurd (cc (ap first_is is, all.0)) where
    first_is : List Message → Bool
    first_is [] = false
    first_is (z ∷ zs) = is_notice z

-- whose message stands in a link isn't known to be dead
pub sender-lives : (x : ProcessId) (dead known : Bool) (m : Message) (rest : List Message) → Stands x dead known (m ∷ rest) → known ≡ false
sender-lives x false false m rest stands = refl
sender-lives x true false m rest stands = refl
sender-lives x true true m rest stands = absurd (cc stands)
sender-lives x false true m rest stands = absurd stands
