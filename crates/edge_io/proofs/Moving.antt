-- Lemmas on what sources hand out and sinks take.
use Rattle.std.proofs.Common.{◌≡◌, ℕ, List, [], ◌++◌, Option, Some, None, IfSome, append-nil, append_assoc, sym, ap, ◌∙◌}
use Rattle.std.proofs.KnownBytes as known
use Rattle.std.specs.Io.KnownBytes.{Consumes, IsAtEnd}
use Rattle.edge_io.specs.Moving.{Input, Takes, IsEnded, Appends}

pub Takes-none : (input : Input) → Takes input input []
Takes-none input = record { taken = sym (append-nil input.taken); left = known.Consumes-nil input.left }

pub Takes-trans : (before middle now : Input) (bytes more : List ℕ) → Takes before middle bytes → Takes middle now more → Takes before now (bytes ++ more)
Takes-trans before middle now bytes more first then = record {
  taken = then.taken ∙ ap (λ (bs : List ℕ). bs ++ more) first.taken ∙ append_assoc before.taken bytes more;
  left = known.Consumes-trans before.left middle.left now.left bytes more first.left then.left;
}

pub Appends-nil : (held : List ℕ) → Appends held held []
Appends-nil held = sym (append-nil held)

pub Appends-trans : (before middle now bytes more : List ℕ) → Appends before middle bytes → Appends middle now more → Appends before now (bytes ++ more)
Appends-trans before middle now bytes more first then = then ∙ ap (λ (bs : List ℕ). bs ++ more) first ∙ append_assoc before bytes more

-- what was taken up to the end is all that was to come
pub Takes-all : (before now : Input) (bytes : List ℕ) → Takes before now bytes → IsEnded now → IfSome before.left (λ all. (bytes ≡ all) × (now.left ≡ Some []))
Takes-all before now bytes takes ended = by before.left now.left takes.left ended.none where
  by : (left left_now : Option (List ℕ)) → Consumes left left_now bytes → IsAtEnd left_now → IfSome left (λ all. (bytes ≡ all) × (left_now ≡ Some []))
  by None left_now consumed none = tt
  by (Some all) None consumed none = absurd consumed
  by (Some all) (Some rest) consumed none = (sym (consumed ∙ ap (λ (bs : List ℕ). bytes ++ bs) none ∙ append-nil bytes), ap Some none)
