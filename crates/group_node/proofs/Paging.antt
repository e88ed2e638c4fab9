-- The pages of a process of either role after a message.
use Rattle.std.proofs.Common.{ℕ, ◌≡◌, List, sym, ap, subst, ◌∙◌, Box, Global}
use Rattle.group_message.specs.declared.message.Message.{Message}
use Rattle.head_service.specs.Paging.{MakesNoneOf}
use Rattle.head_service.proofs.Paging.{makes-none}
use Rattle.process_service.specs.Paging.{MakesPagesFor, MessageMisses}
use Rattle.process_service.specs.Standing.{Standing}
use Rattle.group_node.specs.Roles.{standing_in}
use Rattle.group_node.specs.declared.process.Role.{Role}
use Rattle.group_node.specs.declared.process.Role.TheVariants.{Data, Parity}

pub data-pages : (m : Message) (now inside : Role) (new old : Box Standing Global) (seen : Standing) → now ≡ Data new → inside ≡ Data old
    → standing_in inside ≡ seen → new.value.made ≡ old.value.made
    → MakesPagesFor m seen (standing_in now)
data-pages m now inside new old seen is was view same =
    let none : MakesPagesFor m old.value new.value = subst (λ (made : List ℕ). MakesNoneOf (MessageMisses old.value.shape.block m) old.value.made made)
    (sym same) (makes-none (MessageMisses old.value.shape.block m) old.value.made) in
    subst (λ (p : Standing). MakesPagesFor m p (standing_in now)) (sym (ap standing_in was) ∙ view)
    (subst (λ (p : Standing). MakesPagesFor m old.value p) (sym (ap standing_in is)) none)

pub parity-pages : (m : Message) (now inside : Role) (new old : Box Standing Global) (seen : Standing) → now ≡ Parity new → inside ≡ Parity old → standing_in inside ≡ seen
    → MakesPagesFor m old.value new.value → MakesPagesFor m seen (standing_in now)
parity-pages m now inside new old seen is was view made =
    subst (λ (p : Standing). MakesPagesFor m p (standing_in now)) (sym (ap standing_in was) ∙ view)
    (subst (λ (p : Standing). MakesPagesFor m old.value p) (sym (ap standing_in is)) made)
