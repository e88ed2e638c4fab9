-- A process of either role after a step.
use Rattle.std.proofs.Common.{◌≡◌, sym, ap, subst, ◌∙◌, Box, Global}
use Rattle.process_service.specs.Standing.{Standing}
use Rattle.group_node.specs.declared.process.Role.{Role}
use Rattle.group_node.specs.declared.process.Role.TheVariants.{Data, Parity}
use Rattle.group_node.specs.Roles.{IsNamed, standing_in}

-- a process of the same name stays in its role
pub data-named : (now inside : Role) (new old : Box Standing Global) → now ≡ Data new → inside ≡ Data old
    → new.value.process.name ≡ old.value.process.name → IsNamed inside → IsNamed now
data-named now inside new old is was same named =
    let before = subst IsNamed was named in
    subst IsNamed (sym is) (before.0, same ∙ before.1)

pub parity-named : (now inside : Role) (new old : Box Standing Global) → now ≡ Parity new → inside ≡ Parity old
    → new.value.process.name ≡ old.value.process.name → IsNamed inside → IsNamed now
parity-named now inside new old is was same named =
    let before = subst IsNamed was named in
    subst IsNamed (sym is) (before.0, same ∙ before.1)

-- its name is the one that is seen
pub data-name : (now inside : Role) (new old : Box Standing Global) (seen : Standing) → now ≡ Data new → inside ≡ Data old
    → standing_in inside ≡ seen → new.value.process.name ≡ old.value.process.name
    → (standing_in now).process.name ≡ seen.process.name
data-name now inside new old seen is was view same =
    ap (λ (r : Role). (standing_in r).process.name) is ∙ same
    ∙ sym (ap (λ (r : Role). (standing_in r).process.name) was) ∙ ap (λ (v : Standing). v.process.name) view

pub parity-name : (now inside : Role) (new old : Box Standing Global) (seen : Standing) → now ≡ Parity new → inside ≡ Parity old
    → standing_in inside ≡ seen → new.value.process.name ≡ old.value.process.name
    → (standing_in now).process.name ≡ seen.process.name
parity-name now inside new old seen is was view same =
    ap (λ (r : Role). (standing_in r).process.name) is ∙ same
    ∙ sym (ap (λ (r : Role). (standing_in r).process.name) was) ∙ ap (λ (v : Standing). v.process.name) view
