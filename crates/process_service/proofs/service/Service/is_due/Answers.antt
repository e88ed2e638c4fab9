use Rattle.std.proofs.Common.{ℕ, ◌≡◌, Bool, true, false, not, ◌&&◌, Option, None, is_some, ap, sym, ◌∙◌}
use Rattle.std.specs.List.{list_all, range_with_len}
use Rattle.group_types.specs.Lists.{at}
use Rattle.group_types.specs.declared.process.ProcessId.{ProcessId}
use Rattle.group_types.specs.declared.process.ProcessId.TheVariants.{DataNode, ParityNode}
use Rattle.membership.specs.Members.{Membership, knows_dead}
use Rattle.group_run.specs.Process.{Head}
use Rattle.head_service.specs.Serving.{Serving}
use Rattle.process_service.specs.Noticing.{is_due}
use Rattle.process_service.proofs.Lent.{HasPlace, head-at}
use Rattle.process_service.proofs.service.Service.is_due.Goals as goal

headed : (known : Membership) (name : ProcessId) (i d : ℕ) (head : Option Head) → name ≡ ParityNode i → is_some head ≡ true → is_due known name d head ≡ false
headed known name i d head is some =
    ap (λ (x : ProcessId). is_due known x d head) is
    ∙ ap (λ (x : Bool). not x && knows_dead known (DataNode d) && list_all (λ j. knows_dead known (ParityNode j)) (range_with_len 0 i)) some

unheaded : (known : Membership) (name : ProcessId) (i d : ℕ) (head : Option Head) → name ≡ ParityNode i
    → is_some head ≡ false → knows_dead known (DataNode d) ≡ true
    → is_due known name d head ≡ list_all (λ j. knows_dead known (ParityNode j)) (range_with_len 0 i)
unheaded known name i d head is none dead =
    ap (λ (x : ProcessId). is_due known x d head) is
    ∙ ap (λ (x : Bool). not x && knows_dead known (DataNode d) && list_all (λ j. knows_dead known (ParityNode j)) (range_with_len 0 i)) none
    ∙ ap (λ (x : Bool). x && list_all (λ j. knows_dead known (ParityNode j)) (range_with_len 0 i)) dead

pub returns-then-is_some : goal.returns-then-is_some
returns-then-is_some c =
    let name : c.args.self.now.name ≡ ParityNode c.in-ParityNode.i = ap (λ (v : Serving). v.name) (sym c.self.view_is) ∙ c.in-ParityNode.is in
    let place : HasPlace c.self.inside c.args.self.now c.args.partition.0 =
    record { view = c.self.view_is; kept = c.self.invariant; below = c.requires.partition } in
    sym (headed c.args.known c.args.self.now.name c.in-ParityNode.i c.args.partition.0 (at None c.args.self.now.heads c.args.partition.0) name
    (ap is_some (head-at place c.index.result.now c.index.ensures) ∙ sym c.is_some.ensures ∙ c.if-is_some.true))

pub returns-then-is_dead : goal.returns-then-is_dead
returns-then-is_dead c =
    let name : c.args.self.now.name ≡ ParityNode c.in-ParityNode.i = ap (λ (v : Serving). v.name) (sym c.self.view_is) ∙ c.in-ParityNode.is in
    let place : HasPlace c.self.inside c.args.self.now c.args.partition.0 =
    record { view = c.self.view_is; kept = c.self.invariant; below = c.requires.partition } in
    c.are_dead.ensures
    ∙ sym (unheaded c.args.known c.args.self.now.name c.in-ParityNode.i c.args.partition.0
    (at None c.args.self.now.heads c.args.partition.0) name
    (ap is_some (head-at place c.index.result.now c.index.ensures) ∙ sym c.is_some.ensures ∙ c.if-is_some.false) (sym c.is_dead.ensures ∙ c.if-is_dead.true))
