use Rattle.std.proofs.Common.{ℕ, suc, nat_lt, Option, Some, None, if◌then◌else◌, sym, ap, ◌∙◌}
use Rattle.group_run.specs.Asking.{Oldest, inherited_or}
use Rattle.group_run.specs.Process.{Head}
use Rattle.head_service.specs.Serving.{serving}
use Rattle.process_service.proofs.Lent.{HasPlace, head-at}
use Rattle.process_service.proofs.service.Service.inherited_at.Goals as goal

pub returns-in-None : goal.returns-in-None
returns-in-None c b =
    let place : HasPlace c.self.inside c.args.self.now c.args.partition.0 = record { view = c.self.view_is; kept = c.self.invariant; below = c.requires } in
    ap (λ (h : Option Head). inherited_or (serving c.args.self.now b) c.args.partition.0 h None)
    (head-at place c.index.result.now c.index.ensures ∙ c.in-None.is)

pub returns-in-Some : goal.returns-in-Some
returns-in-Some c b =
    let d : ℕ = c.args.partition.0 in
    let place : HasPlace c.self.inside c.args.self.now c.args.partition.0 = record { view = c.self.view_is; kept = c.self.invariant; below = c.requires } in
    let found : ℕ → ℕ → Option Oldest = λ applied inherited. if nat_lt applied inherited then Some (record { partition = d; number = suc applied }) else None in
    ap (λ (h : Option Head). inherited_or (serving c.args.self.now b) d h None) (head-at place c.index.result.now c.index.ensures ∙ c.in-Some.is)
    ∙ ap (λ (n : ℕ). found n c.in-Some.head.inherited) (sym c.applied.ensures)
    ∙ ap (found c.applied.result) (sym c.inherited.ensures)
    ∙ c.unfinished.ensures
