use Rattle.std.proofs.Common.{◌&&◌, None, is_some, ap, sym, ◌∙◌}
use Rattle.std.specs.List.{list_all}
use Rattle.group_types.specs.Lists.{at}
use Rattle.block_sessions.proofs.Lost.{complete_is}
use Rattle.block_sessions.proofs.session.OpenSession.is_complete.Goals as goal

pub returns-then-is_complete : goal.returns-then-is_complete
returns-then-is_complete c =
    let g = c.args.self.now in
    c.is_complete-then-is_complete.ensures
    ∙ (sym (ap (λ t. t && list_all (λ n. is_some (at None g.coded.parts n)) g.coded.numbers) (sym c.is_complete.ensures
    ∙ c.if-is_complete.true)) ∙ complete_is c.args.shape g c.requires)

pub returns-else-is_complete : goal.returns-else-is_complete
returns-else-is_complete c =
    let g = c.args.self.now in
    c.if-is_complete.false
    ∙ (sym (ap (λ t. t && list_all (λ n. is_some (at None g.coded.parts n)) g.coded.numbers) (sym c.is_complete.ensures
    ∙ c.if-is_complete.false)) ∙ complete_is c.args.shape g c.requires)
