use Rattle.std.proofs.Common.{◌≡◌, List, get_or, sym, ◌∙◌, subst}
use Rattle.memc_proto.specs.declared.request.Request.{Request}
use Rattle.front_end.proofs.Settling.{key-settled}
use Rattle.front_end.proofs.waiting.Waiting.settle.Goals as goal

pub returns-else-branch-clause-settled : goal.returns-else-branch-clause-settled
returns-else-branch-clause-settled g c = key-settled _ _ _ c.self.inside.keys c.self.inside.answered c.self.inside.given
    _ c.index-requests-self.result c.self.view_is c.requires.due
    (subst (λ (rs : List Request). c.index-requests-self.result ≡ get_or rs c.self.inside.answered
    c.index-requests-self.result) c.requests.ensures c.index-requests-self.is)
    c.in_ok-settle_at.ensures.whole (sym c.in_ok-settle_at.ensures.last ∙ c.if-branch.false)
