use Rattle.std.proofs.Common.{◌∷◌, [], drop, ap, sym, ◌∙◌, subst, arith}
use Rattle.std.proofs.lemmas.Bool.{eqb-false}
use Rattle.memc_proto.specs.declared.request.Request.{Request}
use Rattle.front_end.specs.Progress.{behind}
use Rattle.front_end.specs.Settling.{CallIsDue}
use Rattle.front_end.proofs.Walking.{need-key, need-change}
use Rattle.front_end.proofs.acts.need_at.Goals as goal

pub returns-else-is_empty : goal.returns-else-is_empty
returns-else-is_empty c = subst (λ (r : Request). CallIsDue (behind c.args.answered r ∷ [])) (sym c.in-Get.is)
    (need-key _ c.keys_behind.result.now c.in-Get.with_cas (c.keys_behind.ensures.keys ∙ ap (drop c.args.answered) c.keys.ensures)
    (omega (arith, eqb-false _ _ (sym c.is_empty.ensures ∙ c.if-is_empty.false))))

pub returns-in-Change : goal.returns-in-Change
returns-in-Change c = subst (λ (r : Request). CallIsDue (behind c.args.answered r ∷ [])) (sym c.in-Change.is) (need-change c.in-Change.act c.in-Change.noreply)
