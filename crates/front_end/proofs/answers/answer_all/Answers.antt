use Rattle.std.proofs.Common.{refl, ◌∙◌, arith}
use Rattle.front_end.proofs.Handing.{on_fault}
use Rattle.front_end.proofs.Stepping.{up_to-none, up_to-more, up_to-broken}
use Rattle.front_end.proofs.answers.answer_all.Goals as goal

pub requests-init : goal.requests-init
requests-init g c = record { up_to = up_to-none _ _ _ _; kept = refl; quits = refl; count = refl; later = omega arith }

pub requests-preserved : goal.requests-preserved
requests-preserved g c = record {
  up_to = up_to-more _ _ _ _ _ _ _ _ c.requests.invariant.up_to c.in_ok-answer_next.ensures.answer;
  kept = c.in_ok-answer_next.ensures.kept ∙ c.requests.invariant.kept;
  quits = c.in_ok-answer_next.ensures.quits ∙ c.requests.invariant.quits;
  count = c.in_ok-answer_next.ensures.count ∙ c.requests.invariant.count;
  later = omega (arith, c.requests.invariant.later, c.in_ok-answer_next.ensures.cause.later);
}

pub returns-in_err-answer_next-clause-answer : goal.returns-in_err-answer_next-clause-answer
returns-in_err-answer_next-clause-answer g c = on_fault _ _ c.from_residual.result _ c.from_residual.ensures.1
    (up_to-broken _ _ _ _ _ _ _ _ c.requests.invariant.up_to c.in_err-answer_next.ensures.broken)
