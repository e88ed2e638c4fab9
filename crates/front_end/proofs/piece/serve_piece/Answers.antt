use Rattle.std.proofs.Common.{inl, ◌∙◌}
use Rattle.front_end.proofs.Piecing.{served-halted, served-closed, read-as}
use Rattle.front_end.proofs.piece.serve_piece.Goals as goal

pub returns-in_err-answer_all-clause-served : goal.returns-in_err-answer_all-clause-served
returns-in_err-answer_all-clause-served g c = λ input earlier has_read none. served-halted _ _ _ _ _ _ _ _ _ _ _ _
    c.from_residual-in_err-answer_all.result
    (read-as _ _ _ _ c.in_err-answer_all.ensures.kept (c.in_ok-take.ensures.taken input earlier has_read))
    c.in_err-answer_all.ensures.cause (inl c.in_err-answer_all.ensures.answer) c.from_residual-in_err-answer_all.ensures.1

pub returns-clause-served : goal.returns-clause-served
returns-clause-served g c = λ input earlier has_read none. served-closed _ _ _ _ _ _ _ _ _ _ _ _ c.close.result
    (read-as _ _ _ _ c.in_ok-answer_all.ensures.kept (c.in_ok-take.ensures.taken input earlier has_read)) none
    (c.in_ok-answer_all.ensures.quits ∙ c.in_ok-take.ensures.quits) c.in_ok-answer_all.ensures.answer
    (λ quit. c.close.ensures.closed _ _ (read-as _ _ _ _ c.in_ok-answer_all.ensures.kept (c.in_ok-take.ensures.taken input earlier has_read)) quit)
