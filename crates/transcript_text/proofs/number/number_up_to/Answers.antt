use Rattle.transcript_text.specs.Texts.{FitsNumber}
use Rattle.transcript_text.proofs.Numbers.{front-none}
use Rattle.transcript_text.proofs.number.number_up_to.Goals as goal

pub returns-in_err-number : goal.returns-in_err-number
returns-in_err-number c = rw c.from_residual-in_err-number.ensures
    (front-none FitsNumber c.args.byte c.args.line.now c.in_ok-word.word.now c.in_ok-word.rest.now c.requires
    (λ n fits. fits) c.in_ok-word.ensures.0 c.in_ok-word.ensures.1 (c.in_err-number.ensures))
