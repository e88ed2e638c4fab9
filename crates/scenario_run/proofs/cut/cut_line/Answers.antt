use Rattle.std.proofs.Common.{ℕ, ◌+◌, List, ◌∷◌, length, take, sym, ap, ◌∙◌, arith}
use Rattle.std.proofs.Math.Seq.{drop-length}
use Rattle.std.proofs.lemmas.List.{take_rest}
use Rattle.scenario_run.specs.Lines.{lines_of}
use Rattle.scenario_run.proofs.Cutting.{lines_of-cut, lines_of-last}
use Rattle.scenario_run.proofs.cut.cut_line.Goals as goal

pub returns-in-Some-clause-lines : goal.returns-in-Some-clause-lines
returns-in-Some-clause-lines c =
    lines_of-cut c.args.text.now c.in-Some.end c.in-Some.ensures.0.high (λ k below. c.in-Some.ensures.0.before k (omega arith) below) c.in-Some.ensures.1
    ∙ ap (λ (rest : List ℕ). take c.in-Some.end c.args.text.now ∷ lines_of rest) (sym (take_rest c.args.text.now (c.in-Some.end + 1)))

pub returns-in-None-clause-lines : goal.returns-in-None-clause-lines
returns-in-None-clause-lines c =
    lines_of-last c.args.text.now c.requires (λ k below. c.in-None.ensures k (omega arith) below)
    ∙ ap (λ (rest : List ℕ). c.args.text.now ∷ lines_of rest) (sym (take_rest c.args.text.now (length c.args.text.now) ∙ drop-length c.args.text.now))
