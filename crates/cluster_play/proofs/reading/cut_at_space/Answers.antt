use Rattle.std.proofs.Common.{ℕ, ◌+◌, List, take, Some, sym, ap, ◌∙◌, arith}
use Rattle.std.proofs.lemmas.List.{take_rest}
use Rattle.cluster_play.proofs.Cuts.{cut-at, cut-none}
use Rattle.cluster_play.proofs.reading.cut_at_space.Goals as goal

pub returns-in-Some : goal.returns-in-Some
returns-in-Some c =
    cut-at c.args.line.now c.in-Some.end c.in-Some.ensures.0.high (λ k below. c.in-Some.ensures.0.before k (omega arith) below) c.in-Some.ensures.1
    ∙ ap (λ (rest : List ℕ). Some (take c.in-Some.end c.args.line.now, rest)) (sym (take_rest c.args.line.now (c.in-Some.end + 1)))

pub returns-in-None : goal.returns-in-None
returns-in-None c = cut-none c.args.line.now (λ k below. c.in-None.ensures k (omega arith) below)
