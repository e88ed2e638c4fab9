use Rattle.std.proofs.Common.{ap, ◌∙◌, arith}
use Rattle.run_alloc.specs.Kept.{KeptRuns}
use Rattle.run_alloc.proofs.Best.{whole_in_set, none_in_set}
use Rattle.run_alloc.proofs.FreeRuns.new.Goals.{then-size-gt0, else-size-gt0}
use Rattle.run_alloc.proofs.FreeRuns.new.Goals as goal

pub returns-clause-free : goal.returns-clause-free
returns-clause-free c =
    let empty = c.in_ok-reserve.ensures.runs ∙ c.in_ok-kept.ensures.runs in
    elim c.if-size-gt0.branch [
      | then-size-gt0 w ↦ rw w.kept-is (whole_in_set _ _ _ empty w.add.ensures.joined)
      | else-size-gt0 w ↦ none_in_set _ _ (ap (λ (k : KeptRuns). k.runs) w.kept-is ∙ empty) (omega arith)
    ]
