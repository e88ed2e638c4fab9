-- In which order a call takes the nodes of the processes that it names.
use Rattle.std.specs.Prelude.{◌≡◌, ℕ, ◌<◌, ⊤, List, ◌++◌, Result, Ok, Err}
use Rattle.std.specs.declared.alloc.AllocError.{AllocError}
use Rattle.group_types.specs.Dimensions.{Dimensions}
use Rattle.group_types.specs.Each.{Each, EachTwo}
use Rattle.group_types.specs.Names.{index_of}
use Rattle.group_stage.specs.declared.answer.StageAnswer.{StageAnswer}
use Rattle.group_stage.specs.declared.answer.StageAnswer.TheVariants.{Busy, Made, Worn}
use Rattle.group_stage.specs.declared.view.View.{View}

-- where a word was met held, those of these processes come before it
abbrev pub ComeBefore : Dimensions → List (ℕ × ℕ) → Result StageAnswer AllocError → Type 0
ComeBefore s words (Ok (Busy p)) = Each (λ c. c.0 < index_of s p) words
ComeBefore s words (Ok (Made a)) = ⊤
ComeBefore s words (Ok Worn) = ⊤
ComeBefore s words (Err e) = ⊤

-- the words that a call took it gave back in the opposite order: each is of a process behind those that it had taken before, and the
-- one that it met held of a process behind them all
pub record TookInOrder (v : View) (result : Result StageAnswer AllocError) (w : View) : Type 0 where
  pub words : List (ℕ × ℕ)
  pub cleared : w.cleared ≡ v.cleared ++ words
  pub falls : EachTwo (λ c d. d.0 < c.0) words
  pub before : ComeBefore v.shape words result
