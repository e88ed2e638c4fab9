-- Numbers of answers stay so low that they fit with a base.
use Rattle.std.proofs.Common.{◌≡◌, ℕ, ◌<◌, List, sym, ap, subst, ◌∙◌}
use Rattle.std.specs.Prelude.{All}
use Rattle.group_types.specs.Hash.{home_of}
use Rattle.group_types.specs.declared.process.ProcessId.{ProcessId}
use Rattle.memc_table.specs.Act.{key_of}
use Rattle.memc_table.specs.Asked.{Asked}
use Rattle.group_calls.specs.declared.event.Answer.{Answer}
use Rattle.group_calls.specs.declared.event.Event.TheVariants.{Ask}
use Rattle.group_run.specs.Headline.{MayCome}
use Rattle.group_run.specs.World.{World, step}
use Rattle.group_core.specs.Runs.{HasRun}
use Rattle.group_eras.specs.Told.{Bases, op_for_era, without_base}
use Rattle.group_regroup.specs.Fitting.{AnswerFits}
use Rattle.group_regroup.specs.Kept.{IsLowBase}
use Rattle.group_regroup.specs.Laws.{NumbersFit, NumbersFitAlways}
use Rattle.group_regroup.proofs.Keys.{key-same, value-same}

numbers-of : NumbersFitAlways → (w : World) → HasRun w → NumbersFit w
numbers-of always w has = subst NumbersFit (sym has.is) (always w.shape has.events has.run)

-- an ask whose op is changed may come where it may as it is
pub changed-may : (w : World) (bases : Bases) (caller : ℕ) (op : Asked) (p : ProcessId) → MayCome w (Ask caller op p)
    → MayCome w (Ask caller (op_for_era bases w.shape.k op) p)
changed-may w bases caller op p (low, pin, bytes) = (
  low,
  pin,
  subst (All (λ b. b < 256))
      (sym (value-same (without_base bases (home_of (key_of op.act) w.shape.k)) op.act)) bytes,
)

pub ask-fits : NumbersFitAlways → (w : World) → HasRun w → (bases : Bases) (caller : ℕ) (op : Asked) (p : ProcessId)
    → All IsLowBase bases → w.events < 4611686018427387904 → MayCome w (Ask caller op p)
    → (d : ℕ) (a : Answer) → d ≡ home_of (key_of op.act) w.shape.k → a ≡ (step w (Ask caller (op_for_era bases w.shape.k op) p)).turn.answer
    → AnswerFits bases d a
ask-fits always w has bases caller op p low events may d a home answer =
    subst (λ (n : ℕ). AnswerFits bases n a)
    (sym (home ∙ ap (λ (key : List ℕ). home_of key w.shape.k)
    (sym (key-same (without_base bases (home_of (key_of op.act) w.shape.k)) op.act))))
    (subst (AnswerFits bases (home_of (key_of (op_for_era bases w.shape.k op).act) w.shape.k)) (sym answer)
    (numbers-of always w has bases (Ask caller (op_for_era bases w.shape.k op) p) low events (changed-may w bases caller op p may)))
