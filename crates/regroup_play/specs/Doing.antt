-- When a line may come, and scripts over eras as they are played.
use Rattle.std.specs.Prelude.{ℕ, ◌≤◌, ◌^◌, ⊤, refl, Option, Some, None}
use Rattle.group_eras.specs.Promise.{EraMove, IsLed}
use Rattle.scenario_text.specs.declared.line.LineFault.{LineFault}
use Rattle.scenario_text.specs.declared.line.LineFault.TheVariants.{BadLine, Want}
use Rattle.scenario_play.specs.Group.{told-refused}
use Rattle.scenario_play.specs.Script.{TellsCauses, Scripts}
use Rattle.scenario_play.specs.Status.{told_at}
use Rattle.regroup_run.specs.Playing.{EraPlay, next_of}

-- moves led to the eras, and the moment is one of asks
pub record IsReadyEras (p : EraPlay) : Type 0 where
  pub led : IsLed p.eras
  pub moment : p.moment ≤ 2 ^ 62

-- a line may come
abbrev pub ErasGoOn : Option EraPlay → Type 0
ErasGoOn None = ⊤
ErasGoOn (Some p) = IsReadyEras p

-- scripts over eras, as they are played; what they log is not counted
abbrev pub era_script : Scripts EraPlay EraMove LineFault
era_script = record { rules = next_of; lacking = BadLine; want = Want; told = told_at; logged = λ play moves. 0; Ready = λ n play. ErasGoOn play }

-- what is told of a line that is refused
pub era_told : TellsCauses era_script
era_told = record { lacking = λ n. refl; want = λ n. refl; refused = told-refused }
