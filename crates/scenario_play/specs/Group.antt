-- Scripts of one group, as they are played.
use Rattle.std.specs.Prelude.{◌≡◌, ℕ, ◌+◌, ◌*◌, ◌^◌, ◌≤◌, ◌⊎◌, List, length, Option, Some, None, refl, ⊤}
use Rattle.std.proofs.Common.{inl, inr}
use Rattle.group_types.specs.Dimensions.{Dimensions}
use Rattle.group_calls.specs.Turns.{Turn, log_of}
use Rattle.group_calls.specs.declared.event.Event.{Event}
use Rattle.group_run.specs.Headline.{IsRun}
use Rattle.group_run.specs.Progress.{load_of}
use Rattle.group_run.specs.World.{after}
use Rattle.scenario_text.specs.declared.line.LineFault.{LineFault}
use Rattle.scenario_text.specs.declared.line.LineFault.TheVariants.{BadLine, BadShape, Want}
use Rattle.scenario_run.specs.Playing.{Play, next_of}
use Rattle.scenario_play.specs.Script.{TellsCauses, Scripts}
use Rattle.scenario_play.specs.Status.{TellsOfLine, told_at}
use Rattle.scenario_play.specs.declared.status.Status.TheVariants as status

-- the events that a group made, and those that can drain it, are at most n
abbrev pub IsLightPlay : ℕ → Play → Type 0
IsLightPlay n p = p.world.events + load_of p.world ≤ n

-- the most by which a line raises them
abbrev pub most_of_a_line : ℕ
most_of_a_line = 2 ^ 18

-- a line of this number may come: a run led to the group, and its events are few
pub record IsLightAt (n : ℕ) (p : Play) : Type 0 where
  pub shape : Dimensions
  pub events : List Event
  pub run : IsRun shape events
  pub is : p.world ≡ after shape events
  pub light : IsLightPlay (n * most_of_a_line) p

abbrev pub PlayGoesOn : ℕ → Option Play → Type 0
PlayGoesOn n None = ⊤
PlayGoesOn n (Some p) = IsLightAt n p

-- how many entries a script's group has logged
abbrev pub log_len : Option Play → ℕ
log_len None = 0
log_len (Some p) = length p.world.log

abbrev pub group_script : Scripts Play Turn LineFault
group_script = record { rules = next_of; lacking = BadLine; want = Want; told = told_at; logged = λ play turns. log_len play + length (log_of turns); Ready = PlayGoesOn }

-- what is told of a line that is refused
pub told-refused : (n : ℕ) (cause : LineFault) → (told_at n cause ≡ status.Want) ⊎ TellsOfLine (told_at n cause)
told-refused n BadLine = inr tt
told-refused n (BadShape field) = inr tt
told-refused n Want = inl refl

pub group_told : TellsCauses group_script
group_told = record { lacking = λ n. refl; want = λ n. refl; refused = told-refused }
