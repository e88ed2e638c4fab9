-- What comes of the command that the words say.
use Rattle.std.specs.Prelude.{◌≡◌, ℕ, List, Option, Some, None, ⊤}
use Rattle.command_line.specs.declared.command.Command.{Command}
use Rattle.command_line.specs.declared.command.Command.TheVariants.{Carry, Frames, Member, Play, PlayGroups}
use Rattle.command_line.specs.declared.command.Command.TheVariants.{PlayRegroup, Make, Serve, Session, Trial, Verify}
use Rattle.command_line.specs.declared.command.Command.TheVariants.{Watch}
use Rattle.cluster_play.specs.Language.{cluster_scripts}
use Rattle.regroup_play.specs.Language.{era_scripts}
use Rattle.group_server.specs.Service.{Tally}
use Rattle.scenario_make.specs.Script.{script_text}
use Rattle.scenario_play.specs.Language.{group_scripts}
use Rattle.scenario_play.specs.Outside.{Outside, TellsFront}
use Rattle.scenario_play.specs.Played.{IsPlayed, IsTextWritten}
use Rattle.scenario_play.specs.Status.{status_for}
use Rattle.scenario_play.specs.Trial.{trial_text}
use Rattle.scenario_play.specs.declared.status.Status.{Status}
use Rattle.scenario_play.specs.declared.status.Status.TheVariants.{BadWords, Done, Want}
use Rattle.group_program.specs.Frames.{IsListed}
use Rattle.group_program.specs.Serving.{IsGroupServed}
use Rattle.group_program.specs.Session.{HasToldLast, IsSession}
use Rattle.group_program.specs.Verifying.{IsTranscriptJudged}

-- what comes of a command, which is none where the words say none, over a listener that listens and tells so; of `member`,
-- `watch` and `carry`, which go over a machine, `IsMember`, `IsWatched` and `IsCarry` say it
module _ {L : Type 0} (listened : L → List ℕ → L → Type 0) (tells : L → Tally) (l l_now : L) where
  abbrev pub HasCarriedOut : Option Command → Option ℕ → Outside → Outside → Status → Type 0
  HasCarriedOut None moment before now status = HasToldLast BadWords before now status
  HasCarriedOut (Some Play) moment before now status = IsPlayed group_scripts before now status
  HasCarriedOut (Some PlayGroups) moment before now status = IsPlayed cluster_scripts before now status
  HasCarriedOut (Some PlayRegroup) moment before now status = IsPlayed era_scripts before now status
  HasCarriedOut (Some Verify) moment before now status = IsTranscriptJudged before now status
  HasCarriedOut (Some (Make n)) moment before now status = IsTextWritten Done (script_text n) before.held now.held before.writes now.writes status
  HasCarriedOut (Some (Trial n)) moment before now status = IsTextWritten (status_for (script_text n)) (trial_text n)
      before.held now.held before.writes now.writes status
  HasCarriedOut (Some (Session k m blocks block)) moment before now status =
      IsSession (record { k = k; m = m; blocks = blocks; block = block }) moment before now status
  HasCarriedOut (Some Serve) moment before now status = IsGroupServed listened tells l l_now before now status
  HasCarriedOut (Some (Member name)) moment before now status = ⊤
  HasCarriedOut (Some (Watch name)) moment before now status = ⊤
  HasCarriedOut (Some Carry) moment before now status = ⊤
  HasCarriedOut (Some Frames) moment before now status = IsListed before now status

-- there was no memory to read the words
pub record HasNoMemoryForWords (before now : List ℕ) (status : Status) : Type 0 where
  pub want : status ≡ Want
  pub told : TellsFront before now Want
