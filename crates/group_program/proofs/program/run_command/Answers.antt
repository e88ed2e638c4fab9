use Rattle.cluster_play.specs.Language.{cluster_scripts}
use Rattle.regroup_play.specs.Language.{era_scripts}
use Rattle.scenario_make.specs.Script.{script_text}
use Rattle.scenario_play.specs.Language.{group_scripts}
use Rattle.scenario_play.specs.declared.status.Status.TheVariants.{Done}
use Rattle.group_program.proofs.Accepting.{eras-told-not, groups-told-not, judged-not, listed-not, played-not, session-not, told-not, written-not}
use Rattle.group_program.proofs.program.run_command.Goals as goal

pub returns-in-Play-clause-accept : goal.returns-in-Play-clause-accept
returns-in-Play-clause-accept g c is = absurd (played-not group_scripts told-not _ _ c.play.result c.play.ensures.played is)

pub returns-in-PlayGroups-clause-accept : goal.returns-in-PlayGroups-clause-accept
returns-in-PlayGroups-clause-accept g c is = absurd (played-not cluster_scripts groups-told-not _ _ c.play_groups.result c.play_groups.ensures.played is)

pub returns-in-PlayRegroup-clause-accept : goal.returns-in-PlayRegroup-clause-accept
returns-in-PlayRegroup-clause-accept g c is = absurd (played-not era_scripts eras-told-not _ _ c.play_regroup.result c.play_regroup.ensures.played is)

pub returns-in-Make-clause-accept : goal.returns-in-Make-clause-accept
returns-in-Make-clause-accept g c is = absurd (written-not Done _ _ _ _ _ c.make.result c.make.ensures (λ done. cc done) is)

pub returns-in-Trial-clause-accept : goal.returns-in-Trial-clause-accept
returns-in-Trial-clause-accept g c is = absurd (written-not _ _ _ _ _ _ c.trial.result c.trial.ensures (told-not (script_text c.in-Trial.number)) is)

pub returns-in-Frames-clause-accept : goal.returns-in-Frames-clause-accept
returns-in-Frames-clause-accept g c is = absurd (listed-not _ _ c.list_frames.result c.list_frames.ensures.listed is)

pub returns-in-Session-clause-accept : goal.returns-in-Session-clause-accept
returns-in-Session-clause-accept g c is = absurd (session-not _ _ _ _ c.serve_session.result c.serve_session.ensures.session is)

pub returns-in-Verify-clause-accept : goal.returns-in-Verify-clause-accept
returns-in-Verify-clause-accept g c is = absurd (judged-not _ _ c.judge.result c.judge.ensures.judged is)
