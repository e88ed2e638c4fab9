-- No command but `serve` tells of a listener.
use Rattle.std.proofs.Common.{◌≡◌, ◌≢◌, ℕ, ◌⊎◌, inl, inr, Bool, true, false, if◌then◌else◌, nat_lt, List, length, Option, Some, None, sym, ◌∙◌}
use Rattle.edge_io.specs.Faults.{Rose}
use Rattle.cluster_play.specs.Language as cluster
use Rattle.cluster_run.specs.Script as clusters
use Rattle.cluster_run.specs.declared.fault.ClusterFault.{ClusterFault}
use Rattle.cluster_run.specs.declared.fault.ClusterFault.TheVariants as cluster-line
use Rattle.group_cluster.specs.declared.layout.LayoutField.TheVariants as field
use Rattle.group_types.specs.Dimensions.{Dimensions}
use Rattle.scenario_text.specs.declared.line.LineFault.{LineFault}
use Rattle.scenario_text.specs.declared.line.LineFault.TheVariants as line
use Rattle.scenario_run.specs.Course.{Fault}
use Rattle.scenario_run.specs.Script.{first_fault}
use Rattle.regroup_play.specs.Language.{era_scripts}
use Rattle.regroup_run.specs.Script as eras
use Rattle.scenario_play.specs.Language.{Language, status_told}
use Rattle.scenario_play.specs.Outside.{Outside}
use Rattle.scenario_play.specs.Played.{IsPlayed, IsTextWritten}
use Rattle.scenario_play.specs.Status.{IsStatusTold, longest_script, status_for, status_of_lines, told_at}
use Rattle.scenario_play.specs.declared.status.Status.{Status}
use Rattle.scenario_play.specs.declared.status.Status.TheVariants.{AcceptFault, TooLong, Want, WriteFault}
use Rattle.scenario_session.specs.declared.end.SessionEnd.{SessionEnd}
use Rattle.scenario_session.specs.declared.end.SessionEnd.TheVariants as end
use Rattle.wire_frames.specs.declared.status.FramesStatus.{FramesStatus}
use Rattle.wire_frames.specs.declared.status.FramesStatus.TheVariants as frames
use Rattle.run_verify.specs.declared.status.VerifyStatus.{VerifyStatus}
use Rattle.run_verify.specs.declared.status.VerifyStatus.TheVariants as verdict
use Rattle.group_program.specs.Verifying as verifying
use Rattle.group_program.specs.Verifying.{IsTranscriptJudged}
use Rattle.group_program.specs.Frames as listing
use Rattle.group_program.specs.Session as session
use Rattle.group_program.specs.Frames.{IsListed}
use Rattle.group_program.specs.Session.{HasToldLast, IsSession}

told_at-not : (n : ℕ) (cause : LineFault) → told_at n cause ≢ AcceptFault
told_at-not n line.BadLine is = cc is
told_at-not n (line.BadShape field) is = cc is
told_at-not n line.Want is = cc is

-- what is told of a script
pub told-not : (text : List ℕ) → status_for text ≢ AcceptFault
told-not text is = by (nat_lt longest_script (length text)) (first_fault text) is where
  by : (b : Bool) (fault : Option (Fault LineFault)) → (if b then TooLong else status_of_lines told_at fault) ≢ AcceptFault
  by true fault is = cc is
  by false None is = cc is
  by false (Some fault) is = told_at-not fault.number fault.cause is

-- and of one over eras
pub eras-told-not : (text : List ℕ) → status_told era_scripts text ≢ AcceptFault
eras-told-not text is = by (nat_lt longest_script (length text)) (eras.first_fault text) is where
  by : (b : Bool) (fault : Option (Fault LineFault)) → (if b then TooLong else status_of_lines told_at fault) ≢ AcceptFault
  by true fault is = cc is
  by false None is = cc is
  by false (Some fault) is = told_at-not fault.number fault.cause is

-- and of one of several groups
told_at-never : (n : ℕ) (cause : ClusterFault) → cluster.told_at n cause ≢ AcceptFault
told_at-never n cluster-line.BadLine is = cc is
told_at-never n (cluster-line.BadLayout field.Groups) is = cc is
told_at-never n (cluster-line.BadLayout field.Nodes) is = cc is
told_at-never n (cluster-line.BadLayout (field.Shape f)) is = cc is
told_at-never n cluster-line.Want is = cc is

pub groups-told-not : (text : List ℕ) → status_told cluster.cluster_scripts text ≢ AcceptFault
groups-told-not text is = by (nat_lt longest_script (length text)) (clusters.first_fault text) is where
  by : (b : Bool) (fault : Option (Fault ClusterFault)) → (if b then TooLong else status_of_lines cluster.told_at fault) ≢ AcceptFault
  by true fault is = cc is
  by false None is = cc is
  by false (Some fault) is = told_at-never fault.number fault.cause is

pub played-not : (l : Language) → ((text : List ℕ) → status_told l text ≢ AcceptFault) → (before now : Outside) (status : Status) → IsPlayed l before now status
    → status ≢ AcceptFault
played-not l never before now status played is = by played.told where
  by : IsStatusTold (status_told l played.script) before.reads now.reads before.writes now.writes status → ⊥
  by (inl same) = never played.script (sym same ∙ is)
  by (inr (inl want)) = cc (sym want ∙ is)
  by (inr (inr (inl read))) = cc (sym read.0 ∙ is)
  by (inr (inr (inr wrote))) = cc (sym wrote.0 ∙ is)

pub written-not : (wanted : Status) (text before now : List ℕ) (faults_before faults_now : ℕ) (status : Status)
    → IsTextWritten wanted text before now faults_before faults_now status
    → wanted ≢ AcceptFault → status ≢ AcceptFault
written-not wanted text before now faults_before faults_now status written not is = by written.told where
  by : (status ≡ wanted) ⊎ (status ≡ Want) ⊎ ((status ≡ WriteFault) × Rose faults_before faults_now) → ⊥
  by (inl same) = not (sym same ∙ is)
  by (inr (inl want)) = cc (sym want ∙ is)
  by (inr (inr wrote)) = cc (sym wrote.0 ∙ is)

ended-not : (wanted : Status) (before now : Outside) (status : Status) → HasToldLast wanted before now status → wanted ≢ AcceptFault → status ≢ AcceptFault
ended-not wanted before now status told not is = by told.is where
  by : (status ≡ wanted) ⊎ (status ≡ Want) → ⊥
  by (inl same) = not (sym same ∙ is)
  by (inr want) = cc (sym want ∙ is)

of_session : (e : SessionEnd) → session.status_of e ≢ AcceptFault
of_session end.Done is = cc is
of_session end.Cut is = cc is
of_session end.LineTooLong is = cc is
of_session end.Worn is = cc is
of_session end.ReadFault is = cc is
of_session end.WriteFault is = cc is
of_session end.Want is = cc is

of_frames : (e : FramesStatus) → listing.status_of e ≢ AcceptFault
of_frames frames.Done is = cc is
of_frames frames.Cut is = cc is
of_frames (frames.BadFrame at) is = cc is
of_frames frames.Worn is = cc is
of_frames frames.ReadFault is = cc is
of_frames frames.WriteFault is = cc is
of_frames frames.Want is = cc is

pub listed-not : (before now : Outside) (status : Status) → IsListed before now status → status ≢ AcceptFault
listed-not before now status listed = ended-not (listing.status_of listed.end) listed.middle now status listed.told (of_frames listed.end)

pub session-not : (d : Dimensions) (moment : Option ℕ) (before now : Outside) (status : Status) → IsSession d moment before now status → status ≢ AcceptFault
session-not d moment before now status (inl shaped) = ended-not _ before now status shaped.2 (λ is. cc is)
session-not d moment before now status (inr served) = ended-not (session.status_of served.1.end) served.1.middle now
    status served.1.told (of_session served.1.end)

of_verdict : (e : VerifyStatus) → verifying.status_of e ≢ AcceptFault
of_verdict verdict.Done is = cc is
of_verdict (verdict.Refused line) is = cc is
of_verdict (verdict.BadLine line) is = cc is
of_verdict (verdict.BadShape field) is = cc is
of_verdict verdict.TooLong is = cc is
of_verdict verdict.ReadFault is = cc is
of_verdict verdict.WriteFault is = cc is
of_verdict verdict.Want is = cc is

pub judged-not : (before now : Outside) (status : Status) → IsTranscriptJudged before now status → status ≢ AcceptFault
judged-not before now status judged = ended-not (verifying.status_of judged.end) judged.middle now status judged.told (of_verdict judged.end)
