-- What the transcript of a script of several groups tells: of each line its answer and what it logged, and in all the log.
use Rattle.std.specs.Prelude.{ℕ, ◌≡◌, ◌⊎◌, List, [], ◌∷◌, ◌++◌, codes, length, map, Option, Some, None, Ok}
use Rattle.std.specs.Fmt.{decimal}
use Rattle.scenario_text.specs.Meaning.{line_meaning}
use Rattle.scenario_text.specs.Texts.{answer_text}
use Rattle.scenario_text.specs.declared.line.Line.TheVariants.{Drain}
use Rattle.scenario_run.specs.Course.{Goes}
use Rattle.group_layout.specs.Cluster.{ClusterEntry, cluster_after, cluster_step}
use Rattle.group_layout.specs.declared.event.ClusterAnswer.{ClusterAnswer}
use Rattle.group_layout.specs.declared.event.ClusterAnswer.TheVariants.{AlreadyDead, Done, Inner, WrongGroup}
use Rattle.group_layout.specs.declared.event.ClusterEvent.{ClusterEvent}
use Rattle.group_cluster.specs.Plan.{Plan}
use Rattle.cluster_run.specs.Playing.{ClusterPlay, ClusterTurn, cluster_turn, next_of, opening_of}
use Rattle.cluster_run.specs.Script.{cluster_script_events, first_fault, plan_of, transcript}
use Rattle.cluster_run.specs.Texts.{cluster_entry_text}
use Rattle.law_told.specs.Lines.{TellsLines}

-- the line of an answer: that of a group is the line that a script of one group has of it
abbrev pub answer_line : ClusterAnswer → List ℕ
answer_line (Inner answer) = answer_text answer
answer_line (WrongGroup j) = codes "wrong_group " ++ decimal j
answer_line Done = codes "done"
answer_line AlreadyDead = codes "already_dead"

-- the one event of a line is answered
pub record IsClusterAnswer (p : ClusterPlay) (turns : List ClusterTurn) (said : List (List ℕ)) : Type 0 where
  pub event : ClusterEvent
  pub only : turns ≡ cluster_turn p.cluster event ∷ []
  pub answer : said ≡ answer_line (cluster_step p.cluster event).answer ∷ []

-- deliveries are counted
pub record IsCounted (p : ClusterPlay) (line : List ℕ) (turns : List ClusterTurn) (said : List (List ℕ)) : Type 0 where
  pub drains : line_meaning (Some p.cluster.groups.shape) line ≡ Ok Drain
  pub many : said ≡ (codes "drained " ++ decimal (length turns)) ∷ []

-- what a line says beside the log: anything where it does nothing
abbrev pub IsSaidOfCluster : ClusterPlay → List ℕ → List ClusterTurn → List (List ℕ) → Type 0
IsSaidOfCluster p line turns said = (turns ≡ []) ⊎ (IsClusterAnswer p turns said ⊎ IsCounted p line turns said)

-- the events of turns
abbrev pub cluster_events_in : List ClusterTurn → List ClusterEvent
cluster_events_in turns = map (λ turn. turn.event) turns

-- what a line writes is that, and the entries by which its events prolong the log
pub record ClusterLineTells (p : ClusterPlay) (line : List ℕ) (turns : List ClusterTurn) (text : List ℕ) : Type 0 where
  pub said : List (List ℕ)
  pub is_said : IsSaidOfCluster p line turns said
  pub logged : List ClusterEntry
  pub grows : (cluster_after p.cluster (cluster_events_in turns)).groups.log ≡ p.cluster.groups.log ++ logged
  pub tells : TellsLines cluster_entry_text text logged said

abbrev pub ClusterLinesTell : Type 0
ClusterLinesTell = (p : ClusterPlay) (line : List ℕ) (next : Option ClusterPlay) (turns : List ClusterTurn)
    (text : List ℕ) → next_of (Some p) line ≡ Goes next turns text → ClusterLineTells p line turns text

-- the lines of a transcript that begin with `=` are the log of all groups at the end
pub record HasClusterLog (text : List ℕ) : Type 0 where
  pub plan : Plan
  pub named : plan_of text ≡ Some plan
  pub said : List (List ℕ)
  pub tells : TellsLines cluster_entry_text (transcript text) (cluster_after (opening_of plan) (cluster_script_events text)).groups.log said

abbrev pub ClusterTranscriptsTell : Type 0
ClusterTranscriptsTell = (text : List ℕ) → first_fault text ≡ None → HasClusterLog text
