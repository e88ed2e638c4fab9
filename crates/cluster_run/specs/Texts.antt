-- How answers of a cluster and entries of its log are written: as a group's, and of an entry its group behind the mark.
use Rattle.std.specs.Prelude.{ℕ, List, ◌++◌, codes}
use Rattle.std.specs.Fmt.{decimal}
use Rattle.scenario_text.specs.Texts.{answer_text}
use Rattle.scenario_run.specs.Marks.{entries_by, marked}
use Rattle.group_layout.specs.Cluster.{ClusterEntry}
use Rattle.group_layout.specs.declared.event.ClusterAnswer.{ClusterAnswer}
use Rattle.group_layout.specs.declared.event.ClusterAnswer.TheVariants.{AlreadyDead, Done, Inner, WrongGroup}

-- an answer
abbrev pub cluster_answer_text : ClusterAnswer → List ℕ
cluster_answer_text (Inner answer) = answer_text answer
cluster_answer_text (WrongGroup j) = codes "wrong_group " ++ decimal j
cluster_answer_text Done = codes "done"
cluster_answer_text AlreadyDead = codes "already_dead"

-- the mark `= ` of a log line, with a group
abbrev pub group_mark : ℕ → List ℕ
group_mark j = codes "= g" ++ decimal j ++ codes " "

-- an entry of the log: as in its group's log, with the group in its mark
abbrev pub cluster_entry_text : ClusterEntry → List ℕ
cluster_entry_text e = marked (group_mark e.0) e.1

-- entries of the log, each on a line
abbrev pub cluster_entries_text : List ClusterEntry → List ℕ
cluster_entries_text entries = entries_by cluster_entry_text entries
