-- Answers of a cluster along every list of its events.
use Rattle.std.proofs.Common.{◌≡◌, List, sym, ap, subst, ◌∙◌}
use Rattle.group_calls.specs.Within.{AnswersWithin}
use Rattle.group_run.specs.World.{turns_of}
use Rattle.group_layout.specs.Cluster.{Cluster, Move, all_moved, cluster_turns, opening_cluster, turns_made}
use Rattle.group_layout.specs.Promise.{AnswersAreWithin, MakesARun}
use Rattle.group_layout.specs.Within.{turns_in}
use Rattle.group_layout.proofs.Answering.{within-in}
use Rattle.group_layout.proofs.Happening.{all-may, all_moves, even-start, turns-after}
use Rattle.group_layout.proofs.Runs.{makes-a-run}

pub answers_are_within : AnswersAreWithin
answers_are_within s n count es limits layout may =
    let c : Cluster = opening_cluster s n count in
    let moves : List Move = all_moves c es in
    within-in s.k (cluster_turns c es) (λ j.
    let run : MakesARun s (all_moved c.groups moves) (turns_made c.groups moves) j =
    makes-a-run s count moves limits (all-may s count c es (even-start s count) may) j in
    let same : turns_in j (cluster_turns c es) ≡ turns_of s run.events = ap (turns_in j) (turns-after c es) ∙ run.turns in
    subst (AnswersWithin s.k) (sym same) run.headline.one_log.within)
