-- The cluster's log is legal along every list of its events.
use Rattle.std.proofs.Common.{suc, List, [], ◌∷◌, All, refl, sym, subst, arith}
use Rattle.group_types.specs.Each.{Each}
use Rattle.memc_table.specs.Contents.{empty_table}
use Rattle.group_calls.specs.Log.{IsLegal}
use Rattle.group_layout.specs.Cluster.{Cluster, ClusterEntry, Groups, Move, all_moved, cluster_after, opening_cluster, turns_made}
use Rattle.group_layout.specs.Legal.{no_items}
use Rattle.group_layout.specs.Promise.{IsOwn, LogsAreLegal, MakesARun, entries_in}
use Rattle.group_layout.proofs.Happening.{all-may, all_moves, even-start, groups-after}
use Rattle.group_layout.proofs.Legals.{legal-from}
use Rattle.group_layout.proofs.Owning.{entries_are_own}
use Rattle.group_layout.proofs.Runs.{makes-a-run}

pub each-of : {X : Type 0} (P : X → Type 0) (xs : List X) → All P xs → Each P xs
each-of P [] all = tt
each-of P (x ∷ xs) all = (all 0 x (omega arith), each-of P xs (λ i d below. all (suc i) d (omega (arith, below))))

pub logs_are_legal : LogsAreLegal
logs_are_legal s n count es limits layout may =
    let c : Cluster = opening_cluster s n count in
    let moves : List Move = all_moves c es in
    let log : List ClusterEntry = (cluster_after c es).groups.log in
    legal-from s.k count (no_items s.k) (λ j. empty_table s.k) log (record { counts = λ j. refl; items = λ key. refl })
    (each-of (IsOwn s.k count) log (entries_are_own s n count es limits layout may)) (λ j.
    let run : MakesARun s (all_moved c.groups moves) (turns_made c.groups moves) j =
    makes-a-run s count moves limits (all-may s count c es (even-start s count) may) j in
    subst (λ (g : Groups). IsLegal s.k (entries_in j g.log)) (sym (groups-after c es)) run.legal)
