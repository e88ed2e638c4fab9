-- What is promised of a history.
use Rattle.std.proofs.Common.{ℕ, zero, suc, ◌≡◌, List, [], ◌∷◌, All, Option, Some, None, replicate, false, take, refl, sym, ap, subst, ◌∙◌}
use Rattle.std.specs.Prelude.{slice_get, slice_index_or}
use Rattle.std.proofs.lemmas.Option.{slice_get-get_or}
use Rattle.group_types.specs.Dimensions.{Dimensions}
use Rattle.group_types.specs.Each.{Each}
use Rattle.memc_table.specs.Contents.{empty_table}
use Rattle.group_calls.specs.Log.{IsLegal}
use Rattle.group_calls.specs.Within.{AnswersWithin}
use Rattle.group_run.specs.World.{turns_of}
use Rattle.group_layout.specs.Cluster.{Cluster, ClusterEntry, GroupTurn, Groups, MayAllMove, Move, all_moved, moves_of, opening_cluster, turns_made}
use Rattle.group_layout.specs.Legal.{IsClusterLegal, no_items}
use Rattle.group_layout.specs.Promise.{AreRuns, IsOwn, MakesARun, entries_in}
use Rattle.group_layout.specs.Within.{ClusterAnswersWithin, turns_in}
use Rattle.group_layout.proofs.Answering.{within-in}
use Rattle.group_layout.proofs.Happening.{Even, even-start}
use Rattle.group_layout.proofs.Legals.{legal-from}
use Rattle.group_layout.proofs.Owning.{AreOwn, AsksOwn, TurnsOwn, each-append, moves-own, own-entry, turns-own}
use Rattle.group_layout.proofs.Runs.{makes-a-run, moves_are_runs}
use Rattle.group_layout.proofs.Tables.{each-of}
use Rattle.group_cluster.specs.History.{Happening, HasHistory, MayAll, all_turns, first_made, happened, moves_made}
use Rattle.group_cluster.specs.Promise.{HasClusterPromise, nodes_touched, turns_to}
use Rattle.group_cluster.proofs.Borne.{all-failed, borne}
use Rattle.group_cluster.proofs.Histories.{all_made, all-may-made, even-happened, groups-made, turns-of-made}

-- moves of own calls, and the first of them
own-take : (k count : ℕ) (ms : List Move) (n : ℕ) → AreOwn k count ms → AreOwn k count (take n ms)
own-take k count ms zero own = tt
own-take k count [] (suc n) own = tt
own-take k count (m ∷ ms) (suc n) own = (own.0, own-take k count ms n own.1)

own-first : (k count : ℕ) (ms : List Move) (made : Option ℕ) → AreOwn k count ms → AreOwn k count (first_made made ms)
own-first k count ms None own = own
own-first k count ms (Some n) own = own-take k count ms n own

all-own : (s : Dimensions) (count : ℕ) (c : Cluster) (hs : List Happening) → Even s count c.groups → MayAll c hs → TurnsOwn s.k count (all_turns c hs)
all-own s count c [] even may = tt
all-own s count c (h ∷ hs) even may =
    each-append (λ t. AsksOwn s.k count t.group t.turn.event) (turns_made c.groups (moves_made c h)) (all_turns (happened c h) hs)
    (turns-own s.k count c.groups (moves_made c h) (own-first s.k count (moves_of c h.event) h.made (moves-own s count c h.event even)))
    (all-own s count (happened c h) hs (even-happened s count c h even may.0) may.1)

module _ (c : Cluster) (led : HasHistory c) where
  abbrev s : Dimensions
  s = led.s

  abbrev start : Cluster
  start = opening_cluster led.s led.n led.count

  abbrev moves : List Move
  moves = all_made start led.history

  abbrev turns : List GroupTurn
  turns = turns_to c led

  may : MayAllMove start.groups moves
  may = all-may-made s led.count start led.history (even-start s led.count) led.may

  groups-are : c.groups ≡ all_moved start.groups moves
  groups-are = ap (λ (x : Cluster). x.groups) led.is ∙ groups-made start led.history

  turns-are : turns ≡ turns_made start.groups moves
  turns-are = turns-of-made start led.history

  runs : AreRuns s led.count c.groups turns
  runs =
      subst (λ (g : Groups). AreRuns s led.count g turns) (sym groups-are)
      (subst (λ (ts : List GroupTurn). AreRuns s led.count (all_moved start.groups moves) ts) (sym turns-are) (moves_are_runs s led.count moves led.limits may))

  run-of : (j : ℕ) → MakesARun s (all_moved start.groups moves) (turns_made start.groups moves) j
  run-of j = makes-a-run s led.count moves led.limits may j

  within : ClusterAnswersWithin s.k turns
  within = within-in s.k turns (λ j.
      let run : MakesARun s (all_moved start.groups moves) (turns_made start.groups moves) j = run-of j in
      let same : turns_in j turns ≡ turns_of s run.events = ap (turns_in j) turns-are ∙ run.turns in
      subst (AnswersWithin s.k) (sym same) run.headline.one_log.within)

  own : All (IsOwn s.k led.count) c.groups.log
  own i d below =
      own-entry s.k led.count turns i (slice_index_or c.groups.log i d) (all-own s led.count start led.history (even-start s led.count) led.may) within
      (ap (λ (l : List ClusterEntry). slice_get l i) (sym runs.log) ∙ slice_get-get_or c.groups.log i d below)

  legal : IsClusterLegal s.k c.groups.log
  legal =
      legal-from s.k led.count (no_items s.k) (λ j. empty_table s.k) c.groups.log (record { counts = λ j. refl; items = λ key. refl })
      (each-of (IsOwn s.k led.count) c.groups.log own)
      (λ j. subst (λ (g : Groups). IsLegal s.k (entries_in j g.log)) (sym groups-are) ((run-of j).legal))

  failed : Each (λ h. h.made ≡ None) led.history → c.failed ≡ nodes_touched c led
  failed whole = ap (λ (x : Cluster). x.failed) led.is ∙ all-failed (replicate led.n false) start led.history refl whole

  pub promised : HasClusterPromise c
  promised = record { led = led; runs = runs; legal = legal; own = own; within = within; borne = borne c led; failed = failed }
