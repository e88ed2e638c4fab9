-- The failure of a node, as an event of the cluster.
use Rattle.std.proofs.Common.{ℕ, ◌≡◌, ◌<◌, Bool, true, false, List, [], ◌++◌, length, take, Some, None, set, Result, Ok}
use Rattle.std.proofs.Common.{Err, if◌then◌else◌, sym, ap, subst, ◌∙◌}
use Rattle.std.specs.Prelude.{OnErr, slice_index_or}
use Rattle.std.specs.List.{range_with_len}
use Rattle.group_types.specs.Lists.{at, put}
use Rattle.group_types.proofs.Lists.{at_index, put-at, set_put}
use Rattle.group_layout.specs.Cluster.{Cluster, Groups, MayAllMove, Move, all_moved, cluster_step, failures, logged_in, moves_of, node_failure, turns_made}
use Rattle.group_layout.specs.declared.event.ClusterAnswer.TheVariants as says
use Rattle.group_layout.specs.declared.event.ClusterEvent.{ClusterEvent}
use Rattle.group_layout.specs.declared.event.ClusterEvent.TheVariants.{FailNode}
use Rattle.group_layout.proofs.Happening.{moves-may}
use Rattle.group_cluster.specs.Begun.{Begun}
use Rattle.group_cluster.specs.History.{HasHistory, IsCutShort}
use Rattle.group_cluster.proofs.Cutting.{failures-silent, first-moves}
use Rattle.group_cluster.proofs.Histories.{even-has, goes-on}

-- whether a node has failed, as it is read
pub read-failed : (xs : List Bool) (i : ℕ) (b : Bool) → i < length xs → b ≡ slice_index_or xs i b → at false xs i ≡ b
read-failed xs i b low read = at_index false b xs i low ∙ sym read

-- what holds is so at want of memory too
pub on-err-any : {X E P : Type 0} (r : Result X E) → P → OnErr r P
on-err-any (Ok x) p = tt
on-err-any (Err e) p = p

pub cut-alike : (c d : Cluster) (e : ClusterEvent) (after : Cluster) → c ≡ d → IsCutShort c e after → IsCutShort d e after
cut-alike c d e after same cut = subst (λ (x : Cluster). IsCutShort x e after) same cut

module _ (c : Cluster) (node keep : ℕ) (low : node < length c.failed) where
  abbrev pub all : List Move
  all = failures c.groups.shape (length c.failed) node keep (range_with_len 0 (length c.groups.worlds))

  abbrev moves-if : Bool → List Move
  moves-if b = if b then [] else node_failure c node keep

  answer-if : (b : Bool) → at false c.failed node ≡ b → (if b then says.AlreadyDead else says.Done) ≡ (cluster_step c (FailNode node keep)).answer
  answer-if b word = ap (λ (x : Bool). if x then says.AlreadyDead else says.Done) (sym word)

  -- a node that has failed
  module _ (word : at false c.failed node ≡ true) where
    same-failed : put false c.failed node true ≡ c.failed
    same-failed = ap (put false c.failed node) (sym word) ∙ put-at false false c.failed node low

    pub dead-step : c ≡ (cluster_step c (FailNode node keep)).cluster
    dead-step = λ i. record { failed = sym same-failed i; groups = all_moved c.groups (moves-if (sym word i)) }

    pub dead-answer : says.AlreadyDead ≡ (cluster_step c (FailNode node keep)).answer
    dead-answer = answer-if true word

    pub dead-logged : 0 ≡ length (logged_in (cluster_step c (FailNode node keep)).turns)
    dead-logged = ap (λ (b : Bool). length (logged_in (turns_made c.groups (moves-if b)))) (sym word)

  -- a node that hasn't
  module _ (word : at false c.failed node ≡ false) where
    pub lives-may : HasHistory c → MayAllMove c.groups all
    lives-may led = subst (λ (b : Bool). MayAllMove c.groups (moves-if b)) word (moves-may led.s led.count c (FailNode node keep) (even-has c led) low)

    pub lives-step : (g : Groups) → g ≡ all_moved c.groups all → record { failed = set c.failed node true; groups = g }
        ≡ (cluster_step c (FailNode node keep)).cluster
    lives-step g is = λ i. record {
      failed = set_put false c.failed node true low i;
      groups = (is ∙ ap (λ (b : Bool). all_moved c.groups (moves-if b)) (sym word)) i;
    }

    pub lives-answer : says.Done ≡ (cluster_step c (FailNode node keep)).answer
    lives-answer = answer-if false word

    pub lives-logged : 0 ≡ length (logged_in (cluster_step c (FailNode node keep)).turns)
    lives-logged =
        sym (ap (λ (b : Bool). length (logged_in (turns_made c.groups (moves-if b)))) word
        ∙ ap length (failures-silent c.groups.shape c.groups (length c.failed) node keep (range_with_len 0 (length c.groups.worlds))))

    pub lives-history : HasHistory c → (g : Groups) → g ≡ all_moved c.groups all → HasHistory (record { failed = set c.failed node true; groups = g })
    lives-history led g is = subst HasHistory (sym (lives-step g is)) (goes-on c (record { event = FailNode node keep; made = None }) led low)

    -- and whose failure is cut short
    pub cut-step : (g : Groups) → Begun c.groups all g → IsCutShort c (FailNode node keep) (record { failed = c.failed; groups = g })
    cut-step g begun =
        let moves : moves_of c (FailNode node keep) ≡ begun.made ++ begun.left = ap moves-if word ∙ begun.whole in
        let first : take (length begun.made) (moves_of c (FailNode node keep)) ≡ begun.made =
        ap (take (length begun.made)) moves ∙ first-moves begun.made begun.left in
        (length begun.made, (λ i. record { failed = c.failed; groups = (begun.is ∙ ap (all_moved c.groups) (sym first)) i }))

    pub cut-history : HasHistory c → (g : Groups) → Begun c.groups all g → HasHistory (record { failed = c.failed; groups = g })
    cut-history led g begun =
        let cut = cut-step g begun in
        subst HasHistory (sym cut.1) (goes-on c (record { event = FailNode node keep; made = Some cut.0 }) led low)
