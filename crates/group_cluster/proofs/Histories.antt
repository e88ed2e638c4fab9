-- A history goes on.
use Rattle.std.proofs.Common.{ℕ, zero, suc, ◌≡◌, true, false, List, [], ◌∷◌, ◌++◌, length, replicate, take, Option, Some, None, refl, sym, ap, subst, ◌∙◌}
use Rattle.group_types.specs.Dimensions.{Dimensions}
use Rattle.group_types.specs.Shape.{IsShape}
use Rattle.group_types.proofs.Lists.{length-put}
use Rattle.group_calls.specs.declared.event.Event.{Event}
use Rattle.group_run.specs.World.{opening}
use Rattle.group_layout.specs.Cluster.{Cluster, GroupTurn, Groups, IsLayout, MayAllMove, MayHappen, Move}
use Rattle.group_layout.specs.Cluster.{all_moved, failed_nodes_after, move_unless, moved, moves_of, opening_cluster, other_group, turns_made}
use Rattle.group_layout.specs.declared.event.ClusterEvent.{ClusterEvent}
use Rattle.group_layout.specs.declared.event.ClusterEvent.TheVariants.{FailNode, InGroup}
use Rattle.group_layout.proofs.Happening.{Even, even-after, even-start, may-append, moved-append, moves-may, turns-append}
use Rattle.group_cluster.specs.History.{Happening, HasHistory, MayAll, all_happened, all_turns, failed_by, first_made, happened, moves_made}

may-take : (g : Groups) (ms : List Move) (n : ℕ) → MayAllMove g ms → MayAllMove g (take n ms)
may-take g ms zero may = tt
may-take g [] (suc n) may = tt
may-take g (m ∷ ms) (suc n) may = (may.0, may-take (moved g m) ms n may.1)

may-first : (g : Groups) (ms : List Move) (made : Option ℕ) → MayAllMove g ms → MayAllMove g (first_made made ms)
may-first g ms None may = may
may-first g ms (Some n) may = may-take g ms n may

pub made-may : (s : Dimensions) (count : ℕ) (c : Cluster) (h : Happening) → Even s count c.groups → MayHappen c h.event → MayAllMove c.groups (moves_made c h)
made-may s count c h even may = may-first c.groups (moves_of c h.event) h.made (moves-may s count c h.event even may)

pub even-happened : (s : Dimensions) (count : ℕ) (c : Cluster) (h : Happening) → Even s count c.groups
    → MayHappen c h.event → Even s count (happened c h).groups
even-happened s count c h even may = even-after s count c.groups (moves_made c h) even (made-may s count c h even may)

pub even-all : (s : Dimensions) (count : ℕ) (c : Cluster) (hs : List Happening) → Even s count c.groups → MayAll c hs → Even s count (all_happened c hs).groups
even-all s count c [] even may = even
even-all s count c (h ∷ hs) even may = even-all s count (happened c h) hs (even-happened s count c h even may.0) may.1

-- the groups of a cluster that has a history
pub even-has : (c : Cluster) (led : HasHistory c) → Even led.s led.count c.groups
even-has c led =
    subst (λ (x : Cluster). Even led.s led.count x.groups) (sym led.is)
    (even-all led.s led.count (opening_cluster led.s led.n led.count) led.history (even-start led.s led.count) led.may)

-- nodes stay as many
nodes-after : (c : Cluster) (e : ClusterEvent) → MayHappen c e → length (failed_nodes_after c.failed e) ≡ length c.failed
nodes-after c (InGroup j event) may = refl
nodes-after c (FailNode node keep) may = length-put false c.failed node true may

pub nodes-by : (made : Option ℕ) (c : Cluster) (e : ClusterEvent) → MayHappen c e → length (failed_by made c.failed e) ≡ length c.failed
nodes-by None c e may = nodes-after c e may
nodes-by (Some n) c e may = refl

all-more : (c : Cluster) (hs : List Happening) (h : Happening) → all_happened c (hs ++ h ∷ []) ≡ happened (all_happened c hs) h
all-more c [] h = refl
all-more c (x ∷ hs) h = all-more (happened c x) hs h

may-more : (c : Cluster) (hs : List Happening) (h : Happening) → MayAll c hs → MayHappen (all_happened c hs) h.event → MayAll c (hs ++ h ∷ [])
may-more c [] h may next = (next, tt)
may-more c (x ∷ hs) h may next = (may.0, may-more (happened c x) hs h may.1 next)

pub goes-on : (c : Cluster) (h : Happening) → HasHistory c → MayHappen c h.event → HasHistory (happened c h)
goes-on c h led may =
    let start : Cluster = opening_cluster led.s led.n led.count in
    let even : Even led.s led.count (happened c h).groups = even-happened led.s led.count c h (even-has c led) may in
    record {
      s = led.s;
      n = led.n;
      count = led.count;
      limits = led.limits;
      layout = led.layout;
      history = led.history ++ h ∷ [];
      may = may-more start led.history h led.may (subst (λ (x : Cluster). MayHappen x h.event) led.is may);
      is = ap (λ (x : Cluster). happened x h) led.is ∙ sym (all-more start led.history h);
      shape = even.shape;
      nodes = nodes-by h.made c h.event may ∙ led.nodes;
      many = even.many;
    }

-- an event of its own group is one more
pub step-history : (c : Cluster) (j : ℕ) (event : Event) → HasHistory c → MayHappen c (InGroup j event) → other_group c.groups j event ≡ None
    → (g : Groups) → g ≡ moved c.groups (record { group = j; event = event }) → HasHistory (record { failed = c.failed; groups = g })
step-history c j event led may own g is =
    let move : Move = record { group = j; event = event } in
    let same : g ≡ all_moved c.groups (move_unless (other_group c.groups j event) move) =
    is ∙ ap (λ (o : Option ℕ). all_moved c.groups (move_unless o move)) (sym own) in
    subst (λ (x : Groups). HasHistory (record { failed = c.failed; groups = x })) (sym same)
    (goes-on c (record { event = InGroup j event; made = None }) led may)

long : {X : Type 0} (n : ℕ) (x : X) → length (replicate n x) ≡ n
long zero x = refl
long (suc n) x = ap suc (long n x)

-- and it starts
pub starts : (s : Dimensions) (n count : ℕ) → IsShape s → IsLayout s n count → HasHistory (opening_cluster s n count)
starts s n count limits layout = record {
  s = s;
  n = n;
  count = count;
  limits = limits;
  layout = layout;
  history = [];
  may = tt;
  is = refl;
  shape = refl;
  nodes = long n false;
  many = long count (opening s);
}

-- all moves of a history
abbrev pub all_made : Cluster → List Happening → List Move
all_made c [] = []
all_made c (h ∷ hs) = moves_made c h ++ all_made (happened c h) hs

pub groups-made : (c : Cluster) (hs : List Happening) → (all_happened c hs).groups ≡ all_moved c.groups (all_made c hs)
groups-made c [] = refl
groups-made c (h ∷ hs) = groups-made (happened c h) hs ∙ sym (moved-append c.groups (moves_made c h) (all_made (happened c h) hs))

pub turns-of-made : (c : Cluster) (hs : List Happening) → all_turns c hs ≡ turns_made c.groups (all_made c hs)
turns-of-made c [] = refl
turns-of-made c (h ∷ hs) =
    ap (λ (ts : List GroupTurn). turns_made c.groups (moves_made c h) ++ ts) (turns-of-made (happened c h) hs)
    ∙ sym (turns-append c.groups (moves_made c h) (all_made (happened c h) hs))

pub all-may-made : (s : Dimensions) (count : ℕ) (c : Cluster) (hs : List Happening) → Even s count c.groups → MayAll c hs → MayAllMove c.groups (all_made c hs)
all-may-made s count c [] even may = tt
all-may-made s count c (h ∷ hs) even may =
    may-append c.groups (moves_made c h) (all_made (happened c h) hs) (made-may s count c h even may.0)
    (all-may-made s count (happened c h) hs (even-happened s count c h even may.0) may.1)
