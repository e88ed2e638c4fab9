-- Calls that are asked are of their keys' group, and so are the entries of the log.
use Rattle.std.proofs.Common.{ℕ, zero, suc, ◌≡◌, ◌+◌, ◌==◌, Bool, true, false, List, [], ◌∷◌, ◌++◌, length, Option}
use Rattle.std.proofs.Common.{Some, None, ◌⊎◌, inl, inr, if◌then◌else◌, refl, sym, ap, subst, ◌∙◌, arith}
use Rattle.std.specs.Prelude.{Contains, slice_get, slice_index_or}
use Rattle.std.specs.List.{range_with_len}
use Rattle.std.proofs.lemmas.Bool.{eqb-true}
use Rattle.std.proofs.lemmas.Option.{slice_get-get_or}
use Rattle.group_types.specs.Dimensions.{Dimensions}
use Rattle.group_types.specs.Each.{Each}
use Rattle.group_types.specs.Lists.{at}
use Rattle.memc_table.specs.Act.{key_of}
use Rattle.memc_table.specs.Asked.{Asked}
use Rattle.group_calls.specs.declared.entry.Entry.{Entry}
use Rattle.group_calls.specs.declared.event.Event.{Event}
use Rattle.group_calls.specs.declared.event.Event.TheVariants.{Ask, Collect, Deliver, Fail, Flush, Trace}
use Rattle.group_layout.specs.Cluster.{Cluster, ClusterEntry, GroupTurn, Groups, MayAllHappen, Move, cluster_after}
use Rattle.group_layout.specs.Cluster.{cluster_step, cluster_turns, failure_of, failures, logged_in, move_unless, moved}
use Rattle.group_layout.specs.Cluster.{moves_of, node_failure, opening_cluster, tagged, turns_made, unless_own}
use Rattle.group_layout.specs.Layout.{group_of, process_on}
use Rattle.group_layout.specs.Promise.{AreRuns, EntriesAreOwn, IsOwn}
use Rattle.group_layout.specs.Within.{ClusterAnswersWithin}
use Rattle.group_layout.specs.declared.event.ClusterEvent.{ClusterEvent}
use Rattle.group_layout.specs.declared.event.ClusterEvent.TheVariants.{FailNode, InGroup}
use Rattle.group_layout.proofs.Answers.{answers_are_within}
use Rattle.group_layout.proofs.Happening.{Even, clusters_are_runs, even-after, even-start, moves-may}
use Rattle.group_layout.proofs.Picked.{no-get}

-- an ask's key is of the group
abbrev pub AsksOwn : ℕ → ℕ → ℕ → Event → Type 0
AsksOwn k count j (Ask caller op p) = group_of (key_of op.act) k count ≡ j
AsksOwn k count j (Collect _ _ _) = Unit {0}
AsksOwn k count j (Deliver _ _) = Unit {0}
AsksOwn k count j (Fail _ _) = Unit {0}
AsksOwn k count j (Flush _) = Unit {0}
AsksOwn k count j (Trace _ _ _ _) = Unit {0}

abbrev pub AreOwn : ℕ → ℕ → List Move → Type 0
AreOwn k count moves = Each (λ m. AsksOwn k count m.group m.event) moves

abbrev pub TurnsOwn : ℕ → ℕ → List GroupTurn → Type 0
TurnsOwn k count turns = Each (λ t. AsksOwn k count t.group t.turn.event) turns

pub turns-own : (k count : ℕ) (g : Groups) (ms : List Move) → AreOwn k count ms → TurnsOwn k count (turns_made g ms)
turns-own k count g [] own = tt
turns-own k count g (m ∷ ms) own = (own.0, turns-own k count (moved g m) ms own.1)

pub each-append : {X : Type 0} (P : X → Type 0) (xs ys : List X) → Each P xs → Each P ys → Each P (xs ++ ys)
each-append P [] ys first rest = rest
each-append P (x ∷ xs) ys first rest = (first.0, each-append P xs ys first.1 rest)

each-get : {X : Type 0} (P : X → Type 0) (xs : List X) (i : ℕ) (x : X) → Each P xs → slice_get xs i ≡ Some x → P x
each-get P [] i x all is = absurd (no-get i x is)
each-get P (y ∷ ys) zero x all is = subst P (some-is is) all.0 where
  some-is : Some y ≡ Some x → y ≡ x
  some-is same = cc
each-get P (y ∷ ys) (suc i) x all is = each-get P ys i x all.1 is

failure-own : (k count : ℕ) (s : Dimensions) (keep j : ℕ) (q : Option ℕ) → AreOwn k count (failure_of s keep j q)
failure-own k count s keep j None = tt
failure-own k count s keep j (Some x) = (tt, tt)

failures-own : (k count : ℕ) (s : Dimensions) (n node keep : ℕ) (js : List ℕ) → AreOwn k count (failures s n node keep js)
failures-own k count s n node keep [] = tt
failures-own k count s n node keep (j ∷ js) =
    each-append (λ m. AsksOwn k count m.group m.event) (failure_of s keep j (process_on n (s.k + s.m) node j)) (failures s n node keep js)
    (failure-own k count s keep j (process_on n (s.k + s.m) node j)) (failures-own k count s n node keep js)

-- an ask that isn't another group's
ask-own : (k count j own caller : ℕ) (op : Asked) (p : _) → own ≡ group_of (key_of op.act) k count
    → AreOwn k count (move_unless (unless_own j own) (record { group = j; event = Ask caller op p }))
ask-own k count j own caller op p is = by (own == j) refl where
  by : (b : Bool) → (own == j) ≡ b → AreOwn k count (move_unless (if b then None else Some own) (record { group = j; event = Ask caller op p }))
  by true word = (sym is ∙ eqb-true own j word, tt)
  by false word = tt

pub moves-own : (s : Dimensions) (count : ℕ) (c : Cluster) (e : ClusterEvent) → Even s count c.groups → AreOwn s.k count (moves_of c e)
moves-own s count c (InGroup j (Ask caller op p)) even =
    ask-own s.k count j (group_of (key_of op.act) c.groups.shape.k (length c.groups.worlds)) caller op p
    (λ i. group_of (key_of op.act) (even.shape i).k (even.many i))
moves-own s count c (InGroup j (Collect caller call p)) even = (tt, tt)
moves-own s count c (InGroup j (Deliver from to)) even = (tt, tt)
moves-own s count c (InGroup j (Fail p keep)) even = (tt, tt)
moves-own s count c (InGroup j (Flush p)) even = (tt, tt)
moves-own s count c (InGroup j (Trace caller call d p)) even = (tt, tt)
moves-own s count c (FailNode node keep) even = by (at false c.failed node) where
  by : (b : Bool) → AreOwn s.k count (if b then [] else node_failure c node keep)
  by true = tt
  by false = failures-own s.k count c.groups.shape (length c.failed) node keep (range_with_len 0 (length c.groups.worlds))

all-own : (s : Dimensions) (count : ℕ) (c : Cluster) (es : List ClusterEvent) → Even s count c.groups
    → MayAllHappen c es → TurnsOwn s.k count (cluster_turns c es)
all-own s count c [] even may = tt
all-own s count c (e ∷ es) even may =
    each-append (λ t. AsksOwn s.k count t.group t.turn.event) (cluster_step c e).turns (cluster_turns (cluster_step c e).cluster es)
    (turns-own s.k count c.groups (moves_of c e) (moves-own s count c e even))
    (all-own s count (cluster_step c e).cluster es (even-after s count c.groups (moves_of c e) even (moves-may s count c e even may.0)) may.1)

-- an entry of the log is of a turn
record Turned (turns : List GroupTurn) (entry : ClusterEntry) : Type 0 where
  pub at : ℕ
  pub turn : GroupTurn
  pub there : slice_get turns at ≡ Some turn
  pub own : turn.group ≡ entry.0
  pub logged : Contains turn.turn.logged entry.1

in-tagged : (j : ℕ) (es : List Entry) (rest : List ClusterEntry) (i : ℕ) (x : ClusterEntry) → slice_get (tagged j es ++ rest) i ≡ Some x
    → ((j ≡ x.0) × Contains es x.1) ⊎ ((n : ℕ) × (slice_get rest n ≡ Some x))
in-tagged j [] rest i x is = inr (i, is)
in-tagged j (e ∷ es) rest zero x is = inl (ap (λ (y : ClusterEntry). y.0) same, (0, omega arith, ap (λ (y : ClusterEntry). y.1) same)) where
  same : (j, e) ≡ x
  same = cc
in-tagged j (e ∷ es) rest (suc i) x is = by (in-tagged j es rest i x is) where
  by : ((j ≡ x.0) × Contains es x.1) ⊎ ((n : ℕ) × (slice_get rest n ≡ Some x)) → ((j ≡ x.0) × Contains (e ∷ es) x.1) ⊎ ((n : ℕ) × (slice_get rest n ≡ Some x))
  by (inl (own, there)) = inl (own, (suc there.0, (let low = there.1 in omega (arith, low)), there.2))
  by (inr later) = inr later

turned : (turns : List GroupTurn) (i : ℕ) (x : ClusterEntry) → slice_get (logged_in turns) i ≡ Some x → Turned turns x
turned [] i x is = absurd (no-get i x is)
turned (t ∷ ts) i x is = by (in-tagged t.group t.turn.logged (logged_in ts) i x is) (λ n there. turned ts n x there) where
  by : ((t.group ≡ x.0) × Contains t.turn.logged x.1) ⊎ ((n : ℕ) × (slice_get (logged_in ts) n ≡ Some x))
      → ((n : ℕ) → slice_get (logged_in ts) n ≡ Some x → Turned ts x) → Turned (t ∷ ts) x
  by (inl (own, there)) rest = record { at = 0; turn = t; there = refl; own = own; logged = there }
  by (inr (n, there)) rest =
      let was : Turned ts x = rest n there in
      record { at = suc was.at; turn = was.turn; there = was.there; own = was.own; logged = was.logged }

-- an entry is of its key's group where the calls are
pub own-entry : (k count : ℕ) (turns : List GroupTurn) (i : ℕ) (x : ClusterEntry) → TurnsOwn k count turns
    → ClusterAnswersWithin k turns → slice_get (logged_in turns) i ≡ Some x → IsOwn k count x
own-entry k count turns i x all within there =
    let was : Turned turns x = turned turns i x there in
    let ask = within.asked was.at was.turn x.1 was.there was.logged in
    let own : AsksOwn k count ask.1.group ask.1.turn.event = each-get (λ t. AsksOwn k count t.group t.turn.event) turns ask.0 ask.1 all ask.4.there in
    subst (AsksOwn k count ask.1.group) ask.4.event own ∙ ask.3 ∙ was.own

pub entries_are_own : EntriesAreOwn
entries_are_own s n count es limits layout may i d below =
    let c : Cluster = opening_cluster s n count in
    let turns : List GroupTurn = cluster_turns c es in
    let log : List ClusterEntry = (cluster_after c es).groups.log in
    let runs : AreRuns s count (cluster_after c es).groups turns = clusters_are_runs s n count es limits layout may in
    own-entry s.k count turns i (slice_index_or log i d) (all-own s count c es (even-start s count) may) (answers_are_within s n count es limits layout may)
    (ap (λ (l : List ClusterEntry). slice_get l i) (sym runs.log) ∙ slice_get-get_or log i d below)
