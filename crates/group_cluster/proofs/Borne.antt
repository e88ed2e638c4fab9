-- The dead processes of each group stand on nodes whose failure happened or began, each on one of its own.
use Rattle.std.proofs.Common.{ℕ, zero, suc, ◌≡◌, ◌≢◌, ◌<◌, ◌≤◌, ◌+◌, ◌==◌, Bool, true, false, List, [], ◌∷◌}
use Rattle.std.proofs.Common.{length, replicate, take, Option, Some, None, ◌⊎◌, inl, inr, if◌then◌else◌, refl, sym, ap, subst, ◌∙◌, arith}
use Rattle.std.specs.List.{range_with_len}
use Rattle.std.proofs.lemmas.Bool.{cases_eq, eqb-true}
use Rattle.group_types.specs.Dimensions.{Dimensions}
use Rattle.group_types.specs.Each.{Each}
use Rattle.group_types.specs.Lists.{at, put}
use Rattle.group_types.specs.Names.{index_of, process_at}
use Rattle.group_types.specs.declared.process.ProcessId.TheVariants.{DataNode}
use Rattle.group_types.proofs.Lists.{at-put, at-put-other, at-replicate}
use Rattle.group_types.proofs.Names.{index-process_at}
use Rattle.membership.specs.Members.{count_dead_words}
use Rattle.group_calls.specs.declared.event.Event.{Event}
use Rattle.group_calls.specs.declared.event.Event.TheVariants.{Ask, Collect, Deliver, Fail, Flush, Trace}
use Rattle.group_run.specs.Meaning.{IsDown}
use Rattle.group_run.specs.Process.{Node}
use Rattle.group_run.specs.World.{World, dead_nodes, opening, opening_node, step}
use Rattle.group_run.specs.Causes.{IsFailure}
use Rattle.group_layout.specs.Cluster.{Cluster, Groups, MayAllMove, MayHappen, Move, all_moved, failed_nodes_after}
use Rattle.group_layout.specs.Cluster.{failure_of, failures, move_unless, moved, moves_of, node_failure, opening_cluster, other_group, world_in}
use Rattle.group_layout.specs.Layout.{first_on, node_of, process_on}
use Rattle.group_layout.specs.declared.event.ClusterEvent.{ClusterEvent}
use Rattle.group_layout.specs.declared.event.ClusterEvent.TheVariants.{FailNode, InGroup}
use Rattle.group_layout.proofs.Deaths.{fail-dead, one-if, none-dead-at, same-dead}
use Rattle.group_layout.proofs.Happening.{Even, even-after, even-start}
use Rattle.group_layout.proofs.Moves.{IsOrNot, is-or-not, other-world, own-world}
use Rattle.group_layout.proofs.Owning.{each-append}
use Rattle.group_layout.proofs.Places.{one_a_node}
use Rattle.group_cluster.specs.History.{Happening, HasHistory, MayAll, all_happened, failed_by, first_made, happened, moves_made}
use Rattle.group_cluster.specs.Promise.{failing_nodes}
use Rattle.group_cluster.proofs.Histories.{even-happened, even-has, made-may, nodes-by}

-- words of which each dead node has a true one of its own are no fewer
one-less : (ts : List Bool) (i : ℕ) → at false ts i ≡ true → count_dead_words ts ≡ suc (count_dead_words (put false ts i false))
one-less [] i is = absurd (cc is)
one-less (true ∷ ts) zero is = omega arith
one-less (false ∷ ts) zero is = absurd (cc is)
one-less (t ∷ ts) (suc i) is = let rest = one-less ts i is in omega (arith, rest)

-- distinct dead nodes have distinct words
record Apart (d : Node) (xs : List Node) (f : ℕ → ℕ) (ts : List Bool) : Type 0 where
  pub there : (k : ℕ) → (at d xs k).dead ≡ true → at false ts (f k) ≡ true
  pub own : (a b : ℕ) → (at d xs a).dead ≡ true → (at d xs b).dead ≡ true → f a ≡ f b → a ≡ b

few : (d : Node) (xs : List Node) (f : ℕ → ℕ) (ts : List Bool) → Apart d xs f ts → dead_nodes xs ≤ count_dead_words ts
few d [] f ts apart = omega arith
few d (x ∷ xs) f ts apart = by x.dead refl (λ us on. few d xs (λ k. f (suc k)) us on) where
  later : (us : List Bool) → ((k : ℕ) → (at d xs k).dead ≡ true → at false us (f (suc k)) ≡ true) → Apart d xs (λ k. f (suc k)) us
  later us there = record { there = there; own = λ a b da db same. (let one = apart.own (suc a) (suc b) da db same in omega (arith, one)) }

  by : (b : Bool) → x.dead ≡ b → ((us : List Bool) → Apart d xs (λ k. f (suc k)) us → dead_nodes xs ≤ count_dead_words us)
      → dead_nodes (x ∷ xs) ≤ count_dead_words ts
  by false is on =
      let none : one-if x.dead ≡ 0 = ap one-if is in
      let rest = on ts (later ts (λ k dk. apart.there (suc k) dk)) in
      omega (arith, none, rest)
  by true is on =
      let one : one-if x.dead ≡ 1 = ap one-if is in
      let less : count_dead_words ts ≡ suc (count_dead_words (put false ts (f 0) false)) = one-less ts (f 0) (apart.there 0 is) in
      let rest = on (put false ts (f 0) false)
      (later (put false ts (f 0) false)
      (λ k dk. at-put-other false ts (f 0) (f (suc k)) false (λ same. nonzero k (apart.own (suc k) 0 dk is same))
      ∙ apart.there (suc k) dk)) in
      omega (arith, one, less, rest)
    where
      nonzero : (k : ℕ) → suc k ≡ 0 → ⊥
      nonzero k same = omega (arith, same)

module _ (s : Dimensions) (n count : ℕ) where
  -- a node that lives, which nobody wrote
  abbrev d : Node
  d = opening_node s (DataNode 0)

  abbrev many : ℕ
  many = s.k + s.m

  abbrev IsAtTrue : List Bool → ℕ → ℕ → Type 0
  IsAtTrue ts j k = (k < many) × (at false ts (node_of n j k) ≡ true)

  abbrev DeadStand : List Bool → Groups → Type 0
  DeadStand ts g = (j k : ℕ) → (at d (world_in g j).nodes k).dead ≡ true → IsAtTrue ts j k

  -- a move fails processes of such nodes alone
  abbrev StandsIn : List Bool → ℕ → Event → Type 0
  StandsIn ts j (Fail p keep) = (q : ℕ) × (p ≡ process_at s q) × IsAtTrue ts j q
  StandsIn ts j (Ask _ _ _) = Unit {0}
  StandsIn ts j (Collect _ _ _) = Unit {0}
  StandsIn ts j (Deliver _ _) = Unit {0}
  StandsIn ts j (Flush _) = Unit {0}
  StandsIn ts j (Trace _ _ _ _) = Unit {0}

  abbrev Stands : List Bool → List Move → Type 0
  Stands ts ms = Each (λ m. StandsIn ts m.group m.event) ms

  on-event : (ts : List Bool) (j : ℕ) (w : World) (e : Event) → w.shape ≡ s → StandsIn ts j e → ((k : ℕ) → (at d w.nodes k).dead ≡ true → IsAtTrue ts j k)
      → (k : ℕ) → (at d (step w e).world.nodes k).dead ≡ true → IsAtTrue ts j k
  on-event ts j w (Ask caller op p) shape stands old k dead = old k (sym (same-dead w (Ask caller op p) (λ x. x) d refl k) ∙ dead)
  on-event ts j w (Collect caller call p) shape stands old k dead = old k (sym (same-dead w (Collect caller call p) (λ x. x) d refl k) ∙ dead)
  on-event ts j w (Deliver from to) shape stands old k dead = old k (sym (same-dead w (Deliver from to) (λ x. x) d refl k) ∙ dead)
  on-event ts j w (Flush p) shape stands old k dead = old k (sym (same-dead w (Flush p) (λ x. x) d refl k) ∙ dead)
  on-event ts j w (Trace caller call x p) shape stands old k dead = old k (sym (same-dead w (Trace caller call x p) (λ x. x) d refl k) ∙ dead)
  on-event ts j w (Fail p keep) shape stands old k dead = by (cases_eq k (index_of w.shape p)) where
    by : (k ≡ index_of w.shape p) ⊎ (k ≢ index_of w.shape p) → IsAtTrue ts j k
    by (inl is) =
        let q : k ≡ stands.0 = is ∙ ap (λ (t : Dimensions). index_of t p) shape ∙ ap (index_of s) stands.1 ∙ index-process_at s stands.0 in
        subst (IsAtTrue ts j) (sym q) stands.2
    by (inr apart) = old k (sym (fail-dead w p keep d refl k apart) ∙ dead)

  stand-moved : (ts : List Bool) (g : Groups) (m : Move) → Even s count g → StandsIn ts m.group m.event → DeadStand ts g → DeadStand ts (moved g m)
  stand-moved ts g m even stands old j k dead = by (is-or-not m.group j) where
    by : IsOrNot m.group j → IsAtTrue ts j k
    by (inl (word, is)) =
        on-event ts j (world_in g j) m.event (even.worlds j) (subst (λ (i : ℕ). StandsIn ts i m.event) is stands) (old j) k
        (sym (ap (λ (w : World). (at d w.nodes k).dead) (own-world g m j is)) ∙ dead)
    by (inr (word, apart)) = old j k (sym (ap (λ (w : World). (at d w.nodes k).dead) (other-world g m j apart)) ∙ dead)

  stand-all : (ts : List Bool) (g : Groups) (ms : List Move) → Even s count g → MayAllMove g ms → Stands ts ms → DeadStand ts g → DeadStand ts (all_moved g ms)
  stand-all ts g [] even may stands old = old
  stand-all ts g (m ∷ ms) even may stands old =
      stand-all ts (moved g m) ms (even-after s count g (m ∷ []) even (may.0, tt)) may.1 stands.1 (stand-moved ts g m even stands.0 old)

  -- the moves of an event do
  first-stands : (node j a m q : ℕ) → first_on n node j (range_with_len a m) ≡ Some q → (q < a + m) × (node_of n j q ≡ node)
  first-stands node j a zero q is = absurd (cc is)
  first-stands node j a (suc m) q is = by (first-stands node j (a + 1) m q) (node_of n j a == node) refl where
    by : (first_on n node j (range_with_len (a + 1) m) ≡ Some q → (q < a + 1 + m) × (node_of n j q ≡ node)) → (b : Bool)
        → (node_of n j a == node) ≡ b → (q < a + suc m) × (node_of n j q ≡ node)
    by rest true word =
        let here : Some a ≡ Some q = sym (ap (λ (b : Bool). if b then Some a else first_on n node j (range_with_len (a + 1) m)) word) ∙ is in
        let same : a ≡ q = cc in
        (omega (arith, same), subst (λ (x : ℕ). node_of n j x ≡ node) same (eqb-true (node_of n j a) node word))
    by rest false word =
        let low = rest (sym (ap (λ (b : Bool). if b then Some a else first_on n node j (range_with_len (a + 1) m)) word) ∙ is) in
        (let l = low.0 in omega (arith, l), low.1)

  failure-stands : (ts : List Bool) (node keep j : ℕ) (o : Option ℕ) → at false ts node ≡ true
      → ((q : ℕ) → o ≡ Some q → (q < many) × (node_of n j q ≡ node)) → Stands ts (failure_of s keep j o)
  failure-stands ts node keep j None there on = tt
  failure-stands ts node keep j (Some q) there on =
      let stands = on q refl in
      ((q, refl, (stands.0, ap (at false ts) stands.1 ∙ there)), tt)

  failures-stand : (ts : List Bool) (node keep : ℕ) (js : List ℕ) → at false ts node ≡ true → Stands ts (failures s n node keep js)
  failures-stand ts node keep [] there = tt
  failures-stand ts node keep (j ∷ js) there =
      each-append (λ m. StandsIn ts m.group m.event) (failure_of s keep j (process_on n many node j)) (failures s n node keep js)
      (failure-stands ts node keep j (process_on n many node j) there (λ q is. let on = first-stands node j 0 many q is
      in (let l = on.0 in omega (arith, l), on.1)))
      (failures-stand ts node keep js there)

  no-failure-stands : (ts : List Bool) (j : ℕ) (e : Event) → ¬ (IsFailure e) → StandsIn ts j e
  no-failure-stands ts j (Fail p keep) other = absurd (other tt)
  no-failure-stands ts j (Ask _ _ _) other = tt
  no-failure-stands ts j (Collect _ _ _) other = tt
  no-failure-stands ts j (Deliver _ _) other = tt
  no-failure-stands ts j (Flush _) other = tt
  no-failure-stands ts j (Trace _ _ _ _) other = tt

  unless-stands : (ts : List Bool) (j : ℕ) (e : Event) (o : Option ℕ) → ¬ (IsFailure e) → Stands ts (move_unless o (record { group = j; event = e }))
  unless-stands ts j e None other = (no-failure-stands ts j e other, tt)
  unless-stands ts j e (Some own) other = tt

  event-stands : (ts : List Bool) (c : Cluster) (e : ClusterEvent) → c.groups.shape ≡ s → length c.failed ≡ n
      → MayHappen c e → Stands (failed_nodes_after ts e) (moves_of c e)
  event-stands ts c (InGroup j event) shape long may = unless-stands ts j event (other_group c.groups j event) may.1
  event-stands ts c (FailNode node keep) shape long may = by (at false c.failed node) where
    all : Stands (put false ts node true) (node_failure c node keep)
    all =
        subst (λ (t : Dimensions). Stands (put false ts node true)
        (failures t (length c.failed) node keep (range_with_len 0 (length c.groups.worlds)))) (sym shape)
        (subst (λ (x : ℕ). Stands (put false ts node true) (failures s x node keep (range_with_len 0 (length c.groups.worlds)))) (sym long)
        (failures-stand (put false ts node true) node keep (range_with_len 0 (length c.groups.worlds)) (at-put false false ts node true)))

    by : (b : Bool) → Stands (put false ts node true) (if b then [] else node_failure c node keep)
    by true = tt
    by false = all

  each-take : (ts : List Bool) (ms : List Move) (x : ℕ) → Stands ts ms → Stands ts (take x ms)
  each-take ts ms zero all = tt
  each-take ts [] (suc x) all = tt
  each-take ts (m ∷ ms) (suc x) all = (all.0, each-take ts ms x all.1)

  first-stand : (ts : List Bool) (ms : List Move) (made : Option ℕ) → Stands ts ms → Stands ts (first_made made ms)
  first-stand ts ms None all = all
  first-stand ts ms (Some x) all = each-take ts ms x all

  -- more nodes are touched
  still-true : (ts : List Bool) (node x : ℕ) → at false ts x ≡ true → at false (put false ts node true) x ≡ true
  still-true ts node x is = by (cases_eq x node) where
    by : (x ≡ node) ⊎ (x ≢ node) → at false (put false ts node true) x ≡ true
    by (inl same) = ap (at false (put false ts node true)) same ∙ at-put false false ts node true
    by (inr apart) = at-put-other false ts node x true apart ∙ is

  stand-after : (ts : List Bool) (g : Groups) (e : ClusterEvent) → DeadStand ts g → DeadStand (failed_nodes_after ts e) g
  stand-after ts g (InGroup j event) old = old
  stand-after ts g (FailNode node keep) old = λ j k dead. (let was = old j k dead in (was.0, still-true ts node (node_of n j k) was.1))

  stand-history : (ts : List Bool) (c : Cluster) (hs : List Happening) → Even s count c.groups → length c.failed ≡ n → MayAll c hs → DeadStand ts c.groups
      → DeadStand (failing_nodes ts hs) (all_happened c hs).groups
  stand-history ts c [] even long may old = old
  stand-history ts c (h ∷ hs) even long may old =
      stand-history (failed_nodes_after ts h.event) (happened c h) hs (even-happened s count c h even may.0) (nodes-by h.made c h.event may.0 ∙ long) may.1
      (stand-all (failed_nodes_after ts h.event) c.groups (moves_made c h) even (made-may s count c h even may.0)
      (first-stand (failed_nodes_after ts h.event) (moves_of c h.event) h.made
      (event-stands ts c h.event even.shape long may.0)) (stand-after ts c.groups h.event old))

  at-start : (ts : List Bool) → DeadStand ts (opening_cluster s n count).groups
  at-start ts j k dead =
      let none : (at d (opening s).nodes k).dead ≡ false = none-dead-at s d refl (range_with_len 0 many) k in
      let same : (at d (world_in (opening_cluster s n count).groups j).nodes k).dead ≡ false =
      ap (λ (w : World). (at d w.nodes k).dead) (at-replicate (opening s) count j) ∙ none in
      absurd (no-both (sym dead ∙ same))
    where
      no-both : true ≡ false → ⊥
      no-both is = cc is

long : (n : ℕ) → length (replicate n false) ≡ n
long zero = refl
long (suc n) = ap suc (long n)

pub borne : (c : Cluster) (led : HasHistory c) → count_dead_words (failing_nodes (replicate led.n false) led.history) ≤ led.s.m
    → (j : ℕ) → j < led.count → ¬ (IsDown (world_in c.groups j))
borne c led few-touched j low down =
    let s : Dimensions = led.s in
    let ts : List Bool = failing_nodes (replicate led.n false) led.history in
    let start : Cluster = opening_cluster s led.n led.count in
    let stand : DeadStand s led.n led.count ts (all_happened start led.history).groups
    = stand-history s led.n led.count (replicate led.n false) start led.history (even-start s led.count) (long led.n)
    led.may (at-start s led.n led.count (replicate led.n false)) in
    let here : DeadStand s led.n led.count ts c.groups = subst (λ (x : Cluster). DeadStand s led.n led.count ts x.groups) (sym led.is) stand in
    let wide = led.layout.wide in
    let most : dead_nodes (world_in c.groups j).nodes ≤ count_dead_words ts
    = few (opening_node s (DataNode 0)) (world_in c.groups j).nodes (node_of led.n j) ts
    (record {
      there = λ k dead. (here j k dead).1;
      own = λ a b da db same. one_a_node led.n (s.k + s.m) j a b wide (here j a da).0 (here j b db).0 same;
    }) in
    let shape : (world_in c.groups j).shape.m ≡ s.m = ap (λ (t : Dimensions). t.m) ((even-has c led).worlds j) in
    let above : (world_in c.groups j).shape.m < dead_nodes (world_in c.groups j).nodes = down in
    omega (arith, shape, above, most, few-touched)

-- where no event was cut short the nodes touched are those that failed
pub all-failed : (ts : List Bool) (c : Cluster) (hs : List Happening) → c.failed ≡ ts → Each (λ h. h.made ≡ None) hs
    → (all_happened c hs).failed ≡ failing_nodes ts hs
all-failed ts c [] same whole = same
all-failed ts c (h ∷ hs) same whole = all-failed (failed_nodes_after ts h.event) (happened c h) hs
    (by h.made whole.0 ∙ ap (λ (fs : List Bool). failed_nodes_after fs h.event) same) whole.1 where
      by : (made : Option ℕ) → made ≡ None → failed_by made c.failed h.event ≡ failed_nodes_after c.failed h.event
      by None is = refl
      by (Some x) is = absurd (cc is)
