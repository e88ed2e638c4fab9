-- The nodes of all processes in hand.
use Rattle.std.proofs.Common.{ℕ, zero, suc, ◌≡◌, ◌≢◌, ◌<◌, ◌≤◌, ◌+◌, ◌⊎◌, inl, inr, List, [], ◌∷◌, ◌++◌, length, map, drop, refl, sym, ap, ◌∙◌, arith}
use Rattle.std.proofs.lemmas.Bool.{cases_eq}
use Rattle.std.specs.Prelude.{Option, None}
use Rattle.group_types.specs.Dimensions.{Dimensions}
use Rattle.group_types.specs.Lists.{at}
use Rattle.group_types.specs.Names.{process_at}
use Rattle.group_calls.specs.declared.event.Event.{Event}
use Rattle.group_run.specs.Locality.{occurrences}
use Rattle.group_run.specs.Process.{Node}
use Rattle.group_run.specs.World.{after, opening_node}
use Rattle.group_node.specs.Standing.{NodeStanding}
use Rattle.group_core.specs.Seats.{AreNodesOf, nodes_of}
use Rattle.group_types.specs.Each.{Each}
use Rattle.group_stage.specs.Gathered.{hand_of, slots_left, stacked}
use Rattle.group_stage.specs.Places.{slot_of}
use Rattle.group_stage.specs.Schedules.{standing_at}
use Rattle.group_stage.specs.Views.{nodes_held_at}
use Rattle.group_stage.proofs.Sums.{times-here}

-- one node more, behind the others
pub stacked-more : (x : ℕ) (ys : List NodeStanding) (y : NodeStanding) (below : List (ℕ × NodeStanding))
    → stacked x (ys ++ y ∷ []) below ≡ (x + length ys, y) ∷ stacked x ys below
stacked-more x [] y below = let here : x ≡ x + 0 = omega arith in ap (λ (n : ℕ). (n, y) ∷ below) here
stacked-more x (z ∷ zs) y below =
    let place : suc x + length zs ≡ x + suc (length zs) = omega arith in
    stacked-more (suc x) zs y ((x, z) ∷ below) ∙ ap (λ (n : ℕ). (n, y) ∷ stacked (suc x) zs ((x, z) ∷ below)) place

pub hand-more : (ys : List NodeStanding) (y : NodeStanding) → hand_of (ys ++ y ∷ []) ≡ (length ys, y) ∷ hand_of ys
hand-more ys y = let place : 0 + length ys ≡ length ys = omega arith in stacked-more 0 ys y [] ∙ ap (λ (n : ℕ). (n, y) ∷ hand_of ys) place

pub slots-more : (ys : List NodeStanding) (y : NodeStanding) → slots_left (hand_of (ys ++ y ∷ [])) ≡ (slot_of (length ys), None) ∷ slots_left (hand_of ys)
slots-more ys y = ap slots_left (hand-more ys y)

-- the processes of a stack come before the next
pub stacked-before : (n x : ℕ) (ys : List NodeStanding) (below : List (ℕ × NodeStanding)) → x + length ys ≤ n
    → Each (λ h. h.0 < n) below → Each (λ h. h.0 < n) (stacked x ys below)
stacked-before n x [] below within each = each
stacked-before n x (y ∷ ys) below within each = stacked-before n (suc x) ys ((x, y) ∷ below) (omega (arith, within)) (omega (arith, within), each)

pub hand-before : (n : ℕ) (ys : List NodeStanding) → length ys ≡ n → Each (λ h. h.0 < n) (hand_of ys)
hand-before n ys many = stacked-before n 0 ys [] (omega (arith, many)) tt

-- what is under the stack stays in it, and each process of the stack is in it
under-stack : (q x : ℕ) (ys : List NodeStanding) (below : List (ℕ × NodeStanding))
    → occurrences q (map (λ (h : ℕ × NodeStanding). h.0) below)
    ≤ occurrences q (map (λ (h : ℕ × NodeStanding). h.0) (stacked x ys below))
under-stack q x [] below = omega arith
under-stack q x (y ∷ ys) below =
    let rest = under-stack q (suc x) ys ((x, y) ∷ below) in
    let more : occurrences q (map (λ (h : ℕ × NodeStanding). h.0) below) ≤ occurrences q (x ∷ map (λ (h : ℕ × NodeStanding). h.0) below) = omega arith in
    omega (arith, rest, more)

pub in-stack : (q x : ℕ) (ys : List NodeStanding) (below : List (ℕ × NodeStanding)) → x ≤ q → q < x + length ys
    → 0 < occurrences q (map (λ (h : ℕ × NodeStanding). h.0) (stacked x ys below))
in-stack q x [] below low high = absurd (omega (arith, low, high))
in-stack q x (y ∷ ys) below low high = by (cases_eq q x) (in-stack q (suc x) ys ((x, y) ∷ below)) (under-stack q (suc x) ys ((x, y) ∷ below)) where
  by : (q ≡ x) ⊎ (q ≢ x) → (suc x ≤ q → q < suc x + length ys → 0 < occurrences q (map (λ (h : ℕ × NodeStanding). h.0) (stacked (suc x) ys ((x, y) ∷ below))))
      → occurrences q (x ∷ map (λ (h : ℕ × NodeStanding). h.0) below) ≤ occurrences q
      (map (λ (h : ℕ × NodeStanding). h.0) (stacked (suc x) ys ((x, y) ∷ below)))
      → 0 < occurrences q (map (λ (h : ℕ × NodeStanding). h.0) (stacked (suc x) ys ((x, y) ∷ below)))
  by (inl same) rest under =
      let here : occurrences q (x ∷ map (λ (h : ℕ × NodeStanding). h.0) below) ≡ 1 + occurrences q (map (λ (h : ℕ × NodeStanding). h.0) below)
      = ap (λ (n : ℕ). occurrences q (n ∷ map (λ (h : ℕ × NodeStanding). h.0) below)) (sym same) ∙ times-here q (map (λ (h : ℕ × NodeStanding). h.0) below) in
      omega (arith, here, under)
  by (inr other) rest under = rest (omega (arith, low, other)) (omega (arith, high))

-- nodes of the run of a schedule, from an index on
abbrev pub AreRun : Dimensions → List Event → ℕ → List NodeStanding → Type 0
AreRun s es x [] = Unit {0}
AreRun s es x (y ∷ ys) = (y ≡ standing_at s es x) × AreRun s es (suc x) ys

pub each-run : (s : Dimensions) (es : List Event) (x : ℕ) (ys : List NodeStanding) (below : List (ℕ × NodeStanding))
    → Each (λ h. h.1 ≡ standing_at s es h.0) (stacked x ys below)
    → AreRun s es x ys × Each (λ h. h.1 ≡ standing_at s es h.0) below
each-run s es x [] below all = (tt, all)
each-run s es x (y ∷ ys) below all =
    let rest = each-run s es (suc x) ys ((x, y) ∷ below) all in
    ((rest.1.0, rest.0), rest.1.1)

-- what nodes of a run become
pub run-stack : (s : Dimensions) (es : List Event) (x : ℕ) (ys zs : List NodeStanding)
    (below next : List (ℕ × NodeStanding)) → length ys ≡ length zs → AreRun s es x zs → nodes_held_at s es below ≡ next
    → nodes_held_at s es (stacked x ys below) ≡ stacked x zs next
run-stack s es x [] [] below next long run is = is
run-stack s es x [] (z ∷ zs) below next long run is = absurd (omega (arith, long))
run-stack s es x (y ∷ ys) [] below next long run is = absurd (omega (arith, long))
run-stack s es x (y ∷ ys) (z ∷ zs) below next long run is =
    let rest : length ys ≡ length zs = omega (arith, long) in
    run-stack s es (suc x) ys zs ((x, y) ∷ below) ((x, z) ∷ next) rest run.1 (λ i. (x, (sym run.0) i) ∷ is i)

-- and their slots stay
pub same-slots : (x : ℕ) (ys zs : List NodeStanding) (below next : List (ℕ × NodeStanding)) → length ys ≡ length zs
    → slots_left below ≡ slots_left next → slots_left (stacked x ys below) ≡ slots_left (stacked x zs next)
same-slots x [] [] below next long is = is
same-slots x [] (z ∷ zs) below next long is = absurd (omega (arith, long))
same-slots x (y ∷ ys) [] below next long is = absurd (omega (arith, long))
same-slots x (y ∷ ys) (z ∷ zs) below next long is =
    let rest : length ys ≡ length zs = omega (arith, long) in
    same-slots (suc x) ys zs ((x, y) ∷ below) ((x, z) ∷ next) rest (ap (λ (l : List (ℕ × Option NodeStanding)). (slot_of x, None) ∷ l) is)

drop-at : (d : Node) (ns : List Node) (x : ℕ) → x < length ns → drop x ns ≡ at d ns x ∷ drop (suc x) ns
drop-at d [] x low = absurd (omega (arith, low))
drop-at d (n ∷ ns) zero low = refl
drop-at d (n ∷ ns) (suc x) low = drop-at d ns x (omega (arith, low))

drop-all : (ns : List Node) (x : ℕ) → length ns ≤ x → drop x ns ≡ []
drop-all [] zero low = refl
drop-all [] (suc x) low = refl
drop-all (n ∷ ns) zero low = absurd (omega (arith, low))
drop-all (n ∷ ns) (suc x) low = drop-all ns x (omega (arith, low))

-- nodes of the run of all processes are its nodes
run-nodes : (s : Dimensions) (es : List Event) (x : ℕ) (ys : List NodeStanding)
    → x + length ys ≡ length (after s es).nodes → AreRun s es x ys → nodes_of ys ≡ drop x (after s es).nodes
run-nodes s es x [] long run = sym (drop-all (after s es).nodes x (omega (arith, long)))
run-nodes s es x (y ∷ ys) long run =
    let rest : suc x + length ys ≡ length (after s es).nodes = omega (arith, long) in
    (λ i. (run.0 i).node ∷ run-nodes s es (suc x) ys rest run.1 i)
    ∙ sym (drop-at (opening_node s (process_at s x)) (after s es).nodes x (omega (arith, long)))

pub all-nodes : (s : Dimensions) (es : List Event) (ys : List NodeStanding) → length ys ≡ length (after s es).nodes
    → AreRun s es 0 ys → nodes_of ys ≡ (after s es).nodes
all-nodes s es ys long run = run-nodes s es 0 ys (omega (arith, long)) run

-- and the other way
nodes-run : (s : Dimensions) (es : List Event) (x : ℕ) (ys : List NodeStanding)
    → x + length ys ≡ length (after s es).nodes → AreNodesOf s ys → nodes_of ys ≡ drop x (after s es).nodes
    → AreRun s es x ys
nodes-run s es x [] long shapes is = tt
nodes-run s es x (y ∷ ys) long shapes is =
    let d : Node = opening_node s (process_at s x) in
    let split : y.node ∷ nodes_of ys ≡ at d (after s es).nodes x ∷ drop (suc x) (after s es).nodes =
    is ∙ drop-at d (after s es).nodes x (omega (arith, long)) in
    let first : y.node ≡ at d (after s es).nodes x = cc split in
    let rest : nodes_of ys ≡ drop (suc x) (after s es).nodes = cc split in
    let longer : suc x + length ys ≡ length (after s es).nodes = omega (arith, long) in
    let own : y.shape ≡ s = All-first y ys shapes in
    ((λ i. record { shape = own i; node = first i }), nodes-run s es (suc x) ys longer (All-rest y ys shapes) rest)
  where
    All-first : (y : NodeStanding) (ys : List NodeStanding) → AreNodesOf s (y ∷ ys) → y.shape ≡ s
    All-first y ys all = all 0 y (omega arith)

    All-rest : (y : NodeStanding) (ys : List NodeStanding) → AreNodesOf s (y ∷ ys) → AreNodesOf s ys
    All-rest y ys all k d low = all (suc k) d (omega (arith, low))

pub all-run : (s : Dimensions) (es : List Event) (ys : List NodeStanding) → length ys ≡ length (after s es).nodes
    → AreNodesOf s ys → nodes_of ys ≡ (after s es).nodes → AreRun s es 0 ys
all-run s es ys long shapes is = nodes-run s es 0 ys (omega (arith, long)) shapes is

-- their shapes
pub run-shapes : (s : Dimensions) (es : List Event) (x : ℕ) (ys : List NodeStanding) → AreRun s es x ys → AreNodesOf s ys
run-shapes s es x [] run k d low = absurd (omega (arith, low))
run-shapes s es x (y ∷ ys) run zero d low = ap (λ (z : NodeStanding). z.shape) run.0
run-shapes s es x (y ∷ ys) run (suc k) d low = run-shapes s es (suc x) ys run.1 k d (omega (arith, low))
