-- All nodes are told, one after the other, and made, one after the other.
use Rattle.std.proofs.Common.{ℕ, zero, suc, ◌≡◌, ◌<◌, ◌+◌, ◌-◌, Bool, List, [], ◌∷◌, ◌++◌, length, map, take, drop}
use Rattle.std.proofs.Common.{get_or, set, refl, sym, ap, subst, ◌∙◌, arith}
use Rattle.std.specs.List.{range_with_len}
use Rattle.group_run.specs.Process.{Node}
use Rattle.group_run.specs.World.{with_down}
use Rattle.group_node.specs.Standing.{NodeStanding}
use Rattle.group_core.specs.Seats.{nodes_of}

next-turned : (f : Node → Node) (ns : List Node) (xs : List NodeStanding) (x : ℕ) (new e : NodeStanding) → x < length xs
    → length xs ≡ length ns → nodes_of xs ≡ map f (take x ns) ++ drop x ns
    → new.node ≡ f (get_or xs x e).node → nodes_of (set xs x new) ≡ map f (take (suc x) ns) ++ drop (suc x) ns
next-turned f ns [] x new e below long is made = absurd (omega (arith, below))
next-turned f [] (y ∷ ys) x new e below long is made = absurd (cc long)
next-turned f (n ∷ ns) (y ∷ ys) zero new e below long is made =
    let first : y.node ≡ n = cc is in
    let rest : nodes_of ys ≡ ns = cc is in
    (λ i. (made ∙ ap f first) i ∷ rest i)
next-turned f (n ∷ ns) (y ∷ ys) (suc x) new e below long is made =
    let first : y.node ≡ f n = cc is in
    let rest : nodes_of ys ≡ map f (take x ns) ++ drop x ns = cc is in
    let longer : length ys ≡ length ns = omega (arith, long) in
    (λ i. first i ∷ (next-turned f ns ys x new e (omega (arith, below)) longer rest made) i)

pub next-told : (down : Bool) (ns : List Node) (xs : List NodeStanding) (x : ℕ) (new e : NodeStanding) → x < length xs → length xs ≡ length ns
    → nodes_of xs ≡ map (with_down down) (take x ns) ++ drop x ns → new.node ≡ with_down down (get_or xs x e).node
    → nodes_of (set xs x new) ≡ map (with_down down) (take (x + 1) ns) ++ drop (x + 1) ns
next-told down ns xs x new e below long is made =
    let next : suc x ≡ x + 1 = omega arith in
    subst (λ (y : ℕ). nodes_of (set xs x new) ≡ map (with_down down) (take y ns) ++ drop y ns) next
    (next-turned (with_down down) ns xs x new e below long is made)

nodes-behind : (xs : List NodeStanding) (new : NodeStanding) (ns : List Node) → nodes_of (xs ++ new ∷ []) ++ ns ≡ nodes_of xs ++ new.node ∷ ns
nodes-behind [] new ns = refl
nodes-behind (x ∷ xs) new ns = ap (λ (rest : List Node). x.node ∷ rest) (nodes-behind xs new ns)

pub next-made : (f : ℕ → Node) (xs : List NodeStanding) (new : NodeStanding) (x n : ℕ) (all : List Node) → x < n
    → nodes_of xs ++ map f (range_with_len x (n - x)) ≡ all → new.node ≡ f x
    → nodes_of (xs ++ new ∷ []) ++ map f (range_with_len (x + 1) (n - (x + 1))) ≡ all
next-made f xs new x n all below is made =
    let left : n - x ≡ suc (n - (x + 1)) = omega (arith, below) in
    nodes-behind xs new _ ∙ ap (λ (y : Node). nodes_of xs ++ y ∷ map f (range_with_len (x + 1) (n - (x + 1)))) made
    ∙ ap (λ (l : ℕ). nodes_of xs ++ map f (range_with_len x l)) (sym left) ∙ is
