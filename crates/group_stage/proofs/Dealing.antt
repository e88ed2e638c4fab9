-- Seats are dealt, and nodes are laid into slots.
use Rattle.std.proofs.Common.{ℕ, zero, suc, ◌≡◌, ◌≢◌, ◌<◌, ◌+◌, ⊎_elim, List, [], ◌∷◌, ◌++◌, length, map, refl, sym, ap, subst, ◌∙◌, arith, length-append}
use Rattle.std.specs.Prelude as std
use Rattle.std.specs.List.{range_with_len}
use Rattle.std.proofs.lemmas.Bool.{cases_eq}
use mathlib.Core.Option.{some}
use Rattle.atomic_table.proofs.Lists.{at_last, at_longer}
use Rattle.group_types.specs.Dimensions.{Dimensions, processes_of}
use Rattle.group_types.specs.Lists.{at}
use Rattle.group_types.specs.Names.{process_at}
use Rattle.group_types.proofs.Lists.{at-map-range}
use Rattle.group_run.specs.Process.{Node}
use Rattle.group_run.specs.World.{opening_node}
use Rattle.group_node.specs.Standing.{NodeStanding}
use Rattle.group_stage.specs.Dealt.{AreNew, IsNew}
use Rattle.group_stage.specs.Opened.{AreLaid}
use Rattle.group_stage.specs.Places.{slot_of}
use Rattle.group_stage.specs.Schedules.{standing_at}
use Rattle.group_stage.specs.Seated.{AreSeatsOf}
use Rattle.group_stage.specs.declared.seat.Seat.{Seat}
use Rattle.group_stage.specs.declared.stage.Stage.{Stage}

-- one seat more
new-more : (stage : Stage) (f : ℕ → ℕ) (xs : List Seat) (x : Seat)
    → ((i : ℕ) (seat : Seat) → std.slice_get xs i ≡ std.Some seat → IsNew stage seat (f i))
    → IsNew stage x (f (length xs))
    → (i : ℕ) (seat : Seat) → std.slice_get (xs ++ x ∷ []) i ≡ std.Some seat → IsNew stage seat (f i)
new-more stage f [] x all last zero seat e = let same : x ≡ seat = cc e in subst (λ (s : Seat). IsNew stage s (f 0)) same last
new-more stage f [] x all last (suc i) seat e = absurd (cc e)
new-more stage f (y ∷ ys) x all last zero seat e = all 0 seat e
new-more stage f (y ∷ ys) x all last (suc i) seat e = new-more stage (λ n. f (suc n)) ys x (λ j s d. all (suc j) s d) last i seat e

pub dealt : (stage : Stage) (xs : List Seat) (x : Seat) (n : ℕ) → AreNew stage xs → n ≡ length xs → IsNew stage x n → AreNew stage (xs ++ x ∷ [])
dealt stage xs x n all here last = new-more stage (λ i. i) xs x all (subst (IsNew stage x) here last)

-- the node at the start
pub stands-at-start : (s : Dimensions) (p : ℕ) → p < processes_of s → record { shape = s; node = opening_node s (process_at s p) } ≡ standing_at s [] p
stands-at-start s p low =
    let d : Node = opening_node s (process_at s p) in
    let here : at d (map (λ x. opening_node s (process_at s x)) (range_with_len 0 (s.k + s.m))) p
    ≡ opening_node s (process_at s (0 + p)) = at-map-range d (λ x. opening_node s (process_at s x)) (s.k + s.m) 0 p
    low in
    let same : 0 + p ≡ p = omega arith in
    ap (λ (n : Node). record { shape = s; node = n }) (sym (here ∙ ap (λ (x : ℕ). opening_node s (process_at s x)) same))

-- one node more, and an empty slot behind it
pub laid-more : (s : Dimensions) (x : ℕ) (xs : List (std.Option NodeStanding)) (y : NodeStanding) → AreLaid s x xs
    → y ≡ standing_at s [] x → AreLaid s (x + 1) ((xs ++ std.Some y ∷ []) ++ std.None ∷ [])
laid-more s x xs y laid is = record {
  long = let a = length-append xs (std.Some y ∷ []) in let b = length-append (xs ++ std.Some y ∷ []) (std.None ∷ []) in
      let l = laid.long in omega (arith, a, b, l);
  home = λ p low. at_longer (xs ++ std.Some y ∷ []) (std.None ∷ []) (slot_of p) _ (⊎_elim
      (λ (e : p ≡ x). at_last xs (std.Some y) (slot_of p) (let l = laid.long in omega (arith, l, e))
      ∙ ap (λ (z : NodeStanding). some (std.Some z)) (is ∙ ap (standing_at s []) (sym e)))
      (λ (n : p ≢ x). at_longer xs (std.Some y ∷ []) (slot_of p) _ (laid.home p (omega (arith, n, low))))
      (cases_eq p x));
}

-- new seats of a stage are of the stage
pub new-of-stage : (stage : Stage) (xs : List Seat) (f : ℕ → ℕ)
    → ((i : ℕ) (seat : Seat) → std.slice_get xs i ≡ std.Some seat → IsNew stage seat (f i)) → AreSeatsOf stage xs
new-of-stage stage [] f all = tt
new-of-stage stage (x ∷ xs) f all = ((all 0 x refl).of_stage, new-of-stage stage xs (λ i. f (suc i)) (λ i seat is. all (suc i) seat is))
