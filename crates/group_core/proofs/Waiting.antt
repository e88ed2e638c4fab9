-- What is on its way, link by link.
use Rattle.std.proofs.Common.{ℕ, zero, suc, ◌≡◌, ◌≢◌, ◌≤◌, ◌<◌, ◌+◌, ◌-◌, ◌⊎◌, inl, inr, Bool, true, false, not, ◌&&◌}
use Rattle.std.proofs.Common.{if◌then◌else◌, IsTrue, List, [], ◌∷◌, Option, Some, None, is_some, option_map, refl, sym}
use Rattle.std.proofs.Common.{ap, subst, ◌∙◌, arith}
use Rattle.std.proofs.lemmas.Bool.{cases_eq}
use Rattle.std.specs.List.{range_with_len}
use Rattle.group_types.specs.Lists.{at}
use Rattle.group_types.specs.Names.{index_of}
use Rattle.group_types.proofs.Names.{index-below, process_at-index}
use Rattle.group_message.specs.declared.message.Message.{Message}
use Rattle.group_run.specs.Draining.{event_or, is_waiting, next_among, next_delivery, next_from, next_target, node_at, some_message}
use Rattle.group_run.specs.Meaning.{IsDrained}
use Rattle.group_run.specs.Process.{Node}
use Rattle.group_run.specs.World.{World, process_node}
use Rattle.group_core.specs.Links.{delivery}

unrolled : (x n : ℕ) → x < n → range_with_len x (n - x) ≡ x ∷ range_with_len (x + 1) (n - (x + 1))
unrolled x n below = let left : n - x ≡ suc (n - (x + 1)) = omega (arith, below) in ap (range_with_len x) left

module _ (w : World) where
  abbrev count : ℕ
  count = w.shape.k + w.shape.m

  pub target-behind : (x y n : ℕ) → y < n → is_waiting w x y ≡ false → next_target w x (range_with_len y (n - y))
      ≡ next_target w x (range_with_len (y + 1) (n - (y + 1)))
  target-behind x y n below is = ap (next_target w x) (unrolled y n below)
      ∙ ap (λ (b : Bool). if b then Some y else next_target w x (range_with_len (y + 1) (n - (y + 1)))) is

  pub target-here : (x y n : ℕ) → y < n → is_waiting w x y ≡ true → next_target w x (range_with_len y (n - y)) ≡ Some y
  target-here x y n below is = ap (next_target w x) (unrolled y n below)
      ∙ ap (λ (b : Bool). if b then Some y else next_target w x (range_with_len (y + 1) (n - (y + 1)))) is

  quiet : (dead : Bool) (link : List Message) → link ≡ [] → (not dead && some_message link) ≡ false
  quiet true link is = refl
  quiet false link is = ap some_message is

  pub idle-target : (x : ℕ) → ((y : ℕ) → at [] (node_at w x).links y ≡ []) → (ys : List ℕ) → None ≡ next_target w x ys
  idle-target x idle [] = refl
  idle-target x idle (y ∷ ys) =
      idle-target x idle ys
      ∙ sym (ap (λ (b : Bool). if b then Some y else next_target w x ys)
      (quiet (node_at w y).dead (at [] (node_at w x).links y) (idle y)))

  pub among-behind : (x n : ℕ) → x < n → None ≡ next_target w x (range_with_len 0 count)
      → next_among w (range_with_len x (n - x)) ≡ next_among w (range_with_len (x + 1) (n - (x + 1)))
  among-behind x n below is =
      ap (next_among w) (unrolled x n below) ∙ ap (λ (o : Option ℕ). event_or (next_from w x o) (next_among w (range_with_len (x + 1) (n - (x + 1))))) (sym is)

  pub among-here : (x y n : ℕ) → x < n → Some y ≡ next_target w x (range_with_len 0 count)
      → next_among w (range_with_len x (n - x)) ≡ Some (delivery w.shape (x, y))
  among-here x y n below is =
      ap (next_among w) (unrolled x n below) ∙ ap (λ (o : Option ℕ). event_or (next_from w x o) (next_among w (range_with_len (x + 1) (n - (x + 1))))) (sym is)

  none-target : (x n a y : ℕ) → next_target w x (range_with_len a n) ≡ None → a ≤ y → y < a + n → is_waiting w x y ≡ false
  none-target x zero a y none from to = absurd (omega (arith, from, to))
  none-target x (suc n) a y none from to =
      by (is_waiting w x a) refl (cases_eq y a) (λ rest other. none-target x n (a + 1) y rest (omega (arith, from, other)) (omega (arith, to))) where
        by : (b : Bool) → is_waiting w x a ≡ b → (y ≡ a) ⊎ (y ≢ a)
            → (next_target w x (range_with_len (a + 1) n) ≡ None → y ≢ a → is_waiting w x y ≡ false)
            → is_waiting w x y ≡ false
        by true e either behind = absurd (cc (subst (λ (c : Bool). (if c then Some a else next_target w x (range_with_len (a + 1) n)) ≡ None) e none))
        by false e (inl same) behind = ap (is_waiting w x) same ∙ e
        by false e (inr other) behind = behind (subst (λ (c : Bool). (if c then Some a else next_target w x (range_with_len (a + 1) n)) ≡ None) e none) other

  none-from : (n a x : ℕ) → next_among w (range_with_len a n) ≡ None → a ≤ x → x < a + n → next_target w x (range_with_len 0 count) ≡ None
  none-from zero a x none from to = absurd (omega (arith, from, to))
  none-from (suc n) a x none from to =
      by (next_target w a (range_with_len 0 count)) refl (cases_eq x a)
      (λ rest other. none-from n (a + 1) x rest (omega (arith, from, other)) (omega (arith, to))) where
        by : (o : Option ℕ) → next_target w a (range_with_len 0 count) ≡ o → (x ≡ a) ⊎ (x ≢ a)
            → (next_among w (range_with_len (a + 1) n) ≡ None → x ≢ a → next_target w x (range_with_len 0 count) ≡ None)
            → next_target w x (range_with_len 0 count) ≡ None
        by (Some y) e either behind = absurd (cc (subst (λ (o : Option ℕ). event_or (next_from w a o) (next_among w (range_with_len (a + 1) n)) ≡ None) e none))
        by None e (inl same) behind = ap (λ (z : ℕ). next_target w z (range_with_len 0 count)) same ∙ e
        by None e (inr other) behind =
            behind (subst (λ (o : Option ℕ). event_or (next_from w a o) (next_among w (range_with_len (a + 1) n))
            ≡ None) e none) other

  silent : (link : List Message) → some_message link ≡ false → link ≡ []
  silent [] is = refl
  silent (m ∷ ms) is = absurd (cc is)

  not-waiting : (dead b : Bool) → dead ≡ false → (not dead && b) ≡ false → b ≡ false
  not-waiting true b lives is = absurd (cc lives)
  not-waiting false b lives is = is

  pub none-waits : next_delivery w ≡ None → IsDrained w
  none-waits none from to fin lives apart =
      let x : ℕ = index_of w.shape from in
      let y : ℕ = index_of w.shape to in
      let x-low = index-below w.shape from fin in
      let y-low = index-below w.shape to lives.0 in
      let target = none-from count 0 x none (omega arith) (omega (arith, x-low)) in
      let quiet : is_waiting w x y ≡ false = none-target x count 0 y target (omega arith) (omega (arith, y-low)) in
      let there : node_at w y ≡ process_node w to = ap (process_node w) (process_at-index w.shape to lives.0) in
      let here : node_at w x ≡ process_node w from = ap (process_node w) (process_at-index w.shape from fin) in
      let no_message : some_message (at [] (node_at w x).links y) ≡ false
      = not-waiting (node_at w y).dead _ (ap (λ (n : Node). n.dead) there ∙ lives.1) quiet in
      ap (λ (n : Node). at [] n.links y) (sym here) ∙ silent (at [] (node_at w x).links y) no_message

  pub none-next : (o : Option (ℕ × ℕ)) (b : Bool) → is_some o ≡ not b → IsTrue b → option_map (delivery w.shape) o ≡ next_delivery w → IsDrained w
  none-next None b is none_left next = none-waits (sym next)
  none-next (Some p) true is none_left next = absurd (cc is)
  none-next (Some p) false is none_left next = absurd (cc none_left)
