-- Copies of which no two are for one session.
use Rattle.std.proofs.Common.{◌≡◌, ℕ, zero, suc, ◌<◌, ◌==◌, Bool, true, false, not, ◌&&◌, cond, if◌then◌else◌, List, []}
use Rattle.std.proofs.Common.{◌∷◌, ◌++◌, length, get_or, set, map, filter, is_some, Option, Some, None, refl, sym, ap}
use Rattle.std.proofs.Common.{ap₂, ◌∙◌, arith}
use Rattle.std.specs.List.{remove}
use Rattle.std.proofs.lemmas.Bool.{eqb-true, eq-eqb, true≢false}
use Rattle.group_run.specs.Process.{Copy}
use Rattle.group_run.specs.Rows.{copy_in, is_copy, with_copy, without_copy}
use Rattle.row_copies.specs.Row.{HaveOneEach}

both : (a b : Bool) → (a && b) ≡ true → (a ≡ true) × (b ≡ true)
both true b e = (refl, e)
both false b e = absurd (true≢false (sym e))

eqb_flip : (a b : ℕ) → (a == b) ≡ false → (b == a) ≡ false
eqb_flip a b e = flipped (b == a) refl
  where
    flipped : (t : Bool) → (b == a) ≡ t → t ≡ false
    flipped false is = refl
    flipped true is = absurd (true≢false (sym (eq-eqb a b (sym (eqb-true b a is))) ∙ e))

-- the session of a copy
same_session : (l n : ℕ) (c : Copy) → is_copy l n c ≡ true → (c.leader ≡ l) × (c.number ≡ n)
same_session l n c is = let parts = both (c.leader == l) (c.number == n) is in (eqb-true c.leader l parts.0, eqb-true c.number n parts.1)

pub own_session : (c : Copy) → is_copy c.leader c.number c ≡ true
own_session c = ap₂ (λ (a b : Bool). a && b) (eq-eqb c.leader c.leader refl) (eq-eqb c.number c.number refl)

-- there is no copy for a session
abbrev pub IsNone : ℕ → ℕ → List Copy → Type 0
IsNone l n cs = is_some (copy_in cs l n) ≡ false

none_split : (b : Bool) (c : Copy) (o : Option Copy) → is_some (cond b (Some c) o) ≡ false → (b ≡ false) × (is_some o ≡ false)
none_split true c o e = absurd (true≢false e)
none_split false c o e = (refl, e)

none_join : (b : Bool) (c : Copy) (o : Option Copy) → b ≡ false → is_some o ≡ false → is_some (cond b (Some c) o) ≡ false
none_join true c o other e = absurd (true≢false other)
none_join false c o other e = e

module _ (l n : ℕ) where
  none_at : (cs : List Copy) → IsNone l n cs → (i : ℕ) (d : Copy) → i < length cs → is_copy l n (get_or cs i d) ≡ false
  none_at [] none i d lt = absurd (omega arith)
  none_at (c ∷ cs) none zero d lt = (none_split (is_copy l n c) c (copy_in cs l n) none).0
  none_at (c ∷ cs) none (suc i) d lt = none_at cs (none_split (is_copy l n c) c (copy_in cs l n) none).1 i d (omega arith)

  filtered : (b : Bool) (c : Copy) (cs : List Copy) → is_copy l n c ≡ false → IsNone l n cs → IsNone l n (cond b (c ∷ cs) cs)
  filtered true c cs other none = none_join (is_copy l n c) c (copy_in cs l n) other none
  filtered false c cs other none = none

  none-filter : (p : Copy → Bool) (cs : List Copy) → IsNone l n cs → IsNone l n (filter p cs)
  none-filter p [] none = none
  none-filter p (c ∷ cs) none =
      let parts = none_split (is_copy l n c) c (copy_in cs l n) none in
      filtered (p c) c (filter p cs) parts.0 (none-filter p cs parts.1)

  none-push : (cs : List Copy) (x : Copy) → IsNone l n cs → is_copy l n x ≡ false → IsNone l n (cs ++ x ∷ [])
  none-push [] x none other = none_join (is_copy l n x) x None other refl
  none-push (c ∷ cs) x none other =
      let parts = none_split (is_copy l n c) c (copy_in cs l n) none in
      none_join (is_copy l n c) c (copy_in (cs ++ x ∷ []) l n) parts.0 (none-push cs x parts.1 other)

  module _ (f : Copy → Copy) (leader : (c : Copy) → (f c).leader ≡ c.leader) (number : (c : Copy) → (f c).number ≡ c.number) where
    pub is_some-map : (cs : List Copy) → is_some (copy_in (map f cs) l n) ≡ is_some (copy_in cs l n)
    is_some-map [] = refl
    is_some-map (c ∷ cs) =
        ap (λ (b : Bool). is_some (cond b (Some (f c)) (copy_in (map f cs) l n))) (ap₂ (λ (a b : ℕ). a == l && b == n) (leader c) (number c))
        ∙ step (is_copy l n c) (is_some-map cs)
      where
        step : (b : Bool) → is_some (copy_in (map f cs) l n) ≡ is_some (copy_in cs l n)
            → is_some (cond b (Some (f c)) (copy_in (map f cs) l n)) ≡ is_some (cond b (Some c) (copy_in cs l n))
        step true same = refl
        step false same = same

each_filtered : (b : Bool) (c : Copy) (cs : List Copy) → IsNone c.leader c.number cs → HaveOneEach cs → HaveOneEach (cond b (c ∷ cs) cs)
each_filtered true c cs none each = (none, each)
each_filtered false c cs none each = each

pub each-filter : (p : Copy → Bool) (cs : List Copy) → HaveOneEach cs → HaveOneEach (filter p cs)
each-filter p [] each = each
each-filter p (c ∷ cs) each = each_filtered (p c) c (filter p cs) (none-filter c.leader c.number p cs each.0) (each-filter p cs each.1)

pub each-map : (f : Copy → Copy) (leader : (c : Copy) → (f c).leader ≡ c.leader)
    (number : (c : Copy) → (f c).number ≡ c.number) (cs : List Copy) → HaveOneEach cs → HaveOneEach (map f cs)
each-map f leader number [] each = each
each-map f leader number (c ∷ cs) each = (
  ap₂ (λ (l n : ℕ). is_some (copy_in (map f cs) l n)) (leader c) (number c)
      ∙ (is_some-map c.leader c.number f leader number cs ∙ each.0),
  each-map f leader number cs each.1,
)

other_session : (c x : Copy) → is_copy x.leader x.number c ≡ false → is_copy c.leader c.number x ≡ false
other_session c x other = flipped (is_copy c.leader c.number x) refl
  where
    flipped : (b : Bool) → is_copy c.leader c.number x ≡ b → b ≡ false
    flipped false is = refl
    flipped true is =
        let same = same_session c.leader c.number x is in
        absurd (true≢false (sym (own_session c) ∙ (ap₂ (λ (l n : ℕ). is_copy l n c) (sym same.0) (sym same.1) ∙ other)))

pub each-push : (cs : List Copy) (x : Copy) → HaveOneEach cs → IsNone x.leader x.number cs → HaveOneEach (cs ++ x ∷ [])
each-push [] x each none = (refl, tt)
each-push (c ∷ cs) x each none =
    let parts = none_split (is_copy x.leader x.number c) c (copy_in cs x.leader x.number) none in
    (none-push c.leader c.number cs x each.0 (other_session c x parts.0), each-push cs x each.1 parts.1)

module _ (y : Copy) where
  kept_others : (cs : List Copy) → IsNone y.leader y.number cs → with_copy y cs ≡ cs
  kept_others [] none = refl
  kept_others (c ∷ cs) none =
      let parts = none_split (is_copy y.leader y.number c) c (copy_in cs y.leader y.number) none in
      ap₂ (λ (a : Copy) (rest : List Copy). a ∷ rest) (ap (λ (b : Bool). if b then y else c) parts.0) (kept_others cs parts.1)

  left_others : (cs : List Copy) → IsNone y.leader y.number cs → without_copy y.leader y.number cs ≡ cs
  left_others [] none = refl
  left_others (c ∷ cs) none =
      let parts = none_split (is_copy y.leader y.number c) c (copy_in cs y.leader y.number) none in
      ap (λ (b : Bool). cond (not b) (c ∷ without_copy y.leader y.number cs) (without_copy y.leader y.number cs))
      parts.0 ∙ ap (λ (rest : List Copy). c ∷ rest) (left_others cs parts.1)

  same_none : (c : Copy) (cs : List Copy) → is_copy y.leader y.number c ≡ true → IsNone c.leader c.number cs → IsNone y.leader y.number cs
  same_none c cs is none = let same = same_session y.leader y.number c is in ap₂ (λ (l n : ℕ). is_some (copy_in cs l n)) (sym same.0) (sym same.1) ∙ none

  not_first : (c : Copy) (cs : List Copy) (i : ℕ) (d : Copy) → IsNone c.leader c.number cs → i < length cs
      → is_copy y.leader y.number (get_or cs i d) ≡ true → is_copy y.leader y.number c ≡ false
  not_first c cs i d none lt is = other (is_copy y.leader y.number c) refl
    where
      other : (b : Bool) → is_copy y.leader y.number c ≡ b → b ≡ false
      other false e = refl
      other true e = absurd (true≢false (sym is ∙ none_at y.leader y.number cs (same_none c cs e none) i d lt))

  -- written over the copy of its session, which is the only one
  pub set_with : (cs : List Copy) (i : ℕ) (d : Copy) → HaveOneEach cs → i < length cs
      → is_copy y.leader y.number (get_or cs i d) ≡ true → set cs i y ≡ with_copy y cs
  set_with [] i d each lt is = absurd (omega arith)
  set_with (c ∷ cs) zero d each lt is =
      sym (ap₂ (λ (a : Copy) (rest : List Copy). a ∷ rest) (ap (λ (b : Bool). if b then y else c) is) (kept_others cs (same_none c cs is each.0)))
  set_with (c ∷ cs) (suc i) d each lt is =
      let other = not_first c cs i d each.0 (omega arith) is in
      ap₂ (λ (a : Copy) (rest : List Copy). a ∷ rest) (ap (λ (b : Bool). if b then y else c) (sym other)) (set_with cs i d each.1 (omega arith) is)

  -- and taken out then
  pub remove_without : (cs : List Copy) (i : ℕ) (d : Copy) → HaveOneEach cs → i < length cs
      → is_copy y.leader y.number (get_or cs i d) ≡ true → remove (set cs i y) i ≡ without_copy y.leader y.number cs
  remove_without [] i d each lt is = absurd (omega arith)
  remove_without (c ∷ cs) zero d each lt is =
      sym (ap (λ (b : Bool). cond (not b) (c ∷ without_copy y.leader y.number cs) (without_copy y.leader y.number cs))
      is ∙ left_others cs (same_none c cs is each.0))
  remove_without (c ∷ cs) (suc i) d each lt is =
      let other = not_first c cs i d each.0 (omega arith) is in
      ap (λ (rest : List Copy). c ∷ rest) (remove_without cs i d each.1 (omega arith) is)
      ∙ ap (λ (b : Bool). cond (not b) (c ∷ without_copy y.leader y.number cs) (without_copy y.leader y.number cs)) (sym other)

  with_same : (c : Copy) → ((if is_copy y.leader y.number c then y else c).leader ≡ c.leader)
      × ((if is_copy y.leader y.number c then y else c).number ≡ c.number)
  with_same c = by (is_copy y.leader y.number c) refl
    where
      by : (b : Bool) → is_copy y.leader y.number c ≡ b → ((if b then y else c).leader ≡ c.leader) × ((if b then y else c).number ≡ c.number)
      by true is = let same = same_session y.leader y.number c is in (sym same.0, sym same.1)
      by false is = (refl, refl)

  pub each-with : (cs : List Copy) → HaveOneEach cs → HaveOneEach (with_copy y cs)
  each-with cs each = each-map (λ (c : Copy). if is_copy y.leader y.number c then y else c) (λ c. (with_same c).0) (λ c. (with_same c).1) cs each
