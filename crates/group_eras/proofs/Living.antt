-- Items that live, and what a carry makes of them.
use Rattle.std.proofs.Common.{ℕ, zero, suc, ◌≡◌, ◌<◌, ◌≤◌, ◌+◌, ◌==◌, nat_le, nat_lt, Bool, true, false, cond, List, []}
use Rattle.std.proofs.Common.{◌∷◌, ◌++◌, map, Option, Some, None, if◌then◌else◌, ◌⊎◌, inl, inr, refl, ap, subst, arith}
use Rattle.std.specs.Prelude.{Contains, filter}
use Rattle.std.specs.List.{range_with_len}
use Rattle.std.proofs.lemmas.Bool.{cases_lt}
use Rattle.std.proofs.lemmas.Grind.{common_steps}
use Rattle.std.proofs.lemmas.List.Elements.{Contains-append_left, Contains-append_right}
use Rattle.item_index.specs.declared.slot.Slot.{Slot}
use Rattle.memc_table.specs.Expiry.{is_live, longest_offset, until_of}
use Rattle.group_run.specs.Replica.{Items}
use Rattle.group_run.specs.World.{World}
use Rattle.group_eras.specs.Carry.{expiry_of}
use Rattle.group_eras.specs.Items.{Load, load_of_slot, loads_in, loads_of}

-- an item that lives is carried
pub live-load : (d : ℕ) (items : Items) (x : List ℕ × Slot) → Contains items x → is_live 0 x.1.until ≡ true
    → Contains (map (load_of_slot d) (filter (λ y. is_live 0 y.1.until) items)) (load_of_slot d x)
live-load d [] x there live = absurd (let low = there.1 in omega (arith, low))
live-load d (y ∷ ys) x there live = by there (is_live 0 y.1.until) refl (λ rest. live-load d ys x rest live) where
  tail : List Load
  tail = map (load_of_slot d) (filter (λ z. is_live 0 z.1.until) ys)

  by : Contains (y ∷ ys) x → (b : Bool) → is_live 0 y.1.until ≡ b
      → (Contains ys x → Contains (map (load_of_slot d) (filter (λ z. is_live 0 z.1.until) ys)) (load_of_slot d x))
      → Contains (map (load_of_slot d) (cond b (y ∷ filter (λ z. is_live 0 z.1.until) ys) (filter (λ z. is_live 0 z.1.until) ys))) (load_of_slot d x)
  by (zero, low, is) true same later = (0, omega arith, ap (load_of_slot d) is)
  by (zero, low, is) false same later = absurd (cc (same, is, live))
  by (suc i, low, is) true same later = let rest = later (i, omega (arith, low), is) in (suc rest.0, (let less = rest.1 in omega (arith, less)), rest.2)
  by (suc i, low, is) false same later = later (i, omega (arith, low), is)

pub in-loads : (w : World) (n a d : ℕ) (x : Load) → a ≤ d → d < a + n → Contains (loads_in w d) x → Contains (loads_of w (range_with_len a n)) x
in-loads w zero a d x from to there = absurd (omega (arith, from, to))
in-loads w (suc n) a d x from to there = by (cases_lt a d) (λ above. in-loads w n (a + 1) d x above (omega (arith, to)) there) where
  by : (a < d) ⊎ (d ≤ a) → (a + 1 ≤ d → Contains (loads_of w (range_with_len (a + 1) n)) x) → Contains (loads_in w a ++ loads_of w (range_with_len (a + 1) n)) x
  by (inl less) later = Contains-append_right (loads_in w a) (loads_of w (range_with_len (a + 1) n)) x (later (omega (arith, less)))
  by (inr same) later =
      let here : d ≡ a = omega (arith, same, from) in
      Contains-append_left (loads_in w a) (loads_of w (range_with_len (a + 1) n)) x (subst (λ (e : ℕ). Contains (loads_in w e) x) here there)

-- an until of 0 is the only one at which an item lives at no moment
pub dead-until : (until : Option ℕ) → is_live 0 until ≡ false → until ≡ Some 0
dead-until None is = absurd (cc is)
dead-until (Some u) is = ap Some (zero-is u is) where
  zero-is : (u : ℕ) → nat_lt 0 u ≡ false → u ≡ 0
  zero-is u is = grind (arith, common_steps)

-- an item that is set lives until what it was
pub until-back : (until : Option ℕ) → is_live 0 until ≡ true → until_of (expiry_of until) 0 ≡ until
until-back None live = refl
until-back (Some u) live = by (u == 0) refl (nat_le u longest_offset) where
  by : (b : Bool) → (u == 0) ≡ b → (c : Bool) → (if b then None else (if c then Some (0 + u) else Some u)) ≡ Some u
  by true is c = absurd (let none : u ≡ 0 = grind (arith, common_steps) in cc (live, none))
  by false is true = ap Some (omega arith)
  by false is false = refl
