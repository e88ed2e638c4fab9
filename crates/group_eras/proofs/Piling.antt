-- Items that lie one upon another from the bottom of a space: the next value gets the run on top of them.
use Rattle.std.proofs.Common.{ℕ, zero, suc, ◌≡◌, ◌<◌, ◌≤◌, ◌+◌, ◌-◌, nat_lt, Bool, true, false, not, ◌&&◌, ◌||◌, cond}
use Rattle.std.proofs.Common.{List, [], ◌∷◌, Option, Some, None, ◌⊎◌, inl, inr, refl, ap, ap₂, ◌∙◌, arith}
use Rattle.std.specs.List.{list_any}
use Rattle.std.proofs.lemmas.Bool.{cases_lt}
use Rattle.std.proofs.lemmas.Grind.{common_steps}
use Rattle.std.specs.Cmp.Lexicographic.{slice_cmp}
use Rattle.std.specs.FinMap.Entries as entries
use Rattle.std.specs.FinMap.Entries.{by_order}
use Rattle.std.specs.Ordering.{is_eq, nat_cmp}
use Rattle.std.specs.declared.cmp.Ordering.{Ordering}
use Rattle.std.specs.declared.cmp.Ordering.TheVariants.{Less, Equal, Greater}
use Rattle.group_types.specs.Each.{Each}
use Rattle.group_types.specs.Lists.{same_key}
use Rattle.group_types.specs.declared.run.Run.{Run}
use Rattle.item_index.specs.declared.slot.Slot.{Slot}
use Rattle.group_message.specs.declared.update.Update.{Update}
use Rattle.run_alloc.specs.Free.{IsFreeRun, NoPlace}
use Rattle.group_run.specs.Free.{in_run, is_free, place_for}
use Rattle.group_run.specs.Replica.{Items, Replica, run_in, slot_in, with_slot}
use Rattle.law_updates.specs.Placing.{IsPlaced}
use Rattle.law_updates.proofs.Placing.{places_are_best}

-- the items cover the first addresses, and no others
pub record Piled (total : ℕ) (items : Items) : Type 0 where
  pub under : Each (λ x. x.1.at + x.1.len ≤ total) items
  pub covers : (a : ℕ) → a < total → list_any (λ x. in_run a (run_in x.1)) items ≡ true

pub none-piled : Piled 0 []
none-piled = record { under = tt; covers = λ a low. absurd (omega (arith, low)) }

not-in : (a : ℕ) (run : Run) → run.at + run.len ≤ a → in_run a run ≡ false
not-in a run low = grind (arith, common_steps)

pub in-own : (a : ℕ) (run : Run) → run.at ≤ a → a < run.at + run.len → in_run a run ≡ true
in-own a run low high = grind (arith, common_steps)

above : (total a : ℕ) (items : Items) → Each (λ x. x.1.at + x.1.len ≤ total) items → total ≤ a → list_any (λ x. in_run a (run_in x.1)) items ≡ false
above total a [] under low = refl
above total a (x ∷ xs) under low =
    let below = under.0 in
    ap₂ (λ (b c : Bool). b || c) (not-in a (run_in x.1) (omega (arith, below, low))) (above total a xs under.1 low)

-- an item more, under a new key
any-put : (f : List ℕ × Slot → Bool) (key : List ℕ) (slot : Slot) (items : Items) → slot_in items key ≡ None
    → (list_any f items ≡ true) ⊎ (f (key, slot) ≡ true) → list_any f (entries.put (slice_cmp nat_cmp) key slot items) ≡ true
any-put f key slot [] new (inl some) = absurd (cc some)
any-put f key slot [] new (inr here) = ap (λ (b : Bool). b || false) here
any-put f key slot (e ∷ es) new some = by (slice_cmp nat_cmp key e.0) refl (any-put f key slot es) where
  or-true : (b c : Bool) → c ≡ true → (b || c) ≡ true
  or-true true c is = refl
  or-true false c is = is

  rest-new : (b : Bool) → cond b (Some e.1) (slot_in es key) ≡ None → slot_in es key ≡ None
  rest-new true is = absurd (cc is)
  rest-new false is = is

  parts : (b c : Bool) → (b || c) ≡ true → (b ≡ true) ⊎ (c ≡ true)
  parts true c is = inl refl
  parts false c is = inr is

  first : (list_any f (e ∷ es) ≡ true) ⊎ (f (key, slot) ≡ true) → list_any f ((key, slot) ∷ e ∷ es) ≡ true
  first (inl is) = or-true (f (key, slot)) (list_any f (e ∷ es)) is
  first (inr is) = ap (λ (b : Bool). b || list_any f (e ∷ es)) is

  later : (list_any f (e ∷ es) ≡ true) ⊎ (f (key, slot) ≡ true)
      → (slot_in es key ≡ None → (list_any f es ≡ true) ⊎ (f (key, slot) ≡ true)
      → list_any f (entries.put (slice_cmp nat_cmp) key slot es) ≡ true)
      → list_any f (e ∷ entries.put (slice_cmp nat_cmp) key slot es) ≡ true
  later (inr is) rest = or-true (f e) (list_any f (entries.put (slice_cmp nat_cmp) key slot es)) (rest (rest-new (same_key key e.0) new) (inr is))
  later (inl is) rest = which (parts (f e) (list_any f es) is) where
    which : (f e ≡ true) ⊎ (list_any f es ≡ true) → list_any f (e ∷ entries.put (slice_cmp nat_cmp) key slot es) ≡ true
    which (inl here) = ap (λ (b : Bool). b || list_any f (entries.put (slice_cmp nat_cmp) key slot es)) here
    which (inr there) = or-true (f e) (list_any f (entries.put (slice_cmp nat_cmp) key slot es)) (rest (rest-new (same_key key e.0) new) (inl there))

  by : (o : Ordering) → slice_cmp nat_cmp key e.0 ≡ o
      → (slot_in es key ≡ None → (list_any f es ≡ true) ⊎ (f (key, slot) ≡ true) → list_any f (entries.put (slice_cmp nat_cmp) key slot es) ≡ true)
      → list_any f (by_order o ((key, slot) ∷ e ∷ es) ((e.0, slot) ∷ es) (e ∷ entries.put (slice_cmp nat_cmp) key slot es)) ≡ true
  by Less is rest = first some
  by Equal is rest = absurd (cc (new, ap (λ (o : Ordering). cond (is_eq o) (Some e.1) (slot_in es key)) is))
  by Greater is rest = later some rest

under-put : (total : ℕ) (key : List ℕ) (slot : Slot) (items : Items) → slot.at + slot.len ≤ total → Each (λ x. x.1.at + x.1.len ≤ total) items
    → Each (λ x. x.1.at + x.1.len ≤ total) (entries.put (slice_cmp nat_cmp) key slot items)
under-put total key slot [] here all = (here, tt)
under-put total key slot (e ∷ es) here all = by (slice_cmp nat_cmp key e.0) (under-put total key slot es here all.1) where
  by : (o : Ordering) → Each (λ x. x.1.at + x.1.len ≤ total) (entries.put (slice_cmp nat_cmp) key slot es)
      → Each (λ x. x.1.at + x.1.len ≤ total) (by_order o ((key, slot) ∷ e ∷ es) ((e.0, slot) ∷ es) (e ∷ entries.put (slice_cmp nat_cmp) key slot es))
  by Less rest = (here, all)
  by Equal rest = (here, all.1)
  by Greater rest = (all.0, rest)

higher : (total more : ℕ) (items : Items) → total ≤ more → Each (λ x. x.1.at + x.1.len ≤ total) items → Each (λ x. x.1.at + x.1.len ≤ more) items
higher total more [] low all = tt
higher total more (x ∷ xs) low all = ((let here = all.0 in omega (arith, here, low)), higher total more xs low all.1)

-- where a value is put: on top, or nowhere where it has no byte
abbrev pub IsOnTop : ℕ → ℕ → Run → Type 0
IsOnTop total len run = (run.len ≡ len) × (((0 < len) × (run.at ≡ total)) ⊎ ((len ≡ 0) × (run.at ≡ 0)))

pub put-piled : (total len : ℕ) (items : Items) (key : List ℕ) (slot : Slot) → Piled total items → slot_in items key ≡ None → IsOnTop total len (run_in slot)
    → Piled (total + len) (with_slot key (Some slot) items)
put-piled total len items key slot piled new top = record {
  under = under-put (total + len) key slot items (ends top.1) (higher total (total + len) items (omega arith) piled.under);
  covers = λ a low. any-put (λ x. in_run a (run_in x.1)) key slot items new (where-is a low (cases_lt a total));
} where
  long : slot.len ≡ len
  long = top.0

  ends : (((0 < len) × (slot.at ≡ total)) ⊎ ((len ≡ 0) × (slot.at ≡ 0))) → slot.at + slot.len ≤ total + len
  ends (inl both) = let at = both.1 in omega (arith, at, long)
  ends (inr both) = let at = both.1 in let none = both.0 in omega (arith, at, none, long)

  where-is : (a : ℕ) → a < total + len → (a < total) ⊎ (total ≤ a) → (list_any (λ x. in_run a (run_in x.1)) items ≡ true) ⊎ (in_run a (run_in slot) ≡ true)
  where-is a low (inl under) = inl (piled.covers a under)
  where-is a low (inr over) = inr (in-own a (run_in slot) (first top.1) (last top.1)) where
    first : (((0 < len) × (slot.at ≡ total)) ⊎ ((len ≡ 0) × (slot.at ≡ 0))) → slot.at ≤ a
    first (inl both) = let at = both.1 in omega (arith, at, over)
    first (inr both) = let at = both.1 in omega (arith, at)

    last : (((0 < len) × (slot.at ≡ total)) ⊎ ((len ≡ 0) × (slot.at ≡ 0))) → a < slot.at + slot.len
    last (inl both) = let at = both.1 in omega (arith, at, long, low)
    last (inr both) = let none = both.0 in absurd (omega (arith, none, low, over))

-- the run that a replica at rest gives a value
module _ (space total : ℕ) (r : Replica) (piled : Piled total r.items) (quiet : r.log ≡ []) where
  free-is : (a : ℕ) → is_free space r a ≡ (nat_lt a space && not (list_any (λ x. in_run a (run_in x.1)) r.items))
  free-is a =
      ap (λ (log : List Update). is_free space (record r { log = log }) a) quiet ∙ rest (nat_lt a space) (list_any (λ x. in_run a (run_in x.1)) r.items)
    where
      rest : (b c : Bool) → (b && not c && true && true) ≡ (b && not c)
      rest true true = refl
      rest true false = refl
      rest false c = refl

  pub free-above : (a : ℕ) → total ≤ a → a < space → is_free space r a ≡ true
  free-above a low high =
      let inside : nat_lt a space ≡ true = grind (arith, common_steps) in
      free-is a ∙ ap₂ (λ (b c : Bool). b && not c) inside (above total a r.items piled.under low)

  pub taken-below : (a : ℕ) → a < total → is_free space r a ≡ false
  taken-below a low = free-is a ∙ ap (λ (c : Bool). nat_lt a space && not c) (piled.covers a low) ∙ rest (nat_lt a space) where
    rest : (b : Bool) → (b && false) ≡ false
    rest true = refl
    rest false = refl

  top-run : (len : ℕ) → 0 < len → total + len ≤ space → IsFreeRun space (is_free space r) total (space - total)
  top-run len some fits = record {
    some = omega (arith, some, fits);
    inside = omega (arith, fits);
    all_free = λ a low high. free-above a low (omega (arith, high, fits));
    below = λ a next. taken-below a (omega (arith, next));
    above = λ more. absurd (omega (arith, more, fits));
  }

  pub some-place : (len : ℕ) → 0 < len → total + len ≤ space → ¬ (NoPlace space (is_free space r) len)
  some-place len some fits none = let short = none total (space - total) (top-run len some fits) in omega (arith, short, fits)

  pub placed-on-top : (len : ℕ) → total + len ≤ space → (run : Run) × (place_for space r len ≡ Some run) × IsOnTop total len run
  placed-on-top zero fits = (record { at = 0; len = 0 }, refl, (refl, inr (refl, refl)))
  placed-on-top (suc n) fits = by (place_for space r (suc n)) refl (places_are_best space r (suc n) (omega arith)) where
    run-is : IsFreeRun space (is_free space r) total (space - total)
    run-is = top-run (suc n) (omega arith) fits

    by : (o : Option Run) → place_for space r (suc n) ≡ o → IsPlaced space r (suc n) o → (run : Run)
        × (place_for space r (suc n) ≡ Some run) × IsOnTop total (suc n) run
    by None is none = let short = none total (space - total) run-is in absurd (omega (arith, short, fits))
    by (Some run) is placed = (run, is, (placed.0, inl (omega arith, at-top (cases_lt run.at total) (cases_lt total run.at)))) where
      free : IsFreeRun space (is_free space r) run.at placed.1.0
      free = placed.1.1.run

      at-top : (run.at < total) ⊎ (total ≤ run.at) → (total < run.at) ⊎ (run.at ≤ total) → run.at ≡ total
      at-top (inl under) over = let some = free.some in absurd (cc (free.all_free run.at (omega arith) (omega (arith, some)), taken-below run.at under))
      at-top (inr low) (inl over) =
          let some = free.some in
          let inside = free.inside in
          absurd (cc (free.below (run.at - 1) (omega (arith, over)), free-above (run.at - 1) (omega (arith, over)) (omega (arith, over, some, inside))))
      at-top (inr low) (inr high) = omega (arith, low, high)
