-- What holds of each value that has a place, as values come, change and go.
use Rattle.std.proofs.Common.{◌≡◌, ℕ, ◌+◌, ◌<◌, Option, Some, None, is_some, Bool, true, false, cond, nat_eq, length, sym, ◌∙◌, subst, ⊎_elim, arith}
use Rattle.std.proofs.lemmas.Bool.{cases_Bool, cases_lt, eq-eqb, eqb-true}
use Rattle.std.proofs.lemmas.List.{get_or-set_same, get_or-set_other, get_or_past}
use Rattle.std.proofs.lemmas.List.Sums.{sum_by-set}
use Rattle.slab.specs.Slab.{Updates, slab_len}
use Rattle.ready_places.specs.Placed.{Placed, EachPlaced, HasPlace, placed_at, with_value_at}

-- a key that has a place is the number of a slot
pub within-slots : {T : Type 0} (placed : Placed T) (key : ℕ) → HasPlace placed key → key < length placed.values.slots
within-slots placed key there = ⊎_elim
    (λ below. below)
    (λ past. let bad : false ≡ true = subst (λ (o : Option _). is_some o ≡ true) (get_or_past placed.values.slots key None past) there in cc)
    (cases_lt key (length placed.values.slots))

module _ {T : Type 0} (P : T → Type 0) where
  -- a value that is found is the one that was put
  found : (value other : T) → Some value ≡ Some other → P value → P other
  found value other same holds = let equal : value ≡ other = cc in subst P equal holds

  -- each key has the value that it had
  pub each-same : (old new : Placed T) → ((key : ℕ) → placed_at new key ≡ placed_at old key) → EachPlaced P old → EachPlaced P new
  each-same old new same each key value at = each key value (sym (same key) ∙ at)

  -- a value came
  pub each-came : (old new : Placed T) (key : ℕ) (value : T) → Updates old.values new.values key (Some value) → P value → EachPlaced P old → EachPlaced P new
  each-came old new key value updates holds each other there at = ⊎_elim
      (λ equal. found value there (sym updates.changed ∙ subst (λ (k : ℕ). placed_at new k ≡ Some there) (eqb-true other key equal) at) holds)
      (λ differs. each other there (sym (updates.others other (λ same. let bad : true ≡ false = sym (eq-eqb other key same) ∙ differs in cc)) ∙ at))
      (cases_Bool (nat_eq other key))

  -- a value went
  pub each-went : (old new : Placed T) (key : ℕ) → Updates old.values new.values key None → EachPlaced P old → EachPlaced P new
  each-went old new key updates each other there at = ⊎_elim
      (λ equal. let bad : None ≡ Some there = sym updates.changed ∙ subst (λ (k : ℕ). placed_at new k ≡ Some there) (eqb-true other key equal) at in cc)
      (λ differs. each other there (sym (updates.others other (λ same. let bad : true ≡ false = sym (eq-eqb other key same) ∙ differs in cc)) ∙ at))
      (cases_Bool (nat_eq other key))

  -- a value was changed at its place
  pub each-changed : (old : Placed T) (key : ℕ) (value : T) → HasPlace old key → P value → EachPlaced P old → EachPlaced P (with_value_at old key value)
  each-changed old key value placed holds each = each-came old (with_value_at old key value) key value (record {
    changed = get_or-set_same old.values.slots key (Some value) None (within-slots old key placed);
    others = λ other differs. get_or-set_other old.values.slots key other (Some value) None differs;
  }) holds each

-- as many values stand where one was changed at its place
pub len-changed : {T : Type 0} (old : Placed T) (key : ℕ) (value : T) → HasPlace old key → slab_len (with_value_at old key value).values ≡ slab_len old.values
len-changed old key value placed = let counts : slab_len (with_value_at old key value).values + 1 ≡ slab_len old.values + 1 =
    subst (λ (b : Bool). slab_len (with_value_at old key value).values + cond b 1 0 ≡ slab_len old.values + 1) placed
    (sum_by-set (λ slot. cond (is_some slot) 1 0) old.values.slots key (Some value) None (within-slots old key placed))
    in omega (arith, counts)
