-- What a call that changes one key does to the map of the entries.
use Rattle.std.proofs.Common.{◌≡◌, Bool, true, false, cond, if◌then◌else◌, [], ◌∷◌, Some, None, refl, sym, ap, ◌∙◌}
use Rattle.std.specs.declared.cmp.Ordering.{Ordering}
use Rattle.std.specs.Cmp.{IsTotalOrder}
use Rattle.std.specs.FinMap as map
use Rattle.std.specs.Map.{lookup}
use Rattle.std.specs.Option.{option_and_then}
use Rattle.std.specs.Ordering.{eq_by_cmp}
use Rattle.std.proofs.lemmas.Cmp.{eq_by_cmp_equiv}
use Rattle.item_index.specs.AsMap.{as_map}
use Rattle.item_index.specs.declared.slot.Slot.{Slot}
use Rattle.item_index.specs.Keys.{Keys, entry_slot}

module _ {K : Type 0} {R : K → K → Ordering} (total : IsTotalOrder R) where
  get_by_order : (index : Keys K) (q : K) → map.get (as_map R index) q ≡ entry_slot (eq_by_cmp R) index q
  get_by_order [] q = map.get-empty R q
  get_by_order ((key, None) ∷ rest) q =
      map.get-remove total (as_map R rest) key q
      ∙ elim (eq_by_cmp R q key) as (λ b. cond b None (map.get (as_map R rest) q) ≡ option_and_then (λ slot. slot)
      (cond b (Some None) (lookup (eq_by_cmp R q) rest))) [ true ↦ refl | false ↦ get_by_order rest q ]
  get_by_order ((key, Some slot) ∷ rest) q =
      map.get-insert total (as_map R rest) key slot q
      ∙ elim (eq_by_cmp R q key) as (λ b. cond b (Some slot) (map.get (as_map R rest) q) ≡ option_and_then (λ s. s)
      (cond b (Some (Some slot)) (lookup (eq_by_cmp R q) rest))) [ true ↦ refl | false ↦ get_by_order rest q ]

  module _ (eq : K → K → Bool) (same : (a b : K) → eq a b ≡ eq_by_cmp R a b) where
    -- the map gives what the index gives
    pub get-as_map : (index : Keys K) (q : K) → map.get (as_map R index) q ≡ entry_slot eq index q
    get-as_map index q =
        let whole : eq_by_cmp R ≡ eq = λ i a b. sym (same a b) i in
        get_by_order index q ∙ ap (λ (e : K → K → Bool). entry_slot e index q) whole

    turned : (key q : K) → eq_by_cmp R q key ≡ eq key q
    turned key q = (eq_by_cmp_equiv total).symm q key ∙ sym (same key q)

    module _ (tied : map.IsAntisymmetric R) (old new : Keys K) where
      pub as_map-same : ((q : K) → entry_slot eq new q ≡ entry_slot eq old q) → as_map R new ≡ as_map R old
      as_map-same slots = map.same_map total tied _ _ (λ q. get-as_map new q ∙ slots q ∙ sym (get-as_map old q))

      pub as_map-insert : (key : K) (slot : Slot)
          → ((q : K) → entry_slot eq new q ≡ (if eq key q then Some slot else entry_slot eq old q))
          → as_map R new ≡ map.insert (as_map R old) key slot
      as_map-insert key slot slots = map.same_map total tied _ _ (λ q.
          get-as_map new q ∙ slots q ∙ sym (map.get-insert total (as_map R old) key slot q ∙ rw (turned key q, get-as_map old q) refl))

      pub as_map-remove : (key : K) → ((q : K) → entry_slot eq new q ≡ (if eq key q then None else entry_slot eq old q))
          → as_map R new ≡ map.remove (as_map R old) key
      as_map-remove key slots = map.same_map total tied _ _ (λ q.
          get-as_map new q ∙ slots q ∙ sym (map.get-remove total (as_map R old) key q ∙ rw (turned key q, get-as_map old q) refl))
