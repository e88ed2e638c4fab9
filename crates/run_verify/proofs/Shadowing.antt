-- Shadows of spaces, which follow the changes of their partitions.
use Rattle.std.proofs.Common.{◌≡◌, ◌≢◌, ◌<◌, ◌≤◌, ◌+◌, ◌-◌, ◌%◌, ◌⊎◌, inl, inr, ℕ, List, [], ◌∷◌, ◌++◌, drop, get_or}
use Rattle.std.proofs.Common.{length, replicate, set, take, refl, sym, ap, ◌∙◌, subst, arith}
use Rattle.std.proofs.Math.Seq.{take-add}
use Rattle.std.proofs.lemmas.Bool.{cases_lt}
use Rattle.std.proofs.lemmas.Grind.{get_or-set_at}
use Rattle.std.proofs.lemmas.List.{append-nil, get_or-append_right, get_or_append_left, get_or-set_other, length-append, length-set, take-append-le}
use Rattle.group_types.specs.Dimensions.{Dimensions, space_of}
use Rattle.group_types.proofs.Lists.{at-put, at-put-other}
use Rattle.group_types.specs.Lists.{at, put}
use Rattle.run_verify.specs.Changes.{space_after_changes, space_behind, written_by}
use Rattle.run_verify.specs.Shadows.{AllFollow, AreMore, Follows, IsShadowAt}
use Rattle.run_verify.specs.Showing.{spaces_in}
use Rattle.run_verify.specs.declared.change.Change.{Change}
use Rattle.run_verify.specs.declared.shadow.Shadow.{Shadow}

after-append : (space : List ℕ) (xs ys : List Change) → space_after_changes space (xs ++ ys) ≡ space_after_changes (space_after_changes space xs) ys
after-append space [] ys = refl
after-append space (x ∷ xs) ys = after-append (written_by x.effect space) xs ys

-- a space behind some changes, with those written that follow
pub went_on : (s : Dimensions) (changes : List Change) (a n : ℕ) (old now : List ℕ) → length old ≡ space_of s → a ≤ n
    → old ≡ space_after_changes (replicate (length old) 0) (take a changes)
    → now ≡ space_after_changes old (take (n - a) (drop a changes)) → now ≡ space_behind s (take n changes)
went_on s changes a n old now long low before written =
    let whole : take a changes ++ take (n - a) (drop a changes) ≡ take n changes = sym (take-add a (n - a) changes)
    ∙ ap (λ (k : ℕ). take k changes) (let e : a + (n - a) ≡ n = omega (arith, low) in e) in
    written
    ∙ ap (λ (space : List ℕ). space_after_changes space (take (n - a) (drop a changes)))
    (before ∙ ap (λ (k : ℕ). space_after_changes (replicate k 0) (take a changes)) long)
    ∙ sym (after-append (replicate (space_of s) 0) (take a changes) (take (n - a) (drop a changes)))
    ∙ ap (space_after_changes (replicate (space_of s) 0)) whole

pub follows_on : (s : Dimensions) (changes : List Change) (shadow : Shadow) → shadow.number ≤ length changes
    → length shadow.space.items ≡ space_of s → shadow.space.items ≡ space_behind s (take shadow.number changes)
    → Follows changes shadow
follows_on s changes shadow within long is = record {
  within = within;
  space = is ∙ ap (λ (k : ℕ). space_after_changes (replicate k 0) (take shadow.number changes)) (sym long);
}

-- ---- all shadows

pub follow_pushed : (changes : List (List Change)) (shadows : List Shadow) (new : Shadow)
    → ((cs : List Change) → Follows cs new) → AllFollow changes shadows → AllFollow changes (shadows ++ new ∷ [])
follow_pushed changes shadows new fresh all i d below = by (cases_lt i (length shadows)) where
  by : (i < length shadows) ⊎ (length shadows ≤ i) → Follows (at [] changes (i % 16)) (get_or (shadows ++ new ∷ []) i d)
  by (inl less) = subst (Follows (at [] changes (i % 16))) (sym (get_or_append_left shadows (new ∷ []) d i less)) (all i d less)
  by (inr more) =
      let whole = length-append shadows (new ∷ []) in
      let place : i - length shadows ≡ 0 = omega (arith, below, whole, more) in
      let is : get_or (shadows ++ new ∷ []) i d ≡ new = get_or-append_right shadows (new ∷ []) (length shadows) i d refl
      more ∙ ap (λ (k : ℕ). get_or (new ∷ []) k d) place in
      subst (Follows (at [] changes (i % 16))) (sym is) (fresh (at [] changes (i % 16)))

module _ (changes : List (List Change)) (shadows : List Shadow) (place : ℕ) (new : Shadow) (there : place < length shadows) where
  pub follow_set : Follows (at [] changes (place % 16)) new → AllFollow changes shadows → AllFollow changes (set shadows place new)
  follow_set fresh all i d below = by (cases_lt i place) (cases_lt place i) where
    within : i < length shadows
    within = let same = length-set shadows place new in omega (arith, same, below)

    other : i ≢ place → Follows (at [] changes (i % 16)) (get_or (set shadows place new) i d)
    other differs = subst (Follows (at [] changes (i % 16))) (sym (get_or-set_other shadows place i new d differs)) (all i d within)

    by : (i < place) ⊎ (place ≤ i) → (place < i) ⊎ (i ≤ place) → Follows (at [] changes (i % 16)) (get_or (set shadows place new) i d)
    by (inl less) _ = other (λ same. omega (arith, less, same))
    by (inr low) (inl more) = other (λ same. omega (arith, more, same))
    by (inr low) (inr high) =
        let same : i ≡ place = omega (arith, low, high) in
        subst (Follows (at [] changes (i % 16))) (sym (get_or-set_at shadows place i new d same there))
        (subst (λ (k : ℕ). Follows (at [] changes (k % 16)) new) (sym same) fresh)

  pub shadow_there : (s : Dimensions) (d n : ℕ) → new.space.items ≡ spaces_in s changes d n
      → length new.space.items ≡ space_of s → IsShadowAt s changes d n (set shadows place new) place
  shadow_there s d n is long = record {
    within = let same = length-set shadows place new in omega (arith, same, there);
    space = λ e. ap (λ (x : Shadow). x.space.items) (get_or-set_at shadows place place new e refl there) ∙ is;
    long = λ e. ap (λ (x : Shadow). length x.space.items) (get_or-set_at shadows place place new e refl there) ∙ long;
  }

follow-more : (cs now more : List Change) (shadow : Shadow) → now ≡ cs ++ more → Follows cs shadow → Follows now shadow
follow-more cs now more shadow is follows =
    let long = length-append cs more in
    let below = follows.within in
    subst (λ (xs : List Change). Follows xs shadow) (sym is) (record {
      within = omega (arith, long, below);
      space = follows.space ∙ ap (space_after_changes (replicate (length shadow.space.items) 0)) (sym (take-append-le shadow.number cs more below));
    })

pub follow_more : (changes now : List (List Change)) (shadows : List Shadow) → AreMore changes now → AllFollow changes shadows → AllFollow now shadows
follow_more changes now shadows more all i d below =
    follow-more (at [] changes (i % 16)) (at [] now (i % 16)) (more (i % 16)).0 (get_or shadows i d) (more (i % 16)).1 (all i d below)

-- ---- more changes

more-at : (ls : List (List Change)) (i d : ℕ) (xs more : List Change) → xs ≡ at [] ls i ++ more → (d ≡ i) ⊎ (d ≢ i)
    → (new : List Change) × (at [] (put [] ls i xs) d ≡ at [] ls d ++ new)
more-at ls i d xs more is (inl same) = (
  more,
  ap (λ (k : ℕ). at [] (put [] ls i xs) k) same ∙ at-put [] [] ls i xs ∙ is ∙ ap (λ (k : ℕ). at [] ls k ++ more) (sym same),
)
more-at ls i d xs more is (inr differs) = ([], at-put-other [] ls i d xs differs ∙ sym (append-nil (at [] ls d)))

same-or-not : (d i : ℕ) → (d ≡ i) ⊎ (d ≢ i)
same-or-not d i = by (cases_lt d i) (cases_lt i d) where
  by : (d < i) ⊎ (i ≤ d) → (i < d) ⊎ (d ≤ i) → (d ≡ i) ⊎ (d ≢ i)
  by (inl less) _ = inr (λ same. omega (arith, less, same))
  by (inr low) (inl more) = inr (λ same. omega (arith, more, same))
  by (inr low) (inr high) = inl (omega (arith, low, high))

pub more_put : (ls : List (List Change)) (i : ℕ) (xs more : List Change) → xs ≡ at [] ls i ++ more → AreMore ls (put [] ls i xs)
more_put ls i xs more is d = more-at ls i d xs more is (same-or-not d i)
