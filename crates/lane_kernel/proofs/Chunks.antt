-- What a loop over bytes or vectors has written.
use Rattle.std.proofs.Common.{◌≡◌, ◌≢◌, ℕ, ◌+◌, ◌-◌, ◌<◌, ◌≤◌, List, ◌++◌, length, take, drop, get_or, set, bit_xor}
use Rattle.std.proofs.Common.{inl, inr, sym, ap, ap₂, ◌∙◌, subst, refl, arith, get_or-set_other, get_or-set_same}
use Rattle.std.proofs.Common.{length-set}
use Rattle.std.specs.Simd.Lanes.{chunk, put_chunk}
use Rattle.std.proofs.lemmas.Bool.{cases_lt}
use Rattle.std.proofs.lemmas.Grind.{same_number_lists}
use Rattle.std.proofs.lemmas.List.{length-take, length-drop, get_or-take, take-append-drop}
use Rattle.std.proofs.lemmas.Simd.{length-chunk, length-put_chunk, get_or-chunk, get_or-put_chunk_below, get_or-put_chunk_at, get_or-put_chunk_above}
use Rattle.field_byte.specs.Vectors.{add_bytes, scale}
use Rattle.field_byte.proofs.Vectors.{length-add_scaled, length-scale, get_or-add_bytes, chunk-add_bytes, chunk-scale}
use Rattle.lane_kernel.specs.Sums.{add_two}

-- before the place at, now is as whole, and from it on as old
pub record Written (at : ℕ) (old whole now : List ℕ) : Type 0 where
  pub long : length now ≡ length old
  pub done : (k : ℕ) → k < at → get_or now k 0 ≡ get_or whole k 0
  pub left : (k : ℕ) → at ≤ k → get_or now k 0 ≡ get_or old k 0

pub byte_written : (at : ℕ) (old whole now : List ℕ) (x : ℕ) → at < length old → x ≡ get_or whole at 0
    → Written at old whole now → Written (at + 1) old whole (set now at x)
byte_written at old whole now x within is before = record {
  long = length-set now at x ∙ before.long;
  done = λ k below. elim (cases_lt k at) [
    | inl earlier ↦ let other : k ≢ at = omega arith in rw get_or-set_other (before.done k earlier)
    | inr here ↦
        let same : k ≡ at = omega arith in
        let in_now : at < length now = omega (arith, before.long) in
        ap (λ j. get_or (set now at x) j 0) same ∙ ((rw get_or-set_same is) ∙ ap (λ j. get_or whole j 0) (sym same))
  ];
  left = λ k above. let other : k ≢ at = omega arith in rw get_or-set_other (before.left k (omega arith));
}

pub byte_added : (at : ℕ) (old terms now : List ℕ) (x : ℕ) → length old ≡ length terms → at < length old → x ≡ bit_xor (get_or now at 0) (get_or terms at 0)
    → Written at old (add_bytes old terms) now → Written (at + 1) old (add_bytes old terms) (set now at x)
byte_added at old terms now x same within is before =
    byte_written at old (add_bytes old terms) now x within
    (is ∙ (ap (λ y. bit_xor y (get_or terms at 0)) (before.left at (omega arith)) ∙ sym (get_or-add_bytes old terms at same))) before

pub chunk_left : (at n : ℕ) (old whole now : List ℕ) → at + n ≤ length old → Written at old whole now → chunk at n now ≡ chunk at n old
chunk_left at n old whole now within before =
    let now_long = length-chunk at n now (omega (arith, before.long)) in
    same_number_lists _ _ (now_long ∙ sym (length-chunk at n old within)) (λ k below.
    let lane : k < n = omega arith in
    get_or-chunk at n now k 0 lane ∙ (before.left (at + k) (omega arith) ∙ sym (get_or-chunk at n old k 0 lane)))

vector_done : (at n : ℕ) (whole now sum : List ℕ) → at + n ≤ length now → length whole ≡ length now
    → sum ≡ chunk at n whole → ((k : ℕ) → k < at → get_or now k 0 ≡ get_or whole k 0)
    → (k : ℕ) → k < at + n → get_or (put_chunk at now sum) k 0 ≡ get_or whole k 0
vector_done at n whole now sum within same is done k below =
    let wide : length sum ≡ n = ap length is ∙ length-chunk at n whole (omega arith) in
    elim (cases_lt k at) [
      | inl earlier ↦ get_or-put_chunk_below at now sum k 0 earlier ∙ done k earlier
      | inr here ↦
          let lane : k - at < n = omega arith in
          let place : k ≡ at + (k - at) = omega arith in
          ap (λ j. get_or (put_chunk at now sum) j 0) place
          ∙ (get_or-put_chunk_at at now sum (k - at) 0 (omega arith) (omega arith)
          ∙ (ap (λ l. get_or l (k - at) 0) is ∙ (get_or-chunk at n whole (k - at) 0 lane ∙ ap (λ j. get_or whole j 0) (sym place))))
    ]

pub vector_written : (at n : ℕ) (old whole now sum : List ℕ) → at + n ≤ length old → length whole ≡ length old
    → sum ≡ chunk at n whole → Written at old whole now → Written (at + n) old whole (put_chunk at now sum)
vector_written at n old whole now sum within same is before =
    let wide : length sum ≡ n = ap length is ∙ length-chunk at n whole (omega arith) in
    record {
      long = length-put_chunk at now sum ∙ before.long;
      done = vector_done at n whole now sum (omega (arith, before.long)) (same ∙ sym before.long) is before.done;
      left = λ k above. get_or-put_chunk_above at now sum k 0 (omega arith) ∙ before.left k (omega arith);
    }

pub all_written : (at : ℕ) (old whole now : List ℕ) → length old ≤ at → length whole ≡ length old → Written at old whole now → now ≡ whole
all_written at old whole now over same written = same_number_lists now whole (written.long ∙ sym same) (λ k below. written.done k (omega (arith, written.long)))

-- old becomes whole part by part: f makes the n bytes from a place on of those that are there
pub record ByParts (old whole : List ℕ) (f : ℕ → ℕ → List ℕ → List ℕ) : Type 0 where
  pub same : length whole ≡ length old
  pub parts : (at n : ℕ) → at + n ≤ length old → f at n (chunk at n old) ≡ chunk at n whole

-- a vector goes to its place
pub part_written : {old whole : List ℕ} {f : ℕ → ℕ → List ℕ → List ℕ} → ByParts old whole f → (at n : ℕ) (now part : List ℕ) → at + n ≤ length old
    → part ≡ f at n (chunk at n now) → Written at old whole now → Written (at + n) old whole (put_chunk at now part)
part_written {old} {whole} {f} by at n now part within is before =
    vector_written at n old whole now part within by.same (is ∙ (ap (f at n) (chunk_left at n old whole now within before) ∙ by.parts at n within)) before

-- the last vector, made at first, closes what the others left
pub last_written : {old whole : List ℕ} {f : ℕ → ℕ → List ℕ → List ℕ} → ByParts old whole f
    → (at end n : ℕ) (now last : List ℕ) → end + n ≡ length old → end ≤ at → last ≡ f end n (chunk end n old)
    → Written at old whole now → put_chunk end now last ≡ whole
last_written {old} {whole} {f} by at end n now last at_end reached is before =
    let long = before.long ∙ sym by.same in
    same_number_lists _ whole (length-put_chunk end now last ∙ long) (λ k below.
    vector_done end n whole now last (omega (arith, before.long)) (sym long) (is ∙ by.parts end n (omega arith)) (λ j earlier. before.done j (omega arith)) k
    (omega (arith, before.long, length-put_chunk end now last)))

abbrev pub put_mid : ℕ → ℕ → List ℕ → List ℕ → List ℕ
put_mid at n xs ys = take at xs ++ (ys ++ drop n (drop at xs))

rest_put : (at n : ℕ) (old whole now rest : List ℕ) → at + n ≡ length old → length whole ≡ length old
    → rest ≡ chunk at n whole → Written at old whole now → put_mid at n now rest ≡ whole
rest_put at n old whole now rest all same part before =
    let front : take at now ≡ take at whole = same_number_lists _ _ (omega (arith, length-take at now, length-take at whole, before.long, same)) (λ k below.
    let early : k < at = omega (arith, length-take at now) in
    get_or-take at now k 0 early ∙ (before.done k early ∙ sym (get_or-take at whole k 0 early))) in
    let back : drop n (drop at now) ≡ drop n (drop at whole) =
    same_number_lists _ _ (omega (
      arith,
      length-drop n (drop at now),
      length-drop n (drop at whole),
      length-drop at now,
      length-drop at whole,
      before.long,
      same,
    )) (λ k below.
    absurd (omega (arith, length-drop n (drop at now), length-drop at now, before.long))) in
    ap₂ (λ x y. x ++ y) front (ap₂ (λ x y. x ++ y) part back) ∙ (ap (λ x. take at whole ++ x) (take-append-drop n (drop at whole)) ∙ take-append-drop at whole)

-- the rest, in one piece
pub rest_written : {old whole : List ℕ} {f : ℕ → ℕ → List ℕ → List ℕ} → ByParts old whole f → (at end : ℕ) (now rest : List ℕ) → at ≡ end → end ≤ length old
    → rest ≡ f end (length old - end) (chunk end (length now - end) now) → Written at old whole now → put_mid end (length now - end) now rest ≡ whole
rest_written {old} {whole} {f} by at end now rest reached within is before =
    let n = length old - end in
    let all : end + n ≡ length old = omega arith in
    let done = subst (λ k. Written k old whole now) reached before in
    let part = ap (λ k. f end n (chunk end (k - end) now)) before.long
    ∙ (ap (f end n) (chunk_left end n old whole now (omega (arith, all)) done)
    ∙ by.parts end n (omega (arith, all))) in
    ap (λ k. put_mid end (k - end) now rest) before.long ∙ rest_put end n old whole now rest all by.same (is ∙ part) done

-- one more product, in a part
pub product_more : (coef : ℕ) (src whole front : List ℕ) (at n : ℕ) → length src ≡ length whole → front ≡ chunk at n whole
    → add_bytes front (scale coef (chunk at n src)) ≡ chunk at n (add_bytes whole (scale coef src))
product_more coef src whole front at n same is =
    ap₂ add_bytes is (sym (chunk-scale coef at n src)) ∙ sym (chunk-add_bytes at n whole (scale coef src) (sym (length-scale coef src ∙ same)))

pub product_parts : (coef : ℕ) (src old : List ℕ) → length src ≡ length old
    → ByParts old (add_bytes old (scale coef src)) (λ at n l. add_bytes l (scale coef (chunk at n src)))
product_parts coef src old same = record {
  same = length-add_scaled coef src old same;
  parts = λ at n within. product_more coef src old _ at n same refl;
}

-- the same of two products
module _ (p q : ℕ) (xs ys old : List ℕ) (x_same : length xs ≡ length old) (y_same : length ys ≡ length old) where
  length-first : length (add_bytes old (scale p xs)) ≡ length old
  length-first = length-add_scaled p xs old x_same

  pub length-both : length (add_two p q xs ys old) ≡ length old
  length-both = length-add_scaled q ys _ (y_same ∙ sym length-first) ∙ length-first

  pub two_parts : ByParts old (add_two p q xs ys old) (λ at n l. add_two p q (chunk at n xs) (chunk at n ys) l)
  two_parts = record {
    same = length-both;
    parts = λ at n within. product_more q ys _ _ at n (y_same ∙ sym length-first) (product_more p xs old _ at n x_same refl);
  }
