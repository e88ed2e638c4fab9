-- Readers that read exactly what is spelled, and what is made of them.
use Rattle.std.proofs.Common.{◌≡◌, ℕ, zero, suc, ◌+◌, ◌^◌, ◌<◌, ◌≤◌, Bool, true, false, cond, ltb, eqb, List, [], ◌∷◌}
use Rattle.std.proofs.Common.{◌++◌, length, get_or, take, drop, Option, Some, None, refl, sym, ap, subst, ◌∙◌}
use Rattle.std.proofs.Common.{append_assoc, arith, inl, inr}
use Rattle.std.specs.List.{AllByRecursion, flat_map}
use Rattle.std.specs.Int.{Width, w16, w32, w64, byte_len, from_be_bytes, to_be_bytes}
use Rattle.std.proofs.lemmas.Bool.{cases_lt, ltb-false, le-ltb, eqb-true}
use Rattle.std.proofs.lemmas.List.{take_at, drop_at, take-append-drop, length-append, length-take, get_or-drop, get_or-take, get_or_past}
use Rattle.std.proofs.lemmas.List.Concat.{flat_map-cons}
use Rattle.std.proofs.lemmas.Nat.{be_bytes_2, be_bytes_4, be_bytes_8, from_be_bytes-to_be_bytes_2, from_be_bytes-to_be_bytes_4, from_be_bytes-to_be_bytes_8}
use Rattle.wire_codec.specs.Frame.{one, two, four, eight}
use Rattle.wire_codec.specs.Fits.{IsOne, IsTwo, IsFour, IsEight}
use Rattle.wire_codec.specs.Reading.{◌>>=◌, Read, one_at, decode_number, decode_bytes, made_at, of_two, of_three, of_four}
use Rattle.wire_codec.specs.Reading.{of_five, tested_at, counted_at, many_at, list_at, picked, tagged_at}

abbrev pub IsBytes : List ℕ → Type 0
IsBytes bytes = (i : ℕ) → get_or bytes i 0 < 256

pub IsBytes-drop : (n : ℕ) (bytes : List ℕ) → IsBytes bytes → IsBytes (drop n bytes)
IsBytes-drop n bytes h i = rw get_or-drop (h (n + i))

pub IsBytes-take : (n : ℕ) (bytes : List ℕ) → IsBytes bytes → IsBytes (take n bytes)
IsBytes-take n bytes h i =
    elim (cases_lt i n) [
      | inl lt ↦ rw (get_or-take n bytes i 0 lt) (h i)
      | inr le ↦ rw (get_or_past (take n bytes) i 0 (omega (arith, length-take n bytes))) (omega arith)
    ]

pub IsBytes-rest : (b : ℕ) (bytes : List ℕ) → IsBytes (b ∷ bytes) → IsBytes bytes
IsBytes-rest b bytes h i = h (suc i)

IsBytes-cons : (x : ℕ) (xs : List ℕ) → x < 256 → IsBytes xs → IsBytes (x ∷ xs)
IsBytes-cons x xs a b zero = a
IsBytes-cons x xs a b (suc i) = b i

pub IsBytes-append : (xs ys : List ℕ) → IsBytes xs → IsBytes ys → IsBytes (xs ++ ys)
IsBytes-append [] ys a b = b
IsBytes-append (x ∷ xs) ys a b = IsBytes-cons x (xs ++ ys) (a 0) (IsBytes-append xs ys (IsBytes-rest x xs a) b)

pub IsBytes-front : (bytes rest : List ℕ) → IsBytes (bytes ++ rest) → IsBytes bytes
IsBytes-front bytes rest h = subst IsBytes (take_at bytes rest (length bytes) refl) (IsBytes-take (length bytes) (bytes ++ rest) h)

-- what was read was spelled at the front
pub record Took {A : Type 0} (spell : A → List ℕ) (Fits : A → Type 0) (bytes : List ℕ) (x : A) (rest : List ℕ) : Type 0 where
  pub parts : bytes ≡ spell x ++ rest
  pub fits : Fits x
  pub behind : IsBytes rest

-- a reader reads what is spelled, and nothing else
pub record Codes {A : Type 0} (spell : A → List ℕ) (Fits : A → Type 0) (read : Read A) : Type 0 where
  pub takes : (bytes : List ℕ) (x : A) (rest : List ℕ) → IsBytes bytes → read bytes ≡ Some (x, rest) → Took spell Fits bytes x rest
  pub again : (x : A) (rest : List ℕ) → Fits x → read (spell x ++ rest) ≡ Some (x, rest)

pub bind_some : {A B : Type 0} (r : Option A) (f : A → Option B) (y : B) → (r >>= f) ≡ Some y → (x : A) × (r ≡ Some x) × (f x ≡ Some y)
bind_some (Some x) f y e = (x, refl, e)
bind_some None f y e = absurd cc

guard_some : {A : Type 0} (b : Bool) (x y : A) → cond b None (Some x) ≡ Some y → (b ≡ false) × (x ≡ y)
guard_some true x y e = absurd cc
guard_some false x y e = (refl, cc)

test_some : {A : Type 0} (b : Bool) (x y : A) → cond b (Some x) None ≡ Some y → (b ≡ true) × (x ≡ y)
test_some true x y e = (refl, cc)
test_some false x y e = absurd cc

abbrev some : {A : Type 0} → A → Option A
some x = Some x

pub some_is : {A : Type 0} (x y : A) → some x ≡ some y → x ≡ y
some_is x y e = cc

pub join : (bytes a rest b behind : List ℕ) → bytes ≡ a ++ rest → rest ≡ b ++ behind → bytes ≡ (a ++ b) ++ behind
join bytes a rest b behind p q = p ∙ ap (λ (t : List ℕ). a ++ t) q ∙ sym (append_assoc a b behind)

-- a first reader, and what is read of the bytes behind what it read
pub step : {A Y : Type 0} {spell : A → List ℕ} {Fits : A → Type 0} {read : Read A} → Codes spell Fits read
    → (f : A × List ℕ → Option Y) (bytes : List ℕ) (y : Y) → IsBytes bytes → (read bytes >>= f) ≡ Some y
    → (x : A × List ℕ) × Took spell Fits bytes x.0 x.1 × (f x ≡ Some y)
step {read = read} codes f bytes y is e =
    let b = bind_some (read bytes) f y e in
    (b.0, codes.takes bytes b.0.0 b.0.1 is b.1, b.2)

-- ---- numbers and bytes

pub record IsWide (w : Width) (limit : ℕ) : Type 0 where
  pub len : (n : ℕ) → length (to_be_bytes w n) ≡ byte_len w
  pub back : (bytes : List ℕ) → length bytes ≡ byte_len w → IsBytes bytes → to_be_bytes w (from_be_bytes w bytes) ≡ bytes
  pub again : (n : ℕ) → n < limit → from_be_bytes w (to_be_bytes w n) ≡ n
  pub below : (bytes : List ℕ) → IsBytes bytes → from_be_bytes w bytes < limit

wide16 : IsWide w16 (2 ^ 16)
wide16 = record {
  len = λ n. refl;
  back = λ bytes len fits. be_bytes_2 bytes _ len fits refl;
  again = λ n lt. from_be_bytes-to_be_bytes_2 n lt;
  below = λ bytes fits. omega (arith, fits 0, fits 1);
}

pub wide32 : IsWide w32 (2 ^ 32)
wide32 = record {
  len = λ n. refl;
  back = λ bytes len fits. be_bytes_4 bytes _ len fits refl;
  again = λ n lt. from_be_bytes-to_be_bytes_4 n lt;
  below = λ bytes fits. omega (arith, fits 0, fits 1, fits 2, fits 3);
}

wide64 : IsWide w64 (2 ^ 64)
wide64 = record {
  len = λ n. refl;
  back = λ bytes len fits. be_bytes_8 bytes _ len fits refl;
  again = λ n lt. from_be_bytes-to_be_bytes_8 n lt;
  below = λ bytes fits. omega (arith, fits 0, fits 1, fits 2, fits 3, fits 4, fits 5, fits 6, fits 7);
}

number_takes : (w : Width) (limit : ℕ) (wide : IsWide w limit) (bytes : List ℕ) (n : ℕ) (rest : List ℕ) → IsBytes bytes
    → decode_number w bytes ≡ Some (n, rest) → Took (to_be_bytes w) (λ n. n < limit) bytes n rest
number_takes w limit wide bytes n rest fits e =
    let g = guard_some (ltb (length bytes) (byte_len w)) (from_be_bytes w (take (byte_len w) bytes), drop (byte_len w) bytes) (n, rest) e in
    let long : byte_len w ≤ length bytes = ltb-false _ _ g.0 in
    let n-is : from_be_bytes w (take (byte_len w) bytes) ≡ n = ap (λ (p : ℕ × List ℕ). p.0) g.1 in
    let rest-is : drop (byte_len w) bytes ≡ rest = ap (λ (p : ℕ × List ℕ). p.1) g.1 in
    let front : to_be_bytes w n ≡ take (byte_len w) bytes =
    rw (← n-is) (wide.back (take (byte_len w) bytes) (omega (arith, length-take (byte_len w) bytes))
    (IsBytes-take (byte_len w) bytes fits)) in
    record {
      parts = rw (front, ← rest-is) (sym (take-append-drop (byte_len w) bytes));
      fits = rw (← n-is) (wide.below (take (byte_len w) bytes) (IsBytes-take (byte_len w) bytes fits));
      behind = rw (← rest-is) (IsBytes-drop (byte_len w) bytes fits);
    }

number_again : (w : Width) (limit : ℕ) (wide : IsWide w limit) (n : ℕ) (rest : List ℕ) → n < limit → decode_number w (to_be_bytes w n ++ rest) ≡ Some (n, rest)
number_again w limit wide n rest lt =
    let len = wide.len n in
    let long : ltb (length (to_be_bytes w n ++ rest)) (byte_len w) ≡ false = le-ltb _ _ (omega (arith, length-append (to_be_bytes w n) rest)) in
    rw (long, take_at (to_be_bytes w n) rest (byte_len w) len, drop_at (to_be_bytes w n) rest (byte_len w) len, wide.again n lt) refl

codes_number : (w : Width) (limit : ℕ) (wide : IsWide w limit) → Codes (to_be_bytes w) (λ n. n < limit) (decode_number w)
codes_number w limit wide = record { takes = λ bytes n rest. number_takes w limit wide bytes n rest; again = λ n rest. number_again w limit wide n rest }

pub codes_two : Codes two IsTwo (decode_number w16)
codes_two = codes_number w16 (2 ^ 16) wide16

pub codes_four : Codes four IsFour (decode_number w32)
codes_four = codes_number w32 (2 ^ 32) wide32

pub codes_eight : Codes eight IsEight (decode_number w64)
codes_eight = codes_number w64 (2 ^ 64) wide64

one_takes : (bytes : List ℕ) (n : ℕ) (rest : List ℕ) → IsBytes bytes → one_at bytes ≡ Some (n, rest) → Took one IsOne bytes n rest
one_takes [] n rest is e = absurd cc
one_takes (b ∷ bytes) n rest is e = subst (λ (p : ℕ × List ℕ). Took one IsOne (b ∷ bytes) p.0 p.1)
    (some_is (b, bytes) (n, rest) e) (record { parts = refl; fits = is 0; behind = IsBytes-rest b bytes is })

pub codes_one : Codes one IsOne one_at
codes_one = record { takes = one_takes; again = λ n rest fits. refl }

-- bytes behind their number
pub codes_counted : (spell : ℕ → List ℕ) (Fits : ℕ → Type 0) (read : Read ℕ) → Codes spell Fits read
    → Codes (λ bytes. spell (length bytes) ++ bytes) (λ bytes. Fits (length bytes)) (counted_at read)
codes_counted spell Fits read codes = record { takes = takes; again = again }
  where
    takes : (bytes text rest : List ℕ) → IsBytes bytes → counted_at read bytes ≡ Some (text, rest)
        → Took (λ text. spell (length text) ++ text) (λ text. Fits (length text)) bytes text rest
    takes bytes text rest is e =
        let n = step codes (λ n. decode_bytes n.0 n.1) bytes (text, rest) is e in
        let g = guard_some (ltb (length n.0.1) n.0.0) (take n.0.0 n.0.1, drop n.0.0 n.0.1) (text, rest) n.2 in
        let long : n.0.0 ≤ length n.0.1 = ltb-false _ _ g.0 in
        let len : length (take n.0.0 n.0.1) ≡ n.0.0 = omega (arith, length-take n.0.0 n.0.1) in
        subst (λ (p : List ℕ × List ℕ). Took (λ text. spell (length text) ++ text) (λ text. Fits (length text)) bytes p.0 p.1) g.1 (record {
          parts = join bytes (spell (length (take n.0.0 n.0.1))) n.0.1 (take n.0.0 n.0.1) (drop n.0.0 n.0.1)
              (subst (λ (k : ℕ). bytes ≡ spell k ++ n.0.1) (sym len) n.1.parts) (sym (take-append-drop n.0.0 n.0.1));
          fits = subst Fits (sym len) n.1.fits;
          behind = IsBytes-drop n.0.0 n.0.1 n.1.behind;
        })

    again : (text rest : List ℕ) → Fits (length text) → counted_at read ((spell (length text) ++ text) ++ rest) ≡ Some (text, rest)
    again text rest fits =
        let long : ltb (length (text ++ rest)) (length text) ≡ false = le-ltb _ _ (omega (arith, length-append text rest)) in
        rw (
          append_assoc (spell (length text)) text rest,
          codes.again (length text) (text ++ rest) fits,
          long,
          take_at text rest (length text) refl,
          drop_at text rest (length text) refl,
        ) refl

-- what passes a test
pub codes_tested : {A : Type 0} (spell : A → List ℕ) (Fits Passes : A → Type 0) (read : Read A) (test : A → Bool) → Codes spell Fits read
    → ((x : A) → Fits x → test x ≡ true → Passes x) → ((x : A) → Passes x → Fits x)
    → ((x : A) → Passes x → test x ≡ true) → Codes spell Passes (tested_at test read)
codes_tested {A = A} spell Fits Passes read test codes passes fits tests = record { takes = takes; again = again }
  where
    takes : (bytes : List ℕ) (x : A) (rest : List ℕ) → IsBytes bytes → tested_at test read bytes ≡ Some (x, rest) → Took spell Passes bytes x rest
    takes bytes x rest is e =
        let s = step codes (λ x. cond (test x.0) (Some x) None) bytes (x, rest) is e in
        let t = test_some (test s.0.0) s.0 (x, rest) s.2 in
        subst (λ (p : A × List ℕ). Took spell Passes bytes p.0 p.1) t.1 (record { parts = s.1.parts; fits = passes s.0.0 s.1.fits t.0; behind = s.1.behind })

    again : (x : A) (rest : List ℕ) → Passes x → tested_at test read (spell x ++ rest) ≡ Some (x, rest)
    again x rest p = rw (codes.again x rest (fits x p), tests x p) refl

-- ---- many things

many_takes : {A : Type 0} (spell : A → List ℕ) (Fits : A → Type 0) (read : Read A) → Codes spell Fits read
    → (n : ℕ) (bytes : List ℕ) (xs : List A) (rest : List ℕ) → IsBytes bytes → many_at read n bytes ≡ Some (xs, rest)
    → Took (flat_map spell) (AllByRecursion Fits) bytes xs rest × (length xs ≡ n)
unfolding many_at
many_takes {A = A} spell Fits read codes zero bytes xs rest is e =
    subst (λ (p : List A × List ℕ). Took (flat_map spell) (AllByRecursion Fits) bytes p.0 p.1 × (length p.0 ≡ 0))
    (some_is ([], bytes) (xs, rest) e) (record { parts = refl; fits = tt; behind = is }, refl)
many_takes {A = A} spell Fits read codes (suc n) bytes xs rest is e =
    let s = step codes (λ x. many_at read n x.1 >>= λ xs. Some (x.0 ∷ xs.0, xs.1)) bytes (xs, rest) is e in
    let b = bind_some (many_at read n s.0.1) (λ xs. Some (s.0.0 ∷ xs.0, xs.1)) (xs, rest) s.2 in
    let t = many_takes spell Fits read codes n s.0.1 b.0.0 b.0.1 s.1.behind b.1 in
    let parts : bytes ≡ flat_map spell (s.0.0 ∷ b.0.0) ++ b.0.1 =
    rw (flat_map-cons spell s.0.0 b.0.0) (join bytes (spell s.0.0) s.0.1 (flat_map spell b.0.0) b.0.1 s.1.parts
    t.0.parts) in
    subst (λ (p : List A × List ℕ). Took (flat_map spell) (AllByRecursion Fits) bytes p.0 p.1 × (length p.0 ≡ suc n))
    (some_is (s.0.0 ∷ b.0.0, b.0.1) (xs, rest) b.2)
    (record { parts = parts; fits = (s.1.fits, t.0.fits); behind = t.0.behind }, ap suc t.1)

many_again : {A : Type 0} (spell : A → List ℕ) (Fits : A → Type 0) (read : Read A) → Codes spell Fits read
    → (xs : List A) (rest : List ℕ) → AllByRecursion Fits xs → many_at read (length xs) (flat_map spell xs ++ rest)
    ≡ Some (xs, rest)
unfolding many_at
many_again spell Fits read codes [] rest fits = refl
many_again spell Fits read codes (x ∷ xs) rest fits =
    rw (
      flat_map-cons spell x xs,
      append_assoc (spell x) (flat_map spell xs) rest,
      codes.again x (flat_map spell xs ++ rest) fits.0,
      many_again spell Fits read codes xs rest fits.1,
    ) refl

-- things behind their number
pub codes_list : {A : Type 0} (count : ℕ → List ℕ) (Counts : ℕ → Type 0) (read_count : Read ℕ) (spell : A → List ℕ)
    (Fits : A → Type 0) (read : Read A) → Codes count Counts read_count → Codes spell Fits read
    → Codes (λ xs. count (length xs) ++ flat_map spell xs) (λ xs. Counts (length xs) × AllByRecursion Fits xs) (list_at read_count read)
codes_list {A = A} count Counts read_count spell Fits read counts codes = record { takes = takes; again = again }
  where
    takes : (bytes : List ℕ) (xs : List A) (rest : List ℕ) → IsBytes bytes → list_at read_count read bytes
        ≡ Some (xs, rest) → Took (λ xs. count (length xs) ++ flat_map spell xs) (λ xs. Counts (length xs)
        × AllByRecursion Fits xs) bytes xs rest
    takes bytes xs rest is e =
        let n = step counts (λ n. many_at read n.0 n.1) bytes (xs, rest) is e in
        let t = many_takes spell Fits read codes n.0.0 n.0.1 xs rest n.1.behind n.2 in
        record {
          parts = join bytes (count (length xs)) n.0.1 (flat_map spell xs) rest (subst (λ (k : ℕ). bytes ≡ count k ++ n.0.1) (sym t.1) n.1.parts) t.0.parts;
          fits = (subst Counts (sym t.1) n.1.fits, t.0.fits);
          behind = t.0.behind;
        }

    again : (xs : List A) (rest : List ℕ) → Counts (length xs) × AllByRecursion Fits xs
        → list_at read_count read ((count (length xs) ++ flat_map spell xs) ++ rest) ≡ Some (xs, rest)
    again xs rest fits =
        rw (
          append_assoc (count (length xs)) (flat_map spell xs) rest,
          counts.again (length xs) (flat_map spell xs ++ rest) fits.0,
          many_again spell Fits read codes xs rest fits.1,
        )
        refl

-- ---- what is made of several things, behind a front that is given

in_front : (front text bytes rest : List ℕ) (spelled : List ℕ) → bytes ≡ text ++ rest → spelled ≡ front ++ text → front ++ bytes ≡ spelled ++ rest
in_front front text bytes rest spelled p same = ap (λ (t : List ℕ). front ++ t) p ∙ sym (append_assoc front text rest)
    ∙ ap (λ (t : List ℕ). t ++ rest) (sym same)

abbrev pub TakesBehind : {X : Type 0} → (X → List ℕ) → (X → Type 0) → List ℕ → Read X → Type 0
TakesBehind {X = X} spell Fits front read = (bytes : List ℕ) (x : X) (rest : List ℕ) → IsBytes bytes
    → read bytes ≡ Some (x, rest) → Took spell Fits (front ++ bytes) x rest

pub takes_made : {A X : Type 0} (spell : X → List ℕ) (Fits : X → Type 0) (front : List ℕ) {sa : A → List ℕ} {Fa : A
    → Type 0} {ra : Read A} (make : A → X) → Codes sa Fa ra
    → ((a : A) → spell (make a) ≡ front ++ sa a) → ((a : A) → Fa a → Fits (make a)) → TakesBehind spell Fits front (made_at make ra)
takes_made {X = X} spell Fits front {sa = sa} make a same fit bytes x rest is e =
    let s = step a (λ x. Some (make x.0, x.1)) bytes (x, rest) is e in
    subst (λ (p : X × List ℕ). Took spell Fits (front ++ bytes) p.0 p.1) (some_is (make s.0.0, s.0.1) (x, rest) s.2)
    (record { parts = in_front front (sa s.0.0) bytes s.0.1 (spell (make s.0.0)) s.1.parts (same s.0.0); fits = fit s.0.0 s.1.fits; behind = s.1.behind })

pub takes_two : {A B X : Type 0} (spell : X → List ℕ) (Fits : X → Type 0) (front : List ℕ) {sa : A → List ℕ} {Fa : A
    → Type 0} {ra : Read A} {sb : B → List ℕ} {Fb : B → Type 0} {rb : Read B} (make : A → B → X) → Codes sa Fa ra
    → Codes sb Fb rb
    → ((a : A) (b : B) → spell (make a b) ≡ front ++ (sa a ++ sb b)) → ((a : A) (b : B) → Fa a → Fb b → Fits (make a b))
    → TakesBehind spell Fits front (of_two make ra rb)
takes_two {X = X} spell Fits front {sa = sa} {sb = sb} {rb = rb} make a b same fit bytes x rest is e =
    let s = step a (λ x. rb x.1 >>= λ y. Some (make x.0 y.0, y.1)) bytes (x, rest) is e in
    let t = step b (λ y. Some (make s.0.0 y.0, y.1)) s.0.1 (x, rest) s.1.behind s.2 in
    subst (λ (p : X × List ℕ). Took spell Fits (front ++ bytes) p.0 p.1) (some_is (make s.0.0 t.0.0, t.0.1) (x, rest) t.2)
    (record {
      parts = in_front front (sa s.0.0 ++ sb t.0.0) bytes t.0.1 (spell (make s.0.0 t.0.0))
          (join bytes (sa s.0.0) s.0.1 (sb t.0.0) t.0.1 s.1.parts t.1.parts) (same s.0.0 t.0.0);
      fits =
          fit s.0.0 t.0.0 s.1.fits t.1.fits;
      behind = t.1.behind;
    })

pub takes_three : {A B C X : Type 0} (spell : X → List ℕ) (Fits : X → Type 0) (front : List ℕ) {sa : A → List ℕ} {Fa : A
    → Type 0} {ra : Read A} {sb : B → List ℕ} {Fb : B → Type 0} {rb : Read B} {sc : C → List ℕ} {Fc : C
    → Type 0} {rc : Read C} (make : A → B → C → X) → Codes sa Fa ra → Codes sb Fb rb → Codes sc Fc rc
    → ((a : A) (b : B) (c : C) → spell (make a b c) ≡ front ++ (sa a ++ sb b ++ sc c))
    → ((a : A) (b : B) (c : C) → Fa a → Fb b → Fc c → Fits (make a b c))
    → TakesBehind spell Fits front (of_three make ra rb rc)
takes_three {X = X} spell Fits front {sa = sa} {sb = sb} {rb = rb} {sc = sc} {rc = rc} make a b c same fit bytes x rest is e =
    let s = step a (λ x. rb x.1 >>= λ y. rc y.1 >>= λ z. Some (make x.0 y.0 z.0, z.1)) bytes (x, rest) is e in
    let t = step b (λ y. rc y.1 >>= λ z. Some (make s.0.0 y.0 z.0, z.1)) s.0.1 (x, rest) s.1.behind s.2 in
    let u = step c (λ z. Some (make s.0.0 t.0.0 z.0, z.1)) t.0.1 (x, rest) t.1.behind t.2 in
    subst (λ (p : X × List ℕ). Took spell Fits (front ++ bytes) p.0 p.1) (some_is (make s.0.0 t.0.0 u.0.0, u.0.1) (x, rest) u.2)
    (record {
      parts = in_front front (sa s.0.0 ++ sb t.0.0 ++ sc u.0.0) bytes u.0.1 (spell (make s.0.0 t.0.0 u.0.0))
          (join bytes (sa s.0.0 ++ sb t.0.0) t.0.1 (sc u.0.0) u.0.1
          (join bytes (sa s.0.0) s.0.1 (sb t.0.0) t.0.1 s.1.parts t.1.parts) u.1.parts) (same s.0.0 t.0.0 u.0.0);
      fits = fit s.0.0 t.0.0 u.0.0 s.1.fits t.1.fits u.1.fits;
      behind = u.1.behind;
    })

pub takes_four : {A B C D X : Type 0} (spell : X → List ℕ) (Fits : X → Type 0)
    (front : List ℕ) {sa : A → List ℕ} {Fa : A → Type 0} {ra : Read A} {sb : B → List ℕ} {Fb : B
    → Type 0} {rb : Read B} {sc : C → List ℕ} {Fc : C → Type 0} {rc : Read C} {sd : D → List ℕ} {Fd : D
    → Type 0} {rd : Read D} (make : A → B → C → D → X) → Codes sa Fa ra → Codes sb Fb rb → Codes sc Fc rc
    → Codes sd Fd rd
    → ((a : A) (b : B) (c : C) (d : D) → spell (make a b c d) ≡ front ++ (sa a ++ sb b ++ sc c ++ sd d))
    → ((a : A) (b : B) (c : C) (d : D) → Fa a → Fb b → Fc c → Fd d → Fits (make a b c d))
    → TakesBehind spell Fits front (of_four make ra rb rc rd)
takes_four {X = X} spell Fits front {sa = sa} {sb = sb} {rb = rb} {sc = sc} {rc = rc} {sd = sd} {rd = rd} make a b c d same fit bytes x rest is e =
    let s = step a (λ x. rb x.1 >>= λ y. rc y.1 >>= λ z. rd z.1 >>= λ w. Some (make x.0 y.0 z.0 w.0, w.1)) bytes (x, rest) is e in
    let t = step b (λ y. rc y.1 >>= λ z. rd z.1 >>= λ w. Some (make s.0.0 y.0 z.0 w.0, w.1)) s.0.1 (x, rest) s.1.behind s.2 in
    let u = step c (λ z. rd z.1 >>= λ w. Some (make s.0.0 t.0.0 z.0 w.0, w.1)) t.0.1 (x, rest) t.1.behind t.2 in
    let v = step d (λ w. Some (make s.0.0 t.0.0 u.0.0 w.0, w.1)) u.0.1 (x, rest) u.1.behind u.2 in
    subst (λ (p : X × List ℕ). Took spell Fits (front ++ bytes) p.0 p.1) (some_is (make s.0.0 t.0.0 u.0.0 v.0.0, v.0.1) (x, rest) v.2)
    (record {
      parts = in_front front (sa s.0.0 ++ sb t.0.0 ++ sc u.0.0 ++ sd v.0.0) bytes v.0.1 (spell (make s.0.0 t.0.0 u.0.0 v.0.0))
          (join bytes (sa s.0.0 ++ sb t.0.0 ++ sc u.0.0) u.0.1 (sd v.0.0) v.0.1
          (join bytes (sa s.0.0 ++ sb t.0.0) t.0.1 (sc u.0.0) u.0.1
          (join bytes (sa s.0.0) s.0.1 (sb t.0.0) t.0.1 s.1.parts t.1.parts) u.1.parts) v.1.parts)
          (same s.0.0 t.0.0 u.0.0 v.0.0);
      fits = fit s.0.0 t.0.0 u.0.0 v.0.0 s.1.fits t.1.fits u.1.fits v.1.fits;
      behind = v.1.behind;
    })

pub takes_five : {A B C D E X : Type 0} (spell : X → List ℕ) (Fits : X → Type 0)
    (front : List ℕ) {sa : A → List ℕ} {Fa : A → Type 0} {ra : Read A} {sb : B → List ℕ} {Fb : B
    → Type 0} {rb : Read B} {sc : C → List ℕ} {Fc : C → Type 0} {rc : Read C} {sd : D → List ℕ} {Fd : D
    → Type 0} {rd : Read D} {se : E → List ℕ} {Fe : E → Type 0} {re : Read E} (make : A → B → C → D → E → X)
    → Codes sa Fa ra → Codes sb Fb rb → Codes sc Fc rc → Codes sd Fd rd → Codes se Fe re
    → ((a : A) (b : B) (c : C) (d : D) (e : E) → spell (make a b c d e) ≡ front
    ++ (sa a ++ sb b ++ sc c ++ sd d ++ se e)) → ((a : A) (b : B) (c : C) (d : D) (e : E) → Fa a → Fb b → Fc c → Fd d
    → Fe e → Fits (make a b c d e)) → TakesBehind spell Fits front (of_five make ra rb rc rd re)
takes_five {X = X} spell Fits
    front {sa = sa} {sb = sb} {rb = rb} {sc = sc} {rc = rc} {sd = sd} {rd = rd} {se = se} {re = re} make a b c d e same
    fit bytes x rest is given =
    let s = step a (λ x. rb x.1 >>= λ y. rc y.1 >>= λ z. rd z.1 >>= λ w. re w.1 >>= λ v. Some (make x.0 y.0 z.0 w.0 v.0, v.1)) bytes (x, rest) is given in
    let t = step b (λ y. rc y.1 >>= λ z. rd z.1 >>= λ w. re w.1 >>= λ v. Some (make s.0.0 y.0 z.0 w.0 v.0, v.1)) s.0.1 (x, rest) s.1.behind s.2 in
    let u = step c (λ z. rd z.1 >>= λ w. re w.1 >>= λ v. Some (make s.0.0 t.0.0 z.0 w.0 v.0, v.1)) t.0.1 (x, rest) t.1.behind t.2 in
    let v = step d (λ w. re w.1 >>= λ v. Some (make s.0.0 t.0.0 u.0.0 w.0 v.0, v.1)) u.0.1 (x, rest) u.1.behind u.2 in
    let o = step e (λ o. Some (make s.0.0 t.0.0 u.0.0 v.0.0 o.0, o.1)) v.0.1 (x, rest) v.1.behind v.2 in
    subst (λ (p : X × List ℕ). Took spell Fits (front ++ bytes) p.0 p.1) (some_is (make s.0.0 t.0.0 u.0.0 v.0.0 o.0.0, o.0.1) (x, rest) o.2)
    (record {
      parts = in_front front (sa s.0.0 ++ sb t.0.0 ++ sc u.0.0 ++ sd v.0.0 ++ se o.0.0) bytes o.0.1 (spell (make s.0.0 t.0.0 u.0.0 v.0.0 o.0.0))
          (join bytes (sa s.0.0 ++ sb t.0.0 ++ sc u.0.0 ++ sd v.0.0) v.0.1 (se o.0.0) o.0.1
          (join bytes (sa s.0.0 ++ sb t.0.0 ++ sc u.0.0) u.0.1 (sd v.0.0) v.0.1
          (join bytes (sa s.0.0 ++ sb t.0.0) t.0.1 (sc u.0.0) u.0.1
          (join bytes (sa s.0.0) s.0.1 (sb t.0.0) t.0.1 s.1.parts t.1.parts) u.1.parts) v.1.parts) o.1.parts)
          (same s.0.0 t.0.0 u.0.0 v.0.0 o.0.0);
      fits = fit s.0.0 t.0.0 u.0.0 v.0.0 o.0.0 s.1.fits t.1.fits u.1.fits v.1.fits o.1.fits;
      behind = o.1.behind;
    })

-- what was spelled of several things is read again
pub again_two : {A B X : Type 0} {sa : A → List ℕ} {Fa : A → Type 0} {ra : Read A} {sb : B → List ℕ} {Fb : B
    → Type 0} {rb : Read B} (make : A → B → X) → Codes sa Fa ra → Codes sb Fb rb
    → (a : A) (b : B) (rest : List ℕ) → Fa a → Fb b → of_two make ra rb ((sa a ++ sb b) ++ rest) ≡ Some (make a b, rest)
again_two {sa = sa} {sb = sb} make ca cb a b rest fa fb = rw (append_assoc (sa a) (sb b) rest, ca.again a (sb b ++ rest) fa, cb.again b rest fb) refl

pub again_three : {A B C X : Type 0} {sa : A → List ℕ} {Fa : A → Type 0} {ra : Read A} {sb : B → List ℕ} {Fb : B
    → Type 0} {rb : Read B} {sc : C → List ℕ} {Fc : C → Type 0} {rc : Read C} (make : A → B → C → X) → Codes sa Fa ra
    → Codes sb Fb rb → Codes sc Fc rc
    → (a : A) (b : B) (c : C) (rest : List ℕ) → Fa a → Fb b → Fc c → of_three make ra rb rc ((sa a ++ sb b ++ sc c) ++ rest) ≡ Some (make a b c, rest)
again_three {sa = sa} {sb = sb} {sc = sc} make ca cb cc' a b c rest fa fb fc =
    rw (
      append_assoc (sa a ++ sb b) (sc c) rest,
      append_assoc (sa a) (sb b) (sc c ++ rest),
      ca.again a (sb b ++ (sc c ++ rest)) fa,
      cb.again b (sc c ++ rest) fb,
      cc'.again c rest fc,
    ) refl

pub again_four : {A B C D X : Type 0} {sa : A → List ℕ} {Fa : A → Type 0} {ra : Read A} {sb : B → List ℕ} {Fb : B
    → Type 0} {rb : Read B} {sc : C → List ℕ} {Fc : C → Type 0} {rc : Read C} {sd : D → List ℕ} {Fd : D
    → Type 0} {rd : Read D} (make : A → B → C → D → X) → Codes sa Fa ra → Codes sb Fb rb → Codes sc Fc rc
    → Codes sd Fd rd
    → (a : A) (b : B) (c : C) (d : D) (rest : List ℕ) → Fa a → Fb b → Fc c → Fd d
    → of_four make ra rb rc rd ((sa a ++ sb b ++ sc c ++ sd d) ++ rest) ≡ Some (make a b c d, rest)
again_four {sa = sa} {sb = sb} {sc = sc} {sd = sd} make ca cb cc' cd a b c d rest fa fb fc fd =
    rw (
      append_assoc (sa a ++ sb b ++ sc c) (sd d) rest,
      append_assoc (sa a ++ sb b) (sc c) (sd d ++ rest),
      append_assoc (sa a) (sb b) (sc c ++ (sd d ++ rest)),
      ca.again a (sb b ++ (sc c ++ (sd d ++ rest))) fa,
      cb.again b (sc c ++ (sd d ++ rest)) fb,
      cc'.again c (sd d ++ rest) fc,
      cd.again d rest fd,
    ) refl

pub again_five : {A B C D E X : Type 0} {sa : A → List ℕ} {Fa : A → Type 0} {ra : Read A} {sb : B → List ℕ} {Fb : B
    → Type 0} {rb : Read B} {sc : C → List ℕ} {Fc : C → Type 0} {rc : Read C} {sd : D → List ℕ} {Fd : D
    → Type 0} {rd : Read D} {se : E → List ℕ} {Fe : E → Type 0} {re : Read E} (make : A → B → C → D → E → X)
    → Codes sa Fa ra → Codes sb Fb rb → Codes sc Fc rc → Codes sd Fd rd → Codes se Fe re
    → (a : A) (b : B) (c : C) (d : D) (e : E) (rest : List ℕ) → Fa a → Fb b → Fc c → Fd d → Fe e
    → of_five make ra rb rc rd re ((sa a ++ sb b ++ sc c ++ sd d ++ se e) ++ rest) ≡ Some (make a b c d e, rest)
again_five {sa = sa} {sb = sb} {sc = sc} {sd = sd} {se = se} make ca cb cc' cd ce a b c d e rest fa fb fc fd fe =
    rw (
      append_assoc (sa a ++ sb b ++ sc c ++ sd d) (se e) rest,
      append_assoc (sa a ++ sb b ++ sc c) (sd d) (se e ++ rest),
      append_assoc (sa a ++ sb b) (sc c) (sd d ++ (se e ++ rest)),
      append_assoc (sa a) (sb b) (sc c ++ (sd d ++ (se e ++ rest))),
      ca.again a (sb b ++ (sc c ++ (sd d ++ (se e ++ rest)))) fa,
      cb.again b (sc c ++ (sd d ++ (se e ++ rest))) fb,
      cc'.again c (sd d ++ (se e ++ rest)) fc,
      cd.again d (se e ++ rest) fd,
      ce.again e rest fe,
    ) refl

-- ---- what a first byte tells

abbrev pub TakesAs : {X : Type 0} → (X → List ℕ) → (X → Type 0) → ℕ × Read X → Type 0
TakesAs spell Fits entry = TakesBehind spell Fits (entry.0 ∷ []) entry.1

pub takes_given : {X : Type 0} (spell : X → List ℕ) (Fits : X → Type 0) (tag : ℕ) (x : X) → spell x ≡ tag ∷ [] → Fits x
    → TakesAs spell Fits (tag, λ bytes. Some (x, bytes))
takes_given {X = X} spell Fits tag x same fit bytes y rest is e =
    subst (λ (p : X × List ℕ). Took spell Fits (tag ∷ bytes) p.0 p.1) (some_is (x, bytes) (y, rest) e)
    (record { parts = ap (λ (t : List ℕ). t ++ bytes) (sym same); fits = fit; behind = is })

picked_by : {X : Type 0} (spell : X → List ℕ) (Fits : X → Type 0) (entry : ℕ × Read X) (others : Read X) (k : ℕ)
    (b : Bool) → eqb k entry.0 ≡ b → TakesAs spell Fits entry → TakesBehind spell Fits (k ∷ []) others
    → TakesBehind spell Fits (k ∷ []) (cond b entry.1 others)
picked_by spell Fits entry others k true is first more = subst (λ (t : ℕ). TakesBehind spell Fits (t ∷ []) entry.1) (sym (eqb-true k entry.0 is)) first
picked_by spell Fits entry others k false is first more = more

pub picked_takes : {X : Type 0} (spell : X → List ℕ) (Fits : X → Type 0) (table : List (ℕ × Read X))
    → AllByRecursion (TakesAs spell Fits) table → (k : ℕ) → TakesBehind spell Fits (k ∷ []) (picked table k)
picked_takes spell Fits [] all k = λ bytes x rest is e. absurd cc
picked_takes spell Fits (entry ∷ table) all k = picked_by spell Fits entry (picked table k) k (eqb k entry.0) refl all.0 (picked_takes spell Fits table all.1 k)

pub tagged_takes : {X : Type 0} (spell : X → List ℕ) (Fits : X → Type 0) (table : List (ℕ × Read X))
    → AllByRecursion (TakesAs spell Fits) table → (bytes : List ℕ) (x : X) (rest : List ℕ) → IsBytes bytes
    → tagged_at table bytes ≡ Some (x, rest) → Took spell Fits bytes x rest
tagged_takes spell Fits table all [] x rest is e = absurd cc
tagged_takes spell Fits table all (k ∷ bytes) x rest is e = picked_takes spell Fits table all k bytes x rest (IsBytes-rest k bytes is) e
