-- Marks at the addresses of runs.
use Rattle.std.proofs.Common.{◌≡◌, ◌≢◌, ◌<◌, ◌≤◌, ◌+◌, ◌-◌, ◌⊎◌, inl, inr, ℕ, Bool, true, false, List, ◌++◌, Option}
use Rattle.std.proofs.Common.{Some, None, drop, get_or, length, replicate, take, refl, sym, ap, ◌∙◌, subst, arith}
use Rattle.std.proofs.lemmas.Bool.{cases_lt}
use Rattle.std.proofs.lemmas.Grind.{common_steps}
use Rattle.std.proofs.lemmas.List.{get_or-append_right, get_or_append_left, get_or-drop, get_or-replicate, get_or-take}
use Rattle.std.proofs.lemmas.List.{length-append, length-drop, length-replicate, length-take-le}
use Rattle.std.specs.Prelude.{◌↔◌, IfSome, IsTrue, if◌then◌else◌, is_none, is_some, not, slice_index}
use Rattle.erasure_code.proofs.Lists.{get_or-zeros}
use Rattle.group_types.specs.Lists.{same_key}
use Rattle.group_types.specs.declared.run.Run.{Run}
use Rattle.group_run.specs.Free.{in_run}
use Rattle.group_run.specs.Headline.{AreApart}
use Rattle.memchr.specs.Find.{IsFirstByte, is_byte}
use Rattle.run_verify.specs.Items.{AreMarked, IsOff, cleared, filled, with_run}
use Rattle.run_verify.proofs.Keys.{key_is, same_key-refl}

-- ---- addresses

in-run : (x : ℕ) (run : Run) → in_run x run ≡ true → (run.at ≤ x) × (x < run.at + run.len)
in-run x run is = (grind (arith, common_steps), grind (arith, common_steps))

to-run : (x : ℕ) (run : Run) → run.at ≤ x → x < run.at + run.len → in_run x run ≡ true
to-run x run low high = grind (arith, common_steps)

out-of-run : (x : ℕ) (run : Run) → in_run x run ≡ false → (x < run.at) ⊎ (run.at + run.len ≤ x)
out-of-run x run is = by (cases_lt x run.at) where
  by : (x < run.at) ⊎ (run.at ≤ x) → (x < run.at) ⊎ (run.at + run.len ≤ x)
  by (inl low) = inl low
  by (inr high) = inr (grind (arith, common_steps))

which : (b : Bool) → (b ≡ true) ⊎ (b ≡ false)
which true = inl refl
which false = inr refl

apart-back : (a b : Run) → AreApart a b → AreApart b a
apart-back a b apart x inside = by (which (in_run x a)) where
  by : (in_run x a ≡ true) ⊎ (in_run x a ≡ false) → in_run x a ≡ false
  by (inl hit) = absurd (cc (apart x hit, inside))
  by (inr miss) = miss

-- ---- marks that are filled in

module _ (mark : ℕ) (run : Run) (marks : List ℕ) (inside : run.at + run.len ≤ length marks) where
  long-front : length (take run.at marks) ≡ run.at
  long-front = length-take-le run.at marks (omega (arith, inside))

  long-filled : length (take run.at marks ++ replicate run.len mark) ≡ run.at + run.len
  long-filled =
      let whole = length-append (take run.at marks) (replicate run.len mark) in
      let many = length-replicate run.len mark in
      let front = long-front in omega (arith, whole, many, front)

  pub length-filled : length (filled mark run marks) ≡ length marks
  length-filled =
      let whole = length-append (take run.at marks ++ replicate run.len mark) (drop (run.at + run.len) marks) in
      let behind = length-drop (run.at + run.len) marks in
      let front = long-filled in omega (arith, whole, behind, front, inside)

  pub filled-in : (x : ℕ) → in_run x run ≡ true → get_or (filled mark run marks) x 0 ≡ mark
  filled-in x is =
      let (low, high) = in-run x run is in
      get_or_append_left (take run.at marks ++ replicate run.len mark) (drop (run.at + run.len) marks) 0 x
      (let whole = long-filled in omega (arith, whole, high))
      ∙ get_or-append_right (take run.at marks) (replicate run.len mark) run.at x 0 long-front low
      ∙ get_or-replicate run.len (x - run.at) mark 0 (omega (arith, low, high))

  pub filled-out : (x : ℕ) → in_run x run ≡ false → get_or (filled mark run marks) x 0 ≡ get_or marks x 0
  filled-out x is = by (out-of-run x run is) where
    by : (x < run.at) ⊎ (run.at + run.len ≤ x) → get_or (filled mark run marks) x 0 ≡ get_or marks x 0
    by (inl low) =
        get_or_append_left (take run.at marks ++ replicate run.len mark) (drop (run.at + run.len) marks) 0 x
        (let whole = long-filled in omega (arith, whole, low))
        ∙ get_or_append_left (take run.at marks) (replicate run.len mark) 0 x (let front = long-front in omega (arith, front, low))
        ∙ get_or-take run.at marks x 0 low
    by (inr high) =
        get_or-append_right (take run.at marks ++ replicate run.len mark) (drop (run.at + run.len) marks) (run.at + run.len) x 0 long-filled high
        ∙ get_or-drop (run.at + run.len) marks (x - (run.at + run.len)) 0
        ∙ ap (λ (k : ℕ). get_or marks k 0) (let e : run.at + run.len + (x - (run.at + run.len)) ≡ x = omega (arith, high) in e)

-- ---- runs of keys

abbrev With : List ℕ → List ℕ → Option Run → Option Run → Run → Type 0
With key other new old run = ((key ≡ other) × (new ≡ Some run)) ⊎ ((same_key key other ≡ false) × (old ≡ Some run))

-- what there is with a run is the new one, or one of another key
with-is : (key other : List ℕ) (new : Option Run) (runs : List ℕ → Option Run) (run : Run) → with_run key new runs other
    ≡ Some run → With key other new (runs other) run
with-is key other new runs run is = by (same_key key other) refl is where
  by : (b : Bool) → same_key key other ≡ b → (if b then new else runs other) ≡ Some run → With key other new (runs other) run
  by true same here = inl (key_is key other same, here)
  by false same here = inr (same, here)

with-other : (key other : List ℕ) (new : Option Run) (runs : List ℕ → Option Run) → same_key key other ≡ false → with_run key new runs other ≡ runs other
with-other key other new runs differs = ap (λ (b : Bool). if b then new else runs other) differs

with-here : (key : List ℕ) (new : Option Run) (runs : List ℕ → Option Run) → with_run key new runs key ≡ new
with-here key new runs = ap (λ (b : Bool). if b then new else runs key) (same_key-refl key)

differ : (key other : List ℕ) → same_key key other ≡ false → key ≢ other
differ key other miss same = cc (miss, subst (λ (k : List ℕ). same_key key k ≡ true) same (same_key-refl key))

-- a key whose run differs is another one
other-key : (key other : List ℕ) (runs : List ℕ → Option Run) (r : Run) → runs other ≡ Some r → ¬ (runs key ≡ Some r) → same_key key other ≡ false
other-key key other runs r is not = by (which (same_key key other)) where
  by : (same_key key other ≡ true) ⊎ (same_key key other ≡ false) → same_key key other ≡ false
  by (inl hit) = absurd (not (ap runs (key_is key other hit) ∙ is))
  by (inr miss) = miss

abbrev IsNo : Run → Type 0
IsNo other = let n : Option Run = None in n ≡ Some other

none-of : {P : Type 0} (other : Run) → IsNo other → P
none-of other is = absurd (cc is)

some-is : (a b : Run) (o : Option Run) → o ≡ Some a → o ≡ Some b → a ≡ b
some-is a b o x y = cc (x, y)

pub marked_same : (space : ℕ) (f g : List ℕ → Option Run) (marks : List ℕ) → ((key : List ℕ) → g key ≡ f key)
    → AreMarked space f marks → AreMarked space g marks
marked_same space f g marks same m = record {
  long = m.long;
  inside = λ key run is. m.inside key run (sym (same key) ∙ is);
  apart = λ a b r q x y differs. m.apart a b r q (sym (same a) ∙ x) (sym (same b) ∙ y) differs;
  marked = λ key run x is at. m.marked key run x (sym (same key) ∙ is) at;
  only = λ x one. let found = m.only x one in (found.0, found.1, same found.0 ∙ found.2, found.3);
}

module _ (space : ℕ) (runs : List ℕ → Option Run) (marks : List ℕ) (m : AreMarked space runs marks) (key : List ℕ) where
  fits : (run : Run) → run.at + run.len ≤ space → run.at + run.len ≤ length marks
  fits run inside = let long = m.long in omega (arith, long, inside)

  -- without the run of a key
  module _ (old : Run) (here : runs key ≡ Some old) where
    gone-only : (x : ℕ) → slice_index (filled 0 old marks) x ≡ 1 → (other : List ℕ) × (run : Run)
        × (with_run key None runs other ≡ Some run) × (in_run x run ≡ true)
    gone-only x one = by (which (in_run x old)) where
      by : (in_run x old ≡ true) ⊎ (in_run x old ≡ false) → (other : List ℕ) × (run : Run) × (with_run key None runs other ≡ Some run) × (in_run x run ≡ true)
      by (inl hit) = let zero-there = filled-in 0 old marks (fits old (m.inside key old here)) x hit in absurd (cc (zero-there, one))
      by (inr miss) =
          let found = m.only x (sym (filled-out 0 old marks (fits old (m.inside key old here)) x miss) ∙ one) in
          let apart : same_key key found.0 ≡ false = other-key key found.0 runs found.1 found.2
          (λ same. let e = some-is old found.1 (runs key) here same in cc (miss, found.3, e)) in
          (found.0, found.1, with-other key found.0 None runs apart ∙ found.2, found.3)

    gone : AreMarked space (with_run key None runs) (filled 0 old marks)
    gone = record {
      long = length-filled 0 old marks (fits old (m.inside key old here)) ∙ m.long;
      inside = λ other run is. elim (with-is key other None runs run is) [ inl a ↦ none-of run a.1 | inr b ↦ m.inside other run b.1 ];
      apart = λ a b r q x y differs. elim (with-is key a None runs r x) [
        | inl c ↦ none-of r c.1
        | inr c ↦ elim (with-is key b None runs q y)
            [ inl d ↦ none-of q d.1 | inr d ↦ m.apart a b r q c.1 d.1 differs ]
      ];
      marked = λ other run x is at. elim (with-is key other None runs run is) [
        | inl a ↦ none-of run a.1
        | inr b ↦ filled-out 0 old marks (fits old (m.inside key old here)) x
            (m.apart other key run old b.1 here (λ same. differ key other b.0 (sym same)) x at)
            ∙ m.marked other run x b.1 at
      ];
      only = gone-only;
    }

  -- with a run of a key that had none
  module _ (run : Run) (none : runs key ≡ None) (inside : run.at + run.len ≤ space) (off : IsOff runs run) where
    added-only : (x : ℕ) → slice_index (filled 1 run marks) x ≡ 1 → (other : List ℕ) × (r : Run)
        × (with_run key (Some run) runs other ≡ Some r) × (in_run x r ≡ true)
    added-only x one = by (which (in_run x run)) where
      by : (in_run x run ≡ true) ⊎ (in_run x run ≡ false) → (other : List ℕ) × (r : Run) × (with_run key (Some run) runs other ≡ Some r) × (in_run x r ≡ true)
      by (inl hit) = (key, run, with-here key (Some run) runs, hit)
      by (inr miss) =
          let found = m.only x (sym (filled-out 1 run marks (fits run inside) x miss) ∙ one) in
          let apart : same_key key found.0 ≡ false = other-key key found.0 runs found.1 found.2 (λ same. cc (none, same)) in
          (found.0, found.1, with-other key found.0 (Some run) runs apart ∙ found.2, found.3)

    added-marked : (other : List ℕ) (r : Run) (x : ℕ) → with_run key (Some run) runs other ≡ Some r → in_run x r ≡ true → slice_index (filled 1 run marks) x ≡ 1
    added-marked other r x is at = by (which (in_run x run)) (with-is key other (Some run) runs r is) where
      by : (in_run x run ≡ true) ⊎ (in_run x run ≡ false) → With key other (Some run) (runs other) r → slice_index (filled 1 run marks) x ≡ 1
      by (inl hit) w = filled-in 1 run marks (fits run inside) x hit
      by (inr miss) (inl a) = let e = some-is run r (Some run) refl a.1 in absurd (cc (miss, at, e))
      by (inr miss) (inr b) = filled-out 1 run marks (fits run inside) x miss ∙ m.marked other r x b.1 at

    added-apart : (a b : List ℕ) (r q : Run) → a ≢ b → With key a (Some run) (runs a) r → With key b (Some run) (runs b) q → AreApart r q
    added-apart a b r q differs (inl x) (inl y) = absurd (differs (sym x.0 ∙ y.0))
    added-apart a b r q differs (inl x) (inr y) = subst (λ (p : Run). AreApart p q) (some-is run r (Some run) refl x.1) (off b q y.1)
    added-apart a b r q differs (inr x) (inl y) = subst (λ (p : Run). AreApart r p) (some-is run q (Some run) refl y.1) (apart-back run r (off a r x.1))
    added-apart a b r q differs (inr x) (inr y) = m.apart a b r q x.1 y.1 differs

    added : AreMarked space (with_run key (Some run) runs) (filled 1 run marks)
    added = record {
      long = length-filled 1 run marks (fits run inside) ∙ m.long;
      inside = λ other r is. elim (with-is key other (Some run) runs r is) [
        | inl a ↦ subst (λ (p : Run). p.at + p.len ≤ space) (some-is run r (Some run) refl a.1) inside
        | inr b ↦
            m.inside other r b.1
      ];
      apart = λ a b r q x y differs. added-apart a b r q differs (with-is key a (Some run) runs r x) (with-is key b (Some run) runs q y);
      marked = added-marked;
      only = added-only;
    }

  without-none : runs key ≡ None → (other : List ℕ) → with_run key None runs other ≡ runs other
  without-none none other = by (which (same_key key other)) where
    by : (same_key key other ≡ true) ⊎ (same_key key other ≡ false) → with_run key None runs other ≡ runs other
    by (inl hit) = ap (λ (b : Bool). if b then None else runs other) hit ∙ sym none ∙ ap runs (key_is key other hit)
    by (inr miss) = with-other key other None runs miss

  -- the run of a key, if it has one, lies in the space
  pub some_inside : (old : Option Run) → old ≡ runs key → IfSome old (λ run. run.at + run.len ≤ length marks)
  some_inside None is = tt
  some_inside (Some old) is = fits old (m.inside key old (sym is))

  pub removed : (old : Option Run) → old ≡ runs key → AreMarked space (with_run key None runs) (cleared old marks)
  removed None is = marked_same space runs (with_run key None runs) marks (without-none (sym is)) m
  removed (Some old) is = gone old (sym is)

off-more : (key : List ℕ) (runs : List ℕ → Option Run) (run : Run) → IsOff runs run → IsOff (with_run key None runs) run
off-more key runs run off other r is = by (with-is key other None runs r is) where
  by : With key other None (runs other) r → AreApart run r
  by (inl a) = none-of r a.1
  by (inr b) = off other r b.1

twice : (key : List ℕ) (new : Option Run) (runs : List ℕ → Option Run) (other : List ℕ) → with_run key new runs other
    ≡ with_run key new (with_run key None runs) other
twice key new runs other = by (which (same_key key other)) where
  by : (same_key key other ≡ true) ⊎ (same_key key other ≡ false) → with_run key new runs other ≡ with_run key new (with_run key None runs) other
  by (inl hit) = ap (λ (b : Bool). if b then new else runs other) hit ∙ sym (ap (λ (b : Bool). if b then new else with_run key None runs other) hit)
  by (inr miss) = with-other key other new runs miss ∙ sym (with-other key other None runs miss) ∙ sym (with-other key other new (with_run key None runs) miss)

-- the item on a key has another run than it had, or than none
pub replaced : (space : ℕ) (runs : List ℕ → Option Run) (marks : List ℕ) → AreMarked space runs marks
    → (key : List ℕ) (old : Option Run) → old ≡ runs key → (run : Run) → run.at + run.len ≤ space → IsOff runs run
    → AreMarked space (with_run key (Some run) runs) (filled 1 run (cleared old marks))
replaced space runs marks m key old is run inside off =
    marked_same space (with_run key (Some run) (with_run key None runs)) (with_run key (Some run) runs)
    (filled 1 run (cleared old marks)) (twice key (Some run) runs)
    (added space (with_run key None runs) (cleared old marks) (removed space runs marks m key old is) key run
    (with-here key None runs) inside (off-more key runs run off))

-- ---- a run is off where none of its addresses is marked

module _ (space : ℕ) (runs : List ℕ → Option Run) (marks : List ℕ) (m : AreMarked space runs marks) (run : Run) (inside : run.at + run.len ≤ space) where
  part : List ℕ
  part = take run.len (drop run.at marks)

  part-at : (i : ℕ) → i < run.len → get_or (take run.len (drop run.at marks)) i 0 ≡ get_or marks (run.at + i) 0
  part-at i below = get_or-take run.len (drop run.at marks) i 0 below ∙ get_or-drop run.at marks i 0

  length-part : length (take run.len (drop run.at marks)) ≡ run.len
  length-part = let behind = length-drop run.at marks in let long = m.long in length-take-le run.len (drop run.at marks) (omega (arith, behind, long, inside))

  off-found : (r : Option ℕ) → IsFirstByte (is_byte 1) (take run.len (drop run.at marks)) r → IsTrue (is_none r) ↔ IsOff runs run
  off-found None none = (λ hit. to, λ off. refl) where
    to : IsOff runs run
    to key other is x at = by (which (in_run x other)) where
      by : (in_run x other ≡ true) ⊎ (in_run x other ≡ false) → in_run x other ≡ false
      by (inr miss) = miss
      by (inl hit) =
          let (low, high) = in-run x run at in
          let below : x - run.at < run.len = omega (arith, low, high) in
          let here : run.at + (x - run.at) ≡ x = omega (arith, low) in
          let one : slice_index (take run.len (drop run.at marks)) (x - run.at) ≡ 1 = part-at (x - run.at) below
          ∙ ap (λ (k : ℕ). get_or marks k 0) here ∙ m.marked key other x is hit in
          absurd (none (x - run.at) (omega arith) (let long = length-part in omega (arith, long, below)) (rw one refl))
  off-found (Some k) (before, one) = (λ hit. absurd (cc hit), λ off. absurd (from off)) where
    from : IsOff runs run → ⊥
    from off =
        let below : k < run.len = let long = length-part in let high = before.high in omega (arith, long, high) in
        let at : in_run (run.at + k) run ≡ true = to-run (run.at + k) run (omega arith) (omega (arith, below)) in
        let byte : slice_index (take run.len (drop run.at marks)) k ≡ 1 = grind (arith, common_steps, one) in
        let found = m.only (run.at + k) (sym (part-at k below) ∙ byte) in
        let out = off found.0 found.1 found.2 (run.at + k) at in
        cc (out, found.3)

-- the same of a part whose length is said by its ends
off-part : (space : ℕ) (runs : List ℕ → Option Run) (marks : List ℕ) → AreMarked space runs marks → (run : Run) → run.at + run.len ≤ space → (r : Option ℕ)
    → IsFirstByte (is_byte 1) (take (run.at + run.len - run.at) (drop run.at marks)) r → IsTrue (is_none r) ↔ IsOff runs run
off-part space runs marks m run inside r found =
    off-found space runs marks m run inside r (subst (λ (n : ℕ). IsFirstByte (is_byte 1) (take n (drop run.at marks)) r)
    (let e : run.at + run.len - run.at ≡ run.len = omega arith in e) found)

none-is : (P : Type 0) (r : Option ℕ) (none : Bool) → is_some r ≡ not none → IsTrue (is_none r) ↔ P → IsTrue none ↔ P
none-is P None true is same = same
none-is P None false is same = absurd (cc is)
none-is P (Some k) true is same = absurd (cc is)
none-is P (Some k) false is same = same

-- and where it is asked whether nothing was found
pub off_asked : (space : ℕ) (runs : List ℕ → Option Run) (marks : List ℕ) → AreMarked space runs marks → (run : Run)
    → run.at + run.len ≤ space → (r : Option ℕ) (none : Bool) → is_some r ≡ not none
    → IsFirstByte (is_byte 1) (take (run.at + run.len - run.at) (drop run.at marks)) r → IsTrue none ↔ IsOff runs run
off_asked space runs marks m run inside r none is found = none-is (IsOff runs run) r none is (off-part space runs marks m run inside r found)

pub none_marked : (space : ℕ) (runs : List ℕ → Option Run) → ((key : List ℕ) → runs key ≡ None) → AreMarked space runs (replicate space 0)
none_marked space runs none = record {
  long = length-replicate space 0;
  inside = λ key run is. absurd (let n = none key in cc (n, is));
  apart = λ a b r q x y differs. absurd (let n = none a in cc (n, x));
  marked = λ key run x is at. absurd (let n = none key in cc (n, is));
  only = λ x one. absurd (by x one);
}
  where
    by : (x : ℕ) → get_or {A = ℕ} (replicate space 0) x 0 ≡ 1 → ⊥
    by x one = let z = get_or-zeros space x in cc (z, one)

-- ---- the next runs and marks

module _ (space : ℕ) (runs next : List ℕ → Option Run) (marks : List ℕ) (m : AreMarked space runs marks) (key : List ℕ)
    (old : Option Run) (was : old ≡ runs key) where
  pub put_marked : (now : List ℕ) (run : Run) → run.at + run.len ≤ space → IsOff runs run
      → ((other : List ℕ) → next other ≡ with_run key (Some run) runs other) → now ≡ filled 1 run (cleared old marks)
      → AreMarked space next now
  put_marked now run inside off same is =
      marked_same space (with_run key (Some run) runs) next now same
      (subst (AreMarked space (with_run key (Some run) runs)) (sym is)
      (replaced space runs marks m key old was run inside off))

  pub remove_marked : (now : List ℕ) → ((other : List ℕ) → next other ≡ with_run key None runs other) → now ≡ cleared old marks → AreMarked space next now
  remove_marked now same is = marked_same space (with_run key None runs) next now same
      (subst (AreMarked space (with_run key None runs)) (sym is) (removed space runs marks m key old was))
