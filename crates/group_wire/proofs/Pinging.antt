-- A gateway that goes on is answered its pings by all others that do, so that it may show what it was told.
use Rattle.std.proofs.Common.{ℕ, zero, suc, ◌≡◌, ◌≢◌, ◌<◌, ◌≤◌, ◌+◌, ◌⊎◌, ◌&&◌, not, nat_le, inl, inr, Bool, true}
use Rattle.std.proofs.Common.{false, List, [], ◌∷◌, ◌++◌, Option, Some, map, refl, sym, ap, subst, ◌∙◌, if◌then◌else◌}
use Rattle.std.proofs.Common.{arith}
use Rattle.std.proofs.lemmas.Bool.{cases_eq}
use Rattle.std.proofs.lemmas.Grind.{common_steps}
use Rattle.std.specs.List.{range_with_len}
use Rattle.group_types.specs.Dimensions.{Dimensions}
use Rattle.group_types.specs.Names.{IsProcess, index_of, process_at}
use Rattle.group_types.specs.declared.process.ProcessId.{ProcessId}
use Rattle.group_types.proofs.Names.{index-process_at, process_at-in, same-cases}
use Rattle.membership.specs.Members.{count_dead_words}
use Rattle.group_wire.specs.Actions.{Ping, Pong, Count, Show}
use Rattle.group_wire.specs.Composed.{Composed, composed_with}
use Rattle.group_wire.specs.GoingOn.{CanBeShown}
use Rattle.group_wire.specs.May.{CallIsTold, IsCaller, IsToldBefore, MayAct, answerers}
use Rattle.group_wire.specs.Sets.{IsSubset, Processes, changed, everybody, one_or, size_of, with_one}
use Rattle.group_wire.specs.State.{Answered, Gateways, OpenCall, Signs, Stage, Told, Words, gateway_of}
use Rattle.group_wire.specs.Stepping.{answered_first, counted_first}
use Rattle.group_wire.proofs.Changes.{changed-each, changed-here, grown-set}
use Rattle.group_wire.proofs.GoingOn.{Going, IsOther, here-other, reads-other, uncut}
use Rattle.group_wire.proofs.Reaching.{Reaches, reaches-by, reaches-each, reaches-here, reaches-then, reaches-weaker}

-- pings are sent and answered, and nothing else is done
pub record Pings (s : Dimensions) (named : Processes) (c d : Composed) : Type 0 where
  pub going : Going s named d.group
  pub words : d.group.words ≡ c.group.words
  pub gateways : d.group.gateways ≡ c.group.gateways
  pub pinged : (p : ProcessId) → c.group.signs.pinged p ≤ d.group.signs.pinged p
  pub answered : (p : ProcessId) (j : ℕ) → IsSubset (c.group.signs.answered p j) (d.group.signs.answered p j)

pub pings-trans : (s : Dimensions) (named : Processes) (c d e : Composed) → Pings s named c d → Pings s named d e → Pings s named c e
pings-trans s named c d e one two = record {
  going = two.going;
  words = two.words ∙ one.words;
  gateways = two.gateways ∙ one.gateways;
  pinged = λ p. let a = one.pinged p in let b = two.pinged p in omega (arith, a, b);
  answered = λ p j x is. two.answered p j x (one.answered p j x is);
}

le-self : (j : ℕ) → nat_le j j ≡ true
le-self j = grind (arith, common_steps)

le-is : (a b : ℕ) → a ≤ b → nat_le a b ≡ true
le-is a b low = grind (arith, common_steps)

module _ (s : Dimensions) (named : Processes) (few : size_of s named ≤ s.m) (g : ProcessId) (gin : IsOther s named g) where
  pings-self : (c : Composed) → Going s named c.group → Pings s named c c
  pings-self c going = record { going = going; words = refl; gateways = refl; pinged = λ p. omega arith; answered = λ p j x is. is }

  -- the wires of pings and pongs, and what is counted
  pinged-first : (cut : ProcessId → Processes) (x p : ProcessId) (js : List ℕ) (signs : Signs)
      → ((answered_first cut x p js signs).pinged ≡ signs.pinged)
      × ((answered_first cut x p js signs).answered ≡ signs.answered)
  pinged-first cut x p [] signs = (refl, refl)
  pinged-first cut x p (j ∷ rest) signs = (refl, refl)

  counted-pinged : (x p : ProcessId) (js : List ℕ) (signs : Signs) → (counted_first x p js signs).pinged ≡ signs.pinged
  counted-pinged x p [] signs = refl
  counted-pinged x p (j ∷ rest) signs = refl

  counted-grows : (x p : ProcessId) (js : List ℕ) (signs : Signs) (q : ProcessId) (j : ℕ)
      → IsSubset (signs.answered q j) ((counted_first x p js signs).answered q j)
  counted-grows x p [] signs q j y is = is
  counted-grows x p (ping ∷ rest) signs q j y is =
      changed-each (λ q row. signs.answered q j y ≡ true → row j y ≡ true) signs.answered p
      (λ j. one_or (nat_le j ping) (with_one (signs.answered p j) x) (signs.answered p j))
      (λ was. by (nat_le j ping) was) (λ q _ was. was) q is
    where
      by : (b : Bool) → signs.answered p j y ≡ true → one_or b (with_one (signs.answered p j) x) (signs.answered p j) y ≡ true
      by true was = grown-set (signs.answered p j) x y was
      by false was = was

  pings-pong : (c : Composed) → Going s named c.group → (x p : ProcessId) → Pings s named c (composed_with c (Pong x p))
  pings-pong c going x p = let same = pinged-first c.group.words.cut x p (c.group.signs.pings x p) c.group.signs in record {
    going = record { shape = going.shape; cut = going.cut; inside = going.inside; here = going.here };
    words = refl;
    gateways = refl;
    pinged = λ q. let is : (answered_first c.group.words.cut x p (c.group.signs.pings x p) c.group.signs).pinged q
        ≡ c.group.signs.pinged q = ap (λ (f : ProcessId → ℕ). f q) same.0 in omega (arith, is);
    answered = λ q j y is. ap (λ (f : ProcessId → ℕ → Processes). f q j y) same.1 ∙ is;
  }

  pings-count : (c : Composed) → Going s named c.group → (x p : ProcessId) → Pings s named c (composed_with c (Count x p))
  pings-count c going x p = record {
    going = record { shape = going.shape; cut = going.cut; inside = going.inside; here = going.here };
    words = refl;
    gateways = refl;
    pinged = λ q. let is : (counted_first x p (c.group.signs.pongs x p) c.group.signs).pinged q ≡ c.group.signs.pinged
        q = ap (λ (f : ProcessId → ℕ). f q) (counted-pinged x p (c.group.signs.pongs x p) c.group.signs) in
        omega (arith, is);
    answered = counted-grows x p (c.group.signs.pongs x p) c.group.signs;
  }

  pings-ping : (c : Composed) → Going s named c.group → Pings s named c (composed_with c (Ping everybody g))
  pings-ping c going = record {
    going = record { shape = going.shape; cut = going.cut; inside = going.inside; here = going.here };
    words = refl;
    gateways = refl;
    pinged = changed-each (λ q n. c.group.signs.pinged q ≤ n) c.group.signs.pinged g (suc (c.group.signs.pinged g)) (omega arith) (λ q _. omega arith);
    answered = λ q j y is. is;
  }

  -- the pongs of a wire are counted, up to the last
  counts : (q : ProcessId) → IsOther s named q → q ≢ g → (i : ℕ) (front : List ℕ) (c : Composed) → Going s named c.group
      → c.group.signs.pongs q g ≡ front ++ i ∷ []
      → Reaches (Pings s named) c (λ d. (j : ℕ) → j ≤ i → d.group.signs.answered g j q ≡ true)
  counts q qin other i [] c going is = reaches-by (Pings s named) c (λ d. (j : ℕ) → j ≤ i → d.group.signs.answered g j q
      ≡ true) (Count q g) tt (reads-other s named few c.group going q g qin gin other) (pings-count c going q g)
      (subst (λ (js : List ℕ). (j : ℕ) → j ≤ i → (counted_first q g js c.group.signs).answered g j q ≡ true) (sym is) now)
    where
      now : (j : ℕ) → j ≤ i → (counted_first q g (i ∷ []) c.group.signs).answered g j q ≡ true
      now j low =
          ap (λ (row : ℕ → Processes). row j q)
          (changed-here c.group.signs.answered g (λ j. one_or (nat_le j i) (with_one (c.group.signs.answered g j) q)
          (c.group.signs.answered g j)))
          ∙ ap (λ (b : Bool). one_or b (with_one (c.group.signs.answered g j) q) (c.group.signs.answered g j) q) (le-is j i low)
          ∙ changed-here (c.group.signs.answered g j) q true
  counts q qin other i (k ∷ front) c going is =
      reaches-then (Pings s named) (pings-trans s named) c (λ d. d.group.signs.pongs q g ≡ front ++ i ∷ [])
      (λ d. (j : ℕ) → j ≤ i → d.group.signs.answered g j q ≡ true)
      (reaches-by (Pings s named) c (λ d. d.group.signs.pongs q g ≡ front ++ i ∷ []) (Count q g) tt
      (reads-other s named few c.group going q g qin gin other) (pings-count c going q g)
      (subst (λ (js : List ℕ). (counted_first q g js c.group.signs).pongs q g ≡ front ++ i ∷ []) (sym is)
      (ap (λ (row : ProcessId → List ℕ). row g)
      (changed-here c.group.signs.pongs q (changed (c.group.signs.pongs q) g (front ++ i ∷ [])))
      ∙ changed-here (c.group.signs.pongs q) g (front ++ i ∷ []))))
      (λ d kept left. counts q qin other i front d kept.going left)

  -- the pings of a wire are answered, up to the last
  abbrev pub Ponged : ProcessId → ℕ → Composed → Type 0
  Ponged q i d = (front : List ℕ) × (d.group.signs.pongs q g ≡ front ++ i ∷ [])

  pongs : (q : ProcessId) → IsOther s named q → q ≢ g → (i : ℕ) (front : List ℕ) (c : Composed) → Going s named c.group
      → c.group.signs.pings g q ≡ front ++ i ∷ [] → Reaches (Pings s named) c (Ponged q i)
  pongs q qin other i [] c going is = reaches-by (Pings s named) c (Ponged q i) (Pong g q) tt
      (reads-other s named few c.group going g q gin qin (λ same. other (sym same))) (pings-pong c going g q) (
        c.group.signs.pongs q g,
        subst (λ (js : List ℕ). (answered_first c.group.words.cut g q js c.group.signs).pongs q g ≡ c.group.signs.pongs q g ++ i ∷ []) (sym is)
            (ap (λ (row : ProcessId → List ℕ). row g)
            (changed-here c.group.signs.pongs q
            (changed (c.group.signs.pongs q) g
            (one_or (c.group.words.cut q g) (c.group.signs.pongs q g) (c.group.signs.pongs q g ++ i ∷ []))))
            ∙ changed-here (c.group.signs.pongs q) g (one_or (c.group.words.cut q g) (c.group.signs.pongs q g) (c.group.signs.pongs q g ++ i ∷ []))
            ∙ ap (λ (b : Bool). one_or b (c.group.signs.pongs q g) (c.group.signs.pongs q g ++ i ∷ [])) (uncut s named few c.group going q g gin.1)),
      )
  pongs q qin other i (k ∷ front) c going is =
      reaches-then (Pings s named) (pings-trans s named) c (λ d. d.group.signs.pings g q ≡ front ++ i ∷ []) (Ponged q i)
      (reaches-by (Pings s named) c (λ d. d.group.signs.pings g q ≡ front ++ i ∷ []) (Pong g q) tt
      (reads-other s named few c.group going g q gin qin (λ same. other (sym same))) (pings-pong c going g q)
      (subst (λ (js : List ℕ). (answered_first c.group.words.cut g q js c.group.signs).pings g q ≡ front ++ i ∷ []) (sym is)
      (ap (λ (row : ProcessId → List ℕ). row q)
      (changed-here c.group.signs.pings g (changed (c.group.signs.pings g) q (front ++ i ∷ [])))
      ∙ changed-here (c.group.signs.pings g) q (front ++ i ∷ []))))
      (λ d kept left. pongs q qin other i front d kept.going left)

  -- one more ping is answered by another, and all before it
  answers : (q : ProcessId) → IsOther s named q → q ≢ g → (c : Composed) → Going s named c.group → (j : ℕ)
      → j ≤ c.group.signs.pinged g → Reaches (Pings s named) c (λ d. d.group.signs.answered g j q ≡ true)
  answers q qin other c going j low =
      reaches-then (Pings s named) (pings-trans s named) c (λ d. d.group.signs.pings g q ≡ c.group.signs.pings g q
      ++ i ∷ []) (λ d. d.group.signs.answered g j q ≡ true)
      (reaches-by (Pings s named) c (λ d. d.group.signs.pings g q ≡ c.group.signs.pings g q ++ i ∷ [])
      (Ping everybody g) tt (here-other s named few c.group going g gin) (pings-ping c going)
      (ap (λ (row : ProcessId → List ℕ). row q)
      (changed-here c.group.signs.pings g (λ q. one_or (c.group.words.cut g q) (c.group.signs.pings g q)
      (c.group.signs.pings g q ++ one_or (everybody q) (i ∷ []) [])))
      ∙ ap (λ (b : Bool). one_or b (c.group.signs.pings g q) (c.group.signs.pings g q ++ i ∷ [])) (uncut s named few c.group going g q qin.1)))
      (λ d kept sent. reaches-then (Pings s named) (pings-trans s named) d (Ponged q i)
      (λ e. e.group.signs.answered g j q ≡ true) (pongs q qin other i (c.group.signs.pings g q) d kept.going sent)
      (λ e later ponged. reaches-weaker (Pings s named) e (λ f. (j : ℕ) → j ≤ i → f.group.signs.answered g j q ≡ true)
      (λ f. f.group.signs.answered g j q ≡ true) (λ f _ all. all j low)
      (counts q qin other i ponged.0 e later.going ponged.1)))
    where
      i : ℕ
      i = c.group.signs.pinged g

  abbrev pub AllAnswered : ℕ → Composed → Type 0
  AllAnswered j d = (q : ProcessId) → IsProcess s q → named q ≡ false → q ≢ g → d.group.signs.answered g j q ≡ true

  -- by all others
  all-answer : (c : Composed) → Going s named c.group → (j : ℕ) → j ≤ c.group.signs.pinged g → Reaches (Pings s named) c (AllAnswered j)
  all-answer c going j low = reaches-each (Pings s named) (pings-trans s named) s (λ q d. named q ≡ false → q ≢ g → d.group.signs.answered g j q ≡ true)
      (λ q d e kept all out other. kept.answered g j q (all out other)) c (pings-self c going)
      (λ d kept q qin. one d kept.going (let a = kept.pinged g in omega (arith, a, low)) q qin (named q) refl (same-cases q g))
    where
      one : (d : Composed) → Going s named d.group → j ≤ d.group.signs.pinged g → (q : ProcessId) → IsProcess s q → (b : Bool) → named q ≡ b → (q ≡ g) ⊎ (q ≢ g)
          → Reaches (Pings s named) d (λ e. named q ≡ false → q ≢ g → e.group.signs.answered g j q ≡ true)
      one d goes low q qin true is which =
          reaches-here (Pings s named) d (λ e. named q ≡ false → q ≢ g → e.group.signs.answered g j q ≡ true)
          (pings-self d goes) (λ out other. cc (is, out))
      one d goes low q qin false is (inl same) =
          reaches-here (Pings s named) d (λ e. named q ≡ false → q ≢ g → e.group.signs.answered g j q ≡ true)
          (pings-self d goes) (λ out other. absurd (other same))
      one d goes low q qin false is (inr other) =
          reaches-weaker (Pings s named) d (λ e. e.group.signs.answered g j q ≡ true)
          (λ e. named q ≡ false → q ≢ g → e.group.signs.answered g j q ≡ true) (λ e _ all out _. all)
          (answers q (qin, is) other d goes j low)

abbrev bit : Bool → ℕ
bit b = if b then 1 else 0

-- two sets that cover all numbers of a range, or all but one
covers-all : (a t : ℕ → Bool) (start n : ℕ) → ((i : ℕ) → start ≤ i → i < start + n → 1 ≤ bit (a i) + bit (t i))
    → n ≤ count_dead_words (map a (range_with_len start n)) + count_dead_words (map t (range_with_len start n))
covers-all a t start zero each = omega arith
covers-all a t start (suc n) each =
    let first = each start (omega arith) (omega arith) in
    let rest = covers-all a t (start + 1) n (λ i low high. each i (omega (arith, low)) (omega (arith, high))) in
    omega (arith, first, rest)

covers : (a t : ℕ → Bool) (skip start n : ℕ)
    → ((i : ℕ) → start ≤ i → i < start + n → i ≢ skip → 1 ≤ bit (a i) + bit (t i))
    → n ≤ count_dead_words (map a (range_with_len start n)) + count_dead_words (map t (range_with_len start n)) + 1
covers a t skip start zero each = omega arith
covers a t skip start (suc n) each =
    by (cases_eq start skip)
    (covers a t skip (start + 1) n (λ i low high. each i (omega (arith, low)) (omega (arith, high)))) where
      by : (start ≡ skip) ⊎ (start ≢ skip)
          → n ≤ count_dead_words (map a (range_with_len (start + 1) n)) + count_dead_words (map t (range_with_len (start + 1) n)) + 1
          → suc n ≤ bit (a start) + count_dead_words (map a (range_with_len (start + 1) n)) +
          (bit (t start) + count_dead_words (map t (range_with_len (start + 1) n))) + 1
      by (inl same) _ =
          let rest = covers-all a t (start + 1) n (λ i low high. each i (omega (arith, low)) (omega (arith, high))
          (λ is. absurd (omega (arith, low, is, same)))) in
          omega (arith, rest)
      by (inr other) rest = let first = each start (omega arith) (omega arith) other in omega (arith, first, rest)

-- two sets that cover all processes but one
size-covers : (s : Dimensions) (a t : Processes) (g : ProcessId)
    → ((q : ProcessId) → IsProcess s q → q ≢ g → (a q ≡ true) ⊎ (t q ≡ true))
    → s.k + s.m ≤ size_of s a + size_of s t + 1
size-covers s a t g each = covers (λ i. a (process_at s i)) (λ i. t (process_at s i)) (index_of s g) 0 (s.k + s.m)
    (λ i low high other. one (process_at s i) (each (process_at s i) (process_at-in s i (omega (arith, high)))
    (λ same. other (sym (index-process_at s i) ∙ ap (index_of s) same))))
  where
    one : (q : ProcessId) → (a q ≡ true) ⊎ (t q ≡ true) → 1 ≤ bit (a q) + bit (t q)
    one q (inl is) = let b : bit (a q) ≡ 1 = ap bit is in omega (arith, b)
    one q (inr is) = let b : bit (t q) ≡ 1 = ap bit is in omega (arith, b)

-- a gateway that goes on, and has taken the deaths of all who don't, may show what it was told
may-show : (s : Dimensions) (named : Processes) (few : size_of s named ≤ s.m) (some : 1 ≤ s.k) (caller : ℕ)
    (gin : IsOther s named (gateway_of s caller)) (c : Composed) → Going s named c.group → IsCaller c.group caller
    → ((x : ProcessId) → IsProcess s x → named x ≡ true → c.group.words.taken (gateway_of s caller) x ≡ true)
    → (o : OpenCall) (t : Told) (n j : ℕ) → c.group.gateways.call caller ≡ Some o → o.stage ≡ Answered t n → n ≤ j
    → j < c.group.signs.pinged (gateway_of s caller) → AllAnswered s named few (gateway_of s caller) gin j c
    → MayAct c.group (Show caller j)
may-show s named few some caller gin c going mine taken o t n j call stage low sent all = (
  mine,
  record {
    told = subst (λ (call : Option OpenCall). CallIsTold c.group call j) (sym call) (subst (λ (stage : Stage). IsToldBefore c.group stage j) (sym stage) low);
    sent = subst (λ (p : ProcessId). j < c.group.signs.pinged p) same sent;
    enough = subst (λ (t : Dimensions). t.m ≤ size_of t (answerers c.group (gateway_of t caller) j) + size_of t
        (c.group.words.taken (gateway_of t caller))) (sym going.shape)
        (let most = size-covers s (answerers c.group (gateway_of s caller) j)
        (c.group.words.taken (gateway_of s caller)) (gateway_of s caller)
        (λ q qin other. each q qin other (named q) refl) in omega (arith, most, some));
  },
) where
  same : gateway_of s caller ≡ gateway_of c.group.shape caller
  same = ap (λ (t : Dimensions). gateway_of t caller) (sym going.shape)

  counted : (a b : Bool) → a ≡ true → ((a && not b) ≡ true) ⊎ (b ≡ true)
  counted a true is = inr refl
  counted true false is = inl refl
  counted false false is = cc is

  each : (q : ProcessId) → IsProcess s q → q ≢ gateway_of s caller → (b : Bool) → named q ≡ b
      → (answerers c.group (gateway_of s caller) j q ≡ true) ⊎ (c.group.words.taken (gateway_of s caller) q ≡ true)
  each q qin other true is = inr (taken q qin is)
  each q qin other false is = counted (c.group.signs.answered (gateway_of s caller) j q) (c.group.words.taken (gateway_of s caller) q) (all q qin is other)

-- it comes to that
pub can-show : (s : Dimensions) (named : Processes) (few : size_of s named ≤ s.m) (some : 1 ≤ s.k) (caller : ℕ)
    (gin : IsOther s named (gateway_of s caller)) (c : Composed) → Going s named c.group → IsCaller c.group caller
    → ((x : ProcessId) → IsProcess s x → named x ≡ true → c.group.words.taken (gateway_of s caller) x ≡ true)
    → (o : OpenCall) (t : Told) (n : ℕ) → c.group.gateways.call caller ≡ Some o → o.stage ≡ Answered t n → n ≤ c.group.signs.pinged (gateway_of s caller)
    → Reaches (Pings s named) c (CanBeShown caller o)
can-show s named few some caller gin c going mine taken o t n call stage low =
    reaches-then (Pings s named) (pings-trans s named) c (λ d. j < d.group.signs.pinged (gateway_of s caller)) (CanBeShown caller o)
    (reaches-by (Pings s named) c (λ d. j < d.group.signs.pinged (gateway_of s caller))
    (Ping everybody (gateway_of s caller)) tt (here-other s named few c.group going (gateway_of s caller) gin)
    (pings-ping s named few (gateway_of s caller) gin c going)
    (let is : changed c.group.signs.pinged (gateway_of s caller) (suc j) (gateway_of s caller) ≡ suc j = changed-here
    c.group.signs.pinged (gateway_of s caller) (suc j) in omega (arith, is)))
    (λ d kept sent. reaches-weaker (Pings s named) d (AllAnswered s named few (gateway_of s caller) gin j) (CanBeShown caller o)
    (λ e later all.
    let called : e.group.gateways.call caller ≡ Some o = ap (λ (gw : Gateways). gw.call caller) (later.gateways ∙ kept.gateways) ∙ call in
    let took : (x : ProcessId) → IsProcess s x → named x ≡ true → e.group.words.taken (gateway_of s caller) x ≡ true =
    λ x xin inside. ap (λ (w : Words). w.taken (gateway_of s caller) x) (later.words ∙ kept.words)
    ∙ taken x xin inside in
    let past = later.pinged (gateway_of s caller) in
    (called, (j, may-show s named few some caller gin e later.going (of-caller e later.going) took o t n j called stage low (omega (arith, past, sent)) all)))
    (all-answer s named few (gateway_of s caller) gin d kept.going j (omega (arith, sent))))
  where
    j : ℕ
    j = c.group.signs.pinged (gateway_of s caller)

    of-caller : (e : Composed) → Going s named e.group → IsCaller e.group caller
    of-caller e goes =
        record {
          low = mine.low;
          gateway = here-other s named few e.group goes (gateway_of e.group.shape caller)
              (subst (λ (t : Dimensions). IsOther s named (gateway_of t caller)) (sym goes.shape) gin);
        }
