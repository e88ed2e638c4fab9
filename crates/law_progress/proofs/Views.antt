-- Members of lists that are so, what is sent to a process, and what is kept of marks and sessions.
use Rattle.std.proofs.Common.{◌≡◌, ◌≢◌, ℕ, zero, suc, ◌+◌, ◌<◌, ◌≤◌, ◌==◌, Bool, true, false, not, List, [], ◌∷◌, ◌++◌}
use Rattle.std.proofs.Common.{take, map, filter, flat_map, find, cond, Some, None, ◌⊎◌, inl, inr, refl, sym, ap, subst}
use Rattle.std.proofs.Common.{◌∙◌, if◌then◌else◌, arith}
use Rattle.std.proofs.lemmas.Bool.{cases_eq, eq-eqb, ne_eqb}
use Rattle.std.specs.List.{range_with_len}
use Rattle.group_types.specs.Dimensions.{Dimensions}
use Rattle.group_types.specs.Names.{same_process}
use Rattle.group_types.specs.declared.process.ProcessId.{ProcessId}
use Rattle.group_types.proofs.Names.{same-eq, same-refl}
use Rattle.group_message.specs.declared.message.Message.{Message}
use Rattle.group_run.specs.Applying.{Sent}
use Rattle.group_run.specs.Leaders.{gathered_when, open_session, without_session}
use Rattle.group_run.specs.Process.{Gathering, LeaderState}
use Rattle.group_run.specs.World.{front_if, sent_to}
use Rattle.law_bytes.proofs.Finding.{found-apart, found-exchanged, found-filter}
use Rattle.law_bytes.proofs.Local.{number-is}
use Rattle.law_bytes.proofs.Marks.{decoded-same}
use Rattle.law_progress.proofs.Waiting.{Has}

module _ {X : Type 0} (P : X → Type 0) where
  pub has-left : (xs ys : List X) → Has P xs → Has P (xs ++ ys)
  has-left [] ys has = absurd has
  has-left (x ∷ xs) ys (inl here) = inl here
  has-left (x ∷ xs) ys (inr there) = inr (has-left xs ys there)

  pub has-right : (xs ys : List X) → Has P ys → Has P (xs ++ ys)
  has-right [] ys has = has
  has-right (x ∷ xs) ys has = inr (has-right xs ys has)

  pub has-either : (xs ys : List X) → Has P (xs ++ ys) → Has P xs ⊎ Has P ys
  has-either [] ys has = inr has
  has-either (x ∷ xs) ys (inl here) = inl (inl here)
  has-either (x ∷ xs) ys (inr there) = by (has-either xs ys there) where
    by : Has P xs ⊎ Has P ys → (P x ⊎ Has P xs) ⊎ Has P ys
    by (inl left) = inl (inr left)
    by (inr right) = inr right

  pub has-take : (n : ℕ) (xs : List X) → Has P (take n xs) → Has P xs
  has-take zero xs has = absurd has
  has-take (suc n) [] has = absurd has
  has-take (suc n) (x ∷ xs) (inl here) = inl here
  has-take (suc n) (x ∷ xs) (inr there) = inr (has-take n xs there)

pub has-map : {X Y : Type 0} (P : Y → Type 0) (f : X → Y) (xs : List X) → Has (λ x. P (f x)) xs → Has P (map f xs)
has-map P f [] has = absurd has
has-map P f (x ∷ xs) (inl here) = inl here
has-map P f (x ∷ xs) (inr there) = inr (has-map P f xs there)

pub map-has : {X Y : Type 0} (P : Y → Type 0) (f : X → Y) (xs : List X) → Has P (map f xs) → Has (λ x. P (f x)) xs
map-has P f [] has = absurd has
map-has P f (x ∷ xs) (inl here) = inl here
map-has P f (x ∷ xs) (inr there) = inr (map-has P f xs there)

pub has-weaker : {X : Type 0} (P Q : X → Type 0) → ((x : X) → P x → Q x) → (xs : List X) → Has P xs → Has Q xs
has-weaker P Q turn [] has = absurd has
has-weaker P Q turn (x ∷ xs) (inl here) = inl (turn x here)
has-weaker P Q turn (x ∷ xs) (inr there) = inr (has-weaker P Q turn xs there)

module _ {X : Type 0} (test : X → Bool) where
  -- one more stands behind
  pub find-new : (xs : List X) (y : X) → find test xs ≡ None → test y ≡ true → find test (xs ++ y ∷ []) ≡ Some y
  find-new [] y none passes = ap (λ (b : Bool). cond b (Some y) None) passes
  find-new (x ∷ xs) y none passes = by (test x) none (λ rest. find-new xs y rest passes) where
    by : (b : Bool) → cond b (Some x) (find test xs) ≡ None → (find test xs ≡ None → find test (xs ++ y ∷ []) ≡ Some y)
        → cond b (Some x) (find test (xs ++ y ∷ [])) ≡ Some y
    by true is later = absurd (cc is)
    by false is later = later is

  pub find-old : (xs : List X) (y : X) → test y ≡ false → find test (xs ++ y ∷ []) ≡ find test xs
  find-old [] y fails = ap (λ (b : Bool). cond b (Some y) None) fails
  find-old (x ∷ xs) y fails = ap (cond (test x) (Some x)) (find-old xs y fails)

module _ {X Y : Type 0} (P : Y → Type 0) (f : X → List Y) where
  pub has-flat : (xs : List X) → Has (λ x. Has P (f x)) xs → Has P (flat_map f xs)
  has-flat [] has = absurd has
  has-flat (x ∷ xs) (inl here) = has-left P (f x) (flat_map f xs) here
  has-flat (x ∷ xs) (inr there) = has-right P (f x) (flat_map f xs) (has-flat xs there)

  pub flat-has : (xs : List X) → Has P (flat_map f xs) → Has (λ x. Has P (f x)) xs
  flat-has [] has = absurd has
  flat-has (x ∷ xs) has = by (has-either P (f x) (flat_map f xs) has) (λ there. flat-has xs there) where
    by : Has P (f x) ⊎ Has P (flat_map f xs) → (Has P (flat_map f xs) → Has (λ x. Has P (f x)) xs) → Has P (f x) ⊎ Has (λ x. Has P (f x)) xs
    by (inl here) later = inl here
    by (inr there) later = inr (later there)

-- a number among some
pub has-filter : (test : ℕ → Bool) (x : ℕ) (xs : List ℕ) → Has (λ i. i ≡ x) xs → test x ≡ true → Has (λ i. i ≡ x) (filter test xs)
has-filter test x [] has passes = absurd has
has-filter test x (y ∷ ys) has passes = by (test y) refl has (λ there. has-filter test x ys there passes) where
  by : (b : Bool) → test y ≡ b → (y ≡ x) ⊎ Has (λ i. i ≡ x) ys
      → (Has (λ i. i ≡ x) ys → Has (λ i. i ≡ x) (filter test ys))
      → Has (λ i. i ≡ x) (cond b (y ∷ filter test ys) (filter test ys))
  by true is (inl here) later = inl here
  by true is (inr there) later = inr (later there)
  by false is (inl here) later = cc (sym is ∙ ap test here ∙ passes)
  by false is (inr there) later = later there

pub filter-has : (test : ℕ → Bool) (x : ℕ) (xs : List ℕ) → Has (λ i. i ≡ x) (filter test xs) → Has (λ i. i ≡ x) xs × (test x ≡ true)
filter-has test x [] has = absurd has
filter-has test x (y ∷ ys) has = by (test y) refl has (λ there. filter-has test x ys there) where
  by : (b : Bool) → test y ≡ b → Has (λ i. i ≡ x) (cond b (y ∷ filter test ys) (filter test ys))
      → (Has (λ i. i ≡ x) (filter test ys) → Has (λ i. i ≡ x) ys × (test x ≡ true)) → Has (λ i. i ≡ x) (y ∷ ys) × (test x ≡ true)
  by true is (inl here) later = (inl here, ap test (sym here) ∙ is)
  by true is (inr there) later = let rest = later there in (inr rest.0, rest.1)
  by false is there later = let rest = later there in (inr rest.0, rest.1)

pub has-range : (x a n : ℕ) → a ≤ x → x < a + n → Has (λ i. i ≡ x) (range_with_len a n)
has-range x a zero low high = absurd (omega (arith, low, high))
has-range x a (suc n) low high = by (cases_eq a x) (λ above. has-range x (a + 1) n above (omega (arith, high))) where
  by : (a ≡ x) ⊎ (a ≢ x) → (a + 1 ≤ x → Has (λ i. i ≡ x) (range_with_len (a + 1) n)) → Has (λ i. i ≡ x) (range_with_len a (suc n))
  by (inl same) later = inl same
  by (inr other) later = inr (later (omega (arith, low, other)))

pub range-has : (x a n : ℕ) → Has (λ i. i ≡ x) (range_with_len a n) → (a ≤ x) × (x < a + n)
range-has x a zero has = absurd has
range-has x a (suc n) (inl same) = (omega (arith, same), omega (arith, same))
range-has x a (suc n) (inr there) = let rest = range-has x (a + 1) n there in (let low = rest.0 in omega (arith, low), let high = rest.1 in omega (arith, high))

-- a message that is so is sent to y
abbrev pub Sends : (Message → Type 0) → ProcessId → List Sent → Type 0
Sends P y sent = Has (λ z. (z.to ≡ y) × P z.message) sent

pub sends-link : (P : Message → Type 0) (y : ProcessId) (sent : List Sent) → Sends P y sent → Has P (sent_to y sent)
sends-link P y [] has = absurd has
sends-link P y (z ∷ zs) (inl (same, is)) = subst (λ (b : Bool). Has P (front_if b z.message (sent_to y zs)))
    (sym (ap (λ (a : ProcessId). same_process a y) same ∙ same-refl y)) (inl is)
sends-link P y (z ∷ zs) (inr there) = by (same_process z.to y) (sends-link P y zs there) where
  by : (b : Bool) → Has P (sent_to y zs) → Has P (front_if b z.message (sent_to y zs))
  by true rest = inr rest
  by false rest = rest

pub link-sends : (P : Message → Type 0) (y : ProcessId) (sent : List Sent) → Has P (sent_to y sent) → Sends P y sent
link-sends P y [] has = absurd has
link-sends P y (z ∷ zs) has = by (same_process z.to y) refl has (λ there. link-sends P y zs there) where
  by : (b : Bool) → same_process z.to y ≡ b → Has P (front_if b z.message (sent_to y zs)) → (Has P (sent_to y zs) → Sends P y zs) → Sends P y (z ∷ zs)
  by true same (inl is) later = inl (same-eq z.to y same, is)
  by true same (inr there) later = inr (later there)
  by false other there later = inr (later there)

-- what a leader keeps once something came in for a session: it is closed if all is in
module _ (s : Dimensions) (g h : Gathering) (state : LeaderState) (number : ℕ) (opens : open_session state number ≡ Some h) (is : g.number ≡ number) where
  pub gathered-here : (complete : Bool) → open_session (gathered_when complete s g state) number ≡ (if complete then None else Some g)
  gathered-here true =
      ap (λ (gs : List Gathering). find (λ x. x.number == number) gs)
      (decoded-same s g g.lost (record state { sessions = without_session g.number state.sessions })).0
      ∙ found-filter (λ x. x.number == number) (λ x. not (x.number == g.number)) false state.sessions
      (λ x passes. ap not (eq-eqb x.number g.number (number-is x number passes ∙ sym is)))
  gathered-here false =
      ap (λ (k : ℕ). find (λ x. x.number == k) (map (λ x. if x.number == g.number then g else x) state.sessions)) (sym is)
      ∙ found-exchanged (λ x. x.number == g.number) g h state.sessions (eq-eqb g.number g.number refl)
      (ap (λ (k : ℕ). find (λ x. x.number == k) state.sessions) is ∙ opens)

  pub gathered-other : (complete : Bool) (n : ℕ) → n ≢ number → open_session (gathered_when complete s g state) n ≡ open_session state n
  gathered-other true n other =
      ap (λ (gs : List Gathering). find (λ x. x.number == n) gs)
      (decoded-same s g g.lost (record state { sessions = without_session g.number state.sessions })).0
      ∙ found-filter (λ x. x.number == n) (λ x. not (x.number == g.number)) true state.sessions
      (λ x passes. ap not (ne_eqb x.number g.number (λ same. other (sym (number-is x n passes) ∙ same ∙ is))))
  gathered-other false n other =
      found-apart (λ x. x.number == n) (λ x. x.number == g.number) g state.sessions (ne_eqb g.number n (λ same. other (sym same ∙ is)))
      (λ x swap. ap (λ (k : ℕ). k == n) (number-is x g.number swap) ∙ ne_eqb g.number n (λ same. other (sym same ∙ is)))
