-- Scripts of any kind: lines that do nothing, the one that names the state, and then lines each of which leads on.
use Rattle.std.proofs.Common.{ℕ, ◌≡◌, ◌+◌, ◌⊎◌, inl, inr, List, [], ◌∷◌, ◌++◌, Option, Some, None, refl, sym, ap, subst, ◌∙◌}
use Rattle.scenario_run.specs.Course.{AllLines, Ends, Goes, LineRules, Next, Refused, fault_in, named_in, text_in, turns_of_lines}
use Rattle.scenario_run.proofs.Following.{AllAfter, fault_after, named-line, text_after, turns_after}

-- a line before the state is named: none is named yet, or one from this start
pub record Opens {S T X : Type 0} (Limits : X → Type 0) (begun : X → S) (next : Option S) (turns : List T) (text : List ℕ) : Type 0 where
  pub quiet : turns ≡ []
  pub silent : text ≡ []
  pub is : (next ≡ None) ⊎ ((x : X) × Limits x × (next ≡ Some (begun x)))

-- a script whose lines up to one do nothing, and which names its state there
pub record Begins {S T F X : Type 0} (rules : LineRules S T F) (Limits : X → Type 0) (begun : X → S) (lines : List (List ℕ)) : Type 1 where
  pub start : X
  pub limits : Limits start
  pub rest : List (List ℕ)
  pub named : named_in rules None lines ≡ Some (begun start)
  pub turns : turns_of_lines rules None lines ≡ turns_of_lines rules (Some (begun start)) rest
  pub text : text_in rules None lines ≡ text_in rules (Some (begun start)) rest
  pub all : (Is : Option S → List ℕ → List ℕ → Type 0) → ((line text : List ℕ) → Is None line text)
      → AllLines rules Is (Some (begun start)) rest → AllLines rules Is None lines

-- a state from which more lines come, behind a line
pub record Onward {S T : Type 0} (Ready : S → Type 0) (Comes : S → List T → List ℕ → Type 0) (before : S)
    (next : Option S) (turns : List T) (text : List ℕ) : Type 0 where
  pub state : S
  pub is : next ≡ Some state
  pub ready : Ready state
  pub comes : (ts : List T) (us : List ℕ) → Comes state ts us → Comes before (turns ++ ts) (text ++ us)

module _ {S T F : Type 0} (rules : LineRules S T F) where
  module _ {X : Type 0} (lacking : F) (Limits : X → Type 0) (begun : X → S)
      (opens : (line : List ℕ) (next : Option S) (turns : List T) (text : List ℕ) → rules None line ≡ Goes next turns text → Opens Limits begun next turns text)
      (never-ends : (line : List ℕ) → rules None line ≡ Ends → ⊥) where
    abbrev Begun : List (List ℕ) → Type 1
    Begun lines = Begins rules Limits begun lines

    begun-by : (line : List ℕ) (lines : List (List ℕ)) (n : ℕ) (next : Option S) (turns : List T) (text : List ℕ)
        → rules None line ≡ Goes next turns text → Opens Limits begun next turns text
        → fault_in rules lacking (n + 1) next lines ≡ None → (fault_in rules lacking (n + 1) None lines ≡ None → Begun lines) → Begun (line ∷ lines)
    begun-by line lines n next turns text is opened ends later = either opened.is where
      turns-are : (q : Option S) → next ≡ q → turns_of_lines rules None (line ∷ lines) ≡ turns_of_lines rules q lines
      turns-are q same = ap (λ (x : Next S T F). turns_after rules x lines) is
          ∙ ap (λ (ts : List T). ts ++ turns_of_lines rules next lines) opened.quiet
          ∙ ap (λ (x : Option S). turns_of_lines rules x lines) same

      text-is : (q : Option S) → next ≡ q → text_in rules None (line ∷ lines) ≡ text_in rules q lines
      text-is q same = ap (λ (x : Next S T F). text_after rules x lines) is
          ∙ ap (λ (us : List ℕ). us ++ text_in rules next lines) opened.silent
          ∙ ap (λ (x : Option S). text_in rules x lines) same

      named-is : (q : Option S) → next ≡ q → named_in rules None (line ∷ lines) ≡ named_in rules q lines
      named-is q same = named-line rules line lines (Goes next turns text) is ∙ ap (λ (x : Option S). named_in rules x lines) same

      all-are : (Is : Option S → List ℕ → List ℕ → Type 0) → ((line text : List ℕ) → Is None line text) → (q : Option S)
          → next ≡ q → AllLines rules Is q lines → AllLines rules Is None (line ∷ lines)
      all-are Is first q same all =
          subst (λ (x : Next S T F). AllAfter rules Is None line x lines) (sym is)
          (first line text, subst (λ (x : Option S). AllLines rules Is x lines) (sym same) all)

      either : (next ≡ None) ⊎ ((x : X) × Limits x × (next ≡ Some (begun x))) → Begun (line ∷ lines)
      either (inl none) =
          let behind : Begun lines = later (subst (λ (q : Option S). fault_in rules lacking (n + 1) q lines ≡ None) none ends) in
          record {
            start = behind.start;
            limits = behind.limits;
            rest = behind.rest;
            named = named-is None none ∙ behind.named;
            turns = turns-are None none ∙ behind.turns;
            text = text-is None none ∙ behind.text;
            all = λ Is first all. all-are Is first None none (behind.all Is first all);
          }
      either (inr (x, limits, some)) = record {
        start = x;
        limits = limits;
        rest = lines;
        named = named-is (Some (begun x)) some;
        turns = turns-are (Some (begun x)) some;
        text = text-is (Some (begun x)) some;
        all = λ Is first all. all-are Is first (Some (begun x)) some all;
      }

    -- a script none of whose lines is refused
    pub begins : (n : ℕ) (lines : List (List ℕ)) → fault_in rules lacking n None lines ≡ None → Begun lines
    begins n [] ends = absurd (cc ends)
    begins n (line ∷ lines) ends = by (rules None line) refl ends (begins (n + 1) lines) where
      by : (next : Next S T F) → rules None line ≡ next → fault_in rules lacking n None (line ∷ lines) ≡ None
          → (fault_in rules lacking (n + 1) None lines ≡ None → Begun lines) → Begun (line ∷ lines)
      by Ends is ends later = absurd (never-ends line is)
      by (Refused cause) is ends later = absurd (cc (sym (ap (λ (x : Next S T F). fault_after rules lacking n x lines) is) ∙ ends))
      by (Goes next turns text) is ends later =
          begun-by line lines n next turns text is (opens line next turns text is)
          (sym (ap (λ (x : Next S T F). fault_after rules lacking n x lines) is) ∙ ends) later

  module _ (Ready : S → Type 0) (Comes : S → List T → List ℕ → Type 0) (none : (p : S) → Comes p [] [])
      (onward : (p : S) (line : List ℕ) (next : Option S) (turns : List T) (text : List ℕ) → Ready p
      → rules (Some p) line ≡ Goes next turns text → Onward Ready Comes p next turns text) where
    -- what comes of lines
    pub along : (p : S) (lines : List (List ℕ)) → Ready p → Comes p (turns_of_lines rules (Some p) lines) (text_in rules (Some p) lines)
    along p [] ready = none p
    along p (line ∷ lines) ready = by (rules (Some p) line) refl (λ q. along q lines) where
      by : (next : Next S T F) → rules (Some p) line ≡ next
          → ((q : S) → Ready q → Comes q (turns_of_lines rules (Some q) lines) (text_in rules (Some q) lines))
          → Comes p (turns_after rules next lines) (text_after rules next lines)
      by Ends is later = none p
      by (Refused cause) is later = none p
      by (Goes next turns text) is later =
          let on : Onward Ready Comes p next turns text = onward p line next turns text ready is in
          on.comes (turns_of_lines rules next lines) (text_in rules next lines)
          (subst (λ (q : Option S). Comes on.state (turns_of_lines rules q lines) (text_in rules q lines)) (sym on.is) (later on.state on.ready))

    -- what is so of each line that comes, is so of all
    pub all-along : (Is : Option S → List ℕ → List ℕ → Type 0)
        → ((p : S) (line : List ℕ) (next : Option S) (turns : List T) (text : List ℕ) → Ready p → rules (Some p) line
        ≡ Goes next turns text → Is (Some p) line text)
        → (p : S) (lines : List (List ℕ)) → Ready p → AllLines rules Is (Some p) lines
    all-along Is each p [] ready = tt
    all-along Is each p (line ∷ lines) ready = by (rules (Some p) line) refl (λ q. all-along Is each q lines) where
      by : (next : Next S T F) → rules (Some p) line ≡ next → ((q : S) → Ready q → AllLines rules Is (Some q) lines)
          → AllAfter rules Is (Some p) line next lines
      by Ends is later = tt
      by (Refused cause) is later = tt
      by (Goes next turns text) is later =
          let on : Onward Ready Comes p next turns text = onward p line next turns text ready is in
          (each p line next turns text ready is, subst (λ (q : Option S). AllLines rules Is q lines) (sym on.is) (later on.state on.ready))
