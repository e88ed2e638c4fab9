-- A script that is read from a text ends with the line `places`, and has no other one.
use Rattle.std.proofs.Common.{◌≡◌, ◌≢◌, ◌⊎◌, inl, inr, ℕ, Bool, true, false, List, [], ◌∷◌, ◌∙◌, codes, Some}
use Rattle.std.proofs.Common.{None, if◌then◌else◌, refl, sym, ap, subst}
use Rattle.std.proofs.lemmas.List.Splits.{join_with_byte-slice_split}
use Rattle.std.proofs.lemmas.Slice.Eq.{bytes_eq-Decides}
use Rattle.std.specs.List.{join_with_byte}
use Rattle.std.specs.Prelude.{⊤}
use Rattle.std.specs.Str.{bytes_eq}
use Rattle.group_types.specs.Dimensions.{Dimensions}
use Rattle.scenario_text.proofs.LineWords.{keyword_in, line_by-words}
use Rattle.scenario_text.proofs.Read.{bound}
use Rattle.scenario_text.specs.Meaning.{event_line, keyword_of, line_by}
use Rattle.scenario_text.specs.Words.{split_words}
use Rattle.scenario_text.specs.declared.keyword.Keyword.{Keyword}
use Rattle.scenario_text.specs.declared.keyword.Keyword.TheVariants as keyword
use Rattle.scenario_text.specs.declared.line.Line.{Line}
use Rattle.scenario_text.specs.declared.line.Line.TheVariants.{Places, Stop}

-- a line that is the word of its meaning, where that is `places` or `stop`
abbrev IsWord : List ℕ → List (List ℕ) → Line → Type 0
IsWord name words Places = (name ≡ codes "places") × (words ≡ [])
IsWord name words Stop = (name ≡ codes "stop") × (words ≡ [])
IsWord name words _ = ⊤

-- the word of a keyword
abbrev word_of : Keyword → List ℕ
word_of keyword.Places = codes "places"
word_of keyword.Stop = codes "stop"
word_of _ = []

same-word : (k : Keyword) (name : List ℕ) → (k ≡ keyword.Places) ⊎ (k ≡ keyword.Stop) → keyword_of name ≡ Some k → name ≡ word_of k
unfolding keyword_of
same-word k name which is = by (bytes_eq name (codes "ask")) (bytes_eq name (codes "collect"))
    (bytes_eq name (codes "deliver")) (bytes_eq name (codes "fail")) (bytes_eq name (codes "flush"))
    (bytes_eq name (codes "trace"))
    (bytes_eq name (codes "drain")) (bytes_eq name (codes "show")) (bytes_eq name (codes "places")) refl
    (bytes_eq name (codes "time")) (bytes_eq name (codes "stop")) refl is
  where
    other : (j : Keyword) → (j ≢ keyword.Places) → (j ≢ keyword.Stop) → Some j ≡ Some k → name ≡ word_of k
    other j no_places no_stop same = let eq : j ≡ k = cc same in absurd (elim which [ inl p ↦ no_places (eq ∙ p) | inr s ↦ no_stop (eq ∙ s) ])

    by : (a b c d e f g h i : Bool) → bytes_eq name (codes "places") ≡ i → (j l : Bool) → bytes_eq name (codes "stop") ≡ l
        → (if a then Some keyword.Ask else
        (if b then Some keyword.Collect else
        (if c then Some keyword.Deliver else
        (if d then Some keyword.Fail else (if e then Some keyword.Flush else (if f then Some keyword.Trace
        else (if g then Some keyword.Drain else
        (if h then Some keyword.Show else
        (if i then Some keyword.Places else
        (if j then Some keyword.Time else (if l then Some keyword.Stop else None))))))))))) ≡ Some k → name
        ≡ word_of k
    by true b c d e f g h i places j l stop same = other keyword.Ask (λ x. cc x) (λ x. cc x) same
    by false true c d e f g h i places j l stop same = other keyword.Collect (λ x. cc x) (λ x. cc x) same
    by false false true d e f g h i places j l stop same = other keyword.Deliver (λ x. cc x) (λ x. cc x) same
    by false false false true e f g h i places j l stop same = other keyword.Fail (λ x. cc x) (λ x. cc x) same
    by false false false false true f g h i places j l stop same = other keyword.Flush (λ x. cc x) (λ x. cc x) same
    by false false false false false true g h i places j l stop same = other keyword.Trace (λ x. cc x) (λ x. cc x) same
    by false false false false false false true h i places j l stop same = other keyword.Drain (λ x. cc x) (λ x. cc x) same
    by false false false false false false false true i places j l stop same = other keyword.Show (λ x. cc x) (λ x. cc x) same
    by false false false false false false false false true places j l stop same = let eq : keyword.Places ≡ k =
        cc same in subst (λ (x : Keyword). name ≡ word_of x) eq ((bytes_eq-Decides name (codes "places")).0 places)
    by false false false false false false false false false places true l stop same = other keyword.Time (λ x. cc x) (λ x. cc x) same
    by false false false false false false false false false places false true stop same = let eq : keyword.Stop ≡ k =
        cc same in subst (λ (x : Keyword). name ≡ word_of x) eq ((bytes_eq-Decides name (codes "stop")).0 stop)
    by false false false false false false false false false places false false stop same = cc same

no-more-places : (s : Dimensions) (words : List (List ℕ)) (l : Line) → line_by s keyword.Places words ≡ Some l → words ≡ []
unfolding line_by
no-more-places s [] l is = refl
no-more-places s (w ∷ ws) l is = cc is

no-more-stop : (s : Dimensions) (words : List (List ℕ)) (l : Line) → line_by s keyword.Stop words ≡ Some l → words ≡ []
unfolding line_by
no-more-stop s [] l is = refl
no-more-stop s (w ∷ ws) l is = cc is

one-word : (name : List ℕ) (words : List (List ℕ)) (l : Line) (s : Dimensions) → event_line s (name ∷ words) ≡ Some l → IsWord name words l
one-word name words l s is = by l (line_by-words s k.0 words l k.2).named
  where
    k : (k : Keyword) × (keyword_of name ≡ Some k) × (line_by s k words ≡ Some l)
    k = bound (keyword_of name) (λ keyword. line_by s keyword words) l is

    read : (j : Keyword) → k.0 ≡ j → line_by s j words ≡ Some l
    read j same = subst (λ (x : Keyword). line_by s x words ≡ Some l) same k.2

    by : (x : Line) → keyword_in x ≡ Some k.0 → IsWord name words x
    by Places named = let same : k.0 ≡ keyword.Places = cc named in
        (same-word k.0 name (inl same) k.1 ∙ ap word_of same, no-more-places s words l (read keyword.Places same))
    by Stop named = let same : k.0 ≡ keyword.Stop = cc named in
        (same-word k.0 name (inr same) k.1 ∙ ap word_of same, no-more-stop s words l (read keyword.Stop same))
    by x named = tt

-- a line that means `places` is that word, and so is one that means `stop`
abbrev pub IsTheWord : List ℕ → Line → Type 0
IsTheWord line Places = line ≡ codes "places"
IsTheWord line Stop = line ≡ codes "stop"
IsTheWord line _ = ⊤

pub the-word : (s : Dimensions) (line : List ℕ) (l : Line) → event_line s (split_words line) ≡ Some l → IsTheWord line l
the-word s line l is = by (split_words line) refl is
  where
    whole : (name : List ℕ) → split_words line ≡ name ∷ [] → line ≡ name
    whole name words = sym (join_with_byte-slice_split 32 line) ∙ ap (join_with_byte 32) words

    by : (words : List (List ℕ)) → split_words line ≡ words → event_line s words ≡ Some l → IsTheWord line l
    by [] words is = cc is
    by (name ∷ more) words is = final l (one-word name more l s is)
      where
        final : (x : Line) → IsWord name more x → IsTheWord line x
        final Places (word, none) = whole name (words ∙ ap (λ (m : List (List ℕ)). name ∷ m) none) ∙ word
        final Stop (word, none) = whole name (words ∙ ap (λ (m : List (List ℕ)). name ∷ m) none) ∙ word
        final x h = tt
