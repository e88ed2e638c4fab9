-- A line `regroup` is no line of a script of one group.
use Rattle.std.proofs.Common.{ℕ, ◌≡◌, Bool, true, false, List, [], ◌∷◌, codes, Option, Some, None, Ok, if◌then◌else◌, refl, sym, ap, ◌∙◌}
use Rattle.std.proofs.lemmas.Slice.Eq.{bytes_eq-Decides}
use Rattle.group_types.specs.Dimensions.{Dimensions}
use Rattle.scenario_text.specs.Meaning.{event_line, is_skipped, keyword_of, line_by, line_meaning, or_bad_line}
use Rattle.scenario_text.specs.Words.{split_words, ◌>>=◌}
use Rattle.scenario_text.specs.declared.keyword.Keyword.{Keyword}
use Rattle.scenario_text.specs.declared.line.Line.{Line}
use Rattle.scenario_text.specs.declared.line.Line.TheVariants.{Skipped}
use Rattle.regroup_run.specs.Meaning.{is_regroup}
use Rattle.regroup_run.specs.Playing.{regroups}

no-keyword : keyword_of (codes "regroup") ≡ None
unfolding keyword_of
no-keyword = refl

no-event : (s : Dimensions) (words : List (List ℕ)) → is_regroup words ≡ true → event_line s words ≡ None
no-event s [] is = absurd (cc is)
no-event s (name ∷ words) is =
    ap (λ (word : List ℕ). keyword_of word >>= λ keyword. line_by s keyword words) ((bytes_eq-Decides name (codes "regroup")).0 is)
    ∙ ap (λ (k : Option Keyword). k >>= λ keyword. line_by s keyword words) no-keyword

pub reads-no-regroup : (s : Dimensions) (line : List ℕ) (l : Line) → regroups line ≡ true → line_meaning (Some s) line ≡ Ok l → ⊥
reads-no-regroup s line l names reads = by (is_skipped line) names reads where
  by : (b : Bool) → (if b then false else is_regroup (split_words line)) ≡ true
      → (if b then Ok Skipped else or_bad_line (event_line s (split_words line))) ≡ Ok l → ⊥
  by true is read = cc is
  by false is read = cc (sym read ∙ ap or_bad_line (no-event s (split_words line) is))
