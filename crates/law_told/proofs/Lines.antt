-- Lines of a log and others, in texts that are put together.
use Rattle.std.proofs.Common.{ℕ, ◌≡◌, Bool, true, false, cond, not, codes, if◌then◌else◌, List, [], ◌∷◌, ◌++◌, map}
use Rattle.std.proofs.Common.{refl, sym, ap, ap₂, subst, ◌∙◌, append_assoc}
use Rattle.std.proofs.lemmas.List.{append-nil}
use Rattle.std.specs.Prelude.{filter}
use Rattle.group_calls.specs.declared.event.Answer.{Answer}
use Rattle.group_calls.specs.declared.event.Answer.TheVariants as says
use Rattle.group_calls.specs.declared.event.Cause.TheVariants.{Block, Pending}
use Rattle.group_types.specs.declared.process.ProcessId.{ProcessId}
use Rattle.group_run.specs.Meaning.{is_dead}
use Rattle.group_run.specs.Shown.{is_down}
use Rattle.group_run.specs.World.{World}
use Rattle.scenario_text.specs.Texts.{answer_text, shown_text}
use Rattle.scenario_run.specs.Marks.{entries_by}
use Rattle.scenario_run.specs.Playing.{look_with}
use Rattle.law_told.specs.Lines.{TellsLines, is_log_line, text_of}

abbrev pub is_other : List ℕ → Bool
is_other line = not (is_log_line line)

pub text-append : (xs ys : List (List ℕ)) → text_of (xs ++ ys) ≡ text_of xs ++ text_of ys
text-append [] ys = refl
text-append (x ∷ xs) ys = ap (λ (t : List ℕ). x ++ 10 ∷ t) (text-append xs ys) ∙ sym (append_assoc x (10 ∷ text_of xs) (text_of ys))

filter-append : {X : Type 0} (p : X → Bool) (xs ys : List X) → filter p (xs ++ ys) ≡ filter p xs ++ filter p ys
filter-append p [] ys = refl
filter-append p (x ∷ xs) ys = by (p x) (filter-append p xs ys) where
  by : (b : Bool) → filter p (xs ++ ys) ≡ filter p xs ++ filter p ys
      → cond b (x ∷ filter p (xs ++ ys)) (filter p (xs ++ ys)) ≡ cond b (x ∷ filter p xs) (filter p xs) ++ filter p ys
  by true rest = ap (λ (zs : List _). x ∷ zs) rest
  by false rest = rest

map-append : {X Y : Type 0} (f : X → Y) (xs ys : List X) → map f (xs ++ ys) ≡ map f xs ++ map f ys
map-append f [] ys = refl
map-append f (x ∷ xs) ys = ap (λ (zs : List _). f x ∷ zs) (map-append f xs ys)

-- lines none of which is of a log
abbrev pub AreOthers : List (List ℕ) → Type 0
AreOthers [] = Unit {0}
AreOthers (line ∷ lines) = (is_log_line line ≡ false) × AreOthers lines

pub others-append : (xs ys : List (List ℕ)) → AreOthers xs → AreOthers ys → AreOthers (xs ++ ys)
others-append [] ys first more = more
others-append (x ∷ xs) ys first more = (first.0, others-append xs ys first.1 more)

others-log : (lines : List (List ℕ)) → AreOthers lines → filter is_log_line lines ≡ []
others-log [] all = refl
others-log (line ∷ lines) all = ap (λ (b : Bool). cond b (line ∷ filter is_log_line lines) (filter is_log_line lines)) all.0 ∙ others-log lines all.1

others-kept : (lines : List (List ℕ)) → AreOthers lines → filter is_other lines ≡ lines
others-kept [] all = refl
others-kept (line ∷ lines) all =
    ap (λ (b : Bool). cond (not b) (line ∷ filter is_other lines) (filter is_other lines)) all.0
    ∙ ap (λ (ls : List (List ℕ)). line ∷ ls) (others-kept lines all.1)

-- an answer is on no line of a log
pub answer-other : (a : Answer) → is_log_line (answer_text a) ≡ false
answer-other (says.Reply r) = refl
answer-other (says.Retry (Pending d n)) = refl
answer-other (says.Retry (Block b)) = refl
answer-other answer = refl

-- nor is what a process shows
pub look-other : (stamp : List ℕ) (w : World) (p : ProcessId) (bytes : List ℕ) → is_log_line (look_with stamp w p bytes) ≡ false
look-other stamp w p bytes = by (is_down w) (is_dead w p) where
  by : (down dead : Bool) → is_log_line (if down then codes "down" else (if dead then codes "lost" else shown_text stamp bytes)) ≡ false
  by true dead = refl
  by false true = refl
  by false false = refl

module _ {E : Type 0} (entry_text : E → List ℕ) where
  -- nothing
  pub tells-none : TellsLines entry_text [] [] []
  tells-none = record { lines = []; written = refl; log = refl; others = refl }

  -- one text behind another
  pub tells-append : (t u : List ℕ) (es fs : List E) (said more : List (List ℕ)) → TellsLines entry_text t es said
      → TellsLines entry_text u fs more → TellsLines entry_text (t ++ u) (es ++ fs) (said ++ more)
  tells-append t u es fs said more first next = record {
    lines = first.lines ++ next.lines;
    written = ap₂ (λ (a b : List ℕ). a ++ b) first.written next.written ∙ sym (text-append first.lines next.lines);
    log = filter-append is_log_line first.lines next.lines ∙ ap₂ (λ (a b : List (List ℕ)). a ++ b) first.log next.log ∙ sym (map-append entry_text es fs);
    others = filter-append is_other first.lines next.lines ∙ ap₂ (λ (a b : List (List ℕ)). a ++ b) first.others next.others;
  }

  -- lines that say something
  pub tells-said : (said : List (List ℕ)) → AreOthers said → TellsLines entry_text (text_of said) [] said
  tells-said said all = record { lines = said; written = refl; log = others-log said all; others = others-kept said all }

  -- entries, whose texts are lines of a log
  module _ (marked : (e : E) → is_log_line (entry_text e) ≡ true) where
    pub tells-entries : (es : List E) → TellsLines entry_text (entries_by entry_text es) es []
    tells-entries [] = tells-none
    tells-entries (e ∷ es) = let rest = tells-entries es in record {
      lines = entry_text e ∷ rest.lines;
      written = ap (λ (t : List ℕ). entry_text e ++ 10 ∷ t) rest.written;
      log = ap (λ (b : Bool). cond b (entry_text e ∷ filter is_log_line rest.lines) (filter is_log_line rest.lines))
          (marked e) ∙ ap (λ (ls : List (List ℕ)). entry_text e ∷ ls) rest.log;
      others = ap (λ (b : Bool). cond (not b) (entry_text e ∷ filter is_other rest.lines) (filter is_other rest.lines)) (marked e) ∙ rest.others;
    }

    -- a line that is said, and entries behind it or in front of it
    pub said-first : (line : List ℕ) (es : List E) → is_log_line line ≡ false → TellsLines entry_text (line ++ 10 ∷ entries_by entry_text es) es (line ∷ [])
    said-first line es other =
        subst (λ (t : List ℕ). TellsLines entry_text t es (line ∷ [])) (append_assoc line (10 ∷ []) (entries_by entry_text es))
        (tells-append (line ++ 10 ∷ []) (entries_by entry_text es) [] es (line ∷ []) [] (tells-said (line ∷ []) (other, tt)) (tells-entries es))

    pub said-last : (line : List ℕ) (es : List E) → is_log_line line ≡ false
        → TellsLines entry_text (entries_by entry_text es ++ (line ++ 10 ∷ [])) es (line ∷ [])
    said-last line es other =
        subst (λ (xs : List E). TellsLines entry_text (entries_by entry_text es ++ (line ++ 10 ∷ [])) xs (line ∷ [])) (append-nil es)
        (tells-append (entries_by entry_text es) (line ++ 10 ∷ []) es [] [] (line ∷ []) (tells-entries es) (tells-said (line ∷ []) (other, tt)))
