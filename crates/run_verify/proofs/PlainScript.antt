-- The steps of a script that is read end with the one that asks for the places.
use Rattle.std.proofs.Common.{◌≡◌, ◌⊎◌, inl, inr, ◌+◌, ℕ, Bool, true, false, not, nat_lt, List, [], ◌∷◌, ◌++◌, ◌∙◌}
use Rattle.std.proofs.Common.{codes, length, slice_index, Option, Some, None, Result, Ok, Err, if◌then◌else◌, refl, sym}
use Rattle.std.proofs.Common.{ap, subst}
use Rattle.std.proofs.lemmas.Slice.Eq.{bytes_eq-Decides}
use Rattle.std.proofs.lemmas.List.Elements.{All-head, All-tail}
use Rattle.std.specs.Prelude.{⊤, All}
use Rattle.std.specs.Str.{bytes_eq}
use Rattle.group_types.specs.Dimensions.{Dimensions}
use Rattle.group_calls.specs.declared.event.Event.{Event}
use Rattle.group_calls.specs.declared.event.Event.TheVariants as happens
use Rattle.scenario_run.specs.Course.{Fault, Goes, Ends, Refused}
use Rattle.scenario_run.specs.Lines.{lines_of}
use Rattle.scenario_text.specs.Meaning.{event_line, is_skipped, keyword_of, line_by, line_meaning, or_bad_line}
use Rattle.scenario_text.specs.Words.{split_words}
use Rattle.scenario_text.specs.declared.line.Line.{Line}
use Rattle.scenario_text.specs.declared.line.Line.TheVariants.{Skipped, Group, Ask, Collect, Deliver, Fail, Flush, Trace, Drain, Show, Places, Time, Stop}
use Rattle.scenario_text.specs.declared.line.LineFault.{LineFault}
use Rattle.scenario_text.specs.declared.line.LineFault.TheVariants.{BadLine}
use Rattle.run_verify.specs.Plain.{EndsPlacing, FitSteps, FitsStep}
use Rattle.run_verify.specs.Sheet.{Sheet, before_separator, behind_separator, sheet_joined, sheet_of}
use Rattle.run_verify.specs.Steps.{Script, Setting, StepNext, asks_for, behind, is_over, later_steps, script_from_line, script_in, stands_well}
use Rattle.run_verify.specs.Steps.{steps_by_meaning, steps_of_line, trace_steps}
use Rattle.run_verify.specs.declared.step.Step.{Step}
use Rattle.run_verify.specs.declared.step.Step.TheVariants.{Make, Deliveries, Look, Placing}
use Rattle.run_verify.proofs.PlainRead.{IsTheWord, the-word}

-- steps without one of the places
abbrev NoPlacing : List Step → Type 0
NoPlacing [] = Unit {0}
NoPlacing (Placing ∷ steps) = ⊥
NoPlacing (Make e ∷ steps) = NoPlacing steps
NoPlacing (Deliveries ∷ steps) = NoPlacing steps
NoPlacing (Look p run ∷ steps) = NoPlacing steps

ends-behind : (steps rest : List Step) → NoPlacing steps → EndsPlacing rest → EndsPlacing (steps ++ rest)
ends-behind [] rest none ends = ends
ends-behind (Placing ∷ steps) rest none ends = absurd none
ends-behind (Make e ∷ steps) rest none ends = ends-behind steps rest none ends
ends-behind (Deliveries ∷ steps) rest none ends = ends-behind steps rest none ends
ends-behind (Look p run ∷ steps) rest none ends = ends-behind steps rest none ends

-- what a line does behind the group line: its steps have none of the places, but where it is the line `places`; and it ends only
-- where it is `stop`
abbrev Does : List ℕ → StepNext → Type 0
Does line (Goes None steps text) = ⊥
Does line (Goes (Some s) steps text) = NoPlacing steps ⊎ ((line ≡ codes "places") × (steps ≡ Placing ∷ []))
Does line Ends = line ≡ codes "stop"
Does line (Refused cause) = ⊤

does-trace : (line : List ℕ) (s : Setting) (caller call : ℕ) (e : Event) → Does line (trace_steps s caller call e)
does-trace line s caller call e = by (nat_lt call (slice_index s.asked caller))
  where
    by : (b : Bool) → Does line (if b then asks_for s (Make e) else Refused BadLine)
    by true = inl tt
    by false = tt

does-line : (line : List ℕ) (s : Setting) (l : Line) → IsTheWord line l → Does line (later_steps s l)
does-line line s Skipped word = inl tt
does-line line s (Group shape) word = tt
does-line line s (Ask caller p act) word = inl tt
does-line line s (Collect caller call p) word = inl tt
does-line line s (Deliver from to) word = inl tt
does-line line s (Fail p keep) word = inl tt
does-line line s (Flush p) word = inl tt
does-line line s (Trace caller call d p) word = does-trace line s caller call (happens.Trace caller call d p)
does-line line s Drain word = inl tt
does-line line s (Show p run) word = inl tt
does-line line s Places word = inr (word, refl)
does-line line s (Time moment) word = inl tt
does-line line s Stop word = word

does : (line : List ℕ) (s : Setting) → is_skipped line ≡ false → Does line (steps_of_line (Some s) line)
does line s written = rw written (by (event_line s.shape (split_words line)) refl)
  where
    by : (o : Option Line) → event_line s.shape (split_words line) ≡ o → Does line (steps_by_meaning (Some s) (or_bad_line o))
    by None is = tt
    by (Some l) is = does-line line s l (the-word s.shape line l is)

-- the lines that mean nothing
pub skips : (line : List ℕ) (setting : Option Setting) → is_skipped line ≡ true → steps_of_line setting line ≡ Goes setting [] []
skips line None skipped = rw skipped refl
skips line (Some s) skipped = rw skipped refl

places-line : (s : Setting) → steps_of_line (Some s) (codes "places") ≡ Goes (Some s) (Placing ∷ []) []
unfolding keyword_of line_by
places-line s = refl

stop-line : (s : Setting) → steps_of_line (Some s) (codes "stop") ≡ Ends
unfolding keyword_of line_by
stop-line s = refl

-- what the steps are by whether lines are over
abbrev EndsBy : Bool → List Step → Type 0
EndsBy true steps = steps ≡ []
EndsBy false steps = EndsPlacing steps

abbrev Outcome : Type 0
Outcome = Result Script (Fault LineFault)

-- what is behind steps
behind-ok : (steps : List Step) (r : Outcome) (script : Script) → behind steps r ≡ Ok script → (rest : Script)
    × (r ≡ Ok rest) × (steps ++ rest.steps ≡ script.steps)
behind-ok steps (Ok rest) script is = (
  rest,
  refl,
  let same : record { shape = rest.shape; steps = steps ++ rest.steps }
      ≡ script = cc is in ap (λ (x : Script). x.steps) same,
)
behind-ok steps (Err fault) script is = cc is

-- the test of whether a line stands well, passed
stands : (line : List ℕ) (lines : List (List ℕ)) (over : Bool) → is_over lines ≡ over → stands_well line lines ≡ true → bytes_eq line (codes "places") ≡ over
stands line lines true over well = rw over at well
stands line lines false over well = by (bytes_eq line (codes "places")) refl (rw over at well)
  where
    by : (b : Bool) → bytes_eq line (codes "places") ≡ b → not b ≡ true → bytes_eq line (codes "places") ≡ false
    by true is other = cc other
    by false is other = is

abbrev Goal : List (List ℕ) → Type 0
Goal lines = (n : ℕ) (s : Setting) (script : Script) → script_in n (Some s) lines ≡ Ok script → EndsBy (is_over lines) script.steps

-- a line that goes on
goes-on : (line : List ℕ) (lines : List (List ℕ)) (steps : List Step) (next : Setting) (n : ℕ) (script : Script)
    → Goal lines → NoPlacing steps ⊎ ((line ≡ codes "places") × (steps ≡ Placing ∷ []))
    → (line ≡ codes "places" → steps ≡ Placing ∷ [])
    → stands_well line lines ≡ true → behind steps (script_in (n + 1) (Some next) lines) ≡ Ok script → EndsPlacing script.steps
goes-on line lines steps next n script onward kind placing well is = by (is_over lines) refl kind
  where
    rest : (rest : Script) × (script_in (n + 1) (Some next) lines ≡ Ok rest) × (steps ++ rest.steps ≡ script.steps)
    rest = behind-ok steps (script_in (n + 1) (Some next) lines) script is

    is_places : (b : Bool) → is_over lines ≡ b → bytes_eq line (codes "places") ≡ b
    is_places b over = stands line lines b over well

    by : (b : Bool) → is_over lines ≡ b → NoPlacing steps ⊎ ((line ≡ codes "places") × (steps ≡ Placing ∷ [])) → EndsPlacing script.steps
    by true over (inr (word, one)) =
        let none : rest.0.steps ≡ [] = subst (λ (b : Bool). EndsBy b rest.0.steps) over (onward (n + 1) next rest.0 rest.1) in
        subst EndsPlacing rest.2 (subst (λ (st : List Step). EndsPlacing (st ++ rest.0.steps)) (sym one) none)
    by true over (inl none) =
        let word = (bytes_eq-Decides line (codes "places")).0 (is_places true over) in
        absurd (subst NoPlacing (placing word) none)
    by false over (inr (word, one)) = absurd (let other = is_places false over in cc (sym other ∙ (bytes_eq-Decides line (codes "places")).1 word))
    by false over (inl none) =
        subst EndsPlacing rest.2
        (ends-behind steps rest.0.steps none
        (subst (λ (b : Bool). EndsBy b rest.0.steps) over (onward (n + 1) next rest.0 rest.1)))

-- what a step of reading comes to
ends-line : (n : ℕ) (s : Setting) (line : List ℕ) (lines : List (List ℕ)) (script : Script) → Goal lines
    → (next : StepNext) → steps_of_line (Some s) line ≡ next → is_skipped line ≡ false → Does line next
    → (well : Bool) → stands_well line lines ≡ well
    → script_from_line false well n (Some s) next (λ setting. script_in (n + 1) setting lines) ≡ Ok script
    → EndsBy (bytes_eq line (codes "stop")) script.steps
ends-line n s line lines script onward (Goes None steps text) is written does well stands is_ok = absurd does
ends-line n s line lines script onward (Goes (Some next) steps text) is written does false stands is_ok = cc is_ok
ends-line n s line lines script onward (Goes (Some next) steps text) is written does true stands is_ok = by (bytes_eq line (codes "stop")) refl
  where
    placing : line ≡ codes "places" → steps ≡ Placing ∷ []
    placing word = let both : Goes (Some next) steps text ≡ Goes (Some s) (Placing ∷ []) [] =
        sym is ∙ ap (steps_of_line (Some s)) word ∙ places-line s in cc both

    by : (b : Bool) → bytes_eq line (codes "stop") ≡ b → EndsBy b script.steps
    by false other = goes-on line lines steps next n script onward does placing stands is_ok
    by true stop = absurd (let word = (bytes_eq-Decides line (codes "stop")).0 stop in
        let both : Goes (Some next) steps text ≡ Ends = sym is ∙ ap (steps_of_line (Some s)) word ∙ stop-line s in cc both)
ends-line n s line lines script onward Ends is written word well stands is_ok =
    let same : record { shape = s.shape; steps = [] } ≡ script = cc is_ok in
    let stop = (bytes_eq-Decides line (codes "stop")).1 word in
    subst (λ (b : Bool). EndsBy b script.steps) (sym stop) (sym (ap (λ (x : Script). x.steps) same))
ends-line n s line lines script onward (Refused cause) is written does well stands is_ok = cc is_ok

ends-script : (lines : List (List ℕ)) → Goal lines
ends-script [] n s script is = let same : record { shape = s.shape; steps = [] } ≡ script = cc is in sym (ap (λ (x : Script). x.steps) same)
ends-script (line ∷ lines) n s script is = by (is_skipped line) refl (ends-script lines)
  where
    by : (b : Bool) → is_skipped line ≡ b → Goal lines → EndsBy (is_over (line ∷ lines)) script.steps
    by true skipped onward =
        let read : script_in (n + 1) (Some s) lines ≡ Ok script =
        sym (ap (λ (x : StepNext). script_from_line true (stands_well line lines) n (Some s) x
        (λ setting. script_in (n + 1) setting lines)) (skips line (Some s) skipped))
        ∙ sym (ap (λ (b : Bool). script_from_line b (stands_well line lines) n (Some s) (steps_of_line (Some s) line)
        (λ setting. script_in (n + 1) setting lines)) skipped) ∙ is in
        rw skipped (onward (n + 1) s script read)
    by false written onward =
        rw written (ends-line n s line lines script onward (steps_of_line (Some s) line) refl written (does line s written) (stands_well line lines) refl
        (sym (ap (λ (b : Bool). script_from_line b (stands_well line lines) n (Some s) (steps_of_line (Some s) line)
        (λ setting. script_in (n + 1) setting lines)) written) ∙ is))

-- ---- before the group line

abbrev DoesFirst : StepNext → Type 0
DoesFirst (Goes setting steps text) = steps ≡ []
DoesFirst Ends = ⊥
DoesFirst (Refused cause) = ⊤

does-first : (r : Result Line LineFault) → DoesFirst (steps_by_meaning None r)
does-first (Ok Skipped) = refl
does-first (Ok (Group shape)) = refl
does-first l = tt

places-first : steps_of_line None (codes "places") ≡ Refused BadLine
places-first = refl

abbrev pub GoalFirst : List (List ℕ) → Type 0
GoalFirst lines = (n : ℕ) (script : Script) → script_in n None lines ≡ Ok script → EndsPlacing script.steps

first-line : (n : ℕ) (line : List ℕ) (lines : List (List ℕ)) (script : Script) → GoalFirst lines → (next : StepNext)
    → steps_of_line None line ≡ next → DoesFirst next → (well : Bool) → stands_well line lines ≡ well
    → script_from_line false well n None next (λ setting. script_in (n + 1) setting lines) ≡ Ok script → EndsPlacing script.steps
first-line n line lines script onward Ends is does well stands is_ok = absurd does
first-line n line lines script onward (Refused cause) is does well stands is_ok = cc is_ok
first-line n line lines script onward (Goes setting steps text) is does false stands is_ok = cc is_ok
first-line n line lines script onward (Goes None steps text) is does true stands is_ok =
    let rest = behind-ok steps (script_in (n + 1) None lines) script is_ok in
    subst EndsPlacing rest.2 (subst (λ (st : List Step). EndsPlacing (st ++ rest.0.steps)) (sym does) (onward (n + 1) rest.0 rest.1))
first-line n line lines script onward (Goes (Some s) steps text) is does true well is_ok = by (is_over lines) refl
  where
    rest : (rest : Script) × (script_in (n + 1) (Some s) lines ≡ Ok rest) × (steps ++ rest.steps ≡ script.steps)
    rest = behind-ok steps (script_in (n + 1) (Some s) lines) script is_ok

    by : (b : Bool) → is_over lines ≡ b → EndsPlacing script.steps
    by true over = absurd (let word = (bytes_eq-Decides line (codes "places")).0 (stands line lines true over well) in
        let both : Goes (Some s) steps text ≡ Refused BadLine = sym is ∙ ap (steps_of_line None) word ∙ places-first in
        cc both)
    by false over =
        let ends : EndsPlacing rest.0.steps = subst (λ (b : Bool). EndsBy b rest.0.steps) over (ends-script lines (n + 1) s rest.0 rest.1) in
        subst EndsPlacing rest.2 (subst (λ (st : List Step). EndsPlacing (st ++ rest.0.steps)) (sym does) ends)

pub ends-first : (lines : List (List ℕ)) → GoalFirst lines
ends-first [] n script is = cc is
ends-first (line ∷ lines) n script is = by (is_skipped line) refl (ends-first lines)
  where
    by : (b : Bool) → is_skipped line ≡ b → GoalFirst lines → EndsPlacing script.steps
    by true skipped onward =
        onward (n + 1) script
        (sym (ap (λ (x : StepNext). script_from_line true (stands_well line lines) n None x
        (λ setting. script_in (n + 1) setting lines)) (skips line None skipped))
        ∙ sym (ap (λ (b : Bool). script_from_line b (stands_well line lines) n None (steps_of_line None line) (λ setting. script_in (n + 1) setting lines))
        skipped) ∙ is)
    by false written onward =
        first-line n line lines script onward (steps_of_line None line) refl (does-first (line_meaning None line)) (stands_well line lines) refl
        (sym (ap (λ (b : Bool). script_from_line b (stands_well line lines) n None (steps_of_line None line) (λ setting. script_in (n + 1) setting lines))
        written) ∙ is)

joined-ok : (n : ℕ) (r : Outcome) (lines : Option (List (List ℕ))) (sheet : Sheet) → sheet_joined n r lines ≡ Ok sheet → r ≡ Ok sheet.script
joined-ok n (Err fault) lines sheet is = cc is
joined-ok n (Ok script) None sheet is = cc is
joined-ok n (Ok script) (Some lines) sheet is = let same : record { script = script; lines = lines } ≡ sheet = cc is in ap (λ (x : Sheet). Ok x.script) same

-- the script of a sheet ends with the places
pub ends-read : (text : List ℕ) (sheet : Sheet) → sheet_of text ≡ Ok sheet → EndsPlacing sheet.script.steps
ends-read text sheet is =
    let lines : List (List ℕ) = lines_of text in
    ends-first (before_separator lines) 1 sheet.script
    (joined-ok (length lines + 1) (script_in 1 None (before_separator lines)) (behind_separator lines) sheet is)

-- steps each of which keeps to what is wanted of it
pub fit-all : (s : Dimensions) (P : Step → Type 0) → ((step : Step) → P step → FitsStep s step) → (steps : List Step) → All P steps → FitSteps s steps
fit-all s P fits [] all = tt
fit-all s P fits (step ∷ steps) all = (fits step (All-head P step steps all), fit-all s P fits steps (All-tail P step steps all))
