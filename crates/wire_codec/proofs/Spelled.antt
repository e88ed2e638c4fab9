-- Each field and each message is read exactly where it is spelled.
use Rattle.std.proofs.Common.{◌≡◌, ℕ, eqb, List, [], ◌∷◌, ◌++◌, length, Option, Some, None, refl, ap, subst, ◌∙◌, append_assoc, arith}
use Rattle.std.specs.List.{AllByRecursion, flat_map}
use Rattle.std.specs.Int.{w16, w32, w64}
use Rattle.std.proofs.lemmas.Bool.{eqb-true, eq-eqb}
use Rattle.group_types.specs.Key.{IsKey}
use Rattle.group_types.specs.declared.process.ProcessId.{ProcessId}
use Rattle.group_types.specs.declared.process.ProcessId.TheVariants.{DataNode, ParityNode}
use Rattle.group_types.specs.declared.run.Run.{Run}
use Rattle.group_message.specs.declared.message.Session.{Session}
use Rattle.group_message.specs.declared.update.Body.{Body}
use Rattle.group_message.specs.declared.update.Body.TheVariants.{Put, Remove, Touch}
use Rattle.group_message.specs.declared.update.Outcome.{Outcome}
use Rattle.group_message.specs.declared.update.Outcome.TheVariants as ends
use Rattle.group_message.specs.declared.update.Update.{Update}
use Rattle.wire_codec.specs.Frame.{one, two, four, eight, process, session, short, long, maybe, run, body, outcome, update}
use Rattle.wire_codec.specs.Fits.{IsOne, IsTwo, IsFour, IsEight, IsShort, IsLong, FitsProcess, FitsSession, FitsMaybe}
use Rattle.wire_codec.specs.Fits.{FitsRun, FitsBody, FitsOutcome, FitsUpdate}
use Rattle.wire_codec.specs.Reading.{Read, one_at, decode_number, of_two, of_four, counted_at, options, maybe_at, processes}
use Rattle.wire_codec.specs.Reading.{decode_process, session_at, decode_run, until_at, frees_at, passes_key, key_at, long_at}
use Rattle.wire_codec.specs.Reading.{change_at, put_at, bodies, body_at, outcomes, outcome_at, name_at, effect_at}
use Rattle.wire_codec.specs.Reading.{update_by, update_at, updates_at, rows_at, stamp_at}
use Rattle.wire_codec.proofs.Codes.{IsBytes, IsBytes-rest, IsBytes-front, Took, Codes, codes_one, codes_two, codes_four}
use Rattle.wire_codec.proofs.Codes.{codes_eight, codes_counted, codes_tested, codes_list, takes_made, takes_two}
use Rattle.wire_codec.proofs.Codes.{takes_three, takes_four, takes_given, tagged_takes, again_two, again_three}
use Rattle.wire_codec.proofs.Codes.{again_four}
use Rattle.wire_codec.proofs.Keys.{key-passes, passes-key}

pub again_maybe : {A : Type 0} (spell : A → List ℕ) (Fits : A → Type 0) (read : Read A) → Codes spell Fits read
    → (o : Option A) (rest : List ℕ) → FitsMaybe Fits o → maybe_at read (maybe spell o ++ rest) ≡ Some (o, rest)
again_maybe spell Fits read codes None rest fits = refl
again_maybe spell Fits read codes (Some x) rest fits = rw (codes.again x rest fits) refl

pub codes_maybe : {A : Type 0} (spell : A → List ℕ) (Fits : A → Type 0) (read : Read A) → Codes spell Fits read
    → Codes (maybe spell) (FitsMaybe Fits) (maybe_at read)
codes_maybe spell Fits read codes = record {
  takes = tagged_takes (maybe spell) (FitsMaybe Fits) (options read) (
    takes_given (maybe spell) (FitsMaybe Fits) 0 None refl tt,
    (takes_made (maybe spell) (FitsMaybe Fits) (1 ∷ []) Some codes (λ a. refl) (λ a fits. fits), tt),
  );
  again = again_maybe spell Fits read codes;
}

again_process : (p : ProcessId) (rest : List ℕ) → FitsProcess p → decode_process (process p ++ rest) ≡ Some (p, rest)
unfolding decode_process
again_process (DataNode d) rest fits = refl
again_process (ParityNode i) rest fits = refl

pub codes_process : Codes process FitsProcess decode_process
unfolding decode_process
codes_process = record {
  takes = tagged_takes process FitsProcess processes (
    takes_made process FitsProcess (0 ∷ []) DataNode codes_one (λ a. refl) (λ a fits. fits),
    (takes_made process FitsProcess (1 ∷ []) ParityNode codes_one (λ a. refl) (λ a fits. fits), tt),
  );
  again = again_process;
}

abbrev session_by : ProcessId → ℕ → Session
session_by leader number = record { leader = leader; number = number }

pub codes_session : Codes session FitsSession session_at
unfolding session_at
codes_session = record {
  takes = takes_two session FitsSession [] session_by codes_process codes_eight (λ a b. refl) (λ a b p q. (p, q));
  again = λ s rest fits. again_two session_by codes_process codes_eight s.leader s.number rest fits.0 fits.1;
}

abbrev run_by : ℕ → ℕ → Run
run_by at len = record { at = at; len = len }

codes_run : Codes run FitsRun decode_run
unfolding decode_run
codes_run = record {
  takes = takes_two run FitsRun [] run_by codes_four codes_four (λ a b. refl) (λ a b p q. (p, q));
  again = λ r rest fits. again_two run_by codes_four codes_four r.at r.len rest fits.0 fits.1;
}

codes_until : Codes (maybe eight) (FitsMaybe IsEight) until_at
unfolding until_at
codes_until = codes_maybe eight IsEight (decode_number w64) codes_eight

codes_frees : Codes (maybe run) (FitsMaybe FitsRun) frees_at
unfolding frees_at
codes_frees = codes_maybe run FitsRun decode_run codes_run

pub codes_key : Codes short IsKey key_at
unfolding key_at
codes_key = codes_tested short IsShort IsKey (counted_at one_at) passes_key (codes_counted one IsOne one_at codes_one)
    (λ key fits passes. passes-key key passes) (λ key is. let short = is.short in omega (arith, short))
    (λ key is. key-passes key is)

pub codes_long : Codes long IsLong long_at
unfolding long_at
codes_long = codes_counted four IsFour (decode_number w32) codes_four

abbrev change : Run × List ℕ → List ℕ
change x = run x.0 ++ long x.1

abbrev FitsBoth : Run × List ℕ → Type 0
FitsBoth x = FitsRun x.0 × IsLong x.1

abbrev FitsChange : Run × List ℕ → Type 0
FitsChange x = FitsRun x.0 × IsLong x.1 × (length x.1 ≡ x.0.len)

abbrev pair : Run → List ℕ → Run × List ℕ
pair r delta = (r, delta)

codes_pair : Codes change FitsBoth (of_two pair decode_run long_at)
codes_pair = record {
  takes = takes_two change FitsBoth [] pair codes_run codes_long (λ a b. refl) (λ a b p q. (p, q));
  again = λ x rest fits. again_two pair codes_run codes_long x.0 x.1 rest fits.0 fits.1;
}

codes_change : Codes change FitsChange change_at
unfolding change_at
codes_change = codes_tested change FitsBoth FitsChange (of_two pair decode_run long_at) (λ x. eqb (length x.1) x.0.len) codes_pair
    (λ x fits passes. (fits.0, fits.1, eqb-true _ _ passes)) (λ x fits. (fits.0, fits.1)) (λ x fits. eq-eqb _ _ fits.2)

again_outcome : (o : Outcome) (rest : List ℕ) → FitsOutcome o → outcome_at (outcome o ++ rest) ≡ Some (o, rest)
unfolding outcome_at
again_outcome ends.Stored rest fits = refl
again_outcome ends.Deleted rest fits = refl
again_outcome ends.Touched rest fits = refl
again_outcome (ends.Number n) rest fits = rw (codes_eight.again n rest fits) refl

codes_outcome : Codes outcome FitsOutcome outcome_at
unfolding outcome_at
codes_outcome = record {
  takes = tagged_takes outcome FitsOutcome outcomes (
    takes_given outcome FitsOutcome 0 ends.Stored refl tt,
    (
      takes_given outcome FitsOutcome 1 ends.Deleted refl tt,
      (
        takes_given outcome FitsOutcome 2 ends.Touched refl tt,
        (takes_made outcome FitsOutcome (3 ∷ []) ends.Number codes_eight (λ a. refl) (λ a fits. fits), tt),
      ),
    ),
  );
  again = again_outcome;
}

abbrev put : ℕ → Option ℕ → Run × List ℕ → Body
put flags until x = Put flags until x.0 x.1

again_put : (flags : ℕ) (until : Option ℕ) (x : Run × List ℕ) (rest : List ℕ) → IsFour flags → FitsMaybe IsEight until
    → FitsChange x → put_at ((four flags ++ maybe eight until ++ change x) ++ rest) ≡ Some (put flags until x, rest)
unfolding put_at
again_put flags until x rest a b c = again_three put codes_four codes_until codes_change flags until x rest a b c

same_body : (flags : ℕ) (until : Option ℕ) (x : Run × List ℕ) → body (put flags until x) ≡ (0 ∷ []) ++ (four flags ++ maybe eight until ++ change x)
same_body flags until x = ap (λ (t : List ℕ). 0 ∷ t) (append_assoc (four flags ++ maybe eight until) (run x.0) (long x.1))

body_put : (text : List ℕ) → body_at (0 ∷ text) ≡ put_at text
unfolding body_at
body_put text = refl

again_body : (b : Body) (rest : List ℕ) → FitsBody b → body_at (body b ++ rest) ≡ Some (b, rest)
unfolding body_at
again_body (Put flags until r delta) rest fits =
    ap (λ (t : List ℕ). body_at (t ++ rest)) (same_body flags until (r, delta)) ∙ body_put ((four flags ++ maybe eight until ++ change (r, delta)) ++ rest)
    ∙ again_put flags until (r, delta) rest fits.0 fits.1 (fits.2, fits.3, fits.4)
again_body Remove rest fits = refl
again_body (Touch until) rest fits = rw (codes_until.again until rest fits) refl

codes_body : Codes body FitsBody body_at
unfolding body_at put_at
codes_body = record {
  takes = tagged_takes body FitsBody bodies (
    takes_three body FitsBody (0 ∷ []) put codes_four codes_until codes_change same_body
        (λ a b c p q r. (p, q, r.0, r.1, r.2)),
    (
      takes_given body FitsBody 1 Remove refl tt,
      (takes_made body FitsBody (2 ∷ []) Touch codes_until (λ a. refl) (λ a fits. fits), tt),
    ),
  );
  again = again_body;
}

-- ---- an update

abbrev name : ℕ × ℕ × ℕ → List ℕ
name x = eight x.0 ++ one x.1 ++ eight x.2

abbrev FitsName : ℕ × ℕ × ℕ → Type 0
FitsName x = IsEight x.0 × IsOne x.1 × IsEight x.2

abbrev name_by : ℕ → ℕ → ℕ → ℕ × ℕ × ℕ
name_by number caller call = (number, caller, call)

codes_name : Codes name FitsName name_at
unfolding name_at
codes_name = record {
  takes = takes_three name FitsName [] name_by codes_eight codes_one codes_eight (λ a b c. refl) (λ a b c p q r. (p, q, r));
  again = λ x rest fits. again_three name_by codes_eight codes_one codes_eight x.0 x.1 x.2 rest fits.0 fits.1 fits.2;
}

abbrev effect : Option Run × Outcome → List ℕ
effect x = maybe run x.0 ++ outcome x.1

abbrev FitsEffect : Option Run × Outcome → Type 0
FitsEffect x = FitsMaybe FitsRun x.0 × FitsOutcome x.1

abbrev effect_by : Option Run → Outcome → Option Run × Outcome
effect_by frees o = (frees, o)

codes_effect : Codes effect FitsEffect effect_at
unfolding effect_at
codes_effect = record {
  takes = takes_two effect FitsEffect [] effect_by codes_frees codes_outcome (λ a b. refl) (λ a b p q. (p, q));
  again = λ x rest fits. again_two effect_by codes_frees codes_outcome x.0 x.1 rest fits.0 fits.1;
}

same_update : (n : ℕ × ℕ × ℕ) (key : List ℕ) (b : Body) (x : Option Run × Outcome) → update (update_by n key b x) ≡ name n ++ short key ++ body b ++ effect x
same_update n key b x = append_assoc (name n ++ short key ++ body b) (maybe run x.0) (outcome x.1)

again_update : (u : Update) (rest : List ℕ) → FitsUpdate u → update_at (update u ++ rest) ≡ Some (u, rest)
unfolding update_at
again_update u rest fits =
    let n : ℕ × ℕ × ℕ = (u.number, u.caller, u.call) in
    let x : Option Run × Outcome = (u.frees, u.outcome) in
    ap (λ (t : List ℕ). of_four update_by name_at key_at body_at effect_at (t ++ rest)) (same_update n u.key u.body x)
    ∙ again_four update_by codes_name codes_key codes_body codes_effect n u.key u.body x rest (fits.0, fits.1, fits.2) fits.3 fits.4 (fits.5, fits.6)

pub codes_update : Codes update FitsUpdate update_at
unfolding update_at
codes_update = record {
  takes = takes_four update FitsUpdate [] update_by codes_name codes_key codes_body codes_effect same_update
      (λ n k b x p q r s. (p.0, p.1, p.2, q, r, s.0, s.1));
  again = again_update;
}

-- ---- messages

pub codes_updates : Codes (λ list. two (length list) ++ flat_map update list) (λ list. IsTwo (length list) × AllByRecursion FitsUpdate list) updates_at
unfolding updates_at
codes_updates = codes_list two IsTwo (decode_number w16) update FitsUpdate update_at codes_two codes_update

pub codes_stamp : Codes (λ stamp. one (length stamp) ++ flat_map eight stamp) (λ stamp. IsOne (length stamp) × AllByRecursion IsEight stamp) stamp_at
unfolding stamp_at
codes_stamp = codes_list one IsOne one_at eight IsEight (decode_number w64) codes_one codes_eight

small_from : (bytes : List ℕ) → IsBytes bytes → AllByRecursion IsOne bytes
small_from [] is = tt
small_from (b ∷ bytes) is = (is 0, small_from bytes (IsBytes-rest b bytes is))

-- row numbers are bytes
rows_takes : (bytes rows rest : List ℕ) → IsBytes bytes → rows_at bytes ≡ Some (rows, rest)
    → Took short (λ rows. IsShort rows × AllByRecursion IsOne rows) bytes rows rest
unfolding rows_at
rows_takes bytes rows rest is e =
    let t = (codes_counted one IsOne one_at codes_one).takes bytes rows rest is e in
    let numbers : IsBytes (rows ++ rest) = IsBytes-rest (length rows) (rows ++ rest) (subst IsBytes t.parts is) in
    record { parts = t.parts; fits = (t.fits, small_from rows (IsBytes-front rows rest numbers)); behind = t.behind }

rows_again : (rows rest : List ℕ) → IsShort rows × AllByRecursion IsOne rows → rows_at (short rows ++ rest) ≡ Some (rows, rest)
unfolding rows_at
rows_again rows rest fits = (codes_counted one IsOne one_at codes_one).again rows rest fits.0

pub codes_rows : Codes short (λ rows. IsShort rows × AllByRecursion IsOne rows) rows_at
codes_rows = record { takes = rows_takes; again = rows_again }
