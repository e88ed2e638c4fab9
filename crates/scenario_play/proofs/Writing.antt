-- What is written for lines, one behind the other.
use Rattle.std.proofs.Common.{◌≡◌, ℕ, ◌+◌, IsErrAnd, ◌≤◌, ◌⊎◌, inl, inr, List, [], ◌∷◌, ◌++◌, length, Result, Ok, Err}
use Rattle.std.proofs.Common.{refl, sym, ap, ◌∙◌, subst, append_assoc, append-nil, take, drop, take-append-drop, arith}
use Rattle.std.proofs.lemmas.List.{length-append, length-take-le}
use Rattle.std.proofs.Math.Seq.{take-append_seam}
use Rattle.edge_io.proofs.Moving.{Appends-trans, Appends-nil}
use Rattle.edge_io.specs.Faults.{Rose}
use Rattle.edge_io.specs.Moving.{Appends}
use Rattle.edge_io.specs.Writing.{HasWritten, HasWrittenPart}
use Rattle.scenario_run.specs.Lines.{lines_of}
use Rattle.scenario_play.specs.Part.{IsUntreated}
use Rattle.scenario_play.specs.Player.{EndsAt, HasMetEnd, HasPlayed, Telling}
use Rattle.scenario_play.specs.Status.{TellsOfLine}
use Rattle.scenario_play.specs.declared.status.Status.{Status}
use Rattle.scenario_play.specs.declared.status.Status.TheVariants.{Done, BadLine, BadShape, BadCount}
use Rattle.scenario_play.specs.declared.status.Status.TheVariants.{WriteFault, Want}

-- some of a text was written, and this is the rest
pub record Written (before now : List ℕ) (rest all : List ℕ) : Type 0 where
  pub front : List ℕ
  pub bytes : Appends before now front
  pub whole : front ++ rest ≡ all

pub Written-none : (held : List ℕ) (all : List ℕ) → Written held held all all
Written-none held all = record { front = []; bytes = Appends-nil held; whole = refl }

pub Written-more : (before now next : List ℕ) (text rest all : List ℕ) → Written before now (text ++ rest) all
    → Appends now next text → Written before next rest all
Written-more before now next text rest all written more = record {
  front = written.front ++ text;
  bytes = Appends-trans before now next written.front text written.bytes more;
  whole = append_assoc written.front text rest ∙ written.whole;
}

pub Written-all : (before now : List ℕ) (all : List ℕ) → Written before now [] all → Appends before now all
Written-all before now all written = subst (Appends before now) (sym (append-nil written.front) ∙ written.whole) written.bytes

-- what was written so far is a front of all
front_of : (front rest all : List ℕ) → front ++ rest ≡ all → take (length front) all ≡ front
front_of front rest all whole = ap (take (length front)) (sym whole) ∙ take-append_seam front rest

pub Written-front : (before now : List ℕ) (rest all : List ℕ) → Written before now rest all → HasWritten before now all
Written-front before now rest all written = record {
  count = length written.front;
  bytes = subst (Appends before now) (sym (front_of written.front rest all written.whole)) written.bytes;
}

-- a part of the text of a line, before other lines
pub Written-short : (before now next : List ℕ) (text rest all : List ℕ) → Written before now (text ++ rest) all
    → HasWrittenPart now next text → HasWrittenPart before next all
Written-short before now next text rest all written part =
    let front : List ℕ = written.front ++ take part.count text in
    let more : Appends before next front = Appends-trans before now next written.front (take part.count text) written.bytes part.bytes in
    let split = append_assoc written.front (take part.count text) (drop part.count text ++ rest) in
    let cut = ap (λ (xs : List ℕ). written.front ++ xs)
    (sym (append_assoc (take part.count text) (drop part.count text) rest)
    ∙ ap (λ (xs : List ℕ). xs ++ rest) (take-append-drop part.count text)) in
    let taken : length (take part.count text) ≡ part.count = length-take-le part.count text (let short = part.short in omega (arith, short)) in
    let long : length all ≡ length written.front + length (text ++ rest) = ap length (sym written.whole) ∙ length-append written.front (text ++ rest) in
    record {
      count = length front;
      short = (let short = part.short in omega (arith, short, taken, long, length-append written.front (take part.count text), length-append text rest));
      bytes = subst (Appends before next) (sym (front_of front (drop part.count text ++ rest) all (split ∙ cut ∙ written.whole))) more;
    }

pub whole-part : (before now text : List ℕ) → HasWrittenPart before now text → HasWritten before now text
whole-part before now text part = record { count = part.count; bytes = part.bytes }

-- the first lines of a text were treated, and this is what is written for lines that come behind them
pub record Treated (text : List (List ℕ) → List ℕ) (lines : List (List ℕ)) (before now : List ℕ)
    (text_now : List (List ℕ) → List ℕ) (left : List (List ℕ)) : Type 0 where
  pub front : List (List ℕ)
  pub bytes : List ℕ
  pub cut : lines ≡ front ++ left
  pub written : Appends before now bytes
  pub behind : (more : List (List ℕ)) → text (front ++ more) ≡ bytes ++ text_now more

pub Treated-none : (text : List (List ℕ) → List ℕ) (lines : List (List ℕ)) (held : List ℕ) → Treated text lines held held text lines
Treated-none text lines held = record { front = []; bytes = []; cut = refl; written = Appends-nil held; behind = λ more. refl }

pub Treated-more : (text : List (List ℕ) → List ℕ) (lines : List (List ℕ)) (before now next : List ℕ)
    (text_now text_next : List (List ℕ) → List ℕ) (line : List ℕ) (rest : List (List ℕ)) (written : List ℕ)
    → Treated text lines before now text_now (line ∷ rest) → Appends now next written
    → ((more : List (List ℕ)) → text_now (line ∷ more) ≡ written ++ text_next more)
    → Treated text lines before next text_next rest
Treated-more text lines before now next text_now text_next line rest written treated more on = record {
  front = treated.front ++ line ∷ [];
  bytes = treated.bytes ++ written;
  cut = treated.cut ∙ sym (append_assoc treated.front (line ∷ []) rest);
  written = Appends-trans before now next treated.bytes written treated.written more;
  behind = λ others. ap text (append_assoc treated.front (line ∷ []) others) ∙ treated.behind (line ∷ others)
      ∙ ap (λ (xs : List ℕ). treated.bytes ++ xs) (on others)
      ∙ sym (append_assoc treated.bytes written (text_next others));
}

-- a line comes, and isn't treated
pub untreated : (text : List (List ℕ) → List ℕ) (script before now : List ℕ) (text_now : List (List ℕ) → List ℕ) (line : List ℕ) (rest : List (List ℕ))
    → Treated text (lines_of script) before now text_now (line ∷ rest) → IsUntreated (λ s. text (lines_of s)) script before now
untreated text script before now text_now line rest treated = record {
  front = treated.front;
  rest = line ∷ rest;
  cut = treated.cut;
  left = omega arith;
  written = λ other more is. Written-front before now (text_now more) (text (lines_of other))
      (record { front = treated.bytes; bytes = treated.written; whole = sym (treated.behind more) ∙ ap text (sym is) });
}

module _ (held held_now : List ℕ) (writes writes_now : ℕ) (transcript : List ℕ → List ℕ) (script : List ℕ) (verdict : Status) where
  abbrev Played : Result (Unit {0}) Status → Type 0
  Played result = HasPlayed held held_now writes writes_now transcript script verdict result

  -- a refusal, behind all that is written before it
  refused : (status : Status) → TellsOfLine status → verdict ≡ status → Appends held held_now (transcript script) → Played (Err status)
  refused (BadLine n) refusal is bytes = (tt, is, bytes)
  refused (BadShape f) refusal is bytes = (tt, is, bytes)
  refused (BadCount n) refusal is bytes = (tt, is, bytes)
  refused status refusal is bytes = absurd refusal

  -- the last line was treated
  pub ended-at : {P : Type 0} (tells : Telling P) (n : ℕ) (before : P) (line : List ℕ) (lines : List (List ℕ)) → EndsAt tells n before line Done
      → tells.verdict n before (line ∷ lines) ≡ verdict → Written held held_now (tells.text before (line ∷ lines)) (transcript script) → Played (Ok tt)
  ended-at tells n before line lines ends told written = (
    sym told ∙ ends.verdict lines,
    Written-all held held_now (transcript script)
        (subst (λ (xs : List ℕ). Written held held_now xs (transcript script)) (ends.text lines) written),
  )

  pub refused-at : {P : Type 0} (tells : Telling P) (n : ℕ) (before : P) (line : List ℕ) (lines : List (List ℕ))
      (status : Status) → (status ≡ Want) ⊎ (TellsOfLine status × EndsAt tells n before line status)
      → IsUntreated transcript script held held_now → tells.verdict n before (line ∷ lines) ≡ verdict
      → Written held held_now (tells.text before (line ∷ lines)) (transcript script) → Played (Err status)
  refused-at tells n before line lines status (inl want) left told written = subst (λ (s : Status). Played (Err s)) (sym want) (inl left)
  refused-at tells n before line lines status (inr (refusal, ends)) left told written =
      refused status refusal (sym told ∙ ends.verdict lines)
      (Written-all held held_now (transcript script)
      (subst (λ (xs : List ℕ). Written held held_now xs (transcript script)) (ends.text lines) written))

  -- there were no more lines
  pub met-end : {P : Type 0} (tells : Telling P) (n : ℕ) (player : P) (result : Result (Unit {0}) Status) → HasMetEnd tells n player result
      → tells.verdict n player [] ≡ verdict → Written held held_now (tells.text player []) (transcript script) → Played result
  met-end tells n player (Ok done) met told written = (
    sym told ∙ met.1,
    Written-all held held_now (transcript script)
        (subst (λ (xs : List ℕ). Written held held_now xs (transcript script)) met.0 written),
  )
  met-end tells n player (Err status) met told written =
      refused status met.2 (sym told ∙ met.1)
      (Written-all held held_now (transcript script)
      (subst (λ (xs : List ℕ). Written held held_now xs (transcript script)) met.0 written))

  -- the text of a line was written in part
  pub part-played : (middle : ℕ) (fault : Status) → ((fault ≡ WriteFault) × Rose middle writes_now) ⊎ (fault ≡ Want)
      → writes ≤ middle → HasWrittenPart held held_now (transcript script) → Played (Err fault)
  part-played middle fault (inl failed) later part = subst (λ (s : Status). Played (Err s)) (sym failed.0) (
    (let rose : Rose middle writes_now = failed.1 in omega (arith, later, rose)),
    whole-part held held_now (transcript script) part,
  )
  part-played middle fault (inr want) later part = subst (λ (s : Status). Played (Err s)) (sym want) (inr part)

  -- an answer that hands a fault on
  pub handed-on : (result : Result (Unit {0}) Status) (fault : Status) → IsErrAnd result (λ e. e ≡ fault) → Played (Err fault) → Played result
  handed-on (Ok done) fault is played = absurd is
  handed-on (Err e) fault is played = subst (λ (s : Status). Played (Err s)) (sym is) played
