-- A number that is read is the one that its text writes.
use Rattle.std.proofs.Common.{ℕ, suc, ◌≡◌, ◌<◌, ◌^◌, Bool, true, false, List, Option, Some, None, Result, Ok, Err}
use Rattle.std.proofs.Common.{if◌then◌else◌, option_and_then, refl, sym, ap, ◌∙◌, arith}
use Rattle.std.specs.Str.Parse.{ParsesUnsigned, digits_value, without_leading_plus}
use Rattle.clap.specs.ValueTests.{is_unsigned_in}
use Rattle.clap.specs.Words.{IsUnsignedIn, ReadsOne, Text, one_text, rows_of}
use Rattle.clap.specs.declared.builder.value_parser.ValueParser.TheVariants.{Unsigned}
use Rattle.clap.specs.declared.parser.matches.Found.{Found}
use Rattle.clap.proofs.ValueTestLemmas.{Accepts-accepts, accepts-Accepts}
use Rattle.clap.proofs.WalkLemmas.{one_text-rows}
use Rattle.command_line.specs.Words.{number_at, number_up_to}

-- how a type of k bits reads its numbers
module _ (E : Type 0) (Gives : List ℕ → Result ℕ E → Type 0) (k most : ℕ) (unsigned : (u : List ℕ) (x : Result ℕ E) → Gives u x → ParsesUnsigned k 10 u x)
    (fits : suc most ≡ 2 ^ k) (small : most < 2 ^ 64) where
  read-so : (text : Text) (r : Option ℕ) → ReadsOne Gives text r → r ≡ number_up_to most text
  read-so text (Some v) gives =
      let parsed = unsigned text (Ok v) gives in
      let inside : IsUnsignedIn 0 most text = (parsed.0.0, omega (arith, parsed.0.1, fits, small), omega arith, omega (arith, parsed.0.1, fits)) in
      ap Some parsed.1
      ∙ sym (ap (λ (b : Bool). if b then Some (digits_value 10 (without_leading_plus text)) else None)
      (Accepts-accepts false (Unsigned 0 most) text inside))
  read-so text None gives = by (is_unsigned_in 0 most text) refl where
    by : (b : Bool) → is_unsigned_in 0 most text ≡ b → None ≡ (if b then Some (digits_value 10 (without_leading_plus text)) else None)
    by false is = refl
    by true is =
        let inside : IsUnsignedIn 0 most text = accepts-Accepts false (Unsigned 0 most) text is in
        absurd (unsigned text (Err gives.0) gives.1 (inside.0, omega (arith, inside.3, fits)))

  pub number-read : (found : Found) (id : Text) (r : Option ℕ) → (one_text found id ≡ None → r ≡ None)
      → ((text : Text) → one_text found id ≡ Some text → ReadsOne Gives text r) → r ≡ number_at most (rows_of found) id
  number-read found id r none value = by (one_text found id) refl ∙ ap (option_and_then (number_up_to most)) (one_text-rows found id) where
    by : (o : Option Text) → one_text found id ≡ o → r ≡ option_and_then (number_up_to most) o
    by None is = none is
    by (Some text) is = read-so text r (value text is)
