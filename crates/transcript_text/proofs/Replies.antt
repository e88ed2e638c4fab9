-- A reply is a word, a number or an item.
use Rattle.std.specs.Prelude.{IsTrue, ◌↔◌}
use Rattle.std.proofs.Common.{◌≡◌, ◌≢◌, ◌⊎◌, inl, inr, ◌<◌, ◌%◌, ℕ, Bool, true, false, List, [], ◌∷◌, ◌++◌, ◌∙◌, All, length, codes, refl, sym, ap, subst}
use Rattle.memc_table.specs.declared.reply.Reply.{Reply}
use Rattle.memc_table.specs.declared.reply.Reply.TheVariants.{Value, Miss, Stored, NotStored, Exists, NotFound, Deleted, Touched, Number, NotNumber, TooLarge}
use Rattle.scenario_text.specs.Texts.{reply_words, value_text}
use Rattle.transcript_text.specs.Forms.{FitsReply, is_word}
use Rattle.transcript_text.specs.Parts.{FitsFront, IsItemReply, IsLowerDigit, IsNumberReply, IsWordReply, item_words}
use Rattle.transcript_text.specs.Texts.{IsReplyText, IsValueText}
use Rattle.transcript_text.proofs.Fronts.{item_same}
use Rattle.transcript_text.proofs.Values.{AreDigits, value-digits, value-form}

word-fits : (reply : Reply) → is_word reply ≡ true → FitsReply reply
word-fits (Value item) is = cc is
word-fits (Number n) is = cc is
word-fits Miss is = tt
word-fits Stored is = tt
word-fits NotStored is = tt
word-fits Exists is = tt
word-fits NotFound is = tt
word-fits Deleted is = tt
word-fits Touched is = tt
word-fits NotNumber is = tt
word-fits TooLarge is = tt

pub of-word : (text : List ℕ) → IsWordReply text → IsReplyText text
of-word text (reply, is, same) = (reply, word-fits reply is, same)

pub of-number : (text : List ℕ) → IsNumberReply text → IsReplyText text
of-number text (n, fits, same) = (Number n, fits, same)

pub of-item : (text : List ℕ) → IsItemReply text → IsReplyText text
of-item text (item, fits, same) = (Value item, fits, same)

pub one_of : (text : List ℕ) → IsReplyText text → IsWordReply text ⊎ (IsNumberReply text ⊎ IsItemReply text)
one_of text (Value item, fits, same) = inr (inr (item, fits, same))
one_of text (Number n, fits, same) = inr (inl (n, fits, same))
one_of text (Miss, fits, same) = inl (Miss, refl, same)
one_of text (Stored, fits, same) = inl (Stored, refl, same)
one_of text (NotStored, fits, same) = inl (NotStored, refl, same)
one_of text (Exists, fits, same) = inl (Exists, refl, same)
one_of text (NotFound, fits, same) = inl (NotFound, refl, same)
one_of text (Deleted, fits, same) = inl (Deleted, refl, same)
one_of text (Touched, fits, same) = inl (Touched, refl, same)
one_of text (NotNumber, fits, same) = inl (NotNumber, refl, same)
one_of text (TooLarge, fits, same) = inl (TooLarge, refl, same)

-- a test that says yes
pub holds : (P Q : Type 0) (b : Bool) → b ≡ true → (IsTrue b ↔ P) → (P → Q) → IsTrue true ↔ Q
holds P Q true is test all = (λ yes'. all (test.0 yes'), λ q. refl)
holds P Q false is test all = cc is

-- the last of three tests, where the first two say no
pub last_of : (text : List ℕ) (a b c : Bool) → a ≡ false → (IsTrue a ↔ IsWordReply text) → b ≡ false
    → (IsTrue b ↔ IsNumberReply text) → (IsTrue c ↔ IsItemReply text)
    → IsTrue c ↔ IsReplyText text
last_of text a b c no_word word no_number number item = (
  λ told. of-item text (item.0 told),
  λ told. elim (one_of text told) [
    | inl w ↦ absurd (cc (no_word, word.1 w))
    | inr other ↦ elim other [ inl n ↦ absurd (cc (no_number, number.1 n)) | inr i ↦ item.1 i ]
  ],
)

-- an item is told by its front and its value
pub item-of : (text word : List ℕ) (b : Bool)
    → ((flags : ℕ) × (cas : ℕ) × FitsFront flags cas × (item_words flags cas word ≡ text))
    → (IsTrue b ↔ IsValueText word) → IsTrue b ↔ IsItemReply text
item-of text word b (flags, cas, fits, same) value = (
  λ told. let v = value.0 told in (
    record { flags = flags; cas = cas; value = v.0 },
    (fits.0, fits.1, v.1),
    ap (λ (t : List ℕ). item_words flags cas t) v.2 ∙ same,
  ),
  λ (item, within, is).
      let words = item_same item.flags item.cas (value_text item.value) flags cas word (within.0, within.1) fits (is ∙ sym same) in
      value.1 (item.value, within.2, words.2),
)
