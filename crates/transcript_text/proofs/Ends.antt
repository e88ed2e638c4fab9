-- A line that ends with a reply's text tells that reply alone.
use Rattle.std.proofs.Common.{◌≡◌, ◌≢◌, ◌⊎◌, inl, inr, ◌<◌, ◌≤◌, ◌^◌, ◌==◌, ◌&&◌, ℕ, zero, suc, Bool, true, false, not}
use Rattle.std.proofs.Common.{List, [], ◌∷◌, ◌++◌, ◌∙◌, All, append_assoc, length, slice_index, codes, if◌then◌else◌}
use Rattle.std.proofs.Common.{refl, sym, ap, subst, arith}
use Rattle.std.proofs.lemmas.Bool.{and_parts}
use Rattle.std.proofs.lemmas.Bool.Decides.{nat_tests}
use Rattle.std.proofs.lemmas.Fmt.{decimal_injective, digits_decimal, decimal_nonempty}
use Rattle.std.proofs.lemmas.List.Elements.{All-cons, All-nil}
use Rattle.std.specs.Char.{is_ascii_digit}
use Rattle.std.specs.Fmt.{decimal}
use Rattle.std.specs.Str.{all_ascii_digits, bytes_eq}
use Rattle.memc_table.specs.declared.reply.Item.{Item}
use Rattle.memc_table.specs.declared.reply.Reply.{Reply}
use Rattle.memc_table.specs.declared.reply.Reply.TheVariants.{Value, Miss, Stored, NotStored, Exists, NotFound, Deleted, Touched, Number, NotNumber, TooLarge}
use Rattle.scenario_text.specs.Texts.{reply_words, value_text}
use Rattle.transcript_text.specs.Forms.{AreBytes, FitsReply, is_word}
use Rattle.transcript_text.specs.Parts.{IsLowerDigit}
use Rattle.transcript_text.specs.Reading.{Lacks}
use Rattle.transcript_text.specs.Texts.{IsValueText}
use Rattle.transcript_text.proofs.Cuts.{Lacks-tail, there}
use Rattle.transcript_text.proofs.Numbers.{Lacks-decimal, own}
use Rattle.transcript_text.proofs.Values.{AreDigits, lacks, plain-value, value-form, value_same}

-- the last word of a line, and what is before it
pub end_same : (b : ℕ) (p q xs ys : List ℕ) → Lacks b xs → Lacks b ys → p ++ b ∷ xs ≡ q ++ b ∷ ys → (p ≡ q) × (xs ≡ ys)
end_same b [] [] xs ys lx ly e = (refl, cc e)
end_same b [] (y ∷ q) xs ys lx ly e = let tail : xs ≡ q ++ b ∷ ys = cc e in absurd (there b q ys (subst (Lacks b) tail lx))
end_same b (x ∷ p) [] xs ys lx ly e = let tail : p ++ b ∷ xs ≡ ys = cc e in absurd (there b p xs (subst (Lacks b) (sym tail) ly))
end_same b (x ∷ p) (y ∷ q) xs ys lx ly e =
    let head : x ≡ y = cc e in
    let tail : p ++ b ∷ xs ≡ q ++ b ∷ ys = cc e in
    let rest = end_same b p q xs ys lx ly tail in
    let r = rest.0 in
    (cc (head, r), rest.1)

-- ---- replies that are words

abbrev read_word : List ℕ → Reply
read_word text = if bytes_eq text (codes "miss") then Miss
    else (if bytes_eq text (codes "stored") then Stored
    else (if bytes_eq text (codes "not_stored") then NotStored
    else (if bytes_eq text (codes "exists") then Exists
    else (if bytes_eq text (codes "not_found") then NotFound
    else (if bytes_eq text (codes "deleted") then Deleted
    else (if bytes_eq text (codes "touched") then Touched
    else (if bytes_eq text (codes "not_number") then NotNumber
    else TooLarge)))))))

abbrev lacks_space : List ℕ → Bool
lacks_space [] = true
lacks_space (b ∷ bs) = not (b == 32) && lacks_space bs

lacks-space : (text : List ℕ) → lacks_space text ≡ true → Lacks 32 text
lacks-space [] is = All-nil (λ b. b ≢ 32)
lacks-space (b ∷ bs) is =
    let parts = and_parts (not (b == 32)) (lacks_space bs) is in
    let other = parts.0 in
    All-cons (λ b. b ≢ 32) b bs (λ same. grind (arith, nat_tests, other, same)) (lacks-space bs parts.1)

-- a word is read back, has no space, and begins with a letter; its third one is no digit
record IsWordText (reply : Reply) : Type 0 where
  back : read_word (reply_words reply) ≡ reply
  lacks : lacks_space (reply_words reply) ≡ true
  letter : 97 ≤ slice_index (reply_words reply) 0
  third : 102 < slice_index (reply_words reply) 2
  long : 3 < length (reply_words reply)

word-text : (reply : Reply) → is_word reply ≡ true → IsWordText reply
word-text (Value item) is = cc is
word-text (Number n) is = cc is
word-text Miss is = record { back = refl; lacks = refl; letter = omega arith; third = omega arith; long = omega arith }
word-text Stored is = record { back = refl; lacks = refl; letter = omega arith; third = omega arith; long = omega arith }
word-text NotStored is = record { back = refl; lacks = refl; letter = omega arith; third = omega arith; long = omega arith }
word-text Exists is = record { back = refl; lacks = refl; letter = omega arith; third = omega arith; long = omega arith }
word-text NotFound is = record { back = refl; lacks = refl; letter = omega arith; third = omega arith; long = omega arith }
word-text Deleted is = record { back = refl; lacks = refl; letter = omega arith; third = omega arith; long = omega arith }
word-text Touched is = record { back = refl; lacks = refl; letter = omega arith; third = omega arith; long = omega arith }
word-text NotNumber is = record { back = refl; lacks = refl; letter = omega arith; third = omega arith; long = omega arith }
word-text TooLarge is = record { back = refl; lacks = refl; letter = omega arith; third = omega arith; long = omega arith }

-- a printed number begins with a digit
digit-first : (ds : List ℕ) → 0 < length ds → all_ascii_digits ds ≡ true → slice_index ds 0 ≤ 57
digit-first [] some digits = absurd (omega (arith, some))
digit-first (d ∷ ds) some digits =
    let parts = and_parts (is_ascii_digit d) (all_ascii_digits ds) digits in
    let digit = parts.0 in
    grind (arith, nat_tests, digit)

pub first-decimal : (n : ℕ) → n < 2 ^ 64 → slice_index (decimal n) 0 ≤ 57
first-decimal n fits = digit-first (decimal n) (decimal_nonempty n fits) (digits_decimal own n fits)

word-no_number : (reply : Reply) (n : ℕ) → IsWordText reply → n < 2 ^ 64 → reply_words reply ≢ decimal n
word-no_number reply n is fits same =
    let letter = is.letter in
    omega (arith, rw same at letter, first-decimal n fits)

-- the third byte of a value's text, where there is one, is a digit
third-digit : (word : List ℕ) → IsValueText word → 3 < length word → slice_index word 2 ≤ 102
third-digit word value long = elim (value-form word value) [
  | inl dash ↦ absurd (omega (arith, rw dash at long))
  | inr are ↦ elim (are.digits 2 0 (omega (arith, long))) [ inl digit ↦ let high = digit.1 in omega (arith, high) | inr letter ↦ letter.1 ]
]

word-no_value : (reply : Reply) (bytes : List ℕ) → IsWordText reply → AreBytes bytes → reply_words reply ≢ value_text bytes
word-no_value reply bytes is fits same =
    let third = is.third in
    let digit = third-digit (reply_words reply) (bytes, fits, sym same) is.long in
    omega (arith, third, digit)

-- ---- what a line tells at its end

same_item : (a b : Item) → a.flags ≡ b.flags → a.cas ≡ b.cas → a.value ≡ b.value → a ≡ b
same_item a b flags cas value =
    let fields : record { flags = a.flags; cas = a.cas; value = a.value } ≡ record { flags = b.flags; cas = b.cas; value = b.value } = cc (flags, cas, value) in
    fields

abbrev View : Reply → Type 0
View reply = (is_word reply ≡ true) ⊎ (((n : ℕ) × (reply ≡ Number n)) ⊎ ((item : Item) × (reply ≡ Value item)))

view : (reply : Reply) → View reply
view (Value item) = inr (inr (item, refl))
view (Number n) = inr (inl (n, refl))
view Miss = inl refl
view Stored = inl refl
view NotStored = inl refl
view Exists = inl refl
view NotFound = inl refl
view Deleted = inl refl
view Touched = inl refl
view NotNumber = inl refl
view TooLarge = inl refl

-- a number's word is the last
number-end : (p : List ℕ) (n : ℕ) → p ++ 32 ∷ reply_words (Number n) ≡ (p ++ 32 ∷ codes "number") ++ 32 ∷ decimal n
number-end p n = sym (append_assoc p (32 ∷ codes "number") (32 ∷ decimal n))

abbrev item_front : List ℕ → Item → List ℕ
item_front p item = p ++ 32 ∷ (codes "value" ++ 32 ∷ decimal item.flags)

-- so is the word of an item's value, behind its cas number
item-end : (p : List ℕ) (item : Item) → p ++ 32 ∷ reply_words (Value item) ≡ (item_front p item ++ 32 ∷ decimal item.cas) ++ 32 ∷ value_text item.value
item-end p item =
    ap (λ (t : List ℕ). p ++ 32 ∷ t) (append_assoc (codes "value" ++ 32 ∷ decimal item.flags ++ 32 ∷ decimal item.cas) (32 ∷ []) (value_text item.value))
    ∙ sym (append_assoc p (32 ∷ (codes "value" ++ 32 ∷ decimal item.flags ++ 32 ∷ decimal item.cas)) (32 ∷ value_text item.value))
    ∙ ap (λ (t : List ℕ). t ++ 32 ∷ value_text item.value) (sym (append_assoc p (32 ∷ (codes "value" ++ 32 ∷ decimal item.flags)) (32 ∷ decimal item.cas)))

Lacks-value : (bytes : List ℕ) → AreBytes bytes → Lacks 32 (value_text bytes)
Lacks-value bytes fits = lacks 32 (value_text bytes) (omega arith) (plain-value bytes fits)

-- one reply at the end of a line
abbrev Once : Reply → Reply → Type 0
Once a b = (p q : List ℕ) → FitsReply a → FitsReply b → p ++ 32 ∷ reply_words a ≡ q ++ 32 ∷ reply_words b → a ≡ b

word-word : (a b : Reply) → IsWordText a → IsWordText b → Once a b
word-word a b wa wb p q fa fb same =
    let texts = (end_same 32 p q (reply_words a) (reply_words b) (lacks-space (reply_words a) wa.lacks) (lacks-space (reply_words b) wb.lacks) same).1 in
    sym wa.back ∙ ap read_word texts ∙ wb.back

word-number : (a : Reply) (n : ℕ) → IsWordText a → Once a (Number n)
word-number a n wa p q fa fb same =
    absurd (word-no_number a n wa fb (end_same 32 p (q ++ 32 ∷ codes "number") (reply_words a) (decimal n)
    (lacks-space (reply_words a) wa.lacks) (Lacks-decimal 32 n (omega arith) fb) (same ∙ number-end q n)).1)

word-item : (a : Reply) (item : Item) → IsWordText a → Once a (Value item)
word-item a item wa p q fa fb same =
    absurd (word-no_value a item.value wa fb.2
    (end_same 32 p (item_front q item ++ 32 ∷ decimal item.cas) (reply_words a) (value_text item.value)
    (lacks-space (reply_words a) wa.lacks) (Lacks-value item.value fb.2) (same ∙ item-end q item)).1)

number-number : (m n : ℕ) → Once (Number m) (Number n)
number-number m n p q fa fb same =
    ap Number (decimal_injective m n fa fb (end_same 32 (p ++ 32 ∷ codes "number") (q ++ 32 ∷ codes "number")
    (decimal m) (decimal n) (Lacks-decimal 32 m (omega arith) fa) (Lacks-decimal 32 n (omega arith) fb)
    (sym (number-end p m) ∙ same ∙ number-end q n)).1)

number-item : (n : ℕ) (item : Item) → Once (Number n) (Value item)
number-item n item p q fa fb same =
    let fronts = (end_same 32 (p ++ 32 ∷ codes "number") (item_front q item ++ 32 ∷ decimal item.cas) (decimal n)
    (value_text item.value) (Lacks-decimal 32 n (omega arith) fa) (Lacks-value item.value fb.2)
    (sym (number-end p n) ∙ same ∙ item-end q item)).0 in
    let words : codes "number" ≡ decimal item.cas =
    (end_same 32 p (item_front q item) (codes "number") (decimal item.cas) (lacks-space (codes "number") refl)
    (Lacks-decimal 32 item.cas (omega arith) fb.1) fronts).1 in
    let first = first-decimal item.cas fb.1 in
    absurd (omega (arith, rw (sym words) at first))

item-item : (a b : Item) → Once (Value a) (Value b)
item-item a b p q fa fb same =
    let values = end_same 32 (item_front p a ++ 32 ∷ decimal a.cas) (item_front q b ++ 32 ∷ decimal b.cas)
    (value_text a.value) (value_text b.value) (Lacks-value a.value fa.2) (Lacks-value b.value fb.2)
    (sym (item-end p a) ∙ same ∙ item-end q b) in
    let numbers = end_same 32 (item_front p a) (item_front q b) (decimal a.cas) (decimal b.cas)
    (Lacks-decimal 32 a.cas (omega arith) fa.1) (Lacks-decimal 32 b.cas (omega arith) fb.1) values.0 in
    let f = fa.0 in
    let g = fb.0 in
    let flags = end_same 32 (p ++ 32 ∷ codes "value") (q ++ 32 ∷ codes "value") (decimal a.flags) (decimal b.flags)
    (Lacks-decimal 32 a.flags (omega arith) (omega (arith, f)))
    (Lacks-decimal 32 b.flags (omega arith) (omega (arith, g)))
    (append_assoc p (32 ∷ codes "value") (32 ∷ decimal a.flags) ∙ numbers.0 ∙ sym (append_assoc q (32 ∷ codes "value") (32 ∷ decimal b.flags))) in
    let value = value_same a.value b.value fa.2 fb.2 values.1 in
    let cas = decimal_injective a.cas b.cas fa.1 fb.1 numbers.1 in
    let flag = decimal_injective a.flags b.flags (omega (arith, f)) (omega (arith, g)) flags.1 in
    ap Value (same_item a b flag cas value)

flip : (a b : Reply) → Once b a → Once a b
flip a b once p q fa fb same = sym (once q p fb fa (sym same))

pub tells_once : (a b : Reply) → Once a b
tells_once a b = elim (view a) [
  | inl wa ↦ elim (view b) [
    | inl wb ↦ word-word a b (word-text a wa) (word-text b wb)
    | inr other ↦ elim other [
      | inl n ↦ subst (Once a) (sym n.1) (word-number a n.0 (word-text a wa))
      | inr item ↦ subst (Once a) (sym item.1) (word-item a item.0 (word-text a wa))
    ]
  ]
  | inr other ↦ elim other [
    | inl m ↦ subst (λ (x : Reply). Once x b) (sym m.1) (elim (view b) [
      | inl wb ↦ flip (Number m.0) b (word-number b m.0 (word-text b wb))
      | inr more ↦ elim more [
        | inl n ↦ subst (Once (Number m.0)) (sym n.1) (number-number m.0 n.0)
        | inr item ↦ subst (Once (Number m.0)) (sym item.1) (number-item m.0 item.0)
      ]
    ])
    | inr i ↦ subst (λ (x : Reply). Once x b) (sym i.1) (elim (view b) [
      | inl wb ↦ flip (Value i.0) b (word-item b i.0 (word-text b wb))
      | inr more ↦ elim more [
        | inl n ↦ subst (Once (Value i.0)) (sym n.1) (flip (Value i.0) (Number n.0) (number-item n.0 i.0))
        | inr item ↦ subst (Once (Value i.0)) (sym item.1) (item-item i.0 item.0)
      ]
    ])
  ]
]

-- a reply has one text
pub reply_same : (a b : Reply) → FitsReply a → FitsReply b → reply_words a ≡ reply_words b → a ≡ b
reply_same a b fa fb same = tells_once a b [] [] fa fb (ap (λ (t : List ℕ). 32 ∷ t) same)
