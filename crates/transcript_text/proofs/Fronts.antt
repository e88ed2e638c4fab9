-- A line of several numbers is read in one way, number by number.
use Rattle.std.specs.Borrow.{Bor}
use Rattle.std.proofs.Common.{◌≡◌, ◌≢◌, ◌<◌, ◌^◌, ℕ, List, [], ◌∷◌, ◌++◌, ◌∙◌, append_assoc, codes, Option, Some, None, refl, sym, ap, subst, arith}
use Rattle.std.proofs.lemmas.List.{append-nil}
use Rattle.std.proofs.lemmas.Fmt.{decimal_injective}
use Rattle.std.specs.Fmt.{decimal}
use Rattle.group_types.specs.Dimensions.{callers}
use Rattle.group_types.specs.declared.run.Run.{Run}
use Rattle.scenario_text.specs.Texts.{name_text, place_text}
use Rattle.transcript_text.specs.Parts.{FitsFront, IsItemFront, item_words}
use Rattle.transcript_text.specs.Reading.{ReadsAs, ReadsFront}
use Rattle.transcript_text.specs.Texts.{FitsName, FitsNumber, FitsPlace, text_of_name, text_of_place}
use Rattle.transcript_text.specs.declared.name.Name.{Name}
use Rattle.transcript_text.specs.declared.place.Place.{Place}
use Rattle.transcript_text.proofs.Cuts.{cut_same}
use Rattle.transcript_text.proofs.Numbers.{Lacks-decimal}

-- nothing of a line is read where its first number isn't
pub first-none : (Fits : ℕ → Type 0) (byte : ℕ) (line : List ℕ) → ReadsFront Fits (λ n. decimal n ++ byte ∷ []) line None
    → (n : ℕ) (more : List ℕ) → Fits n → decimal n ++ byte ∷ more ≢ line
first-none Fits byte line none n more fits same = none n more fits (append_assoc (decimal n) (byte ∷ []) more ∙ same)

-- the first number of a line, and what is behind it
pub first-same : (byte n m : ℕ) (rest more line : List ℕ) → byte < 48 → n < 2 ^ 64 → m < 2 ^ 64
    → (decimal n ++ byte ∷ []) ++ rest ≡ line → decimal m ++ byte ∷ more ≡ line → (m ≡ n) × (more ≡ rest)
first-same byte n m rest more line low fn fm is same =
    let both = cut_same byte (decimal m) (decimal n) more rest (Lacks-decimal byte m low fm) (Lacks-decimal byte n low fn)
    (same ∙ sym is ∙ append_assoc (decimal n) (byte ∷ []) rest) in
    (decimal_injective m n fm fn both.0, both.1)

-- ---- names

-- three lists behind a list
pub assoc : (a b c d : List ℕ) → a ++ b ++ c ++ d ≡ a ++ (b ++ (c ++ d))
assoc a b c d = append_assoc (a ++ b) c d ∙ append_assoc a b (c ++ d)

pub name-line : (name : Name) (rest : List ℕ) → text_of_name name ++ rest ≡ codes "= " ++ (decimal name.caller ++ 46 ∷ (decimal name.call ++ 32 ∷ rest))
name-line name rest =
    ap (λ (t : List ℕ). 61 ∷ 32 ∷ (t ++ 32 ∷ [] ++ rest)) (append-nil (decimal name.caller ++ 46 ∷ decimal name.call))
    ∙ ap (λ (t : List ℕ). 61 ∷ 32 ∷ t) (assoc (decimal name.caller) (46 ∷ decimal name.call) (32 ∷ []) rest)

-- behind the sign of a line of the log
name-numbers : (line numbers : List ℕ) (name : Name) (rest : List ℕ) → line ≡ codes "= " ++ numbers → text_of_name name ++ rest ≡ line
    → decimal name.caller ++ 46 ∷ (decimal name.call ++ 32 ∷ rest) ≡ numbers
name-numbers line numbers name rest is same = let all = sym (name-line name rest) ∙ same ∙ is in cc all

pub no_caller : (line numbers : List ℕ) → line ≡ codes "= " ++ numbers → ReadsFront (λ n. n < callers) (λ n. decimal n ++ 46 ∷ []) numbers None
    → ReadsFront FitsName text_of_name line None
no_caller line numbers is none name rest fits same =
    first-none (λ n. n < callers) 46 numbers none name.caller (decimal name.call ++ 32 ∷ rest) fits.0 (name-numbers line numbers name rest is same)

pub no_call : (line numbers : List ℕ) (caller : ℕ) (behind : List ℕ) → line ≡ codes "= " ++ numbers → caller < callers
    → (decimal caller ++ 46 ∷ []) ++ behind ≡ numbers → ReadsFront FitsNumber (λ n. decimal n ++ 32 ∷ []) behind None
    → ReadsFront FitsName text_of_name line None
no_call line numbers caller behind is below first none name rest fits same =
    let f = fits.0 in
    let after = first-same 46 caller name.caller behind (decimal name.call ++ 32 ∷ rest) numbers (omega arith)
    (omega (arith, below)) (omega (arith, f)) first (name-numbers line numbers name rest is same) in
    first-none FitsNumber 32 behind none name.call rest fits.1 after.1

-- ---- places

abbrev Small : ℕ → Type 0
Small n = n < 2 ^ 32

abbrev Space : ℕ → List ℕ
Space n = decimal n ++ 32 ∷ []

place-numbers : (line numbers : List ℕ) (place : Place) → line ≡ codes "place " ++ numbers → text_of_place place ≡ line
    → decimal place.partition ++ 32 ∷ (decimal place.number ++ 32 ∷ (decimal place.run.at ++ 32 ∷ decimal place.run.len)) ≡ numbers
place-numbers line numbers place is same =
    let text = assoc (decimal place.partition) (32 ∷ decimal place.number) (32 ∷ decimal place.run.at) (32 ∷ decimal place.run.len) in
    let all : codes "place "
    ++ (decimal place.partition
    ++ 32 ∷ (decimal place.number ++ 32 ∷ (decimal place.run.at ++ 32 ∷ decimal place.run.len))) ≡ codes "place "
    ++ numbers = rw text at (same ∙ is) in
    cc all

pub no_partition : (line numbers : List ℕ) → line ≡ codes "place " ++ numbers → ReadsFront Small Space numbers None → ReadsAs FitsPlace text_of_place line None
no_partition line numbers is none place fits same = first-none Small 32 numbers none place.partition _ fits.0 (place-numbers line numbers place is same)

pub no_number : (line numbers : List ℕ) (d : ℕ) (behind : List ℕ) → line ≡ codes "place " ++ numbers → d < 2 ^ 32 → Space d ++ behind ≡ numbers
    → ReadsFront FitsNumber Space behind None → ReadsAs FitsPlace text_of_place line None
no_number line numbers d behind is below first none place fits same =
    let f = fits.0 in
    let after = first-same 32 d place.partition behind
    (decimal place.number ++ 32 ∷ (decimal place.run.at ++ 32 ∷ decimal place.run.len)) numbers (omega arith)
    (omega (arith, below)) (omega (arith, f)) first (place-numbers line numbers place is same) in
    first-none FitsNumber 32 behind none place.number _ fits.1 after.1

-- what is behind the first two numbers
pub place-run : (line numbers : List ℕ) (d : ℕ) (behind : List ℕ) (n : ℕ) (more : List ℕ) → line ≡ codes "place "
    ++ numbers → d < 2 ^ 32 → Space d ++ behind ≡ numbers
    → n < 2 ^ 64 → Space n ++ more ≡ behind → (place : Place) → FitsPlace place → text_of_place place ≡ line
    → decimal place.run.at ++ 32 ∷ decimal place.run.len ≡ more
place-run line numbers d behind n more is below first fits-n second place fits same =
    let f = fits.0 in
    let after = first-same 32 d place.partition behind
    (decimal place.number ++ 32 ∷ (decimal place.run.at ++ 32 ∷ decimal place.run.len)) numbers (omega arith)
    (omega (arith, below)) (omega (arith, f)) first (place-numbers line numbers place is same) in
    (first-same 32 n place.number more (decimal place.run.at ++ 32 ∷ decimal place.run.len) behind (omega arith) fits-n fits.1 second after.1).1

pub no_at : (line numbers : List ℕ) (d : ℕ) (behind : List ℕ) (n : ℕ) (more : List ℕ) → line ≡ codes "place " ++ numbers
    → d < 2 ^ 32 → Space d ++ behind ≡ numbers
    → n < 2 ^ 64 → Space n ++ more ≡ behind → ReadsFront Small Space more None → ReadsAs FitsPlace text_of_place line None
no_at line numbers d behind n more is below first fits-n second none place fits same =
    first-none Small 32 more none place.run.at _ fits.2 (place-run line numbers d behind n more is below first fits-n second place fits same)

pub no_len : (line numbers : List ℕ) (d : ℕ) (behind : List ℕ) (n : ℕ) (more : List ℕ) (at : ℕ) (word : List ℕ)
    → line ≡ codes "place " ++ numbers → d < 2 ^ 32 → Space d ++ behind ≡ numbers
    → n < 2 ^ 64 → Space n ++ more ≡ behind → at < 2 ^ 32 → Space at ++ word ≡ more → ReadsAs Small decimal word None
    → ReadsAs FitsPlace text_of_place line None
no_len line numbers d behind n more at word is below first fits-n second small third none place fits same =
    let run = place-run line numbers d behind n more is below first fits-n second place fits same in
    let f = fits.2 in
    none place.run.len fits.3 (first-same 32 at place.run.at word (decimal place.run.len) more (omega arith)
    (omega (arith, small)) (omega (arith, f)) third run).1

-- ---- items

item-numbers : (text numbers : List ℕ) (flags cas : ℕ) (word : List ℕ) → text ≡ codes "value " ++ numbers → item_words flags cas word ≡ text
    → decimal flags ++ 32 ∷ (decimal cas ++ 32 ∷ word) ≡ numbers
item-numbers text numbers flags cas word is same =
    let all : codes "value " ++ (decimal flags ++ 32 ∷ (decimal cas ++ 32 ∷ word)) ≡ codes "value " ++ numbers =
    rw (assoc (decimal flags) (32 ∷ decimal cas) (32 ∷ []) word) at (same ∙ is) in
    cc all

pub no_flags : (text numbers : List ℕ) → text ≡ codes "value " ++ numbers → ReadsFront Small Space numbers None → IsItemFront text None
no_flags text numbers is none flags cas word fits same =
    first-none Small 32 numbers none flags (decimal cas ++ 32 ∷ word) fits.0
    (item-numbers text numbers flags cas word is same)

pub no_cas : (text numbers : List ℕ) (flags : ℕ) (behind : List ℕ) → text ≡ codes "value " ++ numbers → flags < 2 ^ 32 → Space flags ++ behind ≡ numbers
    → ReadsFront FitsNumber Space behind None → IsItemFront text None
no_cas text numbers flags behind is below first none other cas word fits same =
    let f = fits.0 in
    let after = first-same 32 flags other behind (decimal cas ++ 32 ∷ word) numbers (omega arith) (omega (arith, below))
    (omega (arith, f)) first (item-numbers text numbers other cas word is same) in
    first-none FitsNumber 32 behind none cas word fits.1 after.1

-- the text of an item tells its flags, its cas number and the word of its value
pub item_same : (f c : ℕ) (v : List ℕ) (g d : ℕ) (w : List ℕ) → FitsFront f c → FitsFront g d → item_words f c v ≡ item_words g d w
    → (f ≡ g) × (c ≡ d) × (v ≡ w)
item_same f c v g d w (small, fits) (little, other) same =
    let is : item_words g d w ≡ codes "value " ++ (decimal g ++ 32 ∷ (decimal d ++ 32 ∷ w)) =
    ap (λ (t : List ℕ). codes "value " ++ t) (assoc (decimal g) (32 ∷ decimal d) (32 ∷ []) w) in
    let numbers = item-numbers (item_words g d w) (decimal g ++ 32 ∷ (decimal d ++ 32 ∷ w)) f c v is same in
    let first = first-same 32 g f (decimal d ++ 32 ∷ w) (decimal c ++ 32 ∷ v) (decimal g ++ 32 ∷ (decimal d ++ 32 ∷ w))
    (omega arith) (omega (arith, little)) (omega (arith, small))
    (append_assoc (decimal g) (32 ∷ []) (decimal d ++ 32 ∷ w)) numbers in
    let second = first-same 32 d c w v (decimal d ++ 32 ∷ w) (omega arith) other fits (append_assoc (decimal d) (32 ∷ []) w) first.1 in
    (first.0, second.0, second.1)

-- the text of a place tells its partition, its number and its run
pub place_same : (d n : ℕ) (r : Run) (e m : ℕ) (q : Run) → FitsPlace (record { partition = d; number = n; run = r })
    → FitsPlace (record { partition = e; number = m; run = q })
    → place_text d n r ≡ place_text e m q → (d ≡ e) × (n ≡ m) × (r ≡ q)
place_same d n r e m q (fd, fn, fa, fl) (fe, fm, fb, fk) same =
    let behind : List ℕ = decimal m ++ 32 ∷ (decimal q.at ++ 32 ∷ decimal q.len) in
    let right : place_text e m q ≡ codes "place " ++ (decimal e ++ 32 ∷ behind) =
    ap (λ (t : List ℕ). codes "place " ++ t)
    (assoc (decimal e) (32 ∷ decimal m) (32 ∷ decimal q.at) (32 ∷ decimal q.len)) in
    let numbers = place-numbers (place_text e m q) (decimal e ++ 32 ∷ behind) (record { partition = d; number = n; run = r }) right same in
    let first = first-same 32 e d behind (decimal n ++ 32 ∷ (decimal r.at ++ 32 ∷ decimal r.len))
    (decimal e ++ 32 ∷ behind) (omega arith) (omega (arith, fe)) (omega (arith, fd))
    (append_assoc (decimal e) (32 ∷ []) behind) numbers in
    let second = first-same 32 m n (decimal q.at ++ 32 ∷ decimal q.len) (decimal r.at ++ 32 ∷ decimal r.len) behind
    (omega arith) fm fn (append_assoc (decimal m) (32 ∷ []) (decimal q.at ++ 32 ∷ decimal q.len)) first.1 in
    let third = first-same 32 q.at r.at (decimal q.len) (decimal r.len) (decimal q.at ++ 32 ∷ decimal q.len)
    (omega arith) (omega (arith, fb)) (omega (arith, fa)) (append_assoc (decimal q.at) (32 ∷ []) (decimal q.len))
    second.1 in
    let at : r.at ≡ q.at = third.0 in
    let len : r.len ≡ q.len = decimal_injective r.len q.len (omega (arith, fl)) (omega (arith, fk)) third.1 in
    let run : record { at = r.at; len = r.len } ≡ record { at = q.at; len = q.len } = cc (at, len) in
    (first.0, second.0, run)
