-- The numbers of a stamp are read one by one.
use Rattle.std.proofs.Common.{◌≡◌, ◌≢◌, ◌<◌, ◌≤◌, ◌+◌, ◌-◌, ◌^◌, ℕ, zero, suc, Bool, true, false, List, [], ◌∷◌, ◌++◌}
use Rattle.std.proofs.Common.{◌∙◌, All, append_assoc, codes, take, drop, length, slice_index, Option, Some, None, refl}
use Rattle.std.proofs.Common.{sym, ap, subst, arith}
use Rattle.std.proofs.lemmas.List.Elements.{All-append, All-cons, All-head, All-nil, All-push, All-tail, All-take}
use Rattle.std.proofs.lemmas.List.{append-nil, append_cancel_left, length-set, length-take-le, take_all, take_more, take_more_set}
use Rattle.std.proofs.Math.ListN.{set}
use Rattle.std.specs.Fmt.{decimal}
use Rattle.scenario_text.specs.Texts.{behind_commas, stamp_text}
use Rattle.transcript_text.specs.Parts.{IsStamp}
use Rattle.transcript_text.specs.Reading.{Lacks, ReadsAs, ReadsFront}
use Rattle.transcript_text.specs.Texts.{FitsNumber, ShowsNone}
use Rattle.transcript_text.proofs.Cuts.{cut_same}
use Rattle.transcript_text.proofs.Numbers.{Lacks-decimal}
use Rattle.transcript_text.proofs.Fronts.{first-none, first-same}

-- numbers, each before a comma
abbrev pub before_commas : List ℕ → List ℕ
before_commas [] = []
before_commas (n ∷ ns) = decimal n ++ 44 ∷ before_commas ns

-- the first numbers of a stamp were read
pub record Begun (text stamp rest : List ℕ) (place many : ℕ) : Type 0 where
  pub read : before_commas (take place stamp) ++ rest ≡ text
  pub fits : All FitsNumber (take place stamp)
  pub long : length stamp ≡ many

before_commas-push : (ns : List ℕ) (n : ℕ) → before_commas (ns ++ n ∷ []) ≡ before_commas ns ++ (decimal n ++ 44 ∷ [])
before_commas-push [] n = refl
before_commas-push (m ∷ ns) n =
    ap (λ (t : List ℕ). decimal m ++ 44 ∷ t) (before_commas-push ns n) ∙ sym (append_assoc (decimal m) (44 ∷ before_commas ns) (decimal n ++ 44 ∷ []))

pub begun : (text stamp : List ℕ) → Begun text stamp text 0 (length stamp)
begun text stamp = record { read = refl; fits = All-nil FitsNumber; long = refl }

pub one_more : (text stamp rest more : List ℕ) (place many n : ℕ) → place < many → Begun text stamp rest place many → FitsNumber n
    → (decimal n ++ 44 ∷ []) ++ more ≡ rest → Begun text (set stamp place n) more (place + 1) many
one_more text stamp rest more place many n below before fits is =
    let long = before.long in
    let taken = take_more_set stamp place n (omega (arith, below, long)) in
    record {
      read = rw taken (ap (λ (t : List ℕ). t ++ more) (before_commas-push (take place stamp) n)
          ∙ append_assoc (before_commas (take place stamp)) (decimal n ++ 44 ∷ []) more
          ∙ ap (λ (t : List ℕ). before_commas (take place stamp) ++ t) is ∙ before.read);
      fits = rw taken (All-push FitsNumber (take place stamp) n before.fits fits);
      long = length-set stamp place n ∙ long;
    }

behind-push : (ns : List ℕ) (n : ℕ) → behind_commas (ns ++ n ∷ []) ≡ 44 ∷ (before_commas ns ++ decimal n)
behind-push [] n = ap (λ (t : List ℕ). 44 ∷ t) (append-nil (decimal n))
behind-push (m ∷ ns) n = ap (λ (t : List ℕ). 44 ∷ (decimal m ++ t)) (behind-push ns n)
    ∙ ap (λ (t : List ℕ). 44 ∷ t) (sym (append_assoc (decimal m) (44 ∷ before_commas ns) (decimal n)))

-- a stamp is its first numbers, each before a comma, and then its last
stamp-push : (ns : List ℕ) (n : ℕ) → stamp_text (ns ++ n ∷ []) ≡ before_commas ns ++ decimal n
stamp-push [] n = append-nil (decimal n)
stamp-push (m ∷ ns) n = ap (λ (t : List ℕ). decimal m ++ t) (behind-push ns n) ∙ sym (append_assoc (decimal m) (44 ∷ before_commas ns) (decimal n))

pub whole : (text stamp rest : List ℕ) (place last n : ℕ) → place ≡ last → Begun text stamp rest place (last + 1)
    → decimal n ≡ rest → stamp_text (set stamp last n) ≡ text
whole text stamp rest place last n here begun is =
    let before = rw here at begun in
    let long = before.long in
    let below : last < length stamp = omega (arith, long) in
    let taken = take_more_set stamp last n below in
    let all : take (last + 1) (set stamp last n) ≡ set stamp last n = take_all (last + 1) (set stamp last n) (omega (arith, long, length-set stamp last n)) in
    ap stamp_text (sym all ∙ taken) ∙ stamp-push (take last stamp) n ∙ ap (λ (t : List ℕ). before_commas (take last stamp) ++ t) is ∙ before.read

-- the same numbers, and what is behind them
commas_same : (xs ys r s : List ℕ) → length xs ≡ length ys → All FitsNumber xs → All FitsNumber ys → before_commas xs ++ r ≡ before_commas ys ++ s → r ≡ s
commas_same [] [] r s long fx fy same = same
commas_same [] (y ∷ ys) r s long fx fy same = absurd (omega (arith, long))
commas_same (x ∷ xs) [] r s long fx fy same = absurd (omega (arith, long))
commas_same (x ∷ xs) (y ∷ ys) r s long fx fy same =
    let step = first-same 44 y x (before_commas ys ++ s) (before_commas xs ++ r) (before_commas (y ∷ ys) ++ s)
    (omega arith) (All-head FitsNumber y ys fy) (All-head FitsNumber x xs fx)
    (append_assoc (decimal y) (44 ∷ []) (before_commas ys ++ s) ∙ sym (append_assoc (decimal y) (44 ∷ before_commas ys) s))
    (sym (append_assoc (decimal x) (44 ∷ before_commas xs) r) ∙ same) in
    commas_same xs ys r s (omega (arith, long)) (All-tail FitsNumber x xs fx) (All-tail FitsNumber y ys fy) step.1

-- a stamp is its first numbers, another, and at least one more
stamp-split : (p : ℕ) (ns : List ℕ) → suc p < length ns → stamp_text ns ≡ before_commas (take p ns)
    ++ (decimal (slice_index ns p) ++ 44 ∷ stamp_text (drop (suc p) ns))
stamp-split p [] below = absurd (omega (arith, below))
stamp-split p (n ∷ []) below = absurd (omega (arith, below))
stamp-split zero (n ∷ m ∷ ns) below = refl
stamp-split (suc p) (n ∷ m ∷ ns) below =
    ap (λ (t : List ℕ). decimal n ++ 44 ∷ t) (stamp-split p (m ∷ ns) (omega (arith, below)))
    ∙ sym (append_assoc (decimal n) (44 ∷ before_commas (take p (m ∷ ns))) (decimal (slice_index (m ∷ ns) p) ++ 44 ∷ stamp_text (drop (suc p) (m ∷ ns))))

stamp-last : (p : ℕ) (ns : List ℕ) → length ns ≡ p + 1 → stamp_text ns ≡ before_commas (take p ns) ++ decimal (slice_index ns p)
stamp-last p ns long =
    let all : take (p + 1) ns ≡ ns = take_all (p + 1) ns (omega (arith, long)) in
    ap stamp_text (sym all ∙ take_more ns p 0 (omega (arith, long))) ∙ stamp-push (take p ns) (slice_index ns p)

length-take_at : (p : ℕ) (ns : List ℕ) → p ≤ length ns → length (take p ns) ≡ p
length-take_at p ns below = length-take-le p ns below

-- no stamp of as many numbers has the text where one of its numbers isn't read
pub none_here : (text stamp rest : List ℕ) (place last : ℕ) → place < last → Begun text stamp rest place (last + 1)
    → ReadsFront FitsNumber (λ n. decimal n ++ 44 ∷ []) rest None → IsStamp text stamp false
none_here text stamp rest place last below before none other long fits same =
    let here = before.long in
    let split = stamp-split place other (omega (arith, below, long, here)) in
    let left = commas_same (take place other) (take place stamp) (decimal (slice_index other place) ++ 44 ∷ stamp_text (drop (suc place) other)) rest
    (length-take_at place other (omega (arith, below, long, here)) ∙ sym (length-take_at place stamp (omega (arith, below, here))))
    (All-take FitsNumber place other fits) before.fits (sym split ∙ same ∙ sym before.read) in
    first-none FitsNumber 44 rest none (slice_index other place) (stamp_text (drop (suc place) other)) (fits place 0 (omega (arith, below, long, here))) left

pub none_last : (text stamp rest : List ℕ) (place last : ℕ) → place ≡ last → Begun text stamp rest place (last + 1)
    → ReadsAs FitsNumber decimal rest None → IsStamp text stamp false
none_last text stamp rest place last end begun none other long fits same =
    let before = rw end at begun in
    let here = before.long in
    let split = stamp-last last other (omega (arith, long, here)) in
    let left = commas_same (take last other) (take last stamp) (decimal (slice_index other last)) rest
    (length-take_at last other (omega (arith, long, here)) ∙ sym (length-take_at last stamp (omega (arith, here))))
    (All-take FitsNumber last other fits) before.fits (sym split ∙ same ∙ sym before.read) in
    none (slice_index other last) (fits last 0 (omega (arith, long, here))) left

Lacks-behind : (ns : List ℕ) → All FitsNumber ns → Lacks 32 (behind_commas ns)
Lacks-behind [] fits = All-nil (λ b. b ≢ 32)
Lacks-behind (n ∷ ns) fits =
    All-append (λ b. b ≢ 32) (44 ∷ decimal n) (behind_commas ns)
    (All-cons (λ b. b ≢ 32) 44 (decimal n) (λ same. omega (arith, same))
    (Lacks-decimal 32 n (omega arith) (All-head FitsNumber n ns fits)))
    (Lacks-behind ns (All-tail FitsNumber n ns fits))

pub Lacks-stamp : (ns : List ℕ) → All FitsNumber ns → Lacks 32 (stamp_text ns)
Lacks-stamp [] fits = All-nil (λ b. b ≢ 32)
Lacks-stamp (n ∷ ns) fits =
    All-append (λ b. b ≢ 32) (decimal n) (behind_commas ns)
    (Lacks-decimal 32 n (omega arith) (All-head FitsNumber n ns fits))
    (Lacks-behind ns (All-tail FitsNumber n ns fits))

-- a line shows no stamp where the text before its value is none
pub shows_none : (line rest numbers value stamp : List ℕ) (many : ℕ) → line ≡ codes "shown " ++ rest → Lacks 32 numbers → numbers ++ 32 ∷ value ≡ rest
    → IsStamp numbers stamp false → length stamp ≡ many → ShowsNone line many
shows_none line rest numbers value stamp many is lacks cut none long other word same_long fits same =
    let all : codes "shown " ++ (stamp_text other ++ 32 ∷ word) ≡ codes "shown " ++ rest =
    ap (λ (t : List ℕ). codes "shown " ++ t) (sym (append_assoc (stamp_text other) (32 ∷ []) word)) ∙ same ∙ is in
    let tail : stamp_text other ++ 32 ∷ word ≡ rest = cc all in
    none other (same_long ∙ sym long) fits (cut_same 32 (stamp_text other) numbers word value (Lacks-stamp other fits) lacks (tail ∙ sym cut)).0
