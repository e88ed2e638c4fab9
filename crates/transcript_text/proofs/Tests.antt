-- Tests of lines that begin with a front, and tell a number or a reply behind it.
use Rattle.std.specs.Borrow.{Bor}
use Rattle.std.specs.Option.{is_some}
use Rattle.std.specs.Prelude.{IsTrue, ◌↔◌, MatchOption}
use Rattle.std.proofs.Common.{◌≡◌, ◌≢◌, ◌<◌, ◌-◌, ◌^◌, ℕ, Bool, true, false, List, [], ◌∷◌, ◌++◌, ◌∙◌, append_assoc}
use Rattle.std.proofs.Common.{codes, take, length, Option, Some, None, refl, sym, ap, subst, arith}
use Rattle.std.proofs.lemmas.List.{append_cancel_left, append_cancel_right}
use Rattle.std.specs.Fmt.{decimal}
use Rattle.group_types.specs.declared.process.Partition.{Partition}
use Rattle.group_calls.specs.declared.event.Cause.TheVariants.{Pending}
use Rattle.scenario_text.specs.Texts.{cause_text}
use Rattle.transcript_text.specs.Forms.{FitsCause}
use Rattle.transcript_text.specs.Reading.{ReadsAs, ReadsFront}
use Rattle.transcript_text.specs.Texts.{FitsNumber, TellsReply}
use Rattle.transcript_text.proofs.Fronts.{first-none, first-same}

-- a number that is told behind a front
abbrev pub TellsNumber : (ℕ → Type 0) → List ℕ → List ℕ → Type 0
TellsNumber Fits front line = (n : ℕ) × Fits n × (front ++ decimal n ≡ line)

pub tells-number : (Fits : ℕ → Type 0) (front line word : List ℕ) (o : Option ℕ) → line ≡ front ++ word
    → ReadsAs Fits decimal word o → IsTrue (is_some o) ↔ TellsNumber Fits front line
tells-number Fits front line word (Some n) is (fits, same) = (λ yes. (n, fits, ap (λ (t : List ℕ). front ++ t) same ∙ sym is), λ told. refl)
tells-number Fits front line word None is none = (
  λ yes. absurd (cc yes),
  λ told. absurd (none told.0 told.1 (append_cancel_left front (decimal told.0) word (told.2 ∙ is))),
)

pub tells-none : (Fits : ℕ → Type 0) (front line : List ℕ) → ((rest : List ℕ) → line ≢ front ++ rest) → IsTrue false ↔ TellsNumber Fits front line
tells-none Fits front line none = (λ yes. absurd (cc yes), λ told. absurd (none (decimal told.0) (sym told.2)))

-- a reply at the end, where what is before it ends with a space or doesn't
pub tells-reply : (rest reply front : List ℕ) (r : Bool) → rest ≡ front ++ reply
    → (r ≡ true → front ≡ take (length front - 1) front ++ 32 ∷ []) → ((op : List ℕ) → front ≡ op ++ 32 ∷ [] → r ≡ true) → IsTrue r ↔ TellsReply rest reply
tells-reply rest reply front true is ends all =
    let e = ends refl in (
      λ told. (
        take (length front - 1) front,
        is ∙ ap (λ (t : List ℕ). t ++ reply) e
            ∙ append_assoc (take (length front - 1) front) (32 ∷ []) reply,
      ),
      λ told. refl,
    )
tells-reply rest reply front false is ends all = (
  λ told. absurd (cc told),
  λ told. absurd (let end = append_cancel_right front (told.0 ++ 32 ∷ []) reply
      (sym is ∙ told.1 ∙ sym (append_assoc told.0 (32 ∷ []) reply)) in cc (all told.0 end)),
)

pub tells-no_reply : (rest reply : List ℕ) → ((front : List ℕ) → rest ≢ front ++ reply) → IsTrue false ↔ TellsReply rest reply
tells-no_reply rest reply none = (λ told. absurd (cc told), λ told. absurd (none (told.0 ++ 32 ∷ []) (told.1 ∙ sym (append_assoc told.0 (32 ∷ []) reply))))

-- a partition and a number that are told where an update is pending
abbrev pub TellsPending : List ℕ → Type 0
TellsPending line = (partition : Partition) × (number : ℕ) × FitsCause (Pending partition number) × (cause_text (Pending partition number) ≡ line)

pending-numbers : (line numbers : List ℕ) (partition : Partition) (number : ℕ) → line ≡ codes "retry pending "
    ++ numbers → cause_text (Pending partition number) ≡ line
    → decimal partition.0 ++ 32 ∷ decimal number ≡ numbers
pending-numbers line numbers partition number is same = let all : codes "retry pending "
    ++ (decimal partition.0 ++ 32 ∷ decimal number) ≡ codes "retry pending " ++ numbers = same ∙ is in cc all

pub tells-pending : (line numbers : List ℕ) (d : ℕ) (word : List ℕ) (o : Option ℕ) → line ≡ codes "retry pending " ++ numbers → d < 2 ^ 32
    → (decimal d ++ 32 ∷ []) ++ word ≡ numbers → ReadsAs FitsNumber decimal word o → IsTrue (is_some o) ↔ TellsPending line
tells-pending line numbers d word (Some n) is below first (fits, same) = (
  λ holds. (
    record { 0 = d },
    n,
    (below, fits),
    ap (λ (t : List ℕ). codes "retry pending " ++ t)
        (ap (λ (t : List ℕ). decimal d ++ 32 ∷ t) same ∙ sym (append_assoc (decimal d) (32 ∷ []) word) ∙ first) ∙ sym is,
  ),
  λ told. refl,
)
tells-pending line numbers d word None is below first none = (
  λ holds. absurd (cc holds),
  λ (partition, number, fits, same).
      let f = fits.0 in
      absurd (none number fits.1 (first-same 32 d partition.0 word (decimal number) numbers (omega arith)
      (omega (arith, below)) (omega (arith, f)) first (pending-numbers line numbers partition number is same)).1),
)

pub tells-no_partition : (line numbers : List ℕ) → line ≡ codes "retry pending " ++ numbers
    → ReadsFront (λ n. n < 2 ^ 32) (λ n. decimal n ++ 32 ∷ []) numbers None → IsTrue false ↔ TellsPending line
tells-no_partition line numbers is none = (
  λ holds. absurd (cc holds),
  λ (partition, number, fits, same).
      absurd (first-none (λ n. n < 2 ^ 32) 32 numbers none partition.0 (decimal number) fits.0
      (pending-numbers line numbers partition number is same)),
)

pub tells-not_pending : (line : List ℕ) → ((rest : List ℕ) → line ≢ codes "retry pending " ++ rest) → IsTrue false ↔ TellsPending line
tells-not_pending line none =
    (λ holds. absurd (cc holds), λ (partition, number, fits, same). absurd (none (decimal partition.0 ++ 32 ∷ decimal number) (sym same)))
