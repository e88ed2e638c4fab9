-- A seat after a call.
use Rattle.std.proofs.Common.{ℕ, ◌≡◌, ◌≢◌, ◌<◌, ◌≤◌, ◌+◌, Bool, true, false, eqb, [], ◌∷◌, length, refl, sym, ap, subst, ◌∙◌, arith, cond, eq-eqb, ⊎_elim}
use Rattle.std.specs.Prelude.{Result, Ok, Err}
use Rattle.std.proofs.lemmas.Bool.{cases_eq}
use Rattle.std.specs.declared.alloc.AllocError.{AllocError}
use Rattle.group_calls.specs.declared.event.Event.{Event}
use Rattle.group_stage.specs.Conditions.{IsIdle}
use Rattle.group_stage.specs.Ended.{HasEnded, HasReturned, IsSeat}
use Rattle.group_stage.specs.Kept.{most_calls}
use Rattle.group_stage.specs.Schedules.{ask_by}
use Rattle.group_stage.specs.Seated.{made_in}
use Rattle.group_stage.specs.Steps.{Sat}
use Rattle.group_stage.specs.Views.{asks_by}
use Rattle.group_stage.specs.declared.answer.StageAnswer.{StageAnswer}
use Rattle.group_stage.specs.declared.answer.StageAnswer.TheVariants.{Busy, Made, Worn}
use Rattle.group_stage.specs.declared.view.View.{View}
use Rattle.group_stage.proofs.Committing.{asks-append}

pub not-worn : (calls : ℕ) → (eqb calls most_calls) ≡ false → calls ≤ most_calls → calls < most_calls
not-worn calls is few =
    ⊎_elim (λ (e : calls ≡ most_calls). absurd (let yes : eqb calls most_calls ≡ true = eq-eqb calls most_calls e in
    cc (yes, is))) (λ (n : calls ≢ most_calls). omega (arith, n, few)) (cases_eq calls most_calls)

pub ready : (m : Sat) (caller calls asks : ℕ) → IsSeat m caller calls asks → calls < most_calls → IsIdle m
ready m caller calls asks seat low = record {
  part = seat.part;
  calls = let same = seat.counted in
      omega (arith, same, low);
  idle = seat.idle;
  slots = seat.slots;
}

pub returned : (e : Event) (v w : View) (r : Result StageAnswer AllocError) → v.calls < most_calls → HasEnded e v r w → HasReturned v w
returned e v w (Ok (Made a)) low ended = ended.0
returned e v w (Ok (Busy p)) low ended = ended.0
returned e v w (Ok Worn) low ended = absurd (let spent = ended.spent in omega (arith, spent, low))
returned e v w (Err x) low ended = ended.returned

-- so many asks more, where the event was made
abbrev pub more_asks : ℕ → Result StageAnswer AllocError → ℕ
more_asks n (Ok (Made a)) = n
more_asks n (Ok (Busy p)) = 0
more_asks n (Ok Worn) = 0
more_asks n (Err x) = 0

pub asks-after : (e : Event) (c : ℕ) (v w : View) (r : Result StageAnswer AllocError) → v.calls < most_calls
    → HasEnded e v r w → asks_by c w.made ≡ asks_by c v.made + more_asks (ask_by c e) r
asks-after e c v w (Ok (Made a)) low ended =
    let es = ended.1.0 in
    let more = asks-append c v.made (record { number = length es; event = e; answer = a } ∷ []) in
    let same = ap (asks_by c) ended.1.1.made in
    omega (arith, more, same)
asks-after e c v w (Ok (Busy p)) low ended = let same = ap (asks_by c) ended.1.made in omega (arith, same)
asks-after e c v w (Ok Worn) low ended = absurd (let spent = ended.spent in omega (arith, spent, low))
asks-after e c v w (Err x) low ended = let same = ap (asks_by c) ended.made in omega (arith, same)

none-asked : (r : Result StageAnswer AllocError) → more_asks 0 r ≡ 0
none-asked (Ok (Made a)) = refl
none-asked (Ok (Busy p)) = refl
none-asked (Ok Worn) = refl
none-asked (Err x) = refl

one-asked : (r : Result StageAnswer AllocError) → more_asks 1 r ≡ made_in r
one-asked (Ok (Made a)) = refl
one-asked (Ok (Busy p)) = refl
one-asked (Ok Worn) = refl
one-asked (Err x) = refl

one-most : (r : Result StageAnswer AllocError) → made_in r ≤ 1
one-most (Ok (Made a)) = omega arith
one-most (Ok (Busy p)) = omega arith
one-most (Ok Worn) = omega arith
one-most (Err x) = omega arith

module _ (e : Event) (m n : Sat) (caller calls asks : ℕ) (seat : IsSeat m caller calls asks)
    (r : Result StageAnswer AllocError) (low : calls < most_calls) (ended : HasEnded e m.0 r n.0)
    (slots : n.1 ≡ []) where
  few : m.0.calls < most_calls
  few = let same = seat.counted in omega (arith, same, low)

  after : (more : ℕ) → more ≡ more_asks (ask_by caller e) r → more ≤ 1 → IsSeat n caller (calls + 1) (asks + more)
  after more is one =
      let back = returned e m.0 n.0 r few ended in
      record {
        part = back.parts ∙ seat.part;
        number = back.numbers ∙ seat.number;
        low = seat.low;
        counted = let same = seat.counted in let up = back.calls in omega (arith, same, up);
        asked = let same = seat.asked in let up = asks-after e caller m.0 n.0 r few ended in omega (arith, same, up, is);
        few = omega (arith, low);
        fewer = let less = seat.fewer in omega (arith, less, one);
        idle = back.idle;
        slots = slots;
      }

  -- a call that asks nothing
  pub called : ask_by caller e ≡ 0 → IsSeat n caller (calls + 1) asks
  called none =
      let same : asks + 0 ≡ asks = omega arith in
      subst (λ (x : ℕ). IsSeat n caller (calls + 1) x) same (after 0 (sym (ap (λ (x : ℕ). more_asks x r) none ∙ none-asked r)) (omega arith))

  -- an ask
  pub asked-once : ask_by caller e ≡ 1 → IsSeat n caller (calls + 1) (asks + made_in r)
  asked-once one = after (made_in r) (sym (ap (λ (x : ℕ). more_asks x r) one ∙ one-asked r)) (one-most r)

abbrev one_if : Bool → ℕ
one_if b = cond b 1 0

-- an ask of one's own
pub own-ask : (c : ℕ) → one_if (eqb c c) ≡ 1
own-ask c = ap one_if (eq-eqb c c refl)
