-- What one event more makes of the run of a schedule.
use Rattle.std.proofs.Common.{ℕ, zero, suc, ◌≡◌, ◌≢◌, ◌<◌, ◌+◌, ⊎_elim, Bool, eqb, eq-eqb, ne_eqb, cond, List, [], ◌∷◌}
use Rattle.std.proofs.Common.{◌++◌, length, take, refl, sym, ap, ◌∙◌, arith}
use Rattle.std.specs.Prelude.{slice_get, Some, None}
use Rattle.std.proofs.lemmas.Bool.{cases_eq}
use Rattle.group_types.specs.Dimensions.{Dimensions}
use Rattle.group_types.specs.Lists.{at, put}
use Rattle.group_types.proofs.Lists.{at-put, at-put-other}
use Rattle.group_calls.specs.declared.event.Event.{Event}
use Rattle.group_calls.specs.declared.event.Event.TheVariants.{Ask, Collect, Deliver, Fail, Flush, Trace}
use Rattle.group_run.specs.Headline.{IsRun, IsRunFrom, MayCome}
use Rattle.group_run.specs.Locality.{occurrences}
use Rattle.group_run.specs.Process.{Node}
use Rattle.group_run.specs.World.{World, after, asked_after, call_of, names, opening, step, world_after}
use Rattle.law_answers.proofs.Entries.{after-more}
use Rattle.group_core.proofs.Schedules.{stays}
use Rattle.group_stage.specs.Kept.{IsAnswered}
use Rattle.group_stage.specs.Schedules.{answer_at, ask_by, asked_at, standing_at}
use Rattle.group_stage.specs.declared.view.Numbered.{Numbered}

run-from : (w : World) (es : List Event) (e : Event) → IsRunFrom w es → MayCome (world_after w es) e → IsRunFrom w (es ++ e ∷ [])
run-from w [] e run may = (may, tt)
run-from w (x ∷ es) e run may = (run.0, run-from (step w x).world es e run.1 may)

pub run-more : (s : Dimensions) (es : List Event) (e : Event) → IsRun s es → MayCome (after s es) e → IsRun s (es ++ e ∷ [])
run-more s es e run may = (run.0, run-from (opening s) es e run.1 may)

events-from : (w : World) (es : List Event) → (world_after w es).events ≡ w.events + length es
events-from w [] = omega arith
events-from w (e ∷ es) = let rest = events-from (step w e).world es in omega (arith, rest)

pub events-after : (s : Dimensions) (es : List Event) → (after s es).events ≡ length es
events-after s es = let all = events-from (opening s) es in omega (arith, all)

-- a node that the event doesn't name stands as it stood
pub stands : (s : Dimensions) (es : List Event) (e : Event) (x : ℕ) → IsRun s es → x < s.k + s.m
    → occurrences x (names s e) ≡ 0 → standing_at s (es ++ e ∷ []) x ≡ standing_at s es x
stands s es e x run within none = ap (λ (n : Node). record { shape = s; node = n }) (stays s es e x run within none)

abbrev one_if : Bool → ℕ
one_if b = cond b 1 0

-- one ask more of its caller
asked-step : (w : World) (e : Event) (c : ℕ) → at 0 (asked_after w.asked (call_of w e)) c ≡ at 0 w.asked c + ask_by c e
asked-step w (Ask caller op p) c = ⊎_elim
    (λ (same : caller ≡ c).
    let here : at 0 (put 0 w.asked caller (suc (at 0 w.asked caller))) caller ≡ suc (at 0 w.asked caller) = at-put 0 0 w.asked caller _ in
    let one : one_if (eqb caller c) ≡ 1 = ap one_if (eq-eqb caller c same) in
    ap (λ (x : ℕ). at 0 (put 0 w.asked caller (suc (at 0 w.asked caller))) x) (sym same) ∙ here ∙ omega (arith, one, ap (λ (x : ℕ). at 0 w.asked x) same))
    (λ (other : caller ≢ c).
    let none : one_if (eqb caller c) ≡ 0 = ap one_if (ne_eqb caller c other) in
    at-put-other 0 w.asked caller c _ (λ e. other (sym e)) ∙ omega (arith, none))
    (cases_eq caller c)
asked-step w (Collect caller call p) c = omega arith
asked-step w (Deliver from to) c = omega arith
asked-step w (Fail p keep) c = omega arith
asked-step w (Flush p) c = omega arith
asked-step w (Trace caller call d p) c = omega arith

pub asked-more : (s : Dimensions) (es : List Event) (e : Event) (c : ℕ) → asked_at s (es ++ e ∷ []) c ≡ asked_at s es c + ask_by c e
asked-more s es e c = ap (λ (v : World). at 0 v.asked c) (after-more (opening s) es e) ∙ asked-step (after s es) e c

-- the front of a longer list
none-some : {X : Type 0} (x : X) → None ≡ Some x → ⊥
none-some x e = cc e

pub get-more : {X : Type 0} (xs ys : List X) (k : ℕ) (x : X) → slice_get xs k ≡ Some x → slice_get (xs ++ ys) k ≡ Some x
get-more [] ys k x e = absurd (none-some x e)
get-more (y ∷ xs) ys zero x e = e
get-more (y ∷ xs) ys (suc k) x e = get-more xs ys k x e

pub take-more : {X : Type 0} (xs ys : List X) (k : ℕ) (x : X) → slice_get xs k ≡ Some x → take k (xs ++ ys) ≡ take k xs
take-more [] ys k x e = absurd (none-some x e)
take-more (y ∷ xs) ys zero x e = refl
take-more (y ∷ xs) ys (suc k) x e = ap (λ (rest : List _). y ∷ rest) (take-more xs ys k x e)

pub get-last : {X : Type 0} (xs : List X) (x : X) → slice_get (xs ++ x ∷ []) (length xs) ≡ Some x
get-last [] x = refl
get-last (y ∷ xs) x = get-last xs x

pub take-whole : {X : Type 0} (xs ys : List X) → take (length xs) (xs ++ ys) ≡ xs
take-whole [] ys = refl
take-whole (y ∷ xs) ys = ap (λ (rest : List _). y ∷ rest) (take-whole xs ys)

pub still-answered : (s : Dimensions) (es ms : List Event) (x : Numbered) → IsAnswered s es x → IsAnswered s (es ++ ms) x
still-answered s es ms x is = record {
  event = get-more es ms x.number x.event is.event;
  answer = is.answer ∙ ap (λ (fs : List Event). answer_at s fs x.event) (sym (take-more es ms x.number x.event is.event));
}

pub last-answered : (s : Dimensions) (es : List Event) (e : Event)
    → IsAnswered s (es ++ e ∷ []) (record { number = length es; event = e; answer = answer_at s es e })
last-answered s es e = record {
  event = get-last es e;
  answer = ap (λ (fs : List Event). answer_at s fs e) (sym (take-whole es (e ∷ [])));
}
