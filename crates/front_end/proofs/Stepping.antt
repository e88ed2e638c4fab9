use Rattle.std.proofs.Common.{◌≡◌, ◌<◌, ◌≤◌, suc, ℕ, ◌+◌, length, List, [], ◌∷◌, ◌++◌, drop, get_or, Option, append-nil}
use Rattle.std.proofs.Common.{append_assoc, refl, sym, ap, ◌∙◌, subst, inl, inr, arith}
use Rattle.std.proofs.Math.Seq.{drop-drop}
use Rattle.std.proofs.Math.ListN.{drop_of_length-le}
use Rattle.std.proofs.lemmas.List.{length-drop}
use Rattle.memc_proto.specs.declared.request.Request.{Request}
use Rattle.memc_proto.specs.declared.request.Request.TheVariants.{Get, Change, Version, Quit, Fail, Refused}
use Rattle.front_end.specs.Answers.{Stand, IsRequestAnswered, IsCutByFault, AreAnswered, AreBroken}
use Rattle.front_end.specs.Calls.{Ways}
use Rattle.front_end.specs.Progress.{behind, waiting_behind, IsKeyTaken, HasAnsweredNext, BreaksAt}
use Rattle.front_end.specs.declared.end.ConnectionFault.{ConnectionFault}
use Rattle.front_end.proofs.Asking.{answered-more, broken-more}
use Rattle.front_end.proofs.Handing.{rest_at}
use Rattle.front_end.proofs.Turning.{answered-none, answered-one, answered-append}

-- what comes of the rest of a request comes of the whole
pub record AreAsked {C : Type 0} (ways : Ways C) (told : Option ℕ) (before now : Stand C) (whole rest : Request) : Type 0 where
  pub answered : (after : Stand C) → IsRequestAnswered ways told now after rest → IsRequestAnswered ways told before after whole
  pub broken : (after : Stand C) (fault : ConnectionFault) → IsCutByFault ways told now after fault rest → IsCutByFault ways told before after fault whole

asked-none : {C : Type 0} (ways : Ways C) (told : Option ℕ) (at : Stand C) (request : Request) → AreAsked ways told at at request request
asked-none ways told at request = record { answered = λ after answered. answered; broken = λ after fault broken. broken }

asked-more : {C : Type 0} (ways : Ways C) (told : Option ℕ) (before now next : Stand C) (whole rest others : Request)
    → AreAsked ways told before now whole rest → IsKeyTaken ways told now next rest others → AreAsked ways told before next whole others
asked-more ways told before now next whole rest others asked taken = record {
  answered = λ after answered. asked.answered after (subst (IsRequestAnswered ways told now after) (sym taken.request_is)
      (answered-more ways told now next after taken.with_cas taken.key taken.keys taken.answered
      (subst (IsRequestAnswered ways told next after) taken.next_is answered)));
  broken = λ after fault broken. asked.broken after fault (subst (IsCutByFault ways told now after fault) (sym taken.request_is)
      (broken-more ways told now next after fault taken.with_cas taken.key taken.keys taken.answered
      (subst (IsCutByFault ways told next after fault) taken.next_is broken)));
}

-- of the requests that are left these wait: the first of them is begun
abbrev pub IsBegun : {C : Type 0} → Ways C → Option ℕ → Stand C → Stand C → List Request → List Request → Type 0
IsBegun ways told middle now [] [] = now ≡ middle
IsBegun ways told middle now [] (first ∷ rest) = ⊥
IsBegun ways told middle now (whole ∷ others) [] = ⊥
IsBegun ways told middle now (whole ∷ others) (first ∷ rest) = (rest ≡ others) × AreAsked ways told middle now whole first

begun-none : {C : Type 0} (ways : Ways C) (told : Option ℕ) (at : Stand C) (requests : List Request) → IsBegun ways told at at requests requests
begun-none ways told at [] = refl
begun-none ways told at (request ∷ requests) = (refl, asked-none ways told at request)

-- some of the requests were answered, and these wait
pub record AnsweredUpTo {C : Type 0} (ways : Ways C) (told : Option ℕ) (before now : Stand C) (requests waiting : List Request) : Type 0 where
  pub done : List Request
  pub left : List Request
  pub all : done ++ left ≡ requests
  pub middle : Stand C
  pub answered : AreAnswered ways told before middle done []
  pub begun : IsBegun ways told middle now left waiting

pub up_to-none : {C : Type 0} (ways : Ways C) (told : Option ℕ) (at : Stand C) (requests : List Request) → AnsweredUpTo ways told at at requests requests
up_to-none ways told at requests = record {
  done = [];
  left = requests;
  all = refl;
  middle = at;
  answered = answered-none ways told at;
  begun = begun-none ways told at requests;
}

pub up_to-more : {C : Type 0} (ways : Ways C) (told : Option ℕ) (before now next : Stand C) (requests waiting then : List Request)
    → AnsweredUpTo ways told before now requests waiting → HasAnsweredNext ways told now next waiting then → AnsweredUpTo ways told before next requests then
up_to-more {C} ways told before now next requests waiting then up_to stepped = by_waiting up_to.left waiting up_to.all up_to.begun stepped
  where
    by_waiting : (left waiting : List Request) → up_to.done ++ left ≡ requests
        → IsBegun ways told up_to.middle now left waiting → HasAnsweredNext ways told now next waiting then
        → AnsweredUpTo ways told before next requests then
    by_waiting left [] all begun stepped = absurd stepped
    by_waiting [] (first ∷ rest) all begun stepped = absurd begun
    by_waiting (whole ∷ others) (first ∷ rest) all begun (inl (answered, then_is)) = record {
      done = up_to.done ++ whole ∷ [];
      left = others;
      all = append_assoc up_to.done (whole ∷ []) others ∙ all;
      middle = next;
      answered = answered-append ways told before up_to.middle next up_to.done (whole ∷ []) [] up_to.answered
          (answered-one ways told up_to.middle next whole (begun.1.answered next answered));
      begun = subst (IsBegun ways told next next others) (sym (then_is ∙ begun.0)) (begun-none ways told next others);
    }
    by_waiting (whole ∷ others) (first ∷ rest) all begun (inr (request, taken, then_is)) = record {
      done = up_to.done;
      left = whole ∷ others;
      all = all;
      middle = up_to.middle;
      answered = up_to.answered;
      begun = subst (IsBegun ways told up_to.middle next (whole ∷ others)) (sym then_is)
          (begun.0, asked-more ways told up_to.middle now next whole first request begun.1 taken);
    }

pub up_to-all : {C : Type 0} (ways : Ways C) (told : Option ℕ) (before now : Stand C) (requests waiting : List Request)
    → AnsweredUpTo ways told before now requests waiting → waiting ≡ [] → AreAnswered ways told before now requests []
up_to-all {C} ways told before now requests waiting up_to none =
    by_left up_to.left up_to.all (subst (IsBegun ways told up_to.middle now up_to.left) none up_to.begun)
  where
    by_left : (left : List Request) → up_to.done ++ left ≡ requests → IsBegun ways told up_to.middle now left [] → AreAnswered ways told before now requests []
    by_left [] all same = subst (λ (s : Stand C). AreAnswered ways told before s requests []) (sym same)
        (subst (λ (rs : List Request). AreAnswered ways told before up_to.middle rs []) (sym (append-nil up_to.done) ∙ all) up_to.answered)
    by_left (whole ∷ others) all begun = absurd begun

pub up_to-broken : {C : Type 0} (ways : Ways C) (told : Option ℕ) (before now after : Stand C) (fault : ConnectionFault) (requests waiting : List Request)
    → AnsweredUpTo ways told before now requests waiting → BreaksAt ways told now after fault waiting → AreBroken ways told before after fault [] requests
up_to-broken {C} ways told before now after fault requests waiting up_to breaks = by_waiting up_to.left waiting up_to.all up_to.begun breaks
  where
    by_waiting : (left waiting : List Request) → up_to.done ++ left ≡ requests
        → IsBegun ways told up_to.middle now left waiting → BreaksAt ways told now after fault waiting
        → AreBroken ways told before after fault [] requests
    by_waiting left [] all begun breaks = absurd breaks
    by_waiting [] (first ∷ rest) all begun breaks = absurd begun
    by_waiting (whole ∷ others) (first ∷ rest) all begun breaks = record {
      next = up_to.done;
      request = whole;
      others = others;
      given = sym all;
      middle = up_to.middle;
      answered = up_to.answered;
      broken = begun.1.broken after fault breaks;
    }

left-some : (k : ℕ) (left : List Request) → 0 < length left → waiting_behind k left ≡ [] → ⊥
left-some k [] some none = omega (arith, some)
left-some k (request ∷ left) some none = cc

-- requests wait where fewer are answered than were given
pub some-wait : (k n : ℕ) (given waiting : List Request) → waiting_behind k (drop n given) ≡ waiting → n < length given → waiting ≡ [] → ⊥
some-wait k n given waiting is fewer none = left-some k (drop n given) (omega (arith, fewer, length-drop n given)) (is ∙ none)

pub none-wait : (k n : ℕ) (given waiting : List Request) → waiting_behind k (drop n given) ≡ waiting → length given ≤ n → waiting ≡ []
none-wait k n given waiting is all = sym is ∙ ap (waiting_behind k) (drop_of_length-le given all)

-- the first of the requests that wait, of which k keys are answered, and those behind it
pub first-of : (k n : ℕ) (given waiting : List Request) (request : Request) → waiting_behind k (drop n given) ≡ waiting
    → n < length given → request ≡ get_or given n request → waiting ≡ behind k request ∷ drop (n + 1) given
first-of k n given waiting request is fewer read = sym is ∙ ap (waiting_behind k) (rest_at given n request fewer read)

pub fewer-wait : (k n : ℕ) (given waiting : List Request) → waiting_behind k (drop n given) ≡ waiting → (waiting ≡ [] → ⊥) → n < length given
fewer-wait k n given waiting is some = by_left (drop n given) refl
  where
    by_left : (left : List Request) → drop n given ≡ left → n < length given
    by_left [] none = absurd (some (sym is ∙ ap (waiting_behind k) none))
    by_left (request ∷ left) e = let l : length (drop n given) ≡ suc (length left) = ap length e in omega (arith, l, length-drop n given)

pub whole-behind : (waiting : List Request) → waiting_behind 0 waiting ≡ waiting
whole-behind [] = refl
whole-behind (Get keys with_cas ∷ others) = refl
whole-behind (Change act noreply ∷ others) = refl
whole-behind (Version ∷ others) = refl
whole-behind (Quit ∷ others) = refl
whole-behind (Fail at keep ∷ others) = refl
whole-behind (Refused refusal ∷ others) = refl

others-behind : (k : ℕ) (waiting : List Request) → drop 1 (waiting_behind k waiting) ≡ drop 1 waiting
others-behind k [] = refl
others-behind k (request ∷ others) = refl

-- the first of the requests that wait is answered
pub first-passed : (k n : ℕ) (given waiting : List Request) → waiting_behind k (drop n given) ≡ waiting → waiting_behind 0 (drop (n + 1) given) ≡ drop 1 waiting
first-passed k n given waiting is = whole-behind (drop (n + 1) given) ∙ sym (drop-drop 1 n given)
    ∙ sym (others-behind k (drop n given)) ∙ ap (λ (rs : List Request). drop 1 rs) is

-- the last of the requests that wait is answered
pub last-passed : (k n : ℕ) (given waiting : List Request) → waiting_behind k (drop n given) ≡ waiting → length given ≤ n + 1 → drop 1 waiting ≡ []
last-passed k n given waiting is all = sym (first-passed k n given waiting is) ∙ ap (waiting_behind 0) (drop_of_length-le given all)

-- how many steps requests need at most
abbrev keys_of : Request → ℕ
keys_of (Get keys with_cas) = length keys
keys_of request = 0

abbrev pub steps_of : List Request → ℕ
steps_of [] = 0
steps_of (request ∷ others) = keys_of request + 1 + steps_of others

pub fewer_steps : {C : Type 0} (ways : Ways C) (told : Option ℕ) (before after : Stand C) (waiting now : List Request)
    → HasAnsweredNext ways told before after waiting now → steps_of now < steps_of waiting
fewer_steps ways told before after [] now stepped = absurd stepped
fewer_steps ways told before after (request ∷ others) now (inl (answered, now_is)) = omega (arith, ap steps_of now_is)
fewer_steps ways told before after (request ∷ others) now (inr (next, taken, now_is)) =
    let e : steps_of now ≡ keys_of next + 1 + steps_of others = ap steps_of now_is in
    let a : keys_of request ≡ suc (length taken.keys) = ap keys_of taken.request_is in
    let b : keys_of next ≡ length taken.keys = ap keys_of taken.next_is in
    omega (arith, e, a, b)
