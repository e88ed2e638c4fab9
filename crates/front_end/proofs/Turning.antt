use Rattle.std.proofs.Common.{◌≡◌, ℕ, List, [], ◌∷◌, ◌++◌, Option, append-nil, append_assoc, refl, sym, ap, ◌∙◌, subst}
use Rattle.edge_io.proofs.Moving.{Appends-nil, Appends-trans}
use Rattle.edge_io.specs.Moving.{Appends}
use Rattle.memc_proto.specs.declared.request.Request.{Request}
use Rattle.front_end.specs.Answers.{Stand, IsRequestAnswered, AreAnswered}
use Rattle.front_end.specs.Calls.{Call, Ways, Leads}
use Rattle.front_end.specs.Turns.{Exchange, AreWhole, response_text, calls_in, exchanges_text, requests_in}

leads-append : {C : Type 0} (ways : Ways C) (before middle after : C) (calls more : List Call)
    → Leads ways before calls middle → Leads ways middle more after → Leads ways before (calls ++ more) after
leads-append ways before middle after [] more first then = subst (λ (c : _). Leads ways c more after) first then
leads-append ways before middle after (call ∷ calls) more first then = (first.0, first.1, leads-append ways first.0 middle after calls more first.2 then)

whole-append : (told : Option ℕ) (turns more : List Exchange) → AreWhole told turns → AreWhole told more → AreWhole told (turns ++ more)
whole-append told [] more first then = then
whole-append told (turn ∷ turns) more first then = (first.0, whole-append told turns more first.1 then)

calls_in-append : (turns more : List Exchange) → calls_in (turns ++ more) ≡ calls_in turns ++ calls_in more
calls_in-append [] more = refl
calls_in-append (turn ∷ turns) more = ap (λ (calls : List Call). turn.calls ++ calls) (calls_in-append turns more)
    ∙ sym (append_assoc turn.calls (calls_in turns) (calls_in more))

text_in-append : (turns more : List Exchange) → exchanges_text (turns ++ more) ≡ exchanges_text turns ++ exchanges_text more
text_in-append [] more = refl
text_in-append (turn ∷ turns) more =
    let text : List ℕ = response_text turn.request turn.calls in
    ap (λ (bs : List ℕ). text ++ bs) (text_in-append turns more)
    ∙ sym (append_assoc text (exchanges_text turns) (exchanges_text more))

requests_in-append : (turns more : List Exchange) → requests_in (turns ++ more) ≡ requests_in turns ++ requests_in more
requests_in-append [] more = refl
requests_in-append (turn ∷ turns) more = ap (λ (rs : List Request). turn.request ∷ rs) (requests_in-append turns more)

-- no request was answered
pub answered-none : {C : Type 0} (ways : Ways C) (told : Option ℕ) (at : Stand C) → AreAnswered ways told at at [] []
answered-none ways told at = record { turns = []; asked = refl; whole = tt; leads = refl; bytes = Appends-nil at.held }

-- requests that were answered, and then others
pub answered-append : {C : Type 0} (ways : Ways C) (told : Option ℕ) (before middle after : Stand C) (requests others : List Request) (more : List ℕ)
    → AreAnswered ways told before middle requests [] → AreAnswered ways told middle after others more
    → AreAnswered ways told before after (requests ++ others) more
answered-append ways told before middle after requests others more first then = record {
  turns = first.turns ++ then.turns;
  asked = requests_in-append first.turns then.turns ∙ ap (λ (rs : List Request). rs ++ requests_in then.turns)
      first.asked ∙ ap (λ (rs : List Request). requests ++ rs) then.asked;
  whole = whole-append told first.turns then.turns first.whole then.whole;
  leads = subst (λ (calls : List Call). Leads ways before.caller calls after.caller)
      (sym (calls_in-append first.turns then.turns))
      (leads-append ways before.caller middle.caller after.caller (calls_in first.turns) (calls_in then.turns)
      first.leads then.leads);
  bytes = subst (Appends before.held after.held)
      (ap (λ (bs : List ℕ). bs ++ (exchanges_text then.turns ++ more)) (append-nil (exchanges_text first.turns))
      ∙ sym (append_assoc (exchanges_text first.turns) (exchanges_text then.turns) more)
      ∙ ap (λ (bs : List ℕ). bs ++ more) (sym (text_in-append first.turns then.turns)))
      (Appends-trans before.held middle.held after.held (exchanges_text first.turns ++ []) (exchanges_text then.turns ++ more) first.bytes then.bytes);
}

pub answered-one : {C : Type 0} (ways : Ways C) (told : Option ℕ) (before after : Stand C) (request : Request)
    → IsRequestAnswered ways told before after request → AreAnswered ways told before after (request ∷ []) []
answered-one ways told before after request answered = record {
  turns = record { request = request; calls = answered.calls } ∷ [];
  asked = refl;
  whole = (answered.whole, tt);
  leads = subst (λ (calls : List Call). Leads ways before.caller calls after.caller) (sym (append-nil answered.calls)) answered.leads;
  bytes = let text : List ℕ = response_text request answered.calls in
      subst (Appends before.held after.held) (sym (append-nil (text ++ []) ∙ append-nil text)) answered.bytes;
}
