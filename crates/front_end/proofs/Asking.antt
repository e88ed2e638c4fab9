use Rattle.std.proofs.Common.{◌≡◌, ℕ, ◌+◌, min, map, Bool, true, false, List, [], ◌∷◌, ◌++◌, length, take, Option}
use Rattle.std.proofs.Common.{MatchBool, if◌then◌else◌, append-nil, refl, sym, ap, ◌∙◌, subst, arith}
use Rattle.edge_io.proofs.Moving.{Appends-trans}
use Rattle.std.proofs.Math.Seq.{take-append-add}
use Rattle.edge_io.specs.Moving.{Appends}
use Rattle.edge_io.specs.Writing.{HasWritten}
use Rattle.memc_table.specs.declared.act.Act.TheVariants as act
use Rattle.memc_proto.specs.Text.{end_text}
use Rattle.memc_proto.specs.declared.end.CallEnd.{CallEnd}
use Rattle.memc_proto.specs.declared.request.Request.TheVariants.{Get}
use Rattle.front_end.specs.Answers.{Stand, stand, IsActMade, IsKeyAnswered, IsRequestAnswered, IsCutByFault}
use Rattle.front_end.specs.Calls.{Made, Ways}
use Rattle.front_end.specs.Faults.{CallerStandsAt}
use Rattle.front_end.specs.Turns.{Acts, AreCallsOf, dues_behind, is_reply, key_text, get_text}
use Rattle.front_end.specs.declared.end.ConnectionFault.{ConnectionFault}
use Rattle.front_end.proofs.Answering.{no_calls, first-none, stands-here}
use Rattle.front_end.proofs.Writing.{front_of}

rest-none : (told : Option ℕ) (keys : List (List ℕ)) (b : Bool) → MatchBool b (AreCallsOf told false (map (λ key. Acts (act.Get key)) keys) []) (no_calls ≡ [])
rest-none told keys true = first-none told (map (λ key. Acts (act.Get key)) keys)
rest-none told keys false = refl

-- the rest of a get behind a key whose call ended by a reply
pub answered-more : {C : Type 0} (ways : Ways C) (told : Option ℕ) (before middle after : Stand C) (with_cas : Bool)
    (key : List ℕ) (keys : List (List ℕ)) → IsKeyAnswered ways told before middle with_cas key true
    → IsRequestAnswered ways told middle after (Get keys with_cas) → IsRequestAnswered ways told before after (Get (key ∷ keys) with_cas)
answered-more ways told before middle after with_cas key keys first rest = record {
  calls = first.call ∷ rest.calls;
  whole = (
    first.is_call,
    subst (λ (b : Bool). MatchBool b (AreCallsOf told true (map (λ k. Acts (act.Get k)) keys) rest.calls)
        (rest.calls ≡ [])) first.replied_is rest.whole,
  );
  leads = (middle.caller, first.leads, rest.leads);
  bytes = subst
      (λ (b : Bool). Appends before.held after.held (key_text with_cas key first.call
      ++ (if b then get_text with_cas keys rest.calls else []))) first.replied_is
      (Appends-trans before.held middle.held after.held (key_text with_cas key first.call) (get_text with_cas keys rest.calls) first.bytes rest.bytes);
}

pub broken-more : {C : Type 0} (ways : Ways C) (told : Option ℕ) (before middle after : Stand C)
    (fault : ConnectionFault) (with_cas : Bool) (key : List ℕ) (keys : List (List ℕ))
    → IsKeyAnswered ways told before middle with_cas key true
    → IsCutByFault ways told middle after fault (Get keys with_cas) → IsCutByFault ways told before after fault (Get (key ∷ keys) with_cas)
broken-more ways told before middle after fault with_cas key keys first rest = record {
  calls = first.call ∷ rest.calls;
  first = (
    first.is_call,
    subst (λ (b : Bool). MatchBool b (AreCallsOf told false (map (λ k. Acts (act.Get k)) keys) rest.calls)
        (rest.calls ≡ [])) first.replied_is rest.first,
  );
  led = rest.led;
  leads = (middle.caller, first.leads, rest.leads);
  stands = subst (λ (b : Bool). CallerStandsAt ways told rest.led
      (if b then dues_behind (map (λ k. Acts (act.Get k)) keys) rest.calls else []) after.caller fault)
      first.replied_is rest.stands;
  count = length (key_text with_cas key first.call) + rest.count;
  bytes = subst (Appends before.held after.held)
      (sym (take-append-add (key_text with_cas key first.call) (get_text with_cas keys rest.calls) rest.count)
      ∙ ap (λ (b : Bool). take (length (key_text with_cas key first.call) + rest.count)
      (key_text with_cas key first.call ++ (if b then get_text with_cas keys rest.calls else []))) first.replied_is)
      (Appends-trans before.held middle.held after.held (key_text with_cas key first.call)
      (take rest.count (get_text with_cas keys rest.calls)) first.bytes rest.bytes);
}

-- a get ends behind a key whose call didn't end by a reply
pub answered-stop : {C : Type 0} (ways : Ways C) (told : Option ℕ) (before after : Stand C) (with_cas : Bool)
    (key : List ℕ) (keys : List (List ℕ)) → IsKeyAnswered ways told before after with_cas key false
    → IsRequestAnswered ways told before after (Get (key ∷ keys) with_cas)
answered-stop ways told before after with_cas key keys first = record {
  calls = first.call ∷ [];
  whole = (first.is_call, subst (λ (b : Bool). MatchBool b (AreCallsOf told true (map (λ k. Acts (act.Get k)) keys) []) (no_calls ≡ [])) first.replied_is refl);
  leads = (after.caller, first.leads, refl);
  bytes = subst
      (λ (b : Bool). Appends before.held after.held (key_text with_cas key first.call
      ++ (if b then get_text with_cas keys [] else []))) first.replied_is
      (subst (Appends before.held after.held) (sym (append-nil (key_text with_cas key first.call))) first.bytes);
}

-- a fault came while the text of a key was written
pub key-broken : {C : Type 0} (ways : Ways C) (told : Option ℕ) (before after : C) (held now : List ℕ)
    (fault : ConnectionFault) (with_cas : Bool) (key : List ℕ) (keys : List (List ℕ)) (end : CallEnd)
    → IsActMade ways told before after (act.Get key) end → HasWritten held now (end_text key with_cas end)
    → IsCutByFault ways told (stand before held) (stand after now) fault (Get (key ∷ keys) with_cas)
key-broken ways told before after held now fault with_cas key keys end made part = record {
  calls = Made made.op end ∷ [];
  first = ((made.act_is, made.moment), rest-none told keys (is_reply end));
  led = after;
  leads = (after, made.made, refl);
  stands = stands-here ways told after (if is_reply end then map (λ k. Acts (act.Get k)) keys else []) fault;
  count = min part.count (length (end_text key with_cas end));
  bytes = subst (Appends held now) (front_of part.count (end_text key with_cas end) (if is_reply end then get_text with_cas keys [] else [])) part.bytes;
}
