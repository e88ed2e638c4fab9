-- A call ends, and what that leaves of the others.
use Rattle.std.proofs.Common.{ℕ, ◌≡◌, ◌≢◌, List, [], ◌∷◌, refl, subst, sym, ap, inl, inr, ◌∙◌}
use Rattle.std.specs.Prelude.{Option, Some, None}
use Rattle.std.proofs.lemmas.Bool.{cases_eq}
use Rattle.group_types.specs.Lists.{at, put}
use Rattle.group_types.proofs.Lists.{at-put, at-put-other}
use Rattle.memc_proto.specs.declared.end.CallEnd.{CallEnd}
use Rattle.front_end.specs.Gateway.{IsEndOf, IsNotOpen, KeepsOtherCalls, LendsNone}
use Rattle.member_runs.specs.Calls.{Shows}
use Rattle.member_gateway.specs.Rules.{Gateway, IsLaterMember, IsLentTo, IsShown, member_rules}
use Rattle.member_gateway.specs.declared.slots.OwnCall.{OwnCall}
use Rattle.member_gateway.proofs.Opening.{one-more, same-call}

none-some : {X : Type 0} (o : Option X) (x : X) → o ≡ None → o ≢ Some x
none-some o x none some = cc

some-same : (a b : ℕ) → Some a ≡ Some b → a ≡ b
some-same a b same = cc

module _ (before after : Gateway) (call : OwnCall) (end : CallEnd) (shown : IsShown call.caller end before.member after.member)
    (lent : at None before.slots call.caller ≡ Some call) (closed : after.slots ≡ put None before.slots call.caller None) where
  is-closed : at None after.slots call.caller ≡ None
  is-closed = ap (λ (s : List (Option OwnCall)). at None s call.caller) closed ∙ at-put None None before.slots call.caller None

  elsewhere : (other : OwnCall) → other.caller ≢ call.caller → at None after.slots other.caller ≡ at None before.slots other.caller
  elsewhere other apart = ap (λ (s : List (Option OwnCall)). at None s other.caller) closed ∙ at-put-other None before.slots call.caller other.caller None apart

  pub shows_ended : IsEndOf member_rules before call end after
  shows_ended asked began opened = record { caller = call.caller; before = before.member; begun = opened.begun; shown = shown }

  pub shows_free : ¬ (IsLentTo after call)
  shows_free now = none-some (at None after.slots call.caller) call is-closed now

  pub shows_over : IsNotOpen member_rules after call
  shows_over asked began opened = shows_free opened.lent

  pub shows_keeps : KeepsOtherCalls member_rules call before after
  shows_keeps other asked began differs opened =
      let apart : other.caller ≢ call.caller = λ same. differs (same-call other call
      (sym opened.lent ∙ ap (λ (n : ℕ). at None before.slots n) same ∙ lent)) in
      record {
        lent = elsewhere other apart ∙ opened.lent;
        hash = opened.hash;
        begun = one-more other.caller asked began.member before.member after.member (Shows call.caller shown.ping) shown.shows
            (λ same. apart (sym (some-same call.caller other.caller same))) opened.begun;
      }

  pub shows_lends : LendsNone member_rules before after
  shows_lends other now = elim (cases_eq other.caller call.caller) [
    | inl same ↦ absurd (none-some (at None after.slots other.caller) other (ap (λ (n : ℕ). at None after.slots n) same ∙ is-closed) now)
    | inr apart ↦ sym (elsewhere other apart) ∙ now
  ]

  pub shows_later : IsLaterMember before after
  shows_later = record { calls = record { call = Shows call.caller shown.ping; after = after.member } ∷ []; made = (shown.shows, refl) }

-- the call of a caller ended, and the caller is lent no more
pub record HasShut (before after : Gateway) (call : OwnCall) (end : CallEnd) : Type 0 where
  pub shown : IsShown call.caller end before.member after.member
  pub lent : at None before.slots call.caller ≡ Some call
  pub closed : after.slots ≡ put None before.slots call.caller None

pub has-shut : (inside before after : Gateway) (caller : ℕ) (call : OwnCall) (end : CallEnd) → inside ≡ before → caller ≡ call.caller
    → IsShown caller end inside.member after.member → at None inside.slots call.caller ≡ Some call
    → after.slots ≡ put None inside.slots caller None → HasShut before after call end
has-shut inside before after caller call end is same shown lent closed = subst (λ (g : Gateway). HasShut g after call end) is (record {
  shown = subst (λ (n : ℕ). IsShown n end inside.member after.member) same shown;
  lent = lent;
  closed = subst (λ (n : ℕ). after.slots ≡ put None inside.slots n None) same closed;
})
