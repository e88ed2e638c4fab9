-- A call begins, and what that leaves of the others; and what calls of the member leave that neither begin nor end one.
use Rattle.std.proofs.Common.{ℕ, ◌≡◌, ◌≢◌, List, [], ◌∷◌, ◌++◌, refl, subst, sym, ap, inl, inr, ◌∙◌}
use Rattle.std.specs.Prelude.{Option, Some, None}
use Rattle.std.proofs.lemmas.Bool.{cases_eq}
use Rattle.std.proofs.lemmas.List.Elements.{All-append, All-nil, All-push, All-weaker}
use Rattle.group_types.specs.Hash.{fnv1a}
use Rattle.group_types.specs.Lists.{at, put}
use Rattle.group_types.proofs.Lists.{at-put, at-put-other}
use Rattle.memc_table.specs.Act.{key_of}
use Rattle.memc_table.specs.Asked.{Asked}
use Rattle.front_end.specs.Gateway.{IsNotOpen, KeepsOpen, LendsNone, LendsOnly}
use Rattle.group_member.specs.Standing.{Member}
use Rattle.member_runs.specs.Calls.{MemberCall, HasCalled, Begins}
use Rattle.member_gateway.specs.Calls.{ComesByCalls, ComesQuietly, GoesQuietly, LeavesAll, LeavesOpen, MadeCall, begun_or_ended}
use Rattle.member_gateway.specs.Rules.{Gateway, HasBegunCall, IsCallOpen, IsLaterMember, IsLentTo, member_rules}
use Rattle.member_gateway.specs.declared.slots.OwnCall.{OwnCall}
use Rattle.member_gateway.specs.Order.{made_on}

none-some : {X : Type 0} (o : Option X) (x : X) → o ≡ None → o ≢ Some x
none-some o x none some = cc

some-same : (a b : ℕ) → Some a ≡ Some b → a ≡ b
some-same a b same = cc

pub same-call : (a b : OwnCall) → Some a ≡ Some b → a ≡ b
same-call a b same = cc

abbrev pub gateway-of : Member → List (Option OwnCall) → Gateway
gateway-of member slots = record { member = member; slots = slots }

module _ (a b : Member) (goes : GoesQuietly a b) where
  pub quiet-way : ComesQuietly a b
  quiet-way = goes a (record { calls = []; made = refl; leave = All-nil LeavesAll })

  pub quiet-comes : ComesByCalls a b
  quiet-comes = record { calls = quiet-way.calls; made = quiet-way.made }

  pub quiet-begun : (caller : ℕ) (op : Asked) (began : Member) → HasBegunCall caller op began a → HasBegunCall caller op began b
  quiet-begun caller op began begun = record {
    first = begun.first;
    begins = begun.begins;
    calls = begun.calls ++ quiet-way.calls;
    made = made_on begun.first a b begun.calls quiet-way.calls begun.made quiet-way.made;
    leave = All-append (LeavesOpen caller) begun.calls quiet-way.calls begun.leave
        (All-weaker LeavesAll (LeavesOpen caller) (λ c quiet. none-some (begun_or_ended c.call) caller quiet) quiet-way.calls quiet-way.leave);
  }

-- calls that leave all open calls open
pub quiet_keeps : (before after : Gateway) → GoesQuietly before.member after.member → after.slots ≡ before.slots → KeepsOpen member_rules before after
quiet_keeps before after goes slots call op began opened = record {
  lent = ap (λ (s : List (Option OwnCall)). at None s call.caller) slots ∙ opened.lent;
  hash = opened.hash;
  begun = quiet-begun before.member after.member goes call.caller op began.member opened.begun;
}

pub quiet_lends : (before after : Gateway) → after.slots ≡ before.slots → LendsNone member_rules before after
quiet_lends before after slots call lent = ap (λ (s : List (Option OwnCall)). at None s call.caller) (sym slots) ∙ lent

pub quiet_later : (before after : Gateway) → GoesQuietly before.member after.member → IsLaterMember before after
quiet_later before after goes = quiet-comes before.member after.member goes

-- the same of what the gateway was seen as
pub inside_keeps : (inside before after : Gateway) → inside ≡ before → GoesQuietly inside.member after.member
    → after.slots ≡ inside.slots → KeepsOpen member_rules before after
inside_keeps inside before after is goes slots = subst (λ (g : Gateway). KeepsOpen member_rules g after) is (quiet_keeps inside after goes slots)

pub inside_lends : (inside before after : Gateway) → inside ≡ before → after.slots ≡ inside.slots → LendsNone member_rules before after
inside_lends inside before after is slots = subst (λ (g : Gateway). LendsNone member_rules g after) is (quiet_lends inside after slots)

pub inside_later : (inside before after : Gateway) → inside ≡ before → GoesQuietly inside.member after.member → IsLaterMember before after
inside_later inside before after is goes = subst (λ (g : Gateway). IsLaterMember g after) is (quiet_later inside after goes)

-- one call more
pub one-more : (caller : ℕ) (op : Asked) (began before after : Member) (call : MemberCall) → HasCalled call before after → begun_or_ended call ≢ Some caller
    → HasBegunCall caller op began before → HasBegunCall caller op began after
one-more caller op began before after call called leaves begun =
    let one : MadeCall = record { call = call; after = after } in record {
      first = begun.first;
      begins = begun.begins;
      calls = begun.calls ++ one ∷ [];
      made = made_on begun.first before after begun.calls (one ∷ []) begun.made (called, refl);
      leave = All-push (LeavesOpen caller) begun.calls one begun.leave leaves;
    }

module _ (before after : Gateway) (call : OwnCall) (op : Asked) (begins : HasCalled (Begins call.caller op) before.member after.member)
    (free : at None before.slots call.caller ≡ None) (hash : call.hash ≡ fnv1a (key_of op.act))
    (lent : after.slots ≡ put None before.slots call.caller (Some call)) where
  is-lent : IsLentTo after call
  is-lent = ap (λ (s : List (Option OwnCall)). at None s call.caller) lent ∙ at-put None None before.slots call.caller (Some call)

  pub begins_open : IsCallOpen after call op before
  begins_open = record {
    lent = is-lent;
    hash = hash;
    begun = record { first = after.member; begins = begins; calls = []; made = refl; leave = All-nil (LeavesOpen call.caller) };
  }

  pub begins_fresh : IsNotOpen member_rules before call
  begins_fresh asked began opened = none-some (at None before.slots call.caller) call free opened.lent

  elsewhere : (other : OwnCall) → other.caller ≢ call.caller → at None after.slots other.caller ≡ at None before.slots other.caller
  elsewhere other apart = ap (λ (s : List (Option OwnCall)). at None s other.caller) lent
      ∙ at-put-other None before.slots call.caller other.caller (Some call) apart

  pub begins_keeps : KeepsOpen member_rules before after
  begins_keeps other asked began opened =
      let apart : other.caller ≢ call.caller = λ same. none-some (at None before.slots other.caller) other
      (ap (λ (n : ℕ). at None before.slots n) same ∙ free) opened.lent in
      record {
        lent = elsewhere other apart ∙ opened.lent;
        hash = opened.hash;
        begun = one-more other.caller asked began.member before.member after.member (Begins call.caller op) begins
            (λ same. apart (sym (some-same call.caller other.caller same))) opened.begun;
      }

  pub begins_lends : LendsOnly member_rules (Some call) before after
  begins_lends other now = elim (cases_eq other.caller call.caller) [
    | inl same ↦ inr (ap Some (sym (same-call other call (sym now ∙ ap (λ (n : ℕ). at None after.slots n) same ∙ is-lent))))
    | inr apart ↦ inl (sym (elsewhere other apart) ∙ now)
  ]

  pub begins_later : IsLaterMember before after
  begins_later = record { calls = record { call = Begins call.caller op; after = after.member } ∷ []; made = (begins, refl) }

-- a call began at a caller that was free, and has it
pub record HasLent (before after : Gateway) (call : OwnCall) (op : Asked) : Type 0 where
  pub begins : HasCalled (Begins call.caller op) before.member after.member
  pub free : at None before.slots call.caller ≡ None
  pub hash : call.hash ≡ fnv1a (key_of op.act)
  pub lent : after.slots ≡ put None before.slots call.caller (Some call)

pub has-lent : (inside before after : Gateway) (caller : ℕ) (call : OwnCall) (op : Asked) → inside ≡ before → call.caller ≡ caller
    → HasCalled (Begins caller op) inside.member after.member → at None inside.slots caller ≡ None → call.hash ≡ fnv1a (key_of op.act)
    → after.slots ≡ put None inside.slots caller (Some call) → HasLent before after call op
has-lent inside before after caller call op is same begins free hash lent = subst (λ (g : Gateway). HasLent g after call op) is (record {
  begins = subst (λ (n : ℕ). HasCalled (Begins n op) inside.member after.member) (sym same) begins;
  free = subst (λ (n : ℕ). at None inside.slots n ≡ None) (sym same) free;
  hash = hash;
  lent = subst (λ (n : ℕ). after.slots ≡ put None inside.slots n (Some call)) (sym same) lent;
})

-- nothing happened
pub same_keeps : (before after : Gateway) → after ≡ before → KeepsOpen member_rules before after
same_keeps before after same call op began opened = subst (λ g. IsCallOpen g call op began) (sym same) opened

pub same_lends : (before after : Gateway) → after ≡ before → LendsNone member_rules before after
same_lends before after same call lent = subst (λ g. IsLentTo g call) same lent

pub same_later : (before after : Gateway) → after ≡ before → IsLaterMember before after
same_later before after same = record { calls = []; made = ap (λ (g : Gateway). g.member) same }
