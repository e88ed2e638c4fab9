-- Calls of a list that are open, as others come and go.
use Rattle.std.specs.Option.{option_to_list}
use Rattle.std.proofs.Common.{append_assoc, ◌≡◌, ℕ, zero, suc, List, [], ◌∷◌, ◌++◌, drop, Option, Some, refl, sym, ap, ◌∙◌, subst, ◌⊎◌, inl, inr}
use Rattle.memc_table.specs.Asked.{Asked}
use Rattle.front_end.specs.Gateway.{Rules, IsNotOpen, KeepsOpen, KeepsOtherCalls, LendsNone}
use Rattle.ready_client.specs.Calling.{StandOnce, AreOpen, IsBegunAs, HasOpen, KeepsApart, KeepsCalls, LendsApart, LendsBegun}
use Rattle.ready_client.specs.declared.open_call.OpenCall.{OpenCall}
use Rattle.ready_client.specs.declared.open_call.OpenCall.TheVariants.{Open, Ended}

module _ {K : Type 0} where
  pub open-behind : (one : OpenCall K) (calls : List (OpenCall K)) (call : K) → HasOpen calls call → HasOpen (one ∷ calls) call
  open-behind (Open other) calls call has = inr has
  open-behind (Ended end) calls call has = has

  pub open-drop : (n : ℕ) (calls : List (OpenCall K)) (call : K) → HasOpen (drop n calls) call → HasOpen calls call
  open-drop zero calls call has = has
  open-drop (suc n) [] call has = has
  open-drop (suc n) (one ∷ calls) call has = open-behind one calls call (open-drop n calls call has)

  pub open-before : (calls more : List (OpenCall K)) (call : K) → HasOpen calls call → HasOpen (calls ++ more) call
  open-before [] more call has = absurd has
  open-before (Open one ∷ calls) more call (inl same) = inl same
  open-before (Open one ∷ calls) more call (inr has) = inr (open-before calls more call has)
  open-before (Ended end ∷ calls) more call has = open-before calls more call has

  pub open-last : (calls more : List (OpenCall K)) (call : K) → HasOpen more call → HasOpen (calls ++ more) call
  open-last [] more call has = has
  open-last (one ∷ calls) more call has = open-behind one (calls ++ more) call (open-last calls more call has)

  pub open-in : (calls more : List (OpenCall K)) (call : K) → HasOpen (calls ++ more) call → HasOpen calls call ⊎ HasOpen more call
  open-in [] more call has = inr has
  open-in (Open one ∷ calls) more call (inl same) = inl (inl same)
  open-in (Open one ∷ calls) more call (inr has) = by (open-in calls more call has)
    where
      by : HasOpen calls call ⊎ HasOpen more call → HasOpen (Open one ∷ calls) call ⊎ HasOpen more call
      by (inl here) = inl (inr here)
      by (inr there) = inr there
  open-in (Ended end ∷ calls) more call has = open-in calls more call has

  pub distinct-behind : (one : OpenCall K) (calls : List (OpenCall K)) → StandOnce (one ∷ calls) → StandOnce calls
  distinct-behind (Open call) calls distinct = distinct.1
  distinct-behind (Ended end) calls distinct = distinct

  pub distinct-more : (calls : List (OpenCall K)) (one : OpenCall K) → StandOnce calls
      → ((call : K) → HasOpen (one ∷ []) call → ¬ HasOpen calls call) → StandOnce (calls ++ one ∷ [])
  distinct-more [] (Open call) distinct fresh = (λ has. has, tt)
  distinct-more [] (Ended end) distinct fresh = tt
  distinct-more (Open first ∷ calls) one distinct fresh = (apart, distinct-more calls one distinct.1 (λ call has at. fresh call has (inr at)))
    where
      by : HasOpen calls first ⊎ HasOpen (one ∷ []) first → ⊥
      by (inl here) = distinct.0 here
      by (inr there) = fresh first there (inl refl)

      apart : ¬ HasOpen (calls ++ one ∷ []) first
      apart has = by (open-in calls (one ∷ []) first has)
  distinct-more (Ended end ∷ calls) one distinct fresh = distinct-more calls one distinct fresh

module _ {G K : Type 0} (rules : Rules G K) where
  -- a call that was begun is none of those that were open
  pub begun-fresh : (before after : G) (op : Asked) (one : OpenCall K) → IsBegunAs rules before op one after
      → (call : K) → HasOpen (one ∷ []) call → IsNotOpen rules before call
  begun-fresh before after op (Open one) begun call (inl same) = subst (λ (k : K). IsNotOpen rules before k) (sym same) begun.0
  begun-fresh before after op (Open one) begun call (inr has) = absurd has
  begun-fresh before after op (Ended end) begun call has = absurd has

  -- it is open, if its end wasn't taken
  pub begun-open : (before after : G) (op : Asked) (one : OpenCall K) → IsBegunAs rules before op one after → (call : K)
      → HasOpen (one ∷ []) call → rules.opened after call op before
  begun-open before after op (Open one) begun call (inl same) = subst (λ (k : K). rules.opened after k op before) (sym same) begun.1
  begun-open before after op (Open one) begun call (inr has) = absurd has
  begun-open before after op (Ended end) begun call has = absurd has

  pub begun-apart : (before after : G) (op : Asked) (calls : List (OpenCall K)) (one : OpenCall K)
      → IsBegunAs rules before op one after → KeepsOpen rules before after
      → KeepsApart rules calls (calls ++ one ∷ []) before after
  begun-apart before after op calls one begun kept call call_op began other opened =
      (kept call call_op began opened, λ has. by (open-in calls (one ∷ []) call has))
    where
      by : HasOpen calls call ⊎ HasOpen (one ∷ []) call → ⊥
      by (inl here) = other here
      by (inr there) = begun-fresh before after op one begun call there call_op began opened

  pub begun-lends : (before after : G) (calls : List (OpenCall K)) (one : OpenCall K)
      → LendsBegun rules (Some one) before after → LendsApart rules calls (calls ++ one ∷ []) before after
  begun-lends before after calls one lends call other lent = (by (lends call lent), λ has. other (open-before calls (one ∷ []) call has))
    where
      by : rules.lent before call ⊎ (Some one ≡ Some (Open call)) → rules.lent before call
      by (inl had) = had
      by (inr same) = let is : one ≡ Open call = cc in
          absurd (other
          (open-last calls (one ∷ []) call (subst (λ (o : OpenCall K). HasOpen (o ∷ []) call) (sym is) (inl refl))))

  -- an open call ended
  pub ended-apart : (before after : G) (one : K) (calls : List (OpenCall K)) → KeepsOtherCalls rules one before after
      → KeepsApart rules (Open one ∷ calls) calls before after
  ended-apart before after one calls kept call op began other opened = (kept call op began (λ same. other (inl same)) opened, λ has. other (inr has))

  pub ended-lends : (before after : G) (one : K) (calls : List (OpenCall K)) → LendsNone rules before after
      → ¬ (rules.lent after one) → LendsApart rules (Open one ∷ calls) calls before after
  ended-lends before after one calls none gone call other lent = (none call lent, by)
    where
      by : ¬ HasOpen (Open one ∷ calls) call
      by (inl same) = gone (subst (λ (k : K). rules.lent after k) same lent)
      by (inr has) = other has

  pub ended-others : (before after : G) (one : K) (calls : List (OpenCall K)) → KeepsOtherCalls rules one before after
      → StandOnce (Open one ∷ calls) → KeepsCalls rules calls before after
  ended-others before after one calls kept distinct call op began has opened =
      kept call op began (λ same. distinct.0 (subst (λ (k : K). HasOpen calls k) same has)) opened

  -- calls that are open stay so
  pub still-open : (before after : G) (calls : List (OpenCall K)) → KeepsCalls rules calls before after → AreOpen rules before calls → AreOpen rules after calls
  still-open before after calls kept opens call has = let at = opens call has in (at.0, at.1, kept call at.0 at.1 has at.2)

  pub kept-all : (before after : G) (calls : List (OpenCall K)) → KeepsOpen rules before after → KeepsCalls rules calls before after
  kept-all before after calls kept call op began has = kept call op began

  -- the same as these lists are
  pub apart-as : (calls calls_now calls_then : List (OpenCall K)) (before after : G) → calls_now ≡ calls_then
      → KeepsApart rules calls calls_then before after → KeepsApart rules calls calls_now before after
  apart-as calls calls_now calls_then before after same apart = subst (λ (cs : List (OpenCall K)). KeepsApart rules calls cs before after) (sym same) apart

  pub lends-as : (calls calls_now calls_then : List (OpenCall K)) (before after : G) → calls_now ≡ calls_then
      → LendsApart rules calls calls_then before after → LendsApart rules calls calls_now before after
  lends-as calls calls_now calls_then before after same lends = subst (λ (cs : List (OpenCall K)). LendsApart rules calls cs before after) (sym same) lends

-- one came behind all
pub appended : {X : Type 0} (first : Option X) (others now calls : List X) (one : X) → option_to_list first
    ++ others ≡ calls → now ≡ others ++ one ∷ [] → option_to_list first ++ now ≡ calls ++ one ∷ []
appended first others now calls one is pushed = ap (λ (xs : List _). option_to_list first ++ xs) pushed
    ∙ sym (append_assoc (option_to_list first) others (one ∷ [])) ∙ ap (λ (xs : List _). xs ++ one ∷ []) is
