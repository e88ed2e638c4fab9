-- What a head keeps of callers: the last settled update of each that it has applied.
use Rattle.std.proofs.Common.{ℕ, suc, ◌≡◌, ◌≢◌, ◌<◌, ◌≤◌, ◌==◌, nat_lt, Bool, true, false, ◌&&◌, List, [], ◌∷◌}
use Rattle.std.proofs.Common.{replicate, take, ◌⊎◌, inl, inr, Option, Some, None, if◌then◌else◌, refl, sym, ap, subst}
use Rattle.std.proofs.Common.{◌∙◌, arith}
use Rattle.std.specs.Prelude.{Contains}
use Rattle.std.proofs.lemmas.Bool.{cases_eq, eq-eqb}
use Rattle.std.proofs.lemmas.Grind.{common_steps}
use Rattle.group_types.specs.Dimensions.{Dimensions}
use Rattle.group_types.specs.Lists.{at, put}
use Rattle.group_types.proofs.Lists.{at-put, at-put-other, at-replicate}
use Rattle.group_types.specs.Each.{Each, EachTwo}
use Rattle.group_types.proofs.Eaches.{each-append, each-weaker, each_two-take}
use Rattle.group_message.specs.declared.kept.Kept.{Kept}
use Rattle.group_message.specs.declared.update.Update.{Update}
use Rattle.group_calls.specs.Turns.{CallName}
use Rattle.group_calls.specs.declared.event.Answer.TheVariants as says
use Rattle.group_run.specs.Applying.{replica_of}
use Rattle.group_run.specs.Asking.{fate_from, fate_of, fate_unless, gone_or, is_adopted, is_in_log, reply_from}
use Rattle.group_run.specs.Process.{Head, Process}
use Rattle.group_run.specs.Replica.{callers, kept_after}
use Rattle.group_run.specs.World.{AskedCall, update_name}
use Rattle.group_run.specs.History.{history}
use Rattle.law_updates.specs.Fine.{ComesBefore}
use Rattle.law_updates.proofs.Clears.{none-passes}
use Rattle.law_log.specs.Stands.{HeadStands, IsSettledAs}
use Rattle.law_log.proofs.Calls.{each-contained}
use Rattle.law_log.proofs.Refusals.{front-is}
use Rattle.law_log.proofs.Turnings.{contained-get, get-contained, get-taken}

-- what is kept of a caller after updates: that of the last of them which is the caller's, or what was kept before
pub data KeptOf (caller : ℕ) (us : List Update) (before now : Option Kept) : Type 0 where
  Before : Each (λ u. u.caller ≢ caller) us → now ≡ before → KeptOf caller us before now
  Last : (u : Update) → Contains us u → u.caller ≡ caller → now ≡ Some (record { call = u.call; outcome = u.outcome })
      → Each (λ v. v.caller ≡ caller → v.call ≤ u.call) us
      → KeptOf caller us before now

kept-last : (caller : ℕ) (us : List Update) (kept : List (Option Kept)) → EachTwo ComesBefore us
    → KeptOf caller us (at None kept caller) (at None (kept_after kept us) caller)
kept-last caller [] kept rising = Before tt refl
kept-last caller (u ∷ us) kept rising =
    by (kept-last caller us (put None kept u.caller (Some (record { call = u.call; outcome = u.outcome }))) rising.1) (cases_eq caller u.caller) where
      by : KeptOf caller us (at None (put None kept u.caller (Some (record { call = u.call; outcome = u.outcome })))
          caller) (at None (kept_after kept (u ∷ us)) caller)
          → (caller ≡ u.caller) ⊎ (caller ≢ u.caller) → KeptOf caller (u ∷ us) (at None kept caller) (at None (kept_after kept (u ∷ us)) caller)
      by (Before others same) (inl own) = Last u (0, omega arith, refl) (sym own)
          (same ∙ ap (at None (put None kept u.caller (Some (record { call = u.call; outcome = u.outcome })))) own
          ∙ at-put None None kept u.caller (Some (record { call = u.call; outcome = u.outcome })))
          ((λ _. omega arith), each-weaker (λ v. v.caller ≢ caller) (λ v. v.caller ≡ caller → v.call ≤ u.call) (λ v other its. absurd (other its)) us others)
      by (Before others same) (inr other) = Before ((λ its. other (sym its)), others)
          (same ∙ at-put-other None kept u.caller caller (Some (record { call = u.call; outcome = u.outcome })) other)
      by (Last v there its same most) own = Last v (suc there.0, (let low = there.1 in omega arith), there.2) its same
          ((λ mine. let below = each-contained (ComesBefore u) us v rising.0 there (mine ∙ sym its) in omega arith), most)

module _ (s : Dimensions) (calls : List AskedCall) (settled : List Update) (d : ℕ) (p : Process) (h : Head) (stands : HeadStands s calls settled d p h) where
  front-rises : EachTwo ComesBefore (take (replica_of p d).applied settled)
  front-rises = subst (EachTwo ComesBefore) (front-is s calls settled d p h stands)
      (each_two-take ComesBefore (replica_of p d).applied (history settled (replica_of p d)) stands.fine.rising)

  kept-of : (caller : ℕ) → KeptOf caller (take (replica_of p d).applied settled) None (at None (replica_of p d).kept caller)
  kept-of caller =
      subst (λ (o : Option Kept). KeptOf caller (take (replica_of p d).applied settled) o
      (at None (replica_of p d).kept caller)) (at-replicate None callers caller)
      (subst (λ (kept : List (Option Kept)). KeptOf caller (take (replica_of p d).applied settled)
      (at None (replicate callers None) caller) (at None kept caller)) (sym stands.kept)
      (kept-last caller (take (replica_of p d).applied settled) (replicate callers None) front-rises))

  -- what is kept of a caller is that of a settled update
  pub kept-settled : (caller : ℕ) (x : Kept) → at None (replica_of p d).kept caller ≡ Some x
      → IsSettledAs settled (record { caller = caller; call = x.call }) x.outcome
  kept-settled caller x is = by (kept-of caller) where
    by : KeptOf caller (take (replica_of p d).applied settled) None (at None (replica_of p d).kept caller)
        → IsSettledAs settled (record { caller = caller; call = x.call }) x.outcome
    by (Before others none) = absurd (cc (none, is))
    by (Last u there its same most) =
        let one : record { call = u.call; outcome = u.outcome } ≡ x = ap (λ (o : Option Kept). elim o [ None ↦ x | Some y ↦ y ]) (sym same ∙ is) in
        record {
          update = u;
          there = contains-taken (replica_of p d).applied settled u there;
          named = let call : u.call ≡ x.call = ap (λ (k : Kept). k.call) one in λ i. record { caller = its i; call = call i };
          ended = ap (λ (k : Kept). k.outcome) one;
        } where
          contains-taken : (n : ℕ) (us : List Update) (u : Update) → Contains (take n us) u → Contains us u
          contains-taken n us u there = let found = contained-get (take n us) u there in get-contained us found.0 u (get-taken n us found.0 u found.1)

  -- what a call that is told to be gone has of its caller's last
  fate-applied : (adopted : Bool) (caller call : ℕ) (o : Option Kept) → fate_from adopted call o ≡ says.Gone
      → (o ≡ None) ⊎ ((x : Kept) × (o ≡ Some x) × (x.call < call))
  fate-applied adopted caller call None is = inl refl
  fate-applied adopted caller call (Some x) is = inr (x, refl, by (x.call == call) refl (nat_lt call x.call) refl is) where
    by : (a : Bool) → (x.call == call) ≡ a → (b : Bool) → nat_lt call x.call ≡ b
        → (if a then says.Reply (reply_from x.outcome) else (if b then says.Stale x.call else gone_or adopted)) ≡ says.Gone → x.call < call
    by true one b test is = absurd (cc is)
    by false one true test is = absurd (cc is)
    by false one false test is =
        let most : x.call ≤ call = grind (arith, common_steps) in
        let other : x.call ≢ call = λ same. let e : (x.call == call) ≡ true = eq-eqb x.call call same in cc (e, one) in omega (arith, most, other)

  -- a call that is told to be gone has no update in the head's history
  pub gone-unnamed : (caller call : ℕ) → fate_of s caller call d p (Some h) ≡ says.Gone
      → Each (λ u. update_name u ≢ record { caller = caller; call = call }) (history settled (replica_of p d))
  gone-unnamed caller call is = by (is_in_log caller call (replica_of p d).log) refl is where
    named-call : (u : Update) → update_name u ≡ record { caller = caller; call = call } → (u.caller ≡ caller) × (u.call ≡ call)
    named-call u same = (ap (λ (n : CallName). n.caller) same, ap (λ (n : CallName). n.call) same)

    in_log : is_in_log caller call (replica_of p d).log ≡ false → Each (λ u. update_name u ≢ record { caller = caller; call = call }) (replica_of p d).log
    in_log none = each-weaker (λ u. (u.caller == caller && u.call == call) ≡ false) (λ u. update_name u ≢ record { caller = caller; call = call })
        (λ u test same.
        let both = named-call u same in
        let one : (u.caller == caller) ≡ true = eq-eqb u.caller caller both.0 in
        let two : (u.call == call) ≡ true = eq-eqb u.call call both.1 in
        let yes : (u.caller == caller && u.call == call) ≡ true = ap (λ (b : Bool). b && u.call == call) one
        ∙ ap (λ (b : Bool). true && b) two in cc (yes, test))
        (replica_of p d).log (none-passes (λ u. u.caller == caller && u.call == call) (replica_of p d).log none)

    applied : (at None (replica_of p d).kept caller ≡ None) ⊎ ((x : Kept) × (at None (replica_of p d).kept caller ≡ Some x) × (x.call < call))
        → KeptOf caller (take (replica_of p d).applied settled) None (at None (replica_of p d).kept caller)
        → Each (λ u. update_name u ≢ record { caller = caller; call = call }) (take (replica_of p d).applied settled)
    applied found (Before others none) =
        each-weaker (λ u. u.caller ≢ caller) (λ u. update_name u ≢ record { caller = caller; call = call })
        (λ u other same. other (named-call u same).0) (take (replica_of p d).applied settled) others
    applied (inl none) (Last u there its same most) = absurd (cc (none, same))
    applied (inr found) (Last u there its same most) =
        let one : record { call = u.call; outcome = u.outcome } ≡ found.0 =
        ap (λ (o : Option Kept). elim o [ None ↦ found.0 | Some y ↦ y ]) (sym same ∙ found.1) in
        let last : u.call ≡ found.0.call = ap (λ (k : Kept). k.call) one in
        let low = found.2 in
        each-weaker (λ v. v.caller ≡ caller → v.call ≤ u.call) (λ v. update_name v ≢ record { caller = caller; call = call })
        (λ v below name. let both = named-call v name in let most_here = below both.0 in let call_is = both.1 in
        omega arith) (take (replica_of p d).applied settled) most

    by : (b : Bool) → is_in_log caller call (replica_of p d).log ≡ b
        → fate_unless b (fate_from (is_adopted s p h) call (at None (replica_of p d).kept caller)) ≡ says.Gone
        → Each (λ u. update_name u ≢ record { caller = caller; call = call }) (history settled (replica_of p d))
    by true logged is = absurd (cc is)
    by false none is = each-append (λ u. update_name u ≢ record { caller = caller; call = call }) (take (replica_of p d).applied settled) (replica_of p d).log
        (applied (fate-applied (is_adopted s p h) caller call (at None (replica_of p d).kept caller) is) (kept-of caller)) (in_log none)
