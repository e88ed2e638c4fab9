-- What the account of a transcript's first lines says of the turns that they tell.
use Rattle.std.proofs.Common.{◌≡◌, ◌≢◌, ◌⊎◌, inl, inr, ◌<◌, ◌≤◌, ◌+◌, ◌==◌, ℕ, zero, suc, true, List, [], ◌∷◌, ◌++◌}
use Rattle.std.proofs.Common.{◌∙◌, length, slice_get, Option, Some, None, refl, ap, arith, if◌then◌else◌}
use Rattle.std.proofs.lemmas.Bool.{cases_eq}
use Rattle.std.proofs.lemmas.Bool.Decides.{nat_tests}
use Rattle.std.proofs.lemmas.List.{length-append}
use Rattle.group_types.proofs.Lists.{at-put, at-put-other}
use Rattle.group_types.specs.Lists.{at}
use Rattle.group_types.specs.declared.run.Run.{Run}
use Rattle.memc_table.specs.Asked.{Asked}
use Rattle.memc_table.specs.declared.reply.Reply.{Reply}
use Rattle.group_calls.specs.Turns.{CallName, call_entry, name_of}
use Rattle.group_calls.specs.declared.entry.Entry.{Entry}
use Rattle.run_verify.specs.Passing.{Account, account_after_entry, call_named, takes_effect, with_call_added, with_reply}
use Rattle.run_verify.specs.Sheet.{Sheet}
use Rattle.run_verify.specs.declared.call.Call.{Call}
use Rattle.run_verify.proofs.ImpliedHeads.{Head, IsAsked, asks_by, get-cases, get-last, get-push}

-- the entry of a call, once it was logged, stands behind its ask
abbrev pub LoggedBehind : Head → List Entry → CallName → Call → Type 0
LoggedBehind h log name call = (reply : Reply) → call.reply ≡ Some reply → (place : ℕ)
    × (slice_get log place ≡ Some (call_entry name call.op reply)) × (h.start ≤ place)

-- a call was asked by a head
pub record AskedBy (hs : List Head) (log : List Entry) (name : CallName) (call : Call) : Type 0 where
  pub j : ℕ
  pub head : Head
  pub ask : IsAsked hs j head name call.op
  pub taken : call.taken ≡ takes_effect head.answer
  pub logged : LoggedBehind head log name call

-- the call of an ask
pub record Called (a : Account) (h : Head) (name : CallName) (op : Asked) : Type 0 where
  pub call : Call
  pub is : call_named a name ≡ Some call
  pub op_is : call.op ≡ op
  pub taken : call.taken ≡ takes_effect h.answer

-- the call of an entry that was logged
abbrev pub call_with : Entry → Option Reply → Call
call_with e reply = record { op = e.op; taken = true; reply = reply }

pub record Stands (a : Account) (hs : List Head) (log : List Entry) : Type 0 where
  pub many : (c : ℕ) → length (at [] a.calls c) ≡ asks_by c hs
  pub starts : (j : ℕ) (h : Head) → slice_get hs j ≡ Some h → h.start ≤ length log
  pub asked : (name : CallName) (call : Call) → call_named a name ≡ Some call → AskedBy hs log name call
  pub called : (j : ℕ) (h : Head) (name : CallName) (op : Asked) → IsAsked hs j h name op → Called a h name op
  pub logged : (i : ℕ) (e : Entry) → slice_get log i ≡ Some e → call_named a (name_of e) ≡ Some (call_with e (Some e.reply))
  pub once : (i j : ℕ) (d e : Entry) → i < j → slice_get log i ≡ Some d → slice_get log j ≡ Some e → name_of d ≢ name_of e

-- names are equal or not
pub same_name : (n m : CallName) → (n ≡ m) ⊎ (n ≢ m)
same_name n m = elim (cases_eq n.caller m.caller) [
  | inl c ↦ elim (cases_eq n.call m.call) [
    | inl k ↦ inl (let e : record { caller = n.caller; call = n.call } ≡ record { caller = m.caller; call = m.call } = cc (c, k) in e)
    | inr other ↦ inr (λ e. other (ap (λ (x : CallName). x.call) e))
  ]
  | inr other ↦ inr (λ e. other (ap (λ (x : CallName). x.caller) e))
]

-- ---- another call

pub call-kept : (a : Account) (caller : ℕ) (c : Call) (name : CallName) (call : Call) → call_named a name ≡ Some call
    → call_named (with_call_added a caller c) name ≡ Some call
call-kept a caller c name call is = elim (cases_eq name.caller caller) [
  | inl same ↦ rw (same, at-put [] [] a.calls caller (at [] a.calls caller ++ c ∷ [])) (get-push (at [] a.calls caller) c name.call call (rw same at is))
  | inr other ↦ rw (at-put-other [] a.calls caller name.caller (at [] a.calls caller ++ c ∷ []) other) is
]

pub call-new : (a : Account) (caller : ℕ) (c : Call) (name : CallName) → name.caller ≡ caller
    → name.call ≡ length (at [] a.calls caller) → call_named (with_call_added a caller c) name ≡ Some c
call-new a caller c name same last = rw (same, last, at-put [] [] a.calls caller (at [] a.calls caller ++ c ∷ [])) (get-last (at [] a.calls caller) c)

pub call-cases : (a : Account) (caller : ℕ) (c : Call) (name : CallName) (call : Call) → call_named (with_call_added a caller c) name ≡ Some call
    → (call_named a name ≡ Some call) ⊎ ((name.caller ≡ caller) × (name.call ≡ length (at [] a.calls caller)) × (call ≡ c))
call-cases a caller c name call is = elim (cases_eq name.caller caller) [
  | inl same ↦ elim (get-cases (at [] a.calls caller) c name.call call (rw (same, at-put [] [] a.calls caller (at [] a.calls caller ++ c ∷ [])) at is)) [
    | inl before ↦ inl (rw same before)
    | inr last ↦ inr (same, last.0, last.1)
  ]
  | inr other ↦ inl (rw (at-put-other [] a.calls caller name.caller (at [] a.calls caller ++ c ∷ []) other) at is)
]

pub many-call : (a : Account) (caller : ℕ) (c : Call) (n : ℕ) → length (at [] (with_call_added a caller c).calls n)
    ≡ (if caller == n then 1 else 0) + length (at [] a.calls n)
many-call a caller c n = elim (cases_eq n caller) [
  | inl same ↦ rw (same, at-put [] [] a.calls caller (at [] a.calls caller ++ c ∷ []))
      (length-append (at [] a.calls caller) (c ∷ []) ∙ grind (arith, nat_tests))
  | inr other ↦ rw (at-put-other [] a.calls caller n (at [] a.calls caller ++ c ∷ []) other) (grind (arith, nat_tests, other))
]

-- ---- an entry's reply

length-reply : (calls : List Call) (n : ℕ) (r : Reply) → length (with_reply calls n r) ≡ length calls
length-reply [] n r = refl
length-reply (c ∷ calls) zero r = refl
length-reply (c ∷ calls) (suc n) r = ap suc (length-reply calls n r)

reply-here : (calls : List Call) (n : ℕ) (r : Reply) (call : Call) → slice_get calls n ≡ Some call
    → slice_get (with_reply calls n r) n ≡ Some (record { op = call.op; taken = call.taken; reply = Some r })
reply-here [] n r call is = cc is
reply-here (c ∷ calls) zero r call is = let e : c ≡ call = cc is in rw e refl
reply-here (c ∷ calls) (suc n) r call is = reply-here calls n r call is

reply-other : (calls : List Call) (n m : ℕ) (r : Reply) → m ≢ n → slice_get (with_reply calls n r) m ≡ slice_get calls m
reply-other (c ∷ calls) zero zero r other = absurd (other refl)
reply-other (c ∷ calls) (suc n) (suc m) r other = reply-other calls n m r (λ e. other (cc e))
reply-other xs n m r other = refl

pub entry-there : (sheet : Sheet) (a : Account) (e : Entry) (run : Option Run)
    → call_named a (name_of e) ≡ Some (call_with e None) → call_named (account_after_entry sheet a e run) (name_of e)
    ≡ Some (call_with e (Some e.reply))
entry-there sheet a e run is =
    rw (at-put [] [] a.calls e.caller (with_reply (at [] a.calls e.caller) e.call e.reply))
    (reply-here (at [] a.calls e.caller) e.call e.reply (call_with e None) is)

pub entry-other : (sheet : Sheet) (a : Account) (e : Entry) (run : Option Run) (name : CallName) → name ≢ name_of e
    → call_named (account_after_entry sheet a e run) name ≡ call_named a name
entry-other sheet a e run name other = elim (cases_eq name.caller e.caller) [
  | inl same ↦
      let call : name.call ≢ e.call =
      λ k. other (let eq : record { caller = name.caller; call = name.call }
      ≡ record { caller = e.caller; call = e.call } = cc (same, k) in eq) in
      rw (same, at-put [] [] a.calls e.caller (with_reply (at [] a.calls e.caller) e.call e.reply))
      (reply-other (at [] a.calls e.caller) e.call name.call e.reply call)
  | inr apart ↦ rw (at-put-other [] a.calls e.caller name.caller (with_reply (at [] a.calls e.caller) e.call e.reply) apart) refl
]

pub many-entry : (sheet : Sheet) (a : Account) (e : Entry) (run : Option Run) (n : ℕ)
    → length (at [] (account_after_entry sheet a e run).calls n) ≡ length (at [] a.calls n)
many-entry sheet a e run n = elim (cases_eq n e.caller) [
  | inl same ↦ rw (same, at-put [] [] a.calls e.caller (with_reply (at [] a.calls e.caller) e.call e.reply))
      (length-reply (at [] a.calls e.caller) e.call e.reply)
  | inr other ↦ rw (at-put-other [] a.calls e.caller n (with_reply (at [] a.calls e.caller) e.call e.reply) other) refl
]
