-- The lists in vectors.
use Rattle.std.proofs.Common.{◌≡◌, ◌<◌, ℕ, zero, suc, Some, List, [], ◌∷◌, ◌++◌, Vec, Global, length, get_or, set, sym, ap, ◌∙◌, arith}
use Rattle.std.proofs.lemmas.List.{length-map, map-set}
use Rattle.group_types.specs.Lists.{at, put}
use Rattle.group_types.proofs.Lists.{at-map, at_index, set_put}
use Rattle.memc_table.specs.declared.reply.Reply.{Reply}
use Rattle.run_verify.specs.Accounts.{lists_of}
use Rattle.run_verify.specs.Passing.{with_reply}
use Rattle.run_verify.specs.declared.call.Call.{Call}

module _ {X : Type 0} (vs : List (Vec X Global)) (i : ℕ) (v : Vec X Global) (below : i < length vs) where
  pub list_at : (get_or vs i v).items ≡ at [] (lists_of vs) i
  list_at = ap (λ (q : Vec X Global). q.items) (sym (at_index v v vs i below)) ∙ sym (at-map v [] (λ (p : Vec X Global). p.items) vs i below)

  pub list_set : (w : Vec X Global) → lists_of (set vs i w) ≡ put [] (lists_of vs) i w.items
  list_set w = let long = length-map vs (λ (p : Vec X Global). p.items) in
      map-set (λ (p : Vec X Global). p.items) vs i w ∙ set_put [] (lists_of vs) i w.items (omega (arith, long, below))

  pub list_more : (w : Vec X Global) (x : X) → v ≡ get_or vs i v → w.items ≡ v.items ++ x ∷ []
      → lists_of (set vs i w) ≡ put [] (lists_of vs) i (at [] (lists_of vs) i ++ x ∷ [])
  list_more w x same more = list_set w
      ∙ ap (put [] (lists_of vs) i) (more ∙ ap (λ (q : Vec X Global). q.items ++ x ∷ []) same
      ∙ ap (λ (xs : List X). xs ++ x ∷ []) list_at)

  pub list_here : v ≡ get_or vs i v → v.items ≡ at [] (lists_of vs) i
  list_here same = ap (λ (q : Vec X Global). q.items) same ∙ list_at

-- a reply is set at a call
pub reply_set : (cs : List Call) (i : ℕ) (c : Call) (r : Reply) → i < length cs → c ≡ get_or cs i c
    → set cs i (record { op = c.op; taken = c.taken; reply = Some r }) ≡ with_reply cs i r
reply_set [] i c r below same = absurd (omega arith)
reply_set (x ∷ xs) zero c r below same = ap (λ (y : Call). record { op = y.op; taken = y.taken; reply = Some r } ∷ xs) same
reply_set (x ∷ xs) (suc i) c r below same = ap (λ (ys : List Call). x ∷ ys) (reply_set xs i c r (omega arith) same)
