-- Histories of replicas: what applying, an update behind, a new head's list and more settled updates make of
-- them.
use Rattle.std.proofs.Common.{ℕ, suc, ◌≡◌, ◌≢◌, ◌<◌, ◌≤◌, ◌+◌, ◌-◌, ◌==◌, nat_lt, max, Bool, true, false, List, [], ◌∷◌}
use Rattle.std.proofs.Common.{◌++◌, length, take, drop, ◌⊎◌, inl, inr, refl, sym, ap, subst, ◌∙◌, append_assoc, arith}
use Rattle.std.proofs.lemmas.Grind.{common_steps}
use Rattle.std.proofs.lemmas.Bool.{cases_lt}
use Rattle.std.proofs.lemmas.List.{append-nil, drop_all, length-append, length-drop, length-take-le, take-append-drop, take-take}
use Rattle.std.proofs.Math.Seq.{drop-append-add, drop_at, take-append-add}
use Rattle.std.specs.Prelude.{cond}
use Rattle.group_message.specs.declared.update.Update.{Update}
use Rattle.group_run.specs.Applying.{Settlement}
use Rattle.group_run.specs.Fitting.{NumberedFrom}
use Rattle.group_run.specs.Heading.{settlements}
use Rattle.group_run.specs.History.{settled_with, history}
use Rattle.group_run.specs.Receiving.{adopting}
use Rattle.group_run.specs.Replica.{Replica, applied_to, last_of, up_to, with_update}
use Rattle.group_run.specs.World.{front_if, new_ones, settled_in}
use Rattle.law_histories.proofs.LaneWords.{Prolongs}

-- numbers
pub numbered-append : (a : ℕ) (us vs : List Update) → NumberedFrom a us → NumberedFrom (a + length us) vs → NumberedFrom a (us ++ vs)
numbered-append a [] vs first rest = subst (λ (n : ℕ). NumberedFrom n vs) on rest where
  on : a + 0 ≡ a
  on = omega arith
numbered-append a (u ∷ us) vs first rest = (first.0, numbered-append (suc a) us vs first.1 (subst (λ (n : ℕ). NumberedFrom n vs) on rest)) where
  on : a + suc (length us) ≡ suc a + length us
  on = omega arith

pub numbered-front : (a : ℕ) (us vs : List Update) → NumberedFrom a (us ++ vs) → NumberedFrom a us
numbered-front a [] vs all = tt
numbered-front a (u ∷ us) vs all = (all.0, numbered-front (suc a) us vs all.1)

pub numbered-behind : (a : ℕ) (us vs : List Update) → NumberedFrom a (us ++ vs) → NumberedFrom (a + length us) vs
numbered-behind a [] vs all = subst (λ (n : ℕ). NumberedFrom n vs) on all where
  on : a ≡ a + 0
  on = omega arith
numbered-behind a (u ∷ us) vs all = subst (λ (n : ℕ). NumberedFrom n vs) on (numbered-behind (suc a) us vs all.1) where
  on : suc a + length us ≡ a + suc (length us)
  on = omega arith

-- the last update of a history has the history's length as its number
pub last-number : (us : List Update) (u : Update) → NumberedFrom 1 (us ++ u ∷ []) → u.number ≡ suc (length us)
last-number us u all = let at_last : u.number ≡ 1 + length us = (numbered-behind 1 us (u ∷ []) all).0 in omega (arith, at_last)

-- the lengths of a history
module _ (settled : List Update) (r : Replica) (applied : r.applied ≤ length settled) where
  pub front-long : length (take r.applied settled) ≡ r.applied
  front-long = length-take-le r.applied settled applied

  pub length-history : length (history settled r) ≡ last_of r
  length-history = let long = length-append (take r.applied settled) r.log in omega (arith, long, front-long)

  -- the log is what stands behind what is applied
  pub log-is : drop r.applied (history settled r) ≡ r.log
  log-is = drop_at (take r.applied settled) r.log r.applied front-long

  -- where more is settled the history is the same
  pub history-grown : (more : List Update) → Prolongs settled more → history more r ≡ history settled r
  history-grown more begins =
      ap (λ (us : List Update). us ++ r.log) (sym (take-take r.applied (length settled) more applied)
      ∙ ap (take r.applied) begins.front)

  pub history-with_update : (u : Update) → history settled (with_update u r) ≡ history settled r ++ u ∷ []
  history-with_update u = sym (append_assoc (take r.applied settled) r.log (u ∷ []))

  -- the log has numbers from behind what is applied on
  pub log-numbered : NumberedFrom 1 (history settled r) → NumberedFrom (suc r.applied) r.log
  log-numbered all =
      let on : 1 + length (take r.applied settled) ≡ suc r.applied = omega (arith, front-long) in
      subst (λ (n : ℕ). NumberedFrom n r.log) on (numbered-behind 1 (take r.applied settled) r.log all)

  module _ (n : ℕ) (within : n ≤ last_of r) where
    few : n - r.applied ≤ length r.log
    few = omega (arith, within)

    took : length (up_to n r) ≡ n - r.applied
    took = length-take-le (n - r.applied) r.log few

    -- what is applied is the greater number
    pub applied-is : (applied_to n r).applied ≡ max r.applied n
    applied-is = ap (λ (k : ℕ). r.applied + k) took ∙ omega arith

    pub last-applied : last_of (applied_to n r) ≡ last_of r
    last-applied = let left = length-drop (n - r.applied) r.log in omega (arith, left, took, few)

    pub log-left : length (applied_to n r).log ≡ length r.log - (n - r.applied)
    log-left = length-drop (n - r.applied) r.log

  -- applying moves updates from the log to what is applied, and the history stays
  pub history-applied : Prolongs settled (history settled r) → (n : ℕ) → n ≤ length settled → history settled (applied_to n r) ≡ history settled r
  history-applied prolongs n told =
      let m : ℕ = n - r.applied in
      let long = length-history in
      let reach = prolongs.reaches in
      let short : m ≤ length r.log = omega (arith, long, reach, told) in
      let moved : length (take m r.log) ≡ m = length-take-le m r.log short in
      let cut : take (r.applied + m) settled ≡ take (r.applied + m) (history settled r) =
      ap (take (r.applied + m)) (sym prolongs.front) ∙ take-take (r.applied + m) (length settled) (history settled r) (omega (arith, applied, told)) in
      let added : take (r.applied + m) (history settled r) ≡ take r.applied settled ++ take m r.log =
      ap (λ (k : ℕ). take (k + m) (history settled r)) (sym front-long) ∙ take-append-add (take r.applied settled) r.log m in
      ap (λ (k : ℕ). take (r.applied + k) settled ++ drop m r.log) moved
      ∙ ap (λ (us : List Update). us ++ drop m r.log) (cut ∙ added)
      ∙ append_assoc (take r.applied settled) (take m r.log) (drop m r.log)
      ∙ ap (λ (us : List Update). take r.applied settled ++ us) (take-append-drop m r.log)

-- a new head's list in the place of the log
pub history-adopted : (settled list : List Update) (base : ℕ) (r : Replica) → r.applied ≤ length settled
    → base ≤ r.applied → (whole : List Update) → base ≤ length whole
    → Prolongs settled (take base whole ++ list) → history settled (adopting base list r) ≡ take base whole ++ list
history-adopted settled list base r applied low whole long prolongs =
    let c : ℕ = r.applied in
    let all : List Update = take base whole ++ list in
    let front : take c settled ≡ take c all = ap (take c) (sym prolongs.front) ∙ take-take c (length settled) all applied in
    let base_long : length (take base whole) ≡ base = length-take-le base whole long in
    let behind : drop (c - base) list ≡ drop c all =
    sym (ap (λ (k : ℕ). drop k all) (omega (arith, base_long, low)) ∙ drop-append-add (take base whole) list
    (c - base)) in
    (λ i. front i ++ behind i) ∙ take-append-drop c all

-- what is settled in a partition
pub settled-in-own : (d : ℕ) (us : List Update) → settled_in d (settlements d us) ≡ us
settled-in-own d [] = refl
settled-in-own d (u ∷ us) =
    let own : (d == d) ≡ true = grind (arith, common_steps) in
    ap (λ (b : Bool). front_if b u (settled_in d (settlements d us))) own ∙ ap (λ (rest : List Update). u ∷ rest) (settled-in-own d us)

pub settled-in-other : (d e : ℕ) (us : List Update) → e ≢ d → settled_in d (settlements e us) ≡ []
settled-in-other d e [] other = refl
settled-in-other d e (u ∷ us) other =
    let not_own : (e == d) ≡ false = grind (arith, common_steps) in
    ap (λ (b : Bool). front_if b u (settled_in d (settlements e us))) not_own ∙ settled-in-other d e us other

pub settled-in-append : (d : ℕ) (a b : List Settlement) → settled_in d (a ++ b) ≡ settled_in d a ++ settled_in d b
settled-in-append d [] b = refl
settled-in-append d (x ∷ xs) b = by (x.partition == d) (settled-in-append d xs b) where
  by : (t : Bool) → settled_in d (xs ++ b) ≡ settled_in d xs ++ settled_in d b
      → front_if t x.update (settled_in d (xs ++ b)) ≡ front_if t x.update (settled_in d xs) ++ settled_in d b
  by true rest = ap (λ (us : List Update). x.update ∷ us) rest
  by false rest = rest

-- of updates with consecutive numbers those are new that stand behind number c
all-new : (c a : ℕ) (us : List Update) → NumberedFrom (suc a) us → c ≤ a → new_ones c us ≡ us
all-new c a [] all low = refl
all-new c a (u ∷ us) all low =
    let is : u.number ≡ suc a = all.0 in
    let above : nat_lt c u.number ≡ true = grind (arith, common_steps) in
    ap (λ (b : Bool). cond b (u ∷ new_ones c us) (new_ones c us)) above ∙ ap (λ (rest : List Update). u ∷ rest) (all-new c (suc a) us all.1 (omega arith))

pub new-behind : (c a : ℕ) (us : List Update) → NumberedFrom (suc a) us → a ≤ c → new_ones c us ≡ drop (c - a) us
new-behind c a [] all low = sym (drop_all (c - a) [] (omega arith))
new-behind c a (u ∷ us) all low = by (cases_lt a c) (λ less. new-behind c (suc a) us all.1 less) where
  is : u.number ≡ suc a
  is = all.0

  by : (a < c) ⊎ (c ≤ a) → (suc a ≤ c → new_ones c us ≡ drop (c - suc a) us) → new_ones c (u ∷ us) ≡ drop (c - a) (u ∷ us)
  by (inr same) rest = let none : c - a ≡ 0 = omega arith in all-new c a (u ∷ us) all same ∙ sym (ap (λ (k : ℕ). drop k (u ∷ us)) none)
  by (inl less) rest =
      let below : nat_lt c u.number ≡ false = grind (arith, common_steps) in
      let on : c - a ≡ suc (c - suc a) = omega arith in
      ap (λ (b : Bool). cond b (u ∷ new_ones c us) (new_ones c us)) below ∙ rest (omega arith) ∙ sym (ap (λ (k : ℕ). drop k (u ∷ us)) on)

-- what is settled after a head settled up to number n: its history up to there, if that is more
pub settled-more : (d n : ℕ) (settled : List Update) (r : Replica) (applied : r.applied ≤ length settled)
    → Prolongs settled (history settled r) → NumberedFrom 1 (history settled r)
    → length settled ≤ n → n ≤ last_of r → settled_with (settlements d (up_to n r)) d settled ≡ take n (history settled r)
settled-more d n settled r applied prolongs numbers more within =
    let c : ℕ = length settled in
    let a : ℕ = r.applied in
    let m : ℕ = n - a in
    let new : new_ones c (settled_in d (settlements d (up_to n r))) ≡ drop (c - a) (take m r.log) =
    ap (new_ones c) (settled-in-own d (up_to n r))
    ∙ new-behind c a (take m r.log)
    (numbered-front (suc a) (take m r.log) (drop m r.log) (subst (NumberedFrom (suc a)) (sym (take-append-drop m r.log))
    (log-numbered settled r applied numbers))) applied in
    let split : m ≡ (c - a) + (n - c) = omega (arith, more, applied) in
    let long = front-long settled r applied in
    let front : settled ≡ take a settled ++ take (c - a) r.log =
    sym prolongs.front ∙ ap (λ (k : ℕ). take k (history settled r)) (omega (arith, long, applied)) ∙ take-append-add (take a settled) r.log (c - a) in
    let cut : take (c - a) (take m r.log) ≡ take (c - a) r.log = take-take (c - a) m r.log (omega (arith, more)) in
    ap (λ (us : List Update). settled ++ us) new
    ∙ ap (λ (us : List Update). us ++ drop (c - a) (take m r.log)) (front ∙ ap (λ (us : List Update). take a settled ++ us) (sym cut))
    ∙ append_assoc (take a settled) (take (c - a) (take m r.log)) (drop (c - a) (take m r.log))
    ∙ ap (λ (us : List Update). take a settled ++ us) (take-append-drop (c - a) (take m r.log))
    ∙ sym (ap (λ (k : ℕ). take k (history settled r)) (omega (arith, long, more, applied)) ∙ take-append-add (take a settled) r.log m)

-- nothing more is settled up to a number that was
pub settled-no-more : (d n : ℕ) (settled : List Update) (r : Replica) (applied : r.applied ≤ length settled)
    → Prolongs settled (history settled r) → NumberedFrom 1 (history settled r)
    → n ≤ length settled → settled_with (settlements d (up_to n r)) d settled ≡ settled
settled-no-more d n settled r applied prolongs numbers low =
    let c : ℕ = length settled in
    let a : ℕ = r.applied in
    let m : ℕ = n - a in
    let long = length-history settled r applied in
    let reach = prolongs.reaches in
    let few : m ≤ length r.log = omega (arith, long, reach, low) in
    let taken : length (take m r.log) ≡ m = length-take-le m r.log few in
    let new : new_ones c (settled_in d (settlements d (up_to n r))) ≡ [] =
    ap (new_ones c) (settled-in-own d (up_to n r))
    ∙ new-behind c a (take m r.log)
    (numbered-front (suc a) (take m r.log) (drop m r.log) (subst (NumberedFrom (suc a)) (sym (take-append-drop m r.log))
    (log-numbered settled r applied numbers))) applied
    ∙ drop_all (c - a) (take m r.log) (omega (arith, taken, low)) in
    ap (λ (us : List Update). settled ++ us) new ∙ append-nil settled
