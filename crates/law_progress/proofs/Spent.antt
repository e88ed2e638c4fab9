-- Where a session has no token of a partition, or one at a process, nothing of it is on its way.
use Rattle.std.proofs.Common.{◌≡◌, ◌≢◌, ℕ, ◌+◌, ◌<◌, ◌≤◌, Bool, true, false, List, [], ◌∷◌, Option, Some, None}
use Rattle.std.proofs.Common.{option_map, ◌⊎◌, inl, inr, refl, sym, ap, subst, ◌∙◌, if◌then◌else◌, arith}
use Rattle.std.proofs.lemmas.Bool.{eq-eqb}
use Rattle.group_types.specs.Dimensions.{Dimensions}
use Rattle.group_types.specs.Names.{IsProcess, same_process}
use Rattle.group_types.specs.declared.process.ProcessId.{ProcessId}
use Rattle.group_types.specs.declared.process.ProcessId.TheVariants.{DataNode, ParityNode}
use Rattle.group_types.proofs.Names.{same-cases, same-ne, same-refl}
use Rattle.group_types.specs.Each.{Each}
use Rattle.group_message.specs.declared.message.Message.{Message}
use Rattle.group_message.specs.declared.message.Message.TheVariants as tells
use Rattle.group_run.specs.Process.{Copy}
use Rattle.group_run.specs.Rows.{copy_in}
use Rattle.law_moves.specs.State.{State}
use Rattle.law_bytes.proofs.Finding.{and-join}
use Rattle.law_bytes.proofs.Tokens.{Row, Token, around, at_process, between, everyone, in_copy, in_link, is_marked_in, is_token, sum_of, tokens}
use Rattle.law_bytes.proofs.Sums.{sum-less, within-everyone, sum-at, bit-off}
use Rattle.law_bytes.proofs.Nothing.{copy-none, link-none, named-so, token}
use Rattle.law_progress.proofs.Waiting.{Has, AsksForBlock, IsMark, IsRow, Marked, marks_in}

-- none of a list is so
pub each-not : {X : Type 0} (P Q : X → Type 0) → ((x : X) → P x → Q x) → (xs : List X) → Each (λ x. Q x → ⊥) xs → Has P xs → ⊥
each-not P Q turn [] none has = has
each-not P Q turn (x ∷ xs) none (inl here) = none.0 (turn x here)
each-not P Q turn (x ∷ xs) none (inr there) = each-not P Q turn xs none.1 there

module _ (s : Dimensions) (l n r : ℕ) where
  pub ask-token : (e : ℕ) (x : ProcessId) (m : Message) → AsksForBlock l n r m → is_token (token l n e (Row r)) x (DataNode e) m ≡ true
  ask-token e x (tells.Update _ _ _ _) is = absurd is
  ask-token e x (tells.Ack _ _ _) is = absurd is
  ask-token e x (tells.Stable _ _ _) is = absurd is
  ask-token e x (tells.Adopt _ _ _ _) is = absurd is
  ask-token e x (tells.ReadBlock session block rows) is = and-join _ _ (named-so s l n e (Row r) session is.0) (same-refl (DataNode e))
  ask-token e x (tells.Block _ _ _) is = absurd is
  ask-token e x (tells.Mark _ _ _ _ _) is = absurd is
  ask-token e x (tells.Row _ _ _) is = absurd is
  ask-token e x (tells.Cease _) is = absurd is
  ask-token e x (tells.Notice _) is = absurd is

  pub mark-token : (d : ℕ) (x : ProcessId) (m : Message) → IsMark l n d m → is_token (token l n d (Row r)) x (ParityNode r) m ≡ true
  mark-token d x (tells.Update _ _ _ _) is = absurd is
  mark-token d x (tells.Ack _ _ _) is = absurd is
  mark-token d x (tells.Stable _ _ _) is = absurd is
  mark-token d x (tells.Adopt _ _ _ _) is = absurd is
  mark-token d x (tells.ReadBlock _ _ _) is = absurd is
  mark-token d x (tells.Block _ _ _) is = absurd is
  mark-token d x (tells.Mark session rank block e number) is = and-join _ _ (named-so s l n d (Row r) session is.0)
      (and-join _ _ (eq-eqb e.0 d is.1) (same-refl (ParityNode r)))
  mark-token d x (tells.Row _ _ _) is = absurd is
  mark-token d x (tells.Cease _) is = absurd is
  mark-token d x (tells.Notice _) is = absurd is

  pub row-token : (d : ℕ) (q : ProcessId) (m : Message) → IsRow l n m → is_token (token l n d (Row r)) (ParityNode r) q m ≡ true
  row-token d q (tells.Update _ _ _ _) is = absurd is
  row-token d q (tells.Ack _ _ _) is = absurd is
  row-token d q (tells.Stable _ _ _) is = absurd is
  row-token d q (tells.Adopt _ _ _ _) is = absurd is
  row-token d q (tells.ReadBlock _ _ _) is = absurd is
  row-token d q (tells.Block _ _ _) is = absurd is
  row-token d q (tells.Mark _ _ _ _ _) is = absurd is
  row-token d q (tells.Row session bytes stamp) is = and-join _ _ (named-so s l n d (Row r) session is) (same-refl (ParityNode r))
  row-token d q (tells.Cease _) is = absurd is
  row-token d q (tells.Notice _) is = absurd is

  module _ (v : State) where
    -- a marked copy is a token
    pub marked-token : (d : ℕ) → (v.process (ParityNode r)).name ≡ ParityNode r → Marked d (marks_in (v.process (ParityNode r)) l n)
        → in_copy (token l n d (Row r)) (Row r) (v.process (ParityNode r)) ≡ true
    marked-token d name held =
        and-join _ _ (ap (λ (y : ProcessId). same_process y (ParityNode r)) name ∙ same-refl (ParityNode r))
        (by (copy_in (v.process (ParityNode r)).as_row.copies l n) refl held) where
          by : (o : Option Copy) → copy_in (v.process (ParityNode r)).as_row.copies l n ≡ o → Marked d (option_map (λ c. c.marks) o) → is_marked_in d o ≡ true
          by None is marked = absurd marked
          by (Some c) is marked = marked

    -- where there is none
    module _ (d : ℕ) (none : tokens s v (token l n d (Row r)) ≤ 0) where
      pub no-mark : (a : ProcessId) → IsProcess s a → r < s.m → a ≢ ParityNode r → v.dead (ParityNode r) ≡ false
          → Has (IsMark l n d) (v.link a (ParityNode r)) → ⊥
      no-mark a ain rin apart lives has =
          each-not (IsMark l n d) (λ m. is_token (token l n d (Row r)) a (ParityNode r) m ≡ true) (mark-token d a) (v.link a (ParityNode r))
          (link-none s v (token l n d (Row r)) none a (ParityNode r) ain rin apart lives) has

      pub no-ask : l < s.m → d < s.k → v.dead (DataNode d) ≡ false → Has (AsksForBlock l n r) (v.link (ParityNode l) (DataNode d)) → ⊥
      no-ask lin low lives has =
          each-not (AsksForBlock l n r) (λ m. is_token (token l n d (Row r)) (ParityNode l) (DataNode d) m ≡ true)
          (ask-token d (ParityNode l)) (v.link (ParityNode l) (DataNode d))
          (link-none s v (token l n d (Row r)) none (ParityNode l) (DataNode d) lin low (λ same. cc same) lives) has

      pub no-copy : r < s.m → v.dead (ParityNode r) ≡ false → (v.process (ParityNode r)).name ≡ ParityNode r
          → Marked d (marks_in (v.process (ParityNode r)) l n) → ⊥
      no-copy rin lives name held = copy-none s v (token l n d (Row r)) none (ParityNode r) rin lives (marked-token d name held)

-- where a process has the one token no link has it
module _ (s : Dimensions) (v : State) (k : Token) (few : tokens s v k ≤ 1) (q : ProcessId) (qin : IsProcess s q)
    (lives : v.dead q ≡ false) (has : 1 ≤ at_process k (v.process q)) where
  -- all but what the process has
  rest : ProcessId → ℕ
  rest p = if same_process p q then sum_of (everyone s) (between v k q) else around s v k p

  rest-other : (p : ProcessId) → p ≢ q → rest p ≡ around s v k p
  unfolding rest
  rest-other p other = ap (λ (b : Bool). if b then sum_of (everyone s) (between v k q) else around s v k p) (same-ne p q other)

  rest-here : rest q ≡ sum_of (everyone s) (between v k q)
  unfolding rest
  rest-here = ap (λ (b : Bool). if b then sum_of (everyone s) (between v k q) else around s v k q) (same-refl q)

  around-here : around s v k q ≡ at_process k (v.process q) + sum_of (everyone s) (between v k q)
  around-here = ap (λ (b : Bool). if b then 0 else at_process k (v.process q) + sum_of (everyone s) (between v k q)) lives

  rest-le : (p : ProcessId) → rest p ≤ around s v k p
  rest-le p = by (same-cases p q) where
    by : (p ≡ q) ⊎ (p ≢ q) → rest p ≤ around s v k p
    by (inr other) = let is = rest-other p other in omega (arith, is)
    by (inl same) = subst (λ (y : ProcessId). rest y ≤ around s v k y) (sym same) (let a = rest-here in let b = around-here in omega (arith, a, b))

  rest-none : sum_of (everyone s) rest ≤ 0
  rest-none =
      let less = sum-less (everyone s) (around s v k) rest q (at_process k (v.process q)) (within-everyone s q qin) (λ p there. rest-le p)
      (let a = rest-here in let b = around-here in omega (arith, a, b)) in
      omega (arith, less, few, has)

  off : (a b : ProcessId) (ms : List Message) → in_link k a b ms ≤ 0 → Each (λ m. is_token k a b m ≡ true → ⊥) ms
  off a b [] low = tt
  off a b (m ∷ ms) low = (bit-off (is_token k a b m) (omega (arith, low)), off a b ms (omega (arith, low)))

  pub link-off : (a b : ProcessId) → IsProcess s a → IsProcess s b → a ≢ b → v.dead b ≡ false → Each (λ m. is_token k a b m ≡ true → ⊥) (v.link a b)
  link-off a b ain bin apart b_lives = off a b (v.link a b) (by (same-cases b q)) where
    linked : between v k b a ≡ in_link k a b (v.link a b)
    linked = ap (λ (c : Bool). if c then 0 else in_link k a b (v.link a b)) (same-ne a b apart)

    by : (b ≡ q) ⊎ (b ≢ q) → in_link k a b (v.link a b) ≤ 0
    by (inl same) =
        let none = rest-none in
        let one = sum-at (everyone s) rest q (within-everyone s q qin) in
        let here = rest-here in
        let sum = sum-at (everyone s) (between v k b) a (within-everyone s a ain) in
        let moved : sum_of (everyone s) (between v k b) ≡ sum_of (everyone s) (between v k q) =
        ap (λ (y : ProcessId). sum_of (everyone s) (between v k y)) same in
        let it = linked in
        omega (arith, none, one, here, sum, moved, it)
    by (inr other) =
        let none = rest-none in
        let one = sum-at (everyone s) rest b (within-everyone s b bin) in
        let here = rest-other b other in
        let is : around s v k b ≡ at_process k (v.process b) + sum_of (everyone s)
        (between v k b) = ap (λ (c : Bool). if c then 0 else at_process k (v.process b) + sum_of (everyone s) (between v k b)) b_lives in
        let sum = sum-at (everyone s) (between v k b) a (within-everyone s a ain) in
        let it = linked in
        omega (arith, none, one, here, is, sum, it)
