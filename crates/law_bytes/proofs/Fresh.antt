-- What a session's tokens say of marks.
use Rattle.std.proofs.Common.{◌≡◌, ◌≢◌, ℕ, suc, ◌+◌, ◌<◌, ◌≤◌, nat_lt, Bool, true, false, is_some, List, ◌∷◌, Option}
use Rattle.std.proofs.Common.{Some, None, IfSome, ◌⊎◌, inl, inr, sym, ap, subst, ◌∙◌, refl, arith, if◌then◌else◌}
use Rattle.std.proofs.lemmas.Bool.{cases_lt, eq-eqb}
use Rattle.std.proofs.lemmas.Grind.{common_steps}
use Rattle.group_types.specs.Dimensions.{Dimensions}
use Rattle.group_types.specs.Lists.{at}
use Rattle.group_types.specs.Names.{IsProcess, same_process}
use Rattle.group_types.specs.declared.process.ProcessId.{ProcessId}
use Rattle.group_types.specs.declared.process.ProcessId.TheVariants.{DataNode, ParityNode}
use Rattle.group_types.proofs.Names.{same-ne, same-refl}
use Rattle.group_types.specs.Each.{Each}
use Rattle.group_message.specs.declared.message.Message.{Message}
use Rattle.group_message.specs.declared.message.Message.TheVariants as tells
use Rattle.group_message.specs.declared.message.Session.{Session}
use Rattle.group_run.specs.Process.{Copy}
use Rattle.group_run.specs.Rows.{copy_in, parity_number}
use Rattle.law_moves.specs.State.{State}
use Rattle.law_moves.proofs.Runs.{holds_always}
use Rattle.law_moves.proofs.Members.{IsParity, MayStand}
use Rattle.law_bytes.proofs.Finding.{and-join}
use Rattle.law_bytes.proofs.FreshWords.{IsUnmarked, MarksAlwaysNew, MarksAreNew}
use Rattle.law_bytes.proofs.Tokens.{Row, Token, Way, around, at_process, between, everyone, in_copy, in_link, is_marked_in, is_token, one_if, sum_of, tokens}
use Rattle.law_bytes.proofs.TokensKeeping.{Carried, keeps}
use Rattle.law_bytes.proofs.Local.{Fact}
use Rattle.law_bytes.proofs.Sums.{within-everyone, sum-at}

no-mark : (o : Option ℕ) → (is_some o ≡ true → ⊥) → o ≡ None
no-mark None no_some = refl
no-mark (Some n) no_some = absurd (no_some refl)

if-none : (d : ℕ) (o : Option Copy) → (is_marked_in d o ≡ true → ⊥) → IfSome o (λ c. at None c.marks d ≡ None)
if-none d None never = tt
if-none d (Some c) never = no-mark (at None c.marks d) never

module _ (s : Dimensions) (v : State) (carried : Carried s v) where
  -- what a living process has, and what comes to it, is among all
  around-at : (t : Token) (p : ProcessId) → IsProcess s p → v.dead p ≡ false → at_process t (v.process p) + sum_of (everyone s) (between v t p) ≤ tokens s v t
  around-at t p pin lives =
      let is : around s v t p ≡ at_process t (v.process p) + sum_of (everyone s)
      (between v t p) = ap (λ (b : Bool). if b then 0 else at_process t (v.process p) + sum_of (everyone s) (between v t p)) lives in
      let less = sum-at (everyone s) (around s v t) p (within-everyone s p pin) in
      omega (arith, is, less)

  bit-on : (b : Bool) → b ≡ true → one_if b ≡ 1
  bit-on b is = ap one_if is

  marked-at : (t : Token) (r : ℕ) (p : ProcessId) → t.way ≡ Row r → (v.process p).name ≡ ParityNode r
      → is_marked_in t.partition (copy_in (v.process p).as_row.copies t.leader t.number) ≡ true → 1 ≤ at_process t (v.process p)
  marked-at t r p way name marked =
      let there : in_copy t t.way (v.process p) ≡ true = ap (λ (w : Way). in_copy t w (v.process p)) way
      ∙ and-join _ _ (ap (λ (x : ProcessId). same_process x (ParityNode r)) name ∙ same-refl (ParityNode r)) marked in
      let one = bit-on (in_copy t t.way (v.process p)) there in
      omega (arith, one)

  few : (t : Token) → t.partition < s.k → tokens s v t ≤ 1
  few t below = by (cases_lt t.leader s.m) where
    high : (b : Bool) → one_if b ≤ 1
    high true = omega arith
    high false = omega arith

    by : (t.leader < s.m) ⊎ (s.m ≤ t.leader) → tokens s v t ≤ 1
    by (inl inside) = let less = carried.tokens t below inside in let one =
        high (nat_lt t.number (suc (v.process (ParityNode t.leader)).as_leader.last_session)) in
        omega (arith, less, one)
    by (inr outside) = let none = carried.strangers t below outside in omega (arith, none)

  -- a mark on its way isn't made yet
  mark-unmarked : (x : ProcessId) (i l : ℕ) (session : Session) (rank block d n : ℕ) (rest : List Message)
      → IsProcess s x → i < s.m → x ≢ ParityNode i → v.dead (ParityNode i) ≡ false
      → session.leader ≡ ParityNode l → d < s.k
      → v.link x (ParityNode i) ≡ tells.Mark session (record { 0 = rank }) block (record { 0 = d }) n ∷ rest
      → (v.process (ParityNode i)).name ≡ ParityNode i
      → IfSome (copy_in (v.process (ParityNode i)).as_row.copies l session.number) (λ c. at None c.marks d ≡ None)
  mark-unmarked x i l session rank block d n rest xin iin apart lives leads below first name =
      if-none d (copy_in (v.process (ParityNode i)).as_row.copies l session.number) never where
        t : Token
        t = record { leader = l; number = session.number; partition = d; way = Row i }

        comes : is_token t x (ParityNode i) (tells.Mark session (record { 0 = rank }) block (record { 0 = d }) n) ≡ true
        comes = and-join _ _
            (and-join _ _ (ap (λ (y : ProcessId). same_process y (ParityNode l)) leads ∙ same-refl (ParityNode l))
            (eq-eqb session.number session.number refl))
            (and-join _ _ (eq-eqb d d refl) (same-refl (ParityNode i)))

        never : is_marked_in d (copy_in (v.process (ParityNode i)).as_row.copies l session.number) ≡ true → ⊥
        never marked =
            let held = marked-at t i (ParityNode i) refl name marked in
            let all = around-at t (ParityNode i) iin lives in
            let most = few t below in
            let link : between v t (ParityNode i) x ≡ in_link t x (ParityNode i)
            (v.link x (ParityNode i)) = ap (λ (b : Bool). if b then 0 else in_link t x (ParityNode i) (v.link x (ParityNode i)))
            (same-ne x (ParityNode i) apart) in
            let has : in_link t x (ParityNode i) (v.link x (ParityNode i)) ≡ one_if
            (is_token t x (ParityNode i) (tells.Mark session (record { 0 = rank }) block (record { 0 = d }) n)) + in_link t x
            (ParityNode i) rest = ap (in_link t x (ParityNode i)) first in
            let one = bit-on (is_token t x (ParityNode i) (tells.Mark session (record { 0 = rank }) block (record { 0 = d }) n)) comes in
            let sum = sum-at (everyone s) (between v t (ParityNode i)) x (within-everyone s x xin) in
            absurd (omega (arith, held, all, most, link, has, one, sum))

  coming : (x p : ProcessId) (m : Message) (rest : List Message) → IsProcess s x → IsProcess s p → x ≢ p → v.dead p ≡ false → v.link x p ≡ m ∷ rest
      → MayStand s v x p m → Fact m → IsUnmarked m (v.process p)
  coming x (DataNode e) (tells.Mark session r block d n) rest xin pin apart lives first may fact = elim may.2 [ ]
  coming x (ParityNode i) (tells.Mark session r block d n) rest xin pin apart lives first may fact = by session.leader refl where
    by : (y : ProcessId) → session.leader ≡ y
        → IfSome (copy_in (v.process (ParityNode i)).as_row.copies (parity_number y) session.number)
        (λ c. at None c.marks d.0 ≡ None)
    by (ParityNode l) is = mark-unmarked x i l session r.0 block d.0 n rest xin pin apart lives is may.0.1.partition
        first (carried.members.named (ParityNode i) pin)
    by (DataNode e) is = absurd (subst IsParity is fact)
  coming x p (tells.Update r d u stable) rest xin pin apart lives first may fact = tt
  coming x p (tells.Ack r d n) rest xin pin apart lives first may fact = tt
  coming x p (tells.Stable r d n) rest xin pin apart lives first may fact = tt
  coming x p (tells.Adopt r d base list) rest xin pin apart lives first may fact = tt
  coming x p (tells.ReadBlock session block rows) rest xin pin apart lives first may fact = tt
  coming x p (tells.Block session bytes n) rest xin pin apart lives first may fact = tt
  coming x p (tells.Row session bytes stamp) rest xin pin apart lives first may fact = tt
  coming x p (tells.Cease upto) rest xin pin apart lives first may fact = tt
  coming x p (tells.Notice dead) rest xin pin apart lives first may fact = tt

  -- nothing is marked for a session that isn't opened yet
  next-new : (p : ProcessId) → IsProcess s p → v.dead p ≡ false → (l : ℕ) → (v.process p).name ≡ ParityNode l
      → IfSome (copy_in (v.process p).as_row.copies l (suc (v.process p).as_leader.last_session)) (λ c. (d : ℕ) → d < s.k → at None c.marks d ≡ None)
  next-new p pin lives l name = by (copy_in (v.process p).as_row.copies l (suc (v.process p).as_leader.last_session)) refl where
    here : p ≡ ParityNode l
    here = sym (carried.members.named p pin) ∙ name

    none-there : (d : ℕ) → d < s.k → is_marked_in d (copy_in (v.process p).as_row.copies l (suc (v.process p).as_leader.last_session)) ≡ true → ⊥
    none-there d below marked =
        let t : Token = record { leader = l; number = suc (v.process p).as_leader.last_session; partition = d; way = Row l } in
        let held = marked-at t l p refl name marked in
        let all = around-at t p pin lives in
        let inside : l < s.m = subst (IsProcess s) here pin in
        let most = carried.tokens t below inside in
        let last : (v.process (ParityNode l)).as_leader.last_session ≡ (v.process p).as_leader.last_session =
        ap (λ (y : ProcessId). (v.process y).as_leader.last_session) (sym here) in
        let none : one_if (nat_lt (suc (v.process p).as_leader.last_session) (suc (v.process (ParityNode l)).as_leader.last_session)) ≡ 0 = ap one_if
        (not-below (suc (v.process p).as_leader.last_session) (suc (v.process (ParityNode l)).as_leader.last_session) (omega (arith, last))) in
        absurd (omega (arith, held, all, most, none))
      where
        not-below : (a b : ℕ) → b ≤ a → nat_lt a b ≡ false
        not-below a b less = grind (arith, common_steps)

    by : (o : Option Copy) → copy_in (v.process p).as_row.copies l (suc (v.process p).as_leader.last_session) ≡ o
        → IfSome o (λ c. (d : ℕ) → d < s.k → at None c.marks d ≡ None)
    by None is = tt
    by (Some c) is = λ d below. no-mark (at None c.marks d) (λ marked. none-there d below (ap (is_marked_in d) is ∙ marked))

  pub marks-new : MarksAreNew s v
  marks-new = record {
    coming = λ x p m rest xin pin apart lives first.
        coming x p m rest xin pin apart lives first ((subst (Each (MayStand s v x p)) first (carried.members.may x p xin pin apart lives)).0)
        ((subst (Each Fact) first (carried.facts x p xin pin apart lives)).0);
    next = λ p pin lives l name. next-new p pin lives l name;
  }

pub marks_always_new : MarksAlwaysNew
marks_always_new s es run = marks-new s _ (holds_always s (Carried s) (keeps s run.0) es run)
