-- Where a session has no token of a partition, the plan may take another number for it; where it has no token at
-- all, and isn't opened, any plan will do.
use Rattle.std.proofs.Common.{◌≡◌, ◌≢◌, ℕ, ◌+◌, ◌<◌, ◌≤◌, ◌==◌, Bool, true, false, List, [], ◌∷◌, length, take, find}
use Rattle.std.proofs.Common.{cond, is_some, Option, Some, None, IfSome, ◌⊎◌, inl, inr, sym, ap, subst, ◌∙◌, refl}
use Rattle.std.proofs.Common.{arith, if◌then◌else◌}
use Rattle.std.specs.Prelude.{Contains}
use Rattle.std.proofs.lemmas.Bool.{cases_eq, eq-eqb}
use Rattle.group_types.specs.Dimensions.{Dimensions}
use Rattle.group_types.specs.Lists.{at}
use Rattle.group_types.specs.Names.{IsProcess, same_process}
use Rattle.group_types.specs.declared.process.ProcessId.{ProcessId}
use Rattle.group_types.specs.declared.process.ProcessId.TheVariants.{DataNode, ParityNode}
use Rattle.group_types.proofs.Names.{same-ne, same-refl}
use Rattle.group_types.specs.Each.{Each}
use Rattle.group_types.proofs.Eaches.{each-weaker, each-both}
use Rattle.group_message.specs.declared.message.Message.{Message}
use Rattle.group_message.specs.declared.message.Message.TheVariants as tells
use Rattle.group_message.specs.declared.message.Session.{Session}
use Rattle.group_message.specs.declared.update.Update.{Update}
use Rattle.group_run.specs.Applying.{head_at, replica_of}
use Rattle.group_run.specs.Leaders.{open_session}
use Rattle.group_run.specs.Process.{Copy, Gathering, Process}
use Rattle.group_run.specs.Rows.{copy_in}
use Rattle.law_moves.specs.State.{State}
use Rattle.law_moves.proofs.Members.{MayStand}
use Rattle.law_bytes.specs.Areas.{IsBlock, value}
use Rattle.law_bytes.proofs.Finding.{and-join}
use Rattle.law_bytes.proofs.Tokens.{Own, Row, Token, Way, around, at_process, between, everyone, in_copy, in_link}
use Rattle.law_bytes.proofs.Tokens.{in_session, is_kept_in, is_marked_in, is_token, of_session, sum_of, tokens}
use Rattle.law_bytes.proofs.Sums.{within-everyone, sum-at, bit-off}
use Rattle.law_bytes.proofs.Stamps.{CopyFollows, Follows, GatheringFollows, LostFollows, OfSession, Plan, ProcessFollows, SessionFollows, planned}

link-off : (tok : Token) (x q : ProcessId) (ms : List Message) → in_link tok x q ms ≤ 0 → Each (λ m. is_token tok x q m ≡ true → ⊥) ms
link-off tok x q [] low = tt
link-off tok x q (m ∷ ms) low = (bit-off (is_token tok x q m) (omega (arith, low)), link-off tok x q ms (omega (arith, low)))

-- where a session has no token of some partition and way, there is none anywhere
module _ (s : Dimensions) (v : State) (tok : Token) (none : tokens s v tok ≤ 0) where
  around-none : (q : ProcessId) → IsProcess s q → v.dead q ≡ false → at_process tok (v.process q) + sum_of (everyone s) (between v tok q) ≤ 0
  around-none q qin lives =
      let is : around s v tok q ≡ at_process tok (v.process q) + sum_of (everyone s)
      (between v tok q) = ap (λ (b : Bool). if b then 0 else at_process tok (v.process q) + sum_of (everyone s) (between v tok q)) lives in
      let less = sum-at (everyone s) (around s v tok) q (within-everyone s q qin) in
      omega (arith, is, less, none)

  pub link-none : (x q : ProcessId) → IsProcess s x → IsProcess s q → x ≢ q → v.dead q ≡ false → Each (λ m. is_token tok x q m ≡ true → ⊥) (v.link x q)
  link-none x q xin qin apart lives =
      let all = around-none q qin lives in
      let sum = sum-at (everyone s) (between v tok q) x (within-everyone s x xin) in
      let link : between v tok q x ≡ in_link tok x q (v.link x q) = ap (λ (b : Bool). if b then 0 else in_link tok x q (v.link x q)) (same-ne x q apart) in
      link-off tok x q (v.link x q) (omega (arith, all, sum, link))

  pub copy-none : (q : ProcessId) → IsProcess s q → v.dead q ≡ false → in_copy tok tok.way (v.process q) ≡ true → ⊥
  copy-none q qin lives = let all = around-none q qin lives in bit-off (in_copy tok tok.way (v.process q)) (omega (arith, all))

  pub session-none : (q : ProcessId) → IsProcess s q → v.dead q ≡ false → in_session tok (v.process q) ≡ true → ⊥
  session-none q qin lives = let all = around-none q qin lives in bit-off (in_session tok (v.process q)) (omega (arith, all))

-- the token of a session
abbrev pub token : ℕ → ℕ → ℕ → Way → Token
token l n d way = record { leader = l; number = n; partition = d; way = way }

module _ (s : Dimensions) (l n : ℕ) where
  pub named-so : (d : ℕ) (way : Way) (session : Session) → OfSession l n session → of_session (token l n d way) session ≡ true
  named-so d way session of_it = and-join _ _ (ap (λ (y : ProcessId). same_process y (ParityNode l)) of_it.0
      ∙ same-refl (ParityNode l)) (eq-eqb session.number n of_it.1)

  -- a message isn't of some partition
  abbrev pub IsNone : ℕ → ProcessId → ProcessId → Message → Type 0
  IsNone d x q m = (way : Way) → is_token (token l n d way) x q m ≡ true → ⊥

  read-none : (d block : ℕ) (rows : List ℕ) (x : ProcessId) (session : Session) → OfSession l n session
      → IsNone d x (DataNode d) (tells.ReadBlock session block rows) → ⊥
  read-none d block rows x session of_it none = none Own (and-join _ _ (named-so d Own session of_it) (same-refl (DataNode d)))

  mark-none : (r block d i number : ℕ) (x : ProcessId) (session : Session) → OfSession l n session
      → IsNone d x (ParityNode i) (tells.Mark session (record { 0 = r }) block (record { 0 = d }) number) → ⊥
  mark-none r block d i number x session of_it none =
      none (Row i) (and-join _ _ (named-so d (Row i) session of_it)
      (and-join _ _ (eq-eqb d d refl) (same-refl (ParityNode i))))

  block-none : (d number : ℕ) (bytes : List ℕ) (q : ProcessId) (session : Session) → OfSession l n session
      → IsNone d (DataNode d) q (tells.Block session bytes number) → ⊥
  block-none d number bytes q session of_it none = none Own (and-join _ _ (named-so d Own session of_it) (same-refl (DataNode d)))

  row-none : (d i : ℕ) (bytes stamp : List ℕ) (q : ProcessId) (session : Session) → OfSession l n session
      → IsNone d (ParityNode i) q (tells.Row session bytes stamp) → ⊥
  row-none d i bytes stamp q session of_it none = none (Row i) (and-join _ _ (named-so d (Row i) session of_it) (same-refl (ParityNode i)))

  -- a plan with another number of a partition
  module _ (settled : ℕ → List Update) (d : ℕ) (plan other : Plan) (block : other.block ≡ plan.block)
      (rows : other.rows ≡ plan.rows) (same : (e : ℕ) → e ≢ d → other.numbers e ≡ plan.numbers e) where
    value-other : (e : ℕ) (bytes : List ℕ) → e ≢ d → IsBlock s plan.block (value (planned settled plan e)) bytes
        → IsBlock s other.block (value (planned settled other e)) bytes
    value-other e bytes apart is =
        subst (λ (b : ℕ). IsBlock s b (value (planned settled other e)) bytes) (sym block)
        (subst (λ (k : ℕ). IsBlock s plan.block (value (take k (settled e))) bytes) (sym (same e apart)) is)

    message-other : (v : State) (x q : ProcessId) (m : Message) → MayStand s v x q m → IsNone d x q m
        → Follows s settled l n plan x q m → Follows s settled l n other x q m
    message-other v x q (tells.ReadBlock session b rs) may none follows = λ of_it. let is = follows of_it in (is.0 ∙ sym block, is.1 ∙ sym rows)
    message-other v x (DataNode e) (tells.Mark session r b c number) may none follows = elim may.2 [ ]
    message-other v x (ParityNode i) (tells.Mark session r b c number) may none follows = λ of_it. by of_it (follows of_it) (cases_eq c.0 d) where
      by : OfSession l n session → (b ≡ plan.block) × (number ≡ plan.numbers c.0) × Contains plan.rows i → (c.0 ≡ d) ⊎ (c.0 ≢ d)
          → (b ≡ other.block) × (number ≡ other.numbers c.0) × Contains other.rows i
      by of_it is (inr apart) = (is.0 ∙ sym block, is.1 ∙ sym (same c.0 apart), subst (λ (rs : List ℕ). Contains rs i) (sym rows) is.2)
      by of_it is (inl here) =
          absurd (mark-none r.0 b c.0 i number x session of_it
          (subst (λ (e : ℕ). IsNone e x (ParityNode i) (tells.Mark session r b c number)) (sym here) none))
    message-other v (DataNode e) q (tells.Block session bytes number) may none follows = λ of_it. by of_it (follows of_it) (cases_eq e d) where
      by : OfSession l n session → (number ≡ plan.numbers e) × IsBlock s plan.block (value (planned settled plan e)) bytes → (e ≡ d) ⊎ (e ≢ d)
          → (number ≡ other.numbers e) × IsBlock s other.block (value (planned settled other e)) bytes
      by of_it is (inr apart) = (is.0 ∙ sym (same e apart), value-other e bytes apart is.1)
      by of_it is (inl here) =
          absurd (block-none e number bytes q session of_it
          (subst (λ (c : ℕ). IsNone c (DataNode e) q (tells.Block session bytes number)) (sym here) none))
    message-other v (ParityNode i) q (tells.Block session bytes number) may none follows = λ of_it. tt
    message-other v (DataNode e) q (tells.Row session bytes stamp) may none follows = λ of_it. tt
    message-other v (ParityNode i) q (tells.Row session bytes stamp) may none follows = λ of_it. absurd (row-none d i bytes stamp q session of_it none)
    message-other v x q (tells.Update r c u stable) may none follows = tt
    message-other v x q (tells.Ack r c number) may none follows = tt
    message-other v x q (tells.Stable r c number) may none follows = tt
    message-other v x q (tells.Adopt r c base list) may none follows = tt
    message-other v x q (tells.Cease upto) may none follows = tt
    message-other v x q (tells.Notice dead) may none follows = tt

    process-other : (p : Process) → ((way : Way) → in_copy (token l n d way) way p ≡ true → ⊥) → ((way : Way) → in_session (token l n d way) p ≡ true → ⊥)
        → ProcessFollows s settled l n plan p → ProcessFollows s settled l n other p
    process-other p no_copy no_session is = record { copy = copy; session = session } where
      copy : (r : ℕ) → p.name ≡ ParityNode r → IfSome (copy_in p.as_row.copies l n) (λ c. Contains other.rows r × CopyFollows s other c)
      copy r named = by (copy_in p.as_row.copies l n) refl (is.copy r named) where
        unmarked : is_marked_in d (copy_in p.as_row.copies l n) ≡ true → ⊥
        unmarked marked = no_copy (Row r) (and-join _ _ (ap (λ (x : ProcessId). same_process x (ParityNode r)) named ∙ same-refl (ParityNode r)) marked)

        turned : (c : Copy) → copy_in p.as_row.copies l n ≡ Some c → CopyFollows s plan c → (e number : ℕ) → e < s.k
            → at None c.marks e ≡ Some number → (e ≡ d) ⊎ (e ≢ d) → number ≡ other.numbers e
        turned c first follows e number below there (inr apart) = follows.marks e number below there ∙ sym (same e apart)
        turned c first follows e number below there (inl here) =
            absurd (unmarked (ap (is_marked_in d) first ∙ ap (λ (k : ℕ). is_some (at None c.marks k)) (sym here)
            ∙ ap is_some there))

        by : (o : Option Copy) → copy_in p.as_row.copies l n ≡ o
            → IfSome o (λ c. Contains plan.rows r × CopyFollows s plan c)
            → IfSome o (λ c. Contains other.rows r × CopyFollows s other c)
        by None first follows = tt
        by (Some c) first follows = (
          subst (λ (rs : List ℕ). Contains rs r) (sym rows) follows.0,
          record {
            block = follows.1.block ∙ sym block;
            marks = λ e number below there. turned c first follows.1 e
                number below there (cases_eq e d);
            marked = follows.1.marked;
          },
        )

      session : p.name ≡ ParityNode l → IfSome (open_session p.as_leader n) (λ g. (n ≤ p.as_leader.last_session) × GatheringFollows s settled other g)
      session named = by (open_session p.as_leader n) refl (is.session named) where
        unkept : (way : Way) → is_kept_in way d (open_session p.as_leader n) ≡ true → ⊥
        unkept way kept = no_session way (and-join _ _ (ap (λ (x : ProcessId). same_process x (ParityNode l)) named ∙ same-refl (ParityNode l)) kept)

        turned : (g : Gathering) → open_session p.as_leader n ≡ Some g → (e : ℕ) (bytes : List ℕ) → at None g.blocks_in e ≡ Some bytes
            → (e < s.k) × IsBlock s plan.block (value (planned settled plan e)) bytes → (e ≡ d) ⊎ (e ≢ d)
            → (e < s.k) × IsBlock s other.block (value (planned settled other e)) bytes
        turned g opens e bytes there follows (inr apart) = (follows.0, value-other e bytes apart follows.1)
        turned g opens e bytes there follows (inl here) =
            absurd (unkept Own (ap (is_kept_in Own d) opens ∙ ap (λ (k : ℕ). is_some (at None g.blocks_in k)) (sym here)
            ∙ ap is_some there))

        by : (o : Option Gathering) → open_session p.as_leader n ≡ o → IfSome o (λ g. (n ≤ p.as_leader.last_session) × GatheringFollows s settled plan g)
            → IfSome o (λ g. (n ≤ p.as_leader.last_session) × GatheringFollows s settled other g)
        by None opens follows = tt
        by (Some g) opens follows = (
          follows.0,
          record {
            block = follows.1.block ∙ sym block;
            inside = follows.1.inside;
            rows = follows.1.rows ∙ sym rows;
            rows_in = λ i bytes there. absurd (unkept (Row i) (ap (is_kept_in (Row i) d) opens ∙ ap is_some there));
            blocks_in = λ e bytes there. turned g opens e bytes there (follows.1.blocks_in e bytes there) (cases_eq e d);
          },
        )

-- each of several sentences is said of each member
each-way : {X W : Type 0} (P : W → X → Type 0) (xs : List X) → ((w : W) → Each (P w) xs) → Each (λ x. (w : W) → P w x) xs
each-way P [] all = tt
each-way P (x ∷ xs) all = ((λ w. (all w).0), each-way P xs (λ w. (all w).1))

-- of what is found, from each member and from what is found
if-both : {X : Type 0} (P Q R : X → Type 0) → ((x : X) → P x → Q x → R x) → (test : X → Bool) (xs : List X) → Each P xs
    → IfSome (find test xs) Q → IfSome (find test xs) R
if-both P Q R turn test [] all holds = tt
if-both P Q R turn test (x ∷ xs) all holds = by (test x) holds (λ there. if-both P Q R turn test xs all.1 there) where
  by : (b : Bool) → IfSome (cond b (Some x) (find test xs)) Q → (IfSome (find test xs) Q → IfSome (find test xs) R) → IfSome (cond b (Some x) (find test xs)) R
  by true here later = turn x all.0 here
  by false there later = later there

-- messages that may stand in the links
abbrev pub LinksMay : Dimensions → State → State → Type 0
LinksMay s v u = (x q : ProcessId) → IsProcess s x → IsProcess s q → x ≢ q → u.dead q ≡ false → Each (MayStand s v x q) (u.link x q)

-- the plan takes another number of a partition
pub renumbered : (s : Dimensions) (v u : State) (l n d : ℕ) (plan other : Plan) → other.block ≡ plan.block
    → other.rows ≡ plan.rows → ((e : ℕ) → e ≢ d → other.numbers e ≡ plan.numbers e)
    → ((e : ℕ) → e < s.k → other.numbers e ≤ length (u.settled e)) → LinksMay s v u → ((way : Way) → tokens s u (token l n d way) ≤ 0)
    → ((p : ProcessId) → IsProcess s p → u.dead p ≡ false → Each (λ g. ¬ (Contains g.lost d))
    (u.process p).as_leader.sessions) → SessionFollows s u l n plan → SessionFollows s u l n other
renumbered s v u l n d plan other block rows same within may none living_there is = record {
  within = within;
  links = λ x q xin qin apart living.
      each-weaker (λ m. (MayStand s v x q m × IsNone s l n d x q m) × Follows s u.settled l n plan x q m) (Follows s u.settled l n other x q)
      (λ m all. message-other s l n u.settled d plan other block rows same v x q m all.0.0 all.0.1 all.1) (u.link x q)
      (each-both (λ m. MayStand s v x q m × IsNone s l n d x q m) (Follows s u.settled l n plan x q) (u.link x q)
      (each-both (MayStand s v x q) (IsNone s l n d x q) (u.link x q) (may x q xin qin apart living)
      (each-way (λ way m. is_token (token l n d way) x q m ≡ true → ⊥) (u.link x q)
      (λ way. link-none s u (token l n d way) (none way) x q xin qin apart living)))
      (is.links x q xin qin apart living));
  processes = λ p pin living. process-other s l n u.settled d plan other block rows same (u.process p)
      (λ way. copy-none s u (token l n d way) (none way) p pin living)
      (λ way. session-none s u (token l n d way) (none way) p pin living) (is.processes p pin living);
  lost = λ p pin living leads.
      if-both (λ g. ¬ (Contains g.lost d))
      (λ g. (e : ℕ) → Contains g.lost e → (plan.numbers e ≤ (replica_of (u.process p) e).applied)
      × IfSome (head_at (u.process p) e) (λ h. h.inherited ≤ plan.numbers e))
      (λ g. (e : ℕ) → Contains g.lost e → (other.numbers e ≤ (replica_of (u.process p) e).applied)
      × IfSome (head_at (u.process p) e) (λ h. h.inherited ≤ other.numbers e))
      (λ g away follows e lost.
      let apart : e ≢ d = λ (here : e ≡ d). away (subst (Contains g.lost) here lost) in
      subst (λ (k : ℕ). (k ≤ (replica_of (u.process p) e).applied)
      × IfSome (head_at (u.process p) e) (λ h. h.inherited ≤ k)) (sym (same e apart)) (follows e lost))
      (λ x. x.number == n) (u.process p).as_leader.sessions (living_there p pin living) (is.lost p pin living leads);
}

-- a session of which there is nothing, and which isn't opened, follows any plan
module _ (s : Dimensions) (v u : State) (l n : ℕ) (lin : l < s.m) (some : 0 < s.k) (plan other : Plan)
    (named : (q : ProcessId) → IsProcess s q → (u.process q).name ≡ q) (may : LinksMay s v u)
    (none : (d : ℕ) → d < s.k → (way : Way) → tokens s u (token l n d way) ≤ 0)
    (unopened : (u.process (ParityNode l)).as_leader.last_session < n) (is : SessionFollows s u l n plan) where
  -- no message of any partition
  IsNowhere : ProcessId → ProcessId → Message → Type 0
  IsNowhere x q m = (d : ℕ) → d < s.k → IsNone s l n d x q m

  every-none : (x q : ProcessId) → (ms : List Message) → ((d : ℕ) → d < s.k → Each (IsNone s l n d x q) ms)
      → Each (λ m. (d : ℕ) → d < s.k → IsNone s l n d x q m) ms
  every-none x q [] all = tt
  every-none x q (m ∷ ms) all = ((λ d below. (all d below).0), every-none x q ms (λ d below. (all d below).1))

  message-any : (x q : ProcessId) (m : Message) → IsProcess s x → IsProcess s q → MayStand s v x q m
      → ((d : ℕ) → d < s.k → IsNone s l n d x q m) → Follows s u.settled l n other x q m
  message-any x (DataNode e) (tells.ReadBlock session block rows) xin qin allowed nowhere =
      λ of_it. absurd (read-none s l n e block rows x session of_it (nowhere e qin))
  message-any x (ParityNode i) (tells.ReadBlock session block rows) xin qin allowed nowhere = elim allowed.2 [ ]
  message-any x (DataNode e) (tells.Mark session r block d number) xin qin allowed nowhere = elim allowed.2 [ ]
  message-any x (ParityNode i) (tells.Mark session r block d number) xin qin allowed nowhere =
      λ of_it. absurd (mark-none s l n r.0 block d.0 i number x session of_it (nowhere d.0 allowed.0.1.partition))
  message-any (DataNode e) q (tells.Block session bytes number) xin qin allowed nowhere =
      λ of_it. absurd (block-none s l n e number bytes q session of_it (nowhere e xin))
  message-any (ParityNode i) q (tells.Block session bytes number) xin qin allowed nowhere = λ of_it. tt
  message-any (DataNode e) q (tells.Row session bytes stamp) xin qin allowed nowhere = λ of_it. tt
  message-any (ParityNode i) q (tells.Row session bytes stamp) xin qin allowed nowhere =
      λ of_it. absurd (row-none s l n 0 i bytes stamp q session of_it (nowhere 0 some))
  message-any x q (tells.Update r d w stable) xin qin allowed nowhere = tt
  message-any x q (tells.Ack r d number) xin qin allowed nowhere = tt
  message-any x q (tells.Stable r d number) xin qin allowed nowhere = tt
  message-any x q (tells.Adopt r d base list) xin qin allowed nowhere = tt
  message-any x q (tells.Cease upto) xin qin allowed nowhere = tt
  message-any x q (tells.Notice dead) xin qin allowed nowhere = tt

  process-any : (p : ProcessId) → IsProcess s p → u.dead p ≡ false → ProcessFollows s u.settled l n other (u.process p)
  process-any p pin living = record { copy = copy; session = session } where
    before : ProcessFollows s u.settled l n plan (u.process p)
    before = is.processes p pin living

    copy : (r : ℕ) → (u.process p).name ≡ ParityNode r → IfSome (copy_in (u.process p).as_row.copies l n) (λ c. Contains other.rows r × CopyFollows s other c)
    copy r is_named = by (copy_in (u.process p).as_row.copies l n) refl (before.copy r is_named) where
      by : (o : Option Copy) → copy_in (u.process p).as_row.copies l n ≡ o
          → IfSome o (λ c. Contains plan.rows r × CopyFollows s plan c)
          → IfSome o (λ c. Contains other.rows r × CopyFollows s other c)
      by None first follows = tt
      by (Some c) first follows =
          let marked = follows.1.marked in
          absurd (copy-none s u (token l n marked.0 (Row r)) (none marked.0 marked.1 (Row r)) p pin living
          (and-join _ _ (ap (λ (x : ProcessId). same_process x (ParityNode r)) is_named ∙ same-refl (ParityNode r))
          (ap (is_marked_in marked.0) first ∙ marked.2)))

    session : (u.process p).name ≡ ParityNode l → IfSome (open_session (u.process p).as_leader n)
        (λ g. (n ≤ (u.process p).as_leader.last_session) × GatheringFollows s u.settled other g)
    session is_named = by (open_session (u.process p).as_leader n) (before.session is_named) where
      last : (u.process p).as_leader.last_session ≡ (u.process (ParityNode l)).as_leader.last_session
      last = ap (λ (x : ProcessId). (u.process x).as_leader.last_session) (sym (named p pin) ∙ is_named)

      by : (o : Option Gathering) → IfSome o (λ g. (n ≤ (u.process p).as_leader.last_session) × GatheringFollows s u.settled plan g)
          → IfSome o (λ g. (n ≤ (u.process p).as_leader.last_session) × GatheringFollows s u.settled other g)
      by None follows = tt
      by (Some g) follows = let low = follows.0 in absurd (omega (arith, low, last, unopened))

  lost-any : (p : ProcessId) → IsProcess s p → u.dead p ≡ false → LostFollows l n other (u.process p)
  lost-any p pin living is_named = by (open_session (u.process p).as_leader n) ((is.processes p pin living).session is_named) where
    last : (u.process p).as_leader.last_session ≡ (u.process (ParityNode l)).as_leader.last_session
    last = ap (λ (x : ProcessId). (u.process x).as_leader.last_session) (sym (named p pin) ∙ is_named)

    by : (o : Option Gathering) → IfSome o (λ g. (n ≤ (u.process p).as_leader.last_session) × GatheringFollows s u.settled plan g)
        → IfSome o (λ g. (e : ℕ) → Contains g.lost e → (other.numbers e ≤ (replica_of (u.process p) e).applied)
        × IfSome (head_at (u.process p) e) (λ h. h.inherited ≤ other.numbers e))
    by None follows = tt
    by (Some g) follows = let low = follows.0 in absurd (omega (arith, low, last, unopened))

  pub unopened-any : ((d : ℕ) → d < s.k → other.numbers d ≤ length (u.settled d)) → SessionFollows s u l n other
  unopened-any within = record {
    within = within;
    links = λ x q xin qin apart living.
        each-weaker (λ m. MayStand s v x q m × ((d : ℕ) → d < s.k → IsNone s l n d x q m))
        (Follows s u.settled l n other x q) (λ m both. message-any x q m xin qin both.0 both.1) (u.link x q)
        (each-both (MayStand s v x q) (λ m. (d : ℕ) → d < s.k → IsNone s l n d x q m) (u.link x q) (may x q xin qin apart living)
        (every-none x q (u.link x q) (λ d below. each-way (λ way m. is_token (token l n d way) x q m ≡ true → ⊥)
        (u.link x q) (λ way. link-none s u (token l n d way) (none d below way) x q xin qin apart living))));
    processes = process-any;
    lost = lost-any;
  }
