-- What a session's plan says of marks and rows: a mark's copy is of its block, and a row was asked for.
use Rattle.std.proofs.Common.{◌≡◌, ◌≢◌, ℕ, ◌<◌, ◌≤◌, ◌==◌, false, List, ◌∷◌, find, Option, Some, None, IfSome, sym, ap, subst, ◌∙◌, refl}
use Rattle.std.specs.Prelude.{Contains}
use Rattle.group_types.specs.Dimensions.{Dimensions}
use Rattle.group_types.specs.Names.{IsProcess}
use Rattle.group_types.specs.declared.process.ProcessId.{ProcessId}
use Rattle.group_types.specs.declared.process.ProcessId.TheVariants.{DataNode, ParityNode}
use Rattle.group_types.specs.Each.{Each}
use Rattle.group_message.specs.declared.message.Message.{Message}
use Rattle.group_message.specs.declared.message.Message.TheVariants as tells
use Rattle.group_run.specs.Leaders.{open_session}
use Rattle.group_run.specs.Process.{Gathering}
use Rattle.group_run.specs.Rows.{copy_in, parity_number}
use Rattle.group_run.specs.World.{AskedCall}
use Rattle.law_moves.specs.State.{State}
use Rattle.law_moves.proofs.Members.{MayStand}
use Rattle.law_bytes.proofs.Finds.{found-each, if-weaker}
use Rattle.law_bytes.proofs.Stamps.{CopyFollows, Follows, GatheringFollows, Plan, SessionFollows, SessionsStand}
use Rattle.law_headline.proofs.MeetingWords.{GroupStands, RowAsked, SameBlock}
use Rattle.law_headline.proofs.PlannedWords.{PlannedFit}
use Rattle.law_headline.proofs.Sound.{SessionSound, Sound}
use Rattle.law_headline.proofs.Meets.{messages_fit}

module _ (s : Dimensions) (calls : List AskedCall) (v : State) (stands : GroupStands s calls v) (plans : SessionsStand s v)
    (x : ProcessId) (xin : IsProcess s x) where
  -- the first message follows the plan
  follows-first : (l n : ℕ) (inside : l < s.m) (p : ProcessId) (m : Message) (rest : List Message) → IsProcess s p → x ≢ p → v.dead p ≡ false
      → v.link x p ≡ m ∷ rest → Follows s v.settled l n (plans l n inside).0 x p m
  follows-first l n inside p m rest pin apart lives first =
      (subst (Each (Follows s v.settled l n (plans l n inside).0 x p)) first
      ((plans l n inside).1.links x p xin pin apart lives)).0

  same-block : (p : ProcessId) (m : Message) (rest : List Message) → IsProcess s p → x ≢ p → v.dead p ≡ false
      → v.link x p ≡ m ∷ rest → MayStand s v x p m → Sound s x m → SameBlock m (v.process p)
  same-block (DataNode e) (tells.Mark session r block d n) rest pin apart lives first may carries = absurd may.2
  same-block (ParityNode i) (tells.Mark session r block d n) rest pin apart lives first may carries =
      let l : ℕ = carries.0.0 in
      let plan : (plan : Plan) × SessionFollows s v l session.number plan = plans l session.number carries.0.2 in
      let mark = follows-first l session.number carries.0.2 (ParityNode i) (tells.Mark session r block d n) rest pin apart lives first (carries.0.1, refl) in
      subst (λ (j : ℕ). IfSome (copy_in (v.process (ParityNode i)).as_row.copies j session.number) (λ c. c.block ≡ block)) (sym (ap parity_number carries.0.1))
      (if-weaker (λ c. Contains plan.0.rows i × CopyFollows s plan.0 c) (λ c. c.block ≡ block)
      (λ c both. both.1.block ∙ sym mark.0) (copy_in (v.process (ParityNode i)).as_row.copies l session.number)
      ((plan.1.processes (ParityNode i) pin lives).copy i (stands.members.named (ParityNode i) pin)))
  same-block p (tells.Update r d u stable) rest pin apart lives first may carries = tt
  same-block p (tells.Ack r d n) rest pin apart lives first may carries = tt
  same-block p (tells.Stable r d n) rest pin apart lives first may carries = tt
  same-block p (tells.Adopt r d base list) rest pin apart lives first may carries = tt
  same-block p (tells.ReadBlock session block rows) rest pin apart lives first may carries = tt
  same-block p (tells.Block session bytes n) rest pin apart lives first may carries = tt
  same-block p (tells.Row session bytes stamp) rest pin apart lives first may carries = tt
  same-block p (tells.Cease upto) rest pin apart lives first may carries = tt
  same-block p (tells.Notice dead) rest pin apart lives first may carries = tt

-- a data process has no open session
no-session : (s : Dimensions) (number : ℕ) (e : ℕ) (gs : List Gathering) (P : Gathering → Type 0) (o : Option Gathering) → Each (SessionSound s (DataNode e)) gs
    → find (λ (y : Gathering). y.number == number) gs ≡ o → IfSome o P
no-session s number e gs P None all found = tt
no-session s number e gs P (Some g) all found = absurd (found-each (λ y. y.number == number) (SessionSound s (DataNode e)) gs g found all).1.leader

module _ (s : Dimensions) (calls : List AskedCall) (v : State) (stands : GroupStands s calls v) (plans : SessionsStand s v) where
  row-asked : (x p : ProcessId) (m : Message) (rest : List Message) → IsProcess s x → IsProcess s p → x ≢ p
      → v.dead p ≡ false → v.link x p ≡ m ∷ rest → MayStand s v x p m → RowAsked x m (v.process p)
  row-asked (ParityNode i) (DataNode e) (tells.Row session bytes stamp) rest xin pin apart lives first may =
      no-session s session.number e (v.process (DataNode e)).as_leader.sessions (λ g. Contains g.rows i)
      (open_session (v.process (DataNode e)).as_leader session.number)
      (subst (λ (y : ProcessId). Each (SessionSound s y) (v.process (DataNode e)).as_leader.sessions)
      (stands.members.named (DataNode e) pin) (stands.sound.processes (DataNode e) pin lives).sessions) refl
  row-asked (ParityNode i) (ParityNode l) (tells.Row session bytes stamp) rest xin pin apart lives first may =
      let plan : (plan : Plan) × SessionFollows s v l session.number plan = plans l session.number pin in
      let row = follows-first s calls v stands plans (ParityNode i) xin l session.number pin (ParityNode l)
      (tells.Row session bytes stamp) rest pin apart lives first (may.0, refl) in
      if-weaker (λ g. (session.number ≤ (v.process (ParityNode l)).as_leader.last_session) × GatheringFollows s v.settled plan.0 g) (λ g. Contains g.rows i)
      (λ g both. subst (λ (rows : List ℕ). Contains rows i) (sym both.1.rows) row.0) (open_session (v.process (ParityNode l)).as_leader session.number)
      ((plan.1.processes (ParityNode l) pin lives).session (stands.members.named (ParityNode l) pin))
  row-asked (DataNode d) p (tells.Row session bytes stamp) rest xin pin apart lives first may = absurd may.1
  row-asked x p (tells.Update r d u stable) rest xin pin apart lives first may = tt
  row-asked x p (tells.Ack r d n) rest xin pin apart lives first may = tt
  row-asked x p (tells.Stable r d n) rest xin pin apart lives first may = tt
  row-asked x p (tells.Adopt r d base list) rest xin pin apart lives first may = tt
  row-asked x p (tells.ReadBlock session block rows) rest xin pin apart lives first may = tt
  row-asked x p (tells.Block session bytes n) rest xin pin apart lives first may = tt
  row-asked x p (tells.Mark session r block d n) rest xin pin apart lives first may = tt
  row-asked x p (tells.Cease upto) rest xin pin apart lives first may = tt
  row-asked x p (tells.Notice dead) rest xin pin apart lives first may = tt

pub planned_fit : PlannedFit
planned_fit s calls v stands plans x p m rest xin pin apart lives first =
    let may : MayStand s v x p m = (subst (Each (MayStand s v x p)) first (stands.members.may x p xin pin apart lives)).0 in
    let carries : Sound s x m = (subst (Each (Sound s x)) first (stands.sound.links x p xin pin apart lives)).0 in
    messages_fit s calls v stands x p m rest xin pin apart lives first
    (same-block s calls v stands plans x xin p m rest pin apart lives first may carries)
    (row-asked s calls v stands plans x p m rest xin pin apart lives first may)
