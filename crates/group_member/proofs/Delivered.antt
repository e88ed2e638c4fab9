-- What a member receives, takes and flushes are the group's actions.
use Rattle.std.proofs.Common.{◌≡◌, ◌≢◌, Bool, true, false, List, [], ◌∷◌, ◌++◌, refl, sym, ap, subst, ◌∙◌}
use Rattle.group_types.specs.Dimensions.{Dimensions}
use Rattle.group_types.specs.Lists.{at}
use Rattle.group_types.specs.Names.{IsProcess, index_of, same_process}
use Rattle.group_types.specs.declared.process.ProcessId.{ProcessId}
use Rattle.group_types.proofs.Names.{index-below, process_at-index}
use Rattle.membership.specs.Members.{Membership, knows_dead, with_dead}
use Rattle.group_message.specs.declared.message.Message.{Message}
use Rattle.group_message.specs.declared.message.Message.TheVariants as tells
use Rattle.group_run.specs.Applying.{ProcessStep}
use Rattle.group_run.specs.Asking.{CallStep}
use Rattle.group_run.specs.Process.{Node, Process}
use Rattle.group_run.specs.Receiving.{receive}
use Rattle.group_run.specs.World.{NodeStep, flush_node, flush_process, if_up, link_emptied, node_after, receive_node, sent_to, treated}
use Rattle.law_moves.specs.Known.{is_notice}
use Rattle.law_moves.proofs.Known.{known-notice, known_stays}
use Rattle.group_wire.specs.Actions.{Flush, Receive, Take}
use Rattle.group_wire.specs.Sending.{stepped, works_received}
use Rattle.group_wire.specs.Sets.{Processes, changed, changed_from, one_or, with_one}
use Rattle.group_wire.specs.State.{Works}
use Rattle.group_wire.proofs.Appending.{others-stay, process-stays}
use Rattle.group_member.specs.Acting.{Acts, ActsWhere, MessageComes}
use Rattle.group_member.specs.Standing.{HasWorks, Member, OwnWords, MemberStands}
use Rattle.group_member.specs.Whole.{IsWholeMember}
use Rattle.group_member.specs.Words.{AreWords, CanReadFrom, CanTakeDeath, AreAmong}
use Rattle.group_member.proofs.Keeping.{known-of, still-known, with-is, with-itself}
use Rattle.group_member.proofs.Reading.{changed-here, changed-other, unknown-among}
use Rattle.group_member.proofs.Stepping.{SendsTo, link-grows, stepped-works}

-- a received message leaves the words whether a node is dead and whether the group is down
dead-stays : (s : Dimensions) (m : Message) (node : Node) → (link_emptied s m node).dead ≡ node.dead
dead-stays s (tells.Notice dead) node = refl
dead-stays s (tells.Update r d u stable) node = refl
dead-stays s (tells.Ack r d n) node = refl
dead-stays s (tells.Stable r d n) node = refl
dead-stays s (tells.Adopt r d base list) node = refl
dead-stays s (tells.ReadBlock session block rows) node = refl
dead-stays s (tells.Block session bytes n) node = refl
dead-stays s (tells.Mark session r block d n) node = refl
dead-stays s (tells.Row session bytes stamp) node = refl
dead-stays s (tells.Cease upto) node = refl

down-stays : (s : Dimensions) (m : Message) (node : Node) → (link_emptied s m node).down ≡ node.down
down-stays s (tells.Notice dead) node = refl
down-stays s (tells.Update r d u stable) node = refl
down-stays s (tells.Ack r d n) node = refl
down-stays s (tells.Stable r d n) node = refl
down-stays s (tells.Adopt r d base list) node = refl
down-stays s (tells.ReadBlock session block rows) node = refl
down-stays s (tells.Block session bytes n) node = refl
down-stays s (tells.Mark session r block d n) node = refl
down-stays s (tells.Row session bytes stamp) node = refl
down-stays s (tells.Cease upto) node = refl

module _ (s : Dimensions) (from : ProcessId) (m : Message) (node : Node) where
  abbrev step : ProcessStep
  step = receive s from m node.process

  abbrev now : Node
  now = (receive_node s from m node).node

  pub heard-process : now.process ≡ step.process
  heard-process = process-stays s m (node_after s step node)

  pub heard-known : now.process.known ≡ step.process.known
  heard-known = ap (λ (p : Process). p.known) heard-process

  pub heard-lives : now.dead ≡ node.dead
  heard-lives = dead-stays s m (node_after s step node)

  pub heard-up : now.down ≡ node.down
  heard-up = down-stays s m (node_after s step node)

  -- its link to one that is neither known dead nor told dead grows
  pub heard-sends : (q : ProcessId) → IsProcess s q → knows_dead step.process.known q ≡ false → m ≢ tells.Notice q
      → at [] now.links (index_of s q) ≡ at [] node.links (index_of s q) ++ sent_to q step.sent
  heard-sends q member unknown other =
      others-stay s m (node_after s step node) (index_of s q) (index-below s q member)
      (λ same. other (same ∙ ap tells.Notice (process_at-index s q member)))
      ∙ link-grows s step node q member unknown

-- one that isn't cut isn't known dead
pub unknown-uncut : (w : OwnWords) (known : Membership) → AreWords w → AreAmong known w.taken → (q : ProcessId)
    → knows_dead w.cut q ≡ false → knows_dead known q ≡ false
unknown-uncut w known whole among q uncut =
    unknown-among known w.cut q (λ is. whole.permitted q (whole.taken q (among q is))) uncut

-- the process of a notice
abbrev told-dead : Message → ProcessId → ProcessId
told-dead (tells.Notice dead) other = dead
told-dead _ other = other

one-dead : (x q : ProcessId) → tells.Notice x ≡ tells.Notice q → x ≡ q
one-dead x q same = ap (λ (m : Message). told-dead m x) same

plain-other : (m : Message) (q : ProcessId) → is_notice m ≡ false → m ≢ tells.Notice q
plain-other m q plain same = cc (plain, ap is_notice same)

pub receive-whole : (v : Member) (from : ProcessId) (m : Message) → is_notice m ≡ false → IsWholeMember v.words.shape v.words v.signs v.node
    → IsWholeMember v.words.shape v.words v.signs (receive_node v.words.shape from m v.node).node
receive-whole v from m plain whole =
    let s = v.words.shape in record {
      words = whole.words;
      shape_is = refl;
      lives = heard-lives s from m v.node ∙ whole.lives;
      up = heard-up s from m v.node ∙ whole.up;
      known = subst (λ (known : Membership). AreAmong known v.words.taken)
          (sym (heard-known s from m v.node ∙ (known_stays s v.node.process).received from m plain)) whole.known;
      counts = whole.counts;
    }

pub receive-acts : (v : Member) (from : ProcessId) (m : Message) → CanReadFrom v.words from → is_notice m ≡ false
    → AreWords v.words → IsWholeMember v.words.shape v.words v.signs v.node
    → ActsWhere (MessageComes from v.words.name m) (Receive from v.words.name ∷ []) (λ out. out) v
    (record v { node = (receive_node v.words.shape from m v.node).node })
receive-acts v from m can plain words whole g out st comes =
    let w = v.words in
    let p = w.name in
    let s = w.shape in
    let now = (receive_node s from m v.node).node in
    let t = receive s from m v.node.process in
    let after : Member = record v { node = now } in
    let read : Works = record g.works { messages = changed_from g.works.messages from p comes.0 } in
    let step : receive g.shape from m (g.works.process p) ≡ t =
    ap (λ (d : Dimensions). receive d from m (g.works.process p)) st.shape ∙ ap (receive s from m) st.works.process in
    let has : HasWorks read out w v.node = record {
      process = st.works.process;
      links = λ q member. let ahead = st.works.links q member in record {
        behind = ahead.behind;
        is = ap (λ (row : ProcessId → List Message). row q)
            (changed-other g.works.messages from p (changed (g.works.messages from) p comes.0) (λ same. can.other (sym same))) ∙ ahead.is;
        kept = ahead.kept;
      };
    } in
    let known = (known_stays s v.node.process).received from m plain in
    let sends : SendsTo w v.node now t = λ q member uncut. heard-sends s from m v.node q member
    (ap (λ (k : Membership). knows_dead k q) known ∙ unknown-uncut w v.node.process.known words whole.known q uncut) (plain-other m q plain) in
    record {
      may = (
        (record {
          reads = record {
            here = st.here;
            sender = subst (λ (d : Dimensions). IsProcess d from) (sym st.shape) can.member;
            uncut = st.words.cut from ∙ can.uncut;
          };
          other = can.other;
        }),
        tt,
      );
      stands = subst (λ (wire : List Message). MemberStands (record {
        shape = g.shape;
        gone = g.gone;
        words = g.words;
        works = works_received g.shape g.words.cut from p wire g.works;
        gateways = g.gateways;
        signs = g.signs;
      }) out after) (sym comes.1) (record {
        shape = st.shape;
        here = record { member = st.here.member; runs = st.here.runs };
        words = record { cut = st.words.cut; heard = st.words.heard; permitted = st.words.permitted; taken = st.words.taken; said = st.words.said };
        works = subst (λ (u : ProcessStep). HasWorks (stepped g.words.cut p u read) out w now) (sym step)
            (stepped-works g.words.cut read out w v.node now t st.words.cut has (sym (heard-process s from m v.node)) sends);
        signs = record { pinged = st.signs.pinged; answered = st.signs.answered; pings = st.signs.pings; pongs = st.signs.pongs };
        own = st.own;
        callers = st.callers;
        requests = st.requests;
      });
    }

-- a member that has taken a death
abbrev pub with_taken : Member → ProcessId → Member
with_taken v x = record v {
  words = record v.words { taken = with_dead v.words.taken x };
  node = (receive_node v.words.shape x (tells.Notice x) v.node).node;
}

taken-among : (v : Member) (x : ProcessId) → AreAmong v.node.process.known v.words.taken
    → AreAmong (receive v.words.shape x (tells.Notice x) v.node.process).process.known (with_dead v.words.taken x)
taken-among v x among y is =
    let known = known-notice v.words.shape x v.node.process in
    known-of (λ z. knows_dead (with_dead v.words.taken x) z ≡ true) v.node.process.known x (with-itself v.words.taken x)
    (λ z knows. still-known v.words.taken x z (among z knows)) y (ap (λ (k : Membership). knows_dead k y) (sym known) ∙ is)

pub take-whole-too : (v : Member) (x : ProcessId) → AreWords (with_taken v x).words → IsWholeMember v.words.shape v.words v.signs v.node
    → IsWholeMember v.words.shape (with_taken v x).words v.signs (with_taken v x).node
take-whole-too v x words whole =
    let s = v.words.shape in record {
      words = words;
      shape_is = refl;
      lives = heard-lives s x (tells.Notice x) v.node ∙ whole.lives;
      up = heard-up s x (tells.Notice x) v.node ∙ whole.up;
      known = subst (λ (known : Membership). AreAmong known (with_dead v.words.taken x))
          (sym (heard-known s x (tells.Notice x) v.node)) (taken-among v x whole.known);
      counts = whole.counts;
    }

pub take-acts : (v : Member) (x : ProcessId) → CanTakeDeath v.words x → AreWords v.words
    → AreWords (with_taken v x).words → IsWholeMember v.words.shape v.words v.signs v.node
    → Acts (Take x v.words.name ∷ []) v (with_taken v x)
take-acts v x can words after-words whole g out st =
    let w = v.words in
    let p = w.name in
    let s = w.shape in
    let after = with_taken v x in
    let t = receive s x (tells.Notice x) v.node.process in
    let step : receive g.shape x (tells.Notice x) (g.works.process p) ≡ t =
    ap (λ (d : Dimensions). receive d x (tells.Notice x) (g.works.process p)) st.shape ∙ ap (receive s x (tells.Notice x)) st.works.process in
    let cut = words.permitted x can.permitted in
    let has : HasWorks g.works out after.words v.node = record { process = st.works.process; links = st.works.links } in
    let sends : SendsTo after.words v.node after.node t = λ q member uncut. heard-sends s x (tells.Notice x) v.node q member
    (unknown-uncut after.words t.process.known after-words (taken-among v x whole.known) q uncut)
    (λ same. cc (uncut, cut, ap (knows_dead w.cut) (one-dead x q same))) in
    record {
      may = (
        (
          st.here,
          subst (λ (d : Dimensions). IsProcess d x) (sym st.shape) (words.named x cut),
          st.words.permitted x
              ∙ can.permitted,
          st.words.taken x ∙ can.fresh,
        ),
        tt,
      );
      stands = record {
        shape = st.shape;
        here = record { member = st.here.member; runs = st.here.runs };
        words = record {
          cut = st.words.cut;
          heard = st.words.heard;
          permitted = st.words.permitted;
          taken = λ q. ap (λ (set : Processes). set q) (changed-here g.words.taken p (with_one (g.words.taken p) x))
              ∙ ap (λ (b : Bool). one_or (same_process q x) true b) (st.words.taken q) ∙ sym (with-is w.taken x q);
          said = st.words.said;
        };
        works = subst (λ (u : ProcessStep). HasWorks (stepped g.words.cut p u g.works) out after.words after.node) (sym step)
            (stepped-works g.words.cut g.works out after.words v.node after.node t st.words.cut has (sym (heard-process s x (tells.Notice x) v.node)) sends);
        signs = record { pinged = st.signs.pinged; answered = st.signs.answered; pings = st.signs.pings; pongs = st.signs.pongs };
        own = st.own;
        callers = st.callers;
        requests = st.requests;
      };
    }

pub if-up : (down dead : Bool) (node : Node) (t : NodeStep) → down ≡ false → dead ≡ false → if_up down dead node t ≡ t
if-up false false node t up lives = refl
if-up false true node t up lives = absurd (cc lives)
if-up true dead node t up lives = absurd (cc up)

module _ (v : Member) (whole : IsWholeMember v.words.shape v.words v.signs v.node) where
  abbrev flushed : CallStep
  flushed = flush_process v.words.shape v.node.process

  abbrev then : Node
  then = node_after v.words.shape flushed.step v.node

  pub flush-is : flush_node v.words.shape v.node ≡ treated v.words.shape v.node flushed
  flush-is = if-up v.node.down v.node.dead v.node (treated v.words.shape v.node flushed) whole.up whole.lives

  flush-known : AreAmong flushed.step.process.known v.words.taken
  flush-known = subst (λ (known : Membership). AreAmong known v.words.taken) (sym (known_stays v.words.shape v.node.process).flushed) whole.known

  pub flush-whole : IsWholeMember v.words.shape v.words v.signs then
  flush-whole = record { words = whole.words; shape_is = refl; lives = whole.lives; up = whole.up; known = flush-known; counts = whole.counts }

  pub flush-acts : Acts (Flush v.words.name ∷ []) v (record v { node = then })
  flush-acts g out st =
      let w = v.words in
      let p = w.name in
      let t = flushed.step in
      let step : (flush_process g.shape (g.works.process p)).step ≡ t =
      ap (λ (d : Dimensions). (flush_process d (g.works.process p)).step) st.shape ∙ ap (λ (q : Process). (flush_process w.shape q).step) st.works.process in
      let has : HasWorks g.works out w v.node = record { process = st.works.process; links = st.works.links } in
      let sends : SendsTo w v.node then t = λ q member uncut. link-grows w.shape t v.node q member
      (unknown-uncut w t.process.known whole.words flush-known q uncut) in
      record {
        may = (st.here, tt);
        stands = record {
          shape = st.shape;
          here = record { member = st.here.member; runs = st.here.runs };
          words = record { cut = st.words.cut; heard = st.words.heard; permitted = st.words.permitted; taken = st.words.taken; said = st.words.said };
          works = subst (λ (u : ProcessStep). HasWorks (stepped g.words.cut p u g.works) out w then) (sym step)
              (stepped-works g.words.cut g.works out w v.node then t st.words.cut has refl sends);
          signs = record { pinged = st.signs.pinged; answered = st.signs.answered; pings = st.signs.pings; pongs = st.signs.pongs };
          own = st.own;
          callers = st.callers;
          requests = st.requests;
        };
      }
