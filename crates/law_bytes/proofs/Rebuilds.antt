-- A block that a step newly rebuilds is given at the numbers of a plan.
use Rattle.std.proofs.Common.{◌≡◌, ◌≢◌, ℕ, ◌<◌, ◌≤◌, ◌==◌, nat_le, Bool, true, false, not, List, length, find, IfSome, sym, ap, subst, ◌∙◌, refl}
use Rattle.std.specs.Prelude.{Contains}
use Rattle.std.specs.List.{range_with_len}
use Rattle.std.proofs.lemmas.List.{length-take-le}
use Rattle.group_types.specs.Dimensions.{Dimensions}
use Rattle.group_types.specs.Lists.{at}
use Rattle.group_types.specs.Names.{IsProcess}
use Rattle.group_types.specs.Shape.{IsShape}
use Rattle.group_types.specs.declared.process.ProcessId.{ProcessId}
use Rattle.group_types.specs.declared.process.ProcessId.TheVariants.{DataNode, ParityNode}
use Rattle.group_types.specs.Each.{Each}
use Rattle.group_types.proofs.Eaches.{each-take, each-weaker, each-filter}
use Rattle.membership.specs.Members.{Membership, knows_dead}
use Rattle.group_message.specs.declared.message.Message.{Message}
use Rattle.group_message.specs.declared.message.Message.TheVariants as tells
use Rattle.group_message.specs.declared.update.Update.{Update}
use Rattle.group_run.specs.Applying.{apply_to, head_at, quiet, replica_of, when}
use Rattle.group_run.specs.Leaders.{mark_taken}
use Rattle.group_run.specs.Process.{Gathering, Process}
use Rattle.group_run.specs.Receiving.{read_comes, receive, with_rank}
use Rattle.group_run.specs.Replica.{Replica, empty_replica}
use Rattle.group_run.specs.Rows.{accepts_mark, begin_copy, copy_in, parity_number}
use Rattle.law_moves.proofs.Moves.{Acted, Popped}
use Rattle.law_moves.specs.State.{IsGroupUp, State}
use Rattle.law_moves.proofs.Members.{IsParity, MayStand, Members, Stands}
use Rattle.law_moves.proofs.Calls.{each-below}
use Rattle.law_moves.proofs.Standing.{sender-lives}
use Rattle.erasure_code.proofs.Nodes.{Among}
use Rattle.law_bytes.specs.Decoding.{Rising}
use Rattle.law_bytes.proofs.Premises.{AppliesSettled, MarkIsNew, MarksNew}
use Rattle.law_bytes.proofs.Applying.{Holding, holding-from, rebuilt_at}
use Rattle.law_bytes.proofs.Finds.{found-if, rising-take}
use Rattle.law_bytes.proofs.BytesKeeping.{addressed, before-holds, prolongs}
use Rattle.law_bytes.proofs.Marking.{marked-same}
use Rattle.law_bytes.proofs.Rising.{among-filter, contains-among, rising-filtered}
use Rattle.law_bytes.proofs.Values.{Concerns}
use Rattle.law_bytes.proofs.LeadingWords.{IsFor, left_by, lost_by}
use Rattle.law_bytes.proofs.Sound.{enough}
use Rattle.law_bytes.proofs.Kept.{Backed, IsLed, StepSettles}
use Rattle.law_bytes.proofs.Rebuilt.{RebuildsGiven}
use Rattle.law_bytes.proofs.Stamps.{AmongRows, Follows, LostFollows, Plan, ProcessFollows, SessionsStand}
use Rattle.law_bytes.proofs.Giving.{SoundFor, block-given, none-acked, none-apply, none-given, none-notice, none-self, none-when, row-given, taken-given}
use Rattle.law_bytes.proofs.Growing.{grown}
use Rattle.law_bytes.proofs.Receiving.{mark-holds}
use Rattle.law_bytes.specs.Areas.{SettledWrite}

-- a parity process by its number
parity-of : (q : ProcessId) → IsParity q → (l : ℕ) × (q ≡ ParityNode l)
parity-of (ParityNode l) is_parity = (l, refl)
parity-of (DataNode e) is_parity = absurd is_parity

-- a session that is for what is known is sound, where as many rows are left
pub sound-for : (s : Dimensions) (known : Membership) → length (lost_by s known) ≤ length (left_by s known)
    → (g : Gathering) → IsFor s known g → SoundFor s known g
sound-for s known many g is = record {
  sound = record {
    lost = subst Rising (sym is.lost) (rising-filtered (λ d. knows_dead known (DataNode d)) s.k);
    lost_in = subst (Each (λ d. d < s.k)) (sym is.lost) (each-filter (λ d. d < s.k) (λ d. knows_dead known (DataNode d))
        (range_with_len 0 s.k) (each-below s.k));
    rows = subst Rising (sym is.rows)
        (rising-take (length (lost_by s known)) (left_by s known)
        (rising-filtered (λ i. not (knows_dead known (ParityNode i))) s.m));
    rows_in = subst (Each (λ i. i < s.m)) (sym is.rows) (each-take (λ i. i < s.m) (length (lost_by s known)) (left_by s known)
        (each-filter (λ i. i < s.m) (λ i. not (knows_dead known (ParityNode i))) (range_with_len 0 s.m) (each-below s.m)));
    as_many = ap length is.rows ∙ length-take-le (length (lost_by s known)) (left_by s known) many ∙ sym (ap length is.lost);
    blocks = λ d bytes there. let known_living = is.blocks d bytes there in (known_living.0, λ lost. cc (known_living.1, dead d lost));
  };
  lost = dead;
} where
  dead : (d : ℕ) → Contains g.lost d → knows_dead known (DataNode d) ≡ true
  dead d lost = (among-filter (λ e. knows_dead known (DataNode e)) d (range_with_len 0 s.k) (subst (Among d) is.lost (contains-among g.lost d lost))).1

-- of the open session, from each
pub open-sound : (s : Dimensions) (known : Membership) (n : ℕ) (sessions : List Gathering)
    → Each (SoundFor s known) sessions → IfSome (find (λ g. g.number == n) sessions) (SoundFor s known)
open-sound s known n sessions all =
    found-if (λ g. g.number == n) (SoundFor s known) sessions
    (each-weaker (SoundFor s known) (λ g. (g.number == n) ≡ true → SoundFor s known g) (λ g sound passes. sound)
    sessions all)

module _ (s : Dimensions) (shaped : IsShape s) (settled : ℕ → List Update) (write : SettledWrite s settled) where
  -- a message
  module _ (old : ℕ → ℕ → Bool) (v : State) (x y : ProcessId) (p : Process) (name : p.name ≡ y) (xin : IsProcess s x) (living : knows_dead p.known x ≡ false)
      (sound : Each (SoundFor s p.known) p.as_leader.sessions) (holding : Holding s settled old p) where
    receive-given : (m : Message) → MayStand s v x y m → IsLed m → MarksNew m p → AppliesSettled s settled p (receive s x m p)
        → ((l n : ℕ) → y ≡ ParityNode l → (plan : Plan) × ProcessFollows s settled l n plan p × LostFollows l n plan p × Follows s settled l n plan x y m)
        → RebuildsGiven s settled p (receive s x m p).process
    receive-given (tells.Update r d u stable) may led new applies stand =
        none-given s settled p _ (none-when s (nat_le (at 0 p.ranks d.0) r.0) p _ (none-apply s d.0 stable p))
    receive-given (tells.Ack r d k) may led new applies stand = acked x where
      acked : (z : ProcessId) → RebuildsGiven s settled p (receive s z (tells.Ack r d k) p).process
      acked (DataNode e) = none-given s settled p p (none-self s p)
      acked (ParityNode i) = none-given s settled p _ (none-acked s p i r.0 d.0 k (head_at p d.0))
    receive-given (tells.Stable r d k) may led new applies stand =
        none-given s settled p _ (none-when s (nat_le (at 0 p.ranks d.0) r.0) p (quiet (apply_to s d.0 k p))
        (none-apply s d.0 k p))
    receive-given (tells.Adopt r d base list) may led new applies stand =
        none-given s settled p _
        (none-when s (nat_le (at 0 p.ranks d.0) r.0) p _ (none-apply s d.0 base (with_rank d.0 r.0 p)))
    receive-given (tells.ReadBlock session block rows) may led new applies stand = by p.name where
      by : (z : ProcessId) → RebuildsGiven s settled p (read_comes s session block rows p z).process
      by (DataNode e) = none-given s settled p p (none-self s p)
      by (ParityNode i) = none-given s settled p p (none-self s p)
    receive-given (tells.Block session bytes k) may led new applies stand = by x xin living (λ l n is. stand l n is) where
      by : (z : ProcessId) → IsProcess s z → knows_dead p.known z ≡ false
          → ((l n : ℕ) → y ≡ ParityNode l → (plan : Plan) × ProcessFollows s settled l n plan p × LostFollows l n plan p
          × Follows s settled l n plan z y (tells.Block session bytes k))
          → RebuildsGiven s settled p (receive s z (tells.Block session bytes k) p).process
      by (DataNode e) inside lives stands = λ d b more below before after.
          let leader = parity-of session.leader led in
          let here : y ≡ ParityNode leader.0 = sym may.0 ∙ leader.1 in
          let all = stands leader.0 session.number here in
          block-given s shaped settled write leader.0 session.number all.0 p.known p (name ∙ here)
          (all.1.session (name ∙ here)) all.2 (open-sound s p.known session.number p.as_leader.sessions sound)
          e bytes inside lives (all.3 (leader.1, refl)).1 d b more before after
      by (ParityNode i) inside lives stands = none-given s settled p p (none-self s p)
    receive-given (tells.Row session bytes stamp) may led new applies stand = by x (λ l n is. stand l n is) where
      by : (z : ProcessId)
          → ((l n : ℕ) → y ≡ ParityNode l → (plan : Plan) × ProcessFollows s settled l n plan p × LostFollows l n plan p
          × Follows s settled l n plan z y (tells.Row session bytes stamp))
          → RebuildsGiven s settled p (receive s z (tells.Row session bytes stamp) p).process
      by (ParityNode i) stands = λ d b more below before after.
          let leader = parity-of session.leader led in
          let here : y ≡ ParityNode leader.0 = sym may.0 ∙ leader.1 in
          let all = stands leader.0 session.number here in
          let row = all.3 (leader.1, refl) in
          row-given s shaped settled write leader.0 session.number all.0 p.known p (name ∙ here)
          (all.1.session (name ∙ here)) all.2 (open-sound s p.known session.number p.as_leader.sessions sound)
          i bytes row.0 row.1 d b more before after
      by (DataNode e) stands = none-given s settled p p (none-self s p)
    receive-given (tells.Mark session r block d k) may led new applies stand =
        by (accepts_mark p (parity_number session.leader) session.number r.0 d.0) new (applies.within d.0 to.1) where
          to : Concerns s y d.0 × (d.0 < s.k)
          to = addressed s v x y (tells.Mark session r block d k) may

          me : (l : ℕ) × (y ≡ ParityNode l)
          me = parity-of y may.2

          led_by : (z : ProcessId) → IsParity z → (l : ℕ) → parity_number z ≡ l → z ≡ ParityNode l
          led_by (ParityNode i) parity l is = ap ParityNode is
          led_by (DataNode e) parity l is = absurd parity

          concerns : Concerns s p.name d.0
          concerns = subst (λ (z : ProcessId). Concerns s z d.0) (sym name) to.0

          all : (plan : Plan) × ProcessFollows s settled me.0 session.number plan p × LostFollows me.0 session.number plan p
              × Follows s settled me.0 session.number plan x y (tells.Mark session r block d k)
          all = stand me.0 session.number me.1

          by : (b : Bool) → (b ≡ true → MarkIsNew p (parity_number session.leader) session.number d.0 k)
              → (replica_of (when b p (mark_taken s (parity_number session.leader) session.number block d.0 k p)).process d.0).applied ≤ length (settled d.0)
              → RebuildsGiven s settled p (when b p (mark_taken s (parity_number session.leader) session.number block d.0 k p)).process
          by false _ _ = none-given s settled p p (none-self s p)
          by true is_new final = λ e b more below_e before after.
              taken-given s shaped settled write me.0 session.number all.0 p.known p (name ∙ me.1) all.1 all.2
              (open-sound s p.known session.number p.as_leader.sessions sound) (parity_number session.leader) block d.0 k to.1
              (λ leaders numbers. let mark = all.3 (led_by session.leader led me.0 leaders, refl) in
              (mark.0, mark.1, subst (AmongRows all.0.rows) (sym name) mark.2))
              (λ leaders numbers c first. mark-holds s settled write old p (parity_number session.leader) session.number
              block d.0 k concerns to.1 (applies.log d.0 to.1) (is_new refl) last holding c first)
              e b more before after
            where
              last : (replica_of (apply_to s d.0 k (begin_copy s (parity_number session.leader) session.number block p)) d.0).applied ≤ length (settled d.0)
              last = subst (λ (rs : List Replica). (at empty_replica rs d.0).applied ≤ length (settled d.0))
                  (marked-same s d.0 k
                  (copy_in (apply_to s d.0 k (begin_copy s (parity_number session.leader) session.number block
                  p)).as_row.copies (parity_number session.leader) session.number)
                  (apply_to s d.0 k (begin_copy s (parity_number session.leader) session.number block p))).0 final
    receive-given (tells.Cease upto) may led new applies stand = by x where
      by : (z : ProcessId) → RebuildsGiven s settled p (receive s z (tells.Cease upto) p).process
      by (DataNode e) = none-given s settled p p (none-self s p)
      by (ParityNode i) = none-given s settled p _ (λ d b none. none)
    receive-given (tells.Notice dead) may led new applies stand = none-given s settled p _ (none-notice s dead p)

module _ (s : Dimensions) (shaped : IsShape s) where
  pub received : (v u w : State) (x p : ProcessId) (m : Message) → IsProcess s x → IsProcess s p → x ≢ p → IsGroupUp s v
      → v.dead p ≡ false → Backed s v → Members s w → MarksNew m (v.process p)
      → StepSettles s w.settled (v.process p) (receive s x m (v.process p)) → Popped s v u x p m → Acted s u w p (receive s x m (v.process p))
      → SessionsStand s v → RebuildsGiven s w.settled (v.process p) (receive s x m (v.process p)).process
  received v u w x p m xin pin apart up lives backed after new right pops acts stands =
      receive-given s shaped w.settled right.write (rebuilt_at (v.process p)) v x p (v.process p) (backed.members.named p pin) xin
      (sender-lives x (v.dead x) (knows_dead (v.process p).known x) m (u.link x p)
      (subst (Stands x (v.dead x) (knows_dead (v.process p).known x)) pops.first
      (backed.members.stands x p xin pin apart lives)))
      (each-weaker (IsFor s (v.process p).known) (SoundFor s (v.process p).known)
      (sound-for s (v.process p).known (enough s v backed.members up p pin lives)) (v.process p).as_leader.sessions
      (backed.fits p pin lives))
      (holding-from s w.settled (v.process p) (before-holds s v u w p (receive s x m (v.process p)) pin backed.members
      pops.processes pops.dead pops.settled acts lives backed.bytes))
      m (subst (Each (MayStand s v x p)) pops.first (backed.members.may x p xin pin apart lives)).0
      (subst (Each IsLed) pops.first (backed.led x p xin pin apart lives)).0 new right.applies stand
    where
      stand : (l n : ℕ) → p ≡ ParityNode l → (plan : Plan) × ProcessFollows s w.settled l n plan (v.process p)
          × LostFollows l n plan (v.process p) × Follows s w.settled l n plan x p m
      stand l n is =
          let one = stands l n (subst (IsProcess s) is pin) in
          let now = grown s v w.settled l n one.0 (prolongs s v u w p (receive s x m (v.process p)) pin backed.members
          pops.processes pops.dead pops.settled acts) one.1 in (
            one.0,
            now.processes p pin lives,
            now.lost p pin lives,
            (subst (Each (Follows s w.settled l n one.0 x p)) pops.first (now.links x p xin pin apart lives)).0,
          )
