-- What the first message of a link meets: one kind of message after the other.
use Rattle.std.proofs.Common.{◌≡◌, ◌≢◌, ℕ, ◌<◌, ◌==◌, false, List, ◌∷◌, length, Option, Some, None, IfSome, sym, ap, subst, ◌∙◌, refl}
use Rattle.std.specs.Prelude.{Contains}
use Rattle.std.specs.List.{range_with_len}
use Rattle.erasure_code.proofs.Nodes.{Among}
use Rattle.group_types.specs.Dimensions.{Dimensions}
use Rattle.group_types.specs.Lists.{at}
use Rattle.group_types.specs.Names.{IsProcess}
use Rattle.group_types.specs.declared.process.ProcessId.{ProcessId}
use Rattle.group_types.specs.declared.process.ProcessId.TheVariants.{DataNode, ParityNode}
use Rattle.group_types.specs.Each.{Each}
use Rattle.membership.specs.Members.{knows_dead}
use Rattle.group_message.specs.declared.message.Message.{Message}
use Rattle.group_message.specs.declared.message.Message.TheVariants as tells
use Rattle.group_message.specs.declared.message.Session.{Session}
use Rattle.group_run.specs.Fitting.{BlockFits, Fits}
use Rattle.group_run.specs.Leaders.{open_session}
use Rattle.group_run.specs.Process.{Gathering}
use Rattle.group_run.specs.World.{AskedCall}
use Rattle.law_moves.specs.State.{State}
use Rattle.law_moves.proofs.Members.{IsData, IsParity, MayStand, Stands}
use Rattle.law_moves.proofs.Standing.{sender-lives}
use Rattle.law_histories.proofs.LaneWords.{Goes, next}
use Rattle.law_histories.proofs.Lanes.{live-is}
use Rattle.law_histories.proofs.FitWords.{FitsNumbers}
use Rattle.law_histories.proofs.Reach.{IsKeeper, ReplicaReaches, seen_at}
use Rattle.law_histories.proofs.Fits.{fits-numbers}
use Rattle.law_histories.proofs.Folds.{Along}
use Rattle.law_updates.specs.Fine.{Fine}
use Rattle.law_bytes.proofs.Finds.{found-each}
use Rattle.law_bytes.proofs.Rising.{among-filter, contains-among}
use Rattle.law_bytes.proofs.LeadingWords.{IsFor}
use Rattle.law_headline.proofs.MeetingWords.{GroupStands, MessagesFit, RowAsked, SameBlock}
use Rattle.law_headline.proofs.Sound.{Sound}
use Rattle.law_headline.proofs.Comes.{adopt-comes, update-comes}

if-both : {X : Type 0} (P Q : X → Type 0) (o : Option X) → IfSome o P → IfSome o Q → IfSome o (λ x. P x × Q x)
if-both P Q None a b = tt
if-both P Q (Some x) a b = (a, b)

-- a data process, and a parity process, by its number
as-data : (s : Dimensions) (x : ProcessId) → IsProcess s x → IsData x → (d : ℕ) × (x ≡ DataNode d) × (d < s.k)
as-data s (DataNode d) there holds = (d, refl, there)
as-data s (ParityNode i) there holds = absurd holds

as-parity : (s : Dimensions) (x : ProcessId) → IsProcess s x → IsParity x → (i : ℕ) × (x ≡ ParityNode i) × (i < s.m)
as-parity s (ParityNode i) there parity = (i, refl, there)
as-parity s (DataNode d) there parity = absurd parity

module _ (s : Dimensions) (calls : List AskedCall) (v : State) (stands : GroupStands s calls v) (x p : ProcessId) (xin : IsProcess s x) (pin : IsProcess s p)
    (apart : x ≢ p) (lives : v.dead p ≡ false) where
  abbrev First : Message → List Message → Type 0
  First m rest = v.link x p ≡ m ∷ rest

  may-first : (m : Message) (rest : List Message) → First m rest → MayStand s v x p m
  may-first m rest first = (subst (Each (MayStand s v x p)) first (stands.members.may x p xin pin apart lives)).0

  sound-first : (m : Message) (rest : List Message) → First m rest → Sound s x m
  sound-first m rest first = (subst (Each (Sound s x)) first (stands.sound.links x p xin pin apart lives)).0

  numbers : (m : Message) (rest : List Message) → First m rest → FitsNumbers s x m (v.process p)
  numbers m rest first = fits-numbers (Fine s calls) s v stands.members stands.reach x p xin pin apart lives m rest first

  goes-by : (y : ProcessId) → p ≡ y → (m : Message) (rest : List Message) → First m rest → (d : ℕ) → d < s.k → IsParity y
      → Goes (Fine s calls) d (v.settled d) (seen_at d (v.settled d) (v.process p)) m × ReplicaReaches (Fine s calls) d (v.settled d) (v.process p)
  goes-by (DataNode e) is m rest first d below parity = absurd parity
  goes-by (ParityNode i) is m rest first d below parity = (
    (subst (Along (next d) (Goes (Fine s calls) d (v.settled d)) (seen_at d (v.settled d) (v.process p))) (ap (v.link x) (sym is) ∙ first)
        (subst (λ (y : ProcessId). Along (next d) (Goes (Fine s calls) d (v.settled d))
        (seen_at d (v.settled d) (v.process y)) (v.link x (ParityNode i))) (sym is)
        ((stands.reach d below).lanes x i xin (subst (IsProcess s) is pin) (λ same. apart (same ∙ sym is)) (ap v.dead (sym is) ∙ lives)).goes)).0,
    (stands.reach d below).replicas p pin lives (subst (IsKeeper d) (sym is) tt),
  )

  goes-first : (m : Message) (rest : List Message) → First m rest → (d : ℕ) → d < s.k → IsParity p
      → Goes (Fine s calls) d (v.settled d) (seen_at d (v.settled d) (v.process p)) m × ReplicaReaches (Fine s calls) d (v.settled d) (v.process p)
  goes-first m rest first d below parity = goes-by p refl m rest first d below parity

  -- the sender isn't known to be dead
  unknown-first : (m : Message) (rest : List Message) → First m rest → knows_dead (v.process p).known x ≡ false
  unknown-first m rest first =
      sender-lives x (v.dead x) (knows_dead (v.process p).known x) m rest
      (subst (Stands x (v.dead x) (knows_dead (v.process p).known x)) first
      (stands.members.stands x p xin pin apart lives))

  -- a block comes of a partition that isn't lost
  block-fits : (number : ℕ) (bytes : List ℕ) → IsData x → knows_dead (v.process p).known x ≡ false
      → length bytes ≡ s.block → BlockFits s x (v.process p) number bytes
  block-fits number bytes holder unknown long =
      let named = as-data s x xin holder in
      record { sender = (named.0, named.1, named.2, left named.0 named.1 (open_session (v.process p).as_leader number) refl); long = long }
    where
      left : (d : ℕ) → x ≡ DataNode d → (o : Option Gathering) → open_session (v.process p).as_leader number ≡ o → IfSome o (λ g. ¬ (Contains g.lost d))
      left d is None found = tt
      left d is (Some g) found = λ lost.
          let fits = (found-each (λ y. y.number == number) (IsFor s (v.process p).known)
          (v.process p).as_leader.sessions g found (stands.sessions p pin lives)).1 in
          let known = (among-filter (λ e. knows_dead (v.process p).known (DataNode e)) d (range_with_len 0 s.k)
          (subst (Among d) fits.lost (contains-among g.lost d lost))).1 in
          cc (known, ap (knows_dead (v.process p).known) (sym is) ∙ unknown)

  row-asked : (session : Session) (bytes stamp : List ℕ) (i : ℕ) → x ≡ ParityNode i → RowAsked x (tells.Row session bytes stamp) (v.process p)
      → IfSome (open_session (v.process p).as_leader session.number) (λ g. Contains g.rows i)
  row-asked session bytes stamp i is asked = subst (λ (y : ProcessId). RowAsked y (tells.Row session bytes stamp) (v.process p)) is asked

  pub first-fits : (m : Message) (rest : List Message) → First m rest → SameBlock m (v.process p) → RowAsked x m (v.process p) → Fits s x m (v.process p)
  first-fits (tells.Update r e u stable) rest first same asked =
      let may = may-first (tells.Update r e u stable) rest first in
      let told = numbers (tells.Update r e u stable) rest first in (
        told.0,
        λ low.
            let both = goes-first (tells.Update r e u stable) rest first e.0 may.0.1.partition may.1 in
            let fit = told.1 low in
            record {
              next = fit.next;
              reached = fit.reached;
              comes = update-comes s calls e.0 (v.settled e.0) (v.process p) both.1 r.0 stable u
                  (both.0 (live-is e.0 (seen_at e.0 (v.settled e.0) (v.process p)) e.0 r.0 refl low));
              few = fit.few;
            },
      )
  first-fits (tells.Adopt r e base list) rest first same asked =
      let may = may-first (tells.Adopt r e base list) rest first in
      let told = numbers (tells.Adopt r e base list) rest first in (
        told.0,
        λ low.
            let both = goes-first (tells.Adopt r e base list) rest first e.0 may.0.1.partition may.2 in
            let fit = told.1 low in
            record {
              reached = fit.reached;
              numbers = fit.numbers;
              reaches = fit.reaches;
              come = adopt-comes s calls e.0 (v.settled e.0) (v.process p) both.1 r.0 base list
                  (both.0 (live-is e.0 (seen_at e.0 (v.settled e.0) (v.process p)) e.0 r.0 refl low));
              few = fit.few;
            },
      )
  first-fits (tells.Ack r e n) rest first same asked =
      let named = as-parity s x xin (sound-first (tells.Ack r e n) rest first) in
      let told = subst (λ (y : ProcessId). FitsNumbers s y (tells.Ack r e n) (v.process p)) named.1 (numbers (tells.Ack r e n) rest first) in
      record { ranked = told.ranked; sender = named; heads = told.heads; issued = told.issued }
  first-fits (tells.Stable r e n) rest first same asked = numbers (tells.Stable r e n) rest first
  first-fits (tells.ReadBlock session block rows) rest first same asked =
      let may = may-first (tells.ReadBlock session block rows) rest first in
      let asks = sound-first (tells.ReadBlock session block rows) rest first in
      let named = as-data s p pin may.2 in
      record {
        holder = (named.0, stands.members.named p pin ∙ named.1, named.2);
        leader = asks.leader;
        inside = asks.inside;
        in_group = asks.in_group;
        differ = asks.differ;
      }
  first-fits (tells.Block session bytes n) rest first same asked =
      let may = may-first (tells.Block session bytes n) rest first in
      block-fits session.number bytes may.1 (unknown-first (tells.Block session bytes n) rest first) (sound-first (tells.Block session bytes n) rest first)
  first-fits (tells.Mark session r block e n) rest first same asked = λ accepts.
      let carries = sound-first (tells.Mark session r block e n) rest first in
      let told = numbers (tells.Mark session r block e n) rest first accepts in
      record {
        leader = carries.0;
        partition = told.partition;
        inside = carries.1;
        above = told.above;
        issued = told.issued;
        unmarked = if-both (λ c. at None c.marks e.0 ≡ None) (λ c. c.block ≡ block) _
            (stands.marks.coming x p (tells.Mark session r block e n) rest xin pin apart lives first) same;
      }
  first-fits (tells.Row session bytes stamp) rest first same asked =
      let may = may-first (tells.Row session bytes stamp) rest first in
      let named = as-parity s x xin may.1 in
      record {
        sender = (named.0, named.1, named.2, row-asked session bytes stamp named.0 named.1 asked);
        long = sound-first (tells.Row session bytes stamp) rest first;
      }
  first-fits (tells.Cease upto) rest first same asked = as-parity s x xin (sound-first (tells.Cease upto) rest first)
  first-fits (tells.Notice dead) rest first same asked = numbers (tells.Notice dead) rest first

pub messages_fit : MessagesFit
messages_fit s calls v stands x p m rest xin pin apart lives first same asked = first-fits s calls v stands x p xin pin apart lives m rest first same asked
