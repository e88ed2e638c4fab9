-- Between two living processes every message that tells of updates has a frame.
use Rattle.std.proofs.Common.{◌≡◌, ◌≢◌, ◌<◌, ◌≤◌, ℕ, ◌^◌, false, List, [], ◌∷◌, Option, Some, None, refl, sym, ap, subst, ◌∙◌, arith}
use Rattle.std.specs.Prelude.{option_map}
use Rattle.group_types.specs.Dimensions.{Dimensions}
use Rattle.group_types.specs.Each.{Each}
use Rattle.group_types.specs.Names.{IsProcess, of_rank}
use Rattle.group_types.specs.Shape.{IsShape}
use Rattle.group_types.specs.declared.process.ProcessId.{ProcessId}
use Rattle.group_types.specs.declared.process.ProcessId.TheVariants.{DataNode, ParityNode}
use Rattle.group_message.specs.declared.message.Message.{Message}
use Rattle.group_message.specs.declared.message.Message.TheVariants as tells
use Rattle.group_run.specs.Applying.{head_at, replica_of}
use Rattle.group_run.specs.Process.{Head}
use Rattle.group_run.specs.Replica.{last_of}
use Rattle.group_run.specs.World.{AskedCall}
use Rattle.law_moves.specs.State.{State}
use Rattle.law_moves.proofs.Members.{IsFrom, IsParity, MayStand, seat_of}
use Rattle.law_histories.proofs.Histories.{length-history}
use Rattle.law_histories.proofs.LaneWords.{AckBelow}
use Rattle.law_histories.proofs.Reach.{seen_at}
use Rattle.law_headline.proofs.Joint.{Whole}
use Rattle.law_headline.proofs.Sound.{LinksSound, Sound}
use Rattle.law_frames.specs.Laws.{HasFrameIfTelling}
use Rattle.law_frames.proofs.Lanes.{Found, lane-found}
use Rattle.law_frames.proofs.Sizes.{adopt-frame, update-frame}
use Rattle.law_frames.proofs.Updates.{CallFits}

-- a process that heads a partition under a rank
heads-by : (o : Option Head) (r : ℕ) → option_map (λ h. h.rank) o ≡ Some r → (h : Head) × (o ≡ Some h) × (h.rank ≡ r)
heads-by None r is = absurd cc
heads-by (Some h) r is = (h, refl, cc)

module _ (s : Dimensions) (shaped : IsShape s) (calls : List AskedCall) (fits : Each CallFits calls) (v : State)
    (whole : Whole s calls v) (sound : LinksSound s v) (n : ℕ) (few : n < 2 ^ 63)
    (low : (p : ProcessId) (d : ℕ) → IsProcess s p → v.dead p ≡ false → last_of (replica_of (v.process p) d) ≤ n) where
  seated : (x : ProcessId) (d r : ℕ) → v.dead x ≡ false → IsFrom s v x d r → (h : Head) × (head_at (v.process x) d ≡ Some h) × (h.rank ≡ r)
  seated x d r lives from =
      let at_rank : v.dead (of_rank d r) ≡ false = ap v.dead (sym from.0) ∙ lives in
      heads-by (head_at (v.process x) d) r (subst (λ (y : ProcessId). seat_of (v.process y) d ≡ Some r) (sym from.0) (from.1.leads at_rank))

  ranks : (x : ProcessId) (d r : ℕ) → IsFrom s v x d r → (r < 256) × (d < 256)
  ranks x d r from =
      let most_r = shaped.m in
      let most_d = shaped.k.1 in
      let is_r = from.1.rank in
      let is_d = from.1.partition in
      (omega (arith, most_r, is_r), omega (arith, most_d, is_d))

  module _ (x q : ProcessId) (qin : IsProcess s q) (lives : v.dead x ≡ false) (receives : v.dead q ≡ false) where
    -- what is told of the partitions that their ends head
    abbrev Lanes : List Message → Type 0
    Lanes ms = (d : ℕ) (h : Head) → IsParity q → d < s.k → head_at (v.process x) d ≡ Some h → Each (Found n d h.rank) ms

    abbrev Acks : List Message → Type 0
    Acks ms = (d : ℕ) (h : Head) → IsParity x → d < s.k → head_at (v.process q) d ≡ Some h → Each (AckBelow d (last_of (replica_of (v.process q) d))) ms

    told : (m : Message) (rest : List Message) → MayStand s v x q m → Sound s x m → Lanes (m ∷ rest) → Acks (m ∷ rest) → HasFrameIfTelling m
    told (tells.Update r e u stable) rest may carries lanes acks =
        let head = seated x e.0 r.0 lives may.0 in
        let all = (lanes e.0 head.0 may.1 may.0.1.partition head.1).0 refl (sym head.2) in
        let narrow = ranks x e.0 r.0 may.0 in
        let told = all.2 in
        update-frame r.0 e.0 stable u narrow.0 narrow.1 (omega (arith, told, few)) all.0 all.1
    told (tells.Adopt r e base list) rest may carries lanes acks =
        let head = seated x e.0 r.0 lives may.0 in
        let all = (lanes e.0 head.0 may.2 may.0.1.partition head.1).0 refl (sym head.2) in
        let narrow = ranks x e.0 r.0 may.0 in
        let told = all.3 in
        adopt-frame r.0 e.0 base list narrow.0 narrow.1 (omega (arith, told, few)) all.2 all.0 all.1
    told (tells.Stable r e number) rest may carries lanes acks =
        let head = seated x e.0 r.0 lives may.0 in
        let told = (lanes e.0 head.0 may.1 may.0.1.partition head.1).0 refl (sym head.2) in
        let narrow = ranks x e.0 r.0 may.0 in
        record { fit = (narrow.0, narrow.1, omega (arith, told, few)); short = omega arith }
    told (tells.Ack r e number) rest may carries lanes acks =
        let head = seated q e.0 r.0 receives may in
        let told = (acks e.0 head.0 carries may.1.partition head.1).0 refl in
        let most = low q e.0 qin receives in
        let narrow = ranks q e.0 r.0 may in
        record { fit = (narrow.0, narrow.1, omega (arith, told, most, few)); short = omega arith }
    told (tells.ReadBlock session block rows) rest may carries lanes acks = tt
    told (tells.Block session bytes number) rest may carries lanes acks = tt
    told (tells.Mark session r block e number) rest may carries lanes acks = tt
    told (tells.Row session bytes stamp) rest may carries lanes acks = tt
    told (tells.Cease upto) rest may carries lanes acks = tt
    told (tells.Notice dead) rest may carries lanes acks = tt

    all-told : (ms : List Message) → Each (MayStand s v x q) ms → Each (Sound s x) ms → Lanes ms → Acks ms → Each HasFrameIfTelling ms
    all-told [] may carries lanes acks = tt
    all-told (m ∷ ms) may carries lanes acks = (
      told m ms may.0 carries.0 lanes acks,
      all-told ms may.1 carries.1 (λ d h parity below heads. (lanes d h parity below heads).1) (λ d h parity below heads. (acks d h parity below heads).1),
    )

  -- what is told of a partition that its end heads
  lanes-of : (x q : ProcessId) → IsProcess s x → IsProcess s q → x ≢ q → v.dead x ≡ false → v.dead q ≡ false
      → (d : ℕ) (h : Head) → IsParity q → d < s.k → head_at (v.process x) d ≡ Some h
      → Each (Found n d h.rank) (v.link x q)
  lanes-of x (DataNode e) xin qin apart lives receives d h parity below heads = absurd parity
  lanes-of x (ParityNode i) xin qin apart lives receives d h parity below heads =
      let lane = (whole.reach d below).lanes x i xin qin apart receives in
      let mine = (whole.reach d below).replicas (ParityNode i) qin receives tt in
      let reaches = mine.prolongs.reaches in
      let long = length-history (v.settled d) (replica_of (v.process (ParityNode i)) d) mine.applied in
      let most = low (ParityNode i) d qin receives in
      let ends = (lane.ends lives h heads).rank in
      lane-found s shaped calls fits n few d (v.settled d) (omega (arith, reaches, long, most))
      (seen_at d (v.settled d) (v.process (ParityNode i))) (v.link x (ParityNode i)) h.rank lane.goes
      (omega (arith, ends)) reaches

  acks-of : (x q : ProcessId) → IsProcess s x → IsProcess s q → x ≢ q → v.dead q ≡ false → (d : ℕ) (h : Head)
      → IsParity x → d < s.k → head_at (v.process q) d ≡ Some h
      → Each (AckBelow d (last_of (replica_of (v.process q) d))) (v.link x q)
  acks-of (DataNode e) q xin qin apart receives d h parity below heads = absurd parity
  acks-of (ParityNode i) q xin qin apart receives d h parity below heads = (whole.reach d below).issued q i h qin receives xin (λ same. apart (sym same)) heads

  pub tellings : (x q : ProcessId) → IsProcess s x → IsProcess s q → x ≢ q → v.dead x ≡ false → v.dead q ≡ false → Each HasFrameIfTelling (v.link x q)
  tellings x q xin qin apart lives receives =
      all-told x q qin lives receives (v.link x q) (whole.carried.members.may x q xin qin apart receives) (sound.links x q xin qin apart receives)
      (lanes-of x q xin qin apart lives receives) (acks-of x q xin qin apart receives)
