-- What acknowledgements tell, kept where a message is received.
use Rattle.std.proofs.Common.{ℕ, suc, ◌≡◌, ◌≢◌, ◌<◌, ◌≤◌, ◌+◌, ◌-◌, ◌==◌, nat_le, Bool, true, false, List, [], ◌∷◌}
use Rattle.std.proofs.Common.{◌++◌, length, take, Option, Some, None, ◌⊎◌, inl, inr, refl, sym, ap, subst, ◌∙◌, arith}
use Rattle.std.proofs.lemmas.Bool.{cases_eq}
use Rattle.std.proofs.lemmas.Grind.{common_steps}
use Rattle.std.proofs.lemmas.List.{length-append, length-drop, length-take}
use Rattle.std.specs.Prelude.{option_map}
use Rattle.group_types.specs.Dimensions.{Dimensions}
use Rattle.group_types.specs.Lists.{at, put}
use Rattle.group_types.specs.Names.{IsProcess, of_rank}
use Rattle.group_types.specs.Shape.{IsShape}
use Rattle.group_types.specs.declared.process.ProcessId.{ProcessId}
use Rattle.group_types.specs.declared.process.ProcessId.TheVariants.{DataNode, ParityNode}
use Rattle.group_types.proofs.Lists.{at-put, at-put-other}
use Rattle.group_types.proofs.Names.{same-cases, same-refl}
use Rattle.membership.specs.Members.{knows_dead}
use Rattle.group_message.specs.declared.message.Message.{Message}
use Rattle.group_message.specs.declared.message.Message.TheVariants as tells
use Rattle.group_message.specs.declared.message.Session.{Session}
use Rattle.group_message.specs.declared.update.Update.{Update}
use Rattle.group_types.specs.declared.process.Partition.{Partition}
use Rattle.group_types.specs.declared.process.Rank.{Rank}
use Rattle.group_types.specs.Each.{Each}
use Rattle.group_run.specs.Applying.{ProcessStep, apply_to, head_at, quiet, replica_of, when, with_head}
use Rattle.group_run.specs.Heading.{acknowledge, acknowledged, judge, partition, rank}
use Rattle.group_run.specs.Process.{Head, Process}
use Rattle.group_run.specs.Receiving.{ack_to, adopting, log_adopted, notice_comes, receive, update_taken, with_rank}
use Rattle.group_run.specs.Replica.{applied_to, empty_replica, last_of, with_update}
use Rattle.group_run.specs.Rows.{parity_number}
use Rattle.group_run.specs.World.{front_if, sent_to}
use Rattle.group_run.specs.History.{history}
use Rattle.law_moves.proofs.Moves.{Acted, Popped}
use Rattle.law_moves.specs.State.{IsGroupUp, State}
use Rattle.law_moves.proofs.Members.{IsFrom, IsParity, MayStand, Members, Reigns, seat_of}
use Rattle.law_moves.specs.Known.{is_notice}
use Rattle.law_moves.proofs.Calls.{Owes}
use Rattle.law_moves.proofs.Keeping.{ground_of, seat-from, may-mark}
use Rattle.law_moves.proofs.Messages.{DueTo, received}
use Rattle.law_moves.proofs.Notices.{Noticed, noticed}
use Rattle.law_histories.proofs.LaneWords.{AckFits, AckGoes, AdoptGoes, Goes, Seen, UpdateGoes, next}
use Rattle.law_histories.proofs.Histories.{applied-is, last-number, length-history}
use Rattle.law_histories.proofs.Lanes.{live-is}
use Rattle.law_histories.proofs.Reach.{Any, IsKeeper, ReplicaReaches, seen_at}
use Rattle.law_histories.proofs.Around.{Around, enters}
use Rattle.law_histories.proofs.Heads.{replica-apply_to}
use Rattle.law_histories.proofs.Keeping.{keeps_reach, unknown}
use Rattle.law_histories.proofs.Messages.{parity-is}
use Rattle.law_histories.proofs.Ranks.{Used, head-from, lower-rank, used}
use Rattle.law_histories.proofs.Told.{Acks, IsTold, Settles, Told, newest}
use Rattle.law_histories.proofs.Handling.{plain-adopt, plain-read, plain-taken}
use Rattle.law_histories.proofs.ToldKeeping.{HeadSide, Reached, SenderSide, head-same, seated-at, sender-one, told-left}
use Rattle.law_histories.proofs.Newest.{NoAck, Silent, newest-append, newest-sent, silent-well, told-here, told-none}
use Rattle.law_histories.proofs.Plain.{Plain, onward-notice, plain-apply, plain-judge, plain-mark, plain-refl}
use Rattle.law_histories.proofs.Plain.{plain-trans, plain-when, settles-judge, settles-notice, settles-plain}
use Rattle.law_histories.proofs.Folds.{Along}

-- an acknowledgement at a process: nothing but a head's record of it changes
record TakesAck (s : Dimensions) (d j r n : ℕ) (p q : Process) : Type 0 where
  rank : at 0 q.ranks d ≡ at 0 p.ranks d
  last : last_of (replica_of q d) ≡ last_of (replica_of p d)
  settles : Settles s d p → Settles s d q
  heads : (h : Head) → head_at q d ≡ Some h → ((head_at p d ≡ Some h) × (r ≢ h.rank)) ⊎ ((g : Head) × (head_at p d ≡ Some g) × (h ≡ acknowledged j n g))

takes-ack : (s : Dimensions) (d j r n : ℕ) (p : Process) (o : Option Head) → head_at p d ≡ o → TakesAck s d j r n p (acknowledge s j r d n o p).process
takes-ack s d j r n p None is = record { rank = refl; last = refl; settles = λ old. old; heads = λ h heads. absurd (cc (is, heads)) }
takes-ack s d j r n p (Some g) is = by (r == g.rank) refl where
  new : Process
  new = with_head d (Some (acknowledged j n g)) p

  judged : Plain d new (judge s d new).process
  judged = plain-judge s d d new

  here : head_at new d ≡ Some (acknowledged j n g)
  here = at-put None None p.heads d (Some (acknowledged j n g))

  by : (b : Bool) → (r == g.rank) ≡ b → TakesAck s d j r n p (when b p (judge s d new)).process
  by true test = record {
    rank = judged.rank;
    last = judged.last;
    settles = λ old. settles-judge s d new;
    heads = λ h heads. let same : h ≡ acknowledged j n g = cc (judged.head, here, heads) in inr (g, is, same);
  }
  by false test = record {
    rank = refl;
    last = refl;
    settles = λ old. old;
    heads = λ h heads. let same : h ≡ g = cc (is, heads) in let apart : r ≢ g.rank = grind (arith, common_steps) in
        inl (heads, subst (λ (x : Head). r ≢ x.rank) (sym same) apart);
  }

module _ (s : Dimensions) (shaped : IsShape s) (v u w : State) (x p : ProcessId) (m : Message) (xin : IsProcess s x)
    (pin : IsProcess s p) (apart : x ≢ p) (up : IsGroupUp s v) (lives : v.dead p ≡ false) (reached : Reached s v)
    (told : Told s v)
    (pops : Popped s v u x p m) (acts : Acted s u w p (receive s x m (v.process p))) where
  abbrev proc : Process
  proc = v.process p

  abbrev made : ProcessStep
  made = receive s x m (v.process p)

  members : Members s v
  members = reached.0

  after : Members s w
  after = ((keeps_reach s shaped).receives v u w x p m xin pin apart up lives reached pops acts).0

  dead : (q : ProcessId) → IsProcess s q → w.dead q ≡ v.dead q
  dead q qin = acts.dead q qin ∙ pops.dead q qin

  others : (q : ProcessId) → IsProcess s q → q ≢ p → w.process q ≡ v.process q
  others q qin other = acts.others q qin other ∙ pops.processes q qin

  between : (y q : ProcessId) → IsProcess s y → IsProcess s q → y ≢ p → q ≢ p → w.link y q ≡ v.link y q
  between y q yin qin other qother = acts.links y q yin qin other ∙ pops.links y q yin qin (inr qother)

  abbrev Heads : ℕ → Type 0
  Heads d = HeadSide s v w p pin others dead between told d

  abbrev Sends : ℕ → Type 0
  Sends d = SenderSide s v w p pin others dead between told d

  abbrev All : ℕ → Type 0
  All d = Settles s d (w.process p) × Heads d × Sends d

  may-first : MayStand s v x p m
  may-first = (subst (Each (MayStand s v x p)) pops.first (members.may x p xin pin apart lives)).0

  out : (y : ProcessId) → IsProcess s y → y ≢ p → v.dead y ≡ false → w.link p y ≡ v.link p y ++ sent_to y made.sent
  out y yin other living =
      acts.sends y yin (ap (λ (z : Process). knows_dead z.known y) (sym acts.process)
      ∙ unknown s w after p pin (dead p pin ∙ lives) y yin other (dead y yin ∙ living))
      ∙ ap (λ (link : List Message). link ++ sent_to y made.sent) (pops.links p y pin yin (inr other))

  -- what is on its way, but for a message that acknowledges nothing of the partition
  back : (d : ℕ) → NoAck d m → (i : ℕ) → i < s.m → ParityNode i ≢ p → (o : Option ℕ)
      → newest d o (w.link (ParityNode i) p) ≡ newest d o (v.link (ParityNode i) p)
  back d none i iin other o = by (same-cases (ParityNode i) x) where
    by : (ParityNode i ≡ x) ⊎ (ParityNode i ≢ x) → newest d o (w.link (ParityNode i) p) ≡ newest d o (v.link (ParityNode i) p)
    by (inr apart_from) = ap (newest d o) (acts.links (ParityNode i) p iin pin other ∙ pops.links (ParityNode i) p iin pin (inl apart_from))
    by (inl same) =
        ap (newest d o) (acts.links (ParityNode i) p iin pin other ∙ ap (λ (y : ProcessId). u.link y p) same)
        ∙ sym (ap (newest d o) (ap (λ (y : ProcessId). v.link y p) same ∙ pops.first) ∙ ap (λ (k : Option ℕ). newest d k (u.link x p)) (told-none d o m none))

  -- nothing is acknowledged, and as much is had under the same rank
  sends-same : (d : ℕ) → d < s.k → at 0 made.process.ranks d ≡ at 0 proc.ranks d → last_of (replica_of made.process d)
      ≡ last_of (replica_of proc d) → Silent d made.sent → Sends d
  sends-same d below rank last silent y i yin other living is =
      sender-one s v w p pin others dead between told d below lives y i yin other living is
      (ap (λ (z : Process). at 0 z.ranks d) acts.process ∙ rank) (ap (λ (z : Process). last_of (replica_of z d)) acts.process ∙ last)
      (λ o. ap (newest d o) (out y yin other living) ∙ newest-sent d y made.sent silent (v.link p y) o)

  heads-same : (d : ℕ) → d < s.k → head_at made.process d ≡ head_at proc d → NoAck d m → Heads d
  heads-same d below head none = head-same s v w p pin others dead between told d below lives
      (ap (λ (z : Process). head_at z d) acts.process ∙ head) (back d none)

  plainly : (d : ℕ) → d < s.k → Plain d proc made.process → Silent d made.sent → NoAck d m → All d
  plainly d below plain silent none = (
    subst (Settles s d) (sym acts.process) (settles-plain s d proc made.process plain (told.settles p d pin lives below)),
    heads-same d below plain.head none,
    sends-same d below plain.rank plain.last silent,
  )

  -- what is sent in answer to a message that isn't a notice
  silent-by : (d : ℕ) → is_notice m ≡ false → ((to : ProcessId) (r e : ℕ) → DueTo x m to r e → e ≢ d) → Silent d made.sent
  silent-by d plain none = silent-well d (DueTo x m) s.k made.process none made.sent
      (received s x p m proc plain pin (seated-at s shaped v members p pin lives) (may-mark s v x p m may-first)).sent

  module _ (d : ℕ) (below : d < s.k) where
    around : Around Any s v d p proc (v.link p) (λ y. v.link y p) (v.settled d)
    around = enters Any s v members d below p pin lives (reached.1 d below)

    abbrev seen : Seen
    seen = seen_at d (v.settled d) proc

    -- a rank that is in use and not below the process's own is another head's
    hears-none : (r : ℕ) → Used s v d x r → at 0 proc.ranks d ≤ r → head_at proc d ≡ None
    hears-none r from low = by (head_at proc d) refl where
      by : (o : Option Head) → head_at proc d ≡ o → head_at proc d ≡ None
      by None is = is
      by (Some g) is =
          let sits = around.sits g is in
          let less : r < g.rank = lower-rank s v d p x g.rank r sits.name lives apart from in
          let own = sits.rank in absurd (omega (arith, less, own, low))

    -- it hears a head, and acknowledges all that it has then
    hears : (r n : ℕ) → Used s v d x r → at 0 proc.ranks d ≤ r → head_at made.process d ≡ head_at proc d
        → made.sent ≡ record { to = x; message = tells.Ack (rank r) (partition d) n } ∷ []
        → at 0 made.process.ranks d ≡ r → ((i : ℕ) → p ≡ ParityNode i → last_of (replica_of made.process d) ≡ n) → All d
    hears r n from low head sent ranked last = (
      (λ h heads. absurd (cc (none, sym head ∙ ap (λ (z : Process). head_at z d) (sym acts.process) ∙ heads))),
      (λ i iin other living h heads same. absurd (cc (none, sym head ∙ ap (λ (z : Process). head_at z d) (sym acts.process) ∙ heads))),
      (λ y i yin other living is h heads same. acknowledges y i yin other living is h heads same),
    ) where
      none : head_at proc d ≡ None
      none = hears-none r from low

      acknowledges : (y : ProcessId) (i : ℕ) → IsProcess s y → y ≢ p → v.dead y ≡ false → p ≡ ParityNode i → (h : Head)
          → head_at (v.process y) d ≡ Some h → at 0 (w.process p).ranks d ≡ h.rank
          → IsTold h.rank (newest d (at None h.acks i) (w.link p y)) (last_of (replica_of (w.process p) d))
      acknowledges y i yin other living is h heads same =
          inl (told_now ∙ ap Some (sym (ap (λ (z : Process). last_of (replica_of z d)) acts.process ∙ last i is))) where
            rank_is : r ≡ h.rank
            rank_is = sym ranked ∙ ap (λ (z : Process). at 0 z.ranks d) (sym acts.process) ∙ same

            is_head : x ≡ y
            is_head = from.0 ∙ ap (of_rank d) rank_is ∙ sym (head-from s v d members below y h yin living heads).0

            one : sent_to y made.sent ≡ tells.Ack (rank r) (partition d) n ∷ []
            one =
                ap (sent_to y) sent ∙ ap (λ (z : ProcessId). sent_to y (record { to = z; message = tells.Ack (rank r) (partition d) n } ∷ [])) is_head
                ∙ ap (λ (b : Bool). front_if b (tells.Ack (rank r) (partition d) n) []) (same-refl y)

            told_now : newest d (at None h.acks i) (w.link p y) ≡ Some n
            told_now =
                ap (newest d (at None h.acks i)) (out y yin other living ∙ ap (λ (ms : List Message). v.link p y ++ ms) one)
                ∙ newest-append d (at None h.acks i) (v.link p y) (tells.Ack (rank r) (partition d) n ∷ [])
                ∙ told-here d (newest d (at None h.acks i) (v.link p y)) d n refl

    goes : (i : ℕ) → p ≡ ParityNode i → Goes Any d (v.settled d) seen m
    goes i is = (subst (Along (next d) (Goes Any d (v.settled d)) seen) pops.first (around.inward x i is xin apart).goes).0

    own : (i : ℕ) → p ≡ ParityNode i → ReplicaReaches Any d (v.settled d) proc
    own i is = around.own (subst (IsKeeper d) (sym is) tt)

    updated : (u : Update) (stable : ℕ) → last_of (replica_of (update_taken s d u stable proc) d) ≡ suc (last_of (replica_of proc d))
    updated u stable =
        let q : Process = apply_to s d stable proc in
        let is : replica_of (update_taken s d u stable proc) d ≡ with_update u (replica_of q d) =
        at-put empty_replica empty_replica q.replicas d (with_update u (replica_of q d)) in
        let last : last_of (replica_of (update_taken s d u stable proc) d) ≡ last_of (with_update u (replica_of q d)) = ap last_of is in
        let longer = length-append (replica_of q d).log (u ∷ []) in
        let kept : last_of (replica_of q d) ≡ last_of (replica_of proc d) = (plain-apply s d d stable proc).last in
        omega (arith, last, longer, kept)

    adopted : (r base : ℕ) (list : List Update) (i : ℕ) → p ≡ ParityNode i → AdoptGoes Any d (v.settled d) seen r base list
        → last_of (replica_of (log_adopted s r d base list proc) d) ≡ base + length list
    adopted r base list i is goes =
        let ranked : Process = with_rank d r proc in
        let q : Process = apply_to s d base ranked in
        let new : replica_of (log_adopted s r d base list proc) d ≡ adopting base list (replica_of q d) =
        at-put empty_replica empty_replica q.replicas d (adopting base list (replica_of q d)) in
        let applied : replica_of q d ≡ applied_to base (replica_of proc d) = replica-apply_to s d base ranked in
        let last : last_of (replica_of (log_adopted s r d base list proc) d) ≡ last_of (adopting base list (applied_to base (replica_of proc d))) = ap last_of
        (new ∙ ap (adopting base list) applied) in
        let left = length-drop ((applied_to base (replica_of proc d)).applied - base) list in
        let low = (own i is).applied in
        let long = length-history (v.settled d) (replica_of proc d) low in
        let reach = (own i is).prolongs.reaches in
        let base_low = goes.base_settled in
        let new_reach = goes.prolongs.reaches in
        let longer = length-append (take base seen.history) list in
        let front = length-take base seen.history in
        let moved = applied-is (v.settled d) (replica_of proc d) low base (omega (arith, long, reach, base_low)) in
        omega (arith, last, left, moved, low, base_low, new_reach, longer, front)

  -- a link that the message doesn't come from
  link-same : (i : ℕ) → i < s.m → ParityNode i ≢ p → ParityNode i ≢ x → w.link (ParityNode i) p ≡ v.link (ParityNode i) p
  link-same i iin other apart_from = acts.links (ParityNode i) p iin pin other ∙ pops.links (ParityNode i) p iin pin (inl apart_from)

-- messages of sessions leave what is looked at
plain-block : (s : Dimensions) (d : ℕ) (x : ProcessId) (session : Session) (bytes : List ℕ) (n : ℕ) (p : Process)
    → Plain d p (receive s x (tells.Block session bytes n) p).process
plain-block s d (DataNode e) session bytes n p = record { name = refl; known = refl; head = refl; rank = refl; last = refl; applied = omega arith }
plain-block s d (ParityNode i) session bytes n p = plain-refl d p

plain-row : (s : Dimensions) (d : ℕ) (x : ProcessId) (session : Session) (bytes : List ℕ) (stamp : List ℕ) (p : Process)
    → Plain d p (receive s x (tells.Row session bytes stamp) p).process
plain-row s d (DataNode e) session bytes stamp p = plain-refl d p
plain-row s d (ParityNode i) session bytes stamp p = record { name = refl; known = refl; head = refl; rank = refl; last = refl; applied = omega arith }

plain-cease : (s : Dimensions) (d : ℕ) (x : ProcessId) (upto : ℕ) (p : Process) → Plain d p (receive s x (tells.Cease upto) p).process
plain-cease s d (DataNode e) upto p = plain-refl d p
plain-cease s d (ParityNode i) upto p = record { name = refl; known = refl; head = refl; rank = refl; last = refl; applied = omega arith }

-- an acknowledgement of another partition
plain-acknowledge : (s : Dimensions) (d i r e n : ℕ) (o : Option Head) (p : Process) → e ≢ d → Plain d p (acknowledge s i r e n o p).process
plain-acknowledge s d i r e n None p other = plain-refl d p
plain-acknowledge s d i r e n (Some h) p other =
    let new : Process = with_head e (Some (acknowledged i n h)) p in
    let first : Plain d p new =
    record {
      name = refl;
      known = refl;
      head = at-put-other None p.heads e d (Some (acknowledged i n h))
          (λ is. other (sym is));
      rank = refl;
      last = refl;
      applied = omega arith;
    } in
    plain-when d (r == h.rank) p (judge s e new) (plain-trans first (plain-judge s d e new))

plain-ack : (s : Dimensions) (d : ℕ) (x : ProcessId) (r : Rank) (e : Partition) (n : ℕ) (p : Process) → e.0 ≢ d
    → Plain d p (receive s x (tells.Ack r e n) p).process
plain-ack s d (DataNode z) r e n p other = plain-refl d p
plain-ack s d (ParityNode i) r e n p other = plain-acknowledge s d i r.0 e.0 n (head_at p e.0) p other

module _ (s : Dimensions) (shaped : IsShape s) (v u w : State) (x p : ProcessId) (xin : IsProcess s x) (pin : IsProcess s p) (apart : x ≢ p)
    (up : IsGroupUp s v)
    (lives : v.dead p ≡ false) (reached : Reached s v) (told : Told s v) where
  abbrev Comes : Message → ℕ → Type 0
  Comes m d = (pops : Popped s v u x p m) (acts : Acted s u w p (receive s x m (v.process p)))
      → All s shaped v u w x p m xin pin apart up lives reached told pops acts d

  abbrev proc0 : Process
  proc0 = v.process p

  -- a head's update
  comes-update : (r : Rank) (e : Partition) (y : Update) (stable : ℕ) (d : ℕ) → d < s.k → Comes (tells.Update r e y stable) d
  comes-update r e y stable d below pops acts = by (cases_eq e.0 d) (nat_le (at 0 proc0.ranks e.0) r.0) refl where
    m : Message
    m = tells.Update r e y stable

    by : (e.0 ≡ d) ⊎ (e.0 ≢ d) → (b : Bool) → nat_le (at 0 proc0.ranks e.0) r.0 ≡ b → All s shaped v u w x p m xin pin apart up lives reached told pops acts d
    by (inr other) b test = plainly s shaped v u w x p m xin pin apart up lives reached told pops acts d below
        (plain-when d (nat_le (at 0 proc0.ranks e.0) r.0) proc0
        (ack_to x r.0 e.0 y.number (update_taken s e.0 y stable proc0)) (plain-taken s d e.0 y stable proc0 other))
        (silent-by s shaped v u w x p m xin pin apart up lives reached told pops acts d refl (λ to q k due same. other (sym due.2 ∙ same))) tt
    by (inl same) false test =
        let is : receive s x m proc0 ≡ quiet proc0 = ap (λ (b : Bool). when b proc0 (ack_to x r.0 e.0 y.number (update_taken s e.0 y stable proc0))) test in
        plainly s shaped v u w x p m xin pin apart up lives reached told pops acts d below
        (subst (λ (t : ProcessStep). Plain d proc0 t.process) (sym is) (plain-refl d proc0)) (subst (λ (t : ProcessStep). Silent d t.sent) (sym is) tt) tt
    by (inl same) true test = hears s shaped v u w x p m xin pin apart up lives reached told pops acts d below r.0 y.number from low
        (ap (λ (t : ProcessStep). head_at t.process d) is) (ap (λ (t : ProcessStep). t.sent) is)
        (ap (λ (t : ProcessStep). at 0 t.process.ranks d) is ∙ sym (goes_at at_i.0 at_i.1).rank)
        (λ i isp. ap (λ (t : ProcessStep). last_of (replica_of t.process d)) is ∙ number i isp)
      where
        is : receive s x m proc0 ≡ ack_to x r.0 d y.number (update_taken s d y stable proc0)
        is = ap (λ (b : Bool). when b proc0 (ack_to x r.0 e.0 y.number (update_taken s e.0 y stable proc0))) test
            ∙ ap (λ (k : ℕ). ack_to x r.0 k y.number (update_taken s k y stable proc0)) same

        may : IsFrom s v x e.0 r.0 × IsParity p
        may = may-first s shaped v u w x p m xin pin apart up lives reached told pops acts

        from : Used s v d x r.0
        from = used s v d x e.0 r.0 same may.0

        low_e : at 0 proc0.ranks e.0 ≤ r.0
        low_e = grind (arith, common_steps)

        low : at 0 proc0.ranks d ≤ r.0
        low = subst (λ (k : ℕ). at 0 proc0.ranks k ≤ r.0) same low_e

        at_i : (i : ℕ) × (p ≡ ParityNode i)
        at_i = parity-is p may.1

        goes_at : (i : ℕ) → p ≡ ParityNode i → UpdateGoes Any d (v.settled d) (seen_at d (v.settled d) proc0) r.0 y stable
        goes_at i isp = goes s shaped v u w x p m xin pin apart up lives reached told pops acts d below i isp
            (live-is d (seen_at d (v.settled d) proc0) e.0 r.0 same low)

        number : (i : ℕ) → p ≡ ParityNode i → last_of (replica_of (update_taken s d y stable proc0) d) ≡ y.number
        number i isp =
            let one = updated s shaped v u w x p m xin pin apart up lives reached told pops acts d below y stable in
            let long = length-history (v.settled d) (replica_of proc0 d)
            (own s shaped v u w x p m xin pin apart up lives reached told pops acts d below i isp).applied in
            let next_number = last-number (history (v.settled d) (replica_of proc0 d)) y (goes_at i isp).fine.0 in omega (arith, one, long, next_number)

  -- a new head's log
  comes-adopt : (r : Rank) (e : Partition) (base : ℕ) (list : List Update) (d : ℕ) → d < s.k → Comes (tells.Adopt r e base list) d
  comes-adopt r e base list d below pops acts = by (cases_eq e.0 d) (nat_le (at 0 proc0.ranks e.0) r.0) refl where
    m : Message
    m = tells.Adopt r e base list

    by : (e.0 ≡ d) ⊎ (e.0 ≢ d) → (b : Bool) → nat_le (at 0 proc0.ranks e.0) r.0 ≡ b → All s shaped v u w x p m xin pin apart up lives reached told pops acts d
    by (inr other) b test = plainly s shaped v u w x p m xin pin apart up lives reached told pops acts d below
        (plain-when d (nat_le (at 0 proc0.ranks e.0) r.0) proc0
        (ack_to x r.0 e.0 (base + length list) (log_adopted s r.0 e.0 base list proc0))
        (plain-adopt s d r.0 e.0 base list proc0 other))
        (silent-by s shaped v u w x p m xin pin apart up lives reached told pops acts d refl (λ to q k due same. other (sym due.2 ∙ same))) tt
    by (inl same) false test =
        let is : receive s x m proc0 ≡ quiet proc0 =
        ap (λ (b : Bool).
        when b proc0 (ack_to x r.0 e.0 (base + length list) (log_adopted s r.0 e.0 base list proc0))) test in
        plainly s shaped v u w x p m xin pin apart up lives reached told pops acts d below
        (subst (λ (t : ProcessStep). Plain d proc0 t.process) (sym is) (plain-refl d proc0)) (subst (λ (t : ProcessStep). Silent d t.sent) (sym is) tt) tt
    by (inl same) true test = hears s shaped v u w x p m xin pin apart up lives reached told pops acts d below r.0 (base + length list) from low
        (ap (λ (t : ProcessStep). head_at t.process d) is) (ap (λ (t : ProcessStep). t.sent) is)
        (ap (λ (t : ProcessStep). at 0 t.process.ranks d) is ∙ at-put 0 0 proc0.ranks d r.0)
        (λ i isp. ap (λ (t : ProcessStep). last_of (replica_of t.process d)) is ∙ adopted s shaped v u w x p m xin pin
        apart up lives reached told pops acts d below r.0 base list i isp (goes_at i isp))
      where
        is : receive s x m proc0 ≡ ack_to x r.0 d (base + length list) (log_adopted s r.0 d base list proc0)
        is =
            ap (λ (b : Bool). when b proc0 (ack_to x r.0 e.0 (base + length list) (log_adopted s r.0 e.0 base list proc0))) test
            ∙ ap (λ (k : ℕ). ack_to x r.0 k (base + length list) (log_adopted s r.0 k base list proc0)) same

        may : IsFrom s v x e.0 r.0 × (0 < r.0) × IsParity p
        may = may-first s shaped v u w x p m xin pin apart up lives reached told pops acts

        from : Used s v d x r.0
        from = used s v d x e.0 r.0 same may.0

        low_e : at 0 proc0.ranks e.0 ≤ r.0
        low_e = grind (arith, common_steps)

        low : at 0 proc0.ranks d ≤ r.0
        low = subst (λ (k : ℕ). at 0 proc0.ranks k ≤ r.0) same low_e

        goes_at : (i : ℕ) → p ≡ ParityNode i → AdoptGoes Any d (v.settled d) (seen_at d (v.settled d) proc0) r.0 base list
        goes_at i isp = goes s shaped v u w x p m xin pin apart up lives reached told pops acts d below i isp
            (live-is d (seen_at d (v.settled d) proc0) e.0 r.0 same low)

  -- an acknowledgement
  comes-ack : (r : Rank) (e : Partition) (n d : ℕ) → d < s.k → Comes (tells.Ack r e n) d
  comes-ack r e n d below pops acts = by (cases_eq e.0 d) where
    m : Message
    m = tells.Ack r e n

    silent : Silent d (receive s x m proc0).sent
    silent = silent-by s shaped v u w x p m xin pin apart up lives reached told pops acts d refl (λ to q k due. absurd due)

    from_process : (z : ProcessId) → x ≡ z → e.0 ≡ d → All s shaped v u w x p m xin pin apart up lives reached told pops acts d
    from_process (DataNode z) is same = (
      subst (Settles s d) (sym (acts.process ∙ ap (λ (t : ProcessStep). t.process) still)) (told.settles p d pin lives below),
      head-same s v w p pin (others s shaped v u w x p m xin pin apart up lives reached told pops acts)
          (dead s shaped v u w x p m xin pin apart up lives reached told pops acts)
          (between s shaped v u w x p m xin pin apart up lives reached told pops acts) told d below lives
          (ap (λ (y : Process). head_at y d) (acts.process ∙ ap (λ (t : ProcessStep). t.process) still))
          (λ i iin other o. ap (newest d o) (link-same s shaped v u w x p m xin pin apart up lives reached told pops acts i iin other (λ j. cc (j, is)))),
      sends-same s shaped v u w x p m xin pin apart up lives reached told pops acts d below (ap (λ (t : ProcessStep). at 0 t.process.ranks d) still)
          (ap (λ (t : ProcessStep). last_of (replica_of t.process d)) still) silent,
    ) where
      still : receive s x m proc0 ≡ quiet proc0
      still = ap (λ (y : ProcessId). receive s y m proc0) is
    from_process (ParityNode j) is same = (
      subst (Settles s d) (sym acts.process) (takes.settles (told.settles p d pin lives below)),
      heads,
      sends-same s shaped v u w x p m xin pin apart up lives reached told pops acts d below takes.rank takes.last silent,
    ) where
      step_is : receive s x m proc0 ≡ acknowledge s j r.0 d n (head_at proc0 d) proc0
      step_is = ap (λ (y : ProcessId). receive s y m proc0) is ∙ ap (λ (k : ℕ). acknowledge s j r.0 k n (head_at proc0 k) proc0) same

      takes : TakesAck s d j r.0 n proc0 (receive s x m proc0).process
      takes = subst (λ (t : ProcessStep). TakesAck s d j r.0 n proc0 t.process) (sym step_is) (takes-ack s d j r.0 n proc0 (head_at proc0 d) refl)

      heads : (i : ℕ) → i < s.m → ParityNode i ≢ p → v.dead (ParityNode i) ≡ false
          → Acks d i (head_at (w.process p) d) (at 0 (v.process (ParityNode i)).ranks d)
          (last_of (replica_of (v.process (ParityNode i)) d)) (w.link (ParityNode i) p)
      heads i iin other living h heads_w ranked =
          which (takes.heads h (ap (λ (y : Process). head_at y d) (sym acts.process) ∙ heads_w))
          (same-cases (ParityNode i) x) where
            last : ℕ
            last = last_of (replica_of (v.process (ParityNode i)) d)

            old : (g : Head) → head_at proc0 d ≡ Some g → at 0 (v.process (ParityNode i)).ranks d ≡ g.rank
                → IsTold g.rank (newest d (at None g.acks i) (v.link (ParityNode i) p)) last
            old g = told.acks p i d pin iin (λ k. other (sym k)) lives living below g

            link_x : v.link (ParityNode i) p ≡ v.link x p → ParityNode i ≡ x → v.link (ParityNode i) p ≡ m ∷ u.link x p
            link_x e1 k = e1 ∙ pops.first

            first : ParityNode i ≡ x → v.link (ParityNode i) p ≡ m ∷ u.link x p
            first k = ap (λ (y : ProcessId). v.link y p) k ∙ pops.first

            left_link : ParityNode i ≡ x → w.link (ParityNode i) p ≡ u.link x p
            left_link k = acts.links (ParityNode i) p iin pin other ∙ ap (λ (y : ProcessId). u.link y p) k

            same_link : ParityNode i ≢ x → w.link (ParityNode i) p ≡ v.link (ParityNode i) p
            same_link k = link-same s shaped v u w x p m xin pin apart up lives reached told pops acts i iin other k

            fits : ParityNode i ≡ x → AckGoes d p (seen_at d (v.settled d) (v.process (ParityNode i))) r.0 n
            fits k = (subst (Each (AckFits d p (seen_at d (v.settled d) (v.process (ParityNode i))))) (first k)
                (((reached.1 d below).lanes p i pin iin (λ z. other (sym z)) living).acks lives)).0 same

            which : ((head_at proc0 d ≡ Some h) × (r.0 ≢ h.rank)) ⊎ ((g : Head) × (head_at proc0 d ≡ Some g) × (h ≡ acknowledged j n g))
                → (ParityNode i ≡ x) ⊎ (ParityNode i ≢ x) → IsTold h.rank (newest d (at None h.acks i) (w.link (ParityNode i) p)) last
            which (inl was) (inl k) = absurd (was.1 (sym (fits k).rank ∙ ranked))
            which (inl was) (inr k) = subst (λ (ms : List Message). IsTold h.rank (newest d (at None h.acks i) ms) last)
                (sym (same_link k)) (old h was.0 ranked)
            which (inr new) (inl k) =
                let own_number : i ≡ j = cc (k, is) in
                let g : Head = new.0 in
                let before : IsTold g.rank (newest d (at None g.acks i) (m ∷ u.link x p)) last = subst
                (λ (ms : List Message). IsTold g.rank (newest d (at None g.acks i) ms) last) (first k)
                (old g new.1 (ranked ∙ ap (λ (y : Head). y.rank) new.2)) in
                let here : newest d (at None g.acks i) (m ∷ u.link x p) ≡ newest d (Some n) (u.link x p) =
                ap (λ (o : Option ℕ). newest d o (u.link x p)) (told-here d (at None g.acks i) e.0 n same) in
                let put_here : at None (put None g.acks j (Some n)) i ≡ Some n = ap (at None (put None g.acks j (Some n)))
                own_number ∙ at-put None None g.acks j (Some n) in
                subst (λ (y : Head). IsTold y.rank (newest d (at None y.acks i) (w.link (ParityNode i) p)) last) (sym new.2)
                (subst (λ (ms : List Message). IsTold g.rank (newest d (at None (put None g.acks j (Some n)) i) ms) last) (sym (left_link k))
                (subst (λ (o : Option ℕ). IsTold g.rank (newest d o (u.link x p)) last) (sym put_here)
                (subst (λ (o : Option ℕ). IsTold g.rank o last) here before)))
            which (inr new) (inr k) =
                let g : Head = new.0 in
                let other_number : i ≢ j = λ equal. k (ap ParityNode equal ∙ sym is) in
                subst (λ (y : Head). IsTold y.rank (newest d (at None y.acks i) (w.link (ParityNode i) p)) last) (sym new.2)
                (subst (λ (ms : List Message). IsTold g.rank (newest d (at None (put None g.acks j (Some n)) i) ms) last) (sym (same_link k))
                (subst (λ (o : Option ℕ). IsTold g.rank (newest d o (v.link (ParityNode i) p)) last) (sym (at-put-other None g.acks j i (Some n) other_number))
                (old g new.1 (ranked ∙ ap (λ (y : Head). y.rank) new.2))))

    by : (e.0 ≡ d) ⊎ (e.0 ≢ d) → All s shaped v u w x p m xin pin apart up lives reached told pops acts d
    by (inr away) = plainly s shaped v u w x p m xin pin apart up lives reached told pops acts d below (plain-ack s d x r e n proc0 away) silent away
    by (inl same) = from_process x refl same

  -- a notice
  comes-notice : (y : ProcessId) (d : ℕ) → d < s.k → Comes (tells.Notice y) d
  comes-notice y d below pops acts = (subst (Settles s d) (sym acts.process) (settles-notice s d y proc0 below), by (head_at proc0 d) refl, sends) where
    m : Message
    m = tells.Notice y

    got : Noticed s y proc0 (notice_comes s y proc0) p
    got = noticed s y proc0 p (seated-at s shaped v reached.0 p pin lives)

    members_w : Members s w
    members_w = after s shaped v u w x p m xin pin apart up lives reached told pops acts

    lives_w : w.dead p ≡ false
    lives_w = dead s shaped v u w x p m xin pin apart up lives reached told pops acts p pin ∙ lives

    by : (o : Option Head) → head_at proc0 d ≡ o → (i : ℕ) → i < s.m → ParityNode i ≢ p → v.dead (ParityNode i) ≡ false
        → Acks d i (head_at (w.process p) d) (at 0 (v.process (ParityNode i)).ranks d)
        (last_of (replica_of (v.process (ParityNode i)) d)) (w.link (ParityNode i) p)
    by (Some g) was i iin other living = heads-same s shaped v u w x p m xin pin apart up lives reached told pops acts d
        below ((onward-notice s d y proc0).heads g was ∙ sym was) tt i iin other living
    by None was i iin other living = λ h heads ranked.
        let from : Used s w d p h.rank = head-from s w d members_w below p h pin lives_w heads in
        let reigns : Reigns s v d (at 0 (v.process (ParityNode i)).ranks d) = reached.0.ranks (ParityNode i) d iin living below in
        let is : of_rank d (at 0 (v.process (ParityNode i)).ranks d) ≡ p = ap (of_rank d) ranked ∙ sym from.0 in
        let seat : seat_of proc0 d ≡ Some (at 0 (v.process (ParityNode i)).ranks d) =
        ap (λ (z : ProcessId). seat_of (v.process z) d) (sym is) ∙ reigns.leads (ap v.dead is ∙ lives) in
        absurd (cc (seat, ap (option_map (λ (z : Head). z.rank)) was))

    sends : (z : ProcessId) (i : ℕ) → IsProcess s z → z ≢ p → v.dead z ≡ false → p ≡ ParityNode i
        → Acks d i (head_at (v.process z) d) (at 0 (w.process p).ranks d) (last_of (replica_of (w.process p) d)) (w.link p z)
    sends z i zin other living isp = which (got.ranks d below) where
      which : (at 0 (notice_comes s y proc0).process.ranks d ≡ at 0 proc0.ranks d)
          ⊎ (seat_of (notice_comes s y proc0).process d ≡ Some (at 0 (notice_comes s y proc0).process.ranks d))
          → Acks d i (head_at (v.process z) d) (at 0 (w.process p).ranks d) (last_of (replica_of (w.process p) d)) (w.link p z)
      which (inl same) = sends-same s shaped v u w x p m xin pin apart up lives reached told pops acts d below same (onward-notice s d y proc0).last
          (silent-well d Owes s.k (notice_comes s y proc0).process (λ to q k owes. absurd owes) (notice_comes s y proc0).sent got.sent) z i zin other living isp
      which (inr seat) = λ h heads ranked.
          let seat_w : seat_of (w.process p) d ≡ Some (at 0 (w.process p).ranks d) =
          subst (λ (q : Process). seat_of q d ≡ Some (at 0 q.ranks d)) (sym acts.process) seat in
          let is_p : p ≡ of_rank d (at 0 (w.process p).ranks d) =
          (seat-from s w (ground_of s w members_w) p d (at 0 (w.process p).ranks d) pin lives_w below seat_w).0 in
          let is_z : z ≡ of_rank d h.rank = (head-from s v d reached.0 below z h zin living heads).0 in
          absurd (other (is_z ∙ ap (of_rank d) (sym ranked) ∙ sym is_p))

  -- any message
  comes : (m : Message) (d : ℕ) → d < s.k → Comes m d
  comes (tells.Update r e y stable) d below pops acts = comes-update r e y stable d below pops acts
  comes (tells.Adopt r e base list) d below pops acts = comes-adopt r e base list d below pops acts
  comes (tells.Ack r e n) d below pops acts = comes-ack r e n d below pops acts
  comes (tells.Stable r e n) d below pops acts = plainly s shaped v u w x p (tells.Stable r e n) xin pin apart up lives reached told pops acts d below
      (plain-when d (nat_le (at 0 proc0.ranks e.0) r.0) proc0 (quiet (apply_to s e.0 n proc0)) (plain-apply s d e.0 n proc0))
      (silent-by s shaped v u w x p (tells.Stable r e n) xin pin apart up lives reached told pops acts d refl (λ to q k due. absurd due)) tt
  comes (tells.ReadBlock session block rows) d below pops acts =
      plainly s shaped v u w x p (tells.ReadBlock session block rows) xin pin apart up lives reached told pops acts d
      below
      (plain-read s d session block rows proc0 proc0.name)
      (silent-by s shaped v u w x p (tells.ReadBlock session block rows) xin pin apart up lives reached told pops acts d refl (λ to q k due. absurd due)) tt
  comes (tells.Block session bytes n) d below pops acts = plainly s shaped v u w x p (tells.Block session bytes n) xin
      pin apart up lives reached told pops acts d below
      (plain-block s d x session bytes n proc0)
      (silent-by s shaped v u w x p (tells.Block session bytes n) xin pin apart up lives reached told pops acts d refl (λ to q k due. absurd due)) tt
  comes (tells.Mark session r block e n) d below pops acts = plainly s shaped v u w x p (tells.Mark session r block e n)
      xin pin apart up lives reached told pops acts d below
      (plain-mark s d (parity_number session.leader) session.number r.0 block e.0 n proc0)
      (silent-by s shaped v u w x p (tells.Mark session r block e n) xin pin apart up lives reached told pops acts d refl (λ to q k due. absurd due)) tt
  comes (tells.Row session bytes stamp) d below pops acts = plainly s shaped v u w x p (tells.Row session bytes stamp)
      xin pin apart up lives reached told pops acts d below
      (plain-row s d x session bytes stamp proc0)
      (silent-by s shaped v u w x p (tells.Row session bytes stamp) xin pin apart up lives reached told pops acts d refl (λ to q k due. absurd due)) tt
  comes (tells.Cease upto) d below pops acts = plainly s shaped v u w x p (tells.Cease upto) xin pin apart up lives reached told pops acts d below
      (plain-cease s d x upto proc0)
      (silent-by s shaped v u w x p (tells.Cease upto) xin pin apart up lives reached told pops acts d refl (λ to q k due. absurd due)) tt
  comes (tells.Notice y) d below pops acts = comes-notice y d below pops acts

  pub told-receives : (m : Message) → Popped s v u x p m → Acted s u w p (receive s x m (v.process p)) → Told s w
  told-receives m pops acts =
      told-left s v w p pin (others s shaped v u w x p m xin pin apart up lives reached told pops acts)
      (dead s shaped v u w x p m xin pin apart up lives reached told pops acts)
      (between s shaped v u w x p m xin pin apart up lives reached told pops acts) told (λ d below. comes m d below pops acts)
