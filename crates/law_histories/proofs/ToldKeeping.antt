-- What acknowledgements tell, kept by every move.
use Rattle.std.proofs.Common.{ℕ, ◌≡◌, ◌≢◌, ◌<◌, false, [], replicate, Option, Some, None, ◌⊎◌, inl, inr, refl, sym, ap, subst, ◌∙◌, arith}
use Rattle.std.proofs.lemmas.Bool.{cases_eq}
use Rattle.group_types.specs.Dimensions.{Dimensions}
use Rattle.group_types.specs.Lists.{at}
use Rattle.group_types.specs.Names.{IsProcess}
use Rattle.group_types.specs.Shape.{IsShape}
use Rattle.group_types.specs.declared.process.ProcessId.{ProcessId}
use Rattle.group_types.specs.declared.process.ProcessId.TheVariants.{DataNode, ParityNode}
use Rattle.group_types.proofs.Lists.{at-put, at-put-other, at-replicate}
use Rattle.group_types.proofs.Names.{same-cases}
use Rattle.membership.specs.Members.{knows_dead}
use Rattle.group_run.specs.Applying.{ProcessStep, head_at, replica_of}
use Rattle.group_run.specs.Heading.{other_parities}
use Rattle.group_run.specs.Process.{Head, Process, new_head, opening_process}
use Rattle.group_run.specs.Replica.{empty_replica, last_of}
use Rattle.law_moves.proofs.Moves.{Acted, Died, Treats}
use Rattle.law_moves.specs.State.{IsGroupUp, State}
use Rattle.law_moves.proofs.State.{Opens}
use Rattle.law_moves.proofs.Members.{Members}
use Rattle.law_moves.proofs.Calls.{Owes, Seated, step-treats}
use Rattle.law_moves.proofs.Cores.{Step}
use Rattle.law_histories.proofs.Reach.{Any, Reach}
use Rattle.law_histories.proofs.Heads.{least-last}
use Rattle.law_histories.proofs.Keeping.{keeps_reach, unknown}
use Rattle.law_histories.proofs.Ranks.{Used, head-from, no-other}
use Rattle.law_histories.proofs.Told.{Acks, Settles, Told, newest}
use Rattle.law_histories.proofs.Handling.{Handles, handles-treats}
use Rattle.law_histories.proofs.Newest.{acks-is, newest-sent, silent-well}

-- what holds beside it
abbrev pub Reached : Dimensions → State → Type 0
Reached s v = Members s v × Reach Any s v

-- no two living processes head a partition
pub no-two : (s : Dimensions) (v : State) → Members s v → (d : ℕ) → d < s.k → (p x : ProcessId) (g h : Head) → IsProcess s p → v.dead p ≡ false
    → head_at (v.process p) d ≡ Some g → IsProcess s x → x ≢ p → v.dead x ≡ false → head_at (v.process x) d ≡ Some h → ⊥
no-two s v members d below p x g h pin lives headed xin other living heads =
    let from : Used s v d p g.rank = head-from s v d members below p g pin lives headed in
    no-other s v d members below p x g.rank h from.0 lives from.1.below xin other living heads

-- the state that a process leaves, told by what it owes to others and others to it
module _ (s : Dimensions) (v w : State) (p : ProcessId) (pin : IsProcess s p) (others : (q : ProcessId) → IsProcess s q
    → q ≢ p → w.process q ≡ v.process q) (dead : (q : ProcessId) → IsProcess s q → w.dead q ≡ v.dead q)
    (between : (x q : ProcessId) → IsProcess s x → IsProcess s q → x ≢ p → q ≢ p → w.link x q ≡ v.link x q) (told : Told s v) where
  abbrev pub HeadSide : ℕ → Type 0
  HeadSide d = (i : ℕ) → i < s.m → ParityNode i ≢ p → v.dead (ParityNode i) ≡ false
      → Acks d i (head_at (w.process p) d) (at 0 (v.process (ParityNode i)).ranks d)
      (last_of (replica_of (v.process (ParityNode i)) d)) (w.link (ParityNode i) p)

  abbrev pub SenderSide : ℕ → Type 0
  SenderSide d = (x : ProcessId) (i : ℕ) → IsProcess s x → x ≢ p → v.dead x ≡ false → p ≡ ParityNode i
      → Acks d i (head_at (v.process x) d) (at 0 (w.process p).ranks d) (last_of (replica_of (w.process p) d)) (w.link p x)

  pub told-left : ((d : ℕ) → d < s.k → Settles s d (w.process p) × HeadSide d × SenderSide d) → Told s w
  told-left all = record {
    settles = λ q d qin living below. settles_by q d qin living below (same-cases q p);
    acks = λ x i d xin iin apart xliving iliving below. acks_by x i d xin iin apart xliving iliving below (same-cases x p) (same-cases (ParityNode i) p);
  } where
    settles_by : (q : ProcessId) (d : ℕ) → IsProcess s q → w.dead q ≡ false → d < s.k → (q ≡ p) ⊎ (q ≢ p) → Settles s d (w.process q)
    settles_by q d qin living below (inl same) = subst (λ (y : ProcessId). Settles s d (w.process y)) (sym same) (all d below).0
    settles_by q d qin living below (inr other) = subst (Settles s d) (sym (others q qin other)) (told.settles q d qin (sym (dead q qin) ∙ living) below)

    acks_by : (x : ProcessId) (i d : ℕ) → IsProcess s x → i < s.m → x ≢ ParityNode i → w.dead x ≡ false → w.dead (ParityNode i) ≡ false → d < s.k
        → (x ≡ p) ⊎ (x ≢ p) → (ParityNode i ≡ p) ⊎ (ParityNode i ≢ p)
        → Acks d i (head_at (w.process x) d) (at 0 (w.process (ParityNode i)).ranks d)
        (last_of (replica_of (w.process (ParityNode i)) d)) (w.link (ParityNode i) x)
    acks_by x i d xin iin apart xliving iliving below (inl xp) (inl ip) = absurd (apart (xp ∙ sym ip))
    acks_by x i d xin iin apart xliving iliving below (inl xp) (inr iother) =
        subst (λ (y : Process). Acks d i (head_at (w.process x) d) (at 0 y.ranks d) (last_of (replica_of y d))
        (w.link (ParityNode i) x)) (sym (others (ParityNode i) iin iother))
        (subst (λ (y : ProcessId). Acks d i (head_at (w.process y) d) (at 0 (v.process (ParityNode i)).ranks d)
        (last_of (replica_of (v.process (ParityNode i)) d)) (w.link (ParityNode i) y)) (sym xp)
        ((all d below).1 i iin iother (sym (dead (ParityNode i) iin) ∙ iliving)))
    acks_by x i d xin iin apart xliving iliving below (inr xother) (inl ip) =
        subst
        (λ (y : Process). Acks d i (head_at y d) (at 0 (w.process (ParityNode i)).ranks d)
        (last_of (replica_of (w.process (ParityNode i)) d)) (w.link (ParityNode i) x))
        (sym (others x xin xother))
        (subst (λ (y : ProcessId). Acks d i (head_at (v.process x) d) (at 0 (w.process y).ranks d) (last_of (replica_of (w.process y) d)) (w.link y x)) (sym ip)
        ((all d below).2 x i xin xother (sym (dead x xin) ∙ xliving) (sym ip)))
    acks_by x i d xin iin apart xliving iliving below (inr xother) (inr iother) =
        acks-is d i (head_at (v.process x) d) (head_at (w.process x) d) (at 0 (v.process (ParityNode i)).ranks d) (at 0 (w.process (ParityNode i)).ranks d)
        (last_of (replica_of (v.process (ParityNode i)) d)) (last_of (replica_of (w.process (ParityNode i)) d))
        (v.link (ParityNode i) x) (w.link (ParityNode i) x)
        (ap (λ (y : Process). head_at y d) (others x xin xother)) (ap (λ (y : Process). at 0 y.ranks d) (others (ParityNode i) iin iother))
        (ap (λ (y : Process). last_of (replica_of y d)) (others (ParityNode i) iin iother))
        (λ o. ap (newest d o) (between (ParityNode i) x iin xin iother xother))
        (told.acks x i d xin iin apart (sym (dead x xin) ∙ xliving) (sym (dead (ParityNode i) iin) ∙ iliving) below)

  -- the head stays, and so does what is on its way to it
  pub head-same : (d : ℕ) → d < s.k → v.dead p ≡ false → head_at (w.process p) d ≡ head_at (v.process p) d
      → ((i : ℕ) → i < s.m → ParityNode i ≢ p → (o : Option ℕ) → newest d o (w.link (ParityNode i) p) ≡ newest d o (v.link (ParityNode i) p)) → HeadSide d
  head-same d below lives same back i iin other living =
      acks-is d i (head_at (v.process p) d) (head_at (w.process p) d) (at 0 (v.process (ParityNode i)).ranks d) (at 0 (v.process (ParityNode i)).ranks d)
      (last_of (replica_of (v.process (ParityNode i)) d)) (last_of (replica_of (v.process (ParityNode i)) d))
      (v.link (ParityNode i) p) (w.link (ParityNode i) p)
      same refl refl (back i iin other) (told.acks p i d pin iin (λ is. other (sym is)) lives living below)

  -- rank and number of updates stay, and nothing is acknowledged
  pub sender-one : (d : ℕ) → d < s.k → v.dead p ≡ false → (x : ProcessId) (i : ℕ) → IsProcess s x → x ≢ p → v.dead x ≡ false → p ≡ ParityNode i
      → at 0 (w.process p).ranks d ≡ at 0 (v.process p).ranks d → last_of (replica_of (w.process p) d) ≡ last_of (replica_of (v.process p) d)
      → ((o : Option ℕ) → newest d o (w.link p x) ≡ newest d o (v.link p x))
      → Acks d i (head_at (v.process x) d) (at 0 (w.process p).ranks d) (last_of (replica_of (w.process p) d)) (w.link p x)
  sender-one d below lives x i xin other living is rank last back =
      acks-is d i (head_at (v.process x) d) (head_at (v.process x) d) (at 0 (v.process p).ranks d) (at 0 (w.process p).ranks d)
      (last_of (replica_of (v.process p) d)) (last_of (replica_of (w.process p) d)) (v.link p x) (w.link p x)
      refl rank last back
      (subst (λ (y : ProcessId). Acks d i (head_at (v.process x) d) (at 0 (v.process y).ranks d) (last_of (replica_of (v.process y) d)) (v.link y x)) (sym is)
      (told.acks x i d xin (subst (IsProcess s) is pin) (λ same. other (same ∙ sym is)) living (ap v.dead (sym is) ∙ lives) below))

module _ (s : Dimensions) (shaped : IsShape s) where
  some-partition : 0 < s.k
  some-partition = let first = shaped.k.0 in omega (arith, first)

  pub seated-at : (v : State) → Members s v → (p : ProcessId) → IsProcess s p → v.dead p ≡ false → Seated s (v.process p) p
  seated-at v members p pin lives = record { name = members.named p pin; some = some-partition; sits = λ d below. members.sits p d pin lives below }

  -- a call, a collect or a flush
  pub told-treats : (v w : State) (p : ProcessId) (t : ProcessStep) → IsProcess s p → IsGroupUp s v → v.dead p ≡ false
      → Treats s (v.process p) t → Reached s v → Told s v → Acted s v w p t → Told s w
  told-treats v w p t pin up lives treated reached told acts =
      told-left s v w p pin acts.others acts.dead (λ x q xin qin other qother. acts.links x q xin qin other) told
      (λ d below. (settles d below, head-side d below, λ x i xin other living is. sender-side d below x i xin other living is))
    where
      after : Members s w
      after = ((keeps_reach s shaped).treats v w p t pin up lives treated reached acts).0

      handles : (d : ℕ) → Handles s d (v.process p) t.process
      handles d = handles-treats s d (v.process p) t treated

      step : Step Owes s.k (v.process p) t
      step = step-treats s (v.process p) p t (seated-at v reached.0 p pin lives) treated

      settles : (d : ℕ) → d < s.k → Settles s d (w.process p)
      settles d below = subst (Settles s d) (sym acts.process) ((handles d).settles (told.settles p d pin lives below))

      head-side : (d : ℕ) → d < s.k → HeadSide s v w p pin acts.others acts.dead (λ x q xin qin other qother. acts.links x q xin qin other) told d
      head-side d below = head-same s v w p pin acts.others acts.dead (λ x q xin qin other qother. acts.links x q xin qin other) told d below lives
          (ap (λ (y : Process). head_at y d) acts.process ∙ (handles d).head) (λ i iin other o. ap (newest d o) (acts.links (ParityNode i) p iin pin other))

      sender-side : (d : ℕ) → d < s.k → (x : ProcessId) (i : ℕ) → IsProcess s x → x ≢ p → v.dead x ≡ false → p ≡ ParityNode i
          → Acks d i (head_at (v.process x) d) (at 0 (w.process p).ranks d) (last_of (replica_of (w.process p) d)) (w.link p x)
      sender-side d below x i xin other living is = by (handles d).last where
        by : (last_of (replica_of t.process d) ≡ last_of (replica_of (v.process p) d)) ⊎ ((g : Head) × (head_at (v.process p) d ≡ Some g))
            → Acks d i (head_at (v.process x) d) (at 0 (w.process p).ranks d) (last_of (replica_of (w.process p) d)) (w.link p x)
        by (inr head) = λ h heads same. absurd (no-two s v reached.0 d below p x head.0 h pin lives head.1 xin other living heads)
        by (inl same) = sender-one s v w p pin acts.others acts.dead
            (λ x q xin qin other qother. acts.links x q xin qin other) told d below lives x i xin other living is
            (ap (λ (y : Process). at 0 y.ranks d) acts.process ∙ (handles d).rank) (ap (λ (y : Process). last_of (replica_of y d)) acts.process ∙ same)
            (λ o. ap (newest d o)
            (acts.sends x xin (ap (λ (y : Process). knows_dead y.known x) (sym acts.process)
            ∙ unknown s w after p pin (acts.dead p pin ∙ lives) x xin other (acts.dead x xin ∙ living)))
            ∙ newest-sent d x t.sent (silent-well d Owes s.k t.process (λ to r e owes. absurd owes) t.sent step.sent) (v.link p x) o)

  -- a process dies
  pub told-dies : (v w : State) (p : ProcessId) (keep : ℕ) → IsProcess s p → Told s v → Died s v w p keep → Told s w
  told-dies v w p keep pin told died = record {
    settles = λ q d qin living below. subst (Settles s d) (sym (died.processes q qin)) (told.settles q d qin (lived q qin living) below);
    acks = λ x i d xin iin apart xliving iliving below.
        acks-is d i (head_at (v.process x) d) (head_at (w.process x) d) (at 0 (v.process (ParityNode i)).ranks d) (at 0 (w.process (ParityNode i)).ranks d)
        (last_of (replica_of (v.process (ParityNode i)) d)) (last_of (replica_of (w.process (ParityNode i)) d))
        (v.link (ParityNode i) x) (w.link (ParityNode i) x)
        (ap (λ (y : Process). head_at y d) (died.processes x xin)) (ap (λ (y : Process). at 0 y.ranks d) (died.processes (ParityNode i) iin))
        (ap (λ (y : Process). last_of (replica_of y d)) (died.processes (ParityNode i) iin))
        (λ o. ap (newest d o) (died.links (ParityNode i) x iin xin (other_than (ParityNode i) iliving)))
        (told.acks x i d xin iin apart (lived x xin xliving) (lived (ParityNode i) iin iliving) below);
  } where
    other_than : (q : ProcessId) → w.dead q ≡ false → q ≢ p
    other_than q here same = cc (here, ap w.dead same, died.dead)

    lived : (q : ProcessId) → IsProcess s q → w.dead q ≡ false → v.dead q ≡ false
    lived q qin here = sym (died.others q qin (other_than q here)) ∙ here

  -- the start
  none-acked : (p : ProcessId) (d : ℕ) (h : Head) → head_at (opening_process s p) d ≡ Some h → h ≡ new_head s 0 0
  none-acked (ParityNode i) d h heads = absurd (cc (sym (at-replicate None s.k d) ∙ heads))
  none-acked (DataNode e) d h heads = by (cases_eq d e) where
    in_some : Option Head → Head
    in_some None = h
    in_some (Some g) = g

    by : (d ≡ e) ⊎ (d ≢ e) → h ≡ new_head s 0 0
    by (inl same) = ap in_some (sym heads ∙ ap (head_at (opening_process s (DataNode e))) same
        ∙ at-put None None (replicate s.k None) e (Some (new_head s 0 0)))
    by (inr other) = absurd (cc (heads, at-put-other None (replicate s.k None) e d (Some (new_head s 0 0)) other ∙ at-replicate None s.k d))

  pub told-opens : (v : State) → Opens s v → Told s v
  told-opens v starts = record {
    settles = λ p d pin living below. subst (Settles s d) (sym (starts.process p pin)) (settled p d);
    acks = λ x i d xin iin apart xliving iliving below.
        acks-is d i (head_at (opening_process s x) d) (head_at (v.process x) d)
        (at 0 (opening_process s (ParityNode i)).ranks d) (at 0 (v.process (ParityNode i)).ranks d)
        (last_of (replica_of (opening_process s (ParityNode i)) d)) (last_of (replica_of (v.process (ParityNode i)) d)) [] (v.link (ParityNode i) x)
        (ap (λ (y : Process). head_at y d) (starts.process x xin)) (ap (λ (y : Process). at 0 y.ranks d) (starts.process (ParityNode i) iin))
        (ap (λ (y : Process). last_of (replica_of y d)) (starts.process (ParityNode i) iin))
        (λ o. ap (newest d o) (starts.links (ParityNode i) x iin xin)) (none_told x i d);
  } where
    empty : (p : ProcessId) (d : ℕ) → last_of (replica_of (opening_process s p) d) ≡ 0
    empty p d = ap last_of (at-replicate empty_replica s.k d)

    settled : (p : ProcessId) (d : ℕ) → Settles s d (opening_process s p)
    settled p d h heads =
        let low = least-last h (last_of (replica_of (opening_process s p) d)) (other_parities s.m (opening_process s p).name (opening_process s p).known) in
        let none = empty p d in
        omega (arith, low, none)

    none_told : (x : ProcessId) (i d : ℕ)
        → Acks d i (head_at (opening_process s x) d) (at 0 (opening_process s (ParityNode i)).ranks d)
        (last_of (replica_of (opening_process s (ParityNode i)) d)) []
    none_told x i d h heads same = let new = none-acked x d h heads in
        inr (
          ap (λ (g : Head). g.rank) new,
          ap (λ (g : Head). at None g.acks i) new ∙ at-replicate None s.m i,
          empty (ParityNode i) d,
        )
