-- What a leader newly rebuilds: only what comes in for an open session rebuilds a block, and where the session
-- follows its plan the block is given at the plan's number.
use Rattle.std.proofs.Common.{◌≡◌, ◌≢◌, ℕ, ◌+◌, ◌<◌, ◌≤◌, ◌==◌, Bool, true, false, List, [], ◌∷◌, is_some, Option, Some}
use Rattle.std.proofs.Common.{None, IfSome, option_map, ◌⊎◌, inl, inr, sym, ap, subst, ◌∙◌, refl, arith}
use Rattle.std.specs.Prelude.{Contains}
use Rattle.std.specs.List.{range_with_len}
use Rattle.std.proofs.lemmas.Bool.{cases_eq}
use Rattle.group_types.specs.Dimensions.{Dimensions}
use Rattle.group_types.specs.Lists.{at, put}
use Rattle.group_types.specs.Names.{same_process}
use Rattle.group_types.specs.Shape.{IsShape}
use Rattle.group_types.specs.declared.process.ProcessId.{ProcessId}
use Rattle.group_types.specs.declared.process.ProcessId.TheVariants.{DataNode, ParityNode}
use Rattle.group_types.proofs.Lists.{at-put, at-put-other}
use Rattle.membership.specs.Members.{Membership, knows_dead}
use Rattle.group_message.specs.declared.update.Update.{Update}
use Rattle.group_run.specs.Applying.{ProcessStep, apply_to, block_after, for_each, head_at, rebuilt_after, replica_of, when}
use Rattle.group_run.specs.Heading.{acknowledge, judge, judge_head}
use Rattle.group_run.specs.Leaders.{block_comes, close_sessions, copy_kept, copy_marked, mark_taken, open_session, rebuilt_block, row_comes, row_finished}
use Rattle.group_run.specs.Process.{Copy, Gathering, Head, LeaderState, Process}
use Rattle.group_run.specs.Receiving.{death_known, notice_comes, take_over_if, taken_over, takes_over}
use Rattle.group_run.specs.Replica.{Replica, empty_replica, up_to}
use Rattle.group_run.specs.Rows.{begin_copy, copy_begun, copy_in, is_copy, is_marked, marked, marks_of, with_copies, without_copy}
use Rattle.law_moves.proofs.Chains.{goes-each, goes-when}
use Rattle.law_bytes.specs.Areas.{IsBlock, code, value, SettledWrite}
use Rattle.law_bytes.proofs.Applying.{at-rebuilt}
use Rattle.law_bytes.proofs.Finds.{if-some}
use Rattle.law_bytes.proofs.Rebuilding.{GivesBlock, block-gives, row-gives, with_block, with_row}
use Rattle.law_bytes.proofs.Rising.{among-contains}
use Rattle.law_bytes.specs.Leading.{IsSoundSession}
use Rattle.law_bytes.proofs.Rebuilt.{GivenAt, RebuildsGiven}
use Rattle.law_bytes.specs.Held.{CopyHolds}
use Rattle.group_types.proofs.Names.{same-eq}
use Rattle.law_bytes.proofs.Finding.{found-passes}
use Rattle.law_bytes.proofs.Local.{copy-parts}
use Rattle.law_bytes.proofs.Stamps.{AmongRows, GatheringFollows, LostFollows, Plan, ProcessFollows, RowFollows, planned}
use Rattle.law_bytes.proofs.Bearing.{Bears, bears-apply, bears-same, bears-then, lost-borne}
use Rattle.law_bytes.proofs.PlanMarking.{mine_there}
use Rattle.law_bytes.proofs.Gathers.{block-sound, decodes-right, row-sound}
use Rattle.law_bytes.proofs.Gathering.{block-more, row-more}

module _ (s : Dimensions) where
  -- no block is newly rebuilt
  abbrev pub NoneStays : Process → Process → Type 0
  NoneStays p q = (d b : ℕ) → rebuilt_block p.as_leader d b ≡ None → rebuilt_block q.as_leader d b ≡ None

  pub none-self : (p : Process) → NoneStays p p
  none-self p d b none = none

  none-then : (p q r : Process) → NoneStays p q → NoneStays q r → NoneStays p r
  none-then p q r first next d b none = next d b (first d b none)

  pub none-apply : (e k : ℕ) (p : Process) → NoneStays p (apply_to s e k p)
  none-apply e k p d b none = by (cases_eq d e) where
    us : List Update
    us = up_to k (replica_of p e)

    by : (d ≡ e) ⊎ (d ≢ e)
        → at None (at []
        (put [] p.as_leader.rebuilt e (rebuilt_after s e (up_to k (replica_of p e)) 0 (at [] p.as_leader.rebuilt e))) d)
        b ≡ None
    by (inl same) =
        ap (λ (j : ℕ). at None (at [] (put [] p.as_leader.rebuilt e (rebuilt_after s e (up_to k (replica_of p e)) 0 (at [] p.as_leader.rebuilt e))) j) b) same
        ∙ ap (λ (bs : List (Option (List ℕ))). at None bs b)
        (at-put [] [] p.as_leader.rebuilt e
        (rebuilt_after s e (up_to k (replica_of p e)) 0 (at [] p.as_leader.rebuilt e)))
        ∙ at-rebuilt s e (up_to k (replica_of p e)) 0 (at [] p.as_leader.rebuilt e) b
        ∙ ap (option_map (block_after s (DataNode e) e (0 + b) (up_to k (replica_of p e)))) (ap (λ (j : ℕ). rebuilt_block p.as_leader j b) (sym same) ∙ none)
    by (inr other) =
        ap (λ (bs : List (Option (List ℕ))). at None bs b)
        (at-put-other [] p.as_leader.rebuilt e d
        (rebuilt_after s e (up_to k (replica_of p e)) 0 (at [] p.as_leader.rebuilt e)) other)
        ∙ none

  none-each : (xs : List ℕ) (f : ℕ → Process → ProcessStep) (p : Process)
      → ((x : ℕ) (q : Process) → NoneStays q (f x q).process) → NoneStays p (for_each xs f p).process
  none-each = goes-each (λ p q. NoneStays p q) none-self none-then

  pub none-when : (b : Bool) (p : Process) (step : ProcessStep) → NoneStays p step.process → NoneStays p (when b p step).process
  none-when = goes-when (λ p q. NoneStays p q) none-self

  pub none-judge : (d : ℕ) (p : Process) → NoneStays p (judge s d p).process
  none-judge d p = by (head_at p d) where
    by : (o : Option Head) → NoneStays p (judge_head s d p o).process
    by None = none-self p
    by (Some h) = none-apply d _ p

  none-takes : (d : ℕ) (p : Process) → NoneStays p (take_over_if s d p).process
  none-takes d p = none-when (takes_over p d p.name) p (taken_over s d p) (λ e b none. none-judge d _ e b none)

  none-close : (gs : List Gathering) (p : Process) → NoneStays p (close_sessions s gs p).process
  none-close [] p = none-self p
  none-close (g ∷ gs) p = λ d b none. none

  none-forgotten : (dead : ProcessId) (p : Process) → NoneStays p (death_known dead p)
  none-forgotten (DataNode e) p d b none = none
  none-forgotten (ParityNode i) p d b none = none

  pub none-notice : (dead : ProcessId) (p : Process) → NoneStays p (notice_comes s dead p).process
  none-notice dead p =
      let q : Process = death_known dead p in
      let closed : Process = (close_sessions s q.as_leader.sessions q).process in
      let judged : Process = (for_each (range_with_len 0 s.k) (judge s) closed).process in
      none-then p q (notice_comes s dead p).process (none-forgotten dead p)
      (none-then q closed (notice_comes s dead p).process (none-close q.as_leader.sessions q)
      (none-then closed judged (notice_comes s dead p).process
      (none-each (range_with_len 0 s.k) (judge s) closed none-judge)
      (none-each (range_with_len 0 s.k) (take_over_if s) judged none-takes)))

  pub none-acked : (p : Process) (i r d k : ℕ) (o : Option Head) → NoneStays p (acknowledge s i r d k o p).process
  none-acked p i r d k None = none-self p
  none-acked p i r d k (Some h) = none-when (r == h.rank) p _ (λ e b none. none-judge d _ e b none)

  pub none-given : (settled : ℕ → List Update) (p q : Process) → NoneStays p q → RebuildsGiven s settled p q
  none-given settled p q stays d b bytes below before after = absurd (cc (sym after ∙ stays d b before))

  -- an open session that is sound and for what is known
  pub record SoundFor (known : Membership) (g : Gathering) : Type 0 where
    pub sound : IsSoundSession s g
    pub lost : (e : ℕ) → Contains g.lost e → knows_dead known (DataNode e) ≡ true

  module _ (shaped : IsShape s) (settled : ℕ → List Update) (write : SettledWrite s settled) (l n : ℕ) (plan : Plan)
      (known : Membership) (p : Process) (name : p.name ≡ ParityNode l)
      (session : IfSome (open_session p.as_leader n) (λ g. (n ≤ p.as_leader.last_session)
      × GatheringFollows s settled plan g)) (lost : LostFollows l n plan p)
      (sound : IfSome (open_session p.as_leader n) (SoundFor known)) where
    -- what a complete session gives
    gives : (d b : ℕ) (bytes : List ℕ) (g : Gathering) (more : Gathering → Gathering)
        (gb : GivesBlock s p.as_leader n d b bytes more) → (more gb.session).lost ≡ gb.session.lost
        → (GatheringFollows s settled plan gb.session → GatheringFollows s settled plan (more gb.session))
        → (SoundFor known gb.session → IsSoundSession s (more gb.session)) → GivenAt s settled known p d b bytes
    gives d b bytes g more gb same follows sounds =
        let before = if-some (λ x. (n ≤ p.as_leader.last_session) × GatheringFollows s settled plan x)
        (open_session p.as_leader n) gb.session gb.opens session in
        let sound_for = if-some (SoundFor known) (open_session p.as_leader n) gb.session gb.opens sound in
        let has : Contains gb.session.lost d = subst (λ (ls : List ℕ). Contains ls d) same (among-contains (more gb.session).lost d gb.decoded.lost) in
        let at_lost = if-some
        (λ x. (e : ℕ) → Contains x.lost e → (plan.numbers e ≤ (replica_of p e).applied) × IfSome (head_at p e) (λ h. h.inherited ≤ plan.numbers e))
        (open_session p.as_leader n) gb.session gb.opens (lost name) d has in
        record {
          number = plan.numbers d;
          values = decodes-right s settled write plan (more gb.session) d b bytes shaped (sounds sound_for) (follows before.1) gb.complete gb.decoded;
          lost = sound_for.lost d has;
          applied = at_lost.0;
          inherited = at_lost.1;
        }

    -- a row comes
    pub row-given : (i : ℕ) (row : List ℕ) → Contains plan.rows i
        → IsBlock s plan.block (code s i (planned settled plan)) row → (d b : ℕ) (bytes : List ℕ)
        → rebuilt_block p.as_leader d b ≡ None
        → rebuilt_block (row_comes s n i row p).as_leader d b ≡ Some bytes → GivenAt s settled known (row_comes s n i row p) d b bytes
    row-given i row among is d b bytes before after =
        let gb = row-gives s p.as_leader n i row d b bytes before after in
        let given = gives d b bytes gb.session (with_row i row) gb refl (λ follows. row-more s settled l n plan i row gb.session among is follows)
        (λ sound_for. row-sound s settled write plan i row gb.session sound_for.sound) in
        record { number = given.number; values = given.values; lost = given.lost; applied = given.applied; inherited = given.inherited }

    -- a block comes
    pub block-given : (e : ℕ) (block : List ℕ) → e < s.k → knows_dead known (DataNode e) ≡ false → IsBlock s plan.block (value (planned settled plan e)) block
        → (d b : ℕ) (bytes : List ℕ) → rebuilt_block p.as_leader d b ≡ None
        → rebuilt_block (block_comes s n e block p).as_leader d b ≡ Some bytes → GivenAt s settled known (block_comes s n e block p) d b bytes
    block-given e block below living is d b bytes before after =
        let gb = block-gives s p.as_leader n e block d b bytes before after in
        let given = gives d b bytes gb.session (with_block e block) gb refl (λ follows. block-more s settled l n plan e block gb.session below is follows)
        (λ sound_for. block-sound s settled write plan e block gb.session below (λ there. cc (living, sound_for.lost e there)) sound_for.sound) in
        record { number = given.number; values = given.values; lost = given.lost; applied = given.applied; inherited = given.inherited }

  -- a leader takes a mark in its own row
  module _ (shaped : IsShape s) (settled : ℕ → List Update) (write : SettledWrite s settled) (l n : ℕ) (plan : Plan)
      (known : Membership) (p : Process) (name : p.name ≡ ParityNode l) (is : ProcessFollows s settled l n plan p)
      (lost : LostFollows l n plan p) (sound : IfSome (open_session p.as_leader n) (SoundFor known)) (leader block d k : ℕ) (below : d < s.k)
      (fits : leader ≡ l → n ≡ n → (block ≡ plan.block) × (k ≡ plan.numbers d) × AmongRows plan.rows p.name)
      (holds : leader ≡ l → n ≡ n → (c : Copy) → copy_in (apply_to s d k (begin_copy s leader n block p)).as_row.copies
      leader n ≡ Some c → CopyHolds s settled (apply_to s d k (begin_copy s leader n block p)) (marked d k c)) where
    abbrev begun : Process
    begun = begin_copy s leader n block p

    abbrev marking : Process
    marking = apply_to s d k (begin_copy s leader n block p)

    begun-leader : (b : Bool)
        → ((copy_begun b s leader n block p).as_leader ≡ p.as_leader) × ((copy_begun b s leader n block p).name ≡ p.name) ×
        ((copy_begun b s leader n block p).heads ≡ p.heads) × ((copy_begun b s leader n block p).replicas ≡ p.replicas)
    begun-leader true = (refl, refl, refl, refl)
    begun-leader false = (refl, refl, refl, refl)

    begun-all : (begun.as_leader ≡ p.as_leader) × (begun.name ≡ p.name) × (begun.heads ≡ p.heads) × (begun.replicas ≡ p.replicas)
    begun-all = begun-leader (is_some (copy_in p.as_row.copies leader n))

    begun-bears : Bears s n p begun
    begun-bears =
        bears-same s n p begun begun-all.2 (ap (λ (x : LeaderState). x.sessions) begun-all.0)
        (λ e. let same = ap (λ (rs : List Replica). (at empty_replica rs e).applied) begun-all.3 in omega (arith, same))

    marking-bears : Bears s n p marking
    marking-bears = bears-then s n p begun marking begun-bears (bears-apply s n d k begun)

    none-marking : NoneStays p marking
    none-marking e b none = none-apply d k begun e b (ap (λ (x : LeaderState). rebuilt_block x e b) begun-all.0 ∙ none)

    session-marking : IfSome (open_session marking.as_leader n) (λ g. (n ≤ marking.as_leader.last_session) × GatheringFollows s settled plan g)
    session-marking =
        subst (λ (x : LeaderState). IfSome (open_session x n) (λ g. (n ≤ x.last_session)
        × GatheringFollows s settled plan g)) (sym begun-all.0) (is.session name)

    sound-marking : IfSome (open_session marking.as_leader n) (SoundFor known)
    sound-marking = subst (λ (x : LeaderState). IfSome (open_session x n) (SoundFor known)) (sym begun-all.0) sound

    lost-marking : LostFollows l n plan marking
    lost-marking = lost-borne s l n plan p marking begun-all.1 marking-bears lost

    abbrev New : Process → Type 0
    New q = (e b : ℕ) (bytes : List ℕ) → rebuilt_block p.as_leader e b ≡ None → rebuilt_block q.as_leader e b ≡ Some bytes → GivenAt s settled known q e b bytes

    new-none : (q : Process) → NoneStays p q → New q
    new-none q stays e b bytes before after = absurd (cc (sym after ∙ stays e b before))

    new-found : (o : Option Copy) → copy_in marking.as_row.copies leader n ≡ o → New (copy_marked s d k o marking).process
    new-found None first = new-none marking none-marking
    new-found (Some c) first = kept (is_marked s (marked d k c)) refl where
      parts : (c.leader ≡ leader) × (c.number ≡ n)
      parts = copy-parts leader n c (found-passes (is_copy leader n) marking.as_row.copies c first)

      finished : (own : Bool) → same_process marking.name (ParityNode c.leader) ≡ own → is_marked s (marked d k c) ≡ true
          → New (row_finished own s (marked d k c) (with_copies (without_copy c.leader c.number marking.as_row.copies) marking)).process
      finished false other whole = new-none _ none-marking
      finished true own whole = λ e b bytes before after.
          subst (λ (x : ℕ).
          rebuilt_block
          (row_comes s x c.leader c.bytes (with_copies (without_copy c.leader c.number marking.as_row.copies)
          marking)).as_leader e b ≡ Some bytes
          → GivenAt s settled known
          (row_comes s x c.leader c.bytes (with_copies (without_copy c.leader c.number marking.as_row.copies)
          marking)) e b bytes) (sym parts.1)
          (row-given shaped settled write l n plan known
          (with_copies (without_copy c.leader c.number marking.as_row.copies) marking) (begun-all.1 ∙ name)
          session-marking (λ leads. lost-marking leads) sound-marking c.leader c.bytes row.0 row.1 e b bytes
          (none-marking e b before)) after
        where
          named : marking.name ≡ ParityNode c.leader
          named = same-eq marking.name (ParityNode c.leader) own

          leads : leader ≡ l
          leads = let names : ParityNode c.leader ≡ ParityNode l = sym named ∙ begun-all.1 ∙ name in
              let leaders : c.leader ≡ l = cc names in sym parts.0 ∙ leaders

          row : RowFollows s settled plan (ParityNode c.leader) c.bytes (marks_of s (marked d k c))
          row = (mine_there s settled l n plan p leader n block d k below fits is holds c first leads refl c.leader named).row whole

      kept : (whole : Bool) → is_marked s (marked d k c) ≡ whole → New (copy_kept whole s (marked d k c) marking).process
      kept true whole = finished (same_process marking.name (ParityNode c.leader)) refl whole
      kept false whole = new-none _ none-marking

    pub taken-given : New (mark_taken s leader n block d k p).process
    taken-given = new-found (copy_in marking.as_row.copies leader n) refl
