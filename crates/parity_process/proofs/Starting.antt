-- A leader that starts a session.
use Rattle.std.proofs.Common.{ℕ, suc, ◌≡◌, ◌<◌, ◌≤◌, Bool, true, false, cond, List, [], ◌∷◌, ◌++◌, length, find}
use Rattle.std.proofs.Common.{is_some, Option, Some, None, Contains, refl, sym, ap, ap₂, subst, ◌∙◌, arith}
use Rattle.std.specs.Option.{option_or}
use Rattle.std.proofs.lemmas.Grind.{common_steps}
use Rattle.std.proofs.lemmas.List.{append-nil}
use Rattle.std.proofs.lemmas.List.Elements.{All-push}
use Rattle.std.proofs.lemmas.List.Folds.{find-append}
use Rattle.std.proofs.lemmas.List.Kept.{AllPairs-from_increasing}
use Rattle.group_types.specs.Dimensions.{Dimensions}
use Rattle.group_types.specs.Lists.{at}
use Rattle.group_types.proofs.Lists.{at-replicate}
use Rattle.group_types.specs.declared.process.ProcessId.TheVariants.{ParityNode}
use Rattle.membership.specs.Members.{knows_dead}
use Rattle.group_run.specs.Applying.{ProcessStep, Sent, and_then, for_each, head_at, quiet, replica_of, sending, when}
use Rattle.group_run.specs.Leaders.{lost_of, mark_taken, own_mark, rows_of, session_opened, session_starts, start_session, with_leader}
use Rattle.group_run.specs.Leaders as leaders
use Rattle.group_run.specs.Process.{Copy, Head, Process}
use Rattle.group_run.specs.Rows.{begin_copy, copy_begun, copy_in, is_copy, new_copy, parity_number, with_copies}
use Rattle.block_sessions.specs.Leading.{started}
use Rattle.block_sessions.specs.Opened.{AreLost}
use Rattle.head_service.specs.Serving.{Serving, serving}
use Rattle.leader_role.specs.Sound.{CanLead}
use Rattle.leader_role.proofs.Laws.{among-rows, can-start, none-next}
use Rattle.parity_bytes.specs.Bytes.{ParityHolding}
use Rattle.parity_bytes.specs.Starting.{begun_if, session_begun, takes_next}
use Rattle.parity_process.specs.Marking.{copy_taken}
use Rattle.parity_process.specs.Opening.{AreMarkable, AreUnmarked, HeadsOne}
use Rattle.parity_process.specs.Standing.{BytesAreReadyFor}
use Rattle.parity_process.proofs.Beneath.{begin-beneath}
use Rattle.parity_process.proofs.Marks.{mark-taken, takes-own}

a-head : (o : Option Head) → is_some o ≡ true → (h : Head) × (o ≡ Some h)
a-head None none = absurd (cc none)
a-head (Some h) some = (h, refl)

module _ (s : Dimensions) (p : Process) (sound : CanLead s p) (d : ℕ) (inside : d < s.k) (heads : is_some (head_at p d) ≡ true) where
  pub are-lost : AreLost s (lost_of s p) (rows_of s p)
  are-lost = let h = a-head (head_at p d) heads in can-start s p d h.0 sound h.1 inside

  own-row : Contains (rows_of s p) (parity_number p.name)
  own-row = let h = a-head (head_at p d) heads in among-rows s p d h.0 sound h.1 inside

  module _ (block leader : ℕ) (named : p.name ≡ ParityNode leader) where
    abbrev next : ℕ
    next = suc p.as_leader.last_session

    abbrev opened : Process
    opened = session_opened s next block p

    abbrev own : Copy
    own = new_copy s leader next block p.space

    -- with its own copy
    abbrev copied : Process
    copied = with_copies (p.as_row.copies ++ own ∷ []) opened

    is-leader : parity_number p.name ≡ leader
    is-leader = ap parity_number named

    none-yet : copy_in p.as_row.copies leader next ≡ None
    none-yet = subst (λ (l : ℕ). copy_in p.as_row.copies l next ≡ None) is-leader (none-next s p sound)

    pub begun-is : begin_copy s leader next block opened ≡ copied
    begun-is = ap (λ (o : Option Copy). copy_begun (is_some o) s leader next block opened) none-yet

    found-own : copy_in copied.as_row.copies leader next ≡ Some own
    found-own =
        let same : is_copy leader next own ≡ true = grind (arith, common_steps) in
        find-append (is_copy leader next) p.as_row.copies (own ∷ [])
        ∙ ap (λ (o : Option Copy). option_or o (find (is_copy leader next) (own ∷ []))) none-yet
        ∙ ap (λ (b : Bool). cond b (Some own) None) same

    living : knows_dead p.known (ParityNode leader) ≡ false
    living = ap (knows_dead p.known) (sym named) ∙ sound.living

    pub markable : at 0 p.as_row.ceased leader < next → AreMarkable s leader next block (lost_of s p) copied
    markable accepted = record {
      name = named;
      living = living;
      accepted = accepted;
      below = are-lost.below;
      differ = AllPairs-from_increasing (lost_of s p) are-lost.rising;
      unmarked = by (lost_of s p) (sym found-own);
      own = All-push (λ g. Contains g.rows (parity_number p.name)) p.as_leader.sessions (leaders.new_session s next block p) sound.rows own-row;
    } where
      by : (ds : List ℕ) → Some own ≡ copy_in copied.as_row.copies leader next → AreUnmarked ds (copy_in copied.as_row.copies leader next)
      by [] is = tt
      by (e ∷ es) is = subst (AreUnmarked (e ∷ es)) is (λ i x within. at-replicate None s.k _)

    -- the first mark begins the copy, where the row takes it
    first-begins : (e : ℕ) → at 0 p.as_row.ceased leader < next → own_mark s leader next block e opened ≡ own_mark s leader next block e copied
    first-begins e accepted =
        ap (λ (b : Bool). when b opened (mark_taken s leader next block e (replica_of p e).applied opened))
        (takes-own s leader next block e opened living accepted)
        ∙ ap (copy_taken s leader next e (replica_of p e).applied) begun-is
        ∙ sym (mark-taken s leader next block e copied (takes-own s leader next block e copied living accepted) (ap is_some found-own))

    all-begin : (ds : List ℕ) → 1 ≤ length ds → at 0 p.as_row.ceased leader < next
        → for_each ds (own_mark s leader next block) opened ≡ for_each ds (own_mark s leader next block) copied
    all-begin [] some accepted = absurd (omega (arith, some))
    all-begin (e ∷ es) some accepted = ap (λ (step : ProcessStep). and_then step (for_each es (own_mark s leader next block))) (first-begins e accepted)

    -- with its own copy, where the row takes it
    abbrev pub begun : Process
    begun = begun_if (takes_next leader p) s leader next block opened

    when-taken : (t : Bool) → takes_next leader p ≡ t → at 0 p.as_row.ceased leader < next → begun_if t s leader next block opened ≡ copied
    when-taken true is accepted = begun-is
    when-taken false is accepted = absurd (grind (arith, common_steps))

    begun-ceased : (t : Bool) → (begun_if t s leader next block opened).as_row.ceased ≡ p.as_row.ceased
    begun-ceased true = ap (λ (q : Process). q.as_row.ceased) begun-is
    begun-ceased false = refl

    pub begun-markable : (q : Process) → q ≡ begun → at 0 q.as_row.ceased leader < next → AreMarkable s leader next block (lost_of s p) q
    begun-markable q is accepted =
        let same = ap (λ (x : Process). at 0 x.as_row.ceased leader) is ∙ ap (λ (xs : List ℕ). at 0 xs leader) (begun-ceased (takes_next leader p)) in
        let earlier : at 0 p.as_row.ceased leader < next = omega (arith, same, accepted) in
        subst (AreMarkable s leader next block (lost_of s p)) (sym (is ∙ when-taken (takes_next leader p) refl earlier)) (markable earlier)

    all-marks : (t : Bool) → takes_next leader p ≡ t → for_each (lost_of s p) (own_mark s leader next block) opened
        ≡ for_each (lost_of s p) (own_mark s leader next block) (begun_if t s leader next block opened)
    all-marks true is =
        all-begin (lost_of s p) are-lost.some (grind (arith, common_steps))
        ∙ ap (for_each (lost_of s p) (own_mark s leader next block)) (sym begun-is)
    all-marks false is = refl

    -- so the session starts
    pub starts : (q r : Process) (sent : List Sent) → q ≡ begun → for_each (lost_of s p) (own_mark s leader next block) q ≡ quiet r
        → sent ≡ session_starts s leader next block p → start_session s block p ≡ record { process = r; sent = sent; settled = [] }
    starts q r sent is marked told =
        let marks : for_each (lost_of s p) (own_mark s leader next block) opened ≡ quiet r
        = all-marks (takes_next leader p) refl ∙ ap (for_each (lost_of s p) (own_mark s leader next block)) (sym is) ∙ marked in
        ap (λ (l : ℕ). and_then (sending (session_starts s l next block p) opened) (for_each (lost_of s p) (own_mark s l next block))) is-leader
        ∙ ap (λ (step : ProcessStep). record { process = step.process; sent = session_starts s leader next block p ++ step.sent; settled = step.settled }) marks
        ∙ ap (λ (xs : List Sent). record { process = r; sent = xs; settled = [] }) (append-nil (session_starts s leader next block p) ∙ sym told)

-- what begins beneath the process's partitions
pub begun-beneath : (v : Serving) (b : Process) (leader block : ℕ) (lost rows : List ℕ)
    → lost ≡ lost_of v.shape (serving v b) → rows ≡ rows_of v.shape (serving v b)
    → serving v (session_begun v.shape leader block lost rows b)
    ≡ begun_if (takes_next leader (serving v b)) v.shape leader (suc b.as_leader.last_session) block
    (session_opened v.shape (suc b.as_leader.last_session) block (serving v b))
begun-beneath v b leader block lost rows is_lost is_rows =
    ap₂ (λ (ls rs : List ℕ). serving v (session_begun v.shape leader block ls rs b)) is_lost is_rows ∙ by (takes_next leader b)
  where
    by : (t : Bool) → serving v (begun_if t v.shape leader (suc b.as_leader.last_session) block
        (with_leader (started v.shape block (lost_of v.shape (serving v b)) (rows_of v.shape (serving v b)) b.as_leader) b))
        ≡ begun_if t v.shape leader (suc b.as_leader.last_session) block (session_opened v.shape (suc b.as_leader.last_session) block (serving v b))
    by true = sym (begin-beneath v (with_leader (started v.shape block (lost_of v.shape (serving v b)) (rows_of v.shape (serving v b)) b.as_leader) b)
        v.shape leader (suc b.as_leader.last_session) block)
    by false = refl

-- a start of a session, of what its parts give
module _ (v : Serving) (b : ParityHolding) (leader number block : ℕ) (lost rows : List ℕ) (ready : BytesAreReadyFor v b)
    (heads : HeadsOne v) (named : b.process.name ≡ ParityNode leader)
    (is_next : number ≡ suc b.process.as_leader.last_session) (is_lost : lost ≡ lost_of v.shape (serving v b.process))
    (is_rows : rows ≡ rows_of v.shape (serving v b.process)) where
  abbrev s : Dimensions
  s = v.shape

  abbrev p : Process
  p = serving v b.process

  pub start-lost : AreLost b.shape lost rows
  start-lost = subst (λ (x : Dimensions). AreLost x lost rows) (sym ready.over.shape)
      (subst (λ (ls : List ℕ). AreLost s ls rows) (sym is_lost)
      (subst (AreLost s (lost_of s p)) (sym is_rows) (are-lost s p ready.sound heads.0 heads.1 heads.2)))

  module _ (b2 : Process) (marked : List ℕ) (started_as : b2 ≡ session_begun b.shape (parity_number b.process.name)
      block lost rows b.process) (is_marked : marked ≡ lost) where
    begun-so : serving v b2 ≡ begun s p ready.sound heads.0 heads.1 heads.2 block leader named
    begun-so =
        ap (serving v) started_as
        ∙ ap₂ (λ (x : Dimensions) (l : ℕ). serving v (session_begun x l block lost rows b.process)) ready.over.shape (ap parity_number named)
        ∙ begun-beneath v b.process leader block lost rows is_lost is_rows

    pub start-markable : at 0 b2.as_row.ceased leader < number → AreMarkable s leader number block marked (serving v b2)
    start-markable accepted =
        subst (λ (n : ℕ). AreMarkable s leader n block marked (serving v b2)) (sym is_next)
        (subst (λ (ls : List ℕ). AreMarkable s leader (suc b.process.as_leader.last_session) block ls (serving v b2)) (sym (is_marked ∙ is_lost))
        (begun-markable s p ready.sound heads.0 heads.1 heads.2 block leader named (serving v b2) begun-so (omega (arith, accepted, is_next))))

    pub start-step : (q : Process) (sent : List Sent) → for_each marked (own_mark s leader number block) (serving v b2) ≡ quiet q
        → sent ≡ session_starts s leader number block p → start_session s block p ≡ record { process = q; sent = sent; settled = [] }
    start-step q sent marks told =
        starts s p ready.sound heads.0 heads.1 heads.2 block leader named (serving v b2) q sent begun-so
        (ap₂ (λ (ls : List ℕ) (n : ℕ). for_each ls (own_mark s leader n block) (serving v b2)) (sym (is_marked ∙ is_lost)) (sym is_next) ∙ marks)
        (told ∙ ap (λ (n : ℕ). session_starts s leader n block p) is_next)
