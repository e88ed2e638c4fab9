-- All that comes in for an open session, and the rows that are on their way to it, stand at one stamp.
use Rattle.std.proofs.Common.{ℕ, ◌≡◌, ◌<◌, ◌≤◌, ◌+◌, suc, List, [], ◌∷◌, length, take, map, Some, None, refl, sym, ap, subst, ◌∙◌, arith}
use Rattle.std.specs.Prelude.{Contains}
use Rattle.std.proofs.lemmas.List.FromFn.{get_or-map-range_with_len, length-map-range_with_len}
use Rattle.std.proofs.lemmas.Option.{get_or_from_slice_get}
use Rattle.std.specs.List.{range_with_len}
use Rattle.group_types.specs.Dimensions.{Dimensions}
use Rattle.group_types.specs.Lists.{at}
use Rattle.group_types.specs.Shape.{IsShape}
use Rattle.group_types.specs.declared.process.ProcessId.TheVariants.{ParityNode}
use Rattle.group_types.proofs.Lists.{at-map-range}
use Rattle.group_types.proofs.Eaches.{each-take}
use Rattle.group_message.specs.declared.message.Message.TheVariants as tells
use Rattle.group_run.specs.Headline.{KeepsAll}
use Rattle.group_run.specs.History.{History}
use Rattle.group_run.specs.Leaders.{open_session, session_of}
use Rattle.group_run.specs.Meaning.{Lives, link, process_of}
use Rattle.group_run.specs.Process.{Gathering}
use Rattle.group_run.specs.Recovery.{SessionsHaveStamps, StandsAt, code_block, value_block}
use Rattle.group_run.specs.Replica.{Replica}
use Rattle.group_run.specs.World.{AskedCall}
use Rattle.law_moves.specs.State.{state_of}
use Rattle.law_log.specs.Book.{book_of, no_book}
use Rattle.law_log.proofs.Books.{book-history, book-shape, book-world}
use Rattle.law_log.proofs.Calls.{each-contained}
use Rattle.law_log.proofs.ReplicaWords.{ReplicaStands}
use Rattle.law_log.proofs.Shown.{LogShows}
use Rattle.law_bytes.specs.Areas.{IsBlock, WritesBytes, code}
use Rattle.law_bytes.proofs.Finds.{if-some}
use Rattle.law_bytes.proofs.Stamps.{Follows, GatheringFollows, Plan, ProcessFollows, RowFollows, SessionFollows, planned}
use Rattle.law_bytes.proofs.Stamps as stamps
use Rattle.law_headline.proofs.Joint.{Whole}
use Rattle.law_headline.proofs.All.{all-always, whole-always}
use Rattle.law_headline.proofs.Headlines.{copies_always, rebuilt_always}
use Rattle.law_headline.proofs.Promises.{keeps, shaped, shown, whole, write}
use Rattle.law_headline.proofs.Recovery.{code-block, value-block}
use Rattle.law_headline.specs.Recovering.{RecoversAlways, SessionsStandAlways}
use Rattle.law_headline.proofs.Rows.{RowSound, RowsSound}
use Rattle.law_headline.proofs.RowsKept.{rows-sound-always}
use Rattle.law_headline.proofs.Numbers.{found-rising}

-- a stamp that is f number by number
stamp-is : (f : ℕ → ℕ) (xs : List ℕ) (a : ℕ) → ((d : ℕ) → d < length xs → at 0 xs d ≡ f (a + d)) → xs ≡ map f (range_with_len a (length xs))
stamp-is f [] a each = refl
stamp-is f (x ∷ xs) a each =
    let here : x ≡ f a = each 0 (omega arith) ∙ ap f (omega arith) in
    ap (λ (n : ℕ). n ∷ xs) here ∙ ap (λ (ns : List ℕ). f a ∷ ns) (stamp-is f xs (a + 1) (λ d low. each (suc d) (omega (arith, low)) ∙ ap f (omega arith)))

module _ (h : History) (calls : List AskedCall) (shaped : IsShape h.world.shape) (whole : Whole h.world.shape calls (state_of h))
    (shows : (d : ℕ) → d < h.world.shape.k → LogShows h.world.shape h.world d (at [] h.settled d))
    (keeps : (d : ℕ) → d < h.world.shape.k → (r : Replica) → ReplicaStands h.world.shape calls (at [] h.settled d) d r → KeepsAll h.world d r)
    (plans : stamps.SessionsStand h.world.shape (state_of h)) (rows : RowsSound h.world.shape (state_of h)) where
  -- an open session of a living leader
  module _ (l : ℕ) (g : Gathering) (lives : Lives h.world (ParityNode l)) (there : Contains (process_of h.world (ParityNode l)).as_leader.sessions g) where
    abbrev plan : Plan
    plan = (plans l g.number lives.0).0

    -- the plan's numbers, in order
    abbrev stamp_at : List ℕ
    stamp_at = map plan.numbers (range_with_len 0 h.world.shape.k)

    follows : SessionFollows h.world.shape (state_of h) l g.number plan
    follows = (plans l g.number lives.0).1

    opens : open_session (process_of h.world (ParityNode l)).as_leader g.number ≡ Some g
    opens = found-rising (process_of h.world (ParityNode l)).as_leader.sessions g (rows.sessions (ParityNode l) lives.0 lives.1).rises there

    gathers : GatheringFollows h.world.shape (λ d. at [] h.settled d) plan g
    gathers = (if-some (λ (x : Gathering). (g.number ≤ (process_of h.world (ParityNode l)).as_leader.last_session)
        × GatheringFollows h.world.shape (λ d. at [] h.settled d) plan x)
        (open_session (process_of h.world (ParityNode l)).as_leader g.number) g opens
        ((follows.processes (ParityNode l) lives.0 lives.1).session (whole.carried.members.named (ParityNode l) lives.0))).1

    number-at : (d : ℕ) → d < h.world.shape.k → at 0 stamp_at d ≡ plan.numbers d
    number-at d below = at-map-range 0 plan.numbers h.world.shape.k 0 d below ∙ ap plan.numbers (omega arith)

    block-in : (d : ℕ) (bytes : List ℕ) → at None g.blocks_in d ≡ Some bytes → bytes ≡ value_block h.world g.block d (at 0 stamp_at d)
    block-in d bytes is =
        let both = gathers.blocks_in d bytes is in
        value-block h calls shaped whole shows keeps plan.block d (plan.numbers d) bytes both.0 both.1
        ∙ ap (λ (b : ℕ). value_block h.world b d (plan.numbers d)) (sym gathers.block)
        ∙ ap (λ (n : ℕ). value_block h.world g.block d n) (sym (number-at d both.0))

    -- a row of the plan's block is the code at the stamp
    row-at : (i : ℕ) (bytes : List ℕ)
        → IsBlock h.world.shape plan.block (code h.world.shape i (planned (λ d. at [] h.settled d) plan)) bytes
        → bytes ≡ code_block h.world g.block i stamp_at
    row-at i bytes block =
        code-block h calls shaped whole shows keeps plan.block i (planned (λ d. at [] h.settled d) plan) stamp_at bytes
        (length-map-range_with_len plan.numbers 0 h.world.shape.k)
        (λ d n below is. ap (λ (x : ℕ). take x (at [] h.settled d))
        (sym (get_or-map-range_with_len plan.numbers 0 h.world.shape.k d d 0 below (omega arith)) ∙ get_or_from_slice_get stamp_at d n 0 is))
        (λ d below. each-take (WritesBytes h.world.shape) (plan.numbers d) (at [] h.settled d) (write h calls shaped whole shows keeps d below))
        block
        ∙ ap (λ (b : ℕ). code_block h.world b i stamp_at) (sym gathers.block)

    coming : (i : ℕ) (bytes stamp : List ℕ) → i < h.world.shape.m
        → Contains (link h.world (ParityNode i) (ParityNode l)) (tells.Row (session_of l g.number) bytes stamp)
        → (stamp ≡ stamp_at) × (bytes ≡ code_block h.world g.block i stamp_at)
    coming i bytes stamp below comes = (same, row-at i bytes row.1) where
      sound : RowSound h.world.shape (ParityNode i) (ParityNode l) (tells.Row (session_of l g.number) bytes stamp)
      sound = each-contained (RowSound h.world.shape (ParityNode i) (ParityNode l))
          (link h.world (ParityNode i) (ParityNode l)) (tells.Row (session_of l g.number) bytes stamp)
          (rows.links (ParityNode i) (ParityNode l) below lives.0 lives.1) comes

      row : RowFollows h.world.shape (λ d. at [] h.settled d) plan (ParityNode i) bytes stamp
      row =
          each-contained (Follows h.world.shape (λ d. at [] h.settled d) l g.number plan (ParityNode i) (ParityNode l))
          (link h.world (ParityNode i) (ParityNode l)) (tells.Row (session_of l g.number) bytes stamp)
          (follows.links (ParityNode i) (ParityNode l) below lives.0 sound.1 lives.1) comes (refl, refl)

      same : stamp ≡ stamp_at
      same = stamp-is plan.numbers stamp 0 (λ d low. row.2 d (subst (λ (n : ℕ). d < n) sound.0 low) ∙ ap plan.numbers (omega arith))
          ∙ ap (λ (n : ℕ). map plan.numbers (range_with_len 0 n)) sound.0

    pub stands-at : (v : List ℕ) × StandsAt h.world l g v
    stands-at = (
      stamp_at,
      record {
        long = length-map-range_with_len plan.numbers 0 h.world.shape.k;
        blocks = block-in;
        rows = λ i bytes is. row-at i bytes (gathers.rows_in i bytes is).1;
        coming = coming;
      },
    )

pub sessions_stand_always : SessionsStandAlways
sessions_stand_always s es run = subst SessionsHaveStamps (book-world s es)
    (stands-at h (book_of s es).issued (shaped s (whole-always s) es run) (whole s (whole-always s) es run)
    (shown s (whole-always s) es run) (keeps s (whole-always s) es run) plans rows)
  where
    h : History
    h = (book_of s es).history

    plans : stamps.SessionsStand h.world.shape (state_of h)
    plans = subst (λ (t : Dimensions). stamps.SessionsStand t (state_of (book_of s es).history)) (sym (book-shape s es)) (all-always s es run).stamps

    rows : RowsSound h.world.shape (state_of h)
    rows = subst (λ (t : Dimensions). RowsSound t (state_of (book_of s es).history)) (sym (book-shape s es))
        (subst (λ (x : History). RowsSound s (state_of x)) (sym (book-history (no_book s) es)) (rows-sound-always s es run))

pub recovers_always : RecoversAlways
recovers_always s es run = record {
  rebuilt = λ up. rebuilt_always s es run;
  sessions = λ up. sessions_stand_always s es run;
  copies = λ up. copies_always s es run;
}
