-- A process dies among the nodes of all processes in hand, as the machine has it, and they go back.
use Rattle.std.proofs.Common.{ℕ, suc, ◌≡◌, ◌≢◌, ◌<◌, ◌≤◌, ◌+◌, ◌-◌, List, [], ◌∷◌, ◌++◌, length, refl, sym, ap, subst, ◌∙◌, arith}
use Rattle.std.specs.Prelude.{Option, None}
use Rattle.std.proofs.lemmas.List.{length-append, append-nil}
use Rattle.atomic_table.specs.Table.{rest}
use Rattle.group_types.specs.Dimensions.{Dimensions, processes_of}
use Rattle.group_types.specs.Names.{IsProcess, index_of, process_at}
use Rattle.group_types.specs.declared.process.ProcessId.{ProcessId}
use Rattle.group_types.proofs.Names.{index-below, index-process_at}
use Rattle.group_calls.specs.declared.event.Answer.{Answer}
use Rattle.group_calls.specs.declared.event.Event.{Event}
use Rattle.group_calls.specs.declared.event.Event.TheVariants.{Fail}
use Rattle.group_run.specs.Headline.{IsRun, MayCome}
use Rattle.group_run.specs.Process.{Node}
use Rattle.group_run.specs.World.{GroupStep, World, after, all_change, group_step, node_in, opening, process_node}
use Rattle.group_node.specs.Standing.{NodeStanding}
use Rattle.group_core.specs.Seats.{AreSeated, nodes_of, seat, seats_of}
use Rattle.group_core.proofs.Changed.{many-nodes}
use Rattle.group_core.proofs.Runs as core_runs
use Rattle.group_core.proofs.Schedules.{has-run}
use Rattle.group_stage.specs.Conditions.{CanCommit, HasLast, InHand, IsIdle}
use Rattle.group_types.specs.Each.{Each}
use Rattle.group_stage.specs.Ended.{Ended}
use Rattle.group_stage.specs.Gathered.{AllFailed, CanFail, Failed, GaveBack, HasAll, NamesAll, OneMet, hand_of, holding_all, sat_with, slots_left}
use Rattle.group_stage.specs.Places.{slot_of}
use Rattle.group_stage.specs.Schedules.{answer_at, ask_by}
use Rattle.group_stage.specs.Steps.{Knows, Sat}
use Rattle.group_stage.specs.Views.{begun, committed, held_rest, released, tally, with_met, with_node_held}
use Rattle.group_stage.specs.declared.answer.StageAnswer.{StageAnswer}
use Rattle.group_stage.specs.declared.answer.StageAnswer.TheVariants.{Busy, Made, Worn}
use Rattle.group_stage.specs.declared.view.Plan.{Plan}
use Rattle.group_stage.specs.declared.view.View.{View}
use Rattle.group_run.proofs.Locality.{times-range}
use Rattle.group_stage.proofs.Releasing.{tally-append, tally-else}
use Rattle.group_types.proofs.Eaches.{each-append}
use Rattle.law_answers.proofs.Entries.{after-more}
use Rattle.group_core.proofs.Schedules.{many-after, shape-is}
use Rattle.group_stage.proofs.Runs.{run-more}
use Rattle.group_stage.proofs.Stacks.{AreRun, all-nodes, all-run, each-run, hand-more, in-stack, run-shapes, run-stack, same-slots}

-- some went back, and these are still in hand
pub record GivesBack (m w : Sat) (ys : List NodeStanding) (n : ℕ) : Type 0 where
  pub cleared : List (ℕ × ℕ)
  pub below : Each (λ c. c.0 < n) cleared
  pub seat : w ≡ (record m.0 { held = hand_of ys; cleared = m.0.cleared ++ cleared }, slots_left (hand_of ys))

pub none-back : (plan : Plan) (m : Sat) (ys : List NodeStanding) → HasAll plan m ys → GivesBack m m ys (length ys)
none-back plan m ys all = record {
  cleared = [];
  below = tt;
  seat = all.seat ∙ (λ i. (record m.0 { held = hand_of ys; cleared = (sym (append-nil m.0.cleared)) i }, slots_left (hand_of ys)));
}

append-two : {X : Type 0} (xs ys zs : List X) → (xs ++ ys) ++ zs ≡ xs ++ (ys ++ zs)
append-two [] ys zs = refl
append-two (x ∷ xs) ys zs = ap (λ (l : List _). x ∷ l) (append-two xs ys zs)

module _ (plan : Plan) (m w : Sat) (zs ys : List NodeStanding) (y : NodeStanding) (n : ℕ) (parts : m.0.parts ≡ 1)
    (few : n ≤ processes_of plan.shape) (fewer : length zs ≤ n) (last : zs ≡ ys ++ y ∷ [])
    (gives : GivesBack m w zs n) where
  long : length zs ≡ suc (length ys)
  long = ap length last ∙ length-append ys (y ∷ []) ∙ omega arith

  pub has-last : (p : ℕ) → p ≡ length ys → HasLast plan w p y None
  has-last p here =
      let held : hand_of zs ≡ (p, y) ∷ hand_of ys = ap hand_of last ∙ hand-more ys y ∙ ap (λ (x : ℕ). (x, y) ∷ hand_of ys) (sym here) in
      let left : slots_left (hand_of zs) ≡ (slot_of p, None) ∷ slots_left (hand_of ys) = ap slots_left held in
      subst (λ (x : Sat). HasLast plan x p y None) (sym gives.seat) (record {
        part = parts;
        within = let size = long in omega (arith, here, size, fewer, few);
        held = held ∙ ap (λ (h : List (ℕ × NodeStanding)). (p, y) ∷ held_rest h) (sym held);
        slot = left ∙ ap (λ (h : List (ℕ × Option NodeStanding)). (slot_of p, None) ∷ rest h) (sym left);
      })

  pub one-back : (p : ℕ) → p ≡ length ys → (x : Sat) → (found : ℕ) × (x ≡ (released w.0 p found, rest w.1)) → GivesBack m x ys n
  one-back p here x (found, back) = record {
    cleared = gives.cleared ++ (p, found - 1) ∷ [];
    below = each-append (λ c. c.0 < n) gives.cleared ((p, found - 1) ∷ []) gives.below (let size = long in omega (arith, here, size, fewer), tt);
    seat =
        let held : hand_of zs ≡ (p, y) ∷ hand_of ys = ap hand_of last ∙ hand-more ys y ∙ ap (λ (q : ℕ). (q, y) ∷ hand_of ys) (sym here) in
        back ∙ ap (λ (z : Sat). (released z.0 p found, rest z.1)) gives.seat
        ∙ (λ i. (
          record m.0 {
            held = held_rest (held i);
            cleared = (append-two m.0.cleared gives.cleared ((p, found - 1) ∷ [])) i;
          },
          rest (slots_left (held i)),
        ));
  }

pub all-back : (m w : Sat) (zs : List NodeStanding) (n : ℕ) → zs ≡ [] → GivesBack m w zs n → GaveBack m w n
all-back m w zs n none gives = record {
  cleared = gives.cleared;
  below = gives.below;
  seat = gives.seat ∙ (λ i. (record m.0 { held = hand_of (none i); cleared = m.0.cleared ++ gives.cleared }, slots_left (hand_of (none i))));
}

-- a further node is in hand
pub one-more : (v : View) (ys : List NodeStanding) (y : NodeStanding) (m w : Sat) (p : ℕ) → p ≡ length ys
    → m ≡ sat_with v ys → (es : List Event) × InHand m.0 p m.1 y w es
    → (w ≡ sat_with v (ys ++ y ∷ [])) × ((es : List Event) × Knows es (holding_all v (ys ++ y ∷ [])))
one-more v ys y m w p here is taken =
    let held : (p, y) ∷ hand_of ys ≡ hand_of (ys ++ y ∷ []) = ap (λ (x : ℕ). (x, y) ∷ hand_of ys) here ∙ sym (hand-more ys y) in
    let view : with_node_held m.0 p y ≡ holding_all v (ys ++ y ∷ []) = ap (λ (x : Sat). with_node_held x.0 p y) is ∙ (λ i. record v { held = held i }) in
    let seat : w ≡ sat_with v (ys ++ y ∷ []) = taken.1.seat
    ∙ ap (λ (x : Sat). (with_node_held x.0 p y, (slot_of p, None) ∷ x.1)) is
    ∙ (λ i. (record v { held = held i }, slots_left (held i))) in
    (seat, (taken.0, subst (Knows taken.0) view taken.1.knows))

-- all are in hand: what the machine makes of the failure
module _ (s : Dimensions) (es : List Event) (run : IsRun s es) (p : ProcessId) (pin : IsProcess s p) (keep : ℕ)
    (ys : List NodeStanding) (many : length ys ≡ s.k + s.m) (are : AreRun s es 0 ys) where
  size : length ys ≡ length (after s es).nodes
  size = many ∙ sym (many-after s es run)

  nodes : nodes_of ys ≡ (after s es).nodes
  nodes = all-nodes s es ys size are

  shape : (after s es).shape ≡ s
  shape = shape-is s es

  pub seated : AreSeated s ys
  seated = record { many = many; shapes = run-shapes s es 0 ys are }

  node-same : seat (seats_of s ys) p ≡ process_node (after s es) p
  node-same = λ i. node_in ((sym shape) i) (nodes i) p

  pub named : (seat (seats_of s ys) p).process.name ≡ p
  named = ap (λ (n : Node). n.process.name) node-same ∙ core_runs.named (after s es) (has-run s es run) p
      (subst (λ (t : Dimensions). IsProcess t p) (sym shape) pin)

  module _ (zs : List NodeStanding) (answer : Answer) (after_seated : AreSeated s zs)
      (is : all_change (seat (seats_of s ys) p).dead s (nodes_of ys) p keep
      ≡ record { nodes = nodes_of zs; answer = answer; settled = [] }) where
    machine : group_step (after s es) (Fail p keep) ≡ record { nodes = nodes_of zs; answer = answer; settled = [] }
    machine = (λ i. all_change (node_in (shape i) ((sym nodes) i) p).dead (shape i) ((sym nodes) i) p keep) ∙ is

    pub said : answer ≡ answer_at s es (Fail p keep)
    said = sym (ap (λ (g : GroupStep). g.answer) machine)

    after-nodes : (after s (es ++ Fail p keep ∷ [])).nodes ≡ nodes_of zs
    after-nodes = ap (λ (v : World). v.nodes) (after-more (opening s) es (Fail p keep)) ∙ ap (λ (g : GroupStep). g.nodes) machine

    pub after-run : AreRun s (es ++ Fail p keep ∷ []) 0 zs
    after-run = all-run s (es ++ Fail p keep ∷ []) zs (sym (ap length after-nodes ∙ many-nodes zs)) after_seated.shapes (sym after-nodes)

-- what is in hand is of the run
pub hand-run : (v : View) (ys : List NodeStanding) (es : List Event) → Knows es (holding_all v ys) → AreRun v.shape es 0 ys
hand-run v ys es knows = (each-run v.shape es 0 ys [] knows.held).0

-- with all nodes in hand the call may become the event
pub can-commit : (plan : Plan) (v : View) (ys : List NodeStanding) (p : ProcessId) (keep : ℕ) → IsProcess plan.shape p
    → v.call ≡ Fail p keep → NamesAll plan v → length ys ≡ processes_of plan.shape → CanCommit plan (holding_all v ys)
can-commit plan v ys p keep pin call all many = record {
  part = all.part;
  due = all.due;
  holds = λ q low named. in-stack q 0 ys [] (omega arith) (omega (arith, low, many));
  own = λ c none. ap (ask_by c) call;
  may = λ w shape known. subst (MayCome w) (sym call) (subst (λ (t : Dimensions). IsProcess t p) (sym shape) pin);
}

-- and afterwards all nodes stand as in the run
pub after-commit : (plan : Plan) (v : View) (ys zs : List NodeStanding) (p : ProcessId) (keep : ℕ) (m w : Sat)
    (answer : Answer) → v.shape ≡ plan.shape → IsProcess plan.shape p → v.call ≡ Fail p keep → NamesAll plan v
    → length ys ≡ processes_of plan.shape → AreSeated plan.shape zs
    → all_change (seat (seats_of plan.shape ys) p).dead plan.shape (nodes_of ys) p keep ≡ record { nodes = nodes_of zs; answer = answer; settled = [] }
    → m ≡ sat_with v ys → (es : List Event) × Knows es m.0 × (w ≡ (committed es m.0, m.1)) → HasAll plan w zs
after-commit plan v ys zs p keep m w answer shape pin call all many after_seated is had (es, knows, commits) =
    let own : Knows es (holding_all v ys) = subst (λ (x : Sat). Knows es x.0) had knows in
    let run : IsRun plan.shape es = subst (λ (t : Dimensions). IsRun t es) shape own.run in
    let are : AreRun plan.shape es 0 ys = subst (λ (t : Dimensions). AreRun t es 0 ys) shape (hand-run v ys es own) in
    let next : AreRun plan.shape (es ++ Fail p keep ∷ []) 0 zs = after-run plan.shape es run p pin keep ys many are zs answer after_seated is in
    let there : AreRun v.shape (es ++ v.call ∷ []) 0 zs = subst (λ (t : Dimensions). AreRun t (es ++ v.call ∷ []) 0 zs)
    (sym shape) (subst (λ (e : Event). AreRun plan.shape (es ++ e ∷ []) 0 zs) (sym call) next) in
    let long : length ys ≡ length zs = many ∙ sym after_seated.many in
    let held = run-stack v.shape (es ++ v.call ∷ []) 0 ys zs [] [] long there refl in
    let left = same-slots 0 ys zs [] [] long refl in
    let seat : w ≡ (committed es (holding_all v ys), slots_left (hand_of ys)) = commits ∙ ap (λ (x : Sat). (committed es x.0, x.1)) had in
    subst (λ (x : Sat). HasAll plan x zs) (sym seat) (record {
      part = all.part;
      within = let size = after_seated.many in omega (arith, size);
      seat = λ i. (record (committed es (holding_all v ys)) { held = held i }, left i);
    })

pub all-failed : (plan : Plan) (v : View) (ys zs : List NodeStanding) (p : ProcessId) (keep n : ℕ) (m w x : Sat)
    (answer : Answer) → v.shape ≡ plan.shape → IsProcess plan.shape p → v.call ≡ Fail p keep
    → length ys ≡ processes_of plan.shape → AreSeated plan.shape zs
    → all_change (seat (seats_of plan.shape ys) p).dead plan.shape (nodes_of ys) p keep ≡ record { nodes = nodes_of zs; answer = answer; settled = [] }
    → m ≡ sat_with v ys → (es : List Event) × Knows es m.0 × (w ≡ (committed es m.0, m.1)) → GaveBack w x n → (es : List Event) × AllFailed v answer x es
all-failed plan v ys zs p keep n m w x answer shape pin call many after_seated is had (es, knows, commits) back =
    let own : Knows es (holding_all v ys) = subst (λ (z : Sat). Knows es z.0) had knows in
    let run : IsRun plan.shape es = subst (λ (t : Dimensions). IsRun t es) shape own.run in
    let are : AreRun plan.shape es 0 ys = subst (λ (t : Dimensions). AreRun t es 0 ys) shape (hand-run v ys es own) in (
      es,
      record {
        knows = record { run = own.run; few = own.few; held = tt; asked = own.asked; seen = own.seen; made = own.made };
        said = said plan.shape es run p pin keep ys many are zs answer after_seated is ∙ (λ i. answer_at ((sym shape) i) es ((sym call) i));
        cleared = back.cleared;
        seat = back.seat ∙ ap (λ (z : Sat). (record z.0 { held = []; cleared = z.0.cleared ++ back.cleared }, []))
            (commits ∙ ap (λ (z : Sat). (committed es z.0, z.1)) had);
      },
    )

-- the word of a further process was met held
pub one-met : (plan : Plan) (v : View) (ys : List NodeStanding) (place n : ℕ) (r : ProcessId) (m x : Sat)
    → v.shape ≡ plan.shape → r ≡ process_at plan.shape place → IsProcess plan.shape r → length ys ≡ place
    → n ≡ length ys
    → m ≡ (with_met (holding_all v ys) place, slots_left (hand_of ys)) → GaveBack m x n → OneMet v r x
one-met plan v ys place n r m x shape named pin many size had back =
    let here : index_of v.shape r ≡ place = (λ i. index_of (shape i) (named i)) ∙ index-process_at plan.shape place in
    let low : n ≡ index_of v.shape r = size ∙ many ∙ sym here in
    record {
      process = subst (λ (t : Dimensions). IsProcess t r) (sym shape) pin;
      cleared = back.cleared;
      below = subst (λ (l : ℕ). Each (λ c. c.0 < l) back.cleared) low back.below;
      seat = back.seat ∙ ap (λ (z : Sat). (record z.0 { held = []; cleared = z.0.cleared ++ back.cleared }, [])) had
          ∙ (λ i. (record (with_met v ((sym here) i)) { held = []; cleared = v.cleared ++ back.cleared }, []));
    }

-- the first node is in hand
pub can-fail : (plan : Plan) (v : View) (p : ProcessId) (keep : ℕ) (slots : List (ℕ × Option NodeStanding))
    (first : NodeStanding) (m : Sat) → IsIdle (v, slots) → v.shape ≡ plan.shape → IsProcess plan.shape p
    → (es : List Event) × InHand (begun (Fail p keep) v) 0 slots first m es → CanFail plan p keep m first
can-fail plan v p keep slots first m ready shape pin taken =
    let u : View = with_node_held (begun (Fail p keep) v) 0 first in
    let seat : m ≡ (u, (slot_of 0, None) ∷ []) = taken.1.seat ∙ (λ i. (u, (slot_of 0, None) ∷ ready.slots i)) in
    subst (λ (x : Sat). CanFail plan p keep x first) (sym seat) (record {
      process = pin;
      shape = shape;
      call = refl;
      all = record {
        part = ready.part;
        due = refl;
        named = λ q low. above (times-range q 0 (processes_of plan.shape) (omega arith) (omega (arith, low)));
      };
      seat = λ i. (record u { held = (0, first) ∷ ready.idle i }, (slot_of 0, None) ∷ []);
      knows = (taken.0, taken.1.knows);
    })
  where
    above : {n : ℕ} → n ≢ 0 → 0 < n
    above {n} some = omega (arith, some)

-- cleared words below a process's say nothing of its own
tally-below : (p : ℕ) (xs : List (ℕ × ℕ)) → Each (λ c. c.0 < p) xs → tally p xs ≡ 0
tally-below p [] below = refl
tally-below p (x ∷ xs) below =
    let rest = tally-below p xs below.1 in
    let other : x.0 ≢ p = let low = below.0 in (λ same. absurd (omega (arith, low, same))) in
    let none = tally-else p x.0 x.1 other in
    let both = tally-append p (x ∷ []) xs in
    omega (arith, rest, none, both)

-- and so the call has ended
pub failed-ended : (v : View) (p : ProcessId) (keep : ℕ) (slots : List (ℕ × Option NodeStanding)) (first : NodeStanding)
    (m w : Sat) (a : StageAnswer) → IsIdle (v, slots) → IsProcess v.shape p
    → (es : List Event) × InHand (begun (Fail p keep) v) 0 slots first m es → Failed m.0 a w → Ended (Fail p keep) v a w.0
failed-ended v p keep slots first m w a ready pin taken failed = by a (subst (λ (x : Sat). Failed x.0 a w) taken.1.seat failed) where
  by : (b : StageAnswer) → Failed (with_node_held (begun (Fail p keep) v) 0 first) b w → Ended (Fail p keep) v b w.0
  by (Made answer) (es, all) = subst (λ (x : View). Ended (Fail p keep) v (Made answer) x) (sym (ap (λ (z : Sat). z.0) all.seat)) (
    record { shape = refl; parts = refl; numbers = refl; calls = refl; idle = refl },
    (
      es,
      record {
        run = run-more v.shape es (Fail p keep) all.knows.run (subst (λ (t : Dimensions). IsProcess t p) (sym (shape-is v.shape es)) pin);
        seen = all.knows.seen;
        earlier = all.knows.made;
        position = all.knows.asked;
        answer = all.said;
        made = ap (λ (x : Answer). v.made ++ record { number = length es; event = Fail p keep; answer = x } ∷ []) (sym all.said);
        after = refl;
        met = refl;
      },
    ),
  )
  by (Busy q) met = subst (λ (x : View). Ended (Fail p keep) v (Busy q) x) (sym (ap (λ (z : Sat). z.0) met.seat)) (
    record { shape = refl; parts = refl; numbers = refl; calls = refl; idle = refl },
    record {
      named = above (times-range (index_of v.shape q) 0 (processes_of v.shape) (omega arith)
          (let low = index-below v.shape q met.process in omega (arith, low)));
      met = refl;
      cleared = let all = tally-append (index_of v.shape q) v.cleared met.cleared in let none =
          tally-below (index_of v.shape q) met.cleared met.below in omega (arith, all, none);
      made = refl;
      seen = refl;
    },
  ) where
    above : {n : ℕ} → n ≢ 0 → 0 < n
    above {n} some = omega (arith, some)
  by Worn failed = absurd failed
