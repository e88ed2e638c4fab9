-- A call of one process: the node in hand treats it as the machine does, and so the call is the event.
use Rattle.std.proofs.Common.{ℕ, ◌≡◌, ◌<◌, ◌≤◌, List, [], ◌∷◌, ◌++◌, length, map, refl, sym, ap, subst, ◌∙◌, arith}
use Rattle.std.specs.Prelude.{All, Option, None, false}
use Rattle.std.proofs.lemmas.List.Elements.{All-weaker}
use Rattle.group_types.specs.Dimensions.{Dimensions, callers}
use Rattle.group_types.specs.Lists.{at, put}
use Rattle.group_types.specs.Names.{IsProcess, index_of, process_at}
use Rattle.group_types.specs.declared.process.ProcessId.{ProcessId}
use Rattle.group_types.specs.declared.process.Partition.{Partition}
use Rattle.group_types.proofs.Lists.{at-put}
use Rattle.group_types.proofs.Names.{index-below}
use Rattle.memc_table.specs.Act.{act_value}
use Rattle.memc_table.specs.Asked.{Asked}
use Rattle.group_calls.specs.declared.event.Answer.{Answer}
use Rattle.group_calls.specs.declared.event.Event.{Event}
use Rattle.group_calls.specs.declared.event.Event.TheVariants.{Ask, Collect, Flush, Trace}
use Rattle.group_run.specs.Headline.{MayCome}
use Rattle.group_run.specs.Locality.{occurrences}
use Rattle.group_run.specs.Meaning.{Lives}
use Rattle.group_run.specs.Process.{Node}
use Rattle.group_run.specs.Replica.{last_of}
use Rattle.law_answers.specs.Numbers.{NumbersAreLow}
use Rattle.law_answers.proofs.Numbers.{numbers_low_always}
use Rattle.group_run.specs.World.{GroupStep, NodeStep, World, after, ask_node, collect_node, flush_node, group_step}
use Rattle.group_run.specs.World.{names, next_name, one_changes, opening, opening_node, process_node, step, trace_node}
use Rattle.group_run.specs.World.{unchanged}
use Rattle.group_node.specs.Standing.{NodeStanding}
use Rattle.group_node.specs.Steps.{made}
use Rattle.group_node.specs.declared.node.NodeOut.{NodeOut}
use Rattle.group_stage.specs.Conditions.{CanFinish, IsIdle}
use Rattle.group_stage.specs.Ended.{Ended}
use Rattle.group_stage.specs.Places.{slot_of}
use Rattle.group_stage.specs.Schedules.{answer_at, ask_by, asked_at, standing_at}
use Rattle.group_stage.specs.Steps.{Knows, Sat}
use Rattle.group_stage.specs.Views.{asks_by, begun, committed, released, with_node_held}
use Rattle.group_stage.specs.declared.answer.StageAnswer.TheVariants.{Made}
use Rattle.group_stage.specs.declared.view.Plan.{Plan}
use Rattle.group_stage.specs.declared.view.View.{View}
use Rattle.group_stage.proofs.Hands.{Holds}
use Rattle.group_stage.proofs.Sums.{times-here}
use Rattle.law_answers.proofs.Entries.{after-more}
use Rattle.group_core.specs.Schedules.{node_after_schedule}
use Rattle.group_core.proofs.Schedules.{node-is, shape-is}
use Rattle.group_stage.proofs.Runs.{events-after, run-more}

-- an event of one process, which the caller of this view may make
pub record IsOne (s : Dimensions) (v : View) (e : Event) (p : ProcessId) : Type 0 where
  pub named : names s e ≡ index_of s p ∷ []
  pub own : (c : ℕ) → occurrences c v.numbers ≡ 0 → ask_by c e ≡ 0
  pub may : (w : World) → w.shape ≡ s → ((c : ℕ) → 0 < occurrences c v.numbers → at 0 w.asked c ≡ asks_by c v.made) → MayCome w e

-- the node treats it as the machine does, with the machine's answer
abbrev pub Treats : View → Event → ℕ → NodeStanding → NodeStanding → Answer → Type 0
Treats v e p y new a = (es : List Event) → Knows es (with_node_held (begun e v) p y)
    → (new ≡ standing_at v.shape (es ++ e ∷ []) p) × (a ≡ answer_at v.shape es e)

pub one-treated : (s : Dimensions) (es : List Event) (e : Event) (p : ProcessId) (t : NodeStep) → IsProcess s p
    → group_step (after s es) e ≡ one_changes (after s es) p t
    → (standing_at s (es ++ e ∷ []) (index_of s p) ≡ record { shape = s; node = t.node }) × (answer_at s es e ≡ t.answer)
one-treated s es e p t pin is =
    let w : World = after s es in
    let x : ℕ = index_of s p in
    let d : Node = opening_node s (process_at s x) in
    let shape = shape-is s es in
    let node : node_after_schedule s (es ++ e ∷ []) x ≡ t.node =
    ap (λ (v : World). at d v.nodes x) (after-more (opening s) es e) ∙ ap (λ (g : GroupStep). at d g.nodes x) is
    ∙ (λ i. at d (put (opening_node (shape i) p) w.nodes (index_of (shape i) p) t.node) x) ∙ at-put d (opening_node s p) w.nodes x t.node in
    (ap (λ (n : Node). record { shape = s; node = n }) node, ap (λ (g : GroupStep). g.answer) is)

-- the shape and the node in hand are those of the run
module _ (v : View) (e : Event) (p : ℕ) (q : ProcessId) (y : NodeStanding) (pin : IsProcess v.shape q) (here : p ≡ index_of v.shape q) where
  held-is : (es : List Event) → Knows es (with_node_held (begun e v) p y) → y ≡ standing_at v.shape es (index_of v.shape q)
  held-is es knows = knows.held.0 ∙ ap (standing_at v.shape es) here

  own-node : (es : List Event) → Knows es (with_node_held (begun e v) p y) → y.node ≡ process_node (after v.shape es) q
  own-node es knows = ap (λ (z : NodeStanding). z.node) (held-is es knows) ∙ node-is v.shape es q pin

  own-shape : (es : List Event) → Knows es (with_node_held (begun e v) p y) → y.shape ≡ (after v.shape es).shape
  own-shape es knows = ap (λ (z : NodeStanding). z.shape) (held-is es knows) ∙ sym (shape-is v.shape es)

  -- a step of the node by its shape, its node and the world
  pub treats : (new : NodeStanding) (a : Answer) (f : World → Dimensions → Node → NodeStep) (t : NodeStep)
      → ((w : World) → group_step w e ≡ one_changes w q (f w w.shape (process_node w q)))
      → new.shape ≡ y.shape → new.node ≡ t.node → a ≡ t.answer
      → ((es : List Event) → Knows es (with_node_held (begun e v) p y) → f (after v.shape es) y.shape y.node ≡ t) → Treats v e p y new a
  treats new a f t step same node answer is es knows =
      let w : World = after v.shape es in
      let turned : f w w.shape (process_node w q) ≡ t = (λ i. f w ((sym (own-shape es knows)) i) ((sym (own-node es knows)) i)) ∙ is es knows in
      let both = one-treated v.shape es e q t pin (step w ∙ ap (one_changes w q) turned) in
      let shape : new.shape ≡ v.shape = same ∙ ap (λ (z : NodeStanding). z.shape) (held-is es knows) in
      let stand : new ≡ record { shape = v.shape; node = t.node } = λ i. record { shape = shape i; node = node i } in
      (stand ∙ sym both.0 ∙ ap (standing_at v.shape (es ++ e ∷ [])) (sym here), answer ∙ sym both.1)

-- what is in hand can be finished
pub can-finish : (plan : Plan) (v : View) (e : Event) (p : ℕ) (q : ProcessId) (slots : List (ℕ × Option NodeStanding))
    (y new : NodeStanding) (a : Answer) (m : Sat) → IsIdle (v, slots) → v.shape ≡ plan.shape
    → Holds v e q p slots y m → IsOne v.shape v e q → Treats v e p y new a → CanFinish plan m p new
can-finish plan v e p q slots y new a m ready shape held one treats =
    let is = held.taken.1 in
    let here : p ≡ index_of plan.shape q = held.here ∙ ap (λ (s : Dimensions). index_of s q) shape in
    let pin : IsProcess plan.shape q = subst (λ (s : Dimensions). IsProcess s q) shape held.inside in
    let ones : IsOne plan.shape v e q = subst (λ (s : Dimensions). IsOne s v e q) shape one in
    let u : View = with_node_held (begun e v) p y in
    subst (λ (x : Sat). CanFinish plan x p new) (sym (is.seat ∙ (λ i. (u, (slot_of p, None) ∷ ready.slots i)))) (record {
      old = y;
      within = let low = index-below plan.shape q pin in omega (arith, low, here);
      can = record {
        part = ready.part;
        due = refl;
        holds = λ x low named.
            let at_one : occurrences x (index_of plan.shape q ∷ []) ≡ occurrences x (p ∷ []) = ap (λ (z : ℕ). occurrences x (z ∷ [])) (sym here) in
            let some_named : occurrences x (names plan.shape e) ≡ occurrences x (p ∷ []) = ap (occurrences x) ones.named ∙ at_one in
            let none_else : map (λ (h : ℕ × NodeStanding). h.0) v.held ≡ [] = ap (map (λ (h : ℕ × NodeStanding). h.0)) ready.idle in
            let all : occurrences x (p ∷ map (λ (h : ℕ × NodeStanding). h.0) v.held) ≡ occurrences x (p ∷ []) =
            ap (λ (l : List ℕ). occurrences x (p ∷ l)) none_else in
            omega (arith, named, some_named, all);
        own = ones.own;
        may = ones.may;
      };
      held = ap (λ (hs : List (ℕ × NodeStanding)). (p, y) ∷ hs) ready.idle;
      slot = refl;
      treated = λ fs knows. (treats fs knows).0;
    })

-- and is the event then
pub made-ended : (v : View) (e : Event) (p : ℕ) (q : ProcessId) (slots : List (ℕ × Option NodeStanding))
    (y new : NodeStanding) (a : Answer) (m w : Sat) → IsIdle (v, slots) → Holds v e q p slots y m
    → IsOne v.shape v e q → Treats v e p y new a
    → (fs : List Event) × Knows fs m.0 × ((found : ℕ) × (w ≡ (released (committed fs m.0) p found, []))) → Ended e v (Made a) w.0
made-ended v e p q slots y new a m w ready held one treats fin =
    let is = held.taken.1 in
    let fs = fin.0 in
    let u : View = with_node_held (begun e v) p y in
    let view : m.0 ≡ u = ap (λ (x : Sat). x.0) is.seat in
    let knows : Knows fs u = subst (Knows fs) view fin.1 in
    let after_all : w.0 ≡ released (committed fs u) p fin.2.0 = ap (λ (x : Sat). x.0) fin.2.1 ∙ ap (λ (x : View). released (committed fs x) p fin.2.0) view in
    let answer : a ≡ answer_at v.shape fs e = (treats fs knows).1 in
    subst (λ (x : View). Ended e v (Made a) x) (sym after_all) (
      record {
        shape = refl;
        parts = refl;
        numbers = refl;
        calls = refl;
        idle = ap (λ (hs : List (ℕ × NodeStanding)). map (λ (h : ℕ × NodeStanding). (h.0, standing_at v.shape (fs ++ e ∷ []) h.0)) hs) ready.idle;
      },
      (
        fs,
        record {
          run = run-more v.shape fs e knows.run (one.may (after v.shape fs) (shape-is v.shape fs) knows.asked);
          seen = knows.seen;
          earlier = knows.made;
          position = knows.asked;
          answer = answer;
          made = ap (λ (x : Answer). v.made ++ record { number = length fs; event = e; answer = x } ∷ []) (sym answer);
          after = refl;
          met = refl;
        },
      ),
    )

-- each kind of event
pub flush-one : (s : Dimensions) (v : View) (p : ProcessId) → IsProcess s p → IsOne s v (Flush p) p
flush-one s v p pin = record { named = refl; own = λ c no. refl; may = λ w shape asked. subst (λ (t : Dimensions). IsProcess t p) (sym shape) pin }

pub flush-treats : (v : View) (p : ℕ) (q : ProcessId) (y new : NodeStanding) (out : NodeOut) → IsProcess v.shape q
    → p ≡ index_of v.shape q → new.shape ≡ y.shape
    → flush_node y.shape y.node ≡ made new.node out → Treats v (Flush q) p y new out.answer
flush-treats v p q y new out pin here shape is = treats v (Flush q) p q y pin here new out.answer
    (λ w s n. flush_node s n) (made new.node out) (λ w. refl) shape refl refl (λ es knows. is)

pub collect-one : (s : Dimensions) (v : View) (caller call : ℕ) (p : ProcessId) → caller < callers → IsProcess s p → IsOne s v (Collect caller call p) p
collect-one s v caller call p low pin =
    record {
      named = refl;
      own = λ c no. refl;
      may = λ w shape asked. (low, subst (λ (t : Dimensions). IsProcess t p) (sym shape) pin);
    }

pub collect-treats : (v : View) (p caller call : ℕ) (q : ProcessId) (y new : NodeStanding) (a : Answer)
    → IsProcess v.shape q → p ≡ index_of v.shape q → new.shape ≡ y.shape
    → collect_node y.shape caller call y.node ≡ unchanged a new.node → Treats v (Collect caller call q) p y new a
collect-treats v p caller call q y new a pin here shape is =
    treats v (Collect caller call q) p q y pin here new a (λ w s n. collect_node s caller call n) (unchanged a new.node)
    (λ w. refl) shape refl refl (λ es knows. is)

-- a caller's own number
own-times : (v : View) (caller : ℕ) → v.numbers ≡ caller ∷ [] → 0 < occurrences caller v.numbers
own-times v caller own = let one = times-here caller [] in let same = ap (occurrences caller) own in omega (arith, one, same)

pub trace-one : (s : Dimensions) (v : View) (caller call : ℕ) (d : Partition) (p : ProcessId) → caller < callers
    → v.numbers ≡ caller ∷ [] → call < asks_by caller v.made → d.0 < s.k → IsProcess s p
    → IsOne s v (Trace caller call d p) p
trace-one s v caller call d p low own asked within pin = record {
  named = refl;
  own = λ c no. refl;
  may = λ w shape known. (
    low,
    (let same = known caller (own-times v caller own) in omega (arith, same, asked)),
    subst (λ (t : Dimensions). d.0 < t.k) (sym shape) within,
    subst (λ (t : Dimensions). IsProcess t p) (sym shape)
        pin,
  );
}

pub trace-treats : (v : View) (p caller call : ℕ) (d : Partition) (q : ProcessId) (y : NodeStanding) (a : Answer) → IsProcess v.shape q → p ≡ index_of v.shape q
    → trace_node y.shape caller call d.0 y.node ≡ unchanged a y.node → Treats v (Trace caller call d q) p y y a
trace-treats v p caller call d q y a pin here is =
    treats v (Trace caller call d q) p q y pin here y a (λ w s n. trace_node s caller call d.0 n) (unchanged a y.node)
    (λ w. refl) refl refl refl (λ es knows. is)

pub ask-one : (s : Dimensions) (v : View) (caller : ℕ) (op : Asked) (p : ProcessId) → caller < callers
    → v.numbers ≡ caller ∷ [] → All (λ b. b < 256) (act_value op.act) → IsProcess s p → IsOne s v (Ask caller op p) p
ask-one s v caller op p low own bytes pin = record {
  named = refl;
  own = λ c no. let same = ap (occurrences c) own in omega (arith, same, no);
  may = λ w shape asked. (low, subst (λ (t : Dimensions). IsProcess t p) (sym shape) pin, bytes);
}

pub ask-treats : (v : View) (p caller call : ℕ) (op : Asked) (q : ProcessId) (y new : NodeStanding) (out : NodeOut)
    → v.numbers ≡ caller ∷ [] → call ≡ asks_by caller v.made → IsProcess v.shape q → p ≡ index_of v.shape q
    → new.shape ≡ y.shape → ask_node y.shape (record { caller = caller; call = call }) op y.node ≡ made new.node out
    → Treats v (Ask caller op q) p y new out.answer
ask-treats v p caller call op q y new out own asked pin here shape is =
    treats v (Ask caller op q) p q y pin here new out.answer (λ w s n. ask_node s (next_name w caller) op n) (made new.node out) (λ w. refl) shape refl refl
    (λ es knows. let same : asked_at v.shape es caller ≡ call = knows.asked caller (own-times v caller own) ∙ sym asked in
    ap (λ (n : ℕ). ask_node y.shape (record { caller = caller; call = n }) op y.node) same ∙ is)

-- the numbers at the node in hand can rise
module _ (v : View) (e : Event) (p : ℕ) (q : ProcessId) (slots : List (ℕ × Option NodeStanding)) (y : NodeStanding)
    (m : Sat) (held : Holds v e q p slots y m) where
  low-is : NumbersAreLow (after v.shape held.taken.0)
  low-is = numbers_low_always v.shape held.taken.0 held.taken.1.knows.run

  node-same : y.node ≡ process_node (after v.shape held.taken.0) q
  node-same = ap (λ (z : NodeStanding). z.node) (held.taken.1.node ∙ ap (standing_at v.shape held.taken.0) held.here)
      ∙ node-is v.shape held.taken.0 q held.inside

  few : (after v.shape held.taken.0).events < 4611686018427387904
  few = let many = events-after v.shape held.taken.0 in let low = held.taken.1.knows.few in omega (arith, many, low)

  lives : y.node.dead ≡ false → Lives (after v.shape held.taken.0) q
  lives dead = (subst (λ (s : Dimensions). IsProcess s q) (sym (shape-is v.shape held.taken.0)) held.inside, ap (λ (n : Node). n.dead) (sym node-same) ∙ dead)

  pub low-updates : y.node.dead ≡ false → All (λ r. last_of r < 4611686018427387904) y.node.process.replicas
  low-updates dead = subst (λ (n : Node). All (λ r. last_of r < 4611686018427387904) n.process.replicas) (sym node-same)
      (All-weaker (λ r. last_of r ≤ (after v.shape held.taken.0).events) (λ r. last_of r < 4611686018427387904)
      (λ r low. let f = few in omega (arith, low, f)) _ (low-is.updates q (lives dead)))

  pub low-sessions : y.node.dead ≡ false → y.node.process.as_leader.last_session < 4611686018427387904
  low-sessions dead = let low = low-is.sessions q (lives dead) in let f = few in let same =
      ap (λ (n : Node). n.process.as_leader.last_session) node-same in omega (arith, low, f, same)
