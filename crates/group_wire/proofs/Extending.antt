-- Runs of the machine that become longer by one event, beside the answers that members gave.
use Rattle.std.proofs.Common.{ℕ, zero, suc, ◌≡◌, ◌≢◌, ◌≤◌, ◌+◌, ◌==◌, ◌⊎◌, inl, inr, nat_lt, Bool, false, List, [], ◌∷◌}
use Rattle.std.proofs.Common.{◌++◌, length, map, refl, sym, ap, subst, ◌∙◌, if◌then◌else◌, arith}
use Rattle.std.proofs.lemmas.Bool.{cases_eq, eq-eqb, ne_eqb}
use Rattle.std.proofs.lemmas.Grind.{common_steps}
use Rattle.std.specs.List.{range_with_len}
use Rattle.group_types.specs.Dimensions.{Dimensions}
use Rattle.group_types.specs.Lists.{at}
use Rattle.group_types.specs.Names.{IsProcess, index_of, process_at}
use Rattle.group_types.specs.declared.process.ProcessId.{ProcessId}
use Rattle.group_types.proofs.Lists.{at-put, at-put-other}
use Rattle.group_types.proofs.Names.{process_at-in}
use Rattle.membership.specs.Members.{count_dead_words, knows_dead}
use Rattle.group_message.specs.declared.update.Update.{Update}
use Rattle.group_calls.specs.Turns.{Turn, asks_in}
use Rattle.group_calls.specs.declared.event.Answer.{Answer}
use Rattle.group_calls.specs.declared.event.Event.{Event}
use Rattle.group_calls.specs.declared.event.Event.TheVariants as event
use Rattle.group_run.specs.Headline.{IsRun, IsRunFrom, MayCome}
use Rattle.group_run.specs.History.{History, history_of, no_history}
use Rattle.group_run.specs.World.{World, after, dead_nodes, node_in, opening, step, turns_of}
use Rattle.law_moves.specs.State.{lost_in, state_from}
use Rattle.law_moves.proofs.Events.{Framed, lost-nodes}
use Rattle.law_moves.proofs.Keeping.{living-unknown, members_always}
use Rattle.law_moves.proofs.Members.{Members, Stands}
use Rattle.law_moves.proofs.Runs.{framed-from, framed-opening, shape-from, world-from}
use Rattle.law_answers.proofs.Entries.{after-more, run-more, turns-more}
use Rattle.group_wire.specs.Composed.{Made}
use Rattle.group_wire.specs.Sets.{Processes, size_of}
use Rattle.group_wire.proofs.Positions.{asked_by, asks-made}

abbrev pub events_in : List Made → List Event
events_in made = map (λ x. x.event) made

pub events-more : (made : List Made) (x : Made) → events_in (made ++ x ∷ []) ≡ events_in made ++ x.event ∷ []
events-more [] x = refl
events-more (y ∷ made) x = ap (λ (es : List Event). y.event ∷ es) (events-more made x)

answers-more : (turns : List Turn) (t : Turn) → map (λ (t : Turn). t.answer) (turns ++ t ∷ []) ≡ map (λ (t : Turn). t.answer) turns ++ t.answer ∷ []
answers-more [] t = refl
answers-more (u ∷ turns) t = ap (λ (rest : List Answer). u.answer ∷ rest) (answers-more turns t)

made-more : (made : List Made) (x : Made) → map (λ x. x.answer) (made ++ x ∷ []) ≡ map (λ x. x.answer) made ++ x.answer ∷ []
made-more [] x = refl
made-more (y ∷ made) x = ap (λ (rest : List Answer). y.answer ∷ rest) (made-more made x)

-- the events that members made are a run, with the answers that they gave
pub record Makes (s : Dimensions) (made : List Made) : Type 0 where
  pub run : IsRun s (events_in made)
  pub answers : map (λ (t : Turn). t.answer) (turns_of s (events_in made)) ≡ map (λ x. x.answer) made
  pub asked : (caller : ℕ) → at 0 (after s (events_in made)).asked caller ≡ asked_by made caller

-- the group after one event more
pub after-made : (s : Dimensions) (made : List Made) (x : Made) → after s (events_in (made ++ x ∷ [])) ≡ (step (after s (events_in made)) x.event).world
after-made s made x = ap (after s) (events-more made x) ∙ after-more (opening s) (events_in made) x.event

asked-more : (w : World) (e : Event) (caller : ℕ) → at 0 (step w e).world.asked caller ≡ at 0 w.asked caller + asks_in caller e
asked-more w (event.Ask who op p) caller = by (cases_eq caller who) where
  by : (caller ≡ who) ⊎ (caller ≢ who) → at 0 (step w (event.Ask who op p)).world.asked caller ≡ at 0 w.asked caller + (if who == caller then 1 else 0)
  by (inl same) =
      let one : ◌≡◌ {A = ℕ} (if who == caller then 1 else 0) 1 = ap (λ (b : Bool). if b then 1 else 0) (eq-eqb who caller (sym same)) in
      let here : at 0 (step w (event.Ask who op p)).world.asked who ≡ suc (at 0 w.asked who) = at-put 0 0 w.asked who (suc (at 0 w.asked who)) in
      let there : at 0 (step w (event.Ask who op p)).world.asked caller ≡ at 0 (step w (event.Ask who op p)).world.asked
      who = ap (at 0 (step w (event.Ask who op p)).world.asked) same in
      let was : at 0 w.asked caller ≡ at 0 w.asked who = ap (at 0 w.asked) same in
      omega (arith, one, here, there, was)
  by (inr other) =
      let none : ◌≡◌ {A = ℕ} (if who == caller then 1 else 0) 0 = ap (λ (b : Bool). if b then 1 else 0) (ne_eqb who caller (λ same. other (sym same))) in
      let there : at 0 (step w (event.Ask who op p)).world.asked caller ≡ at 0 w.asked caller =
      at-put-other 0 w.asked who caller (suc (at 0 w.asked who)) other in
      omega (arith, none, there)
asked-more w (event.Collect who call p) caller = omega arith
asked-more w (event.Deliver x p) caller = omega arith
asked-more w (event.Fail p keep) caller = omega arith
asked-more w (event.Flush p) caller = omega arith
asked-more w (event.Trace who call d p) caller = omega arith

pub makes-more : (s : Dimensions) (made : List Made) (x : Made) → Makes s made
    → MayCome (after s (events_in made)) x.event → (step (after s (events_in made)) x.event).turn.answer ≡ x.answer
    → Makes s (made ++ x ∷ [])
makes-more s made x m may same = record {
  run = (m.run.0, subst (λ (es : List Event). IsRunFrom (opening s) es) (sym (events-more made x)) (run-more (opening s) (events_in made) x.event m.run.1 may));
  answers =
      ap (λ (es : List Event). map (λ (t : Turn). t.answer) (turns_of s es)) (events-more made x)
      ∙ ap (λ (ts : List Turn). map (λ (t : Turn). t.answer) ts) (turns-more (opening s) (events_in made) x.event)
      ∙ answers-more (turns_of s (events_in made)) (step (after s (events_in made)) x.event).turn
      ∙ ap (λ (rest : List Answer). rest ++ (step (after s (events_in made)) x.event).turn.answer ∷ []) m.answers
      ∙ ap (λ (a : Answer). map (λ x. x.answer) made ++ a ∷ []) same
      ∙ sym (made-more made x);
  asked = λ caller.
      let more = asked-more (after s (events_in made)) x.event caller in
      let old = m.asked caller in
      let new = asks-made caller made (x ∷ []) in
      let there : at 0 (after s (events_in (made ++ x ∷ []))).asked caller
      ≡ at 0 (step (after s (events_in made)) x.event).world.asked caller = ap (λ (w : World). at 0 w.asked caller)
      (after-made s made x) in
      omega (arith, more, old, new, there);
}

-- what is known of the nodes after a run
module _ (s : Dimensions) (es : List Event) (run : IsRun s es) where
  h : History
  h = history_of s es

  same-world : (history_of s es).world ≡ after s es
  same-world = world-from (no_history s) es

  pub shape-after : (after s es).shape ≡ s
  shape-after = sym (ap (λ (w : World). w.shape) same-world) ∙ shape-from (no_history s) es

  framed : Framed s (after s es).nodes (history_of s es).settled
  framed = subst (λ (w : World). Framed s w.nodes (history_of s es).settled) same-world
      (subst (λ (t : Dimensions). Framed t (history_of s es).world.nodes (history_of s es).settled)
      (shape-from (no_history s) es) (framed-from (no_history s) es (framed-opening s) run.1))

  members : Members s (state_from s (after s es).nodes (history_of s es).settled)
  members = subst (λ (w : World). Members s (state_from s w.nodes (history_of s es).settled)) same-world
      (subst (λ (t : Dimensions). Members s (state_from t (history_of s es).world.nodes (history_of s es).settled))
      (shape-from (no_history s) es) (members_always s es run))

  pub nodes-many : length (after s es).nodes ≡ s.k + s.m
  nodes-many = framed.nodes_many

  pub settled_then : List (List Update)
  settled_then = (history_of s es).settled

  -- what stands in links by who is dead and known to be
  pub stands-after : (x q : ProcessId) → IsProcess s x → IsProcess s q → x ≢ q → (node_in s (after s es).nodes q).dead ≡ false
      → Stands x (node_in s (after s es).nodes x).dead (knows_dead (node_in s (after s es).nodes q).process.known x)
      (at [] (node_in s (after s es).nodes x).links (index_of s q))
  stands-after = members.stands

  -- processes have their names
  pub named-after : (p : ProcessId) → IsProcess s p → (node_in s (after s es).nodes p).process.name ≡ p
  named-after = members.named

  -- a process that lives knows of no other that lives that it is dead
  pub unknown-after : (p q : ProcessId) → IsProcess s p → IsProcess s q → q ≢ p → (node_in s (after s es).nodes p).dead
      ≡ false → (node_in s (after s es).nodes q).dead ≡ false
      → knows_dead (node_in s (after s es).nodes p).process.known q ≡ false
  unknown-after p q pin qin other pl ql =
      living-unknown q (node_in s (after s es).nodes q).dead
      (knows_dead (node_in s (after s es).nodes p).process.known q)
      (at [] (node_in s (after s es).nodes q).links (index_of s p))
      (members.stands q p qin pin other pl) ql

  -- as many nodes are dead as have failed
  pub few-dead : (failed : Processes)
      → ((p : ProcessId) → IsProcess s p → (node_in s (after s es).nodes p).dead ≡ failed p) → size_of s failed ≤ s.m
      → dead_nodes (after s es).nodes ≤ s.m
  few-dead failed dead few =
      let lost : lost_in s (state_from s (after s es).nodes (history_of s es).settled) ≡ dead_nodes (after s es).nodes =
      lost-nodes s (after s es).nodes (history_of s es).settled framed.nodes_many in
      let same = counted (s.k + s.m) 0 (omega arith) in
      omega (arith, lost, same, few)
    where
      counted : (n a : ℕ) → a + n ≤ s.k + s.m
          → count_dead_words (map (λ x. (node_in s (after s es).nodes (process_at s x)).dead) (range_with_len a n))
          ≡ count_dead_words (map (λ x. failed (process_at s x)) (range_with_len a n))
      counted zero a within = refl
      counted (suc n) a within =
          let rest = counted n (a + 1) (omega (arith, within)) in
          let first : ◌≡◌ {A = ℕ} (if (node_in s (after s es).nodes (process_at s a)).dead then 1 else 0) (if failed (process_at s a) then 1 else 0) =
          ap (λ (b : Bool). if b then 1 else 0) (dead (process_at s a) (process_at-in s a (omega (arith, within)))) in
          omega (arith, rest, first)

  -- no node is down while at most m have failed
  pub up-after : (failed : Processes) → ((p : ProcessId) → IsProcess s p → (node_in s (after s es).nodes p).dead ≡ failed p) → size_of s failed ≤ s.m
      → (p : ProcessId) → IsProcess s p → (node_in s (after s es).nodes p).down ≡ false
  up-after failed dead few p pin = framed.down p pin ∙ below where
    below : nat_lt s.m (dead_nodes (after s es).nodes) ≡ false
    below = let most : dead_nodes (after s es).nodes ≤ s.m = few-dead failed dead few in grind (arith, common_steps)
