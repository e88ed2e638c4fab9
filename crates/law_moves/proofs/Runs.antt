-- Runs are runs of moves, and what every move keeps holds along them.
use Rattle.std.proofs.Common.{ℕ, ◌≡◌, ◌+◌, false, nat_lt, List, [], ◌∷◌, map, refl, sym, ap, subst, ◌∙◌, arith}
use Rattle.std.proofs.lemmas.Grind.{common_steps}
use Rattle.std.proofs.lemmas.List.{length-replicate}
use Rattle.std.proofs.lemmas.List.FromFn.{length-map-range_with_len}
use Rattle.std.specs.List.{range_with_len}
use Rattle.group_types.specs.Dimensions.{Dimensions}
use Rattle.group_types.specs.Lists.{at}
use Rattle.group_types.specs.Names.{IsProcess, index_of, process_at}
use Rattle.group_types.specs.declared.process.ProcessId.{ProcessId}
use Rattle.group_types.proofs.Lists.{at-replicate}
use Rattle.group_types.proofs.Names.{process_at-index}
use Rattle.membership.specs.Members.{count_dead_words}
use Rattle.group_calls.specs.declared.event.Event.{Event}
use Rattle.group_run.specs.Headline.{IsRunFrom, MayCome}
use Rattle.group_run.specs.History.{History, history_from, history_of, no_history, prolonged}
use Rattle.group_run.specs.Process.{Node}
use Rattle.group_run.specs.World.{World, node_in, opening_node, world_after}
use Rattle.law_moves.proofs.Moves.{Keeps, Moves, RunsMove, Stays, Treated, Received, Failed}
use Rattle.law_moves.specs.State.{State, state_of, HoldsAlways}
use Rattle.law_moves.proofs.State.{Opens}
use Rattle.law_moves.proofs.Events.{Comes, FramedHistory, event_comes}
use Rattle.law_moves.proofs.Reading.{at-indices}

node-opening : (s : Dimensions) (p : ProcessId) → IsProcess s p
    → node_in s (map (λ x. opening_node s (process_at s x)) (range_with_len 0 (s.k + s.m))) p ≡ opening_node s p
node-opening s p pin = at-indices s (opening_node s p) (λ x. opening_node s (process_at s x)) p pin ∙ ap (opening_node s) (process_at-index s p pin)

none-dead : (s : Dimensions) (xs : List ℕ) → count_dead_words (map (λ (n : Node). n.dead) (map (λ x. opening_node s (process_at s x)) xs)) ≡ 0
none-dead s [] = refl
none-dead s (x ∷ xs) = let rest = none-dead s xs in omega arith

pub framed-opening : (s : Dimensions) → FramedHistory (no_history s)
framed-opening s = record {
  nodes_many = length-map-range_with_len (λ x. opening_node s (process_at s x)) 0 (s.k + s.m);
  settled_many = length-replicate s.k [];
  down = λ p pin. ap (λ (n : Node). n.down) (node-opening s p pin) ∙ sym (ap (λ (n : ℕ). nat_lt s.m n) (none-dead s (range_with_len 0 (s.k + s.m))) ∙ above);
} where
  above : nat_lt s.m 0 ≡ false
  above = grind (arith, common_steps)

opens : (s : Dimensions) → Opens s (state_of (no_history s))
opens s = record {
  process = λ p pin. ap (λ (n : Node). n.process) (node-opening s p pin);
  living = λ p pin. ap (λ (n : Node). n.dead) (node-opening s p pin);
  links = λ p q pin qin. ap (λ (n : Node). at [] n.links (index_of s q)) (node-opening s p pin) ∙ at-replicate [] (s.k + s.m) (index_of s q);
  settled = λ d. at-replicate [] s.k d;
}

-- the frame along a run
pub framed-from : (h : History) (es : List Event) → FramedHistory h → IsRunFrom h.world es → FramedHistory (history_from h es)
framed-from h [] framed run = framed
framed-from h (e ∷ es) framed run = framed-from (prolonged h e) es (event_comes h e framed run.0).frame run.1

-- the group of a history is that of the run
pub world-from : (h : History) (es : List Event) → (history_from h es).world ≡ world_after h.world es
world-from h [] = refl
world-from h (e ∷ es) = world-from (prolonged h e) es

pub shape-from : (h : History) (es : List Event) → (history_from h es).world.shape ≡ h.world.shape
shape-from h [] = refl
shape-from h (e ∷ es) = shape-from (prolonged h e) es

pub runs_move : RunsMove
runs_move s = record {
  opens = opens s;
  moves = λ es e run may.
      let h : History = history_of s es in
      let may_come : MayCome h.world e = subst (λ (w : World). MayCome w e) (sym (world-from (no_history s) es)) may in
      let move : Moves h.world.shape (state_of h) (state_of (prolonged h e)) =
      (event_comes h e (framed-from (no_history s) es (framed-opening s) run.1) may_come).move in
      subst (λ (t : Dimensions). Moves t (state_of h) (state_of (prolonged h e))) (shape-from (no_history s) es) move;
}

module _ (s : Dimensions) (P : State → Type 0) (keeps : Keeps s P) where
  -- a move keeps the sentence
  kept : (v w : State) → Moves s v w → P v → P w
  kept v w (Stays same) holds = subst P (sym same) holds
  kept v w (Treated p t pin up lives treats acts) holds = keeps.treats v w p t pin up lives treats holds acts
  kept v w (Received u x p m xin pin apart up lives pops acts) holds = keeps.receives v u w x p m xin pin apart up lives holds pops acts
  kept v w (Failed p keep pin dies) holds = keeps.dies v w p keep pin holds dies

  kept-from : (h : History) (es : List Event) → h.world.shape ≡ s → FramedHistory h → IsRunFrom h.world es → P (state_of h) → P (state_of (history_from h es))
  kept-from h [] shape framed run holds = holds
  kept-from h (e ∷ es) shape framed run holds =
      let comes : Comes h.world.shape h.world.nodes h.settled framed (prolonged h e).world.nodes (prolonged h e).settled = event_comes h e framed run.0 in
      let move : Moves s (state_of h) (state_of (prolonged h e)) =
      subst (λ (t : Dimensions). Moves t (state_of h) (state_of (prolonged h e))) shape comes.move in
      kept-from (prolonged h e) es shape comes.frame run.1 (kept (state_of h) (state_of (prolonged h e)) move holds)

  -- a sentence that every move keeps holds along every run
  pub holds_always : HoldsAlways s P
  holds_always es run = kept-from (no_history s) es refl (framed-opening s) run.1 (keeps.opens (state_of (no_history s)) (opens s))
