-- Moves of groups, seen by one group.
use Rattle.std.proofs.Common.{ℕ, ◌≡◌, ◌≢◌, ◌==◌, Bool, true, false, List, [], ◌∷◌, ◌++◌, ◌⊎◌, inl, inr, refl, sym, ap, subst, ◌∙◌}
use Rattle.std.proofs.lemmas.Bool.{cases_eq, eq-eqb, ne_eqb}
use Rattle.std.proofs.lemmas.List.{append_assoc, append-nil}
use Rattle.group_types.proofs.Lists.{at-put, at-put-other}
use Rattle.group_calls.specs.Turns.{log_of}
use Rattle.group_calls.specs.declared.entry.Entry.{Entry}
use Rattle.group_run.specs.Headline.{IsRunFrom, MayCome}
use Rattle.group_run.specs.World.{World, front_if, opening, step, turns_from, world_after}
use Rattle.group_layout.specs.Cluster.{ClusterEntry, GroupTurn, Groups, MayAllMove, Move, all_moved, logged_in, moved, tagged, turn_of, turns_made, world_in}
use Rattle.group_layout.specs.Promise.{entries_in, events_in}
use Rattle.group_layout.specs.Within.{turns_in}

-- whether a move is of a group
abbrev pub IsOrNot : ℕ → ℕ → Type 0
IsOrNot i j = (((i == j) ≡ true) × (i ≡ j)) ⊎ (((i == j) ≡ false) × (i ≢ j))

pub is-or-not : (i j : ℕ) → IsOrNot i j
is-or-not i j = by (cases_eq i j) where
  by : (i ≡ j) ⊎ (i ≢ j) → IsOrNot i j
  by (inl is) = inl (eq-eqb i j is, is)
  by (inr other) = inr (ne_eqb i j other, other)

-- the group that a move is of, and the others
pub own-world : (g : Groups) (m : Move) (j : ℕ) → m.group ≡ j → world_in (moved g m) j ≡ (step (world_in g j) m.event).world
own-world g m j is =
    ap (world_in (moved g m)) (sym is)
    ∙ at-put (opening g.shape) (opening g.shape) g.worlds m.group (step (world_in g m.group) m.event).world
    ∙ ap (λ (i : ℕ). (step (world_in g i) m.event).world) is

pub other-world : (g : Groups) (m : Move) (j : ℕ) → m.group ≢ j → world_in (moved g m) j ≡ world_in g j
other-world g m j other = at-put-other (opening g.shape) g.worlds m.group j (step (world_in g m.group) m.event).world (λ same. other (sym same))

pub world-moved : (g : Groups) (ms : List Move) (j : ℕ) → world_in (all_moved g ms) j ≡ world_after (world_in g j) (events_in j ms)
world-moved g [] j = refl
world-moved g (m ∷ ms) j = world-moved (moved g m) ms j ∙ by (is-or-not m.group j) where
  by : IsOrNot m.group j → world_after (world_in (moved g m) j) (events_in j ms) ≡ world_after (world_in g j) (front_if (m.group == j) m.event (events_in j ms))
  by (inl (word, is)) =
      ap (λ (w : World). world_after w (events_in j ms)) (own-world g m j is)
      ∙ ap (λ (b : Bool). world_after (world_in g j) (front_if b m.event (events_in j ms))) (sym word)
  by (inr (word, other)) =
      ap (λ (w : World). world_after w (events_in j ms)) (other-world g m j other)
      ∙ ap (λ (b : Bool). world_after (world_in g j) (front_if b m.event (events_in j ms))) (sym word)

pub run-moved : (g : Groups) (ms : List Move) (j : ℕ) → MayAllMove g ms → IsRunFrom (world_in g j) (events_in j ms)
run-moved g [] j may = tt
run-moved g (m ∷ ms) j may = by (run-moved (moved g m) ms j may.1) (is-or-not m.group j) where
  by : IsRunFrom (world_in (moved g m) j) (events_in j ms) → IsOrNot m.group j → IsRunFrom (world_in g j) (front_if (m.group == j) m.event (events_in j ms))
  by rest (inl (word, is)) =
      let comes : MayCome (world_in g j) m.event = subst (λ (i : ℕ). MayCome (world_in g i) m.event) is may.0.1 in
      let on : IsRunFrom (step (world_in g j) m.event).world (events_in j ms) = subst (λ (w : World). IsRunFrom w (events_in j ms)) (own-world g m j is) rest in
      subst (λ (b : Bool). IsRunFrom (world_in g j) (front_if b m.event (events_in j ms))) (sym word) (comes, on)
  by rest (inr (word, other)) =
      subst (λ (b : Bool). IsRunFrom (world_in g j) (front_if b m.event (events_in j ms))) (sym word)
      (subst (λ (w : World). IsRunFrom w (events_in j ms)) (other-world g m j other) rest)

pub turns-moved : (g : Groups) (ms : List Move) (j : ℕ) → turns_in j (turns_made g ms) ≡ turns_from (world_in g j) (events_in j ms)
turns-moved g [] j = refl
turns-moved g (m ∷ ms) j = ap (front_if (m.group == j) (turn_of g m)) (turns-moved (moved g m) ms j) ∙ by (is-or-not m.group j) where
  by : IsOrNot m.group j → front_if (m.group == j) (turn_of g m) (turns_from (world_in (moved g m) j) (events_in j ms))
      ≡ turns_from (world_in g j) (front_if (m.group == j) m.event (events_in j ms))
  by (inl (word, is)) =
      ap (λ (b : Bool). front_if b (turn_of g m) (turns_from (world_in (moved g m) j) (events_in j ms))) word
      ∙ ap (λ (w : World). turn_of g m ∷ turns_from w (events_in j ms)) (own-world g m j is)
      ∙ ap (λ (i : ℕ). (step (world_in g i) m.event).turn ∷ turns_from (step (world_in g j) m.event).world (events_in j ms)) is
      ∙ ap (λ (b : Bool). turns_from (world_in g j) (front_if b m.event (events_in j ms))) (sym word)
  by (inr (word, other)) =
      ap (λ (b : Bool). front_if b (turn_of g m) (turns_from (world_in (moved g m) j) (events_in j ms))) word
      ∙ ap (λ (w : World). turns_from w (events_in j ms)) (other-world g m j other)
      ∙ ap (λ (b : Bool). turns_from (world_in g j) (front_if b m.event (events_in j ms))) (sym word)

-- the log has what the turns logged
pub log-moved : (g : Groups) (ms : List Move) → (all_moved g ms).log ≡ g.log ++ logged_in (turns_made g ms)
log-moved g [] = sym (append-nil g.log)
log-moved g (m ∷ ms) =
    log-moved (moved g m) ms
    ∙ append_assoc g.log (tagged m.group (turn_of g m).logged) (logged_in (turns_made (moved g m) ms))

-- the entries of a group among those that turns logged
own-entries : (i j : ℕ) (es : List Entry) (rest : List ClusterEntry) → (i == j) ≡ true → entries_in j (tagged i es ++ rest) ≡ es ++ entries_in j rest
own-entries i j [] rest word = refl
own-entries i j (e ∷ es) rest word =
    ap (λ (b : Bool). front_if b e (entries_in j (tagged i es ++ rest))) word ∙ ap (λ (more : List Entry). e ∷ more) (own-entries i j es rest word)

other-entries : (i j : ℕ) (es : List Entry) (rest : List ClusterEntry) → (i == j) ≡ false → entries_in j (tagged i es ++ rest) ≡ entries_in j rest
other-entries i j [] rest word = refl
other-entries i j (e ∷ es) rest word =
    ap (λ (b : Bool). front_if b e (entries_in j (tagged i es ++ rest))) word ∙ other-entries i j es rest word

pub entries-logged : (j : ℕ) (ts : List GroupTurn) → entries_in j (logged_in ts) ≡ log_of (turns_in j ts)
entries-logged j [] = refl
entries-logged j (t ∷ ts) = by (entries-logged j ts) (is-or-not t.group j) where
  by : entries_in j (logged_in ts) ≡ log_of (turns_in j ts) → IsOrNot t.group j
      → entries_in j (tagged t.group t.turn.logged ++ logged_in ts)
      ≡ log_of (front_if (t.group == j) t.turn (turns_in j ts))
  by rest (inl (word, is)) =
      own-entries t.group j t.turn.logged (logged_in ts) word
      ∙ ap (λ (more : List Entry). t.turn.logged ++ more) rest
      ∙ ap (λ (b : Bool). log_of (front_if b t.turn (turns_in j ts))) (sym word)
  by rest (inr (word, other)) =
      other-entries t.group j t.turn.logged (logged_in ts) word
      ∙ rest
      ∙ ap (λ (b : Bool). log_of (front_if b t.turn (turns_in j ts))) (sym word)
