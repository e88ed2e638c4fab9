-- Moves of which the first were made, and what the failure of a node logs.
use Rattle.std.proofs.Common.{ℕ, ◌≡◌, ◌≢◌, ◌<◌, ◌≤◌, ◌+◌, ◌-◌, suc, Bool, true, false, List, [], ◌∷◌, ◌++◌, length}
use Rattle.std.proofs.Common.{take, Option, Some, None, refl, sym, ap, subst, ◌∙◌, arith}
use Rattle.std.proofs.Math.Seq.{take-append_seam}
use Rattle.std.proofs.lemmas.List.{append-nil, append_assoc}
use Rattle.std.specs.List.{range_with_len}
use Rattle.group_types.specs.Dimensions.{Dimensions}
use Rattle.group_types.specs.Names.{process_at}
use Rattle.group_types.proofs.Lists.{length-put}
use Rattle.group_types.specs.declared.process.ProcessId.{ProcessId}
use Rattle.group_calls.specs.declared.entry.Entry.{Entry}
use Rattle.group_calls.specs.declared.event.Event.TheVariants.{Fail}
use Rattle.group_run.specs.Applying.{Settlement}
use Rattle.group_run.specs.World.{Ledger, Ticket, World, all_change, ledger_after, ledger_with, opening, process_node, step, tickets_after}
use Rattle.group_layout.specs.Cluster.{ClusterEntry, Groups, MayAllMove, Move, all_moved, failure_of, failures}
use Rattle.group_layout.specs.Cluster.{logged_in, moved, tagged, turn_of, turns_made, world_in}
use Rattle.group_layout.specs.Layout.{process_on}
use Rattle.group_layout.proofs.Happening.{moved-append}
use Rattle.group_layout.proofs.Moves.{other-world}
use Rattle.group_cluster.specs.Begun.{Begun}

-- nothing that is settled logs nothing
nothing-new : (tickets : List Ticket) (ds : List ℕ) (ledger : Ledger) → ledger.logged ≡ [] → (ledger_after tickets [] ds ledger).logged ≡ []
nothing-new tickets [] ledger none = none
nothing-new tickets (d ∷ ds) ledger none = nothing-new tickets ds (ledger_with tickets d [] ledger) none

pub fails-silently : (w : World) (p : ProcessId) (keep : ℕ) → (step w (Fail p keep)).turn.logged ≡ []
fails-silently w p keep = by (process_node w p).dead where
  settles : Bool → List Settlement
  settles dead = (all_change dead w.shape w.nodes p keep).settled

  tickets : Bool → List Ticket
  tickets dead = tickets_after (length w.log) None (all_change dead w.shape w.nodes p keep).answer w.tickets

  logs : Bool → List Entry
  logs dead = (ledger_after (tickets dead) (settles dead) (range_with_len 0 w.shape.k) (record { logged = []; places = w.places })).logged

  by : (dead : Bool) → logs dead ≡ []
  by true = nothing-new (tickets true) (range_with_len 0 w.shape.k) (record { logged = []; places = w.places }) refl
  by false = nothing-new (tickets false) (range_with_len 0 w.shape.k) (record { logged = []; places = w.places }) refl

-- so do the failures of a node
failure-silent : (s : Dimensions) (g : Groups) (keep j : ℕ) (q : Option ℕ) → logged_in (turns_made g (failure_of s keep j q)) ≡ []
failure-silent s g keep j None = refl
failure-silent s g keep j (Some x) = ap (λ (es : List Entry). tagged j es ++ []) (fails-silently (world_in g j) (process_at s x) keep)

silent-then : (g : Groups) (ms ns : List Move) → logged_in (turns_made g ms) ≡ []
    → logged_in (turns_made (all_moved g ms) ns) ≡ [] → logged_in (turns_made g (ms ++ ns)) ≡ []
silent-then g [] ns first rest = rest
silent-then g (m ∷ ms) ns first rest = joined (tagged m.group (turn_of g m).logged)
    (logged_in (turns_made (moved g m) ms)) first (λ more. silent-then (moved g m) ms ns more rest) where
      joined : (xs ys : List ClusterEntry) → xs ++ ys ≡ [] → (ys ≡ [] → logged_in (turns_made (moved g m) (ms ++ ns)) ≡ [])
          → xs ++ logged_in (turns_made (moved g m) (ms ++ ns)) ≡ []
      joined [] ys none on = on none
      joined (x ∷ xs) ys none on = absurd (cc none)

pub failures-silent : (s : Dimensions) (g : Groups) (n node keep : ℕ) (js : List ℕ) → logged_in (turns_made g (failures s n node keep js)) ≡ []
failures-silent s g n node keep [] = refl
failures-silent s g n node keep (j ∷ js) =
    let here : List Move = failure_of s keep j (process_on n (s.k + s.m) node j) in
    silent-then g here (failures s n node keep js) (failure-silent s g keep j (process_on n (s.k + s.m) node j))
    (failures-silent s (all_moved g here) n node keep js)

-- the failure of one group's process leaves the others
pub others-stay : (s : Dimensions) (g : Groups) (keep i j : ℕ) (q : Option ℕ) → i ≢ j → world_in (all_moved g (failure_of s keep i q)) j ≡ world_in g j
others-stay s g keep i j None apart = refl
others-stay s g keep i j (Some x) apart = other-world g (record { group = i; event = Fail (process_at s x) keep }) j apart

-- moves that may come: the first, and then the others
pub may-first : (g : Groups) (ms ns : List Move) → MayAllMove g (ms ++ ns) → MayAllMove g ms
may-first g [] ns may = tt
may-first g (m ∷ ms) ns may = (may.0, may-first (moved g m) ms ns may.1)

pub may-rest : (g : Groups) (ms ns : List Move) → MayAllMove g (ms ++ ns) → MayAllMove (all_moved g ms) ns
may-rest g [] ns may = may
may-rest g (m ∷ ms) ns may = may-rest (moved g m) ms ns may.1

-- groups keep their shape and their number
pub shape-stays : (g : Groups) (ms : List Move) → (all_moved g ms).shape ≡ g.shape
shape-stays g [] = refl
shape-stays g (m ∷ ms) = shape-stays (moved g m) ms

pub many-stay : (g : Groups) (ms : List Move) → MayAllMove g ms → length (all_moved g ms).worlds ≡ length g.worlds
many-stay g [] may = refl
many-stay g (m ∷ ms) may = many-stay (moved g m) ms may.1 ∙ length-put (opening g.shape) g.worlds m.group (step (world_in g m.group) m.event).world may.0.0

-- the first of moves, by their number
pub first-moves : (made left : List Move) → take (length made) (made ++ left) ≡ made
first-moves made left = take-append_seam made left

-- once the first of some moves are made, those of the others are left
pub begun-on : (g h : Groups) (moves here rest : List Move) (first : List Move) → moves ≡ first ++ (here ++ rest) → h ≡ all_moved g first
    → (moves ≡ (first ++ here) ++ rest) × (all_moved h here ≡ all_moved g (first ++ here))
begun-on g h moves here rest first whole is =
    (whole ∙ sym (append_assoc first here rest), ap (λ (v : Groups). all_moved v here) is ∙ sym (moved-append g first here))

-- the failures of a node's processes in groups below j are made, and the groups from j on are as they were
pub record Started (g h : Groups) (n node keep count j : ℕ) : Type 0 where
  pub made : List Move
  pub whole : failures g.shape n node keep (range_with_len 0 count) ≡ made ++ failures g.shape n node keep (range_with_len j (count - j))
  pub is : h ≡ all_moved g made
  pub behind : (i : ℕ) → j ≤ i → world_in h i ≡ world_in g i

pub not-started : (g : Groups) (n node keep count : ℕ) → Started g g n node keep count 0
not-started g n node keep count =
    let same : count ≡ count - 0 = omega arith in
    record { made = []; whole = ap (λ (m : ℕ). failures g.shape n node keep (range_with_len 0 m)) same; is = refl; behind = λ i le. refl }

module _ (g h : Groups) (n node keep count j : ℕ) (was : Started g h n node keep count j) where
  abbrev here-in : Dimensions → List Move
  here-in s = failure_of s keep j (process_on n (s.k + s.m) node j)

  abbrev here : List Move
  here = here-in g.shape

  abbrev rest : List Move
  rest = failures g.shape n node keep (range_with_len (j + 1) (count - (j + 1)))

  pub same-shape : h.shape ≡ g.shape
  same-shape = ap (λ (v : Groups). v.shape) was.is ∙ shape-stays g was.made

  parts : j < count → failures g.shape n node keep (range_with_len 0 count) ≡ was.made ++ (here ++ rest)
  parts low =
      let more : count - j ≡ suc (count - (j + 1)) = omega (arith, low) in
      was.whole ∙ ap (λ (m : ℕ). was.made ++ failures g.shape n node keep (range_with_len j m)) more

  pub next-started : (v : Groups) → j < count → v ≡ all_moved h (here-in h.shape) → Started g v n node keep count (j + 1)
  next-started v low is =
      let on = begun-on g h (failures g.shape n node keep (range_with_len 0 count)) here rest was.made (parts low) was.is in
      let made : v ≡ all_moved h here = is ∙ ap (λ (s : Dimensions). all_moved h (here-in s)) same-shape in
      record {
        made = was.made ++ here;
        whole = on.0;
        is = made ∙ on.1;
        behind = λ i le. ap (λ (x : Groups). world_in x i) made
            ∙ others-stay g.shape h keep j i (process_on n (g.shape.k + g.shape.m) node j) (λ same. omega (arith, same, le))
            ∙ was.behind i (omega (arith, le));
      }

  pub cut-there : (v : Groups) → v ≡ h → Begun g (failures g.shape n node keep (range_with_len 0 count)) v
  cut-there v same = record { made = was.made; left = failures g.shape n node keep (range_with_len j (count - j)); whole = was.whole; is = same ∙ was.is }

  pub all-made : count ≤ j → h ≡ all_moved g (failures g.shape n node keep (range_with_len 0 count))
  all-made done =
      let none : count - j ≡ 0 = omega (arith, done) in
      was.is ∙ ap (all_moved g) (sym (was.whole ∙ ap (λ (m : ℕ). was.made ++ failures g.shape n node keep (range_with_len j m)) none ∙ append-nil was.made))

  module _ (may : MayAllMove g (failures g.shape n node keep (range_with_len 0 count))) where
    pub same-many : length h.worlds ≡ length g.worlds
    same-many =
        ap (λ (v : Groups). length v.worlds) was.is
        ∙ many-stay g was.made (may-first g was.made (failures g.shape n node keep (range_with_len j (count - j))) (subst (MayAllMove g) was.whole may))

    pub may-here : j < count → MayAllMove h (here-in h.shape)
    may-here low =
        subst (λ (s : Dimensions). MayAllMove h (here-in s)) (sym same-shape)
        (may-first h here rest (subst (λ (v : Groups). MayAllMove v (here ++ rest)) (sym was.is)
        (may-rest g was.made (here ++ rest) (subst (MayAllMove g) (parts low) may))))
