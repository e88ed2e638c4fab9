-- Seats are gathered into one, and nodes come out of their slots.
use Rattle.std.proofs.Common.{ℕ, zero, suc, ◌≡◌, ◌≢◌, ◌<◌, ◌+◌, ⊎_elim, Bool, false, List, [], ◌∷◌, ◌++◌, length, map}
use Rattle.std.proofs.Common.{get_or, set, refl, sym, ap, subst, ◌∙◌, arith, length-append, length-set}
use Rattle.std.proofs.Common.{get_or-set_other, get_or-set_same}
use Rattle.std.specs.Prelude as std
use Rattle.std.specs.Prelude.{All, option_to_list, slice_get}
use Rattle.std.proofs.lemmas.Bool.{cases_eq}
use mathlib.Core.Option.{some, some-injective}
use lib.ListN.{get_elem?}
use Rattle.group_types.specs.Dimensions.{Dimensions, processes_of}
use Rattle.group_types.specs.Lists.{at}
use Rattle.group_types.specs.Names.{process_at}
use Rattle.group_calls.specs.declared.event.Event.{Event}
use Rattle.group_run.specs.Process.{Node}
use Rattle.group_run.specs.World.{after, opening_node}
use Rattle.group_node.specs.Standing.{NodeStanding}
use Rattle.group_core.specs.Seats.{nodes_of}
use Rattle.group_stage.specs.Closed.{HasClosed}
use Rattle.group_types.specs.Each.{Each}
use Rattle.group_stage.specs.Counts.{total}
use Rattle.group_stage.specs.Emptied.{AreTaken}
use Rattle.group_stage.specs.Kept.{IsAnswered, IsWholeSchedule, KeepsPlan}
use Rattle.group_stage.specs.Places.{slot_of}
use Rattle.group_stage.specs.Schedules.{standing_at}
use Rattle.group_stage.specs.Seated.{AreSeatsOf, IsOf, view_of}
use Rattle.group_stage.specs.Views.{joined_views, times_numbered}
use Rattle.group_stage.specs.declared.seat.Seat.{Seat}
use Rattle.group_stage.specs.declared.stage.Stage.{Stage}
use Rattle.group_stage.specs.declared.view.Plan.{Plan}
use Rattle.group_stage.specs.declared.view.View.{View}
use Rattle.group_stage.proofs.Committing.{drawn-append}
use Rattle.group_stage.proofs.Moves.{St}
use Rattle.group_core.proofs.Schedules.{many-after}
use Rattle.group_stage.proofs.Runs.{get-last, get-more}
use Rattle.group_stage.proofs.Starting.{at-home, whole}
use Rattle.group_stage.proofs.Sums.{each-snoc, total-append}

each-split : {A : Type 0} (P : A → Type 0) (l m : List A) → Each P (l ++ m) → Each P l × Each P m
each-split P [] m all = (tt, all)
each-split P (x ∷ xs) m all = let rest = each-split P xs m all.1 in ((all.0, rest.0), rest.1)

views-snoc : (xs : List Seat) (x : Seat) → map view_of (xs ++ x ∷ []) ≡ map view_of xs ++ view_of x ∷ []
views-snoc [] x = refl
views-snoc (y ∷ ys) x = ap (λ (rest : List View). view_of y ∷ rest) (views-snoc ys x)

-- all seats but the last, and the last
pub front-of : (stage : Stage) (all xs : List Seat) (x : Seat) → all ≡ xs ++ x ∷ [] → AreSeatsOf stage all → AreSeatsOf stage xs × IsOf stage x
front-of stage all xs x is of_stage = let both = each-split (IsOf stage) xs (x ∷ []) (subst (AreSeatsOf stage) is of_stage) in (both.0, both.1.0)

-- a view that is told first, told last
turned : (f : View → ℕ) (v : View) (xs : List View) → total f (xs ++ v ∷ []) ≡ total f (v ∷ xs)
turned f v xs = let more = total-append f xs (v ∷ []) in omega (arith, more)

whole-turned : (s : Dimensions) (es : List Event) (v : View) (xs : List View) → IsWholeSchedule s es (v ∷ xs) → IsWholeSchedule s es (xs ++ v ∷ [])
whole-turned s es v xs all = record {
  many = turned (λ (u : View). length u.made) v xs ∙ all.many;
  once = λ k. turned (λ (u : View). times_numbered k u.made) v xs ∙ all.once k;
  answers = each-snoc (λ (u : View). Each (IsAnswered s es) u.made) xs v all.answers.1 all.answers.0;
}

apart : (f : View → ℕ) (v w : View) (xs : List View) → f (joined_views v w) ≡ f v + f w → total f (v ∷ (xs ++ w ∷ [])) ≡ total f (joined_views v w ∷ xs)
apart f v w xs same = let more = total-append f xs (w ∷ []) in omega (arith, more, same)

whole-apart : (s : Dimensions) (es : List Event) (v w : View) (xs : List View) → IsWholeSchedule s es (joined_views v w ∷ xs)
    → IsWholeSchedule s es (v ∷ (xs ++ w ∷ []))
whole-apart s es v w xs all =
    let both = each-split (IsAnswered s es) v.made w.made all.answers.0 in
    record {
      many = apart (λ (u : View). length u.made) v w xs (length-append v.made w.made) ∙ all.many;
      once = λ k. apart (λ (u : View). times_numbered k u.made) v w xs (drawn-append k v.made w.made) ∙ all.once k;
      answers = (both.0, each-snoc (λ (u : View). Each (IsAnswered s es) u.made) xs w all.answers.1 both.1);
    }

pub first-whole : (s : Dimensions) (all xs : List Seat) (x : Seat) → all ≡ xs ++ x ∷ [] → (es : List Event)
    → IsWholeSchedule s es (view_of x ∷ map view_of xs) → IsWholeSchedule s es (map view_of all)
first-whole s all xs x is es whole =
    subst (IsWholeSchedule s es) (sym (ap (map view_of) is ∙ views-snoc xs x)) (whole-turned s es (view_of x) (map view_of xs) whole)

pub next-whole : (s : Dimensions) (v w : View) (all xs : List Seat) (x : Seat) → all ≡ xs ++ x ∷ []
    → w ≡ joined_views v (view_of x) → (es : List Event) → IsWholeSchedule s es (w ∷ map view_of xs)
    → IsWholeSchedule s es (v ∷ map view_of all)
next-whole s v w all xs x is joins es whole =
    subst (λ (us : List View). IsWholeSchedule s es (v ∷ us)) (sym (ap (map view_of) is ∙ views-snoc xs x))
    (whole-apart s es v (view_of x) (map view_of xs) (subst (λ (u : View). IsWholeSchedule s es (u ∷ map view_of xs)) joins whole))

-- a slot that has a node isn't empty
pub not-none : (xs ys : List (std.Option NodeStanding)) (slot p : ℕ) → xs ≡ ys → slot ≡ slot_of p
    → get_elem? xs slot ≡ some std.None → (y : NodeStanding) → get_elem? ys (slot_of p) ≡ some (std.Some y) → ⊥
not-none xs ys slot p same here none y there =
    let both : some std.None ≡ some (std.Some y) = sym none ∙ (λ i. get_elem? (same i) (here i)) ∙ there in
    let bad : std.None ≡ std.Some y = some-injective std.None (std.Some y) both in
    cc bad

-- two slots more are empty
pub taken-more : (p slot : ℕ) (fs : List Bool) → slot ≡ slot_of p → slot + 1 < length fs → AreTaken (slot_of p) fs
    → AreTaken (slot_of (p + 1)) (set (set fs slot false) (slot + 1) false)
taken-more p slot fs here within taken =
    let long = length-set fs slot false in
    record {
      gone = λ k low. ⊎_elim
          (λ (e : k ≡ slot + 1). ap (λ (x : ℕ). get_or (set (set fs slot false) (slot + 1) false) x false) e
          ∙ get_or-set_same (set fs slot false) (slot + 1) false false (omega (arith, long, within)))
          (λ (n : k ≢ slot + 1). get_or-set_other (set fs slot false) (slot + 1) k false false n ∙ ⊎_elim
          (λ (e : k ≡ slot). ap (λ (x : ℕ). get_or (set fs slot false) x false) e ∙ get_or-set_same fs slot false false (omega (arith, within)))
          (λ (m : k ≢ slot). get_or-set_other fs slot k false false m ∙ taken.gone k (omega (arith, low, here, n, m)))
          (cases_eq k slot))
          (cases_eq k (slot + 1));
      left = λ k high below.
          let long2 = length-set (set fs slot false) (slot + 1) false in
          get_or-set_other (set fs slot false) (slot + 1) k false false (λ e. omega (arith, e, here, high))
          ∙ get_or-set_other fs slot k false false (λ e. omega (arith, e, here, high))
          ∙ taken.left k (omega (arith, high)) (omega (arith, below, long, long2));
    }

-- one node more came out
pub nodes-more : (xs : List (std.Option NodeStanding)) (slot p : ℕ) (nodes : List NodeStanding) (y : NodeStanding)
    → slot ≡ slot_of p → length nodes ≡ p → get_elem? xs slot ≡ some (std.Some y)
    → ((q : ℕ) (z : NodeStanding) → q < p → get_elem? xs (slot_of q) ≡ some (std.Some z) → slice_get nodes q ≡ std.Some z)
    → (q : ℕ) (z : NodeStanding) → q < p + 1 → get_elem? xs (slot_of q) ≡ some (std.Some z) → slice_get (nodes ++ y ∷ []) q ≡ std.Some z
nodes-more xs slot p nodes y here many there all q z low is = ⊎_elim
    (λ (e : q ≡ p).
    let both : some (std.Some y) ≡ some (std.Some z) = sym there ∙ ap (get_elem? xs) (here ∙ ap slot_of (sym e)) ∙ is in
    let same : std.Some y ≡ std.Some z = some-injective (std.Some y) (std.Some z) both in
    ap (slice_get (nodes ++ y ∷ [])) (e ∙ sym many) ∙ get-last nodes y ∙ same)
    (λ (n : q ≢ p). get-more nodes (y ∷ []) q z (all q z (omega (arith, low, n)) is))
    (cases_eq q p)

-- nodes that stand as in the run are the run's
nodes-match : (s : Dimensions) (xs : List NodeStanding) (ns : List Node) (d : ℕ → Node) → length xs ≡ length ns
    → ((p : ℕ) → p < length xs → slice_get xs p ≡ std.Some (record { shape = s; node = at (d p) ns p }))
    → nodes_of xs ≡ ns
nodes-match s [] [] d many is = refl
nodes-match s [] (n ∷ ns) d many is = absurd (omega (arith, many))
nodes-match s (x ∷ xs) [] d many is = absurd (omega (arith, many))
nodes-match s (x ∷ xs) (n ∷ ns) d many is =
    let first : std.Some x ≡ std.Some (record { shape = s; node = n }) = is 0 (omega arith) in
    let node : x.node ≡ n = cc first in
    let rest = nodes-match s xs ns (λ p. d (suc p)) (omega (arith, many)) (λ p low. is (suc p) (omega (arith, low))) in
    (λ i. node i ∷ rest i)

shapes-match : (s : Dimensions) (xs : List NodeStanding) (f : ℕ → Node)
    → ((p : ℕ) → p < length xs → slice_get xs p ≡ std.Some (record { shape = s; node = f p }))
    → All (λ (x : NodeStanding). x.shape ≡ s) xs
shapes-match s [] f is k d low = absurd (omega (arith, low))
shapes-match s (x ∷ xs) f is zero d low =
    let first : std.Some x ≡ std.Some (record { shape = s; node = f 0 }) = is 0 low in
    cc first
shapes-match s (x ∷ xs) f is (suc k) d low = shapes-match s xs (λ p. f (suc p)) (λ p below. is (suc p) (omega (arith, below))) k d (omega (arith, low))

-- what came out are the nodes of the schedule of all seats
module _ (plan : Plan) (st : St) (o : KeepsPlan plan st) (id : ℕ) (v : View) (me : get_elem? st.views id ≡ some v)
    (all : v.parts ≡ plan.callers) (idle : v.held ≡ []) (xs : List (std.Option NodeStanding))
    (homes : (k : ℕ) (y : std.Option NodeStanding) → get_elem? st.homes k ≡ some (some y) → get_elem? xs k ≡ some y) where
  pub there : (p : ℕ) → p < processes_of plan.shape → get_elem? xs (slot_of p) ≡ some (std.Some (standing_at plan.shape o.schedule p))
  there p low = homes (slot_of p) _ (at-home plan st o id v me all idle p low)

  pub has-closed : (seats : List Seat) (nodes : List NodeStanding) → length nodes ≡ processes_of plan.shape
      → ((p : ℕ) (y : NodeStanding) → p < processes_of plan.shape → get_elem? xs (slot_of p) ≡ some (std.Some y) → slice_get nodes p ≡ std.Some y)
      → ((es : List Event) → IsWholeSchedule plan.shape es (v ∷ []) → IsWholeSchedule plan.shape es (map view_of seats)) → HasClosed plan.shape seats nodes
  has-closed seats nodes many out gathered =
      let s = plan.shape in
      let es = o.schedule in
      let each : (p : ℕ) → p < length nodes → slice_get nodes p ≡ std.Some (standing_at s es p) =
      λ p low. out p _ (omega (arith, low, many)) (there p (omega (arith, low, many))) in
      record {
        schedule = es;
        run = o.run;
        whole = gathered es (whole plan st o id v me all);
        seated = record { many = many; shapes = shapes-match s nodes (λ p. at (opening_node s (process_at s p)) (after s es).nodes p) each };
        nodes = nodes-match s nodes (after s es).nodes (λ p. opening_node s (process_at s p)) (many ∙ sym (many-after s es o.run)) each;
      }

-- one seat of the stage more
pub of-stage-more : (stage : Stage) (xs all : List Seat) (x : Seat) → all ≡ xs ++ x ∷ [] → AreSeatsOf stage xs → IsOf stage x → AreSeatsOf stage all
of-stage-more stage xs all x is of_stage last = subst (AreSeatsOf stage) (sym is) (each-snoc (IsOf stage) xs x of_stage last)

-- and one fewer
pub of-stage-fewer : (stage : Stage) (all xs : List Seat) (r : std.Option Seat) → all ≡ xs ++ option_to_list r
    → AreSeatsOf stage all → AreSeatsOf stage xs × std.IfSome r (IsOf stage)
of-stage-fewer stage all xs std.None is of_stage = ((each-split (IsOf stage) xs [] (subst (AreSeatsOf stage) is of_stage)).0, tt)
of-stage-fewer stage all xs (std.Some x) is of_stage = front-of stage all xs x is of_stage
