-- What a step on a word found, and the node in hand.
use Rattle.std.proofs.Common.{ℕ, zero, suc, ◌≡◌, ◌<◌, ◌≤◌, List, ◌∷◌, get_or, refl, sym, ap, subst, ◌∙◌, arith}
use Rattle.std.specs.Prelude.{Option, Some, None, false}
use Rattle.atomic_table.specs.Table.{rest}
use Rattle.group_types.specs.Dimensions.{Dimensions}
use Rattle.group_types.specs.Each.{Each}
use Rattle.group_types.specs.Names.{IsProcess, index_of}
use Rattle.group_types.specs.declared.process.ProcessId.{ProcessId}
use Rattle.group_calls.specs.declared.event.Event.{Event}
use Rattle.group_run.specs.Headline.{IsRun}
use Rattle.group_node.specs.Standing.{NodeStanding}
use Rattle.group_stage.specs.Conditions.{HasLast, InHand, Took}
use Rattle.group_stage.specs.Ended.{WasUp}
use Rattle.group_stage.specs.Kept.{IsAnswered}
use Rattle.group_stage.specs.Places.{slot_of, word_of, word_process}
use Rattle.group_stage.specs.Schedules.{StartsWith, standing_at}
use Rattle.group_stage.specs.Steps.{IsNodeTaken, Knows, Sat, TakesWord}
use Rattle.group_stage.specs.Views.{begun, released, with_met, with_node_held}
use Rattle.group_stage.specs.declared.view.Plan.{Plan}
use Rattle.group_stage.specs.declared.view.View.{View}
use Rattle.group_stage.proofs.Taking.{place-is}

pub free-taken : (v : View) (p : ℕ) (slots : List (ℕ × Option NodeStanding)) (found : ℕ) (w : Sat)
    → TakesWord v p slots found w → found ≤ 0 → (es : List Event) × IsNodeTaken v p slots w es
free-taken v p slots zero w takes low = takes
free-taken v p slots (suc n) w takes low = absurd (omega (arith, low))

pub met-taken : (v : View) (p : ℕ) (slots : List (ℕ × Option NodeStanding)) (found : ℕ) (w : Sat)
    → TakesWord v p slots found w → 0 < found → w ≡ (with_met v p, slots)
met-taken v p slots zero w takes low = absurd (omega (arith, low))
met-taken v p slots (suc n) w takes low = takes

-- the word is the process's
pub at-place : (v : View) (p i : ℕ) (slots : List (ℕ × Option NodeStanding)) (found : ℕ) (w : Sat) → i ≡ word_of p
    → TakesWord v (word_process i) slots found w → TakesWord v p slots found w
at-place v p i slots found w here takes = subst (λ (q : ℕ). TakesWord v q slots found w) (ap word_process here ∙ place-is p) takes

-- what the slot had is in hand
pub in-hand : (v : View) (p : ℕ) (slots : List (ℕ × Option NodeStanding)) (m : Sat) → (es : List Event)
    × IsNodeTaken v p slots m es → (slot : ℕ) → slot ≡ slot_of p → (r : Option NodeStanding) (w : Sat)
    → m.1 ≡ (slot, r) ∷ rest m.1 → w ≡ (m.0, (slot, None) ∷ rest m.1) → Took v p slots r w
in-hand v p slots m taken slot here r w had has =
    let es = taken.0 in
    let is = taken.1 in
    let y : NodeStanding = standing_at v.shape es p in
    let front : (slot, r) ∷ rest m.1 ≡ (slot_of p, Some y) ∷ slots = sym had ∙ ap (λ (x : Sat). x.1) is.seat in
    let r-is : r ≡ Some y = ap (λ (l : List (ℕ × Option NodeStanding)). (get_or l 0 (slot, r)).1) front in
    let rest-is : rest m.1 ≡ slots = ap (λ (x : Sat). rest x.1) is.seat in
    subst (λ (x : Option NodeStanding). Took v p slots x w) (sym r-is) (
      es,
      record {
        node = refl;
        knows = is.knows;
        seat = has ∙ (λ i. ((is.seat i).0, (here i, None) ∷ rest-is i));
      },
    )

pub slot-there : (v : View) (p : ℕ) (slots : List (ℕ × Option NodeStanding)) (m : Sat) → (es : List Event)
    × IsNodeTaken v p slots m es → (slot : ℕ) → slot ≡ slot_of p
    → (old : Option NodeStanding) × (m.1 ≡ (slot, old) ∷ rest m.1)
slot-there v p slots m taken slot here =
    let y : NodeStanding = standing_at v.shape taken.0 p in
    let front : m.1 ≡ (slot_of p, Some y) ∷ slots = ap (λ (x : Sat). x.1) taken.1.seat in
    (Some y, front ∙ (λ i. ((sym here) i, Some y) ∷ (sym (ap rest front)) i))

-- the node that is given back is the one that was taken last
pub given-back : (plan : Plan) (m w : Sat) (p : ℕ) (y : NodeStanding) (there : Option NodeStanding) (slot : ℕ)
    → HasLast plan m p y there → slot ≡ slot_of p → w ≡ (m.0, (slot, Some y) ∷ rest m.1) → HasLast plan w p y (Some y)
given-back plan m w p y there slot last here is =
    let F : Sat → Type 0 = λ x. HasLast plan x p y (Some y) in
    subst F (sym is) (record { part = last.part; within = last.within; held = last.held; slot = λ i. (here i, Some y) ∷ rest m.1 })

pub given : (m w x : Sat) (p i found : ℕ) (y : NodeStanding) (slot : ℕ) → w ≡ (m.0, (slot, Some y) ∷ rest m.1)
    → i ≡ word_of p → x ≡ (released w.0 (word_process i) found, rest w.1) → x ≡ (released m.0 p found, rest m.1)
given m w x p i found y slot is here has =
    has ∙ ap (λ (q : ℕ). (released w.0 q found, rest w.1)) (ap word_process here ∙ place-is p) ∙ ap (λ (z : Sat). (released z.0 p found, rest z.1)) is

-- no node was taken
pub none-took : (v : View) (p : ℕ) (slots : List (ℕ × Option NodeStanding)) (r : Option NodeStanding) (w : Sat)
    → ((x : NodeStanding) → r ≡ Some x → ⊥) → Took v p slots r w → w ≡ (with_met v p, slots)
none-took v p slots None w not took = took
none-took v p slots (Some y) w not took = absurd (not y refl)

-- the node of a process is in hand for the call of an event
pub record Holds (v : View) (e : Event) (q : ProcessId) (p : ℕ) (slots : List (ℕ × Option NodeStanding)) (y : NodeStanding) (m : Sat) : Type 0 where
  pub inside : IsProcess v.shape q
  pub here : p ≡ index_of v.shape q
  pub taken : (es : List Event) × InHand (begun e v) p slots y m es

pub holds : (plan : Plan) (v : View) (f e : Event) (q : ProcessId) (p : ℕ) (slots : List (ℕ × Option NodeStanding))
    (y : NodeStanding) (m : Sat) → v.shape ≡ plan.shape → f ≡ e
    → IsProcess plan.shape q → p ≡ index_of plan.shape q → (es : List Event) × InHand (begun f v) p slots y m es → Holds v e q p slots y m
holds plan v f e q p slots y m shape event inside here taken = record {
  inside = subst (λ (s : Dimensions). IsProcess s q) (sym shape) inside;
  here = here ∙ ap (λ (s : Dimensions). index_of s q) (sym shape);
  taken = subst (λ (x : Event). (es : List Event) × InHand (begun x v) p slots y m es) event taken;
}

-- a node that is neither down nor dead shows that its process was up
pub up-at : (v u : View) (q : ProcessId) (p : ℕ) (y : NodeStanding) (es : List Event) → u.shape ≡ v.shape
    → u.seen ≡ v.seen → u.made ≡ v.made → Knows es u → p ≡ index_of v.shape q → y ≡ standing_at v.shape es p
    → y.node.down ≡ false → y.node.dead ≡ false → WasUp v q
up-at v u q p y es shape seen made knows here is up lives =
    let stands : y ≡ standing_at v.shape es (index_of v.shape q) = is ∙ ap (standing_at v.shape es) here in (
      es,
      record {
        run = subst (λ (s : Dimensions). IsRun s es) shape knows.run;
        seen = subst (StartsWith es) seen knows.seen;
        earlier = subst (λ (s : Dimensions). Each (IsAnswered s es) v.made) shape (subst (Each (IsAnswered u.shape es)) made knows.made);
        up = ap (λ (z : NodeStanding). z.node.down) (sym stands) ∙ up;
        lives = ap (λ (z : NodeStanding). z.node.dead) (sym stands) ∙ lives;
      },
    )

pub was-up : (v : View) (e : Event) (q : ProcessId) (p : ℕ) (slots : List (ℕ × Option NodeStanding)) (y : NodeStanding)
    (m : Sat) → Holds v e q p slots y m → y.node.down ≡ false → y.node.dead ≡ false → WasUp v q
was-up v e q p slots y m held up lives =
    let es = held.taken.0 in
    up-at v (with_node_held (begun e v) p y) q p y es refl refl refl held.taken.1.knows held.here held.taken.1.node up lives
