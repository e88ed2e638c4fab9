-- The cause of each answer to a trace.
use Rattle.std.proofs.Common.{ℕ, zero, suc, ◌≡◌, ◌≢◌, ◌<◌, ◌≤◌, ◌+◌, nat_lt, Bool, true, false, not, ◌==◌, ◌&&◌, ◌||◌}
use Rattle.std.proofs.Common.{if◌then◌else◌, ◌∷◌, Option, Some, None, ◌⊎◌, inl, inr, refl, sym, ap, subst, ◌∙◌, arith}
use Rattle.std.proofs.lemmas.Bool.{cases_eq}
use Rattle.std.proofs.lemmas.Grind.{common_steps}
use Rattle.std.specs.Prelude.{filter, is_some, option_map}
use Rattle.std.specs.List.{list_all, range_with_len}
use Rattle.group_types.specs.Dimensions.{Dimensions}
use Rattle.group_types.specs.Lists.{at}
use Rattle.group_types.specs.Names.{same_process}
use Rattle.group_types.specs.declared.process.ProcessId.{ProcessId}
use Rattle.group_types.specs.declared.process.ProcessId.TheVariants.{ParityNode}
use Rattle.group_types.proofs.Names.{same-ne, same-refl}
use Rattle.membership.specs.Members.{knows_dead}
use Rattle.group_message.specs.declared.kept.Kept.{Kept}
use Rattle.group_calls.specs.declared.event.Answer.TheVariants as says
use Rattle.group_run.specs.Applying.{head_at, replica_of}
use Rattle.group_run.specs.Asking.{fate_from, fate_of, fate_unless, gone_or, is_adopted, is_in_log, reply_from}
use Rattle.group_run.specs.Causes.{IsAdopted, IsOpen, IsReady, IsUp, TraceCause, kept_at}
use Rattle.group_run.specs.Heading.{other_parities}
use Rattle.group_run.specs.History.{History, history_of, no_history}
use Rattle.group_run.specs.Meaning.{process_of}
use Rattle.group_run.specs.Process.{Head}
use Rattle.group_run.specs.World.{World, if_up, process_node, unchanged}
use Rattle.law_moves.specs.State.{state_of}
use Rattle.law_moves.proofs.Events.{FramedHistory}
use Rattle.law_moves.proofs.Runs.{framed-from, framed-opening, shape-from, world-from}
use Rattle.law_moves.proofs.Members.{Members, seat_of}
use Rattle.law_moves.proofs.Calls.{seat-head}
use Rattle.law_moves.proofs.Keeping.{members_always}
use Rattle.law_answers.specs.Laws.{TracesAlways, TracesHaveCauses}
use Rattle.law_moves.proofs.Aways.{ready-from, seat-from-ready}
use Rattle.law_moves.proofs.Notices.{both}
use Rattle.law_answers.proofs.Walks.{is-down, is-up, not-down}

-- a test that all members pass that another one lets through
every-other : (f g : ℕ → Bool) (n a i : ℕ) → a ≤ i → i < a + n → g i ≡ true → list_all f (filter g (range_with_len a n)) ≡ true → f i ≡ true
every-other f g zero a i low high lets all = absurd (omega (arith, low, high))
every-other f g (suc n) a i low high lets all =
    by (g a) refl all (cases_eq i a) (λ later. every-other f g n (a + 1) i (omega (arith, later)) (omega (arith, high))
    lets) where
      by : (b : Bool) → g a ≡ b
          → list_all f (if b then a ∷ filter g (range_with_len (a + 1) n) else filter g (range_with_len (a + 1) n))
          ≡ true → (i ≡ a) ⊎ (i ≢ a)
          → (a < i → list_all f (filter g (range_with_len (a + 1) n)) ≡ true → f i ≡ true) → f i ≡ true
      by true test all (inl same) later = ap f same ∙ (both (f a) (list_all f (filter g (range_with_len (a + 1) n))) all).0
      by true test all (inr other) later = later (omega (arith, low, other)) (both (f a) (list_all f (filter g (range_with_len (a + 1) n))) all).1
      by false test all (inl same) later = absurd (let lets_it : g a ≡ true = ap g (sym same) ∙ lets in cc (lets_it, test))
      by false test all (inr other) later = later (omega (arith, low, other)) all

all-others : (f g : ℕ → Bool) (n a : ℕ) → ((i : ℕ) → a ≤ i → i < a + n → g i ≡ true → f i ≡ true) → list_all f (filter g (range_with_len a n)) ≡ true
all-others f g zero a each = refl
all-others f g (suc n) a each = by (g a) refl (all-others f g n (a + 1) (λ i low high. each i (omega (arith, low)) (omega (arith, high)))) where
  by : (b : Bool) → g a ≡ b → list_all f (filter g (range_with_len (a + 1) n)) ≡ true
      → list_all f (if b then a ∷ filter g (range_with_len (a + 1) n) else filter g (range_with_len (a + 1) n)) ≡ true
  by true test rest = ap (λ (b : Bool). b && list_all f (filter g (range_with_len (a + 1) n))) (each a (omega arith) (omega arith) test) ∙ rest
  by false test rest = rest

module _ (w : World) (p : ProcessId) (name : (process_of w p).name ≡ p) (h : Head) where
  abbrev pub lets : ℕ → Bool
  lets i = not (same_process (process_of w p).name (ParityNode i)) && not (knows_dead (process_of w p).known (ParityNode i))

  lets-it : (i : ℕ) → ParityNode i ≢ p → knows_dead (process_of w p).known (ParityNode i) ≡ false → lets i ≡ true
  lets-it i other living =
      ap (λ (b : Bool). not b && not (knows_dead (process_of w p).known (ParityNode i)))
      (same-ne (process_of w p).name (ParityNode i) (λ same. other (sym same ∙ name)))
      ∙ ap not living

  pub lets-is : (i : ℕ) → lets i ≡ true → (ParityNode i ≢ p) × (knows_dead (process_of w p).known (ParityNode i) ≡ false)
  lets-is i let_it = by (same_process (process_of w p).name (ParityNode i)) refl (knows_dead (process_of w p).known (ParityNode i)) refl let_it where
    by : (a : Bool) → same_process (process_of w p).name (ParityNode i) ≡ a → (b : Bool) → knows_dead (process_of w p).known (ParityNode i) ≡ b
        → (not a && not b) ≡ true → (ParityNode i ≢ p) × (knows_dead (process_of w p).known (ParityNode i) ≡ false)
    by true same b is e = absurd (cc e)
    by false same true is e = absurd (cc e)
    by false same false is e = (
      (λ equal. let yes : same_process (process_of w p).name (ParityNode i)
          ≡ true = ap (λ (z : ProcessId). same_process z (ParityNode i)) (name ∙ sym equal) ∙ same-refl (ParityNode i) in
          cc (yes, same)),
      is,
    )

  some-it : (o : Option ℕ) → is_some o ≡ true → o ≢ None
  some-it None is none = cc is
  some-it (Some n) is none = cc none

  is-some-it : (o : Option ℕ) → o ≢ None → is_some o ≡ true
  is-some-it None some = absurd (some refl)
  is-some-it (Some n) some = refl

  adopted-from : is_adopted w.shape (process_of w p) h ≡ true → IsAdopted w p h
  adopted-from is = by (h.rank == 0) refl is where
    by : (b : Bool) → (h.rank == 0) ≡ b
        → (b || list_all (λ i. is_some (at None h.acks i))
        (other_parities w.shape.m (process_of w p).name (process_of w p).known)) ≡ true → IsAdopted w p h
    by true first all = inl (grind (arith, common_steps))
    by false first all =
        inr (λ i low other living. some-it (at None h.acks i)
        (every-other (λ j. is_some (at None h.acks j)) lets w.shape.m 0 i (omega arith) (omega (arith, low))
        (lets-it i other living) all))

  adopted-is : IsAdopted w p h → is_adopted w.shape (process_of w p) h ≡ true
  adopted-is (inl first) =
      let test : (h.rank == 0) ≡ true = grind (arith, common_steps) in
      ap (λ (b : Bool). b || list_all (λ i. is_some (at None h.acks i)) (other_parities w.shape.m (process_of w p).name (process_of w p).known)) test
  adopted-is (inr acked) = either (h.rank == 0) where
    all : list_all (λ i. is_some (at None h.acks i)) (other_parities w.shape.m (process_of w p).name (process_of w p).known) ≡ true
    all =
        all-others (λ j. is_some (at None h.acks j)) lets w.shape.m 0
        (λ i low high let_it. let both = lets-is i let_it in is-some-it (at None h.acks i) (acked i (omega (arith, high)) both.0 both.1))

    either : (b : Bool) → (b || list_all (λ i. is_some (at None h.acks i)) (other_parities w.shape.m (process_of w p).name (process_of w p).known)) ≡ true
    either true = refl
    either false = all

module _ (w : World) (p : ProcessId) (name : (process_of w p).name ≡ p) (caller call d : ℕ) (h : Head)
    (heads : head_at (process_of w p) d ≡ Some h) (up : IsUp w p) (ready : IsReady w p d) where
  open-fate : IsOpen w p caller call d → (b : Bool) → is_adopted w.shape (process_of w p) h ≡ b → TraceCause w p caller call d (gone_or b)
  open-fate is true adopted = (up, ready, (is, (h, heads, adopted-from w p name h adopted)))
  open-fate is false adopted = (up, ready, inr (is, (h, heads, λ all. let yes = adopted-is w p name h all in cc (yes, adopted))))

  module _ (unlogged : is_in_log caller call (replica_of (process_of w p) d).log ≡ false) where
    kept-fate : (kept : Kept) → kept_at w p d caller ≡ Some kept → (b c : Bool) → (kept.call == call) ≡ b → nat_lt call kept.call ≡ c
        → TraceCause w p caller call d
        (if b then says.Reply (reply_from kept.outcome) else
        (if c then says.Stale kept.call else gone_or (is_adopted w.shape (process_of w p) h)))
    kept-fate kept is true c test less = (up, ready, (unlogged, (kept, is, grind (arith, common_steps), refl)))
    kept-fate kept is false true test less = (up, ready, (unlogged, (kept, is, refl, grind (arith, common_steps))))
    kept-fate kept is false false test less =
        let apart : kept.call ≢ call = grind (arith, common_steps) in
        let most : kept.call ≤ call = grind (arith, common_steps) in
        open-fate
        (record {
          not_in_log = unlogged;
          earlier = λ other there. let same : other ≡ kept = cc (there, is) in
              subst (λ (k : Kept). k.call < call) (sym same) (omega (arith, apart, most));
        })
        (is_adopted w.shape (process_of w p) h) refl

    fate-from : (o : Option Kept) → kept_at w p d caller ≡ o → TraceCause w p caller call d (fate_from (is_adopted w.shape (process_of w p) h) call o)
    fate-from None is = open-fate (record { not_in_log = unlogged; earlier = λ other there. absurd (cc (there, is)) })
        (is_adopted w.shape (process_of w p) h) refl
    fate-from (Some kept) is = kept-fate kept is (kept.call == call) (nat_lt call kept.call) refl refl

  fate-cause : (b : Bool) → is_in_log caller call (replica_of (process_of w p) d).log ≡ b
      → TraceCause w p caller call d (fate_unless b (fate_from (is_adopted w.shape (process_of w p) h) call (kept_at w p d caller)))
  fate-cause true is = (up, ready, inl is)
  fate-cause false is = fate-from is (kept_at w p d caller) refl

module _ (h : History) (framed : FramedHistory h) (members : Members h.world.shape (state_of h)) where
  abbrev w : World
  w = h.world

  traces : TracesHaveCauses h.world
  traces caller call d p may = by (process_node h.world p).down (process_node h.world p).dead refl refl where
    by_head : IsUp h.world p → (o : Option Head) → head_at (process_of h.world p) d.0 ≡ o
        → TraceCause h.world p caller call d.0 (fate_of h.world.shape caller call d.0 (process_of h.world p) o)
    by_head up None heads = (up, λ ready. no_seat (seat-from-ready h members p d.0 may.3 up.process may.2 ready)) where
      no_seat : (r : ℕ) × (seat_of (process_of h.world p) d.0 ≡ Some r) → ⊥
      no_seat seat = absurd (cc (seat.1, ap (option_map (λ (y : Head). y.rank)) heads))
    by_head up (Some y) heads =
        fate-cause h.world p (members.named p may.3) caller call d.0 y heads up
        (ready-from h members p d.0 may.3 up.process may.2 y.rank (seat-head (process_of h.world p) d.0 y heads))
        (is_in_log caller call (replica_of (process_of h.world p) d.0).log) refl

    by : (down dead : Bool) → (process_node h.world p).down ≡ down → (process_node h.world p).dead ≡ dead
        → TraceCause h.world p caller call d.0
        (if_up down dead (process_node h.world p)
        (unchanged (fate_of h.world.shape caller call d.0 (process_of h.world p) (head_at (process_of h.world p) d.0))
        (process_node h.world p))).answer
    by true dead isdown isdead = is-down h.world h.settled framed p may.3 isdown
    by false true isdown isdead = (not-down h.world h.settled framed p may.3 isdown, isdead)
    by false false isdown isdead = by_head (is-up h.world h.settled framed p may.3 isdown isdead) (head_at (process_of h.world p) d.0) refl

pub traces_always : TracesAlways
traces_always s es run =
    let h : History = history_of s es in
    let shape : h.world.shape ≡ s = shape-from (no_history s) es in
    let framed : FramedHistory h = framed-from (no_history s) es (framed-opening s) run.1 in
    let members : Members h.world.shape (state_of h) = subst (λ (t : Dimensions). Members t (state_of h)) (sym shape) (members_always s es run) in
    subst TracesHaveCauses (world-from (no_history s) es) (traces h framed members)
