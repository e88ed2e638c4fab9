-- A call is sent away exactly where the process doesn't head its partition.
use Rattle.std.proofs.Common.{ℕ, zero, suc, ◌≡◌, ◌≢◌, ◌<◌, ◌≤◌, ◌+◌, ◌%◌, nat_le, nat_lt, Bool, true, false, ◌&&◌, List}
use Rattle.std.proofs.Common.{[], ◌∷◌, ◌++◌, length, slice_index_or, Option, Some, None, ◌==◌, if◌then◌else◌, refl, sym}
use Rattle.std.proofs.Common.{ap, subst, ◌∙◌, arith}
use Rattle.std.proofs.lemmas.Grind.{common_steps}
use Rattle.std.specs.Prelude.{◌↔◌, Contains, option_map}
use Rattle.std.specs.List.{list_all, range_with_len}
use Rattle.group_types.specs.Dimensions.{Dimensions, space_of}
use Rattle.group_types.specs.Hash.{fnv1a}
use Rattle.group_types.specs.Names.{IsProcess, of_rank}
use Rattle.group_types.specs.declared.process.ProcessId.{ProcessId}
use Rattle.group_types.specs.declared.process.ProcessId.TheVariants.{DataNode, ParityNode}
use Rattle.group_types.specs.Each.{Each}
use Rattle.group_types.proofs.Eaches.{each-append, each-weaker}
use Rattle.membership.specs.Members.{Membership, knows_dead}
use Rattle.memc_table.specs.Act.{key_of}
use Rattle.memc_table.specs.Asked.{Asked}
use Rattle.group_message.specs.declared.message.Message.{Message}
use Rattle.group_message.specs.declared.message.Message.TheVariants as tells
use Rattle.group_message.specs.declared.update.Update.{Update}
use Rattle.group_calls.specs.Turns.{CallName}
use Rattle.group_calls.specs.declared.decision.Decision.{Decision}
use Rattle.group_calls.specs.declared.decision.Decision.TheVariants as decides
use Rattle.group_calls.specs.declared.event.Answer.{Answer}
use Rattle.group_calls.specs.declared.event.Answer.TheVariants as says
use Rattle.group_calls.specs.declared.event.Event.TheVariants.{Ask}
use Rattle.group_run.specs.Applying.{ProcessStep, head_at, replica_of}
use Rattle.group_run.specs.Asking.{Oldest, act_on, ask_head, ask_process, found_at, issued, oldest_inherited, retry_block, ticketed, update_of}
use Rattle.group_run.specs.Causes.{IsReady, IsUp, home_in}
use Rattle.group_run.specs.Deciding.{decide}
use Rattle.group_run.specs.History.{History, history_of, no_history}
use Rattle.group_run.specs.Meaning.{IsDown, is_dead, link, process_of}
use Rattle.group_run.specs.Process.{Head, Process}
use Rattle.group_run.specs.World.{World, after, dead_nodes, if_up, next_name, process_node, step, treated}
use Rattle.law_moves.specs.State.{state_of}
use Rattle.law_moves.proofs.Events.{FramedHistory}
use Rattle.law_moves.proofs.Runs.{framed-from, framed-opening, shape-from, world-from}
use Rattle.law_moves.specs.Away.{AwayAlways, SentAway}
use Rattle.law_moves.proofs.Members.{EndsInNotice, Members, Reigns, Sits, Stands, knows_lower, seat_of}
use Rattle.law_moves.specs.Known.{is_notice}
use Rattle.law_moves.proofs.Calls.{seat-head, seat-known, seat-lower}
use Rattle.law_moves.proofs.Keeping.{ground_of, lower-each, members_always, seat-from}

-- what is said of each message holds of one that stands there
each-contains : (P : Message → Type 0) (xs : List Message) (x : Message) → Each P xs → Contains xs x → P x
each-contains P [] x all has = absurd (let low = has.1 in omega (arith, low))
each-contains P (y ∷ ys) x all has = by has.0 has.1 has.2 (λ k low is. each-contains P ys x all.1 (k, low, is)) where
  by : (k : ℕ) → k < length (y ∷ ys) → slice_index_or (y ∷ ys) k x ≡ x → ((k : ℕ) → k < length ys → slice_index_or ys k x ≡ x → P x) → P x
  by zero low is later = subst P is all.0
  by (suc k) low is later = later k (omega (arith, low)) is

-- a link that ends in the notice of x has no other
only-notice : (x y : ProcessId) (link : List Message) → EndsInNotice x link → Contains link (tells.Notice y) → y ≡ x
only-notice x y link ends has =
    cc (each-contains P (ends.front ++ tells.Notice x ∷ []) (tells.Notice y) all
    (subst (λ (l : List Message). Contains l (tells.Notice y)) ends.is has) refl) where
      P : Message → Type 0
      P m = is_notice m ≡ true → m ≡ tells.Notice x

      all : Each P (ends.front ++ tells.Notice x ∷ [])
      all = each-append P ends.front (tells.Notice x ∷ [])
          (each-weaker (λ m. is_notice m ≡ false) P (λ m plain is. cc (plain, is)) ends.front ends.plain) ((λ is. refl), tt)

-- by the two words: a notice of y stands only in y's own link, which isn't known dead
notice-from : (x y : ProcessId) (dead known : Bool) (link : List Message) → Stands x dead known link
    → Contains link (tells.Notice y) → (y ≡ x) × (known ≡ false)
notice-from x y false false link stands has = absurd (cc (each-contains (λ m. is_notice m ≡ false) link (tells.Notice y) stands has))
notice-from x y false true link stands has = absurd stands
notice-from x y true true link stands has = absurd (let low = has.1 in let none : length link ≡ 0 = ap length stands in omega (arith, low, none))
notice-from x y true false link stands has = (only-notice x y link stands has, refl)

-- the last message stands there
contains-last : (front : List Message) (x : Message) → Contains (front ++ x ∷ []) x
contains-last [] x = (0, omega arith, refl)
contains-last (y ∷ ys) x = let rest = contains-last ys x in let low = rest.1 in (suc rest.0, omega (arith, low), rest.2)

pub all-lower : (known : Membership) (a n : ℕ) → ((j : ℕ) → a ≤ j → j < a + n → knows_dead known (ParityNode j) ≡ true)
    → list_all (λ j. knows_dead known (ParityNode j)) (range_with_len a n) ≡ true
all-lower known a zero each = refl
all-lower known a (suc n) each =
    ap (λ (b : Bool). b && list_all (λ j. knows_dead known (ParityNode j)) (range_with_len (a + 1) n)) (each a (omega arith) (omega arith))
    ∙ all-lower known (a + 1) n (λ j low high. each j (omega (arith, low)) (omega (arith, high)))

module _ (h : History) (members : Members h.world.shape (state_of h)) (p : ProcessId) (d : ℕ)
    (pin : IsProcess h.world.shape p) (lives : is_dead h.world p ≡ false) (below : d < h.world.shape.k) where
  -- whoever sits there is the head and has taken over
  pub ready-from : (r : ℕ) → seat_of (process_of h.world p) d ≡ Some r → IsReady h.world p d
  ready-from r seat = record {
    rank = r;
    name = from.0;
    heads = record { within = from.1.rank; lives = ap (is_dead h.world) (sym from.0) ∙ lives; lowest = from.1.below };
    taken_over = λ q y low yin other has. none q y low yin (λ same. other (same ∙ from.0))
        (subst (λ (z : ProcessId). Contains (link h.world y z) (tells.Notice (of_rank d q))) (sym from.0) has);
  } where
    from : (p ≡ of_rank d r) × Reigns h.world.shape (state_of h) d r
    from = seat-from h.world.shape (state_of h) (ground_of h.world.shape (state_of h) members) p d r pin lives below seat

    parts : (a b : Bool) → (a && b) ≡ true → (a ≡ true) × (b ≡ true)
    parts true true e = (refl, refl)
    parts true false e = cc e
    parts false b e = cc e

    knows_by : (z : ProcessId) → p ≡ z → (q : ℕ) → q < r → Sits (process_of h.world p) d z → knows_dead (process_of h.world p).known (of_rank d q) ≡ true
    knows_by (DataNode e) is q low sits = absurd (let zero_rank : r ≡ 0 = at_zero r (sym is ∙ from.0) in omega (arith, low, zero_rank)) where
      at_zero : (r : ℕ) → DataNode e ≡ of_rank d r → r ≡ 0
      at_zero zero same = refl
      at_zero (suc r) same = absurd (cc same)
    knows_by (ParityNode i) is q low sits = lower_q q low where
      lower : knows_lower (process_of h.world p).known d i ≡ true
      lower = seat-lower (process_of h.world p) d i r sits seat

      own : r ≡ suc i
      own = cc (seat, (seat-known (process_of h.world p) d i sits lower).0)

      both : (knows_dead (process_of h.world p).known (DataNode d) ≡ true)
          × (list_all (λ j. knows_dead (process_of h.world p).known (ParityNode j)) (range_with_len 0 i) ≡ true)
      both = parts (knows_dead (process_of h.world p).known (DataNode d))
          (list_all (λ j. knows_dead (process_of h.world p).known (ParityNode j)) (range_with_len 0 i)) lower

      lower_q : (q : ℕ) → q < r → knows_dead (process_of h.world p).known (of_rank d q) ≡ true
      lower_q zero low = both.0
      lower_q (suc q) low = lower-each (process_of h.world p).known q 0 i both.1 (omega arith) (omega (arith, low, own))

    none : (q : ℕ) (y : ProcessId) → q < r → IsProcess h.world.shape y → y ≢ p → ¬ (Contains (link h.world y p) (tells.Notice (of_rank d q)))
    none q y low yin other has =
        let at_link = notice-from y (of_rank d q) (is_dead h.world y) (knows_dead (process_of h.world p).known y)
        (link h.world y p) (members.stands y p yin pin other lives) has in
        let knows : knows_dead (process_of h.world p).known y ≡ true = ap (knows_dead (process_of h.world p).known)
        (sym at_link.0) ∙ knows_by p refl q low (members.sits p d pin lives below) in
        cc (at_link.1, knows)

  -- a head that has taken over sits there
  pub seat-from-ready : IsReady h.world p d → (r : ℕ) × (seat_of (process_of h.world p) d ≡ Some r)
  seat-from-ready ready = by ready.rank p refl ready.name (members.sits p d pin lives below) where
    knows : (q : ℕ) → q < ready.rank → IsProcess h.world.shape (of_rank d q) → of_rank d q ≢ p → knows_dead (process_of h.world p).known (of_rank d q) ≡ true
    knows q low qin other =
        by_word (is_dead h.world (of_rank d q)) (knows_dead (process_of h.world p).known (of_rank d q)) refl refl
        (members.stands (of_rank d q) p qin pin other lives) where
          by_word : (dead known : Bool) → is_dead h.world (of_rank d q) ≡ dead → knows_dead (process_of h.world p).known (of_rank d q) ≡ known
              → Stands (of_rank d q) dead known (link h.world (of_rank d q) p) → knows_dead (process_of h.world p).known (of_rank d q) ≡ true
          by_word dead true isdead isknown stands = isknown
          by_word false false isdead isknown stands = absurd (cc (isdead, ready.heads.lowest q low))
          by_word true false isdead isknown stands = absurd (ready.taken_over q (of_rank d q) low qin (λ same. other (same ∙ sym ready.name))
              (subst (λ (z : ProcessId). Contains (link h.world (of_rank d q) z) (tells.Notice (of_rank d q))) ready.name
              (subst (λ (l : List Message). Contains l (tells.Notice (of_rank d q))) (sym stands.is)
              (contains-last stands.front (tells.Notice (of_rank d q))))))

    by : (r : ℕ) (z : ProcessId) → p ≡ z → p ≡ of_rank d r → Sits (process_of h.world p) d z → (r : ℕ) × (seat_of (process_of h.world p) d ≡ Some r)
    by r (DataNode e) is name sits = (0, sits.0 ∙ own r (sym is ∙ name)) where
      own : (r : ℕ) → DataNode e ≡ of_rank d r → ◌≡◌ {A = Option ℕ} (if d == e then Some 0 else None) (Some 0)
      own zero same = let equal : d ≡ e = cc same in let test : (d == e) ≡ true = grind (arith, common_steps) in
          ap (λ (b : Bool). if b then Some 0 else None) test
      own (suc r) same = absurd (cc same)
    by r (ParityNode i) is name sits = (suc i, (seat-known (process_of h.world p) d i sits lower).0) where
      ranked : (r : ℕ) → ParityNode i ≡ of_rank d r → r ≡ suc i
      ranked zero same = absurd (cc same)
      ranked (suc j) same = cc same

      rank_is : ready.rank ≡ suc i
      rank_is = ranked ready.rank (sym is ∙ ready.name)

      inside : IsProcess h.world.shape (ParityNode i)
      inside = subst (IsProcess h.world.shape) is pin

      lower : knows_lower (process_of h.world p).known d i ≡ true
      lower = ap (λ (b : Bool). b && list_all (λ j. knows_dead (process_of h.world p).known (ParityNode j))
          (range_with_len 0 i)) (knows 0 (omega (arith, rank_is)) below (λ same. cc (same, is)))
          ∙ all-lower (process_of h.world p).known 0 i
          (λ j low high. knows (suc j) (omega (arith, rank_is, high)) (omega (arith, inside, high))
          (λ same. let equal : j ≡ i = cc (same ∙ is) in absurd (omega (arith, high, equal))))

-- an answer to a call that is served here
abbrev Serves : Answer → Type 0
Serves (says.Reply r) = Unit {0}
Serves (says.Ticket n) = Unit {0}
Serves says.NoSpace = Unit {0}
Serves (says.Retry c) = Unit {0}
Serves _ = ⊥

serves-retry : (s : Dimensions) (b : ℕ) (o : Option Oldest) (p : Process) → Serves (retry_block s b o p).answer
serves-retry s b None p = tt
serves-retry s b (Some o) p = tt

serves-ticketed : (b : Bool) (d : ℕ) (u : Update) (t : ProcessStep) → Serves (ticketed b d u t).answer
serves-ticketed true d u t = tt
serves-ticketed false d u t = tt

serves-act : (s : Dimensions) (name : CallName) (op : Asked) (d : ℕ) (h : Head) (p : Process) (decision : Decision)
    → Serves (act_on s name op d h p decision).answer
serves-act s name op d h p (decides.Answer r) = tt
serves-act s name op d h p (decides.Retry n) = tt
serves-act s name op d h p decides.NoSpace = tt
serves-act s name op d h p (decides.NeedBlock b) = serves-retry s b (oldest_inherited p (range_with_len 0 s.k)) p
serves-act s name op d h p (decides.Issue body outcome) =
    let u : Update = update_of name op d body outcome p in
    serves-ticketed (nat_le u.number (replica_of (issued s d h u p).process d).applied) d u (issued s d h u p)

module _ (h : History) (framed : FramedHistory h) (members : Members h.world.shape (state_of h)) (some : 0 < h.world.shape.k) (caller : ℕ) (op : Asked)
    (p : ProcessId) (pin : IsProcess h.world.shape p) where
  abbrev w : World
  w = h.world

  d_below : home_in w op < w.shape.k
  d_below = below (fnv1a (key_of op.act)) where
    below : (n : ℕ) → n % w.shape.k < w.shape.k
    below n = omega (arith, some)

  -- what a head makes of the call
  by_head : (o : Option Head) → head_at (process_of w p) (home_in w op) ≡ o → (¬ (IsDown w)) → is_dead w p ≡ false
      → (a : Answer) → a ≡ (ask_head w.shape (next_name w caller) op (home_in w op) (process_of w p) o).answer
      → ((a ≡ says.Down) ↔ IsDown w) × ((a ≡ says.Lost) ↔ ((¬ (IsDown w)) × (is_dead w p ≡ true)))
      × ((a ≡ says.Moved) ↔ (IsUp w p × (¬ (IsReady w p (home_in w op)))))
  by_head None heads up lives a is = (
    (λ e. absurd (cc (e, is)), λ down. absurd (up down)),
    (λ e. absurd (cc (e, is)), λ lost. absurd (cc (lost.1, lives))),
    (λ e. (record { group = up; process = lives }, λ ready. no_seat (seat-from-ready h members p (home_in w op) pin lives d_below ready)), λ away. is),
  ) where
    no_seat : (r : ℕ) × (seat_of (process_of w p) (home_in w op) ≡ Some r) → ⊥
    no_seat seat = absurd (cc (seat.1, ap (option_map (λ (y : Head). y.rank)) heads))
  by_head (Some y) heads up lives a is = (
    (λ e. absurd (not_served e), λ down. absurd (up down)),
    (λ e. absurd (not_lost e), λ lost. absurd (cc (lost.1, lives))),
    (
      λ e. absurd (not_moved e),
      λ away. absurd
          (away.1 (ready-from h members p (home_in w op) pin lives d_below y.rank
          (seat-head (process_of w p) (home_in w op) y heads))),
    ),
  ) where
    serves : Serves a
    serves =
        subst Serves (sym is)
        (serves-act w.shape (next_name w caller) op (home_in w op) y (process_of w p)
        (decide (space_of w.shape) y.inherited (replica_of (process_of w p) (home_in w op)) op
        (found_at w.shape (home_in w op) (process_of w p) (process_of w p).name)))

    not_served : a ≡ says.Down → ⊥
    not_served e = subst Serves e serves

    not_lost : a ≡ says.Lost → ⊥
    not_lost e = subst Serves e serves

    not_moved : a ≡ says.Moved → ⊥
    not_moved e = subst Serves e serves

  by_words : (down dead : Bool) → (process_node w p).down ≡ down → (process_node w p).dead ≡ dead
      → (a : Answer) → a ≡
      (if_up down dead (process_node w p) (treated w.shape (process_node w p) (ask_process w.shape (next_name w caller) op (process_of w p)))).answer
      → ((a ≡ says.Down) ↔ IsDown w) × ((a ≡ says.Lost) ↔ ((¬ (IsDown w)) × (is_dead w p ≡ true)))
      × ((a ≡ says.Moved) ↔ (IsUp w p × (¬ (IsReady w p (home_in w op)))))
  by_words true dead isdown isdead a is =
      let down : IsDown w = (let told : nat_lt w.shape.m (dead_nodes w.nodes) ≡ true = sym (framed.down p pin) ∙ isdown in grind (arith, common_steps)) in (
        (λ e. down, λ x. is),
        (λ e. absurd (cc (e, is)), λ lost. absurd (lost.0 down)),
        (λ e. absurd (cc (e, is)), λ away. absurd (away.0.group down)),
      )
  by_words false true isdown isdead a is =
      let up : ¬ (IsDown w) = not_down isdown in (
        (λ e. absurd (cc (e, is)), λ down. absurd (up down)),
        (λ e. (up, isdead), λ x. is),
        (λ e. absurd (cc (e, is)), λ away. absurd (cc (away.0.process, isdead))),
      )
    where
      not_down : (process_node w p).down ≡ false → ¬ (IsDown w)
      not_down none down =
          let told : nat_lt w.shape.m (dead_nodes w.nodes) ≡ false = sym (framed.down p pin) ∙ none in
          let few : dead_nodes w.nodes ≤ w.shape.m = grind (arith, common_steps) in
          absurd (omega (arith, few, down))
  by_words false false isdown isdead a is = by_head (head_at (process_of w p) (home_in w op)) refl not_down isdead a is where
    not_down : ¬ (IsDown w)
    not_down down =
        let told : nat_lt w.shape.m (dead_nodes w.nodes) ≡ false = sym (framed.down p pin) ∙ isdown in
        let few : dead_nodes w.nodes ≤ w.shape.m = grind (arith, common_steps) in
        absurd (omega (arith, few, down))

  pub away : SentAway h.world caller op p
  away = let all = by_words (process_node w p).down (process_node w p).dead refl refl (step w (Ask caller op p)).turn.answer refl
      in record { down = all.0; lost = all.1; moved = all.2 }

pub away_always : AwayAlways
away_always s es run caller op p may =
    let h : History = history_of s es in
    let shape : h.world.shape ≡ s = shape-from (no_history s) es in
    let same : h.world ≡ after s es = world-from (no_history s) es in
    let framed : FramedHistory h = framed-from (no_history s) es (framed-opening s) run.1 in
    let members : Members h.world.shape (state_of h) = subst (λ (t : Dimensions). Members t (state_of h)) (sym shape) (members_always s es run) in
    let some : 0 < h.world.shape.k = (let first = run.0.k in let many = ap (λ (t : Dimensions). t.k) shape in omega (arith, first, many)) in
    let inside : IsProcess h.world.shape p = subst (λ (v : World). IsProcess v.shape p) (sym same) may.1 in
    subst (λ (v : World). SentAway v caller op p) same (away h framed members some caller op p inside)
