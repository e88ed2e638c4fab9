-- What a process makes of the notice of a death: it knows it, and sits where it should.
use Rattle.std.proofs.Common.{ℕ, zero, suc, ◌≡◌, ◌≢◌, ◌<◌, ◌≤◌, ◌+◌, Bool, true, false, not, ◌&&◌, List, [], ◌∷◌}
use Rattle.std.proofs.Common.{Option, Some, None, ◌⊎◌, inl, inr, refl, sym, ap, subst, ◌∙◌, arith}
use Rattle.std.proofs.lemmas.Bool.{cases_eq}
use Rattle.std.specs.Prelude.{is_some, option_map}
use Rattle.std.specs.List.{list_all, range_with_len}
use Rattle.group_types.specs.Dimensions.{Dimensions}
use Rattle.group_types.specs.Lists.{at, put}
use Rattle.group_types.specs.declared.process.ProcessId.{ProcessId}
use Rattle.group_types.specs.declared.process.ProcessId.TheVariants.{DataNode, ParityNode}
use Rattle.group_types.proofs.Lists.{at-put, at-put-other}
use Rattle.group_types.proofs.Eaches.{each-append, each-all}
use Rattle.membership.specs.Members.{Membership, knows_dead, with_dead}
use Rattle.group_message.specs.declared.message.Message.{Message}
use Rattle.group_message.specs.declared.message.Message.TheVariants as tells
use Rattle.group_run.specs.Applying.{ProcessStep, and_then, for_each, head_at, quiet, replica_of, sending, when}
use Rattle.group_run.specs.Heading.{judge, partition, rank, to_others}
use Rattle.group_run.specs.Leaders.{close_sessions}
use Rattle.group_run.specs.Process.{Gathering, Head, Process}
use Rattle.group_run.specs.Receiving.{death_known, enthroned, notice_comes, take_over_if, taken_over, takes_over}
use Rattle.group_run.specs.Rows.{parity_number}
use Rattle.law_moves.proofs.Members.{Sits, SitsWhen, knows_lower, seat_of}
use Rattle.law_moves.proofs.Calls.{Owes, Seated}
use Rattle.law_moves.proofs.Cores.{KeepsSeats, MaySend, SameCore, SentWell, Step, core-refl, sent-kept, sent-others}
use Rattle.law_moves.proofs.Cores.{step-each, step-judge, step-quiet, step-then}

-- the others are known as before
pub knows-other : (known : Membership) (x y : ProcessId) → y ≢ x → knows_dead (with_dead known x) y ≡ knows_dead known y
knows-other known (DataNode a) (DataNode b) other = at-put-other false known.data_dead a b true (λ same. other (ap DataNode same))
knows-other known (ParityNode a) (ParityNode b) other = at-put-other false known.parity_dead a b true (λ same. other (ap ParityNode same))
knows-other known (DataNode a) (ParityNode b) other = refl
knows-other known (ParityNode a) (DataNode b) other = refl

-- who is known dead stays so
pub knows-still : (known : Membership) (x y : ProcessId) → knows_dead known y ≡ true → knows_dead (with_dead known x) y ≡ true
knows-still known (DataNode a) (DataNode b) knows = by (cases_eq b a) where
  by : (b ≡ a) ⊎ (b ≢ a) → at false (put false known.data_dead a true) b ≡ true
  by (inl same) = ap (at false (put false known.data_dead a true)) same ∙ at-put false false known.data_dead a true
  by (inr other) = at-put-other false known.data_dead a b true other ∙ knows
knows-still known (ParityNode a) (ParityNode b) knows = by (cases_eq b a) where
  by : (b ≡ a) ⊎ (b ≢ a) → at false (put false known.parity_dead a true) b ≡ true
  by (inl same) = ap (at false (put false known.parity_dead a true)) same ∙ at-put false false known.parity_dead a true
  by (inr other) = at-put-other false known.parity_dead a b true other ∙ knows
knows-still known (DataNode a) (ParityNode b) knows = knows
knows-still known (ParityNode a) (DataNode b) knows = knows

pub both : (a b : Bool) → (a && b) ≡ true → (a ≡ true) × (b ≡ true)
both true true e = (refl, refl)
both true false e = cc e
both false b e = cc e

and-true : (a b : Bool) → a ≡ true → b ≡ true → (a && b) ≡ true
and-true a b ea eb = ap (λ (x : Bool). x && b) ea ∙ eb

pub all-still : (known : Membership) (x : ProcessId) (js : List ℕ) → list_all (λ j. knows_dead known (ParityNode j)) js
    ≡ true → list_all (λ j. knows_dead (with_dead known x) (ParityNode j)) js ≡ true
all-still known x [] all = refl
all-still known x (j ∷ js) all =
    let parts = both (knows_dead known (ParityNode j)) (list_all (λ j. knows_dead known (ParityNode j)) js) all in
    and-true (knows_dead (with_dead known x) (ParityNode j)) (list_all (λ j. knows_dead (with_dead known x) (ParityNode j)) js)
    (knows-still known x (ParityNode j) parts.0) (all-still known x js parts.1)

pub lower-still : (known : Membership) (x : ProcessId) (d i : ℕ) → knows_lower known d i ≡ true → knows_lower (with_dead known x) d i ≡ true
lower-still known x d i lower =
    let parts = both (knows_dead known (DataNode d)) (list_all (λ j. knows_dead known (ParityNode j)) (range_with_len 0 i)) lower in
    and-true (knows_dead (with_dead known x) (DataNode d)) (list_all (λ j. knows_dead (with_dead known x) (ParityNode j)) (range_with_len 0 i))
    (knows-still known x (DataNode d) parts.0) (all-still known x (range_with_len 0 i) parts.1)

-- what becomes of a seat and a rank where takeovers are due: by whether the process heads the partition, and
-- whether it knows all of lower rank dead
abbrev pub AfterTake : Bool → Bool → ℕ → Option ℕ → ℕ → Option ℕ → ℕ → Type 0
AfterTake true lower i seat rank seat' rank' = (seat' ≡ seat) × (rank' ≡ rank)
AfterTake false true i seat rank seat' rank' = (seat' ≡ Some (suc i)) × (rank' ≡ suc i)
AfterTake false false i seat rank seat' rank' = (seat' ≡ seat) × (rank' ≡ rank)

abbrev pub Took : ℕ → Process → Process → ℕ → Type 0
Took i p q d = AfterTake (is_some (seat_of p d)) (knows_lower p.known d i) i (seat_of p d) (at 0 p.ranks d) (seat_of q d) (at 0 q.ranks d)

-- a partition stays as it is
pub record Stays (p q : Process) (d : ℕ) : Type 0 where
  pub seat : seat_of q d ≡ seat_of p d
  pub rank : at 0 q.ranks d ≡ at 0 p.ranks d

-- one takeover that is due, or isn't
pub record TakesOver (s : Dimensions) (i : ℕ) (p : Process) (t : ProcessStep) (d : ℕ) : Type 0 where
  pub name : t.process.name ≡ p.name
  pub known : t.process.known ≡ p.known
  pub here : Took i p t.process d
  pub others : (e : ℕ) → e ≢ d → Stays p t.process e
  pub keeps : KeepsSeats p t.process
  pub sent : SentWell Owes s.k t.process t.sent

seat-none : (p : Process) (d : ℕ) (seat : Option ℕ) → seat_of p d ≡ seat → is_some seat ≡ false → seat_of p d ≡ None
seat-none p d None is none = is
seat-none p d (Some h) is none = cc none

pub some-mapped : {X Y : Type 0} (f : X → Y) (o : Option X) → is_some (option_map f o) ≡ is_some o
some-mapped f None = refl
some-mapped f (Some x) = refl

module _ (s : Dimensions) (i : ℕ) where
  -- the test of a takeover, in the words of seats
  test-is : (p : Process) (d : ℕ) → takes_over p d (ParityNode i) ≡ (not (is_some (seat_of p d)) && knows_lower p.known d i)
  test-is p d =
      ap (λ (b : Bool). (not b && knows_dead p.known (DataNode d)) && list_all (λ j. knows_dead p.known (ParityNode j)) (range_with_len 0 i))
      (sym (some-mapped (λ (y : Head). y.rank) (head_at p d)))
      ∙ assoc (not (is_some (seat_of p d))) (knows_dead p.known (DataNode d)) (list_all (λ j. knows_dead p.known (ParityNode j)) (range_with_len 0 i)) where
        assoc : (a b c : Bool) → ((a && b) && c) ≡ (a && (b && c))
        assoc true b c = refl
        assoc false b c = refl

  quiet-takes : (p : Process) (d : ℕ) → Took i p p d → TakesOver s i p (quiet p) d
  quiet-takes p d took =
      record {
        name = refl;
        known = refl;
        here = took;
        others = λ e other. record { seat = refl; rank = refl };
        keeps = record { name = refl; seats = λ e r sits. sits };
        sent = tt;
      }

  -- a partition is taken over
  taken : (p : Process) (d : ℕ) → p.name ≡ ParityNode i → d < s.k → is_some (seat_of p d) ≡ false → (t : ProcessStep) → t ≡ taken_over s d p
      → (t.process.name ≡ p.name) × (t.process.known ≡ p.known) × (seat_of t.process d ≡ Some (suc i)) × (at 0 t.process.ranks d ≡ suc i) ×
      ((e : ℕ) → e ≢ d → Stays p t.process e) × SentWell Owes s.k t.process t.sent
  taken p d name below none t is =
      subst
      (λ (y : ProcessStep). (y.process.name ≡ p.name) × (y.process.known ≡ p.known)
      × (seat_of y.process d ≡ Some (suc i)) × (at 0 y.process.ranks d ≡ suc i)
      × ((e : ℕ) → e ≢ d → Stays p y.process e) × SentWell Owes s.k y.process y.sent)
      (sym is) made
    where
      r : ℕ
      r = suc (parity_number p.name)

      rank_is : r ≡ suc i
      rank_is = ap (λ (y : ProcessId). suc (parity_number y)) name

      q : Process
      q = enthroned s r d p

      seat_q : seat_of q d ≡ Some (suc i)
      seat_q = ap (option_map (λ (y : Head). y.rank)) (at-put None None p.heads d _) ∙ ap Some rank_is

      rank_q : at 0 q.ranks d ≡ suc i
      rank_q = at-put 0 0 p.ranks d r ∙ rank_is

      other_q : (e : ℕ) → e ≢ d → Stays p q e
      other_q e other = record {
        seat = ap (option_map (λ (y : Head). y.rank)) (at-put-other None p.heads d e _ other);
        rank = at-put-other 0 p.ranks d e r other;
      }

      m : Message
      m = tells.Adopt (rank r) (partition d) (replica_of p d).applied (replica_of p d).log

      first : Step Owes s.k q (sending (to_others s p m) q)
      first = record { same = core-refl q; sent = sent-others Owes s.k s p q m (λ j. (below, seat_q ∙ ap Some (sym rank_is), omega arith, tt)) }

      whole : Step Owes s.k q (and_then (sending (to_others s p m) q) (judge s d))
      whole = step-then Owes s.k q (sending (to_others s p m) q) (judge s d) first (step-judge Owes s.k s d q)

      made : ((taken_over s d p).process.name ≡ p.name) × ((taken_over s d p).process.known ≡ p.known)
          × (seat_of (taken_over s d p).process d ≡ Some (suc i)) × (at 0 (taken_over s d p).process.ranks d ≡ suc i)
          × ((e : ℕ) → e ≢ d → Stays p (taken_over s d p).process e) × SentWell Owes s.k (taken_over s d p).process
          (taken_over s d p).sent
      made = (
        whole.same.name,
        whole.same.known,
        whole.same.seats d ∙ seat_q,
        ap (λ (ranks : List ℕ). at 0 ranks d) whole.same.ranks ∙ rank_q,
        (λ e other. record {
          seat = whole.same.seats e ∙ (other_q e other).seat;
          rank = ap (λ (ranks : List ℕ). at 0 ranks e) whole.same.ranks ∙ (other_q e other).rank;
        }),
        whole.sent,
      )

  takes : (p : Process) (d : ℕ) → p.name ≡ ParityNode i → d < s.k → TakesOver s i p (take_over_if s d p) d
  takes p d name below =
      subst (λ (b : Bool). TakesOver s i p (when b p (taken_over s d p)) d) (sym (ap (takes_over p d) name ∙ test-is p d))
      (by (is_some (seat_of p d)) (knows_lower p.known d i) refl refl)
    where
      by : (had lower : Bool) → is_some (seat_of p d) ≡ had → knows_lower p.known d i ≡ lower → TakesOver s i p (when (not had && lower) p (taken_over s d p)) d
      by true lower ishad islower =
          quiet-takes p d
          (subst (λ (b : Bool). AfterTake b (knows_lower p.known d i) i (seat_of p d) (at 0 p.ranks d) (seat_of p d)
          (at 0 p.ranks d)) (sym ishad) (refl, refl))
      by false false ishad islower = quiet-takes p d
          (subst (λ (b : Bool). AfterTake b (knows_lower p.known d i) i (seat_of p d) (at 0 p.ranks d) (seat_of p d) (at 0 p.ranks d)) (sym ishad)
          (subst (λ (b : Bool). AfterTake false b i (seat_of p d) (at 0 p.ranks d) (seat_of p d) (at 0 p.ranks d)) (sym islower) (refl, refl)))
      by false true ishad islower =
          let made = taken p d name below ishad (taken_over s d p) refl in record {
            name = made.0;
            known = made.1;
            here = subst (λ (b : Bool). AfterTake b (knows_lower p.known d i) i (seat_of p d) (at 0 p.ranks d)
                (seat_of (taken_over s d p).process d) (at 0 (taken_over s d p).process.ranks d)) (sym ishad)
                (subst (λ (b : Bool). AfterTake false b i (seat_of p d) (at 0 p.ranks d)
                (seat_of (taken_over s d p).process d) (at 0 (taken_over s d p).process.ranks d)) (sym islower)
                (made.2, made.3));
            others = made.4;
            keeps = record { name = made.0; seats = λ e r sits. kept e r sits (cases_eq e d) };
            sent = made.5;
          }
        where
          none : seat_of p d ≡ None
          none = seat-none p d (seat_of p d) refl ishad

          kept : (e r : ℕ) → seat_of p e ≡ Some r → (e ≡ d) ⊎ (e ≢ d) → seat_of (taken_over s d p).process e ≡ Some r
          kept e r sits (inl same) = absurd (cc (sits, ap (seat_of p) same ∙ none))
          kept e r sits (inr other) = ((taken p d name below ishad (taken_over s d p) refl).4 e other).seat ∙ sits

  -- takeovers for the partitions from a on
  pub record TakesAll (p : Process) (t : ProcessStep) (a n : ℕ) : Type 0 where
    pub name : t.process.name ≡ p.name
    pub known : t.process.known ≡ p.known
    pub due : (d : ℕ) → a ≤ d → d < a + n → Took i p t.process d
    pub before : (d : ℕ) → d < a → Stays p t.process d
    pub keeps : KeepsSeats p t.process
    pub sent : SentWell Owes s.k t.process t.sent

  pub takes-all : (n a : ℕ) (p : Process) → p.name ≡ ParityNode i → a + n ≤ s.k → TakesAll p (for_each (range_with_len a n) (take_over_if s) p) a n
  takes-all zero a p name within =
      record {
        name = refl;
        known = refl;
        due = λ d low high. absurd (omega (arith, low, high));
        before = λ d low. record { seat = refl; rank = refl };
        keeps = record { name = refl; seats = λ e r sits. sits };
        sent = tt;
      }
  takes-all (suc n) a p name within =
      joined (takes p a name (omega arith))
      (takes-all n (a + 1) (take_over_if s a p).process ((takes p a name (omega arith)).name ∙ name)
      (omega arith)) where
        t : ProcessStep
        t = take_over_if s a p

        rest : ProcessStep
        rest = for_each (range_with_len (a + 1) n) (take_over_if s) t.process

        joined : TakesOver s i p t a → TakesAll t.process rest (a + 1) n → TakesAll p (for_each (range_with_len a (suc n)) (take_over_if s) p) a (suc n)
        joined first later = record {
          name = later.name ∙ first.name;
          known = later.known ∙ first.known;
          due = λ d low high. due_at d low high (cases_eq d a);
          before =
              λ d low. let there = later.before d (omega (arith, low)) in let here = first.others d
              (λ same. absurd (omega (arith, same, low))) in record { seat = there.seat ∙ here.seat; rank = there.rank ∙ here.rank };
          keeps = record { name = later.keeps.name ∙ first.keeps.name; seats = λ e r sits. later.keeps.seats e r (first.keeps.seats e r sits) };
          sent = each-append (λ z. MaySend Owes s.k rest.process z.to z.message) t.sent rest.sent
              (sent-kept Owes s.k t.process rest.process later.keeps t.sent first.sent) later.sent;
        } where
          due_at : (d : ℕ) → a ≤ d → d < a + suc n → (d ≡ a) ⊎ (d ≢ a) → Took i p rest.process d
          due_at d low high (inl same) =
              let there = later.before d (omega (arith, same)) in
              let moved : Took i p t.process d = subst (λ (e : ℕ). Took i p t.process e) (sym same) first.here in
              subst (λ (x : ℕ). AfterTake (is_some (seat_of p d)) (knows_lower p.known d i) i (seat_of p d) (at 0 p.ranks d)
              (seat_of rest.process d) x) (sym there.rank)
              (subst (λ (x : Option ℕ). AfterTake (is_some (seat_of p d)) (knows_lower p.known d i) i (seat_of p d)
              (at 0 p.ranks d) x (at 0 t.process.ranks d)) (sym there.seat) moved)
          due_at d low high (inr other) =
              let here = first.others d other in
              let took : Took i t.process rest.process d = later.due d (omega (arith, low, other)) (omega (arith, high)) in
              subst (λ (x : ℕ). AfterTake (is_some (seat_of p d)) (knows_lower p.known d i) i (seat_of p d) x
              (seat_of rest.process d) (at 0 rest.process.ranks d)) here.rank
              (subst (λ (known : Membership). AfterTake (is_some (seat_of p d)) (knows_lower known d i) i (seat_of p d)
              (at 0 t.process.ranks d) (seat_of rest.process d) (at 0 rest.process.ranks d)) first.known
              (subst (λ (x : Option ℕ). AfterTake (is_some x) (knows_lower t.process.known d i) i x (at 0 t.process.ranks d)
              (seat_of rest.process d) (at 0 rest.process.ranks d)) here.seat took))

-- what a process is after a notice
pub record Noticed (s : Dimensions) (dead : ProcessId) (p : Process) (t : ProcessStep) (y : ProcessId) : Type 0 where
  pub name : t.process.name ≡ p.name
  pub known : t.process.known ≡ with_dead p.known dead
  pub sits : (d : ℕ) → d < s.k → Sits t.process d y
  pub ranks : (d : ℕ) → d < s.k → (at 0 t.process.ranks d ≡ at 0 p.ranks d) ⊎ (seat_of t.process d ≡ Some (at 0 t.process.ranks d))
  pub keeps : KeepsSeats p t.process
  pub sent : SentWell Owes s.k t.process t.sent

-- sessions are closed, and acknowledgements judged
module _ (s : Dimensions) (dead : ProcessId) (p : Process) where
  abbrev known : Process
  known = death_known dead p

  abbrev before : ProcessStep
  before = and_then (close_sessions s known.as_leader.sessions known) (for_each (range_with_len 0 s.k) (judge s))

  step-close : (gs : List Gathering) (q : Process) → Step Owes s.k q (close_sessions s gs q)
  step-close [] q = step-quiet Owes s.k q q (core-refl q)
  step-close (g ∷ gs) q = record {
    same = record { name = refl; known = refl; ranks = refl; seats = λ e. refl };
    sent = sent-others Owes s.k s q (close_sessions s (g ∷ gs) q).process (tells.Cease q.as_leader.last_session) (λ j. tt);
  }

  step-before : Step Owes s.k known before
  step-before =
      let closed : ProcessStep = close_sessions s known.as_leader.sessions known in
      step-then Owes s.k known closed (for_each (range_with_len 0 s.k) (judge s)) (step-close known.as_leader.sessions known)
      (step-each Owes s.k (range_with_len 0 s.k) (judge s) closed.process
      (each-all (λ d. (q : Process) → SameCore closed.process q → Step Owes s.k q (judge s d q))
      (λ d q same. step-judge Owes s.k s d q) (range_with_len 0 s.k)))

  -- the notice alone
  core-known : (x : ProcessId) → (death_known x p).name ≡ p.name
  core-known (DataNode e) = refl
  core-known (ParityNode e) = refl

  known-known : (x : ProcessId) → (death_known x p).known ≡ with_dead p.known x
  known-known (DataNode e) = refl
  known-known (ParityNode e) = refl

  stays-known : (x : ProcessId) (d : ℕ) → Stays p (death_known x p) d
  stays-known (DataNode e) d = record { seat = refl; rank = refl }
  stays-known (ParityNode e) d = record { seat = refl; rank = refl }

  stays-before : (d : ℕ) → Stays p before.process d
  stays-before d = let here = stays-known dead d in
      record {
        seat = step-before.same.seats d ∙ here.seat;
        rank = ap (λ (ranks : List ℕ). at 0 ranks d)
            step-before.same.ranks ∙ here.rank;
      }

  name-before : before.process.name ≡ p.name
  name-before = step-before.same.name ∙ core-known dead

  known-before : before.process.known ≡ with_dead p.known dead
  known-before = step-before.same.known ∙ known-known dead

  keeps-before : KeepsSeats p before.process
  keeps-before = record { name = name-before; seats = λ d r sits. (stays-before d).seat ∙ sits }

  -- a data process takes nothing over
  none-taken : (e : ℕ) (q : Process) → q.name ≡ DataNode e → (d : ℕ) → Step Owes s.k q (take_over_if s d q)
  none-taken e q name d = subst (λ (b : Bool). Step Owes s.k q (when b q (taken_over s d q)))
      (sym (ap (takes_over q d) name)) (step-quiet Owes s.k q q (core-refl q))

  noticed_data : (e : ℕ) → Seated s p (DataNode e) → Noticed s dead p (notice_comes s dead p) (DataNode e)
  noticed_data e seated = record {
    name = whole.same.name ∙ core-known dead;
    known = whole.same.known ∙ known-known dead;
    sits =
        λ d below. let sits = seated.sits d below in
        (whole.same.seats d ∙ (stays-known dead d).seat ∙ sits.0, ap (λ (ranks : List ℕ). at 0 ranks d) whole.same.ranks ∙ (stays-known dead d).rank ∙ sits.1);
    ranks = λ d below. inl (ap (λ (ranks : List ℕ). at 0 ranks d) whole.same.ranks ∙ (stays-known dead d).rank);
    keeps = record { name = whole.same.name ∙ core-known dead; seats = λ d r sits. whole.same.seats d ∙ (stays-known dead d).seat ∙ sits };
    sent = whole.sent;
  } where
    whole : Step Owes s.k known (and_then before (for_each (range_with_len 0 s.k) (take_over_if s)))
    whole = step-then Owes s.k known before (for_each (range_with_len 0 s.k) (take_over_if s)) step-before
        (step-each Owes s.k (range_with_len 0 s.k) (take_over_if s) before.process
        (each-all (λ d. (q : Process) → SameCore before.process q → Step Owes s.k q (take_over_if s d q))
        (λ d q same. none-taken e q (same.name ∙ name-before ∙ seated.name) d) (range_with_len 0 s.k)))

  noticed_parity : (i : ℕ) → Seated s p (ParityNode i) → Noticed s dead p (notice_comes s dead p) (ParityNode i)
  noticed_parity i seated = record {
    name = all.name ∙ name-before;
    known = all.known ∙ known-before;
    sits = sits_at;
    ranks = ranks_at;
    keeps = record { name = all.keeps.name ∙ name-before; seats = λ d r sits. all.keeps.seats d r (keeps-before.seats d r sits) };
    sent = each-append (λ z. MaySend Owes s.k rest.process z.to z.message) before.sent rest.sent
        (sent-kept Owes s.k before.process rest.process all.keeps before.sent step-before.sent) all.sent;
  } where
    rest : ProcessStep
    rest = for_each (range_with_len 0 s.k) (take_over_if s) before.process

    all : TakesAll s i before.process rest 0 s.k
    all = takes-all s i s.k 0 before.process (name-before ∙ seated.name) (omega arith)

    final : rest.process.known ≡ with_dead p.known dead
    final = all.known ∙ known-before

    took : (d : ℕ) → d < s.k → AfterTake (is_some (seat_of p d)) (knows_lower (with_dead p.known dead) d i) i
        (seat_of p d) (at 0 p.ranks d) (seat_of rest.process d) (at 0 rest.process.ranks d)
    took d below =
        let here = stays-before d in
        subst (λ (x : ℕ). AfterTake (is_some (seat_of p d)) (knows_lower (with_dead p.known dead) d i) i (seat_of p d) x
        (seat_of rest.process d) (at 0 rest.process.ranks d)) here.rank
        (subst (λ (x : Membership). AfterTake (is_some (seat_of p d)) (knows_lower x d i) i (seat_of p d)
        (at 0 before.process.ranks d) (seat_of rest.process d) (at 0 rest.process.ranks d)) known-before
        (subst (λ (x : Option ℕ). AfterTake (is_some x) (knows_lower before.process.known d i) i x
        (at 0 before.process.ranks d) (seat_of rest.process d) (at 0 rest.process.ranks d)) here.seat
        (all.due d (omega arith) (omega (arith, below)))))

    -- by who is known dead before and after, and by the seat before
    sits_by : (d : ℕ) (old new : Bool) → (old ≡ true → new ≡ true) → SitsWhen old i (seat_of p d) (at 0 p.ranks d)
        → AfterTake (is_some (seat_of p d)) new i (seat_of p d) (at 0 p.ranks d) (seat_of rest.process d) (at 0 rest.process.ranks d)
        → SitsWhen new i (seat_of rest.process d) (at 0 rest.process.ranks d)
    sits_by d true new rises sits after =
        let moved : AfterTake true new i (seat_of p d) (at 0 p.ranks d) (seat_of rest.process d) (at 0 rest.process.ranks d) = subst
        (λ (x : Option ℕ). AfterTake (is_some x) new i (seat_of p d) (at 0 p.ranks d) (seat_of rest.process d) (at 0 rest.process.ranks d)) sits.0 after in
        subst (λ (b : Bool). SitsWhen b i (seat_of rest.process d) (at 0 rest.process.ranks d)) (sym (rises refl)) (moved.0 ∙ sits.0, moved.1 ∙ sits.1)
    sits_by d false true rises sits after =
        subst (λ (x : Option ℕ). AfterTake (is_some x) true i (seat_of p d) (at 0 p.ranks d) (seat_of rest.process d)
        (at 0 rest.process.ranks d)) sits.0 after
    sits_by d false false rises sits after =
        let moved : AfterTake false false i (seat_of p d) (at 0 p.ranks d) (seat_of rest.process d) (at 0 rest.process.ranks d) = subst
        (λ (x : Option ℕ). AfterTake (is_some x) false i (seat_of p d) (at 0 p.ranks d) (seat_of rest.process d) (at 0 rest.process.ranks d)) sits.0 after in
        (moved.0 ∙ sits.0, let same : at 0 rest.process.ranks d ≡ at 0 p.ranks d = moved.1 in let low = sits.1 in omega (arith, same, low))

    sits_at : (d : ℕ) → d < s.k → Sits rest.process d (ParityNode i)
    sits_at d below =
        subst (λ (x : Membership). SitsWhen (knows_lower x d i) i (seat_of rest.process d) (at 0 rest.process.ranks d)) (sym final)
        (sits_by d (knows_lower p.known d i) (knows_lower (with_dead p.known dead) d i) (lower-still p.known dead d i) (seated.sits d below) (took d below))

    ranks_by : (d : ℕ) (had new : Bool) → AfterTake had new i (seat_of p d) (at 0 p.ranks d) (seat_of rest.process d) (at 0 rest.process.ranks d)
        → (at 0 rest.process.ranks d ≡ at 0 p.ranks d) ⊎ (seat_of rest.process d ≡ Some (at 0 rest.process.ranks d))
    ranks_by d true new after = inl after.1
    ranks_by d false true after = inr (after.0 ∙ ap Some (sym after.1))
    ranks_by d false false after = inl after.1

    ranks_at : (d : ℕ) → d < s.k → (at 0 rest.process.ranks d ≡ at 0 p.ranks d) ⊎ (seat_of rest.process d ≡ Some (at 0 rest.process.ranks d))
    ranks_at d below = ranks_by d (is_some (seat_of p d)) (knows_lower (with_dead p.known dead) d i) (took d below)

  pub noticed : (y : ProcessId) → Seated s p y → Noticed s dead p (notice_comes s dead p) y
  noticed (DataNode e) seated = noticed_data e seated
  noticed (ParityNode i) seated = noticed_parity i seated
