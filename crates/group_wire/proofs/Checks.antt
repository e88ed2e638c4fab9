-- Whether actions may come, one after the other, by computation.
use Rattle.std.proofs.Common.{ℕ, zero, suc, ◌≡◌, ◌≢◌, ◌<◌, ◌≤◌, ◌+◌, ◌⊎◌, inl, inr, nat_le, nat_lt, not, ◌&&◌, ◌||◌}
use Rattle.std.proofs.Common.{Bool, true, false, List, [], ◌∷◌, Option, Some, None, refl, sym, ap, ◌∙◌, arith, All}
use Rattle.std.proofs.lemmas.Bool.{cases_eq}
use Rattle.std.proofs.lemmas.Grind.{common_steps}
use Rattle.std.proofs.lemmas.List.Sums.{AllPass-from_list_all}
use Rattle.std.specs.List.{list_all, range_with_len}
use Rattle.group_types.specs.Dimensions.{Dimensions, callers}
use Rattle.group_types.specs.Names.{IsProcess, index_of, process_at, same_process}
use Rattle.group_types.specs.Shape.{IsShape}
use Rattle.group_types.specs.declared.process.ProcessId.{ProcessId}
use Rattle.group_types.specs.declared.process.ProcessId.TheVariants.{DataNode, ParityNode}
use Rattle.group_types.proofs.Names.{index-below, process_at-index, same-ne, same-refl}
use Rattle.memc_table.specs.Act.{act_value}
use Rattle.group_wire.specs.Actions.{Action, Begin, Send, Read, Treat, Collect, Flush, Learn, Receive, GiveUp, Cut, Say}
use Rattle.group_wire.specs.Actions.{Hear, Permit, Take, Ping, Pong, Count, Show, LetGo, Stop}
use Rattle.group_wire.specs.Composed.{AreActions, AreActionsFrom, Composed, composed_with, opening_composed}
use Rattle.group_wire.specs.May.{AllHaveSaid, CallIsTold, IsCaller, IsHere, IsToldBefore, MayAct, MayRead, MayReadOther}
use Rattle.group_wire.specs.May.{MayShow, WaitsForDead, answerers, call_waits_for}
use Rattle.group_wire.specs.Rows.{small}
use Rattle.group_wire.specs.Sets.{Processes, size_of, with_one}
use Rattle.group_wire.specs.State.{Group, OpenCall, Stage, Unasked, AskedOf, Unknown, TracedAt, Answered, Words, gateway_of}
use Rattle.group_wire.specs.Sending.{heard_first, words_after}
use Rattle.group_wire.proofs.Changes.{changed-each}

both : (a b : Bool) → (a && b) ≡ true → (a ≡ true) × (b ≡ true)
both true b is = (refl, is)
both false b is = cc is

not-is : (a : Bool) → not a ≡ true → a ≡ false
not-is true is = cc is
not-is false is = refl

or-other : (a b : Bool) → (a || b) ≡ true → a ≡ false → b ≡ true
or-other true b is none = cc none
or-other false b is none = is

lt-is : (a b : ℕ) → nat_lt a b ≡ true → a < b
lt-is a b is = grind (arith, common_steps)

le-is : (a b : ℕ) → nat_le a b ≡ true → a ≤ b
le-is a b is = grind (arith, common_steps)

all-below : (f : ℕ → Bool) (n a i : ℕ) → list_all f (range_with_len a n) ≡ true → a ≤ i → i < a + n → f i ≡ true
all-below f zero a i all low high = absurd (omega (arith, low, high))
all-below f (suc n) a i all low high =
    by (cases_eq i a) (λ above. all-below f n (a + 1) i (both (f a) (list_all f (range_with_len (a + 1) n)) all).1 above
    (omega (arith, high))) where
      by : (i ≡ a) ⊎ (i ≢ a) → (a + 1 ≤ i → f i ≡ true) → f i ≡ true
      by (inl same) later = ap f same ∙ (both (f a) (list_all f (range_with_len (a + 1) n)) all).0
      by (inr other) later = later (omega (arith, low, other))

-- a test of all processes of a group
abbrev all_processes : Dimensions → (ProcessId → Bool) → Bool
all_processes s f = list_all (λ i. f (process_at s i)) (range_with_len 0 (s.k + s.m))

all-processes : (s : Dimensions) (f : ProcessId → Bool) → all_processes s f ≡ true → (r : ProcessId) → IsProcess s r → f r ≡ true
all-processes s f all r rin =
    ap f (sym (process_at-index s r rin)) ∙ all-below (λ i. f (process_at s i)) (s.k + s.m) 0 (index_of s r) all
    (omega arith) (let low = index-below s r rin in omega (arith, low))

abbrev is_process : Dimensions → ProcessId → Bool
is_process s (DataNode d) = nat_lt d s.k
is_process s (ParityNode i) = nat_lt i s.m

process-is : (s : Dimensions) (p : ProcessId) → is_process s p ≡ true → IsProcess s p
process-is s (DataNode d) is = lt-is d s.k is
process-is s (ParityNode i) is = lt-is i s.m is

other-is : (p q : ProcessId) → not (same_process p q) ≡ true → p ≢ q
other-is p q is same = cc (not-is (same_process p q) is, ap (same_process p) (sym same), same-refl p)

abbrev is_none : {X : Type 0} → Option X → Bool
is_none None = true
is_none (Some x) = false

none-is : {X : Type 0} (o : Option X) → is_none o ≡ true → o ≡ None
none-is None is = refl
none-is (Some x) is = cc is

module _ (g : Group) where
  abbrev is_here : ProcessId → Bool
  is_here p = is_process g.shape p && not (g.gone p)

  here-is : (p : ProcessId) → is_here p ≡ true → IsHere g p
  here-is p is = let parts = both (is_process g.shape p) (not (g.gone p)) is in
      record { member = process-is g.shape p parts.0; runs = not-is (g.gone p) parts.1 }

  abbrev may_read : ProcessId → ProcessId → Bool
  may_read x p = is_here p && (is_process g.shape x && not (g.words.cut p x))

  read-is : (x p : ProcessId) → may_read x p ≡ true → MayRead g x p
  read-is x p is =
      let parts = both (is_here p) (is_process g.shape x && not (g.words.cut p x)) is in
      let rest = both (is_process g.shape x) (not (g.words.cut p x)) parts.1 in
      record { here = here-is p parts.0; sender = process-is g.shape x rest.0; uncut = not-is (g.words.cut p x) rest.1 }

  abbrev may_read_other : ProcessId → ProcessId → Bool
  may_read_other x p = may_read x p && not (same_process x p)

  read-other-is : (x p : ProcessId) → may_read_other x p ≡ true → MayReadOther g x p
  read-other-is x p is = let parts = both (may_read x p) (not (same_process x p)) is in record { reads = read-is x p parts.0; other = other-is x p parts.1 }

  abbrev is_caller : ℕ → Bool
  is_caller caller = nat_lt caller callers && is_here (gateway_of g.shape caller)

  caller-is : (caller : ℕ) → is_caller caller ≡ true → IsCaller g caller
  caller-is caller is =
      let parts = both (nat_lt caller callers) (is_here (gateway_of g.shape caller)) is in
      record { low = lt-is caller callers parts.0; gateway = here-is (gateway_of g.shape caller) parts.1 }

  abbrev is_taken : ProcessId → Option ProcessId → Bool
  is_taken p None = false
  is_taken p (Some x) = g.words.taken p x

  waits-is : (caller : ℕ) (x : Option ProcessId) → call_waits_for (g.gateways.call caller) ≡ x
      → is_taken (gateway_of g.shape caller) x ≡ true → WaitsForDead g caller
  waits-is caller None call is = cc is
  waits-is caller (Some x) call is = record { member = x; waits = call; taken = is }

  -- what p has heard of r has all that p has cut
  abbrev has_said : ProcessId → ProcessId → Bool
  has_said p r = all_processes g.shape (λ x. not (g.words.cut p x) || g.words.heard p r x)

  abbrev all_have_said : ProcessId → Bool
  all_have_said p = all_processes g.shape (λ r. same_process r p || (g.words.cut p r || has_said p r))

  said-is : (p : ProcessId) → ((x : ProcessId) → g.words.cut p x ≡ true → IsProcess g.shape x) → all_have_said p ≡ true → AllHaveSaid g p
  said-is p inside is r rin other uncut x cut =
      let here = all-processes g.shape (λ r. same_process r p || (g.words.cut p r || has_said p r)) is r rin in
      let said = or-other (g.words.cut p r) (has_said p r) (or-other (same_process r p) (g.words.cut p r || has_said p r) here (same-ne r p other)) uncut in
      or-other (not (g.words.cut p x)) (g.words.heard p r x)
      (all-processes g.shape (λ x. not (g.words.cut p x) || g.words.heard p r x) said x (inside x cut)) (ap not cut)

  abbrev is_told : Stage → ℕ → Bool
  is_told (Answered t pinged) ping = nat_le pinged ping
  is_told _ ping = false

  told-is : (stage : Stage) (ping : ℕ) → is_told stage ping ≡ true → IsToldBefore g stage ping
  told-is (Answered t pinged) ping is = le-is pinged ping is
  told-is Unasked ping is = cc is
  told-is (AskedOf x) ping is = cc is
  told-is Unknown ping is = cc is
  told-is (TracedAt x) ping is = cc is

  abbrev call_is_told : Option OpenCall → ℕ → Bool
  call_is_told None ping = false
  call_is_told (Some opened) ping = is_told opened.stage ping

  call-told-is : (call : Option OpenCall) (ping : ℕ) → call_is_told call ping ≡ true → CallIsTold g call ping
  call-told-is None ping is = cc is
  call-told-is (Some opened) ping is = told-is opened.stage ping is

  abbrev are_enough : ℕ → ℕ → Bool
  are_enough caller ping =
      nat_le g.shape.m (size_of g.shape (answerers g (gateway_of g.shape caller) ping) + size_of g.shape
      (g.words.taken (gateway_of g.shape caller)))

  abbrev may_show : ℕ → ℕ → Bool
  may_show caller ping = call_is_told (g.gateways.call caller) ping && (nat_lt ping (g.signs.pinged (gateway_of g.shape caller)) && are_enough caller ping)

  show-is : (caller ping : ℕ) → may_show caller ping ≡ true → MayShow g caller ping
  show-is caller ping is =
      let parts = both (call_is_told (g.gateways.call caller) ping) (nat_lt ping (g.signs.pinged (gateway_of g.shape caller)) && are_enough caller ping) is in
      let rest = both (nat_lt ping (g.signs.pinged (gateway_of g.shape caller))) (are_enough caller ping) parts.1 in
      record {
        told = call-told-is (g.gateways.call caller) ping parts.0;
        sent = lt-is ping (g.signs.pinged (gateway_of g.shape caller)) rest.0;
        enough = le-is g.shape.m (size_of g.shape (answerers g (gateway_of g.shape caller) ping) + size_of g.shape
            (g.words.taken (gateway_of g.shape caller))) rest.1;
      }

  abbrev are_bytes : List ℕ → Bool
  are_bytes bytes = list_all (λ b. nat_lt b 256) bytes

  bytes-are : (bytes : List ℕ) → are_bytes bytes ≡ true → All (λ b. b < 256) bytes
  bytes-are bytes is k d low = lt-is _ 256 (AllPass-from_list_all (λ b. nat_lt b 256) bytes is k d low)

  abbrev may_act : Action → Bool
  may_act (Begin caller op) = is_caller caller && (is_none (g.gateways.call caller) && are_bytes (act_value op.act))
  may_act (Send caller x) = is_caller caller && is_process g.shape x
  may_act (Read x p) = may_read x p
  may_act (Treat p place) = is_here p
  may_act (Collect caller call p) = nat_lt caller callers && is_here p
  may_act (Flush p) = is_here p
  may_act (Learn x p) = may_read x p
  may_act (Receive x p) = may_read_other x p
  may_act (GiveUp caller) = is_caller caller && is_taken (gateway_of g.shape caller) (call_waits_for (g.gateways.call caller))
  may_act (Cut x p) = is_here p && (is_process g.shape x && (not (same_process x p) && nat_le (size_of g.shape (with_one (g.words.cut p) x)) g.shape.m))
  may_act (Say p) = is_here p
  may_act (Hear x p) = may_read_other x p
  may_act (Permit p) = is_here p && all_have_said p
  may_act (Take x p) = is_here p && (is_process g.shape x && (g.words.permitted p x && not (g.words.taken p x)))
  may_act (Ping to p) = is_here p
  may_act (Pong x p) = may_read_other x p
  may_act (Count x p) = may_read_other x p
  may_act (Show caller ping) = is_caller caller && may_show caller ping
  may_act (LetGo caller) = is_caller caller && is_none (call_waits_for (g.gateways.call caller))
  may_act (Stop p) = is_process g.shape p

  may-is : (a : Action) → ((p x : ProcessId) → g.words.cut p x ≡ true → IsProcess g.shape x) → may_act a ≡ true → MayAct g a
  may-is (Begin caller op) inside is =
      let parts = both (is_caller caller) (is_none (g.gateways.call caller) && are_bytes (act_value op.act)) is in
      let rest = both (is_none (g.gateways.call caller)) (are_bytes (act_value op.act)) parts.1 in
      (caller-is caller parts.0, none-is (g.gateways.call caller) rest.0, bytes-are (act_value op.act) rest.1)
  may-is (Send caller x) inside is = let parts = both (is_caller caller) (is_process g.shape x) is in (caller-is caller parts.0, process-is g.shape x parts.1)
  may-is (Read x p) inside is = read-is x p is
  may-is (Treat p place) inside is = here-is p is
  may-is (Collect caller call p) inside is = let parts = both (nat_lt caller callers) (is_here p) is in (lt-is caller callers parts.0, here-is p parts.1)
  may-is (Flush p) inside is = here-is p is
  may-is (Learn x p) inside is = read-is x p is
  may-is (Receive x p) inside is = read-other-is x p is
  may-is (GiveUp caller) inside is =
      let parts = both (is_caller caller) (is_taken (gateway_of g.shape caller) (call_waits_for (g.gateways.call caller))) is in
      (caller-is caller parts.0, waits-is caller (call_waits_for (g.gateways.call caller)) refl parts.1)
  may-is (Cut x p) inside is =
      let one = both (is_here p) (is_process g.shape x && (not (same_process x p) && nat_le (size_of g.shape (with_one (g.words.cut p) x)) g.shape.m)) is in
      let two = both (is_process g.shape x) (not (same_process x p) && nat_le (size_of g.shape (with_one (g.words.cut p) x)) g.shape.m) one.1 in
      let three = both (not (same_process x p)) (nat_le (size_of g.shape (with_one (g.words.cut p) x)) g.shape.m) two.1 in
      (here-is p one.0, process-is g.shape x two.0, other-is x p three.0, le-is (size_of g.shape (with_one (g.words.cut p) x)) g.shape.m three.1)
  may-is (Say p) inside is = here-is p is
  may-is (Hear x p) inside is = read-other-is x p is
  may-is (Permit p) inside is = let parts = both (is_here p) (all_have_said p) is in (here-is p parts.0, said-is p (inside p) parts.1)
  may-is (Take x p) inside is =
      let one = both (is_here p) (is_process g.shape x && (g.words.permitted p x && not (g.words.taken p x))) is in
      let two = both (is_process g.shape x) (g.words.permitted p x && not (g.words.taken p x)) one.1 in
      let three = both (g.words.permitted p x) (not (g.words.taken p x)) two.1 in
      (here-is p one.0, process-is g.shape x two.0, three.0, not-is (g.words.taken p x) three.1)
  may-is (Ping to p) inside is = here-is p is
  may-is (Pong x p) inside is = read-other-is x p is
  may-is (Count x p) inside is = read-other-is x p is
  may-is (Show caller ping) inside is = let parts = both (is_caller caller) (may_show caller ping) is in (caller-is caller parts.0, show-is caller ping parts.1)
  may-is (LetGo caller) inside is = let parts =
      both (is_caller caller) (is_none (call_waits_for (g.gateways.call caller))) is in
      (caller-is caller parts.0, none-is (call_waits_for (g.gateways.call caller)) parts.1)
  may-is (Stop p) inside is = process-is g.shape p is

-- members cut members
abbrev pub CutsInside : Dimensions → Words → Type 0
CutsInside s words = (p x : ProcessId) → words.cut p x ≡ true → IsProcess s x

pub cuts-inside : (g : Group) (a : Action) → MayAct g a → CutsInside g.shape g.words → CutsInside g.shape (words_after g.words a)
cuts-inside g (Cut y p) may inside = λ q x.
    changed-each (λ q set. set x ≡ true → IsProcess g.shape x) g.words.cut p (with_one (g.words.cut p) y)
    (changed-each (λ x is. is ≡ true → IsProcess g.shape x) (g.words.cut p) y true (λ _. may.1) (λ x other is. inside p x is) x) (λ q other is. inside q x is) q
cuts-inside g (Hear y p) may inside = by (g.words.said y p) where
  by : (sets : List Processes) → CutsInside g.shape (heard_first y p sets g.words)
  by [] = inside
  by (set ∷ rest) = inside
cuts-inside g (Begin caller op) may inside = inside
cuts-inside g (Send caller x) may inside = inside
cuts-inside g (Read x p) may inside = inside
cuts-inside g (Treat p place) may inside = inside
cuts-inside g (Collect caller call p) may inside = inside
cuts-inside g (Flush p) may inside = inside
cuts-inside g (Learn x p) may inside = inside
cuts-inside g (Receive x p) may inside = inside
cuts-inside g (GiveUp caller) may inside = inside
cuts-inside g (Say p) may inside = inside
cuts-inside g (Permit p) may inside = inside
cuts-inside g (Take x p) may inside = inside
cuts-inside g (Ping to p) may inside = inside
cuts-inside g (Pong x p) may inside = inside
cuts-inside g (Count x p) may inside = inside
cuts-inside g (Show caller ping) may inside = inside
cuts-inside g (LetGo caller) may inside = inside
cuts-inside g (Stop p) may inside = inside

abbrev pub all_may : Composed → List Action → Bool
all_may c [] = true
all_may c (a ∷ rest) = may_act c.group a && all_may (composed_with c a) rest

may-from : (c : Composed) (actions : List Action) → CutsInside c.group.shape c.group.words → all_may c actions ≡ true → AreActionsFrom c actions
may-from c [] inside is = tt
may-from c (a ∷ rest) inside is =
    let parts = both (may_act c.group a) (all_may (composed_with c a) rest) is in
    let may : MayAct c.group a = may-is c.group a inside parts.0 in
    (may, may-from (composed_with c a) rest (cuts-inside c.group a may inside) parts.1)

abbrev pub is_small : ℕ → ℕ → Bool
is_small k m = nat_le 1 k && (nat_le k 16 && nat_le m 4)

small-is : (k m : ℕ) → is_small k m ≡ true → IsShape (small k m)
unfolding lib.Count.ones
small-is k m is =
    let one = both (nat_le 1 k) (nat_le k 16 && nat_le m 4) is in
    let two = both (nat_le k 16) (nat_le m 4) one.1 in
    record { k = (le-is 1 k one.0, le-is k 16 two.0); m = le-is m 4 two.1; block = (omega arith, omega arith, refl); blocks = (omega arith, omega arith) }

-- actions that pass the test are a run
pub may-come : (k m : ℕ) (actions : List Action) → is_small k m ≡ true → all_may (opening_composed (small k m)) actions ≡ true → AreActions (small k m) actions
may-come k m actions fits is = (small-is k m fits, may-from (opening_composed (small k m)) actions (λ p x cut. cc cut) is)
