-- What a gateway asked of a member, and still may get: the request is on its way or kept there, its call is held there, or an
-- answer is on its way, unless one of the two has cut the other.
use Rattle.std.proofs.Common.{ℕ, zero, suc, ◌≡◌, ◌⊎◌, inl, inr, Bool, true, false, List, [], ◌∷◌, ◌++◌, Option, Some, None, Contains, refl, sym, ap, subst}
use Rattle.group_types.specs.Dimensions.{Dimensions}
use Rattle.group_types.specs.Hash.{home_of}
use Rattle.group_types.specs.Names.{IsProcess}
use Rattle.group_types.specs.declared.process.ProcessId.{ProcessId}
use Rattle.memc_table.specs.Act.{key_of}
use Rattle.memc_table.specs.Asked.{Asked}
use Rattle.group_calls.specs.declared.event.Answer.{Answer}
use Rattle.group_run.specs.Applying.{held_at}
use Rattle.group_run.specs.Process.{Held, Process}
use Rattle.group_wire.specs.GoingOn.{IsEnd}
use Rattle.group_wire.specs.Sets.{Processes, changed, changed_at, entry_at, one_or, without_nth}
use Rattle.group_wire.specs.State.{Request, AskFor, TraceOf, Told, Stage, Unasked, AskedOf, Unknown, TracedAt, Answered, OpenCall, Gateways, Group, gateway_of}
use Rattle.group_wire.specs.Sending.{sent_on}
use Rattle.group_wire.specs.Serving.{again, stage_given_up, stage_told}
use Rattle.group_wire.proofs.Changes.{changed-each, changed-pairs, changed_at-each, one_or-is}
use Rattle.wire_progress.proofs.Stages.{again-either, told-either}

-- an entry stands in a list
abbrev pub Holds : {X : Type 0} → X → List X → Type 0
Holds x [] = ⊥
Holds x (y ∷ ys) = (x ≡ y) ⊎ Holds x ys

pub holds-last : {X : Type 0} (x : X) (xs : List X) → Holds x (xs ++ x ∷ [])
holds-last x [] = inl refl
holds-last x (y ∷ xs) = inr (holds-last x xs)

pub holds-more : {X : Type 0} (x : X) (xs ys : List X) → Holds x xs → Holds x (xs ++ ys)
holds-more x [] ys there = absurd there
holds-more x (y ∷ xs) ys (inl same) = inl same
holds-more x (y ∷ xs) ys (inr there) = inr (holds-more x xs ys there)

pub holds-without : {X : Type 0} (x : X) (xs : List X) (place : ℕ) → Holds x xs → (entry_at xs place ≡ Some x) ⊎ Holds x (without_nth xs place)
holds-without x [] place there = absurd there
holds-without x (y ∷ xs) zero (inl same) = inl (ap Some (sym same))
holds-without x (y ∷ xs) zero (inr there) = inr there
holds-without x (y ∷ xs) (suc place) (inl same) = inr (inl same)
holds-without x (y ∷ xs) (suc place) (inr there) = by (holds-without x xs place there) where
  by : (entry_at xs place ≡ Some x) ⊎ Holds x (without_nth xs place) → (entry_at xs place ≡ Some x) ⊎ ((x ≡ y) ⊎ Holds x (without_nth xs place))
  by (inl is) = inl is
  by (inr left) = inr (inr left)

pub holds-sent : {X : Type 0} (x : X) (cut : ProcessId → Processes) (wires : ProcessId → ProcessId → List X)
    (p q : ProcessId) (frame : X) (a b : ProcessId) → Holds x (wires a b) → Holds x (sent_on cut wires p q frame a b)
holds-sent x cut wires p q frame = changed-pairs (λ a b xs. Holds x (wires a b) → Holds x xs) wires p q (one_or (cut p q) (wires p q) (wires p q ++ frame ∷ []))
    (λ there. one_or-is (Holds x) (cut p q) (wires p q) (wires p q ++ frame ∷ []) (λ _. there)
    (λ _. holds-more x (wires p q) (frame ∷ []) there)) (λ a b there. there)

-- the caller of a request, and an answer to it
abbrev pub caller_of : Request → ℕ
caller_of (AskFor caller call op) = caller
caller_of (TraceOf caller call d) = caller

abbrev pub answer_to : Request → Answer → Told
answer_to (AskFor caller call op) a = record { caller = caller; call = call; traced = false; answer = a }
answer_to (TraceOf caller call d) a = record { caller = caller; call = call; traced = true; answer = a }

-- a process holds the call that is asked
abbrev pub IsHeld : Dimensions → Process → Request → Type 0
IsHeld s p (AskFor caller call op) = (x : Held) × Contains (held_at p (home_of (key_of op.act) s.k)) x × (x.caller ≡ caller) × (x.call ≡ call)
IsHeld s p (TraceOf caller call d) = ⊥

-- what of a group says where requests are
pub record View : Type 0 where
  pub cut : ProcessId → Processes
  pub process : ProcessId → Process
  pub gateways : Gateways

abbrev pub view : Group → View
view g = record { cut = g.words.cut; process = g.works.process; gateways = g.gateways }

pub data Waits (s : Dimensions) (v : View) (x : ProcessId) (r : Request) : Type 0 where
  Parted : (v.cut (gateway_of s (caller_of r)) x ≡ true) ⊎ (v.cut x (gateway_of s (caller_of r)) ≡ true) → Waits s v x r
  Coming : Holds r (v.gateways.requests (gateway_of s (caller_of r)) x) → Waits s v x r
  Kept : Holds r (v.gateways.parked x) → Waits s v x r
  Holding : IsHeld s (v.process x) r → Waits s v x r
  Answering : (a : Answer) → Holds (answer_to r a) (v.gateways.answers x (gateway_of s (caller_of r))) → Waits s v x r

-- so it is of each open call that waits for a member, which is one of the group; what a call was told has ended it
abbrev pub IsAwaited : Dimensions → View → ℕ → ℕ → Asked → Stage → Type 0
IsAwaited s v caller position op (AskedOf x) = IsProcess s x × Waits s v x (AskFor caller position op)
IsAwaited s v caller position op (TracedAt x) = IsProcess s x × Waits s v x (TraceOf caller position (home_of (key_of op.act) s.k))
IsAwaited s v caller position op (Answered t n) = IsEnd t.answer
IsAwaited s v caller position op _ = Unit {0}

abbrev pub CallAwaited : Dimensions → View → ℕ → Option OpenCall → Type 0
CallAwaited s v caller None = Unit {0}
CallAwaited s v caller (Some o) = IsAwaited s v caller o.position o.op o.stage

abbrev pub Unlost : Dimensions → View → Type 0
Unlost s v = (caller : ℕ) → CallAwaited s v caller (v.gateways.call caller)

-- one that is told, or given up
pub told-awaited : (s : Dimensions) (v : View) (caller position : ℕ) (op : Asked) (t : Told) (n : ℕ) (b : Bool)
    → IsAwaited s v caller position op (stage_told t n t.answer b)
told-awaited s v caller position op t n b = by (told-either t n t.answer b) where
  by : ((stage_told t n t.answer b ≡ Answered t n) × IsEnd t.answer) ⊎ (stage_told t n t.answer b ≡ Unasked)
      ⊎ (stage_told t n t.answer b ≡ Unknown) → IsAwaited s v caller position op (stage_told t n t.answer b)
  by (inl (is, end)) = subst (IsAwaited s v caller position op) (sym is) end
  by (inr (inl is)) = subst (IsAwaited s v caller position op) (sym is) tt
  by (inr (inr is)) = subst (IsAwaited s v caller position op) (sym is) tt

pub given-up-awaited : (s : Dimensions) (v : View) (caller position : ℕ) (op : Asked) (stage : Stage)
    → IsAwaited s v caller position op stage → IsAwaited s v caller position op (stage_given_up op stage)
given-up-awaited s v caller position op (AskedOf x) h = by (again-either op.act) where
  by : (again op.act ≡ Unasked) ⊎ (again op.act ≡ Unknown) → IsAwaited s v caller position op (again op.act)
  by (inl is) = subst (IsAwaited s v caller position op) (sym is) tt
  by (inr is) = subst (IsAwaited s v caller position op) (sym is) tt
given-up-awaited s v caller position op (TracedAt x) h = tt
given-up-awaited s v caller position op Unasked h = tt
given-up-awaited s v caller position op Unknown h = tt
given-up-awaited s v caller position op (Answered t n) h = h

-- nothing of it is lost
abbrev pub Keeps : Dimensions → View → View → Type 0
Keeps s v w = (x : ProcessId) (r : Request) → Waits s v x r → Waits s w x r

module _ (s : Dimensions) (v w : View) (kept : Keeps s v w) where
  pub awaited-kept : (caller position : ℕ) (op : Asked) (stage : Stage) → IsAwaited s v caller position op stage → IsAwaited s w caller position op stage
  awaited-kept caller position op (AskedOf x) h = (h.0, kept x (AskFor caller position op) h.1)
  awaited-kept caller position op (TracedAt x) h = (h.0, kept x (TraceOf caller position (home_of (key_of op.act) s.k)) h.1)
  awaited-kept caller position op Unasked h = tt
  awaited-kept caller position op Unknown h = tt
  awaited-kept caller position op (Answered t n) h = h

  pub call-kept : (caller : ℕ) (call : Option OpenCall) → CallAwaited s v caller call → CallAwaited s w caller call
  call-kept caller None h = tt
  call-kept caller (Some o) h = awaited-kept caller o.position o.op o.stage h

  -- calls stay, or one becomes another
  pub unlost-kept : w.gateways.call ≡ v.gateways.call → Unlost s v → Unlost s w
  unlost-kept same h = λ caller.
      subst (λ (calls : ℕ → Option OpenCall). CallAwaited s w caller (calls caller)) (sym same) (call-kept caller (v.gateways.call caller) (h caller))

  pub unlost-call : (caller : ℕ) (now : Option OpenCall) → w.gateways.call ≡ changed_at v.gateways.call caller now
      → CallAwaited s w caller now → Unlost s v → Unlost s w
  unlost-call caller now same here h = λ c.
      subst (λ (calls : ℕ → Option OpenCall). CallAwaited s w c (calls c)) (sym same)
      (changed_at-each (λ c call. CallAwaited s w c call) v.gateways.call caller now here (λ c _. call-kept c (v.gateways.call c) (h c)) c)

-- requests and answers stay where they are
pub same-kept : (s : Dimensions) (v : View) (gw : Gateways) → gw.requests ≡ v.gateways.requests
    → gw.parked ≡ v.gateways.parked → gw.answers ≡ v.gateways.answers → Keeps s v (record v { gateways = gw })
same-kept s v gw one two three x r (Parted is) = Parted is
same-kept s v gw one two three x r (Coming there) =
    Coming (subst (λ (w : ProcessId → ProcessId → List Request). Holds r (w (gateway_of s (caller_of r)) x)) (sym one)
    there)
same-kept s v gw one two three x r (Kept there) = Kept (subst (λ (w : ProcessId → List Request). Holds r (w x)) (sym two) there)
same-kept s v gw one two three x r (Holding is) = Holding is
same-kept s v gw one two three x r (Answering a there) =
    Answering a (subst (λ (w : ProcessId → ProcessId → List Told). Holds (answer_to r a)
    (w x (gateway_of s (caller_of r)))) (sym three) there)

-- a process that holds what it held
pub held-changed : (s : Dimensions) (process : ProcessId → Process) (p : ProcessId) (q : Process)
    → ((e : ℕ) (y : Held) → Contains (held_at (process p) e) y → Contains (held_at q e) y)
    → (x : ProcessId) (r : Request) → IsHeld s (process x) r → IsHeld s (changed process p q x) r
held-changed s process p q more x r = changed-each (λ x now. IsHeld s (process x) r → IsHeld s now r) process p q (here r) (λ x _ is. is) x where
  here : (r : Request) → IsHeld s (process p) r → IsHeld s q r
  here (AskFor caller call op) (y, there, whose, which) = (y, more (home_of (key_of op.act) s.k) y there, whose, which)
  here (TraceOf caller call d) none = none

pub held-kept : (s : Dimensions) (v : View) (p : ProcessId) (q : Process)
    → ((e : ℕ) (y : Held) → Contains (held_at (v.process p) e) y → Contains (held_at q e) y)
    → Keeps s v (record v { process = changed v.process p q })
held-kept s v p q more x r (Parted is) = Parted is
held-kept s v p q more x r (Coming there) = Coming there
held-kept s v p q more x r (Kept there) = Kept there
held-kept s v p q more x r (Holding is) = Holding (held-changed s v.process p q more x r is)
held-kept s v p q more x r (Answering a there) = Answering a there
