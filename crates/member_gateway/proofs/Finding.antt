-- Where in the steps of all members a call of one began.
use Rattle.std.specs.Prelude.{All}
use Rattle.std.proofs.Common.{ℕ, ◌≡◌, ◌≢◌, Bool, true, false, List, [], ◌∷◌, ◌++◌, refl, sym, ap, subst, ◌∙◌}
use Rattle.std.proofs.lemmas.List.Elements.{All-head, All-tail}
use Rattle.group_types.specs.Names.{same_process}
use Rattle.group_types.specs.declared.process.ProcessId.{ProcessId}
use Rattle.group_types.proofs.Names.{same-eq, same-refl}
use Rattle.group_wire.specs.Sets.{one_or}
use Rattle.member_runs.specs.System.{SystemStep}
use Rattle.member_gateway.specs.Calls.{LeavesOpen, MadeCall}
use Rattle.member_gateway.specs.Laws.{calls_at}
use Rattle.member_gateway.proofs.Bridging.{LeaveOpen}

abbrev step_by : ProcessId → MadeCall → SystemStep
step_by p c = record { at = p; call = c.call; after = c.after }

head_or : MadeCall → List MadeCall → MadeCall
head_or c [] = c
head_or c (x ∷ xs) = x

rest : List MadeCall → List MadeCall
rest [] = []
rest (x ∷ xs) = xs

-- steps of others, one of the member, and the steps behind it
pub record IsFound (p : ProcessId) (steps : List SystemStep) (c : MadeCall) (calls : List MadeCall) : Type 0 where
  pub others : List SystemStep
  pub behind : List SystemStep
  pub is : steps ≡ others ++ step_by p c ∷ behind
  pub calls_are : calls_at p behind ≡ calls

found-by : (p : ProcessId) (t : SystemStep) (steps : List SystemStep) (c : MadeCall) (calls : List MadeCall)
    → (calls_at p steps ≡ c ∷ calls → IsFound p steps c calls) → calls_at p (t ∷ steps) ≡ c ∷ calls → IsFound p (t ∷ steps) c calls
unfolding head_or rest
found-by p t steps c calls later is = by (same_process t.at p) refl where
  made : MadeCall
  made = record { call = t.call; after = t.after }

  seen : (b : Bool) → same_process t.at p ≡ b → one_or b (made ∷ calls_at p steps) (calls_at p steps) ≡ c ∷ calls
  seen b e = ap (λ (z : Bool). one_or z (made ∷ calls_at p steps) (calls_at p steps)) (sym e) ∙ is

  by : (b : Bool) → same_process t.at p ≡ b → IsFound p (t ∷ steps) c calls
  by true same = record {
    others = [];
    behind = steps;
    is = ap (λ (x : ProcessId). step_by x made ∷ steps) (same-eq t.at p same) ∙ ap (λ (d : MadeCall). step_by p d ∷ steps) (ap (head_or made) (seen true same));
    calls_are = ap rest (seen true same);
  }
  by false other =
      let further = later (seen false other) in
      record { others = t ∷ further.others; behind = further.behind; is = ap (λ (l : List SystemStep). t ∷ l) further.is; calls_are = further.calls_are }

pub found : (p : ProcessId) (steps : List SystemStep) (c : MadeCall) (calls : List MadeCall) → calls_at p steps ≡ c ∷ calls → IsFound p steps c calls
found p [] c calls is = absurd (cc is)
found p (t ∷ steps) c calls is = found-by p t steps c calls (found p steps c calls) is

apart : (p q : ProcessId) → same_process p q ≡ false → p ≢ q
apart p q other same = cc (other, same-refl p, ap (same_process p) same)

leave-by : (p : ProcessId) (caller : ℕ) (t : SystemStep) (steps : List SystemStep) → (All (LeavesOpen caller) (calls_at p steps) → LeaveOpen p caller steps)
    → All (LeavesOpen caller) (calls_at p (t ∷ steps)) → LeaveOpen p caller (t ∷ steps)
leave-by p caller t steps later all = by (same_process t.at p) refl where
  made : MadeCall
  made = record { call = t.call; after = t.after }

  seen : (b : Bool) → same_process t.at p ≡ b → All (LeavesOpen caller) (one_or b (made ∷ calls_at p steps) (calls_at p steps))
  seen b is = subst (λ (z : Bool). All (LeavesOpen caller) (one_or z (made ∷ calls_at p steps) (calls_at p steps))) is all

  by : (b : Bool) → same_process t.at p ≡ b → LeaveOpen p caller (t ∷ steps)
  by true same = (
    λ at. All-head (LeavesOpen caller) made (calls_at p steps) (seen true same),
    later (All-tail (LeavesOpen caller) made (calls_at p steps) (seen true same)),
  )
  by false other = (λ at. absurd (apart t.at p other at), later (seen false other))

pub leave-open : (p : ProcessId) (caller : ℕ) (steps : List SystemStep) → All (LeavesOpen caller) (calls_at p steps) → LeaveOpen p caller steps
leave-open p caller [] all = tt
leave-open p caller (t ∷ steps) all = leave-by p caller t steps (leave-open p caller steps) all
