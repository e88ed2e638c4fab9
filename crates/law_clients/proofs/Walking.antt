-- Steps of members side by side, by the calls that one member made in them.
use Rattle.std.proofs.Common.{ℕ, ◌≡◌, ◌≤◌, Bool, true, false, List, [], ◌∷◌, ◌++◌, Some, length, refl, sym, ap, subst, ◌∙◌}
use Rattle.std.proofs.lemmas.List.{append_assoc}
use Rattle.std.specs.Prelude.{slice_get}
use Rattle.group_types.specs.Dimensions.{Dimensions}
use Rattle.group_types.specs.Names.{same_process}
use Rattle.group_types.specs.declared.process.ProcessId.{ProcessId}
use Rattle.group_types.proofs.Names.{same-eq, same-refl}
use Rattle.group_calls.specs.declared.entry.Entry.{Entry}
use Rattle.group_wire.specs.Actions.{Action}
use Rattle.group_wire.specs.Composed.{AreActions, Composed, composed}
use Rattle.group_wire.specs.Composition.{machine}
use Rattle.group_wire.specs.Laws.{NoTwoHoldAll}
use Rattle.group_wire.specs.Sets.{changed, one_or}
use Rattle.group_wire.proofs.Changes.{changed-here, changed-other}
use Rattle.group_wire.proofs.FromWhom.{callers_are_theirs}
use Rattle.group_member.specs.Standing.{Member}
use Rattle.member_runs.specs.Calls.{actions_of}
use Rattle.member_runs.specs.Laws.{HaveMade, composed_of}
use Rattle.member_runs.specs.System.{AreSystemSteps, System, SystemStep, after_step, after_steps, all_actions}
use Rattle.member_runs.proofs.Running.{make-a-run}
use Rattle.member_gateway.specs.Calls.{AreMade, MadeCall}
use Rattle.member_gateway.specs.Laws.{calls_at}
use Rattle.law_clients.specs.Logged.{log_by, step_of}
use Rattle.law_clients.proofs.Growing.{entry-stays, log-longer, no-two-before}

first_or : MadeCall → List MadeCall → MadeCall
first_or c [] = c
first_or c (x ∷ xs) = x

rest : List MadeCall → List MadeCall
rest [] = []
rest (x ∷ xs) = xs

-- the step of a call among those of a member: steps before it, and steps behind it
pub record IsMet (p : ProcessId) (steps : List SystemStep) (xs : List MadeCall) (c : MadeCall) (ys : List MadeCall) : Type 0 where
  pub front : List SystemStep
  pub behind : List SystemStep
  pub is : steps ≡ front ++ step_of p c.call c.after ∷ behind
  pub earlier : calls_at p front ≡ xs
  pub later : calls_at p behind ≡ ys

met-by : (p : ProcessId) (t : SystemStep) (steps : List SystemStep) (xs : List MadeCall) (c : MadeCall) (ys : List MadeCall)
    → ((zs : List MadeCall) → calls_at p steps ≡ zs ++ c ∷ ys → IsMet p steps zs c ys) → calls_at p (t ∷ steps) ≡ xs ++ c ∷ ys → IsMet p (t ∷ steps) xs c ys
unfolding first_or rest
met-by p t steps xs c ys further is = by (same_process t.at p) refl where
  made : MadeCall
  made = record { call = t.call; after = t.after }

  seen : (b : Bool) → same_process t.at p ≡ b → one_or b (made ∷ calls_at p steps) (calls_at p steps) ≡ xs ++ c ∷ ys
  seen b e = ap (λ (z : Bool). one_or z (made ∷ calls_at p steps) (calls_at p steps)) (sym e) ∙ is

  in-front : (b : Bool) → same_process t.at p ≡ b → (l : List SystemStep) → calls_at p (t ∷ l) ≡ one_or b (made ∷ calls_at p l) (calls_at p l)
  in-front b e l = ap (λ (z : Bool). one_or z (made ∷ calls_at p l) (calls_at p l)) e

  own : same_process t.at p ≡ true → (zs : List MadeCall) → made ∷ calls_at p steps ≡ zs ++ c ∷ ys → IsMet p (t ∷ steps) zs c ys
  own same [] here = record {
    front = [];
    behind = steps;
    is = ap (λ (x : ProcessId). step_of x t.call t.after ∷ steps) (same-eq t.at p same)
        ∙ ap (λ (d : MadeCall). step_of p d.call d.after ∷ steps) (ap (first_or made) here);
    earlier = refl;
    later = ap rest here;
  }
  own same (z ∷ zs) there =
      let more = further zs (ap rest there) in
      record {
        front = t ∷ more.front;
        behind = more.behind;
        is = ap (λ (l : List SystemStep). t ∷ l) more.is;
        earlier = in-front true same more.front ∙ ap (λ (l : List MadeCall). made ∷ l) more.earlier
            ∙ ap (λ (d : MadeCall). d ∷ zs) (ap (first_or made) there);
        later = more.later;
      }

  by : (b : Bool) → same_process t.at p ≡ b → IsMet p (t ∷ steps) xs c ys
  by true same = own same xs (seen true same)
  by false other =
      let more = further xs (seen false other) in
      record {
        front = t ∷ more.front;
        behind = more.behind;
        is = ap (λ (l : List SystemStep). t ∷ l) more.is;
        earlier = in-front false other more.front ∙ more.earlier;
        later = more.later;
      }

not-none : (xs : List MadeCall) (c : MadeCall) (ys : List MadeCall) → [] ≡ xs ++ c ∷ ys → ⊥
not-none [] c ys is = cc is
not-none (x ∷ xs) c ys is = cc is

pub met : (p : ProcessId) (steps : List SystemStep) (xs : List MadeCall) (c : MadeCall) (ys : List MadeCall)
    → calls_at p steps ≡ xs ++ c ∷ ys → IsMet p steps xs c ys
met p [] xs c ys is = absurd (not-none xs c ys is)
met p (t ∷ steps) xs c ys is = met-by p t steps xs c ys (λ zs. met p steps zs c ys) is

-- a member after its calls
last_of : Member → List MadeCall → Member
last_of v [] = v
last_of v (c ∷ calls) = last_of c.after calls

made-last : (v : Member) (calls : List MadeCall) (w : Member) → AreMade v calls w → w ≡ last_of v calls
unfolding last_of
made-last v [] w made = made
made-last v (c ∷ calls) w made = made-last c.after calls w made.1

last-by : (y : System) (t : SystemStep) (p : ProcessId) (calls : List MadeCall)
    → last_of ((after_step y t).members p) calls ≡ last_of (y.members p)
    (one_or (same_process t.at p) (record { call = t.call; after = t.after } ∷ calls) calls)
unfolding last_of
last-by y t p calls = by (same_process t.at p) refl where
  by : (b : Bool) → same_process t.at p ≡ b
      → last_of ((after_step y t).members p) calls ≡ last_of (y.members p) (one_or b (record { call = t.call; after = t.after } ∷ calls) calls)
  by true same = ap (λ (v : Member). last_of v calls)
      (ap (λ (x : ProcessId). changed y.members x t.after p) (same-eq t.at p same) ∙ changed-here y.members p t.after)
  by false other = ap (λ (v : Member). last_of v calls)
      (changed-other y.members t.at p t.after (λ (is : p ≡ t.at). cc (other, same-refl t.at, ap (same_process t.at) is)))

member-last : (y : System) (steps : List SystemStep) (p : ProcessId) → (after_steps y steps).members p ≡ last_of (y.members p) (calls_at p steps)
unfolding last_of
member-last y [] p = refl
member-last y (t ∷ steps) p = member-last (after_step y t) steps p ∙ last-by y t p (calls_at p steps)

pub member-after : (y : System) (steps : List SystemStep) (p : ProcessId) (v : Member) (calls : List MadeCall) (w : Member)
    → y.members p ≡ v → calls_at p steps ≡ calls → AreMade v calls w → (after_steps y steps).members p ≡ w
member-after y steps p v calls w at are made =
    member-last y steps p
    ∙ ap (λ (m : Member). last_of m (calls_at p steps)) at
    ∙ ap (λ (l : List MadeCall). last_of v l) are
    ∙ sym (made-last v calls w made)

-- steps behind others
pub steps-joined : (y : System) (xs ys : List SystemStep) → after_steps y (xs ++ ys) ≡ after_steps (after_steps y xs) ys
steps-joined y [] ys = refl
steps-joined y (t ∷ xs) ys = steps-joined (after_step y t) xs ys

actions-joined : (y : System) (xs ys : List SystemStep) → all_actions y (xs ++ ys) ≡ all_actions y xs ++ all_actions (after_steps y xs) ys
actions-joined y [] ys = refl
actions-joined y (t ∷ xs) ys =
    ap (λ (l : List Action). actions_of t.call (y.members t.at) ++ l) (actions-joined (after_step y t) xs ys)
    ∙ sym (append_assoc (actions_of t.call (y.members t.at)) (all_actions (after_step y t) xs) (all_actions (after_steps (after_step y t) xs) ys))

steps-parts : (s : Dimensions) (y : System) (xs ys : List SystemStep) → AreSystemSteps s y (xs ++ ys) → AreSystemSteps s y xs
steps-parts s y [] ys made = tt
steps-parts s y (t ∷ xs) ys made = (made.0, steps-parts s (after_step y t) xs ys made.1)

pub made-front : (s : Dimensions) (y : System) (xs ys : List SystemStep) → HaveMade s y (xs ++ ys) → HaveMade s y xs
made-front s y xs ys made = record { shape = made.shape; opening = made.opening; made = steps-parts s y xs ys made.made }

-- the run that steps make, in two parts
module _ (s : Dimensions) (y : System) (xs ys : List SystemStep) (made : HaveMade s y (xs ++ ys)) where
  pub run-by : AreActions s (all_actions y xs ++ all_actions (after_steps y xs) ys)
  run-by = subst (λ (l : List Action). AreActions s l) (actions-joined y xs ys) (make-a-run callers_are_theirs s y (xs ++ ys) made).run

  pub same-run : composed s (all_actions y xs ++ all_actions (after_steps y xs) ys) ≡ composed_of s y (xs ++ ys)
  same-run = ap (composed s) (sym (actions-joined y xs ys))

  pub log-after : length (log_by s y xs) ≤ length (log_by s y (xs ++ ys))
  log-after = subst (λ (c : Composed). length (log_by s y xs) ≤ length (machine c).log) same-run
      (log-longer s (all_actions y xs) (all_actions (after_steps y xs) ys) run-by)

  pub entry-after : (place : ℕ) (e : Entry) → slice_get (log_by s y xs) place ≡ Some e → slice_get (log_by s y (xs ++ ys)) place ≡ Some e
  entry-after place e is = subst (λ (c : Composed). slice_get (machine c).log place ≡ Some e) same-run
      (entry-stays s (all_actions y xs) (all_actions (after_steps y xs) ys) run-by place e is)

  pub apart-before : NoTwoHoldAll (composed_of s y (xs ++ ys)).group → NoTwoHoldAll (composed_of s y xs).group
  apart-before apart = no-two-before s (all_actions y xs) (all_actions (after_steps y xs) ys) run-by
      (subst (λ (c : Composed). NoTwoHoldAll c.group) (sym same-run) apart)
