-- Who begins and ends the calls of a caller: the member whose caller it is, and no other.
use Rattle.std.specs.Prelude.{⊤}
use Rattle.std.proofs.Common.{ℕ, ◌≡◌, ◌≢◌, List, [], ◌∷◌, ◌++◌, Some, None, refl, sym, ap, subst, ◌∙◌}
use Rattle.group_types.specs.Dimensions.{Dimensions}
use Rattle.group_types.specs.Names.{IsProcess}
use Rattle.group_types.specs.declared.process.ProcessId.{ProcessId}
use Rattle.memc_table.specs.Asked.{Asked}
use Rattle.group_wire.specs.Composed.{opening_composed}
use Rattle.group_wire.specs.FromWhom.{CallersAreTheirs}
use Rattle.group_wire.specs.State.{gateway_of}
use Rattle.group_member.specs.Callers.{IsItsCaller}
use Rattle.group_member.specs.Standing.{Member}
use Rattle.member_runs.specs.Calls.{HasCalled, MemberCall, Receives, Cuts, Says, Hears, Permits, Takes, Flushes}
use Rattle.member_runs.specs.Calls.{HandsOut, TakesLost, Pings, Pongs, Counts, Begins, Sends, SendsHere, Reads, Treats}
use Rattle.member_runs.specs.Calls.{Learns, Collects, GivesUp, Shows, LetsGo}
use Rattle.member_runs.specs.Laws.{HaveMade, composed_of}
use Rattle.member_runs.specs.System.{AreSystemSteps, MayStep, System, SystemStep, after_step, after_steps, all_actions}
use Rattle.member_runs.proofs.Others.{its-gateway}
use Rattle.member_runs.proofs.Reaching.{shape-all}
use Rattle.member_runs.proofs.Running.{make-a-run}
use Rattle.member_gateway.specs.Calls.{begun_or_ended}
use Rattle.member_gateway.proofs.Lasting.{LeaveAlone}

-- steps in which the member of a process neither begins nor ends a call of a caller
abbrev pub LeaveOpen : ProcessId → ℕ → List SystemStep → Type 0
LeaveOpen p caller [] = ⊤
LeaveOpen p caller (t ∷ steps) = (t.at ≡ p → begun_or_ended t.call ≢ Some caller) × LeaveOpen p caller steps

-- steps, one in which a call of the op begins at a caller of a member, and steps since
abbrev pub since_begun : List SystemStep → ProcessId → ℕ → Asked → Member → List SystemStep → List SystemStep
since_begun before p caller op after since = before ++ record { at = p; call = Begins caller op; after = after } ∷ since

front-steps : (s : Dimensions) (y : System) (xs ys : List SystemStep) → AreSystemSteps s y (xs ++ ys)
    → AreSystemSteps s y xs × AreSystemSteps s (after_steps y xs) ys
front-steps s y [] ys made = (tt, made)
front-steps s y (x ∷ xs) ys made = let rest = front-steps s (after_step y x) xs ys made.1 in ((made.0, rest.0), rest.1)

one-further : (xs : List SystemStep) (t : SystemStep) (ys : List SystemStep) → xs ++ (t ∷ ys) ≡ (xs ++ t ∷ []) ++ ys
one-further [] t ys = refl
one-further (x ∷ xs) t ys = ap (λ (l : List SystemStep). x ∷ l) (one-further xs t ys)

-- a caller that a member takes for its own is one of the member's process
at-gateway : CallersAreTheirs → (s : Dimensions) (y : System) (steps : List SystemStep) (t : SystemStep) (caller : ℕ) → HaveMade s y steps
    → MayStep s (after_steps y steps) t → IsItsCaller ((after_steps y steps).members t.at).callers caller → gateway_of s caller ≡ t.at
at-gateway always s y steps t caller made may its =
    let run = make-a-run always s y steps made in
    let is : (composed_of s y steps).group.shape ≡ s = shape-all (opening_composed s) (all_actions y steps) in
    let own = run.stand t.at (subst (λ (d : Dimensions). IsProcess d t.at) (sym is) may.member) in
    let v : Member = (after_steps y steps).members t.at in
    let member : IsProcess v.words.shape v.words.name = subst (λ (d : Dimensions). IsProcess d v.words.name) own.1.shape own.1.here.member in
    ap (λ (d : Dimensions). gateway_of d caller) (sym is ∙ own.1.shape) ∙ its-gateway v.words.shape v.words.name v.callers caller own.1.own member its ∙ own.0

none-some : (n : ℕ) → None ≢ Some n
none-some n is = cc

same-number : (a b : ℕ) → Some a ≡ Some b → a ≡ b
same-number a b is = cc

moved : (v : Member) (n caller : ℕ) → IsItsCaller v.callers n → Some n ≡ Some caller → IsItsCaller v.callers caller
moved v n caller its is = subst (λ (i : ℕ). IsItsCaller v.callers i) (same-number n caller is) its

-- a call that begins or ends the call of a caller is made of one of the member's callers
turns-its : (call : MemberCall) (before after : Member) (caller : ℕ) → HasCalled call before after
    → begun_or_ended call ≡ Some caller → IsItsCaller before.callers caller
turns-its (Begins n op) before after caller called is = moved before n caller called.0 is
turns-its (Shows n ping) before after caller called is = moved before n caller called.0 is
turns-its (LetsGo n) before after caller called is = moved before n caller called.0 is
turns-its (Receives from m) before after caller called is = absurd (none-some caller is)
turns-its (Cuts x) before after caller called is = absurd (none-some caller is)
turns-its (Says set) before after caller called is = absurd (none-some caller is)
turns-its (Hears from set) before after caller called is = absurd (none-some caller is)
turns-its Permits before after caller called is = absurd (none-some caller is)
turns-its (Takes x) before after caller called is = absurd (none-some caller is)
turns-its Flushes before after caller called is = absurd (none-some caller is)
turns-its (HandsOut to m) before after caller called is = absurd (none-some caller is)
turns-its TakesLost before after caller called is = absurd (none-some caller is)
turns-its (Pings to ping) before after caller called is = absurd (none-some caller is)
turns-its (Pongs from ping) before after caller called is = absurd (none-some caller is)
turns-its (Counts from ping) before after caller called is = absurd (none-some caller is)
turns-its (Sends n to r) before after caller called is = absurd (none-some caller is)
turns-its (SendsHere n) before after caller called is = absurd (none-some caller is)
turns-its (Reads from r) before after caller called is = absurd (none-some caller is)
turns-its (Treats place told) before after caller called is = absurd (none-some caller is)
turns-its (Learns from t) before after caller called is = absurd (none-some caller is)
turns-its (Collects n call told) before after caller called is = absurd (none-some caller is)
turns-its (GivesUp n) before after caller called is = absurd (none-some caller is)

leave-alone : CallersAreTheirs → (s : Dimensions) (y : System) (done steps : List SystemStep) (p : ProcessId) (caller : ℕ) → gateway_of s caller ≡ p
    → HaveMade s y (done ++ steps) → LeaveOpen p caller steps → LeaveAlone caller steps
leave-alone always s y done [] p caller gateway made leave = tt
leave-alone always s y done (t ∷ steps) p caller gateway made leave =
    let parts = front-steps s y done (t ∷ steps) made.made in
    let before : HaveMade s y done = record { shape = made.shape; opening = made.opening; made = parts.0 } in
    let more : HaveMade s y ((done ++ t ∷ []) ++ steps) = subst (λ (l : List SystemStep). HaveMade s y l) (one-further done t steps) made in (
      λ is. leave.0 (sym (at-gateway always s y done t caller before parts.1.0
          (turns-its t.call ((after_steps y done).members t.at) t.after caller parts.1.0.called is)) ∙ gateway) is,
      leave-alone always s y (done ++ t ∷ []) steps p caller gateway more leave.1,
    )

-- where the member at which a call began leaves it open, all steps since do
pub since-alone : CallersAreTheirs → (s : Dimensions) (y : System) (before since : List SystemStep) (p : ProcessId) (caller : ℕ) (op : Asked) (after : Member)
    → HaveMade s y (since_begun before p caller op after since) → LeaveOpen p caller since → LeaveAlone caller since
since-alone always s y before since p caller op after made leave =
    let step : SystemStep = record { at = p; call = Begins caller op; after = after } in
    let parts = front-steps s y before (step ∷ since) made.made in
    let done : HaveMade s y before = record { shape = made.shape; opening = made.opening; made = parts.0 } in
    let more : HaveMade s y ((before ++ step ∷ []) ++ since) = subst (λ (l : List SystemStep). HaveMade s y l) (one-further before step since) made in
    leave-alone always s y (before ++ step ∷ []) since p caller (at-gateway always s y before step caller done parts.1.0 parts.1.0.called.0) more leave
