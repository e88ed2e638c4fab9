-- What is promised of a run of the group holds of members side by side.
use Rattle.std.proofs.Common.{ℕ, ◌≡◌, Option, Some, None, sym, ap, subst, ◌∙◌}
use Rattle.group_types.specs.Dimensions.{Dimensions}
use Rattle.group_types.specs.Names.{IsProcess}
use Rattle.group_types.specs.declared.process.ProcessId.{ProcessId}
use Rattle.membership.specs.Members.{knows_dead}
use Rattle.group_wire.specs.Composed.{opening_composed}
use Rattle.group_wire.specs.Composition.{RunsCompose}
use Rattle.group_wire.specs.FromWhom.{CallersAreTheirs}
use Rattle.group_wire.specs.Laws.{BarrierAlways, MoreDataThanParity}
use Rattle.group_wire.specs.Shown.{ShownIsLogged}
use Rattle.group_wire.specs.State.{Answered, AskedOf, Group, Stage, Told, TracedAt, Unasked, Unknown}
use Rattle.group_member.specs.Callers.{answer_told_at}
use Rattle.member_runs.specs.Calls.{HasCalled, MemberCall}
use Rattle.member_runs.specs.Laws.{AllStand, MembersAreBarred, MembersAreTheMachine, MembersShowLogged, NoTwoMembersHoldAll, composed_of}
use Rattle.member_runs.specs.System.{System, after_steps, all_actions}
use Rattle.member_runs.proofs.Reaching.{shape-all}
use Rattle.member_runs.proofs.Running.{make-a-run}

-- a member of the group stands under its own name
at-name : (g : Group) (y : System) (p : ProcessId) → AllStand g y → IsProcess g.shape p
    → (g.works.process p ≡ (y.members p).node.process) × ((x : ProcessId) → g.words.cut p x ≡ knows_dead (y.members p).words.cut x)
at-name g y p stand member =
    let own = stand p member in (
      ap g.works.process (sym own.0) ∙ own.1.works.process,
      λ x. ap (λ (z : ProcessId). g.words.cut z x) (sym own.0) ∙ own.1.words.cut x,
    )

pub are-the-machine : CallersAreTheirs → RunsCompose → MembersAreTheMachine
are-the-machine always composes s y steps made =
    let run = make-a-run always s y steps made in
    let c = composed_of s y steps in
    let is = composes s (all_actions y steps) run.run in
    record {
      composed = is;
      processes = λ p lives. is.processes p lives ∙ (at-name c.group (after_steps y steps) p run.stand lives.member).0;
    }

pub are-barred : CallersAreTheirs → BarrierAlways → MembersAreBarred
are-barred always barrier s y steps made =
    let run = make-a-run always s y steps made in
    let c = composed_of s y steps in
    let is = barrier s (all_actions y steps) run.run in
    record {
      few = is.few;
      cut = λ p x lives failed. sym ((at-name c.group (after_steps y steps) p run.stand lives.member).1 x) ∙ is.cut p lives.member lives.lives x failed;
    }

-- what was told stands in the stage
told-stage : (stage : Stage) (t : Told) → answer_told_at stage ≡ Some t → (pinged : ℕ) × (stage ≡ Answered t pinged)
told-stage (Answered told pinged) t is = (pinged, ap (λ (o : Option Told). Answered (told_or told o) pinged) is) where
  told_or : Told → Option Told → Told
  told_or u None = u
  told_or u (Some v) = v
told-stage Unasked t is = absurd (cc is)
told-stage (AskedOf x) t is = absurd (cc is)
told-stage Unknown t is = absurd (cc is)
told-stage (TracedAt x) t is = absurd (cc is)

pub show-logged : CallersAreTheirs → ShownIsLogged → MembersShowLogged
show-logged always logged s y steps t caller o told reply made apart next is =
    let run = make-a-run always s y steps made in
    let c = composed_of s y steps in
    let now = after_steps y steps in
    let own = run.stand t.at (subst (λ (d : Dimensions). IsProcess d t.at) (sym (shape-all (opening_composed s) (all_actions y steps))) next.may.member) in
    let called = subst (λ (call : MemberCall). HasCalled call (now.members t.at) t.after) next.shows next.may.called in
    let acts = called.1 c.group (now.out t.at) own.1 in
    let opened = own.1.callers.call caller called.0 ∙ next.opened in
    let stage = told-stage o.stage told next.answered in
    logged s (all_actions y steps) caller next.ping o told reply run.run apart acts.may.0
    (record { pinged = stage.0; call = opened; stage = stage.1 }) is

pub no-two : CallersAreTheirs → MoreDataThanParity → NoTwoMembersHoldAll
no-two always more s y steps made fewer = more s (all_actions y steps) (make-a-run always s y steps made).run fewer
