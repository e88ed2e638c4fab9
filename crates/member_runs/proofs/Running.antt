-- Members side by side make a run of the group on its machines.
use Rattle.std.proofs.Common.{List, [], ◌∷◌, refl, sym, ap, subst}
use Rattle.group_types.specs.Dimensions.{Dimensions}
use Rattle.group_types.specs.Names.{IsProcess}
use Rattle.group_wire.specs.Composed.{AreActionsFrom, Composed, composed_from, opening_composed}
use Rattle.group_wire.specs.FromWhom.{CallersAreTheirs}
use Rattle.group_wire.specs.State.{opening_group}
use Rattle.group_member.specs.Standing.{HandedFrames, Member, MemberStands}
use Rattle.member_runs.specs.Calls.{actions_of}
use Rattle.member_runs.specs.Laws.{MembersMakeARun}
use Rattle.member_runs.specs.System.{AreSystemSteps, IsOpening, System, SystemStep, after_step, after_steps, all_actions}
use Rattle.member_runs.proofs.Reaching.{IsReached, composed-more, from-more, goes-on, shape-reached}
use Rattle.member_runs.proofs.Stepping.{Stand, step-stands}

stand-new : (s : Dimensions) (y : System) → IsOpening s y → Stand s (opening_group s) y
stand-new s y new p member =
    let v = new.members p member in
    (ap (λ (m : Member). m.words.name) v.opening, subst (λ (out : HandedFrames). MemberStands (opening_group s) out (y.members p)) (sym (new.out p)) v.stands)

module _ (always : CallersAreTheirs) (s : Dimensions) where
  steps-stand : (c : Composed) (y : System) (steps : List SystemStep) → IsReached s c → Stand s c.group y → AreSystemSteps s y steps
      → AreActionsFrom c (all_actions y steps) × Stand s (composed_from c (all_actions y steps)).group (after_steps y steps)
  steps-stand c y [] reached stand are = (tt, stand)
  steps-stand c y (t ∷ steps) reached stand are =
      let actions = actions_of t.call (y.members t.at) in
      let more = all_actions (after_step y t) steps in
      let one = step-stands always s c y reached stand t are.0 in
      let rest = steps-stand (composed_from c actions) (after_step y t) steps (goes-on s c actions reached one.0) one.1 are.1 in (
        from-more c actions more one.0 rest.0,
        subst (λ (d : Composed). Stand s d.group (after_steps (after_step y t) steps)) (sym (composed-more c actions more)) rest.1,
      )

pub make-a-run : CallersAreTheirs → MembersMakeARun
make-a-run always s y steps made =
    let opening : IsReached s (opening_composed s) = record { done = []; run = (made.shape, tt); there = refl } in
    let all = steps-stand always s (opening_composed s) y steps opening (stand-new s y made.opening) made.made in
    let shape = shape-reached s (composed_from (opening_composed s) (all_actions y steps))
    (goes-on s (opening_composed s) (all_actions y steps) opening all.0) in
    record { run = (made.shape, all.0); stand = λ p member. all.1 p (subst (λ (d : Dimensions). IsProcess d p) shape member) }
