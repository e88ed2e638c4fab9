use Rattle.partition_replica.proofs.Owed.{tidy_adopted}
use Rattle.std.proofs.Common.{◌≡◌, ◌-◌, ℕ, true, List, [], drop, ap, ◌∙◌, arith}
use Rattle.std.proofs.lemmas.List.{length-drop}
use Rattle.std.proofs.lemmas.List.Elements.{All-drop}
use Rattle.group_types.specs.Dimensions.{space_of}
use Rattle.group_message.specs.declared.update.Update.{Update}
use Rattle.group_run.specs.Replica.{with_log}
use Rattle.group_run.specs.Fitting.{AllCanCome}
use Rattle.partition_replica.specs.Inside.{replica_in, state_in}
use Rattle.partition_replica.specs.State.{Room, HasRoom, is_among}
use Rattle.partition_replica.proofs.Agree.{adopted_takeable, agrees_adopted}
use Rattle.partition_replica.proofs.Sound.{givable, log_inside}
use Rattle.partition_replica.proofs.replica.Replica.adopt.Goals as goal

pub give_runs-requires-clause-inside : goal.give_runs-requires-clause-inside
give_runs-requires-clause-inside c =
    let replica = replica_in c.self.inside.index c.self.inside.log c.self.inside.kept.items in
    rw (c.as_slice.ensures, c.adopt-dropped.ensures.handed, c.self.invariant.size) (log_inside (space_of c.self.inside.shape) replica c.self.invariant.sound)

pub give_runs-requires-clause-taken : goal.give_runs-requires-clause-taken
give_runs-requires-clause-taken c a =
    let replica = replica_in c.self.inside.index c.self.inside.log c.self.inside.kept.items in
    rw (c.as_slice.ensures, c.adopt-dropped.ensures.handed, c.self.invariant.free a) (givable (space_of c.self.inside.shape) replica c.self.invariant.sound a)

-- the log has those of the list that are above the applied number
log_is : (c : goal.After-take_runs-arg-2-1) → c.adopt-dropped.new.self.updates ≡ drop (c.self.inside.log.applied - c.args.base) c.args.list
log_is c = c.adopt-dropped.ensures.updates ∙ ap (drop (c.self.inside.log.applied - c.args.base)) (c.new.ensures ∙ c.from.ensures)

pub take_runs-requires-clause-free : goal.take_runs-requires-clause-free
take_runs-requires-clause-free c =
    let s = state_in c.self.inside.shape c.self.inside.index c.self.inside.log c.self.inside.kept.items c.self.inside.spare in
    let come : AllCanCome (space_of s.shape) (with_log [] s.replica) c.adopt-dropped.new.self.updates =
    rw (log_is c) (rw (← c.self.view_is) at c.requires.fits) in
    let gives = rw (c.as_slice.ensures, c.adopt-dropped.ensures.handed) at c.give_runs.ensures in
    adopted_takeable c.adopt-dropped.new.self.updates c.self.invariant come gives

has_room : (room : Room) (n : ℕ) (list : List Update) → HasRoom room list → HasRoom room (drop n list)
has_room room n list has = record {
  spare = omega (arith, length-drop n list, has.spare);
  ready = All-drop (λ u. is_among room.ready u.key ≡ true) n list has.ready;
}

pub invariant_of-self : goal.invariant_of-self
invariant_of-self c =
    let s = state_in c.self.inside.shape c.self.inside.index c.self.inside.log c.self.inside.kept.items c.self.inside.spare in
    let is : c.adopt-dropped.new.self.updates ≡ drop (c.self.inside.log.applied - c.args.base) c.args.list =
    c.adopt-dropped.ensures.updates ∙ ap (drop (c.self.inside.log.applied - c.args.base))
    (c.new.ensures ∙ c.from.ensures) in
    let come : AllCanCome (space_of s.shape) (with_log [] s.replica) c.adopt-dropped.new.self.updates = rw is (rw (← c.self.view_is) at c.requires.fits) in
    let room : HasRoom s.room c.adopt-dropped.new.self.updates =
    rw is (has_room s.room (c.self.inside.log.applied - c.args.base) c.args.list
    (rw (← c.self.view_is) at c.requires.room)) in
    let gives = rw (c.as_slice.ensures, c.adopt-dropped.ensures.handed) at c.give_runs.ensures in
    rw (c.tidy_dropped.ensures.items, c.adopt-dropped.ensures.applied, c.adopt-dropped.ensures.spare)
    (agrees_adopted c.adopt-dropped.new.self.updates c.self.invariant come gives c.take_runs.new.runs _ _ _ room
    c.tidy_dropped.ensures.ready c.take_runs.ensures)

pub returns-clause-owed : goal.returns-clause-owed
returns-clause-owed c owed tidy q is =
    let was = rw (← c.self.view_is) at tidy in
    let kept = rw (c.as_slice-2.ensures, c.adopt-dropped.ensures.handed) at c.tidy_dropped.ensures.ready in
    rw c.tidy_dropped.ensures.items
    (tidy_adopted (state_in c.self.inside.shape c.self.inside.index c.self.inside.log c.self.inside.kept.items
    c.self.inside.spare) _ c.adopt-dropped.new.self.updates owed kept was q is)
