use Rattle.std.proofs.Common.{◌≡◌, ◌<◌, ◌++◌, List, [], ◌∷◌, length, refl, sym, ap, subst, ◌∙◌, arith}
use Rattle.std.proofs.lemmas.List.{length-append}
use Rattle.group_types.specs.Dimensions.{processes_of}
use Rattle.group_stage.specs.Conditions.{CanTake}
use Rattle.group_stage.specs.Gathered.{hand_of, holding_all, slots_left}
use Rattle.group_stage.specs.Steps.{Knows, Sat}
use Rattle.group_stage.specs.Views.{with_met}
use Rattle.group_stage.proofs.Deaths.{one-more}
use Rattle.group_stage.proofs.Hands.{none-took}
use Rattle.group_stage.proofs.Stacks.{hand-before}
use Rattle.group_stage.proofs.stage.Stage.take_rest.Goals as goal

pub processes-init : goal.processes-init
processes-init c =
    let seat = c.requires.first.seat in
    record {
      table = refl;
      many = c.requires.one;
      room = c.requires.room;
      within = let few = c.requires.first.within in let one = c.requires.one in omega (arith, few, one);
      seat = seat;
      knows = (c.requires.knows.0, subst (λ (x : Sat). Knows c.requires.knows.0 x.0) seat c.requires.knows.1);
    }

pub take_next-requires-clause-table : goal.take_next-requires-clause-table
take_next-requires-clause-table c = c.processes.invariant.table ∙ c.requires.table

pub take_next-requires-clause-take : goal.take_next-requires-clause-take
take_next-requires-clause-take c =
    let low : c.processes.place < processes_of c.args.self.now.plan.shape = let test = c.processes-test.true in
    let end = c.processes_of-place-end.ensures.value in omega (arith, test, end) in
    subst (λ (x : Sat). CanTake c.args.self.now.plan x.0 c.processes.place) (sym c.processes.invariant.seat)
    (record {
      part = c.requires.all.part;
      due = c.requires.all.due;
      within = low;
      named = c.requires.all.named c.processes.place low;
      order = hand-before c.processes.place c.processes.nodes.nodes c.processes.invariant.many;
    })

pub returns-in_default-clause-table : goal.returns-in_default-clause-table
returns-in_default-clause-table c = c.take_next.ensures.table ∙ c.processes.invariant.table

pub returns-in_default-clause-took : goal.returns-in_default-clause-took
returns-in_default-clause-took c = (
  c.processes.invariant.many,
  (let test = c.processes-test.true in let end = c.processes_of-place-end.ensures.value in omega (arith, test, end)),
  none-took c.processes.seat.me.0 c.processes.place c.processes.seat.me.1 c.take_next.result c.take_next.new.seat.me
      c.in_default.not-Some c.take_next.ensures.took
      ∙ ap (λ (x : Sat). (with_met x.0 c.processes.place, x.1)) c.processes.invariant.seat,
)

pub push-requires : goal.push-requires
push-requires c =
    let test = c.processes-test.true in
    let end = c.processes_of-place-end.ensures.value in
    let many = c.processes.invariant.many in
    let room = c.processes.invariant.room in
    omega (arith, test, end, many, room)

pub processes-preserved : goal.processes-preserved
processes-preserved c =
    let more = one-more c.args.seat.now.me.0 c.processes.nodes.nodes c.in-Some.node c.processes.seat.me
    c.take_next.new.seat.me c.processes.place (sym c.processes.invariant.many) c.processes.invariant.seat
    c.in-Some.ensures.took in
    let nodes : c.push.new.self.nodes ≡ c.processes.nodes.nodes ++ c.in-Some.node ∷ [] = ap (λ (l : _). l.nodes) c.push.ensures in
    record {
      table = c.take_next.ensures.table ∙ c.processes.invariant.table;
      many = ap length nodes ∙ length-append c.processes.nodes.nodes (c.in-Some.node ∷ []) ∙ (let many = c.processes.invariant.many in omega (arith, many));
      room = ap (λ (l : _). l.room) c.push.ensures ∙ c.processes.invariant.room;
      within = let test = c.processes-test.true in let end = c.processes_of-place-end.ensures.value in omega (arith, test, end);
      seat = more.0 ∙ (λ i. (holding_all c.args.seat.now.me.0 ((sym nodes) i), slots_left (hand_of ((sym nodes) i))));
      knows = (more.1.0, subst (λ (ys : List _). Knows more.1.0 (holding_all c.args.seat.now.me.0 ys)) (sym nodes) more.1.1);
    }

pub returns-clause-table : goal.returns-clause-table
returns-clause-table c = c.processes.invariant.table

pub returns-clause-took : goal.returns-clause-took
returns-clause-took c = (
  (let many = c.processes.invariant.many in let within = c.processes.invariant.within in
      let test = c.processes-test.false in let end = c.processes_of-place-end.ensures.value in
      omega (arith, many, within, test, end)),
  c.processes.invariant.seat,
  c.processes.invariant.knows,
)
