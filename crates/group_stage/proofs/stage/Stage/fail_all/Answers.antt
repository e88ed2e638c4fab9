use Rattle.std.proofs.Common.{length, sym, ap, subst}
use Rattle.group_types.specs.Dimensions.{Dimensions}
use Rattle.group_run.specs.Headline.{IsRun}
use Rattle.group_stage.specs.Conditions.{CanCommit}
use Rattle.group_stage.specs.Steps.{Sat}
use Rattle.group_stage.proofs.Deaths.{after-commit, all-failed, can-commit, hand-run, named, one-met, seated}
use Rattle.group_stage.proofs.Stacks.{AreRun}
use Rattle.group_stage.proofs.stage.Stage.fail_all.Goals as goal

pub returns-in-Some-clause-failed : goal.returns-in-Some-clause-failed
returns-in-Some-clause-failed c =
    let took = c.in-Some.ensures.took in
    one-met c.args.self.now.plan c.args.seat.now.me.0 c.take_rest.new.nodes.nodes c.in-Some.place
    (length c.take_rest.new.nodes.nodes) c.process_at.result c.take_rest.new.seat.me c.put_all.new.seat.me
    c.requires.can.shape
    c.process_at.ensures.name c.process_at.ensures.process took.0 (ap length (λ i. c.take_rest.new.nodes.nodes)) took.2 c.put_all.ensures.back

pub fail_at-answer-requires-clause-seated : goal.fail_at-answer-requires-clause-seated
fail_at-answer-requires-clause-seated c =
    let took = c.in_default.ensures.took in
    let v = c.args.seat.now.me.0 in
    let s = c.args.self.now.plan.shape in
    let ys = c.take_rest.new.nodes.nodes in
    let es = took.2.0 in
    let shape = c.requires.can.shape in
    seated s es (subst (λ (t : Dimensions). IsRun t es) shape took.2.1.run) c.args.at c.requires.can.process c.args.keep
    ys took.0 (subst (λ (t : Dimensions). AreRun t es 0 ys) shape (hand-run v ys es took.2.1))

pub fail_at-answer-requires-clause-name : goal.fail_at-answer-requires-clause-name
fail_at-answer-requires-clause-name c =
    let took = c.in_default.ensures.took in
    let v = c.args.seat.now.me.0 in
    let s = c.args.self.now.plan.shape in
    let ys = c.take_rest.new.nodes.nodes in
    let es = took.2.0 in
    let shape = c.requires.can.shape in
    named s es (subst (λ (t : Dimensions). IsRun t es) shape took.2.1.run) c.args.at c.requires.can.process c.args.keep
    ys took.0 (subst (λ (t : Dimensions). AreRun t es 0 ys) shape (hand-run v ys es took.2.1))

pub commit-requires-clause-can : goal.commit-requires-clause-can
commit-requires-clause-can c =
    let took = c.in_default.ensures.took in
    subst (λ (x : Sat). CanCommit c.args.self.now.plan x.0) (sym took.1)
    (can-commit c.args.self.now.plan c.args.seat.now.me.0 c.take_rest.new.nodes.nodes c.args.at c.args.keep
    c.requires.can.process c.requires.can.call c.requires.can.all took.0)

pub put_all-requires-2-clause-all : goal.put_all-requires-2-clause-all
put_all-requires-2-clause-all c =
    let took = c.in_default.ensures.took in
    after-commit c.args.self.now.plan c.args.seat.now.me.0 c.take_rest.new.nodes.nodes c.fail_at-answer.new.nodes.nodes
    c.args.at c.args.keep c.take_rest.new.seat.me c.commit.new.seat.me c.fail_at-answer.result
    c.requires.can.shape c.requires.can.process c.requires.can.call c.requires.can.all took.0
    c.fail_at-answer.ensures.seated c.fail_at-answer.ensures.step took.1 c.commit.ensures.commits

pub returns-clause-failed : goal.returns-clause-failed
returns-clause-failed c =
    let took = c.in_default.ensures.took in
    all-failed c.args.self.now.plan c.args.seat.now.me.0 c.take_rest.new.nodes.nodes c.fail_at-answer.new.nodes.nodes
    c.args.at c.args.keep (length c.fail_at-answer.new.nodes.nodes) c.take_rest.new.seat.me c.commit.new.seat.me
    c.put_all-2.new.seat.me c.fail_at-answer.result c.requires.can.shape c.requires.can.process c.requires.can.call
    took.0 c.fail_at-answer.ensures.seated c.fail_at-answer.ensures.step took.1 c.commit.ensures.commits
    c.put_all-2.ensures.back
