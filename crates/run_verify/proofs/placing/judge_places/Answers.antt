use Rattle.std.proofs.Common.{◌≡◌, ◌≤◌, ◌∙◌, Some, length, subst, arith}
use Rattle.std.proofs.lemmas.Grind.{common_steps}
use Rattle.std.proofs.lemmas.List.{length-map}
use Rattle.scenario_run.specs.Lines.{lines_of}
use Rattle.run_verify.specs.Accounts.{lists_of}
use Rattle.run_verify.specs.Dues.{HasToldPart}
use Rattle.run_verify.proofs.Duties.{none_left}
use Rattle.run_verify.proofs.Placed.{found_first, from_first}
use Rattle.run_verify.proofs.placing.judge_places.Goals as goal

pub returns-in-Fails : goal.returns-in-Fails
returns-in-Fails c =
    let told = subst (HasToldPart c.args.shape (lists_of c.args.changes.now) c.partitions.partition c.partitions.passed
    c.partitions.rest.now) c.in-Fails.is c.in_ok-now.ensures in
    from_first c.args.shape (lists_of c.args.changes.now) (lines_of c.args.text.now) (Some c.in-Fails.number)
    (c.partitions.invariant.leads (Some c.in-Fails.number) told)

pub returns : goal.returns
returns c =
    let long = length-map c.args.changes.now (λ v. v.items) in
    let same = c.requires.partitions in
    let many : length (lists_of c.args.changes.now) ≡ c.args.shape.k = long ∙ same in
    let end : length (lists_of c.args.changes.now) ≤ c.partitions.partition = grind (arith, common_steps, many) in
    found_first c.args.shape (lists_of c.args.changes.now) many c.partitions.passed (lines_of c.args.text.now) (lines_of c.partitions.rest.now)
    (none_left (lists_of c.args.changes.now) c.partitions.partition c.partitions.passed end c.partitions.invariant.due)
    c.partitions.invariant.leads c.judge_end.result c.judge_end.ensures
