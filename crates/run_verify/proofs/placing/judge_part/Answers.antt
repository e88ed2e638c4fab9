use Rattle.std.proofs.Common.{◌≡◌, ◌<◌, ◌+◌, ◌∙◌, Some, length, subst, take, arith}
use Rattle.std.proofs.lemmas.Grind.{common_steps}
use Rattle.std.proofs.lemmas.List.{length-map, length-take-le}
use Rattle.group_types.specs.Dimensions.{Dimensions}
use Rattle.run_verify.specs.declared.judging.Passed.TheVariants as passed
use Rattle.run_verify.specs.Accounts.{lists_of}
use Rattle.run_verify.specs.Dues.{HasPassed}
use Rattle.run_verify.proofs.Duties.{part_begins}
use Rattle.run_verify.proofs.Walking.{shorter, walk_fails, walk_line, walk_silent}
use Rattle.run_verify.proofs.placing.judge_part.Goals as goal

pub changes-init : goal.changes-init
changes-init c =
    let long = length-map c.args.changes.now (λ v. v.items) in
    let test = c.requires.partition in
    let below : c.args.partition < length (lists_of c.args.changes.now) = omega (arith, long, test) in
    record {
      due = part_begins (lists_of c.args.changes.now) c.args.partition c.args.passed c.changes_of-changes.result.now
          below c.changes_of-changes.ensures c.requires.due;
      leads = λ found all. all;
      items = (c.in_ok-items.ensures.marked, c.in_ok-items.ensures.none);
      shape = c.in_ok-items.ensures.shape;
      few = omega arith;
      within = omega arith;
    }

pub changes-preserved : goal.changes-preserved
changes-preserved c =
    let own = c.changes_of-changes.result.now in
    let same = c.requires.partitions in
    let many : length (lists_of c.args.changes.now) ≡ c.args.shape.k = length-map c.args.changes.now (λ v. v.items) ∙ same in
    let below : c.changes.place < length own = grind (arith, common_steps) in
    let long : length (take c.changes.place own) ≡ c.changes.place = length-take-le c.changes.place own (omega (arith, below)) in
    let told = c.in_ok-pass.ensures.passed (take c.changes.place own) long c.changes.invariant.items.1 in
    let line = subst (HasPassed c.changes.items.shape c.args.partition (take c.changes.place own)
    c.index-changes-place.result c.changes.rest.now c.pass.new.self) c.in-Line.is told in
    let here = subst (λ (s : Dimensions). HasPassed s c.args.partition (take c.changes.place own)
    c.index-changes-place.result c.changes.rest.now c.pass.new.self (passed.Line c.in-Line.more))
    c.changes.invariant.shape line in
    let walked =
    walk_line c.args.shape (lists_of c.args.changes.now) many c.args.partition own c.changes.place c.changes.passed
    c.index-changes-place.result c.changes.invariant.due below c.index-changes-place.is
    c.changes.rest.now c.pass.new.self c.in-Line.more here in
    let less =
    shorter c.args.shape (lists_of c.args.changes.now) many c.args.partition own c.changes.place c.changes.passed
    c.index-changes-place.result c.changes.invariant.due below c.index-changes-place.is
    c.changes.rest.now c.pass.new.self c.in-Line.more here in
    let few = c.changes.invariant.few in
    record {
      due = walked.due;
      leads = λ found all. c.changes.invariant.leads found (walked.leads found all);
      items = walked.items;
      shape = c.in_ok-pass.ensures.shape ∙ c.changes.invariant.shape;
      few = omega (arith, few, less);
      within = omega (arith, below);
    }

pub changes-preserved-in-Silent : goal.changes-preserved-in-Silent
changes-preserved-in-Silent c =
    let own = c.changes_of-changes.result.now in
    let same = c.requires.partitions in
    let many : length (lists_of c.args.changes.now) ≡ c.args.shape.k = length-map c.args.changes.now (λ v. v.items) ∙ same in
    let below : c.changes.place < length own = grind (arith, common_steps) in
    let long : length (take c.changes.place own) ≡ c.changes.place = length-take-le c.changes.place own (omega (arith, below)) in
    let told = c.in_ok-pass.ensures.passed (take c.changes.place own) long c.changes.invariant.items.1 in
    let line = subst (HasPassed c.changes.items.shape c.args.partition (take c.changes.place own)
    c.index-changes-place.result c.changes.rest.now c.pass.new.self) c.in-Silent.is told in
    let here = subst (λ (s : Dimensions). HasPassed s c.args.partition (take c.changes.place own)
    c.index-changes-place.result c.changes.rest.now c.pass.new.self passed.Silent) c.changes.invariant.shape line in
    let walked =
    walk_silent c.args.shape (lists_of c.args.changes.now) many c.args.partition own c.changes.place c.changes.passed
    c.index-changes-place.result c.changes.invariant.due below c.index-changes-place.is
    c.changes.rest.now c.pass.new.self here in
    let few = c.changes.invariant.few in
    record {
      due = walked.due;
      leads = c.changes.invariant.leads;
      items = walked.items;
      shape = c.in_ok-pass.ensures.shape ∙ c.changes.invariant.shape;
      few = few;
      within = omega (arith, below);
    }

pub returns-in-Fails : goal.returns-in-Fails
returns-in-Fails c =
    let own = c.changes_of-changes.result.now in
    let same = c.requires.partitions in
    let many : length (lists_of c.args.changes.now) ≡ c.args.shape.k = length-map c.args.changes.now (λ v. v.items) ∙ same in
    let below : c.changes.place < length own = grind (arith, common_steps) in
    let long : length (take c.changes.place own) ≡ c.changes.place = length-take-le c.changes.place own (omega (arith, below)) in
    let told = c.in_ok-pass.ensures.passed (take c.changes.place own) long c.changes.invariant.items.1 in
    let line = subst (HasPassed c.changes.items.shape c.args.partition (take c.changes.place own)
    c.index-changes-place.result c.changes.rest.now c.pass.new.self) c.in-Fails.is told in
    let here = subst (λ (s : Dimensions). HasPassed s c.args.partition (take c.changes.place own)
    c.index-changes-place.result c.changes.rest.now c.pass.new.self passed.Fails) c.changes.invariant.shape line in
    c.changes.invariant.leads (Some (c.changes.passed + 1))
    (walk_fails c.args.shape (lists_of c.args.changes.now) many c.args.partition own c.changes.place c.changes.passed
    c.index-changes-place.result c.changes.invariant.due below c.index-changes-place.is
    c.changes.rest.now c.pass.new.self here)
