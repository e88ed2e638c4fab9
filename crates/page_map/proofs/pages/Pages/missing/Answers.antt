use Rattle.std.proofs.Common.{◌≡◌, ◌+◌, ◌-◌, ◌/◌, subst, arith}
use Rattle.page_map.proofs.Unions.{AreFresh, missing_after, same_or_earlier}
use Rattle.page_map.proofs.pages.Pages.missing.Goals as goal

pub returns-clause-missing : goal.returns-clause-missing
returns-clause-missing c =
    let same = c.block-block.ensures.length in
    let long = c.block-block.ensures.dimensions.long in
    let last : c.numbers.number ≡ (c.args.at + c.args.len - 1) / c.args.self.now.block + 1 =
    subst (λ b. c.numbers.number ≡ (c.args.at + c.args.len - 1) / b + 1) same
    (omega (
      arith,
      same_or_earlier c.args.at (c.args.at + c.args.len - 1) c.block-block.result (omega arith)
          (omega arith),
    )) in
    missing_after c.args.self.now c.numbers.fresh c.args.at c.args.len (omega arith) (omega arith)
    (subst (λ next. AreFresh c.args.self.now c.numbers.fresh (c.args.at / c.args.self.now.block) next) last c.numbers.invariant)
