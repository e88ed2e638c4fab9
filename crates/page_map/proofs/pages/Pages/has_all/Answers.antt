use Rattle.std.proofs.Common.{◌≡◌, ℕ, ◌+◌, ◌-◌, ◌/◌, ◌<◌, ◌≤◌, IsTrue, subst, arith}
use Rattle.page_map.specs.Pages.{HasPage}
use Rattle.page_map.proofs.Unions.{meets_between, same_or_earlier}
use Rattle.page_map.proofs.pages.Pages.has_all.Goals as goal

pub returns-then-not-has-clause-some : goal.returns-then-not-has-clause-some
returns-then-not-has-clause-some c all =
    let same = c.block-block.ensures.length in
    let long = c.block-block.ensures.dimensions.long in
    let first : c.args.at / c.args.self.now.block ≤ c.numbers.number = c.numbers.invariant.from in
    let last : c.numbers.number < (c.args.at + c.args.len - 1) / c.args.self.now.block + 1 =
    subst (λ b. c.numbers.number < (c.args.at + c.args.len - 1) / b + 1) same (omega arith) in
    let met = meets_between c.args.at (c.args.at + c.args.len - 1) c.args.self.now.block c.numbers.number (omega arith) first last (omega arith) in
    c.if-not-has.ensures.1 (subst (HasPage c.args.self.now) met.3 (all met.0 met.1 (omega (arith, met.2))))

pub returns-clause-all : goal.returns-clause-all
returns-clause-all c _ a from to =
    let same = c.block-block.ensures.length in
    let long = c.block-block.ensures.dimensions.long in
    let block = c.args.self.now.block in
    let last : c.numbers.number ≡ (c.args.at + c.args.len - 1) / block + 1 =
    subst (λ b. c.numbers.number ≡ (c.args.at + c.args.len - 1) / b + 1) same
    (omega (
      arith,
      same_or_earlier c.args.at (c.args.at + c.args.len - 1) c.block-block.result (omega arith)
          (omega arith),
    )) in
    c.numbers.invariant.there (a / block) (same_or_earlier c.args.at a block (omega arith) from)
    (omega (arith, last, same_or_earlier a (c.args.at + c.args.len - 1) block (omega arith) (omega (arith, to))))
