use Rattle.std.proofs.Common.{rules, ◌+◌, Result, Ok, Err, OnErr, option_copied, ◌≡◌, subst}
use Rattle.memc_table.specs.Contents.{ruling_on}
use Rattle.memc_table.specs.Ruling.{HoldsItem, ruling_of}
use Rattle.memc_table.specs.Table.{contents}
use Rattle.memc_table.specs.declared.ruling.Ruling.{Ruling}
use Rattle.memc_table.proofs.table.Table.apply.Goals as goal

on-err : {T E : Type 0} (P : Type 0) (r : Result T E) → P → OnErr r P
on-err P (Ok x) holds = cc
on-err P (Err e) holds = holds

pub returns-in_err-ruling-clause-wanted : goal.returns-in_err-ruling-clause-wanted
returns-in_err-ruling-clause-wanted c =
    let is : ruling_of c.args.op.now.moment (c.count.result + 1) c.args.op.now.act (option_copied c.find-live.result)
    ≡ ruling_on (contents c.args.self.now) c.args.op.now = search rules in
    on-err _ c.from_residual.result (subst HoldsItem is c.in_err-ruling.ensures.wanted)

pub returns-clause-wanted : goal.returns-clause-wanted
returns-clause-wanted c =
    let is : c.in_ok-ruling.ruling ≡ ruling_on (contents c.args.self.now) c.args.op.now = search rules in
    subst (λ (r : Ruling). OnErr c.follow.result (HoldsItem r)) is c.follow.ensures.wanted
