use Rattle.std.proofs.Common.{◌≡◌, ◌-◌, length, min, take, drop, true, false, nat_le, refl, rules}
use Rattle.erasure_code.specs.Code.{coefficient}
use Rattle.row_copies.proofs.Areas.{met_behind, met_before}
use Rattle.row_copies.proofs.area.add_run.Goals as goal

pub returns-then-at-from : goal.returns-then-at-from
returns-then-at-from c =
    let is : c.min-missed.result ≡ min (c.args.from - c.args.at) (length c.args.delta.now) = search rules in
    let test : nat_le c.args.at c.args.from ≡ true = search rules in
    met_behind (coefficient c.args.m c.args.i c.args.d) c.args.from c.args.at c.min-missed.result c.args.delta.now
    c.args.area.now test is c.add_front.new.area c.add_front.ensures

pub returns : goal.returns
returns c =
    let is : c.min-before.result ≡ min (c.args.at - c.args.from) (length c.args.area.now) = search rules in
    let test : nat_le c.args.at c.args.from ≡ false = search rules in
    met_before (coefficient c.args.m c.args.i c.args.d) c.args.from c.args.at c.min-before.result c.args.delta.now
    c.args.area.now test is c.add_front-2.new.area
    (take (length c.args.area.now - c.min-before.result) (drop c.min-before.result c.args.area.now)) refl c.add_front-2.ensures
