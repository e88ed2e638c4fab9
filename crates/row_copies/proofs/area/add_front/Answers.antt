use Rattle.std.proofs.Common.{◌≡◌, length, min, rules}
use Rattle.erasure_code.specs.Code.{coefficient}
use Rattle.row_copies.proofs.Areas.{front_none, front_added}
use Rattle.row_copies.proofs.area.add_front.Goals as goal

pub returns-then-len-eq0 : goal.returns-then-len-eq0
returns-then-len-eq0 c =
    let is : c.min-len.result ≡ min (length c.args.area.now) (length c.args.delta.now) = search rules in
    let none : c.min-len.result ≡ 0 = search rules in
    front_none (coefficient c.args.m c.args.i c.args.d) c.args.delta.now c.args.area.now c.min-len.result is none

pub returns : goal.returns
returns c =
    let is : c.min-len.result ≡ min (length c.args.area.now) (length c.args.delta.now) = search rules in
    front_added (coefficient c.args.m c.args.i c.args.d) c.args.delta.now c.args.area.now c.min-len.result is c.add_delta.new.into c.add_delta.ensures
