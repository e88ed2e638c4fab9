use Rattle.std.proofs.Common.{◌≡◌, ◌+◌, arith}
use Rattle.scenario_text.specs.Texts.{place_text}
use Rattle.run_verify.proofs.Passed.{told_by}
use Rattle.run_verify.proofs.items.Items.tells.Goals as goal

pub returns : goal.returns
returns c =
    told_by (c.args.line.now ≡ place_text c.args.spot.partition (c.args.spot.place + 1) c.args.run) c.is_place.result
    c.is_fit.result c.is_off.result c.is_fit.ensures c.is_off.ensures (grind arith) (grind arith)
    c.is_place.ensures
