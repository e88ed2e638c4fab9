use Rattle.std.proofs.Common.{ℕ, ◌≡◌, List, replicate, ap}
use Rattle.run_verify.proofs.setting.Setting.new.Goals as goal

pub returns : goal.returns
returns c =
    let counts : c.in_ok-vec.field-0.items ≡ replicate 256 0 = c.in_ok-vec.ensures.items_if_clones_equal (λ y same. same) in
    ap (λ (asked : List ℕ). record { shape = c.args.shape; moment = 0; asked = asked }) counts
