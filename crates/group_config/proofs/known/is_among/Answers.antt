use Rattle.std.proofs.Common.{◌∙◌}
use Rattle.std.specs.Str.{bytes_eq}
use Rattle.group_config.proofs.Knowing.{any-behind}
use Rattle.group_config.proofs.known.is_among.Goals as goal

pub returns : goal.returns
returns c = c.contains.ensures.value ∙ any-behind (λ k. k.now) (λ k. bytes_eq k c.args.key.now) c.args.keys.now
