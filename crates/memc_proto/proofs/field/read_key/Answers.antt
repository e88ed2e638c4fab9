use Rattle.std.proofs.Common.{◌∙◌, ap, sym, subst, Ok, List, ℕ}
use Rattle.group_types.specs.Key.{IsKey}
use Rattle.memc_proto.proofs.Keys.{key_word-key}
use Rattle.memc_proto.proofs.field.read_key.Goals as goal

pub returns-in-Ok : goal.returns-in-Ok
returns-in-Ok c = key_word-key c.args.word.now (subst IsKey c.in-Ok.ensures.key c.in-Ok.ensures.within)
    ∙ ap (λ (key : List ℕ). Ok key) (sym c.in-Ok.ensures.key)
