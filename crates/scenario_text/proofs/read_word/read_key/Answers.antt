use Rattle.std.proofs.Common.{◌∙◌, ap, sym, subst, Some, List, ℕ}
use Rattle.group_types.specs.Key.{IsKey}
use Rattle.scenario_text.proofs.Limits.{key_of_word-key}
use Rattle.scenario_text.proofs.read_word.read_key.Goals as goal

pub returns-in-Ok : goal.returns-in-Ok
returns-in-Ok c = key_of_word-key c.args.word.now (subst IsKey c.in-Ok.ensures.key c.in-Ok.ensures.within)
    ∙ ap (λ (key : List ℕ). Some key) (sym c.in-Ok.ensures.key)
