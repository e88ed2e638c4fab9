use Rattle.std.proofs.Common.{◌++◌, ◌∙◌, ℕ, List, ap}
use Rattle.scenario_text.proofs.Stamps.{next_number}
use Rattle.scenario_text.proofs.write_shown.write_numbers.Goals as goal

pub numbers-preserved : goal.numbers-preserved
numbers-preserved c =
    let number = c.as_bytes.ensures.value ∙ c.in_ok-format.ensures.ok in
    next_number c.args.numbers.now c.numbers.number-index c.numbers.text.items _ _ c.numbers-test.true
    (c.in_ok-extend_from_slice.ensures.items ∙ ap (λ (t : List ℕ). c.numbers.text.items ++ t) number) c.numbers.invariant
