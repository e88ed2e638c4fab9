use Rattle.std.proofs.Common.{rules, ◌≡◌, List, [], ◌∷◌, ◌++◌, Option, None, ap, ◌∙◌}
use Rattle.std.proofs.lemmas.List.{replicate-append-replicate}
use Rattle.carry_words.specs.declared.transfer.Transfer.{Transfer}
use Rattle.carry_words.proofs.places.empty_places.Goals as goal

pub places-preserved : goal.places-preserved
places-preserved c =
    let pushed : c.push.new.self.items ≡ c.places.places.items ++ None ∷ [] = search rules in
    pushed ∙ ap (λ (l : List (Option Transfer)). l ++ None ∷ []) c.places.invariant ∙ replicate-append-replicate c.places.counter 1 None
