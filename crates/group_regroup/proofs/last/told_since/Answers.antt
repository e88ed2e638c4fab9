use Rattle.std.proofs.Common.{ℕ, ◌≡◌, ◌+◌, ◌++◌, List, drop, ap, ◌∙◌, arith}
use Rattle.group_calls.specs.declared.entry.Entry.{Entry}
use Rattle.group_regroup.specs.Kept.{entries_from}
use Rattle.group_regroup.proofs.Lasting.{told-drop}
use Rattle.group_regroup.proofs.last.told_since.Goals as goal

pub places-init : goal.places-init
places-init c =
    let same : c.args.from ≡ 0 + c.args.from = omega arith in
    ap (λ (xs : List Entry). xs ++ entries_from c.args.bases.now c.args.k c.args.lowered.now c.args.from
    (drop c.args.from c.args.log.now)) c.new-told.ensures.items
    ∙ ap (λ (n : ℕ). entries_from c.args.bases.now c.args.k c.args.lowered.now n (drop c.args.from c.args.log.now)) same
    ∙ told-drop c.args.bases.now c.args.k c.args.lowered.now 0 c.args.from c.args.log.now
