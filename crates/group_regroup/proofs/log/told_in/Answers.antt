use Rattle.std.proofs.Common.{◌≡◌, ℕ, ◌+◌, Some, sym, ap, ◌∙◌, arith}
use Rattle.group_calls.specs.declared.entry.Entry.{Entry}
use Rattle.group_regroup.specs.Kept.{entry_of_era}
use Rattle.group_regroup.proofs.Places.{get-index, told-get, told-none}
use Rattle.group_regroup.proofs.log.told_in.Goals as goal

pub returns-then-log-place : goal.returns-then-log-place
returns-then-log-place c = λ era. sym (told-none c.args.bases.now c.args.k era c.args.lowered.now 0 c.args.log.now c.args.place c.if-log-place.true)

pub returns : goal.returns
returns c = λ era.
    let d : Entry = c.index-log-place.result in
    let place : c.args.place ≡ 0 + c.args.place = omega arith in
    ap (λ (e : Entry). Some (era, e)) (c.in_ok-entry.ensures ∙ ap (λ (n : ℕ). entry_of_era c.args.bases.now c.args.k c.args.lowered.now n d) place)
    ∙ sym (told-get c.args.bases.now c.args.k era c.args.lowered.now 0 c.args.log.now c.args.place d
    (get-index c.args.log.now c.args.place d c.if-log-place.false c.index-log-place.is))
