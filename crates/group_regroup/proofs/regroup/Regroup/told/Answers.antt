use Rattle.std.proofs.Common.{ℕ, ◌≡◌, ◌<◌, List, [], IfOk, Vec, Global, drop, length, map, ap, sym, subst, ◌∙◌, arith}
use Rattle.group_calls.specs.declared.entry.Entry.{Entry}
use Rattle.group_types.specs.Dimensions.{Dimensions}
use Rattle.group_eras.specs.Eras.{Eras}
use Rattle.group_regroup.specs.declared.changing.Lowered.{Lowered}
use Rattle.group_regroup.specs.Kept.{entries_from}
use Rattle.group_regroup.specs.Last.{entries_of_era}
use Rattle.group_regroup.proofs.Lasting.{index-part, long-part, of-current, of-past}
use Rattle.group_regroup.proofs.regroup.Regroup.told.Goals as goal

pub returns-then-era-len : goal.returns-then-era-len
returns-then-era-len c =
    let past : List (List Entry) = map (λ log. log.items) c.self.inside.past.items in
    let low : c.args.era < length c.self.inside.past.items = let len = c.len.ensures in let less = c.if-era-len.true in omega (arith, len, less) in
    let below : c.args.era < length past = let long = long-part (λ (log : Vec Entry Global). log.items) c.self.inside.past.items in omega (arith, low, long) in
    let path : c.deref.result.now ≡ entries_of_era c.args.era c.args.self.now.log
    = c.deref.ensures.value ∙ ap (λ (log : Vec Entry Global). log.items) c.index.ensures
    ∙ sym (index-part (λ (log : Vec Entry Global). log.items) [] c.index.result.now c.self.inside.past.items c.args.era low)
    ∙ sym (of-past c.self.inside.world c.self.inside.bases.items past c.self.inside.lowered.items c.args.era below)
    ∙ ap (λ (e : Eras). entries_of_era c.args.era e.log) c.self.view_is in
    subst (λ (xs : List Entry). IfOk c.copies.result (λ (entries : Vec Entry Global). entries.items ≡ drop c.args.from xs)) path c.copies.ensures

pub returns : goal.returns
returns c =
    let past : List (List Entry) = map (λ log. log.items) c.self.inside.past.items in
    let long = long-part (λ (log : Vec Entry Global). log.items) c.self.inside.past.items in
    let last : c.args.era ≡ length past
    = (let len = c.len.ensures in let more = c.if-era-len.false in let era = ap (λ (e : Eras). e.era) c.self.view_is in
    let most = c.requires in omega (arith, len, more, era, most, long)) in
    let k = c.k-k.ensures.value ∙ ap (λ (s : Dimensions). s.k) c.shape.ensures in
    let path : entries_from c.deref-2.result.now c.k-k.result c.deref-3.result.now 0 c.log.result.now ≡ entries_of_era c.args.era c.args.self.now.log
    = ap (λ (bases : List ℕ). entries_from bases c.k-k.result c.deref-3.result.now 0 c.log.result.now) c.deref-2.ensures.value
    ∙ ap (λ (n : ℕ). entries_from c.self.inside.bases.items n c.deref-3.result.now 0 c.log.result.now) k
    ∙ ap (λ (l : List Lowered). entries_from c.self.inside.bases.items c.self.inside.world.shape.k l 0 c.log.result.now) c.deref-3.ensures.value
    ∙ ap (entries_from c.self.inside.bases.items c.self.inside.world.shape.k c.self.inside.lowered.items 0) c.log.ensures.log
    ∙ sym (of-current c.self.inside.world c.self.inside.bases.items past c.self.inside.lowered.items c.args.era last)
    ∙ ap (λ (e : Eras). entries_of_era c.args.era e.log) c.self.view_is in
    subst (λ (xs : List Entry). IfOk c.told_since.result (λ (entries : Vec Entry Global). entries.items ≡ drop c.args.from xs)) path c.told_since.ensures
