use Rattle.std.proofs.Common.{◌≡◌, ◌<◌, ◌≤◌, ◌-◌, ◌+◌, ℕ, List, Some, length, map, sym, ap, ◌∙◌, arith}
use Rattle.std.specs.Prelude.{slice_get}
use Rattle.std.specs.Option.{option_map}
use Rattle.group_types.specs.Dimensions.{Dimensions}
use Rattle.group_calls.specs.declared.entry.Entry.{Entry}
use Rattle.group_eras.specs.Eras.{EraEntry, Eras}
use Rattle.group_regroup.specs.declared.changing.Lowered.{Lowered}
use Rattle.group_regroup.specs.Kept.{told_from}
use Rattle.group_regroup.proofs.Places.{entry_past, get-index, get-part, here-past, long-part, next-past, none-past, told-same}
use Rattle.group_regroup.proofs.regroup.Regroup.entry.Goals as goal

pub eras-init : goal.eras-init
eras-init c = ap (λ (e : Eras). slice_get e.log c.args.place) (sym c.self.view_is)

pub returns-then-left-len : goal.returns-then-left-len
returns-then-left-len c =
    let past : List (List Entry) = map (λ log. log.items) c.self.inside.past.items in
    let own : List EraEntry = told_from c.self.inside.bases.items c.self.inside.world.shape.k (length past)
    c.self.inside.lowered.items 0 c.self.inside.world.log in
    let low : c.eras.era < length c.self.inside.past.items = omega (arith, c.eras-test.true, c.len-era-end.ensures, c.self.inside.past.ok.0) in
    let log : List Entry = c.index-log.result.now.items in
    let short : c.eras.left < length log = omega (arith, c.if-left-len.true, c.len.ensures, c.index-log.result.now.ok.0) in
    ap (λ (e : Entry). Some (c.eras.era, e)) c.in_ok-entry.ensures
    ∙ sym (c.eras.invariant
    ∙ here-past own past c.eras.era log (get-part (λ log. log.items) c.self.inside.past.items c.eras.era
    c.index-log.result.now low c.index-log.ensures) c.eras.left c.index.result.now short
    (get-index log c.eras.left c.index.result.now short c.index.ensures))

pub eras-preserved : goal.eras-preserved
eras-preserved c =
    let past : List (List Entry) = map (λ log. log.items) c.self.inside.past.items in
    let own : List EraEntry = told_from c.self.inside.bases.items c.self.inside.world.shape.k (length past)
    c.self.inside.lowered.items 0 c.self.inside.world.log in
    let low : c.eras.era < length c.self.inside.past.items = omega (arith, c.eras-test.true, c.len-era-end.ensures, c.self.inside.past.ok.0) in
    let log : List Entry = c.index-log.result.now.items in
    let many : length log ≡ c.len-left.result = omega (arith, c.len-left.ensures, c.index-log.result.now.ok.0) in
    let long : length log ≤ c.eras.left = omega (arith, c.if-left-len.false, c.len.ensures, c.index-log.result.now.ok.0) in
    c.eras.invariant
    ∙ next-past own past c.eras.era log (get-part (λ log. log.items) c.self.inside.past.items c.eras.era
    c.index-log.result.now low c.index-log.ensures) c.eras.left long
    ∙ ap (λ (n : ℕ). entry_past own past (c.eras.era + 1) (c.eras.left - n)) many

pub returns-in-None : goal.returns-in-None
returns-in-None c =
    let past : List (List Entry) = map (λ log. log.items) c.self.inside.past.items in
    let bases : List ℕ = c.self.inside.bases.items in
    let lowered : List Lowered = c.self.inside.lowered.items in
    let k : ℕ = c.self.inside.world.shape.k in
    let own : List EraEntry = told_from bases k (length past) lowered 0 c.self.inside.world.log in
    let many : length past ≡ length c.self.inside.past.items = long-part (λ log. log.items) c.self.inside.past.items in
    let high : length past ≤ c.eras.era = omega (arith, many, c.eras-test.false, c.len-era-end.ensures, c.self.inside.past.ok.0) in
    let width : c.k-k.result ≡ k = c.k-k.ensures.value ∙ ap (λ (s : Dimensions). s.k) c.shape.ensures in
    let told : slice_get own c.eras.left ≡ option_map (λ x. (length past, x)) c.in_ok-told_in.field-0
    = told-same (length past) bases c.deref.result.now k c.k-k.result lowered c.deref-2.result.now
    c.self.inside.world.log c.log.result.now c.eras.left c.deref.ensures.value width c.deref-2.ensures.value
    c.log.ensures.log
    ∙ sym (c.in_ok-told_in.ensures (length past)) in
    sym (c.eras.invariant ∙ none-past own past c.eras.era c.eras.left high ∙ told ∙ ap (option_map (λ x. (length past, x))) c.in-None.is)

pub returns-in-Some : goal.returns-in-Some
returns-in-Some c =
    let past : List (List Entry) = map (λ log. log.items) c.self.inside.past.items in
    let bases : List ℕ = c.self.inside.bases.items in
    let lowered : List Lowered = c.self.inside.lowered.items in
    let k : ℕ = c.self.inside.world.shape.k in
    let own : List EraEntry = told_from bases k (length past) lowered 0 c.self.inside.world.log in
    let many : length past ≡ length c.self.inside.past.items = long-part (λ log. log.items) c.self.inside.past.items in
    let high : length past ≤ c.eras.era = omega (arith, many, c.eras-test.false, c.len-era-end.ensures, c.self.inside.past.ok.0) in
    let width : c.k-k.result ≡ k = c.k-k.ensures.value ∙ ap (λ (s : Dimensions). s.k) c.shape.ensures in
    let told : slice_get own c.eras.left ≡ option_map (λ x. (length past, x)) c.in_ok-told_in.field-0
    = told-same (length past) bases c.deref.result.now k c.k-k.result lowered c.deref-2.result.now
    c.self.inside.world.log c.log.result.now c.eras.left c.deref.ensures.value width c.deref-2.ensures.value
    c.log.ensures.log
    ∙ sym (c.in_ok-told_in.ensures (length past)) in
    let last : c.len-in-Some.result ≡ length past = omega (arith, many, c.len-in-Some.ensures, c.self.inside.past.ok.0) in
    ap (λ (n : ℕ). Some (n, c.in-Some.entry)) last
    ∙ sym (c.eras.invariant ∙ none-past own past c.eras.era c.eras.left high ∙ told
    ∙ ap (option_map (λ x. (length past, x))) c.in-Some.is)
