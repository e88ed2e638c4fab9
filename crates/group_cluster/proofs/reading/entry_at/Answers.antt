use Rattle.std.proofs.Common.{◌≡◌, ◌≤◌, ◌+◌, List, length, slice_index_or, ap, ◌∙◌, arith}
use Rattle.group_calls.specs.declared.entry.Entry.{Entry}
use Rattle.group_cluster.specs.declared.groups.Part.{Part}
use Rattle.group_cluster.proofs.Places.{found, left-behind, reached}
use Rattle.group_cluster.proofs.reading.entry_at.Goals as goal

pub overflow_add-result : goal.overflow_add-result
overflow_add-result c =
    let p : Part = slice_index_or c.args.parts.now c.parts.i (record { group = 0; from = 0; many = 0 }) in
    let r : p.from + p.many ≤ length c.index-worlds-part.result.log
    = reached c.args.shape c.args.worlds.now c.args.parts.now c.requires c.args.place c.parts.i c.parts.left
    (record { group = 0; from = 0; many = 0 }) c.parts-test.true c.parts.invariant.left
    c.index-worlds-part.result c.index-worlds-part.is in
    let long : length c.log-log.result.now ≡ length c.index-worlds-part.result.log = ap length c.log-log.ensures.log in
    omega (arith, r, long, c.if-left-part.true, c.log-log.type_inv.0)

pub offset_bounds-log-part : goal.offset_bounds-log-part
offset_bounds-log-part c =
    let p : Part = slice_index_or c.args.parts.now c.parts.i (record { group = 0; from = 0; many = 0 }) in
    let r : p.from + p.many ≤ length c.index-worlds-part.result.log
    = reached c.args.shape c.args.worlds.now c.args.parts.now c.requires c.args.place c.parts.i c.parts.left
    (record { group = 0; from = 0; many = 0 }) c.parts-test.true c.parts.invariant.left
    c.index-worlds-part.result c.index-worlds-part.is in
    let long : length c.log-log.result.now ≡ length c.index-worlds-part.result.log = ap length c.log-log.ensures.log in
    omega (arith, r, long, c.if-left-part.true, c.log-log.type_inv.1)

pub bounds-log-part : goal.bounds-log-part
bounds-log-part c =
    let p : Part = slice_index_or c.args.parts.now c.parts.i (record { group = 0; from = 0; many = 0 }) in
    let r : p.from + p.many ≤ length c.index-worlds-part.result.log
    = reached c.args.shape c.args.worlds.now c.args.parts.now c.requires c.args.place c.parts.i c.parts.left
    (record { group = 0; from = 0; many = 0 }) c.parts-test.true c.parts.invariant.left
    c.index-worlds-part.result c.index-worlds-part.is in
    let long : length c.log-log.result.now ≡ length c.index-worlds-part.result.log = ap length c.log-log.ensures.log in
    omega (arith, r, long, c.if-left-part.true)

pub returns-then-left-part : goal.returns-then-left-part
returns-then-left-part c =
    let d : Part = record { group = 0; from = 0; many = 0 } in
    found c.args.shape c.args.worlds.now c.args.parts.now c.requires c.args.place c.parts.i c.parts.left d c.parts-test.true c.parts.invariant.left
    c.index-worlds-part.result c.index-log-part.result c.index-worlds-part.is
    (c.index-log-part.is
    ∙ ap (λ (l : List Entry). slice_index_or l ((slice_index_or c.args.parts.now c.parts.i d).from + c.parts.left)
    c.index-log-part.result) c.log-log.ensures.log)
    c.if-left-part.true

pub parts-preserved : goal.parts-preserved
parts-preserved c =
    record {
      left = left-behind c.args.shape c.args.worlds.now c.args.parts.now c.requires c.args.place c.parts.i c.parts.left
          (record { group = 0; from = 0; many = 0 }) c.parts-test.true
          c.parts.invariant.left c.if-left-part.false;
    }
