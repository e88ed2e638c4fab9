use Rattle.std.proofs.Common.{◌+◌, List, get_or, ap, ◌∙◌, arith}
use Rattle.std.proofs.lemmas.List.Edits.{get_or-remove_below}
use Rattle.run_alloc.specs.declared.chunk.Chunk.{Chunk}
use Rattle.run_alloc.specs.Order.{order_key}
use Rattle.run_alloc.proofs.Splits.{joined_runs, joined_laid, joined_starts, joined_rich, rich_still, rich_enough}
use Rattle.run_alloc.proofs.chunks.join_few.Goals.{else-place-len-via-then-place-len+else-len-lt-FEW, else-place-len-via-else-place-len}
use Rattle.run_alloc.proofs.chunks.join_few.Goals as goal

pub returns-in-Ok-clause-runs : goal.returns-in-Ok-clause-runs
returns-in-Ok-clause-runs c =
    let read = c.index_mut.ensures.value ∙ ap (λ (l : List Chunk). get_or l c.args.place c.index_mut.result.now) c.remove-next.ensures.items
    ∙ get_or-remove_below c.args.chunks.now.items (c.args.place + 1) c.index_mut.result.now c.args.place (omega arith) (omega arith) in
    rw c.remove-next.ensures.items (joined_runs (order_key c.args.order) c.args.chunks.now.items c.args.place
    c.requires.amid c.index_mut.result.now c.remove-next.result read c.remove-next.ensures.value (omega arith)
    c.requires.laid c.join-runs.new.chunk c.join-runs.ensures.low c.join-runs.ensures.runs)

pub returns-in-Ok-clause-laid : goal.returns-in-Ok-clause-laid
returns-in-Ok-clause-laid c =
    let read = c.index_mut.ensures.value ∙ ap (λ (l : List Chunk). get_or l c.args.place c.index_mut.result.now) c.remove-next.ensures.items
    ∙ get_or-remove_below c.args.chunks.now.items (c.args.place + 1) c.index_mut.result.now c.args.place (omega arith) (omega arith) in
    rw c.remove-next.ensures.items (joined_laid (order_key c.args.order) c.args.chunks.now.items c.args.place
    c.requires.amid c.index_mut.result.now c.remove-next.result read c.remove-next.ensures.value (omega arith)
    c.requires.laid c.join-runs.new.chunk c.join-runs.ensures.low c.join-runs.ensures.runs)

pub returns-in-Ok-clause-starts : goal.returns-in-Ok-clause-starts
returns-in-Ok-clause-starts c =
    let read = c.index_mut.ensures.value ∙ ap (λ (l : List Chunk). get_or l c.args.place c.index_mut.result.now) c.remove-next.ensures.items
    ∙ get_or-remove_below c.args.chunks.now.items (c.args.place + 1) c.index_mut.result.now c.args.place (omega arith) (omega arith) in
    rw c.remove-next.ensures.items (joined_starts (order_key c.args.order) c.args.chunks.now.items c.args.place
    c.requires.amid c.index_mut.result.now c.remove-next.result read c.remove-next.ensures.value (omega arith)
    c.requires.laid c.join-runs.new.chunk c.join-runs.ensures.low c.join-runs.ensures.runs)

pub returns-in-Ok-clause-rich : goal.returns-in-Ok-clause-rich
returns-in-Ok-clause-rich c =
    let read = c.index_mut.ensures.value ∙ ap (λ (l : List Chunk). get_or l c.args.place c.index_mut.result.now) c.remove-next.ensures.items
    ∙ get_or-remove_below c.args.chunks.now.items (c.args.place + 1) c.index_mut.result.now c.args.place (omega arith) (omega arith) in
    rw c.remove-next.ensures.items (joined_rich (order_key c.args.order) c.args.chunks.now.items c.args.place
    c.requires.amid c.index_mut.result.now c.remove-next.result read c.remove-next.ensures.value (omega arith)
    c.requires.laid c.join-runs.new.chunk c.join-runs.ensures.low c.join-runs.ensures.runs c.join-runs.ensures.light
    c.join-runs.ensures.room)

pub returns-else-place-len-clause-rich : goal.returns-else-place-len-clause-rich
returns-else-place-len-clause-rich c =
    elim c.else-place-len.branch [
      | else-place-len-via-then-place-len+else-len-lt-FEW w ↦ rich_enough c.args.chunks.now.items c.args.place
          c.requires.amid w.index.result.now w.index.ensures
          (omega (arith, w.index.result.now.runs.ok, w.len-then-place-len.ensures, w.if-len-lt-FEW.false))
      | else-place-len-via-else-place-len w ↦ rich_still c.args.chunks.now.items c.args.place c.requires.amid (omega arith)
    ]
