use Rattle.std.proofs.Common.{◌^◌, sym, ◌∙◌, arith, eqb-true}
use Rattle.std.proofs.lemmas.Bool.{eqb-false}
use Rattle.run_alloc.specs.Order.{order_key}
use Rattle.run_alloc.proofs.Laid.{laid-steady}
use Rattle.run_alloc.proofs.Searches.{found_steady, first_here, none_from, first_next, none_next}
use Rattle.run_alloc.proofs.chunks.first_in.Goals as goal

pub chunk_of-place-requires-clause-rises : goal.chunk_of-place-requires-clause-rises
chunk_of-place-requires-clause-rises c = laid-steady (order_key c.args.order) c.args.chunks.now (2 ^ 64) c.requires.laid

pub place_of-within-requires : goal.place_of-within-requires
place_of-within-requires c =
    found_steady (order_key c.args.order) c.args.chunks.now c.args.rank _ c.chunk_of-place.ensures
    c.runs_at-runs.result.now c.runs_at-runs.ensures c.requires.laid

pub returns-then-within-runs : goal.returns-then-within-runs
returns-then-within-runs c = first_here (order_key c.args.order) c.args.chunks.now c.args.rank _ c.chunk_of-place.ensures
    c.runs_at-runs.result.now c.runs_at-runs.ensures c.requires.laid c.requires.even _ c.place_of-within.ensures _
    (omega arith)

pub returns-then-place-chunks : goal.returns-then-place-chunks
returns-then-place-chunks c = none_from (order_key c.args.order) c.args.chunks.now c.args.rank _ c.chunk_of-place.ensures
    c.runs_at-runs.result.now c.runs_at-runs.ensures c.requires.laid c.requires.even _ c.place_of-within.ensures
    (omega arith) (omega arith)

pub returns-then-is_empty : goal.returns-then-is_empty
returns-then-is_empty c = none_next (order_key c.args.order) c.args.chunks.now c.args.rank _ c.chunk_of-place.ensures
    c.runs_at-runs.result.now c.runs_at-runs.ensures c.requires.laid c.requires.even _ c.place_of-within.ensures
    c.runs_at-next.result.now c.if-place-chunks.false c.runs_at-next.ensures (omega arith)
    (omega (arith, eqb-true _ _ (sym c.is_empty.ensures ∙ c.if-is_empty.true)))

pub returns : goal.returns
returns c = first_next (order_key c.args.order) c.args.chunks.now c.args.rank _ c.chunk_of-place.ensures
    c.runs_at-runs.result.now c.runs_at-runs.ensures c.requires.laid c.requires.even _ c.place_of-within.ensures
    c.runs_at-next.result.now c.if-place-chunks.false c.runs_at-next.ensures _ (omega arith)
    (omega (arith, eqb-false _ _ (sym c.is_empty.ensures ∙ c.if-is_empty.false)))
