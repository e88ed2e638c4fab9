use Rattle.std.proofs.Common.{◌^◌, arith}
use Rattle.run_alloc.specs.Order.{order_key}
use Rattle.run_alloc.proofs.Laid.{laid-steady}
use Rattle.run_alloc.proofs.Searches.{found_steady, last_here, last_ahead, none_below, last_big}
use Rattle.run_alloc.proofs.chunks.last_in.Goals as goal

pub chunk_of-place-requires-clause-rises : goal.chunk_of-place-requires-clause-rises
chunk_of-place-requires-clause-rises c = laid-steady (order_key c.args.order) c.args.chunks.now (2 ^ 64) c.requires.laid

pub place_of-within-requires : goal.place_of-within-requires
place_of-within-requires c =
    found_steady (order_key c.args.order) c.args.chunks.now c.args.rank _ c.chunk_of-place.ensures
    c.runs_at-runs.result.now c.runs_at-runs.ensures c.requires.laid

pub returns-then-within-gt0 : goal.returns-then-within-gt0
returns-then-within-gt0 c = last_here (order_key c.args.order) c.args.chunks.now c.args.rank _ c.chunk_of-place.ensures
    c.runs_at-runs.result.now c.runs_at-runs.ensures c.requires.laid c.requires.even _ c.place_of-within.ensures _
    c.if-within-gt0.true

pub returns-then-place-eq0 : goal.returns-then-place-eq0
returns-then-place-eq0 c = none_below (order_key c.args.order) c.args.chunks.now c.args.rank _ c.chunk_of-place.ensures
    c.runs_at-runs.result.now c.runs_at-runs.ensures c.requires.laid c.requires.even _ c.place_of-within.ensures
    (omega arith) (omega arith)

pub overflow_sub-result-2 : goal.overflow_sub-result-2
overflow_sub-result-2 c =
    omega (
      arith,
      last_big (order_key c.args.order) c.args.chunks.now c.args.rank _ c.chunk_of-place.ensures
          c.runs_at-runs.result.now c.runs_at-runs.ensures c.requires.laid c.requires.even _ c.place_of-within.ensures
          c.runs_at-last.result.now (omega arith) c.runs_at-last.ensures,
    )

pub returns : goal.returns
returns c = last_ahead (order_key c.args.order) c.args.chunks.now c.args.rank _ c.chunk_of-place.ensures
    c.runs_at-runs.result.now c.runs_at-runs.ensures c.requires.laid c.requires.even _ c.place_of-within.ensures
    c.runs_at-last.result.now (omega arith) c.runs_at-last.ensures _ (omega arith)

pub bounds-last-last : goal.bounds-last-last
bounds-last-last c =
    omega (
      arith,
      last_big (order_key c.args.order) c.args.chunks.now c.args.rank _ c.chunk_of-place.ensures
          c.runs_at-runs.result.now c.runs_at-runs.ensures c.requires.laid c.requires.even _ c.place_of-within.ensures
          c.runs_at-last.result.now (omega arith) c.runs_at-last.ensures,
    )
