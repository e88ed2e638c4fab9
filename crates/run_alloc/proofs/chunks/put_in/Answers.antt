use Rattle.std.proofs.Common.{◌^◌, ◌∷◌, length, refl, ap, ◌∙◌, length-append, arith, rules}
use Rattle.run_alloc.specs.Order.{order_key}
use Rattle.run_alloc.proofs.Ranks.{rises-steady}
use Rattle.run_alloc.proofs.Laid.{laid-steady}
use Rattle.run_alloc.proofs.Moves.{found_rises_all, found_light, set_amid, set_starts, put_laid, put_adds}
use Rattle.run_alloc.proofs.chunks.put_in.Goals as goal

pub chunk_of-place-requires-clause-rises : goal.chunk_of-place-requires-clause-rises
chunk_of-place-requires-clause-rises c = rw c.deref.ensures.value (laid-steady (order_key c.args.order) c.args.chunks.now.items (2 ^ 64) c.requires.laid)

pub put-requires-clause-rises : goal.put-requires-clause-rises
put-requires-clause-rises c =
    let is = rw (c.deref.ensures.value, c.rank.ensures) at c.chunk_of-place.ensures in
    rises-steady (order_key c.args.order) c.index_mut.result.now.runs.items 0 (2 ^ 64)
    (found_rises_all (order_key c.args.order) c.args.chunks.now.items c.args.run _ is c.index_mut.result.now
    c.index_mut.ensures.value c.requires.laid c.requires.even)

pub put-requires-clause-room : goal.put-requires-clause-room
put-requires-clause-room c =
    let is = rw (c.deref.ensures.value, c.rank.ensures) at c.chunk_of-place.ensures in
    omega (
      arith,
      found_light (order_key c.args.order) c.args.chunks.now.items c.args.run _ is c.index_mut.result.now
          c.index_mut.ensures.value c.requires.laid c.requires.even,
    )

pub returns : goal.returns
returns c =
    let rank = order_key c.args.order in
    let all = c.args.chunks.now.items in
    let run = c.args.run in
    let is = rw (c.deref.ensures.value, c.rank.ensures) at c.chunk_of-place.ensures in
    let here = c.index_mut.result.now in
    let at = c.index_mut.ensures.value in
    let light = found_light rank all run _ is here at c.requires.laid c.requires.even in
    let puts = c.put.ensures.puts in
    record {
      adds = put_adds rank all run _ is here at c.requires.laid c.requires.even _ refl puts;
      laid = put_laid rank all run _ is here at c.requires.laid c.requires.even _ refl puts c.requires.fresh;
      starts = set_starts rank all run _ is here at c.requires.laid c.requires.even _ refl ∙ c.requires.starts;
      amid = set_amid rank all run _ is here at c.requires.laid c.requires.even _ refl
          (omega (
            arith,
            light,
            ap length puts.was,
            ap length puts.is,
            length-append puts.before puts.after,
            length-append puts.before (run ∷ puts.after),
          )) (omega (arith, light, c.put.ensures.capacity));
      len = search rules;
      capacity = search rules;
    }
