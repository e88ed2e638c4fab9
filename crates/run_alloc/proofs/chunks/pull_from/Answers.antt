use Rattle.std.proofs.Common.{◌^◌, ◌∷◌, length, refl, ap, ◌∙◌, length-append, arith, rules}
use Rattle.run_alloc.specs.Order.{order_key}
use Rattle.run_alloc.proofs.Laid.{laid-steady}
use Rattle.run_alloc.proofs.Moves.{found_rises_all, found_light, found_kept, set_amid, set_starts, pull_laid, pull_adds}
use Rattle.run_alloc.proofs.chunks.pull_from.Goals as goal

pub chunk_of-place-requires-clause-rises : goal.chunk_of-place-requires-clause-rises
chunk_of-place-requires-clause-rises c = rw c.deref.ensures.value (laid-steady (order_key c.args.order) c.args.chunks.now.items (2 ^ 64) c.requires.laid)

pub pull-requires-clause-rises : goal.pull-requires-clause-rises
pull-requires-clause-rises c =
    let is = rw (c.deref.ensures.value, c.rank.ensures) at c.chunk_of-place.ensures in
    found_rises_all (order_key c.args.order) c.args.chunks.now.items c.args.run _ is c.index_mut.result.now
    c.index_mut.ensures.value c.requires.laid c.requires.even

pub pull-requires-clause-kept : goal.pull-requires-clause-kept
pull-requires-clause-kept c =
    let is = rw (c.deref.ensures.value, c.rank.ensures) at c.chunk_of-place.ensures in
    found_kept (order_key c.args.order) c.args.chunks.now.items c.args.run _ is c.index_mut.result.now
    c.index_mut.ensures.value c.requires.laid c.requires.even c.requires.kept

pub returns : goal.returns
returns c =
    let rank = order_key c.args.order in
    let all = c.args.chunks.now.items in
    let run = c.args.run in
    let is = rw (c.deref.ensures.value, c.rank.ensures) at c.chunk_of-place.ensures in
    let here = c.index_mut.result.now in
    let at = c.index_mut.ensures.value in
    let light = found_light rank all run _ is here at c.requires.laid c.requires.even in
    let pulls = c.pull.ensures.pulls in
    record {
      adds = pull_adds rank all run _ is here at c.requires.laid c.requires.even _ refl pulls;
      laid = pull_laid rank all run _ is here at c.requires.laid c.requires.even _ refl pulls;
      starts = set_starts rank all run _ is here at c.requires.laid c.requires.even _ refl ∙ c.requires.starts;
      amid = set_amid rank all run _ is here at c.requires.laid c.requires.even _ refl
          (omega (
            arith,
            light,
            ap length pulls.was,
            ap length pulls.is,
            length-append pulls.before pulls.after,
            length-append pulls.before (run ∷ pulls.after),
          )) (omega (arith, light, c.pull.ensures.capacity));
      len = search rules;
      capacity = search rules;
    }
