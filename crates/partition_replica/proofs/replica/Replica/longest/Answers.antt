use Rattle.std.proofs.Common.{is_some, refl, sym, ap, ◌∙◌, arith}
use Rattle.group_types.specs.Dimensions.{space_of}
use Rattle.partition_replica.specs.Inside.{replica_in}
use Rattle.partition_replica.proofs.Longest.{none-above, none-above_space}
use Rattle.partition_replica.proofs.replica.Replica.longest.Goals as goal

pub lengths-init : goal.lengths-init
lengths-init c =
    let replica = replica_in c.self.inside.index c.self.inside.log c.self.inside.kept.items in
    rw (c.space-high.ensures.value, ← c.self.view_is) (record {
      order = omega arith;
      fits = refl;
      most = none-above_space (space_of c.self.inside.shape) replica;
    })

pub lengths-preserved : goal.lengths-preserved
lengths-preserved c =
    let state = c.args.self.now in
    let none = sym (ap is_some c.place.ensures.place) ∙ sym c.is_some.ensures ∙ c.if-is_some.false in
    record {
      order = omega arith;
      fits = c.lengths.invariant.fits;
      most = none-above (space_of state.shape) state.replica _ (omega arith) none;
    }
