use Rattle.std.proofs.Common.{arith}
use Rattle.group_types.specs.Dimensions.{space_of}
use Rattle.run_alloc.specs.Free.{IsPlace, is_free_address}
use Rattle.partition_replica.specs.Inside.{replica_in}
use Rattle.partition_replica.proofs.Places.{no_place, place_is, place_run, place_free}
use Rattle.partition_replica.proofs.replica.Replica.place.Goals as goal

pub returns-in_err-at : goal.returns-in_err-at
returns-in_err-at c =
    let replica = replica_in c.self.inside.index c.self.inside.log c.self.inside.kept.items in
    let none = no_place (space_of c.self.inside.shape) replica c.args.len (is_free_address c.self.inside.runs)
    c.self.invariant.free (omega arith) (rw c.self.invariant.size at c.in_err-at.ensures) in
    rw (c.from_residual.ensures, ← c.self.view_is) (record { place = none; run = tt; free = tt })

pub returns : goal.returns
returns c =
    let replica = replica_in c.self.inside.index c.self.inside.log c.self.inside.kept.items in
    let found : IsPlace (space_of c.self.inside.shape) (is_free_address c.self.inside.runs) c.args.len c.in_ok-at.at =
    rw c.self.invariant.size at c.in_ok-at.ensures in
    rw (← c.self.view_is) (record {
      place = place_is (space_of c.self.inside.shape) replica c.args.len (is_free_address c.self.inside.runs) c.self.invariant.free (omega arith) _ found;
      run = place_run (space_of c.self.inside.shape) replica c.args.len (is_free_address c.self.inside.runs) c.self.invariant.free (omega arith) _ found;
      free = place_free (space_of c.self.inside.shape) replica c.args.len (is_free_address c.self.inside.runs) c.self.invariant.free (omega arith) _ found;
    })
