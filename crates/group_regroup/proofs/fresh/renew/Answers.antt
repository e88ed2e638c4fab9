use Rattle.std.proofs.Common.{◌≡◌, ℕ, List, sym, ap, subst, ◌∙◌}
use Rattle.std.specs.Prelude.{IfOk}
use Rattle.group_run.specs.World.{World}
use Rattle.group_eras.specs.Carry.{reading}
use Rattle.group_eras.specs.Carry as carry
use Rattle.group_eras.specs.Items.{loads}
use Rattle.group_regroup.specs.Carrying.{IsFresh}
use Rattle.group_regroup.specs.Items.{AreAllWithin, parcels_as}
use Rattle.group_regroup.specs.Parts.{IsPart}
use Rattle.group_regroup.proofs.Behind.{parcels-within, read-after, read-stand}
use Rattle.group_regroup.proofs.Draining.{on-err}
use Rattle.group_regroup.proofs.Loads.{always-ok}
use Rattle.group_regroup.proofs.Tries.{part-whole}
use Rattle.group_regroup.proofs.fresh.renew.Goals as goal

pub returns-in_err-parcels-clause-err : goal.returns-in_err-parcels-clause-err
returns-in_err-parcels-clause-err c =
    let w : World = c.args.world.now in
    on-err c.from_residual.result (subst (λ (r : carry.Reading). IsPart w r.events c.read_all.new.world)
    (read-stand w c.args.items.items c.requires.loads) c.in_err-parcels.ensures.err)

pub fill-requires-clause-within : goal.fill-requires-clause-within
fill-requires-clause-within c =
    let w : World = c.args.world.now in
    subst (λ (k : ℕ). AreAllWithin k c.in_ok-parcels.parcels.items) (sym c.requires.partitions)
    (parcels-within w.shape.k w c.args.items.items c.in_ok-parcels.parcels.items c.requires.within c.in_ok-parcels.ensures.parcels)

pub returns-clause-world : goal.returns-clause-world
returns-clause-world c =
    let w : World = c.args.world.now in
    always-ok c.fill.result (c.in_ok-parcels.ensures.world ∙ ap (λ (r : carry.Reading). r.world) (read-stand w c.args.items.items c.requires.loads))

pub returns-clause-fresh : goal.returns-clause-fresh
returns-clause-fresh c =
    let w : World = c.args.world.now in
    let world : c.read_all.new.world ≡ (reading w).world = c.in_ok-parcels.ensures.world
    ∙ ap (λ (r : carry.Reading). r.world) (read-stand w c.args.items.items c.requires.loads) in
    subst (λ (ps : List carry.Parcel). IfOk c.fill.result (IsFresh (reading w).world c.args.bases.now c.args.lowered.now c.args.shape ps))
    (c.in_ok-parcels.ensures.parcels ∙ ap (λ (r : carry.Reading). r.parcels) (read-stand w c.args.items.items c.requires.loads))
    (subst (λ (v : World). IfOk c.fill.result
    (IsFresh v c.args.bases.now c.args.lowered.now c.args.shape (parcels_as c.in_ok-parcels.parcels.items))) world
    c.fill.ensures)

pub returns-clause-err : goal.returns-clause-err
returns-clause-err c =
    let w : World = c.args.world.now in
    let world : c.read_all.new.world ≡ (reading w).world = c.in_ok-parcels.ensures.world
    ∙ ap (λ (r : carry.Reading). r.world) (read-stand w c.args.items.items c.requires.loads) in
    on-err c.fill.result (part-whole w c.read_all.new.world (reading w).events (world ∙ read-after w (loads w)))
