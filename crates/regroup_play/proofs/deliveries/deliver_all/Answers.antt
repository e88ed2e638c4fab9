use Rattle.std.proofs.Common.{◌<◌, ◌+◌, ap, sym, subst, ◌∙◌, arith}
use Rattle.group_run.specs.Draining.{next_delivery}
use Rattle.group_run.specs.Progress.{load_of}
use Rattle.group_eras.specs.Eras.{Eras}
use Rattle.regroup_play.proofs.Delivering.{Made, Made-none, all-counted, all-delivered, next-made}
use Rattle.regroup_play.proofs.deliveries.deliver_all.Goals as goal

pub deliveries-init : goal.deliveries-init
deliveries-init c = Made-none c.args.regroup.now c.requires.led c.requires.up

pub deliver-requires : goal.deliver-requires
deliver-requires c = record {
  may = (next-made c.args.regroup.now c.deliveries.regroup c.deliveries.count c.deliveries.invariant c.in-Some.from
      c.in-Some.to (sym (c.in-Some.ensures ∙ ap next_delivery c.world.ensures))).may;
}

pub overflow_add-count : goal.overflow_add-count
overflow_add-count c =
    let below = c.deliveries.invariant.events in
    let few = c.in_ok-deliver.ensures.few in
    omega (arith, below, few)

pub deliveries-smaller : goal.deliveries-smaller
deliveries-smaller c =
    let d : Eras = c.deliveries.regroup in
    subst (λ (x : Eras). load_of x.world < load_of d.world) (sym c.in_ok-deliver.ensures.eras)
    (next-made c.args.regroup.now d c.deliveries.count c.deliveries.invariant c.in-Some.from c.in-Some.to
    (sym (c.in-Some.ensures ∙ ap next_delivery c.world.ensures))).lower

pub deliveries-preserved : goal.deliveries-preserved
deliveries-preserved c =
    subst (λ (x : Eras). Made c.args.regroup.now x (c.deliveries.count + 1)) (sym c.in_ok-deliver.ensures.eras)
    (next-made c.args.regroup.now c.deliveries.regroup c.deliveries.count c.deliveries.invariant c.in-Some.from c.in-Some.to
    (sym (c.in-Some.ensures ∙ ap next_delivery c.world.ensures))).more

pub returns-clause-eras : goal.returns-clause-eras
returns-clause-eras c = all-delivered c.args.regroup.now c.deliveries.regroup c.deliveries.count c.deliveries.invariant
    c.requires.up (sym (c.in_default.ensures ∙ ap next_delivery c.world.ensures))

pub returns-clause-count : goal.returns-clause-count
returns-clause-count c = all-counted c.args.regroup.now c.deliveries.regroup c.deliveries.count c.deliveries.invariant
    c.requires.up (sym (c.in_default.ensures ∙ ap next_delivery c.world.ensures))
