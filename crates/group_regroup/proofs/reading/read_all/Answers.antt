use Rattle.std.proofs.Common.{List, ◌∷◌, refl, sym, subst}
use Rattle.group_regroup.specs.declared.items.Item.{Item}
use Rattle.group_regroup.specs.declared.items.Parcel.{Parcel}
use Rattle.group_regroup.proofs.Draining.{on-err}
use Rattle.group_regroup.proofs.Readings.{Reads, Reads-behind, Reads-next, Reads-none, Reads-part, next-within}
use Rattle.group_regroup.proofs.reading.read_all.Goals as goal

pub items-init : goal.items-init
items-init c =
    subst (λ (xs : List Item). Reads c.args.world.now c.args.items.items c.args.world.now xs c.new-parcels.result.items)
    (sym c.into_iter-item-iterator.ensures.into_iter_gives.0)
    (subst (Reads c.args.world.now c.args.items.items c.args.world.now c.args.items.items)
    (sym c.new-parcels.ensures.items) (Reads-none c.args.world.now c.args.items.items c.requires.up
    c.requires.within))

pub get-requires-clause-partition : goal.get-requires-clause-partition
get-requires-clause-partition c =
    let r : Reads c.args.world.now c.args.items.items c.items.world (c.in-Some.item ∷ c.next.new.self.rest.items) c.items.parcels.items
    = subst (λ (xs : List Item). Reads c.args.world.now c.args.items.items c.items.world xs c.items.parcels.items)
    c.in-Some.ensures.steps.0 c.items.invariant in
    next-within c.args.world.now c.args.items.items c.items.world c.in-Some.item c.next.new.self.rest.items c.items.parcels.items r

pub returns-in_err-value-clause-err : goal.returns-in_err-value-clause-err
returns-in_err-value-clause-err c =
    let r : Reads c.args.world.now c.args.items.items c.items.world (c.in-Some.item ∷ c.next.new.self.rest.items) c.items.parcels.items
    = subst (λ (xs : List Item). Reads c.args.world.now c.args.items.items c.items.world xs c.items.parcels.items)
    c.in-Some.ensures.steps.0 c.items.invariant in
    on-err c.from_residual.result
    (Reads-part c.args.world.now c.args.items.items c.items.world c.in-Some.item c.next.new.self.rest.items
    c.items.parcels.items r c.get.new.world c.in_err-value.ensures.err)

pub returns-in_err-push-clause-err : goal.returns-in_err-push-clause-err
returns-in_err-push-clause-err c =
    let r : Reads c.args.world.now c.args.items.items c.items.world (c.in-Some.item ∷ c.next.new.self.rest.items) c.items.parcels.items
    = subst (λ (xs : List Item). Reads c.args.world.now c.args.items.items c.items.world xs c.items.parcels.items)
    c.in-Some.ensures.steps.0 c.items.invariant in
    on-err c.from_residual-in_err-push.result
    (Reads-behind c.args.world.now c.args.items.items c.items.world c.in-Some.item c.next.new.self.rest.items
    c.items.parcels.items r c.get.new.world c.in_ok-value.ensures.world)

pub items-preserved : goal.items-preserved
items-preserved c =
    let r : Reads c.args.world.now c.args.items.items c.items.world (c.in-Some.item ∷ c.next.new.self.rest.items) c.items.parcels.items
    = subst (λ (xs : List Item). Reads c.args.world.now c.args.items.items c.items.world xs c.items.parcels.items)
    c.in-Some.ensures.steps.0 c.items.invariant in
    let p : Parcel = record { item = c.in-Some.item; value = c.in_ok-value.value } in
    subst (Reads c.args.world.now c.args.items.items c.get.new.world c.next.new.self.rest.items) (sym c.in_ok-push.ensures.items)
    (Reads-next c.args.world.now c.args.items.items c.items.world c.in-Some.item c.next.new.self.rest.items
    c.items.parcels.items r c.get.new.world c.in_ok-value.ensures.world p
    c.in_ok-value.ensures.up refl c.in_ok-value.ensures.value)
