use Rattle.std.proofs.Common.{◌≡◌, ◌≤◌, ◌<◌, ℕ, ◌+◌, ◌-◌, Option, Vec, Global, length, get_or, vec_len, vec_capacity, refl, sym, ap, subst, ◌∙◌, arith}
use Rattle.std.proofs.lemmas.Grind.{common_steps}
use Rattle.std.proofs.lemmas.List.{length-set}
use Rattle.std.specs.List.{range_with_len}
use Rattle.group_types.specs.declared.run.Run.{Run}
use Rattle.group_ledger.specs.Accounts.{accounts_after, accounts_of}
use Rattle.group_ledger.proofs.Partitions.{alike-at, alike-behind, items_of, left-partition, still-few, still-some}
use Rattle.group_ledger.proofs.settling.settle_all.Goals as goal

pub partitions-init : goal.partitions-init
partitions-init c =
    let few = still-few 0 c.args.settled.now in
    let whole : length c.args.places.now - 0 ≡ length c.args.places.now = omega arith in
    record {
      left = ap (λ (n : ℕ). accounts_after c.args.settled.now (range_with_len 0 n)
          (accounts_of c.args.log.now.items (items_of c.args.places.now) c.args.tickets.now)) whole;
      many = refl;
      differ = c.requires.differ;
      log_room = omega (arith, few, c.requires.log_room);
      ahead = refl;
    }

pub settle_partition-requires-clause-log_room : goal.settle_partition-requires-clause-log_room
settle_partition-requires-clause-log_room c =
    let some = still-some c.partitions.d c.args.settled.now in
    omega (arith, some, c.partitions.invariant.log_room)

pub settle_partition-requires-clause-places_room :
    goal.settle_partition-requires-clause-places_room
settle_partition-requires-clause-places_room c =
    let d : ℕ = c.partitions.d in
    let p : Vec (Option Run) Global = c.index-places-d.result in
    let same : get_or c.partitions.places d p ≡ get_or c.args.places.now d p =
    alike-at c.partitions.places c.args.places.now d p c.partitions.invariant.ahead in
    subst (λ (v : Vec (Option Run) Global). vec_len v + length c.args.settled.now ≤ vec_capacity v) (sym same)
    (c.requires.places_room d p c.partitions-test.true)

pub partitions-preserved : goal.partitions-preserved
partitions-preserved c =
    let some = still-some c.partitions.d c.args.settled.now in
    let d : ℕ = c.partitions.d in
    let within : d < length c.partitions.places = grind (arith, common_steps) in
    record {
      left = left-partition c.args.settled.now d (length c.args.places.now) _ c.partitions.places c.partitions.log.items c.settle_partition.new.log.items
          c.partitions.tickets c.settle_partition.new.tickets c.index-places-d.result c.settle_partition.new.places
          c.partitions-test.true within (grind (arith, common_steps))
          c.settle_partition.ensures.log c.settle_partition.ensures.places c.settle_partition.ensures.tickets ∙ c.partitions.invariant.left;
      many = length-set c.partitions.places d c.settle_partition.new.places ∙ c.partitions.invariant.many;
      differ = c.settle_partition.ensures.differ;
      log_room = omega (arith, some, c.partitions.invariant.log_room, c.settle_partition.ensures.few, c.settle_partition.ensures.log_capacity);
      ahead = alike-behind c.partitions.places c.args.places.now d c.settle_partition.new.places c.partitions.invariant.ahead;
    }
