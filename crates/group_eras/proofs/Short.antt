-- A carry makes fewer than 2^62 events in each of the two groups.
use Rattle.std.proofs.Common.{ℕ, zero, suc, ◌≡◌, ◌<◌, ◌≤◌, ◌+◌, ◌*◌, ◌^◌, List, length, ap, ◌∙◌, arith}
use Rattle.std.proofs.lemmas.List.{length-map}
use Rattle.std.proofs.lemmas.Nat.{mul-le}
use Rattle.group_types.specs.Dimensions.{Dimensions}
use Rattle.group_types.specs.Names.{process_at}
use Rattle.group_types.specs.Shape.{IsShape}
use Rattle.group_types.specs.declared.process.ProcessId.{ProcessId}
use Rattle.group_calls.specs.Turns.{Turn}
use Rattle.group_run.specs.Progress.{block_waits}
use Rattle.group_run.specs.World.{World, after, opening, turns_from}
use Rattle.law_progress.proofs.Waits.{few_waits_always}
use Rattle.group_eras.specs.Carry.{Parcel, reading, setting}
use Rattle.group_eras.specs.Items.{loads}
use Rattle.group_eras.specs.Moments.{CarriesAreShort}
use Rattle.group_eras.proofs.Carrying as carrying
use Rattle.group_eras.proofs.Counting.{events-are, loads-few}
use Rattle.group_eras.proofs.Draining.{shape-after}
use Rattle.group_eras.proofs.Promises.{led-stands}
use Rattle.group_eras.proofs.Readings.{parcel_for, total}
use Rattle.group_eras.proofs.Resting.{Rests}
use Rattle.group_eras.proofs.Standing.{Stands}

-- a number that is added so often
abbrev times_of : ℕ → ℕ → ℕ
times_of zero b = 0
times_of (suc n) b = b + times_of n b

times-rise : (n m b : ℕ) → n ≤ m → times_of n b ≤ times_of m b
times-rise zero m b low = omega arith
times-rise (suc n) zero b low = absurd (omega (arith, low))
times-rise (suc n) (suc m) b low = let rest = times-rise n m b (omega (arith, low)) in omega (arith, rest)

total-most : (s : Dimensions) (n b : ℕ) (turns : List Turn) → ((p : ProcessId) → block_waits p turns ≤ b) → total s n turns ≤ times_of n b
total-most s zero b turns each = omega arith
total-most s (suc n) b turns each = let one = each (process_at s n) in let rest = total-most s n b turns each in omega (arith, one, rest)

twenty : (b : ℕ) → times_of 20 b ≤ b * 20
twenty b = omega arith

-- a space has no more blocks than bytes, over 16
few-blocks : (s : Dimensions) → IsShape s → s.blocks ≤ 4194304
few-blocks s shaped =
    let block = shaped.block.0 in
    let most : s.blocks * s.block ≤ 67108864 = shaped.blocks.1 in
    let less : s.blocks * 16 ≤ s.blocks * s.block = mul-le s.blocks 16 s.blocks s.block (omega arith) block in
    omega (arith, most, less)

pub carries_are_short : CarriesAreShort
carries_are_short e s led successor can made = record { reads = reads-few; sets = sets-few } where
  stands : Stands e
  stands = led-stands e led

  rests : Rests e.world.shape stands.era.events
  rests = carrying.rests e stands can.rest

  w : World
  w = after e.world.shape stands.era.events

  events : e.world.events ≡ length stands.era.events
  events =
      let made-there = ap (λ (v : World). v.events) stands.era.stands ∙ events-are (opening e.world.shape) stands.era.events in
      omega (arith, made-there)

  loads-low : length (loads (after e.world.shape stands.era.events)) ≤ length stands.era.events
  loads-low = loads-few e.world.shape stands.era.events rests

  waits : total e.world.shape (e.world.shape.k + e.world.shape.m)
      (turns_from (after e.world.shape stands.era.events) (reading (after e.world.shape stands.era.events)).events)
      ≤ 83886080
  waits =
      let t : Dimensions = e.world.shape in
      let turns : List Turn = turns_from w (reading w).events in
      let blocks : (after e.world.shape stands.era.events).shape.blocks ≡ e.world.shape.blocks =
      ap (λ (x : Dimensions). x.blocks) (shape-after (opening e.world.shape) stands.era.events) in
      let all = total-most t (t.k + t.m) t.blocks turns (λ p. let few = few_waits_always t stands.era.events rests.run
      (reading w).events p (carrying.run-reading e stands can.rest) (carrying.well e stands can.rest).asked in
      omega (arith, few, blocks)) in
      let k = rests.run.0.k.1 in
      let m = rests.run.0.m in
      let rise = times-rise (t.k + t.m) 20 t.blocks (omega (arith, k, m)) in
      let twenty-is = twenty t.blocks in
      let few = few-blocks t rests.run.0 in
      omega (arith, all, rise, twenty-is, few)

  reads-few : e.world.events + length (reading e.world).events < 2 ^ 62
  reads-few =
      let few = (carrying.well e stands can.rest).few in
      let most = waits in
      let same : length (reading e.world).events ≡ length (reading w).events = ap (λ (v : World). length (reading v).events) stands.era.stands in
      let count = events in
      let low = loads-low in
      omega (arith, few, most, same, count, low, made)

  sets-few : length (setting (opening s) (reading e.world).parcels) < 2 ^ 62
  sets-few =
      let short = (carrying.all-set e stands can.rest s successor can).short in
      let long = length-map (loads w) (parcel_for e.world.shape stands.era.events rests) in
      let same : length (setting (opening s) (reading e.world).parcels)
      ≡ length (setting (opening s) (carrying.parcels e stands can.rest)) =
      ap (λ (ps : List Parcel). length (setting (opening s) ps)) (carrying.parcels-are e stands can.rest) in
      let count = events in
      let low = loads-low in
      omega (arith, short, long, same, count, low, made)
