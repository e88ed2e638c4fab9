use Rattle.std.proofs.Common.{ℕ, ◌≡◌, ◌≢◌, ◌<◌, ◌≤◌, ◌+◌, List, Option, None, length, refl, ap, sym, subst, ◌∙◌, arith}
use Rattle.std.proofs.lemmas.Grind.{common_steps}
use Rattle.std.proofs.lemmas.List.FromFn.{length-map-range_with_len}
use Rattle.std.specs.List.{range_with_len}
use Rattle.group_types.specs.Dimensions.{Dimensions}
use Rattle.group_types.specs.Lists.{at}
use Rattle.group_types.proofs.Lists.{at-map-range, at-put-other, set_put}
use Rattle.group_run.specs.Applying.{for_each}
use Rattle.group_run.specs.Process.{Head, Process}
use Rattle.group_run.specs.Receiving.{take_over_if}
use Rattle.head_service.specs.Serving.{Serving, serving}
use Rattle.process_service.specs.Noticing.{successor_at}
use Rattle.process_service.specs.Steps.{HasMade}
use Rattle.process_service.proofs.Each.{left-first, left-next}
use Rattle.process_service.proofs.Lists.{entry-at, long-set}
use Rattle.process_service.proofs.Taken.{successors-stay}
use Rattle.process_service.proofs.service.Service.take_over_all.Goals as goal

from-zero : (e : ℕ) → 0 + e ≡ e
from-zero e = omega arith

above : (e d : ℕ) → d + 1 ≤ e → e ≢ d
above e d high same = absurd (omega (arith, high, same))

pub partitions-init : goal.partitions-init
partitions-init g c =
    let s : Dimensions = c.args.self.now.shape in
    record {
      stays = record { shape = refl; name = refl; beneath = c.requires.beneath; pages = refl };
      room = c.requires.room;
      long = ap length c.requires.heads ∙ length-map-range_with_len (successor_at c.args.self.now) 0 s.k;
      heads = λ e low below. ap (λ (xs : List (Option Head)). at None xs e) c.requires.heads
          ∙ at-map-range None (successor_at c.args.self.now) s.k 0 e below ∙ ap (successor_at c.args.self.now) (from-zero e);
      ahead = left-first (take_over_if s) s.k (serving c.args.self.now (g.B.Beneath.storage c.args.below.now).process) c.args.settled.now.items;
    }

pub take_over_if-requires-clause-head : goal.take_over_if-requires-clause-head
take_over_if-requires-clause-head g c =
    let wide : c.self.inside.shape.k ≡ c.args.self.now.shape.k = ap (λ (w : Serving). w.shape.k) c.self.view_is in
    let below : c.partitions.d < c.args.self.now.shape.k = grind (arith, common_steps) in
    c.take-head.ensures.value
    ∙ sym (entry-at None c.partitions.heads.items c.partitions.d c.index_mut.result.now
    (omega (arith, below, c.partitions.invariant.long)) c.index_mut.ensures.value)
    ∙ c.partitions.invariant.heads c.partitions.d (omega arith) below

pub partitions-preserved : goal.partitions-preserved
partitions-preserved g c =
    let s : Dimensions = c.args.self.now.shape in
    let d : ℕ = c.partitions.d in
    let b : Process = (g.B.Beneath.storage c.partitions.below).process in
    let b2 : Process = (g.B.Beneath.storage c.take_over_if.new.below).process in
    let wide : c.self.inside.shape.k ≡ s.k = ap (λ (w : Serving). w.shape.k) c.self.view_is in
    let below : d < s.k = grind (arith, common_steps) in
    let made : HasMade (take_over_if s d (serving c.partitions.self b)) c.partitions.settled.items
    (serving c.take_over_if.new.self b2) c.take_over_if.new.settled.items
    = subst (λ (x : Dimensions). HasMade (take_over_if x d (serving c.partitions.self b)) c.partitions.settled.items
    (serving c.take_over_if.new.self b2) c.take_over_if.new.settled.items)
    c.partitions.invariant.stays.shape c.take_over_if.ensures.made in
    record {
      stays = record {
        shape = c.take_over_if.ensures.stays.shape ∙ c.partitions.invariant.stays.shape;
        name = c.take_over_if.ensures.stays.name ∙ c.partitions.invariant.stays.name;
        beneath = c.take_over_if.ensures.stays.beneath;
        pages = c.take_over_if.ensures.stays.pages ∙ c.partitions.invariant.stays.pages;
      };
      room = c.take_over_if.ensures.room;
      long = long-set c.partitions.heads.items d c.take-head.new.self ∙ c.partitions.invariant.long;
      heads = λ e high within.
          ap (λ (xs : List (Option Head)). at None xs e) (set_put None c.partitions.heads.items d c.take-head.new.self
          (omega (arith, below, c.partitions.invariant.long)))
          ∙ at-put-other None c.partitions.heads.items d e c.take-head.new.self (above e d high)
          ∙ c.partitions.invariant.heads e (omega (arith, high)) within
          ∙ sym (successors-stay s c.partitions.self c.take_over_if.new.self b b2 c.partitions.invariant.stays.beneath.name (sym c.partitions.invariant.stays.shape)
          c.take_over_if.ensures.stays.beneath.name
          (sym (c.take_over_if.ensures.stays.shape ∙ c.partitions.invariant.stays.shape)) d e (above e d high)
          made.process);
      ahead = left-next (take_over_if s) s.k d (serving c.partitions.self b) (serving c.take_over_if.new.self b2)
          c.partitions.settled.items c.take_over_if.new.settled.items
          c.args.settled.now.items
          (for_each (range_with_len 0 s.k) (take_over_if s)
          (serving c.args.self.now (g.B.Beneath.storage c.args.below.now).process)) below made
          c.partitions.invariant.ahead;
    }
