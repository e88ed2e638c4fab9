use Rattle.std.proofs.Common.{◌≡◌, ◌<◌, ◌^◌, ◌++◌, ◌∷◌, ℕ, List, [], length, map, sym, ap, subst, ◌∙◌, arith}
use Rattle.std.specs.Prelude.{All}
use Rattle.group_types.specs.Dimensions.{Dimensions}
use Rattle.group_calls.specs.declared.entry.Entry.{Entry}
use Rattle.group_run.specs.World.{World}
use Rattle.group_eras.specs.Carry.{IsBegun, carried, many_carried, reading}
use Rattle.group_eras.specs.Eras.{Eras}
use Rattle.group_eras.specs.Items.{loads}
use Rattle.group_eras.specs.Promise.{HasCarried}
use Rattle.group_eras.specs.Refusal.{IsSuccessor}
use Rattle.group_regroup.specs.Carrying.{IsFresh}
use Rattle.group_regroup.specs.Kept.{AreLed, eras_of}
use Rattle.group_regroup.specs.declared.changing.Lowered.{Lowered}
use Rattle.group_regroup.proofs.Behind.{map-push, map-same}
use Rattle.group_regroup.proofs.Carries.{begun-is, begun-led, carried-is, carried-keeps, carried-led}
use Rattle.group_regroup.proofs.Loads.{stand-long}
use Rattle.group_regroup.proofs.regroup.Regroup.carry.Goals as goal

pub invariant_of-self-in-Err-fresh : goal.invariant_of-self-in-Err-fresh
invariant_of-self-in-Err-fresh c =
    let w : World = c.self.inside.world in
    let bases : List ℕ = c.self.inside.bases.items in
    let past : List (List Entry) = map (λ log. log.items) c.self.inside.past.items in
    let l : List Lowered = c.self.inside.lowered.items in
    let same : map (λ log. log.items) c.reserve.new.self.items ≡ past =
    map-same (λ log. log.items) c.reserve.new.self.items c.self.inside.past.items c.reserve.ensures.items in
    subst (λ (logs : List (List Entry)). AreLed c.renew-fresh.new.world bases logs l) (sym same) (
    begun-led w bases past l c.run.ensures c.self.invariant c.in-Ok.ensures.can.rest c.renew-fresh.new.world c.in-Err-fresh.ensures.err)

pub returns-in-Err-fresh-clause-left : goal.returns-in-Err-fresh-clause-left
returns-in-Err-fresh-clause-left c =
    let w : World = c.self.inside.world in
    let bases : List ℕ = c.self.inside.bases.items in
    let past : List (List Entry) = map (λ log. log.items) c.self.inside.past.items in
    let l : List Lowered = c.self.inside.lowered.items in
    let same : map (λ log. log.items) c.reserve.new.self.items ≡ past =
    map-same (λ log. log.items) c.reserve.new.self.items c.self.inside.past.items c.reserve.ensures.items in
    subst (λ (x : Eras). IsBegun x (eras_of c.renew-fresh.new.world bases (map (λ log. log.items) c.reserve.new.self.items) l)) c.self.view_is
    (subst (λ (logs : List (List Entry)). IsBegun (eras_of w bases past l) (eras_of c.renew-fresh.new.world bases logs l)) (sym same)
    (begun-is w bases past l c.run.ensures c.self.invariant c.in-Ok.ensures.can.rest c.renew-fresh.new.world c.in-Err-fresh.ensures.err))

pub invariant_of-self-in-Ok-fresh : goal.invariant_of-self-in-Ok-fresh
invariant_of-self-in-Ok-fresh c =
    let w : World = c.self.inside.world in
    let s : Dimensions = c.args.shape in
    let bases : List ℕ = c.self.inside.bases.items in
    let past : List (List Entry) = map (λ log. log.items) c.self.inside.past.items in
    let l : List Lowered = c.self.inside.lowered.items in
    let successor : IsSuccessor w s = subst (λ (x : Eras). IsSuccessor x.world s) (sym c.self.view_is) c.requires.successor in
    let low : All (λ base. base < 2 ^ 62) bases = subst (λ (x : Eras). All (λ base. base < 2 ^ 62) x.bases) (sym c.self.view_is) c.requires.bases in
    let few : w.events < 2 ^ 58 = subst (λ (x : Eras). x.world.events < 2 ^ 58) (sym c.self.view_is) c.requires.events in
    let made : IsFresh (reading w).world bases l s (reading w).parcels c.in-Ok-fresh.fresh
    = subst (λ (xs : List Lowered). IsFresh (reading w).world bases xs s (reading w).parcels c.in-Ok-fresh.fresh) c.deref-2.ensures.value
    (subst (λ (bs : List ℕ). IsFresh (reading w).world bs c.deref-2.result.now s (reading w).parcels
    c.in-Ok-fresh.fresh) c.deref.ensures.value c.in-Ok-fresh.ensures.fresh) in
    let pushed : map (λ log. log.items) c.push_reserved.new.self.items ≡ past ++ c.in-Ok-fresh.fresh.told.items ∷ []
    = map-push (λ log. log.items) c.push_reserved.new.self.items c.reserve.new.self.items c.self.inside.past.items
    c.in-Ok-fresh.fresh.told c.push_reserved.ensures.items c.reserve.ensures.items in
    subst (λ (xs : List Lowered). AreLed c.in-Ok-fresh.fresh.world c.in-Ok-fresh.fresh.bases.items
    (map (λ log. log.items) c.push_reserved.new.self.items) xs) (sym c.clear.ensures.items)
    (subst (λ (logs : List (List Entry)). AreLed c.in-Ok-fresh.fresh.world c.in-Ok-fresh.fresh.bases.items logs []) (sym pushed)
    (carried-led w bases past l c.run.ensures c.self.invariant c.in-Ok.ensures.can.rest s successor c.in-Ok.ensures.can c.in-Ok-fresh.fresh made low few))

pub returns-in-Ok-fresh-clause-eras : goal.returns-in-Ok-fresh-clause-eras
returns-in-Ok-fresh-clause-eras c =
    let w : World = c.self.inside.world in
    let s : Dimensions = c.args.shape in
    let bases : List ℕ = c.self.inside.bases.items in
    let past : List (List Entry) = map (λ log. log.items) c.self.inside.past.items in
    let l : List Lowered = c.self.inside.lowered.items in
    let successor : IsSuccessor w s = subst (λ (x : Eras). IsSuccessor x.world s) (sym c.self.view_is) c.requires.successor in
    let made : IsFresh (reading w).world bases l s (reading w).parcels c.in-Ok-fresh.fresh
    = subst (λ (xs : List Lowered). IsFresh (reading w).world bases xs s (reading w).parcels c.in-Ok-fresh.fresh) c.deref-2.ensures.value
    (subst (λ (bs : List ℕ). IsFresh (reading w).world bs c.deref-2.result.now s (reading w).parcels
    c.in-Ok-fresh.fresh) c.deref.ensures.value c.in-Ok-fresh.ensures.fresh) in
    let pushed : map (λ log. log.items) c.push_reserved.new.self.items ≡ past ++ c.in-Ok-fresh.fresh.told.items ∷ []
    = map-push (λ log. log.items) c.push_reserved.new.self.items c.reserve.new.self.items c.self.inside.past.items
    c.in-Ok-fresh.fresh.told c.push_reserved.ensures.items c.reserve.ensures.items in
    ap (λ (xs : List Lowered). eras_of c.in-Ok-fresh.fresh.world c.in-Ok-fresh.fresh.bases.items
    (map (λ log. log.items) c.push_reserved.new.self.items) xs) c.clear.ensures.items
    ∙ ap (λ (logs : List (List Entry)). eras_of c.in-Ok-fresh.fresh.world c.in-Ok-fresh.fresh.bases.items logs []) pushed
    ∙ carried-is w bases past l c.run.ensures c.self.invariant c.in-Ok.ensures.can.rest s successor c.in-Ok.ensures.can c.in-Ok-fresh.fresh made
    ∙ ap (λ (x : Eras). carried x s) c.self.view_is

pub returns-in-Ok-fresh-clause-many : goal.returns-in-Ok-fresh-clause-many
returns-in-Ok-fresh-clause-many c =
    let w : World = c.self.inside.world in
    let many : c.len-many.result ≡ length c.in-Ok.items.items = omega (arith, c.len-many.ensures, c.in-Ok.items.ok.0) in
    many ∙ stand-long c.in-Ok.items.items (loads w) c.in-Ok.ensures.items ∙ ap many_carried c.self.view_is

pub returns-in-Ok-fresh-clause-kept : goal.returns-in-Ok-fresh-clause-kept
returns-in-Ok-fresh-clause-kept c =
    let w : World = c.self.inside.world in
    let s : Dimensions = c.args.shape in
    let bases : List ℕ = c.self.inside.bases.items in
    let past : List (List Entry) = map (λ log. log.items) c.self.inside.past.items in
    let l : List Lowered = c.self.inside.lowered.items in
    let successor : IsSuccessor w s = subst (λ (x : Eras). IsSuccessor x.world s) (sym c.self.view_is) c.requires.successor in
    let made : IsFresh (reading w).world bases l s (reading w).parcels c.in-Ok-fresh.fresh
    = subst (λ (xs : List Lowered). IsFresh (reading w).world bases xs s (reading w).parcels c.in-Ok-fresh.fresh) c.deref-2.ensures.value
    (subst (λ (bs : List ℕ). IsFresh (reading w).world bs c.deref-2.result.now s (reading w).parcels
    c.in-Ok-fresh.fresh) c.deref.ensures.value c.in-Ok-fresh.ensures.fresh) in
    subst (λ (x : Eras). HasCarried x s) c.self.view_is
    (carried-keeps w bases past l c.run.ensures c.self.invariant c.in-Ok.ensures.can.rest s successor c.in-Ok.ensures.can c.in-Ok-fresh.fresh made)
