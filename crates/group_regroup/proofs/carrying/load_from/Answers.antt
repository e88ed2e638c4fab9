use Rattle.std.proofs.Common.{◌≡◌, ◌≤◌, ◌++◌, ℕ, List, sym, subst}
use Rattle.std.specs.Prelude.{IfErr}
use Rattle.group_eras.specs.Items.{Load, loads_in}
use Rattle.group_regroup.specs.Carrying.{StandFor}
use Rattle.group_regroup.specs.Items.{AreWithin, IsLongFault, live_items}
use Rattle.group_regroup.specs.declared.items.Item.{Item}
use Rattle.group_regroup.proofs.Loads.{listed-bytes, listed-stand, live-within, on-ok, stand-both, within-both}
use Rattle.group_regroup.proofs.carrying.load_from.Goals as goal

pub returns-in-Ok-clause-items : goal.returns-in-Ok-clause-items
returns-in-Ok-clause-items c =
    let before : List Item = c.args.items.now.items in
    let more : List Item = live_items c.args.partition c.in-Ok.heads.items in
    on-ok c.load.result (λ (is : c.load.new.items.items ≡ before ++ more). λ (xs : List Load) (stand : StandFor before xs).
    subst (λ (ys : List Item). StandFor ys (xs ++ loads_in c.args.world.now c.args.partition.0)) (sym is)
    (stand-both before more xs (loads_in c.args.world.now c.args.partition.0) stand
    (listed-stand c.args.world.now c.args.partition c.in-Ok.heads.items c.in-Ok.ensures))) c.load.ensures.items

pub returns-in-Ok-clause-within : goal.returns-in-Ok-clause-within
returns-in-Ok-clause-within c =
    let k : ℕ = c.args.world.now.shape.k in
    let before : List Item = c.args.items.now.items in
    let more : List Item = live_items c.args.partition c.in-Ok.heads.items in
    on-ok c.load.result (λ (is : c.load.new.items.items ≡ before ++ more). λ (within : AreWithin k before).
    subst (AreWithin k) (sym is)
    (within-both k before more within (live-within k c.args.partition c.in-Ok.heads.items c.requires.partition)))
    c.load.ensures.items

pub returns-in-Ok-clause-space : goal.returns-in-Ok-clause-space
returns-in-Ok-clause-space c =
    on-ok c.load.result
    (subst (λ (n : ℕ). n ≤ c.args.space) (listed-bytes c.args.world.now c.args.partition c.in-Ok.heads.items
    c.in-Ok.ensures)) c.load.ensures.space

pub returns-in-Ok-clause-fault : goal.returns-in-Ok-clause-fault
returns-in-Ok-clause-fault c =
    subst (λ (n : ℕ). IfErr c.load.result (IsLongFault c.args.partition n c.args.space))
    (listed-bytes c.args.world.now c.args.partition c.in-Ok.heads.items c.in-Ok.ensures) c.load.ensures.fault
