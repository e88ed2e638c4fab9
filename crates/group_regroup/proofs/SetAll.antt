-- How items are set, one after the other.
use Rattle.std.proofs.Common.{◌≡◌, ◌<◌, List, ◌∷◌, refl, sym, ap, subst, ◌∙◌, arith}
use Rattle.std.specs.Prelude.{All}
use Rattle.std.proofs.lemmas.List.Elements.{All-head, All-tail}
use Rattle.group_types.specs.Dimensions.{Dimensions}
use Rattle.group_run.specs.Meaning.{IsDown}
use Rattle.group_run.specs.World.{World, step, world_after}
use Rattle.group_eras.specs.Carry.{drained, draining, set_of, setting}
use Rattle.group_eras.specs.Carry as carry
use Rattle.scenario_run.proofs.Leading.{keeps-shape}
use Rattle.group_regroup.specs.declared.items.Parcel.{Parcel}
use Rattle.group_regroup.specs.Items.{AreAllWithin, parcel_as, parcels_as}
use Rattle.group_regroup.specs.Parts.{MayAsk}
use Rattle.group_regroup.proofs.Tries.{after-append}

-- a set may be asked of the data process of its partition
pub set-ask : (w : World) (x : carry.Parcel) → x.partition < w.shape.k → All (λ b. b < 256) x.value → MayAsk w (set_of x)
set-ask w x low bytes = record { caller = _; op = _; at = _; is = refl; may = (omega arith, low, bytes) }

-- some items were set
pub record Sets (w : World) (all : List Parcel) (v : World) (rest : List Parcel) : Type 0 where
  pub up : ¬ (IsDown v)
  pub within : AreAllWithin v.shape.k rest
  pub whole : world_after w (setting w (parcels_as all)) ≡ world_after v (setting v (parcels_as rest))

pub Sets-none : (w : World) (all : List Parcel) → ¬ (IsDown w) → AreAllWithin w.shape.k all → Sets w all w all
Sets-none w all up within = record { up = up; within = within; whole = refl }

module _ (w : World) (all : List Parcel) (v : World) (x : Parcel) (rest : List Parcel) (s : Sets w all v (x ∷ rest)) where
  pub set-within : x.item.partition.0 < v.shape.k
  set-within = All-head (λ (y : Parcel). y.item.partition.0 < v.shape.k) x rest s.within

  pub Sets-next : (u : World) → ¬ (IsDown u) → u ≡ drained (step v (set_of (parcel_as x))).world → Sets w all u rest
  Sets-next u up is = record {
    up = up;
    within = subst (λ (t : Dimensions). AreAllWithin t.k rest) (sym shape) (All-tail (λ (y : Parcel). y.item.partition.0 < v.shape.k) x rest s.within);
    whole = s.whole ∙ after-append v (set_of (parcel_as x) ∷ draining (step v (set_of (parcel_as x))).world)
        (setting (drained (step v (set_of (parcel_as x))).world) (parcels_as rest))
        ∙ ap (λ (y : World). world_after y (setting y (parcels_as rest))) (sym is);
  } where
    shape : u.shape ≡ v.shape
    shape = ap (λ (y : World). y.shape) is ∙ keeps-shape (step v (set_of (parcel_as x))).world (draining (step v (set_of (parcel_as x))).world)
