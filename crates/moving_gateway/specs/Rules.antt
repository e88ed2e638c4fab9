-- A gateway that may be closed, and tells numbers with a base.
use Rattle.std.specs.Prelude.{◌≡◌, ◌⊎◌, Bool, true, false, ◌&&◌, not, Some, IsSome, MatchBool}
use Rattle.group_types.specs.Hash.{home_of}
use Rattle.memc_table.specs.Act.{key_of}
use Rattle.memc_table.specs.Asked.{Asked}
use Rattle.memc_proto.specs.declared.end.CallEnd.{CallEnd}
use Rattle.memc_proto.specs.declared.end.CallEnd.TheVariants.{Moves}
use Rattle.front_end.specs.Gateway.{Rules}
use Rattle.group_run.specs.Deciding.{is_get}
use Rattle.group_eras.specs.Told.{op_for_era}
use Rattle.moving_gateway.specs.Told.{end_told}
use Rattle.moving_gateway.specs.declared.call.MovingCall.{MovingCall}
use Rattle.moving_gateway.specs.declared.call.MovingCall.TheVariants.{Inner, Refused}
use Rattle.moving_gateway.specs.declared.gateway.MovingGateway.{MovingGateway}

-- a call that may change an item is refused where the gateway was closed
abbrev pub is_refused : {G : Type 0} → MovingGateway G → Asked → Bool
is_refused began op = began.is_closed && not (is_get op.act)

module _ {G K : Type 0} (inner : Rules G K) where
  -- the inner gateway came behind, and the bases stayed
  pub record IsLater (before after : MovingGateway G) : Type 0 where
    pub behind : inner.later before.inner after.inner
    pub bases : after.bases ≡ before.bases

  -- the inner gateway made the call with the base taken off, and its end is told with the base added
  pub record IsPassed (began : MovingGateway G) (op : Asked) (end : CallEnd) (after : MovingGateway G) : Type 0 where
    pub ended : CallEnd
    pub made : inner.ways.made began.inner (op_for_era began.bases.items began.shape.k op) ended after.inner
    pub told : end ≡ end_told began.bases.items (home_of (key_of op.act) began.shape.k) ended

  -- the inner gateway didn't make it
  pub record HasMoved (began : MovingGateway G) (end : CallEnd) (after : MovingGateway G) : Type 0 where
    pub moves : end ≡ Moves
    pub later : IsLater began after

  -- what a call came to, by where it began
  abbrev pub IsCallEnd : MovingGateway G → Asked → CallEnd → MovingGateway G → Type 0
  IsCallEnd began op end after = MatchBool (is_refused began op) (HasMoved began end after) (IsPassed began op end after)

  -- what a call left that found no memory: nothing, or what the inner gateway made of it with the base taken off
  abbrev pub HasLeft : MovingGateway G → Asked → MovingGateway G → Type 0
  HasLeft before op after = (after ≡ before) ⊎ inner.ways.kept before.inner (op_for_era before.bases.items before.shape.k op) after.inner

  -- a call that began there is open at the inner gateway
  pub record IsInnerOpen (now : MovingGateway G) (call : K) (op : Asked) (began : MovingGateway G) : Type 0 where
    pub passes : is_refused began op ≡ false
    pub opened : inner.opened now.inner call (op_for_era began.bases.items began.shape.k op) began.inner
    pub bases : now.bases ≡ began.bases
    pub shape : now.shape ≡ began.shape

  -- a call that began there is the one that was refused
  pub record IsRefusedCall (now : MovingGateway G) (op : Asked) (began : MovingGateway G) : Type 0 where
    pub refused : is_refused began op ≡ true
    pub last : now.refused ≡ Some op
    pub later : IsLater began now

  abbrev pub IsOpened : MovingGateway G → MovingCall K → Asked → MovingGateway G → Type 0
  IsOpened now (Inner call) op began = IsInnerOpen now call op began
  IsOpened now Refused op began = IsRefusedCall now op began

  -- a call has a caller of the inner gateway, or is the one that was refused
  abbrev pub IsLent : MovingGateway G → MovingCall K → Type 0
  IsLent now (Inner call) = inner.lent now.inner call
  IsLent now Refused = IsSome now.refused

  -- the relations of the gateway
  abbrev pub moving_rules : Rules (MovingGateway G) (MovingCall K)
  moving_rules = record {
    ways = record {
      made = IsCallEnd;
      failed = λ before at keep end after. inner.ways.failed before.inner at keep end after.inner;
      kept = HasLeft;
      unmade = λ before after. inner.ways.unmade before.inner after.inner;
    };
    lent = IsLent;
    opened = IsOpened;
    later = IsLater;
  }
