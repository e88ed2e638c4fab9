-- A gateway, of which several calls are open at once.
use Rattle.std.specs.Prelude.{◌≡◌, ◌≢◌, ◌⊎◌, Option, Some}
use Rattle.memc_table.specs.Asked.{Asked}
use Rattle.memc_proto.specs.declared.end.CallEnd.{CallEnd}
use Rattle.front_end.specs.Calls.{Ways}

-- the relations of a gateway, which its trait tells: what a call may come to from where it began to where its end was taken,
-- that a call has a caller, that a call of an op is open which began there, and that one comes behind another
pub record Rules (G K : Type 0) : Type 1 where
  pub ways : Ways G
  pub lent : G → K → Type 0
  pub opened : G → K → Asked → G → Type 0
  pub later : G → G → Type 0

-- the call is not open
abbrev pub IsNotOpen : {G K : Type 0} → Rules G K → G → K → Type 0
IsNotOpen {G} rules now call = (op : Asked) (began : G) → ¬ (rules.opened now call op began)

-- the calls that are open stay so
abbrev pub KeepsOpen : {G K : Type 0} → Rules G K → G → G → Type 0
KeepsOpen {G} {K} rules before after = (call : K) (op : Asked) (began : G) → rules.opened before call op began → rules.opened after call op began

-- those stay so that are others than this one
abbrev pub KeepsOtherCalls : {G K : Type 0} → Rules G K → K → G → G → Type 0
KeepsOtherCalls {G} {K} rules one before after =
    (call : K) (op : Asked) (began : G) → call ≢ one → rules.opened before call op began → rules.opened after call op began

-- the end is that of the call
abbrev pub IsEndOf : {G K : Type 0} → Rules G K → G → K → CallEnd → G → Type 0
IsEndOf {G} rules before call end after = (op : Asked) (began : G) → rules.opened before call op began → rules.ways.made began op end after

-- of the calls that have a caller each had one before, or is the one that was begun
abbrev pub LendsOnly : {G K : Type 0} → Rules G K → Option K → G → G → Type 0
LendsOnly {G} {K} rules begun before after = (call : K) → rules.lent after call → rules.lent before call ⊎ (begun ≡ Some call)

abbrev pub LendsNone : {G K : Type 0} → Rules G K → G → G → Type 0
LendsNone {G} {K} rules before after = (call : K) → rules.lent after call → rules.lent before call
