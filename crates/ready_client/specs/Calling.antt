-- The calls of one connection that are under way, beside those of others at one gateway.
use Rattle.std.specs.Prelude.{ℕ, ◌≡◌, ◌≢◌, ◌⊎◌, List, [], ◌∷◌, All, take, length, Option, Some, ⊤}
use Rattle.memc_table.specs.Asked.{Asked}
use Rattle.memc_table.specs.declared.act.Act.{Act}
use Rattle.memc_proto.specs.declared.end.CallEnd.{CallEnd}
use Rattle.front_end.specs.Gateway.{IsEndOf, IsNotOpen, Rules}
use Rattle.front_end.specs.Sequences.{sequence_of}
use Rattle.front_end.specs.Turns.{IsMoment}
use Rattle.front_end.specs.declared.overlap.Overlap.{Overlap}
use Rattle.ready_client.specs.declared.open_call.OpenCall.{OpenCall}
use Rattle.ready_client.specs.declared.open_call.OpenCall.TheVariants.{Open, Ended}

-- a call is among these, and its end wasn't taken
abbrev pub HasOpen : {K : Type 0} → List (OpenCall K) → K → Type 0
HasOpen [] call = ⊥
HasOpen (Open one ∷ calls) call = (call ≡ one) ⊎ HasOpen calls call
HasOpen (Ended _ ∷ calls) call = HasOpen calls call

-- none stands twice among these
abbrev pub StandOnce : {K : Type 0} → List (OpenCall K) → Type 0
StandOnce [] = ⊤
StandOnce (Open one ∷ calls) = (¬ HasOpen calls one) × StandOnce calls
StandOnce (Ended _ ∷ calls) = StandOnce calls

module _ {G K : Type 0} (rules : Rules G K) where
  -- a call of this op was begun, and is open or has ended
  abbrev pub IsBegunAs : G → Asked → OpenCall K → G → Type 0
  IsBegunAs before op (Open call) after = IsNotOpen rules before call × rules.opened after call op before
  IsBegunAs before op (Ended end) after = rules.ways.made before op end after

  -- of the calls that have a caller each had one before, or is the one that was begun and is open
  abbrev pub LendsBegun : Option (OpenCall K) → G → G → Type 0
  LendsBegun begun before after = (call : K) → rules.lent after call → rules.lent before call ⊎ (begun ≡ Some (Open call))

  -- the end is that of this call: it is taken, or was
  abbrev pub HasEndOf : G → OpenCall K → CallEnd → G → Type 0
  HasEndOf before (Open call) end after = IsEndOf rules before call end after
  HasEndOf before (Ended had) end after = (had ≡ end) × (after ≡ before)

  -- each of these is open at the gateway
  abbrev pub AreOpen : G → List (OpenCall K) → Type 0
  AreOpen now calls = (call : K) → HasOpen calls call → (op : Asked) × (began : G) × rules.opened now call op began

  -- the calls of others that were open are so, and none of them has become one of these
  abbrev pub KeepsApart : List (OpenCall K) → List (OpenCall K) → G → G → Type 0
  KeepsApart calls calls_now before after =
      (call : K) (op : Asked) (began : G) → ¬ HasOpen calls call → rules.opened before call op began
      → rules.opened after call op began × ¬ HasOpen calls_now call

  -- a call of another that has a caller now had one before, and was another's
  abbrev pub LendsApart : List (OpenCall K) → List (OpenCall K) → G → G → Type 0
  LendsApart calls calls_now before after =
      (call : K) → ¬ HasOpen calls_now call → rules.lent after call → rules.lent before call × ¬ HasOpen calls call

  -- those of these calls that are open stay so
  abbrev pub KeepsCalls : List (OpenCall K) → G → G → Type 0
  KeepsCalls calls before after = (call : K) (op : Asked) (began : G) → HasOpen calls call
      → rules.opened before call op began → rules.opened after call op began

module _ {G K : Type 0} (rules : Rules G K) (overlap : Overlap) (told : Option ℕ) (ends : List ℕ → G) (now : G) where
  -- a call of this act began so: where the last of its sequence ended, or later
  pub record BeganBehind (asked : Act) (op : Asked) (began : G) : Type 0 where
    pub act_is : op.act ≡ asked
    pub moment : IsMoment told op.moment
    pub later : rules.later (ends (sequence_of overlap op.act)) began

  -- a call of this act is open at the gateway, or has ended
  abbrev pub IsCalling : Act → OpenCall K → Type 0
  IsCalling asked (Open call) = (op : Asked) × (began : G) × BeganBehind asked op began × rules.opened now call op began
  IsCalling asked (Ended end) = (op : Asked) × (began : G) × (after : G) × BeganBehind asked op began
      × rules.ways.made began op end after × rules.later after now

  -- the calls are those of the first of these acts, in order, and no two are of one sequence
  abbrev pub AreCalls : List Act → List (OpenCall K) → Type 0
  AreCalls acts [] = ⊤
  AreCalls [] (_ ∷ _) = ⊥
  AreCalls (asked ∷ acts) (call ∷ calls) = IsCalling asked call
      × All (λ other. sequence_of overlap other ≢ sequence_of overlap asked) (take (length calls) acts) × AreCalls acts calls
