-- Stages at which a call waits for no member: what was told leaves it at one, and so does giving up.
use Rattle.std.proofs.Common.{ℕ, ◌≡◌, ◌⊎◌, inl, inr, Bool, true, false, Some, None, refl, ap}
use Rattle.group_types.specs.declared.process.ProcessId.{ProcessId}
use Rattle.memc_table.specs.Asked.{Asked}
use Rattle.memc_table.specs.declared.act.Act.{Act}
use Rattle.memc_table.specs.declared.act.Act.TheVariants as act
use Rattle.group_calls.specs.declared.event.Answer.{Answer}
use Rattle.group_calls.specs.declared.event.Answer.TheVariants as says
use Rattle.group_wire.specs.GoingOn.{IsEnd}
use Rattle.group_wire.specs.May.{awaited_member}
use Rattle.group_wire.specs.Serving.{again, stage_given_up, stage_learned, stage_told}
use Rattle.group_wire.specs.Sets.{one_or}
use Rattle.group_wire.specs.State.{Told, Stage, Unasked, AskedOf, Unknown, TracedAt, Answered}

-- it waits for no member
abbrev pub IsFree : Stage → Type 0
IsFree stage = awaited_member stage ≡ None

-- what was told ends a call, or it is asked again, or traced
pub told-either : (t : Told) (n : ℕ) (a : Answer) (b : Bool) → ((stage_told t n a b ≡ Answered t n) × IsEnd a)
    ⊎ (stage_told t n a b ≡ Unasked) ⊎ (stage_told t n a b ≡ Unknown)
told-either t n (says.Reply reply) b = inl (refl, tt)
told-either t n says.NoSpace b = inl (refl, tt)
told-either t n says.Gone true = inr (inl refl)
told-either t n says.Gone false = inr (inl refl)
told-either t n (says.Ticket i) true = inr (inr refl)
told-either t n (says.Ticket i) false = inr (inl refl)
told-either t n says.NotYet true = inr (inr refl)
told-either t n says.NotYet false = inr (inl refl)
told-either t n (says.Retry reason) true = inr (inr refl)
told-either t n (says.Retry reason) false = inr (inl refl)
told-either t n says.Moved true = inr (inr refl)
told-either t n says.Moved false = inr (inl refl)
told-either t n says.Lost true = inr (inr refl)
told-either t n says.Lost false = inr (inl refl)
told-either t n says.Down true = inr (inr refl)
told-either t n says.Down false = inr (inl refl)
told-either t n says.Idle true = inr (inr refl)
told-either t n says.Idle false = inr (inl refl)
told-either t n says.Stranger true = inr (inr refl)
told-either t n says.Stranger false = inr (inl refl)
told-either t n says.Done true = inr (inr refl)
told-either t n says.Done false = inr (inl refl)
told-either t n says.AlreadyDead true = inr (inr refl)
told-either t n says.AlreadyDead false = inr (inl refl)
told-either t n (says.Stale i) true = inr (inr refl)
told-either t n (says.Stale i) false = inr (inl refl)

pub told-free : (t : Told) (n : ℕ) (a : Answer) (b : Bool) → IsFree (stage_told t n a b)
told-free t n a b = by (told-either t n a b) where
  by : ((stage_told t n a b ≡ Answered t n) × IsEnd a) ⊎ (stage_told t n a b ≡ Unasked) ⊎ (stage_told t n a b ≡ Unknown) → IsFree (stage_told t n a b)
  by (inl (is, end)) = ap awaited_member is
  by (inr (inl is)) = ap awaited_member is
  by (inr (inr is)) = ap awaited_member is

-- an answer makes a call wait for nobody else
pub learned-waits : (t : Told) (n : ℕ) (stage : Stage) (y : ProcessId) → awaited_member (stage_learned t n stage) ≡ Some y → awaited_member stage ≡ Some y
learned-waits t n (AskedOf z) y is = by t.traced is where
  by : (b : Bool) → awaited_member (one_or b (AskedOf z) (stage_told t n t.answer b)) ≡ Some y → awaited_member (AskedOf z) ≡ Some y
  by true is = is
  by false is = absurd (cc (is, told-free t n t.answer false))
learned-waits t n (TracedAt z) y is = by t.traced is where
  by : (b : Bool) → awaited_member (one_or b (stage_told t n t.answer b) (TracedAt z)) ≡ Some y → awaited_member (TracedAt z) ≡ Some y
  by true is = absurd (cc (is, told-free t n t.answer true))
  by false is = is
learned-waits t n Unasked y is = is
learned-waits t n Unknown y is = is
learned-waits t n (Answered u i) y is = is

-- and leaves one that waits for nobody
pub learned-same : (t : Told) (n : ℕ) (stage : Stage) → IsFree stage → stage_learned t n stage ≡ stage
learned-same t n (AskedOf z) free = absurd (cc free)
learned-same t n (TracedAt z) free = absurd (cc free)
learned-same t n Unasked free = refl
learned-same t n Unknown free = refl
learned-same t n (Answered u i) free = refl

-- a call that is given up is asked again, or its fate is unknown
pub again-either : (a : Act) → (again a ≡ Unasked) ⊎ (again a ≡ Unknown)
again-either (act.Get key) = inl refl
again-either (act.Set key flags expiry value) = inr refl
again-either (act.Add key flags expiry value) = inr refl
again-either (act.Replace key flags expiry value) = inr refl
again-either (act.Cas key flags expiry cas value) = inr refl
again-either (act.Delete key) = inr refl
again-either (act.Touch key expiry) = inr refl
again-either (act.Append key value) = inr refl
again-either (act.Prepend key value) = inr refl
again-either (act.Incr key by) = inr refl
again-either (act.Decr key by) = inr refl

pub given-up-free : (op : Asked) (stage : Stage) → IsFree (stage_given_up op stage)
given-up-free op (AskedOf x) = by (again-either op.act) where
  by : (again op.act ≡ Unasked) ⊎ (again op.act ≡ Unknown) → IsFree (again op.act)
  by (inl is) = ap awaited_member is
  by (inr is) = ap awaited_member is
given-up-free op (TracedAt x) = refl
given-up-free op Unasked = refl
given-up-free op Unknown = refl
given-up-free op (Answered t n) = refl
