-- Calls of a member, one after the other, and those that neither begin nor end a client's call.
use Rattle.std.specs.Prelude.{ℕ, ◌≡◌, ◌≢◌, List, [], ◌∷◌, Option, Some, None, All}
use Rattle.group_member.specs.Standing.{Member}
use Rattle.member_runs.specs.Calls.{MemberCall, HasCalled, Begins, Shows, LetsGo}

-- a call, and the member after it
pub record MadeCall : Type 0 where
  pub call : MemberCall
  pub after : Member

-- these calls were made, one after the other
abbrev pub AreMade : Member → List MadeCall → Member → Type 0
AreMade before [] after = after ≡ before
AreMade before (c ∷ calls) after = HasCalled c.call before c.after × AreMade c.after calls after

-- the caller whose open call begins or ends by a call
abbrev pub begun_or_ended : MemberCall → Option ℕ
begun_or_ended (Begins caller op) = Some caller
begun_or_ended (Shows caller ping) = Some caller
begun_or_ended (LetsGo caller) = Some caller
begun_or_ended _ = None

-- a call leaves the open call of a caller open; it leaves all of them
abbrev pub LeavesOpen : ℕ → MadeCall → Type 0
LeavesOpen caller c = begun_or_ended c.call ≢ Some caller

abbrev pub LeavesAll : MadeCall → Type 0
LeavesAll c = begun_or_ended c.call ≡ None

-- a member came from another by calls
pub record ComesByCalls (before after : Member) : Type 0 where
  pub calls : List MadeCall
  pub made : AreMade before calls after

-- by calls that leave all open calls open
pub record ComesQuietly (before after : Member) : Type 0 where
  pub calls : List MadeCall
  pub made : AreMade before calls after
  pub leave : All LeavesAll calls

-- whatever a member came from by such calls, it still does
abbrev pub GoesQuietly : Member → Member → Type 0
GoesQuietly before after = (start : Member) → ComesQuietly start before → ComesQuietly start after
