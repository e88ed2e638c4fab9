-- Which calls of a member may change an item.
use Rattle.std.specs.Prelude.{ℕ, ◌≡◌, ◌<◌, true, IfSome}
use Rattle.group_types.specs.Dimensions.{callers}
use Rattle.group_run.specs.Deciding.{is_get}
use Rattle.group_member.specs.Callers.{IsItsCaller, caller_of}
use Rattle.group_member.specs.Standing.{Member}

-- the open call of a caller of the member, where it has one, is a get
abbrev pub AsksGet : Member → ℕ → Type 0
AsksGet v caller = IsItsCaller v.callers caller → IfSome (caller_of v.callers caller).call (λ opened. is_get opened.op.act ≡ true)

-- all open calls of the member are gets
abbrev pub OnlyGets : Member → Type 0
OnlyGets v = (caller : ℕ) → caller < callers → AsksGet v caller
