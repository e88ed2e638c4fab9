-- What the calls of a member's clients come to.
use Rattle.std.specs.Prelude.{ℕ, ◌≡◌, List, Option, Some, None, All}
use Rattle.group_types.specs.Hash.{fnv1a}
use Rattle.group_types.specs.Lists.{at}
use Rattle.memc_table.specs.Act.{key_of}
use Rattle.memc_table.specs.Asked.{Asked}
use Rattle.group_calls.specs.declared.event.Answer.{Answer}
use Rattle.group_calls.specs.declared.event.Answer.TheVariants as says
use Rattle.memc_proto.specs.declared.end.CallEnd.{CallEnd}
use Rattle.memc_proto.specs.declared.end.CallEnd.TheVariants as ends
use Rattle.memc_proto.specs.declared.end.FailEnd.TheVariants.{Off}
use Rattle.front_end.specs.Gateway.{Rules}
use Rattle.group_wire.specs.State.{Told}
use Rattle.group_member.specs.Callers.{caller_of, told_in}
use Rattle.group_member.specs.Standing.{Member}
use Rattle.member_runs.specs.Calls.{HasCalled, Begins, Shows}
use Rattle.member_gateway.specs.Calls.{AreMade, ComesByCalls, LeavesOpen, MadeCall}
use Rattle.member_gateway.specs.declared.slots.OwnCall.{OwnCall}

-- a member, and which call each caller is lent to, by the caller's number
pub record Gateway : Type 0 where
  pub member : Member
  pub slots : List (Option OwnCall)

-- a caller is lent to a call
abbrev pub IsLentTo : Gateway → OwnCall → Type 0
IsLentTo now call = at None now.slots call.caller ≡ Some call

-- a call of the op began at a caller, and the member's calls since leave it open
pub record HasBegunCall (caller : ℕ) (op : Asked) (before now : Member) : Type 0 where
  pub first : Member
  pub begins : HasCalled (Begins caller op) before first
  pub calls : List MadeCall
  pub made : AreMade first calls now
  pub leave : All (LeavesOpen caller) calls

-- how a call ends that was told so
abbrev pub end_of : Answer → Option CallEnd
end_of (says.Reply reply) = Some (ends.Reply reply)
end_of says.NoSpace = Some ends.NoSpace
end_of _ = None

-- what the open call of a caller was told is shown, by which it ends so
pub record IsShown (caller : ℕ) (end : CallEnd) (before after : Member) : Type 0 where
  pub ping : ℕ
  pub told : Told
  pub shows : HasCalled (Shows caller ping) before after
  pub was : told_in (caller_of before.callers caller).call ≡ Some told
  pub ends : end_of told.answer ≡ Some end

-- a call that began there is open
pub record IsCallOpen (now : Gateway) (call : OwnCall) (op : Asked) (began : Gateway) : Type 0 where
  pub lent : IsLentTo now call
  pub hash : call.hash ≡ fnv1a (key_of op.act)
  pub begun : HasBegunCall call.caller op began.member now.member

-- a call of the op began there, and ended so
pub record HasCallEnded (began : Gateway) (op : Asked) (end : CallEnd) (after : Gateway) : Type 0 where
  pub caller : ℕ
  pub before : Member
  pub begun : HasBegunCall caller op began.member before
  pub shown : IsShown caller end before after.member

-- one gateway came from another by calls of its member
abbrev pub IsLaterMember : Gateway → Gateway → Type 0
IsLaterMember before after = ComesByCalls before.member after.member

-- the relations of a member's gateway, which takes no orders that a process fail; a call that found no memory has changed nothing
abbrev pub member_rules : Rules Gateway OwnCall
member_rules = record {
  ways = record {
    made = HasCallEnded;
    failed = λ before at keep end after. (end ≡ Off) × IsLaterMember before after;
    kept = λ before op after. after ≡ before;
    unmade = λ before after. ⊥;
  };
  lent = IsLentTo;
  opened = IsCallOpen;
  later = IsLaterMember;
}
