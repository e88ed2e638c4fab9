-- What a member's words allow, and what stands among them always.
use Rattle.std.specs.Prelude.{◌≡◌, ◌≢◌, ◌≤◌, ◌+◌, true, false, length}
use Rattle.group_types.specs.Names.{IsProcess}
use Rattle.group_types.specs.declared.process.ProcessId.{ProcessId}
use Rattle.membership.specs.Members.{Membership, count_known_dead, knows_dead, with_dead}
use Rattle.group_member.specs.Standing.{OwnWords, heard_of}

-- all that the first knows dead the second does
abbrev pub AreAmong : Membership → Membership → Type 0
AreAmong a b = (x : ProcessId) → knows_dead a x ≡ true → knows_dead b x ≡ true

-- a member may cut another, which it hasn't cut, where it then has cut at most m
pub record CanCut (w : OwnWords) (x : ProcessId) : Type 0 where
  pub member : IsProcess w.shape x
  pub other : x ≢ w.name
  pub uncut : knows_dead w.cut x ≡ false
  pub few : count_known_dead (with_dead w.cut x) ≤ w.shape.m

-- what another sent may be read
pub record CanReadFrom (w : OwnWords) (x : ProcessId) : Type 0 where
  pub member : IsProcess w.shape x
  pub other : x ≢ w.name
  pub uncut : knows_dead w.cut x ≡ false

-- another that it hasn't cut has told it that it has cut all of them too
abbrev pub HasSaidAll : OwnWords → ProcessId → Type 0
HasSaidAll w r = r ≢ w.name → knows_dead w.cut r ≡ false → AreAmong w.cut (heard_of w r)

abbrev pub CanPermit : OwnWords → Type 0
CanPermit w = (r : ProcessId) → IsProcess w.shape r → HasSaidAll w r

-- it may take a death that it has permitted itself and hasn't taken
pub record CanTakeDeath (w : OwnWords) (x : ProcessId) : Type 0 where
  pub permitted : knows_dead w.permitted x ≡ true
  pub fresh : knows_dead w.taken x ≡ false

-- a member of its group, which hasn't cut itself and has cut others of the group alone; it has permitted itself none but
-- those, and has taken none but those that it permitted itself
pub record AreWords (w : OwnWords) : Type 0 where
  pub member : IsProcess w.shape w.name
  pub lives : knows_dead w.cut w.name ≡ false
  pub named : (x : ProcessId) → knows_dead w.cut x ≡ true → IsProcess w.shape x
  pub permitted : AreAmong w.permitted w.cut
  pub taken : AreAmong w.taken w.permitted
  pub many : length w.heard ≡ w.shape.k + w.shape.m
  pub cut_shape : w.cut.shape ≡ w.shape
  pub taken_shape : w.taken.shape ≡ w.shape
