use Rattle.std.specs.Prelude.{Option, Some, ⊤}
use Rattle.command_line.specs.declared.command.Command.{Command}
use Rattle.command_line.specs.declared.command.Command.TheVariants.{Carry, Frames, Member, Play, PlayGroups, PlayRegroup, Serve, Session, Verify, Watch}

-- the words ask for no command that reads its input
abbrev pub ReadsNothing : Option Command → Type 0
ReadsNothing (Some Play) = ⊥
ReadsNothing (Some PlayGroups) = ⊥
ReadsNothing (Some PlayRegroup) = ⊥
ReadsNothing (Some Frames) = ⊥
ReadsNothing (Some Verify) = ⊥
ReadsNothing (Some Serve) = ⊥
ReadsNothing (Some (Member _)) = ⊥
ReadsNothing (Some (Watch _)) = ⊥
ReadsNothing (Some Carry) = ⊥
ReadsNothing (Some (Session _ _ _ _)) = ⊥
ReadsNothing _ = ⊤

-- the words ask for no member, to be run or to be watched, and for no carry
abbrev pub RunsNoMember : Option Command → Type 0
RunsNoMember (Some (Member _)) = ⊥
RunsNoMember (Some (Watch _)) = ⊥
RunsNoMember (Some Carry) = ⊥
RunsNoMember _ = ⊤
