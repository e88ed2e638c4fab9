use Rattle.std.proofs.Common.{◌≡◌, length}
use Rattle.std.specs.List.{list_all}
use Rattle.group_config.specs.MemberKeys.{is_name_byte}
use Rattle.group_config.proofs.member_values.are_name_bytes.Given as goal

abbrev pub invariant-left : goal.invariant-left
invariant-left l = list_all is_name_byte l.left ≡ list_all is_name_byte l.fn.bytes

abbrev pub decreases-left : goal.decreases-left
decreases-left l = length l.left
