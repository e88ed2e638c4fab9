use Rattle.group_wire.proofs.Honest.{more_data_than_parity}
use Rattle.group_wire.proofs.FromWhom.{callers_are_theirs}
use Rattle.member_runs.proofs.Following.{no-two}
use Rattle.member_runs.proofs.laws.no_two_members_hold_all.Goals as goal

pub returns : goal.returns
returns c = no-two callers_are_theirs more_data_than_parity
