use Rattle.std.proofs.Common.{rules, ◌≡◌, Ok, Err, Some, codes, option_copied, subst, sym}
use Rattle.toml.specs.Data.{get_member}
use Rattle.toml.specs.View.{table_view}
use Rattle.group_types.specs.Dimensions.{processes_of}
use Rattle.group_config.specs.MemberKeys.{group_in}
use Rattle.group_config.specs.MemberReading.{IsMemberOutcome, settings_of}
use Rattle.group_config.specs.MemberTable.{members_of}
use Rattle.group_config.specs.Reading.{checked_shape}
use Rattle.group_config.proofs.Answering.{members-fail}
use Rattle.group_config.proofs.member_reading.settings_in.Goals as goal

pub returns-in_err-members-clause-told : goal.returns-in_err-members-clause-told
returns-in_err-members-clause-told c =
    let ms = table_view c.args.table.now in
    let is_group : group_in ms ≡ Some c.in-Some.group = search rules in
    let is_shape : checked_shape ms ≡ Ok c.in-Ok.shape = search rules in
    let told : c.from_residual.result ≡ Err c.in_err-members.field-0.0 = search rules in
    let answers : IsMemberOutcome (members_of (processes_of c.in-Ok.shape) (get_member (codes "members") ms)) (Err c.in_err-members.field-0.0) = search rules in
    subst (IsMemberOutcome (settings_of (option_copied c.args.word) ms)) (sym told)
    (members-fail (option_copied c.args.word) ms c.in-Some.group c.in-Ok.shape c.in_err-members.field-0.0 is_group is_shape answers)
