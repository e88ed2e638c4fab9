use Rattle.std.proofs.Common.{◌≡◌, length, IfOk, ap, ap₂, ◌∙◌, subst}
use Rattle.field_byte.specs.Vectors.{add_bytes}
use Rattle.field_byte.proofs.Vectors.{add_bytes_comm, length-add_bytes}
use Rattle.group_types.proofs.Places.{overwritten_whole}
use Rattle.head_service.proofs.body.difference.Goals as goal

pub returns-clause-delta : goal.returns-clause-delta
returns-clause-delta c =
    let sum : c.xor_into.new.dst ≡ add_bytes c.args.under c.args.value.now = c.xor_into.ensures ∙ ap₂ add_bytes c.bytes_mut.ensures.value c.bytes.ensures in
    let long : length c.xor_into.new.dst ≡ length c.args.under = ap length sum ∙ length-add_bytes c.args.under c.args.value.now c.requires in
    subst (λ bytes. IfOk c.from_vec.result (λ delta. delta ≡ bytes))
    (c.from.ensures ∙ overwritten_whole c.args.under c.xor_into.new.dst long ∙ sum ∙ add_bytes_comm c.args.under c.args.value.now c.requires)
    c.from_vec.ensures
