use Rattle.std.proofs.Common.{◌∙◌, ap, sym, subst, Some, List, ℕ}
use Rattle.group_types.specs.Key.{IsKey}
use Rattle.wire_codec.proofs.Keys.{key-read, key-none}
use Rattle.wire_codec.proofs.take_update.take_key.Goals as goal

pub returns-in-Ok : goal.returns-in-Ok
returns-in-Ok c =
    key-read c.args.bytes.now c.in_ok-len.rest.now c.in_ok-key.rest.now c.in_ok-key.key.now c.in_ok-len.len
    c.in_ok-len.ensures c.in_ok-key.ensures (subst IsKey c.in-Ok.ensures.key c.in-Ok.ensures.within)
    ∙ ap (λ (key : List ℕ). Some (key, c.in_ok-key.rest.now)) (sym c.in-Ok.ensures.key)

pub returns-in-Err-BadKey : goal.returns-in-Err-BadKey
returns-in-Err-BadKey c =
    let bad = c.in-Err-BadKey.field-0-is in
    key-none c.args.bytes.now c.in_ok-len.rest.now c.in_ok-key.rest.now c.in_ok-key.key.now c.in_ok-len.len
    c.in_ok-len.ensures c.in_ok-key.ensures (c.in-Err-BadKey.ensures.bad cc)
