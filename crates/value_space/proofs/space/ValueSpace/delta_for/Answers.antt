use Rattle.std.proofs.Common.{◌≡◌, length, sym, ap, ◌∙◌}
use Rattle.field_byte.specs.Vectors.{add_bytes}
use Rattle.field_byte.proofs.Vectors.{add_bytes_comm, length-add_bytes}
use Rattle.erasure_code.specs.Spaces.{bytes_at}
use Rattle.value_space.proofs.Deltas.{delta_is}
use Rattle.value_space.proofs.space.ValueSpace.delta_for.Goals as goal

pub xor_into-requires : goal.xor_into-requires
xor_into-requires c =
    let copied = c.deref_mut.ensures.value ∙ c.from-bytes.ensures in
    ap length c.bytes.ensures ∙ (c.requires.length ∙ sym (ap length copied ∙ c.in_ok-copy.ensures.length))

pub returns : goal.returns
returns c =
    let copied = c.deref_mut.ensures.value ∙ c.from-bytes.ensures in
    let part = bytes_at c.args.run.at c.args.run.len c.args.self.now.bytes in
    let long : length c.deref_mut.result.now ≡ c.args.run.len = ap length copied ∙ c.in_ok-copy.ensures.length in
    let same : length c.deref_mut.result.now ≡ length c.args.value.now = long ∙ sym c.requires.length in
    let sum : c.xor_into.new.dst ≡ add_bytes c.deref_mut.result.now c.args.value.now = c.xor_into.ensures
    ∙ ap (add_bytes c.deref_mut.result.now) c.bytes.ensures in
    let whole : length c.xor_into.new.dst ≡ c.from-bytes.result.len = ap length sum ∙ (length-add_bytes _ _ same ∙ c.deref_mut.ensures.len) in
    let is : c.xor_into.new.dst ≡ add_bytes c.args.value.now part =
    sum ∙ (add_bytes_comm _ _ same ∙ ap (add_bytes c.args.value.now) (copied ∙ c.in_ok-copy.ensures.bytes)) in
    delta_is _ c.from-bytes.result.len c.xor_into.new.dst _ (add_bytes c.args.value.now part) whole is c.from_vec.ensures
