use Rattle.std.proofs.Common.{ap, sym, ◌∙◌, arith}
use Rattle.field_byte.specs.Vectors.{add_bytes}
use Rattle.page_map.proofs.Addresses.{scale_one}
use Rattle.page_map.proofs.bytes.add_piece.Goals as goal

pub returns-in-None : goal.returns-in-None
returns-in-None c = c.xor_into.ensures ∙ ap (add_bytes c.args.dst.now) (sym (rw c.in-None.is (scale_one c.args.src.now (λ k. omega (arith, c.type_inv.src k)))))
