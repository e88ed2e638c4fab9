use Rattle.std.specs.Prelude.{drop, ◌≡◌, ◌↔◌}
use Rattle.hex.specs.Hex.{encode_lower}
use Rattle.transcript_text.proofs.value.are_digits_of.Given as goal

abbrev pub invariant-bytes : goal.invariant-bytes
invariant-bytes l = (encode_lower (drop l.byte-index l.bytes) ≡ l.rest) ↔ (encode_lower l.bytes ≡ l.word)
