use Rattle.std.proofs.Common.{◌≡◌, subst, arith}
use Rattle.erasure_code.specs.Spaces.{added_at}
use Rattle.page_map.specs.Spaces.{page_bytes}
use Rattle.page_map.proofs.Addresses.{scale_one}
use Rattle.page_map.proofs.Spaces.{bytes_added}
use Rattle.value_space.proofs.space.add.Goals as goal

pub returns-clause-bytes : goal.returns-clause-bytes
returns-clause-bytes c =
    subst (λ sum. page_bytes c.add.new.self ≡ added_at c.args.at sum (page_bytes c.args.pages.now))
    (scale_one c.args.bytes.now (λ k. omega (arith, c.type_inv.bytes k)))
    (bytes_added c.args.pages.now c.add.new.self c.args.at 1 c.args.bytes.now c.requires.within c.add.ensures)
