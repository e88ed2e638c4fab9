use Rattle.std.proofs.Common.{◌≡◌, refl, length, String, Vec, vec_len, Global, arith}
use Rattle.std.proofs.lemmas.Iterator.Adapters.{YieldsList-from_vec, fact_from_collect}
use Rattle.std.specs.String.{string_bytes}
use Rattle.std.specs.Vec.Iter.{into_iter_items}
use Rattle.group_program.proofs.Behind.{behind_first}
use Rattle.group_program.proofs.arguments.behind_name.Goals as goal

pub returns : goal.returns
returns c =
    let rest = c.next.new.self in
    behind_first string_bytes (λ (v : Vec (String Global) Global). v.items) vec_len c.next.result
    (into_iter_items c.args.all) (into_iter_items rest) c.collect.result
    c.next.ensures.items (λ some. c.next.ensures.variant.1 (omega (arith, some, c.args.all.rest.ok.0)))
    (fact_from_collect (λ xs (v : Vec (String Global) Global). (v.items ≡ xs) × (vec_len v ≡ length xs)) c.collect.result c.collect.ensures.ran
    (YieldsList-from_vec (into_iter_items rest) refl rest.rest.ok.0))
