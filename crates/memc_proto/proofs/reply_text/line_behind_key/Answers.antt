use Rattle.std.proofs.Common.{◌≡◌, ◌++◌, length, IfOk, List, ℕ, [], ◌∷◌, subst}
use Rattle.std.specs.Fmt.{decimal}
use Rattle.std.specs.String.{string_bytes}
use Rattle.memc_proto.specs.Text.{cas_text}
use Rattle.memc_proto.proofs.reply_text.line_behind_key.Goals as goal

pub returns : goal.returns
returns c =
    let number = subst
    (λ (n : ℕ). IfOk c.format.result
    (λ text. string_bytes text ≡ 32
    ∷ (decimal c.args.item.now.flags ++ 32 ∷ (decimal n ++ (string_bytes c.in_ok-cas.cas ++ 13 ∷ 10 ∷ [])))))
    c.len.ensures c.format.ensures.ok in
    subst (λ (t : List ℕ). IfOk c.format.result
    (λ text. string_bytes text ≡ 32
    ∷ (decimal c.args.item.now.flags ++ 32 ∷ (decimal (length c.args.item.now.value) ++ (t ++ 13 ∷ 10 ∷ [])))))
    c.in_ok-cas.ensures number
