use Rattle.std.proofs.Common.{rules, ◌≡◌, ℕ, List, length, IfOk, subst}
use Rattle.std.specs.String.{string_bytes}
use Rattle.etcd_words.specs.Asking.{path_of, post_text}
use Rattle.etcd_words.proofs.request.request_of.Goals as goal

pub returns : goal.returns
returns c =
    let host = c.args.address.now in
    let count : length c.as_bytes.result.now ≡ length (string_bytes c.in_ok-body.body) = search rules in
    let path = subst
    (λ (p : List ℕ). IfOk c.format.result (λ text. string_bytes text ≡ post_text p host (length c.as_bytes.result.now)
    (string_bytes c.in_ok-body.body))) c.path-path.ensures c.format.ensures.ok in
    let len = subst
    (λ (n : ℕ). IfOk c.format.result (λ text. string_bytes text ≡ post_text (path_of c.args.ask) host n
    (string_bytes c.in_ok-body.body))) count path in
    subst (λ (b : List ℕ). IfOk c.format.result (λ text. string_bytes text ≡ post_text (path_of c.args.ask) host (length b) b)) c.in_ok-body.ensures len
