use Rattle.std.proofs.Common.{rules, ◌≡◌, ℕ, List, Bor, true, false, map, codes}
use Rattle.std.specs.List.{list_any, list_all}
use Rattle.std.specs.Str.{bytes_eq}
use Rattle.carry_words.specs.Standing.{is_settled, status_lines}
use Rattle.carry_words.proofs.Lines.{not_closed, not_still, still}
use Rattle.carry_words.proofs.standing.is_at_rest.Goals as goal

pub returns-then-not-has_line : goal.returns-then-not-has_line
returns-then-not-has_line c =
    let are : map (λ (line : Bor (List ℕ)). line.now) c.deref.result.now ≡ status_lines c.args.status.now = search rules in
    let closed : false ≡ list_any (λ (line : Bor (List ℕ)). bytes_eq line.now (codes "closed 1")) c.deref.result.now = search rules in
    not_closed c.args.status.now c.deref.result.now are closed

pub returns-then-not-has_line-2 : goal.returns-then-not-has_line-2
returns-then-not-has_line-2 c =
    let are : map (λ (line : Bor (List ℕ)). line.now) c.deref.result.now ≡ status_lines c.args.status.now = search rules in
    let closed : true ≡ list_any (λ (line : Bor (List ℕ)). bytes_eq line.now (codes "closed 1")) c.deref.result.now = search rules in
    let changing : false ≡ list_any (λ (line : Bor (List ℕ)). bytes_eq line.now (codes "changing 0")) c.deref.result.now = search rules in
    not_still c.args.status.now c.deref.result.now are closed changing

pub returns : goal.returns
returns c =
    let are : map (λ (line : Bor (List ℕ)). line.now) c.deref.result.now ≡ status_lines c.args.status.now = search rules in
    let closed : true ≡ list_any (λ (line : Bor (List ℕ)). bytes_eq line.now (codes "closed 1")) c.deref.result.now = search rules in
    let changing : true ≡ list_any (λ (line : Bor (List ℕ)). bytes_eq line.now (codes "changing 0")) c.deref.result.now = search rules in
    let settled : c.are_settled.result ≡ list_all (λ (line : Bor (List ℕ)). is_settled line.now) c.deref.result.now = search rules in
    still c.args.status.now c.deref.result.now c.are_settled.result are closed changing settled
