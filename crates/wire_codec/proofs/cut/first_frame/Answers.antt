use Rattle.std.proofs.Common.{◌≡◌, ◌∙◌, ◌-◌, ◌+◌, ◌++◌, length, take, drop, Some, None, ap, sym, subst, List, ℕ, arith}
use Rattle.wire_codec.specs.Fits.{IsFrame}
use Rattle.wire_codec.specs.Reading.{Fails, message_in}
use Rattle.wire_codec.specs.declared.fault.ReadFault.{ReadFault}
use Rattle.wire_codec.proofs.Cuts.{cut-whole, cut-bad}
use Rattle.wire_codec.proofs.cut.first_frame.Goals as goal

pub returns-in-Ok-clause-is : goal.returns-in-Ok-clause-is
returns-in-Ok-clause-is c =
    let front = c.args.front.now in
    let piece = c.args.piece.now in
    let said = c.in-Some.ensures.some.1 in
    let short = c.if-len-gt-MOST.false in
    let there = c.if-front-piece.false in
    let taken = c.saturating_sub-taken.ensures in
    let read : message_in (drop 4 (front ++ take (4 + c.in-Some.len - length front) piece)) ≡ Some c.in-Ok.message =
    subst (λ (t : List ℕ). message_in (drop 4 (front ++ t)) ≡ Some c.in-Ok.message) (c.split_at.ensures.front
    ∙ ap (λ (n : ℕ). take n piece) taken) c.in-Ok.ensures in
    λ partial. subst (λ (n : ℕ). IsFrame (front ++ take n piece) c.in-Ok.message) (sym taken)
    (cut-whole front piece c.in-Some.len c.in-Ok.message (λ i. omega (arith, c.type_inv.front i))
    (λ i. omega (arith, c.type_inv.piece i)) partial said (omega (arith, short)) (omega (arith, there)) read)

pub returns-in-Err-NoSpelling-clause-is : goal.returns-in-Err-NoSpelling-clause-is
returns-in-Err-NoSpelling-clause-is c =
    let front = c.args.front.now in
    let piece = c.args.piece.now in
    let said = c.in-Some.ensures.some.1 in
    let there = c.if-front-piece.false in
    let taken = c.saturating_sub-taken.ensures in
    let read : message_in (drop 4 (front ++ take (4 + c.in-Some.len - length front) piece)) ≡ None =
    subst (λ (t : List ℕ). message_in (drop 4 (front ++ t)) ≡ None) (c.split_at.ensures.front
    ∙ ap (λ (n : ℕ). take n piece) taken)
    (subst (λ (f : ReadFault). Fails f (message_in (drop 4 (front ++ c.split_at.result.0.now))))
    c.in-Err-NoSpelling.field-0-is c.in-Err-NoSpelling.ensures) in
    λ partial. cut-bad front piece c.in-Some.len partial said (omega (arith, there)) read
