use Rattle.std.proofs.Common.{refl, List, ℕ, ◌-◌, ◌==◌, length, sym, ap, ◌∙◌, arith}
use Rattle.std.proofs.lemmas.List.{length-take}
use Rattle.memc_proto.proofs.Steps.{both_ok, searched, none_in, line_step-end, line_step-grows, line_step-too_long}
use Rattle.memc_proto.proofs.step.line_step.Goals as goal

pub returns-in_ok-read_joined-in-Some-clause-step : goal.returns-in_ok-read_joined-in-Some-clause-step
returns-in_ok-read_joined-in-Some-clause-step c =
    let piece : List ℕ = c.args.piece.now in
    let most : ℕ = c.min.result in
    let long = length-take most piece in
    let high = c.in-Some.ensures.0.high in
    both_ok c.after_line.result c.after_line.ensures.within c.after_line.ensures.step
    (λ step within is stands. line_step-end c.args.front.now piece c.in-Some.end c.in_ok-read_joined-in-Some.field-0 step stands.1 (omega (arith, long, high))
    (none_in piece most c.in-Some.end (omega (arith, high)) (λ k below. c.in-Some.ensures.0.before k (omega arith) below))
    (ap (λ (b : ℕ). b == 10) (sym (searched piece most c.in-Some.end high)) ∙ c.in-Some.ensures.1)
    (omega (arith, long, high, c.min.ensures, c.saturating_sub-room.ensures, stands.2))
    c.in_ok-read_joined-in-Some.ensures within is)

pub returns-in-None-clause-step : goal.returns-in-None-clause-step
returns-in-None-clause-step c =
    let long = length-take c.min.result c.args.piece.now in
    λ stands. line_step-grows c.args.front.now c.args.piece.now stands
    (none_in c.args.piece.now c.min.result (length c.args.piece.now) (omega (arith, long, c.min.ensures))
    (λ k below. c.in-None.ensures k (omega arith) (omega (arith, long, c.min.ensures))))
    (omega (arith, stands.2, c.saturating_sub-room.ensures))

pub returns-in-None-2-clause-step : goal.returns-in-None-2-clause-step
returns-in-None-2-clause-step c =
    let long = length-take c.min.result c.args.piece.now in
    let room : ℕ = 32768 - length c.args.front.now in
    λ stands. (
      line_step-too_long c.args.front.now c.args.piece.now room stands.1 (omega (arith, stands.2)) (omega (arith, c.saturating_sub-room.ensures))
          (none_in c.args.piece.now c.min.result room
          (omega (arith, long, c.min.ensures, c.saturating_sub-room.ensures))
          (λ k below. c.in-None.ensures k (omega arith)
          (omega (arith, long, c.min.ensures, c.saturating_sub-room.ensures)))),
      refl,
    )
