use Rattle.std.proofs.Common.{List, ℕ, ◌++◌, drop, sym, ap, ◌∙◌, subst}
use Rattle.memc_proto.specs.Reader.{HasRead, ReaderState, StandsFor, is_ended}
use Rattle.memc_proto.specs.Reads.{Begins}
use Rattle.memc_proto.specs.Step.{IsReaderStep}
use Rattle.memc_proto.specs.declared.request.Request.{Request}
use Rattle.memc_proto.specs.declared.step.Step.{Step}
use Rattle.memc_proto.specs.declared.step.Step.TheVariants.{Whole, Grows, Waits}
use Rattle.memc_proto.proofs.Onward.{feed-ended, feed-none, feed-whole}
use Rattle.memc_proto.proofs.reader.Reader.feed.Goals as goal

pub returns-then-is_ended-clause-requests : goal.returns-then-is_ended-clause-requests
returns-then-is_ended-clause-requests c = λ input before read.
    feed-ended c.args.self.now c.args.piece.now input before c.none.result
    (sym (ap (λ (k : ReaderState). is_ended k.mode) c.self.view_is) ∙ sym c.if-is_ended.ensures) c.none.ensures read

pub returns-in_ok-extend_from_slice-in-Grows-clause-requests : goal.returns-in_ok-extend_from_slice-in-Grows-clause-requests
returns-in_ok-extend_from_slice-in-Grows-clause-requests c = λ input before read.
    let kept : ReaderState = record { mode = c.self.inside.mode; front = c.self.inside.front.items } in
    let step : (rest : List ℕ) → StandsFor kept.mode kept.front rest → IsReaderStep kept.mode kept.front rest c.args.piece.now
    Grows = λ rest stands. subst (λ (s : Step). IsReaderStep kept.mode kept.front rest c.args.piece.now s) c.in-Grows.is
    (subst (λ (front : List ℕ). StandsFor kept.mode front rest → IsReaderStep kept.mode front rest c.args.piece.now
    c.in_ok-first_step.field-0) c.deref.ensures.value (c.in_ok-first_step.ensures.step rest) stands) in
    let known : HasRead kept input before = subst (λ (k : ReaderState). HasRead k input before) (sym c.self.view_is) read in
    subst (λ (front : List ℕ). HasRead (record { mode = c.self.inside.mode; front = front }) (input ++ c.args.piece.now)
    (before ++ c.none-in-Grows.result)) (sym c.in_ok-extend_from_slice-in-Grows.ensures.items)
    (feed-none kept c.self.inside.mode (c.self.inside.front.items ++ c.args.piece.now) c.args.piece.now input before
    c.none-in-Grows.result (sym c.if-is_ended.ensures) (sym c.if-is_ended.ensures) c.none-in-Grows.ensures step
    known)

pub returns-in_ok-self-inside-in-Waits-clause-requests : goal.returns-in_ok-self-inside-in-Waits-clause-requests
returns-in_ok-self-inside-in-Waits-clause-requests c = λ input before read.
    let kept : ReaderState = record { mode = c.self.inside.mode; front = c.self.inside.front.items } in
    let step : (rest : List ℕ) → StandsFor kept.mode kept.front rest → IsReaderStep kept.mode kept.front rest c.args.piece.now
    (Waits c.in-Waits.mode c.in-Waits.from) =
    λ rest stands. subst (λ (s : Step). IsReaderStep kept.mode kept.front rest c.args.piece.now s) c.in-Waits.is
    (subst (λ (front : List ℕ). StandsFor kept.mode front rest → IsReaderStep kept.mode front rest c.args.piece.now
    c.in_ok-first_step.field-0) c.deref.ensures.value (c.in_ok-first_step.ensures.step rest) stands) in
    let known : HasRead kept input before = subst (λ (k : ReaderState). HasRead k input before) (sym c.self.view_is) read in
    subst (λ (k : ReaderState). HasRead k (input ++ c.args.piece.now) (before ++ c.none-in-Waits.result))
    (ap (λ (front : List ℕ). record { mode = c.in-Waits.mode; front = front }) (sym c.split_at.ensures.back)
    ∙ sym c.in_ok-self-inside-in-Waits.ensures ∙ sym c.branch.view_is)
    (feed-none kept c.in-Waits.mode (drop c.in-Waits.from c.args.piece.now) c.args.piece.now input before
    c.none-in-Waits.result (sym c.if-is_ended.ensures) (step known.rest known.stands).1 c.none-in-Waits.ensures
    (λ rest stands. (step rest stands).0)
    known)

pub returns-in_ok-requests-in-Whole-clause-requests : goal.returns-in_ok-requests-in-Whole-clause-requests
returns-in_ok-requests-in-Whole-clause-requests c = λ input before read.
    let kept : ReaderState = record { mode = c.self.inside.mode; front = c.self.inside.front.items } in
    let step : (rest : List ℕ) → StandsFor kept.mode kept.front rest → IsReaderStep kept.mode kept.front rest c.args.piece.now
    (Whole c.in-Whole.request c.in-Whole.taken) =
    λ rest stands. subst (λ (s : Step). IsReaderStep kept.mode kept.front rest c.args.piece.now s) c.in-Whole.is
    (subst (λ (front : List ℕ). StandsFor kept.mode front rest → IsReaderStep kept.mode front rest c.args.piece.now
    c.in_ok-first_step.field-0) c.deref.ensures.value (c.in_ok-first_step.ensures.step rest) stands) in
    let known : HasRead kept input before = subst (λ (k : ReaderState). HasRead k input before) (sym c.self.view_is) read in
    feed-whole kept _ c.args.piece.now input before c.from.result c.in-Whole.request c.in-Whole.taken (sym c.if-is_ended.ensures) step
    (λ all begins. subst (λ (k : ReaderState). HasRead k all c.from.result) (sym c.reader.view_is)
    (subst (λ (rs : List Request). HasRead c.in_ok-requests-in-Whole.reader all rs) (sym c.from.ensures)
    (c.in_ok-requests-in-Whole.ensures all (subst (λ (after : List ℕ). Begins all c.in-Whole.request after) (sym c.split_at-in-Whole.ensures.back) begins))))
    known
