use Rattle.std.proofs.Common.{refl, List, ℕ, ◌<◌, [], length, sym, subst, arith}
use Rattle.memc_proto.specs.Reader.{ReaderState}
use Rattle.memc_proto.specs.Step.{IsReaderStep, ReadsOn}
use Rattle.memc_proto.specs.declared.mode.Mode.TheVariants.{InLine}
use Rattle.memc_proto.specs.declared.step.Step.{Step}
use Rattle.memc_proto.specs.declared.step.Step.TheVariants.{Whole, Grows, Waits}
use Rattle.memc_proto.proofs.Onward.{fresh, some_taken, onward-quit, onward-more, onward-end}
use Rattle.memc_proto.proofs.reader.read_on.Goals as goal

pub returns-then-ends : goal.returns-then-ends
returns-then-ends c =
    let step : IsReaderStep InLine [] [] c.requests.rest.now (Whole c.in-Whole.request c.in-Whole.taken) =
    subst (λ (s : Step). IsReaderStep InLine [] [] c.requests.rest.now s) c.in-Whole.is
    (c.in_ok-request.ensures.step fresh) in
    subst (λ (k : ReaderState). ReadsOn k c.args.text.now c.args.found.items c.push.new.self.items) (sym c.in_ok-keeping-in-Whole.ensures)
    (onward-quit [] c.args.text.now c.requests.rest.now c.args.found.items c.requests.requests.items
    c.push.new.self.items c.in-Whole.request c.in-Whole.taken c.requests.invariant step (sym c.if-ends.ensures)
    c.in_ok-push-in-Whole.ensures.items)

pub requests-smaller : goal.requests-smaller
requests-smaller c =
    let step : IsReaderStep InLine [] [] c.requests.rest.now (Whole c.in-Whole.request c.in-Whole.taken) =
    subst (λ (s : Step). IsReaderStep InLine [] [] c.requests.rest.now s) c.in-Whole.is
    (c.in_ok-request.ensures.step fresh) in
    let smaller : length c.split_at.result.1.now < length c.requests.rest.now =
    omega (
      arith,
      c.split_at.ensures.back_len,
      some_taken c.requests.rest.now c.in-Whole.request c.in-Whole.taken
          step,
    ) in
    smaller

pub requests-preserved : goal.requests-preserved
requests-preserved c =
    let step : IsReaderStep InLine [] [] c.requests.rest.now (Whole c.in-Whole.request c.in-Whole.taken) =
    subst (λ (s : Step). IsReaderStep InLine [] [] c.requests.rest.now s) c.in-Whole.is
    (c.in_ok-request.ensures.step fresh) in
    onward-more c.args.text.now c.requests.rest.now c.split_at.result.1.now c.args.found.items c.requests.requests.items
    c.push.new.self.items c.in-Whole.request c.in-Whole.taken c.requests.invariant step (sym c.if-ends.ensures)
    c.in_ok-push-in-Whole.ensures.items c.split_at.ensures.back

pub returns-in-Grows : goal.returns-in-Grows
returns-in-Grows c =
    let step : IsReaderStep InLine [] [] c.requests.rest.now Grows =
    subst (λ (s : Step). IsReaderStep InLine [] [] c.requests.rest.now s) c.in-Grows.is
    (c.in_ok-request.ensures.step fresh) in
    subst (λ (k : ReaderState). ReadsOn k c.args.text.now c.args.found.items c.requests.requests.items) (sym c.in_ok-keeping-in-Grows.ensures)
    (onward-end InLine c.requests.rest.now c.args.text.now c.requests.rest.now c.args.found.items c.requests.requests.items c.requests.invariant refl step)

pub returns-in-Waits : goal.returns-in-Waits
returns-in-Waits c =
    let step : IsReaderStep InLine [] [] c.requests.rest.now (Waits c.in-Waits.mode c.in-Waits.from) =
    subst (λ (s : Step). IsReaderStep InLine [] [] c.requests.rest.now s) c.in-Waits.is
    (c.in_ok-request.ensures.step fresh) in
    subst (λ (k : ReaderState). ReadsOn k c.args.text.now c.args.found.items c.requests.requests.items) (sym c.in_ok-keeping-in-Waits.ensures)
    (subst (λ (front : List ℕ). ReadsOn (record { mode = c.in-Waits.mode; front = front }) c.args.text.now
    c.args.found.items c.requests.requests.items) (sym c.split_at-in-Waits.ensures.back)
    (onward-end c.in-Waits.mode _ c.args.text.now c.requests.rest.now c.args.found.items c.requests.requests.items c.requests.invariant step.1 step.0))
