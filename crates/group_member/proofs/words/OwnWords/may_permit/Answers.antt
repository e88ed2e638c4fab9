use Rattle.std.proofs.Common.{ap, arith}
use Rattle.group_member.specs.Standing.{OwnWords}
use Rattle.group_member.proofs.Permitting.{by-index, one-more}
use Rattle.group_member.proofs.words.OwnWords.may_permit.Goals as goal

pub others-init : goal.others-init
others-init c = λ y below. absurd (omega (arith, below))

pub others-preserved : goal.others-preserved
others-preserved c = one-more c.args.self.now c.others.x c.others.invariant (c.may_permit_by.ensures.0 c.if-not-may_permit_by.false)

pub returns : goal.returns
returns c =
    let v = c.args.self.now in
    let end = c.others-test.false in
    let k = c.k.ensures.value in
    let m = c.m.ensures.value in
    let ks = ap (λ (w : OwnWords). w.shape.k) c.self.view_is in
    let ms = ap (λ (w : OwnWords). w.shape.m) c.self.view_is in
    (λ _. by-index v (λ x below. c.others.invariant x (omega (arith, end, k, m, ks, ms, below))), λ _. cc)
