use Rattle.std.proofs.Common.{rules, ℕ, ◌<◌, List, sym, ap, subst, ◌∙◌, arith}
use Rattle.field_matrix.specs.Grids.{Grid, entry, HasBytes}
use Rattle.field_matrix.proofs.Steps.{work_after, out_after, step_same, work_more, out_more}
use Rattle.field_matrix.proofs.Inverses.{pivot_after, recorded_is_inverse}
use Rattle.field_matrix.proofs.square.Square.invert.Goals as goal

pub steps-init : goal.steps-init
unfolding work_after out_after
steps-init g c = record {
  within = omega arith;
  work = λ i j i_below j_below. ap (λ (rows : List (List ℕ)). entry rows i j) c.self.view_is;
  out = λ i j i_below j_below. c.identity-out.ensures i j i_below j_below;
}

pub step-out-requires : goal.step-out-requires
step-out-requires g c =
    let bytes = subst (λ (rows : List (List ℕ)). HasBytes g.row.F (entry rows)) c.self.view_is c.self.invariant in
    let p : ℕ = c.steps.p in
    let within : p < g.row.F = c.steps-test.true in
    let pivot = pivot_after g.row.F p (entry c.steps.work p p) (entry c.args.self.now) c.requires bytes within (c.steps.invariant.work p p within within) in
    (search rules, (search rules, (within, pivot)))

pub step-work-requires : goal.step-work-requires
step-work-requires g c =
    let bytes = subst (λ (rows : List (List ℕ)). HasBytes g.row.F (entry rows)) c.self.view_is c.self.invariant in
    let p : ℕ = c.steps.p in
    let within : p < g.row.F = c.steps-test.true in
    let pivot = pivot_after g.row.F p (entry c.steps.work p p) (entry c.args.self.now) c.requires bytes within (c.steps.invariant.work p p within within) in
    (search rules, (search rules, (within, pivot)))

pub steps-preserved : goal.steps-preserved
steps-preserved g c =
    let p : ℕ = c.steps.p in
    let a : Grid = entry c.args.self.now in
    let within : p < g.row.F = c.steps-test.true in
    let work = c.steps.invariant.work in
    let out = c.steps.invariant.out in
    record {
      within = omega arith;
      work = λ i j i_below j_below.
          c.step-work.ensures i j i_below j_below
          ∙ (step_same p (entry c.steps.work) (work_after p a) (entry c.steps.work) (work_after p a) i j
          (work p p within within) (work i p i_below within) (work i j i_below j_below) (work p j within j_below)
          ∙ sym (work_more p a i j));
      out = λ i j i_below j_below.
          c.step-out.ensures i j i_below j_below
          ∙ (step_same p (entry c.steps.work) (work_after p a) (entry c.steps.out) (out_after p a) i j
          (work p p within within) (work i p i_below within) (out i j i_below j_below) (out p j within j_below)
          ∙ sym (out_more p a i j));
    }

pub invariant_of-result : goal.invariant_of-result
invariant_of-result g c =
    let bytes = subst (λ (rows : List (List ℕ)). HasBytes g.row.F (entry rows)) c.self.view_is c.self.invariant in
    (recorded_is_inverse g.row.F c.steps.p (entry c.args.self.now) (entry c.steps.out) c.requires bytes (omega arith) c.steps.invariant.out).bytes

pub returns : goal.returns
returns g c =
    let bytes = subst (λ (rows : List (List ℕ)). HasBytes g.row.F (entry rows)) c.self.view_is c.self.invariant in
    let inverse = recorded_is_inverse g.row.F c.steps.p (entry c.args.self.now) (entry c.steps.out) c.requires bytes (omega arith) c.steps.invariant.out in
    record { left = inverse.left; right = inverse.right; bytes = inverse.bytes }
