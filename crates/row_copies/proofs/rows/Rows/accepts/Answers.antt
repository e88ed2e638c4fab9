use Rattle.std.proofs.Common.{ℕ, ◌<◌, nat_lt, sym, subst, ap, ◌∙◌, arith}
use Rattle.group_types.proofs.Lists.{at_index}
use Rattle.row_copies.specs.Row.{Row}
use Rattle.row_copies.proofs.rows.Rows.accepts.Goals as goal

pub returns : goal.returns
returns c =
    let below : c.args.leader < c.self.inside.shape.m = subst (λ (r : Row). c.args.leader < r.shape.m) (sym c.self.view_is) c.requires in
    let long = c.self.invariant.0.leaders in
    rw (← c.self.view_is)
    (ap (λ (l : ℕ). nat_lt l c.args.number)
    (c.index.ensures
    ∙ sym (at_index 0 c.index.result.now c.self.inside.ceased.items c.args.leader (omega (arith, below, long)))))
