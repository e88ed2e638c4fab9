use Rattle.std.proofs.Common.{◌<◌, All, sym, subst, arith}
use Rattle.group_run.specs.Rows.{copy_in, is_copy}
use Rattle.row_copies.specs.Row.{HaveOneEach, IsWholeCopy, Row}
use Rattle.row_copies.proofs.Marked.{each_after, found_among, whole_after}
use Rattle.row_copies.proofs.rows.Rows.mark.Goals as goal

pub invariant_of-self : goal.invariant_of-self
invariant_of-self c =
    let below : c.args.d.0 < c.self.inside.shape.k = subst (λ (r : Row). c.args.d.0 < r.shape.k) (sym c.self.view_is) c.requires in (
      record {
        number = c.self.invariant.0.number;
        leaders = c.self.invariant.0.leaders;
        whole = subst (All (IsWholeCopy c.self.inside.shape)) (sym c.mark.ensures.copies)
            (whole_after c.self.inside.shape c.args.d.0 c.args.n
            (copy_in c.self.inside.copies.items c.args.leader c.args.number) c.self.inside.copies.items below
            (found_among (IsWholeCopy c.self.inside.shape) (is_copy c.args.leader c.args.number) c.self.inside.copies.items
            c.self.invariant.0.whole) c.self.invariant.0.whole);
        each = subst HaveOneEach (sym c.mark.ensures.copies)
            (each_after c.self.inside.shape c.args.d.0 c.args.n
            (copy_in c.self.inside.copies.items c.args.leader c.args.number) c.self.inside.copies.items
            c.self.invariant.0.each);
      },
      omega (arith, c.self.invariant.1, c.mark.ensures.len, c.mark.ensures.capacity),
    )
