use Rattle.std.proofs.Common.{[], ◌∷◌, sym, subst, arith}
use Rattle.group_types.specs.declared.process.ProcessId.TheVariants.{ParityNode}
use Rattle.group_run.specs.Applying.{copy_after}
use Rattle.row_copies.specs.Row.{HaveOneEach}
use Rattle.row_copies.proofs.Added.{session_kept}
use Rattle.row_copies.proofs.Each.{each-map}
use Rattle.row_copies.proofs.rows.Rows.add.Goals as goal

pub invariant_of-self : goal.invariant_of-self
invariant_of-self c =
    let shape = c.self.inside.shape in (
      record {
        number = c.self.invariant.0.number;
        leaders = c.self.invariant.0.leaders;
        whole = c.add.ensures.whole;
        each = subst HaveOneEach (sym c.add.ensures.copies)
            (each-map (copy_after c.self.inside.shape (ParityNode c.self.inside.number) c.args.d.0
            (c.args.update.now ∷ []))
            (λ x. (session_kept c.self.inside.shape c.self.inside.number c.args.d.0 c.args.update.now x).0)
            (λ x. (session_kept c.self.inside.shape c.self.inside.number c.args.d.0 c.args.update.now x).1) c.self.inside.copies.items c.self.invariant.0.each);
      },
      omega (arith, c.self.invariant.1, c.add.ensures.len, c.add.ensures.capacity),
    )
