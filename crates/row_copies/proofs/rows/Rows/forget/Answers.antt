use Rattle.std.proofs.Common.{◌==◌, not, All, sym, subst, arith}
use Rattle.std.proofs.lemmas.List.Elements.{All-filter}
use Rattle.group_run.specs.Process.{Copy}
use Rattle.row_copies.specs.Row.{HaveOneEach, IsWholeCopy}
use Rattle.row_copies.proofs.Each.{each-filter}
use Rattle.row_copies.proofs.rows.Rows.forget.Goals as goal

pub invariant_of-self : goal.invariant_of-self
invariant_of-self c = (
  record {
    number = c.self.invariant.0.number;
    leaders = c.self.invariant.0.leaders;
    whole = subst (All (IsWholeCopy c.self.inside.shape)) (sym c.forget.ensures.copies)
        (All-filter (λ (x : Copy). not (x.leader == c.in-ParityNode.leader)) (IsWholeCopy c.self.inside.shape)
        c.self.inside.copies.items c.self.invariant.0.whole);
    each = subst HaveOneEach (sym c.forget.ensures.copies)
        (each-filter (λ (x : Copy). not (x.leader == c.in-ParityNode.leader)) c.self.inside.copies.items
        c.self.invariant.0.each);
  },
  omega (arith, c.self.invariant.1, c.forget.ensures.len, c.forget.ensures.capacity),
)
