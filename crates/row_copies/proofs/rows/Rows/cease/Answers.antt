use Rattle.std.proofs.Common.{ℕ, ◌≡◌, ◌<◌, ◌==◌, ◌&&◌, nat_le, not, max, length, All, sym, subst, ap, ◌∙◌, arith, rules}
use Rattle.std.proofs.lemmas.List.{length-set}
use Rattle.std.proofs.lemmas.List.Elements.{All-filter}
use Rattle.group_types.proofs.Lists.{at_index}
use Rattle.group_run.specs.Process.{Copy}
use Rattle.row_copies.specs.Row.{HaveOneEach, IsWholeCopy, Row}
use Rattle.row_copies.proofs.Ceased.{state_ceased}
use Rattle.row_copies.proofs.Each.{each-filter}
use Rattle.row_copies.proofs.rows.Rows.cease.Goals as goal

pub invariant_of-self : goal.invariant_of-self
invariant_of-self c = (
  record {
    number = c.self.invariant.0.number;
    leaders = length-set c.self.inside.ceased.items c.args.leader c.max.result ∙ c.self.invariant.0.leaders;
    whole = subst (All (IsWholeCopy c.self.inside.shape)) (sym c.cease.ensures.copies)
        (All-filter (λ (x : Copy). not (x.leader == c.args.leader && nat_le x.number c.args.upto))
        (IsWholeCopy c.self.inside.shape) c.self.inside.copies.items c.self.invariant.0.whole);
    each = subst HaveOneEach (sym c.cease.ensures.copies)
        (each-filter (λ (x : Copy). not (x.leader == c.args.leader && nat_le x.number c.args.upto))
        c.self.inside.copies.items c.self.invariant.0.each);
  },
  omega (arith, c.self.invariant.1, c.cease.ensures.len, c.cease.ensures.capacity),
)

pub returns-clause-state : goal.returns-clause-state
returns-clause-state c = λ p row.
    let below : c.args.leader < c.self.inside.shape.m = subst (λ (r : Row). c.args.leader < r.shape.m) (sym c.self.view_is) c.requires in
    let long = c.self.invariant.0.leaders in
    let within : c.args.leader < length c.self.inside.ceased.items = omega (arith, below, long) in
    let read = at_index 0 c.index-last.result.now c.self.inside.ceased.items c.args.leader within in
    let most : c.max.result ≡ max c.index-last.result.now c.args.upto = search rules in
    state_ceased c.args.leader c.args.upto c.self.inside.copies.items c.cease.new.copies.items
    c.self.inside.ceased.items c.max.result c.cease.ensures.copies within
    (most ∙ ap (λ (l : ℕ). max l c.args.upto) (c.index-last.ensures ∙ sym read)) p
    (row ∙ sym (ap (λ (r : Row). r.state) c.self.view_is))
