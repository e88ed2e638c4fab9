use Rattle.std.proofs.Common.{◌≡◌, ℕ, List, Option, replicate, arith, ◌<◌, ◌++◌, ◌∷◌, [], All, false, None, is_some, length, sym, subst, ap, ◌∙◌}
use Rattle.std.proofs.lemmas.List.Elements.{All-push}
use Rattle.std.proofs.lemmas.List.{length-replicate}
use Rattle.group_run.specs.Process.{Copy}
use Rattle.group_run.specs.Rows.{copy_in}
use Rattle.row_copies.specs.Row.{HaveOneEach, IsWholeCopy, Row, unmarked}
use Rattle.row_copies.proofs.Each.{each-push}
use Rattle.row_copies.proofs.rows.Rows.begin.Goals as goal

pub invariant_of-self : goal.invariant_of-self
invariant_of-self c =
    let copy : Copy = unmarked c.self.inside.shape c.args.leader c.args.number c.args.block c.args.bytes in
    let marks : c.args.marks.items ≡ replicate c.self.inside.shape.k None = c.requires.marks
    ∙ ap (λ (r : Row). replicate r.shape.k None) (sym c.self.view_is) in
    let is : c.new-copy.result ≡ copy = c.new-copy.ensures
    ∙ ap (λ (ms : List (Option ℕ)). record {
      leader = c.args.leader;
      number = c.args.number;
      block = c.args.block;
      bytes = c.args.bytes;
      marks = ms;
    }) marks in
    let items : c.push.new.self.items ≡ c.self.inside.copies.items ++ copy ∷ [] = c.in-Ok.ensures.items
    ∙ ap (λ (x : Copy). c.self.inside.copies.items ++ x ∷ []) is in
    let one : IsWholeCopy c.self.inside.shape copy = record {
      leader = subst (λ (r : Row). c.args.leader < r.shape.m) (sym c.self.view_is) c.requires.leader;
      block = subst (λ (r : Row). c.args.block < r.shape.blocks) (sym c.self.view_is) c.requires.block;
      bytes = subst (λ (r : Row). length c.args.bytes ≡ r.shape.block) (sym c.self.view_is) c.requires.bytes;
      marks = length-replicate c.self.inside.shape.k None;
    } in
    let absent = subst (λ (r : Row). is_some (copy_in r.state.copies c.args.leader c.args.number) ≡ false) (sym c.self.view_is) c.requires.absent in (
      record {
        number = c.self.invariant.0.number;
        leaders = c.self.invariant.0.leaders;
        whole = subst (All (IsWholeCopy c.self.inside.shape)) (sym items)
            (All-push (IsWholeCopy c.self.inside.shape) c.self.inside.copies.items copy c.self.invariant.0.whole one);
        each = subst HaveOneEach (sym items) (each-push c.self.inside.copies.items copy c.self.invariant.0.each absent);
      },
      omega (arith, c.self.invariant.1, c.in-Ok.ensures.len, c.in-Ok.ensures.capacity, c.requires.room),
    )
