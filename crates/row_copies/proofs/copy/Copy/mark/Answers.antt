use Rattle.std.proofs.Common.{ℕ, ◌≡◌, List, length, Some, None, Option, ap, ◌∙◌, arith}
use Rattle.group_types.proofs.Lists.{set_put}
use Rattle.group_run.specs.Process.{Copy}
use Rattle.group_run.specs.Rows.{marked}
use Rattle.row_copies.proofs.copy.Copy.mark.Goals as goal

pub returns-clause-copy : goal.returns-clause-copy
returns-clause-copy c =
    let long : length c.self.inside.marks.items ≡ c.args.shape.k = ap (λ (v : Copy). length v.marks) c.self.view_is ∙ c.requires.marks in
    let below = c.requires.partition in
    ap (λ (marks : List (Option ℕ)). record {
      leader = c.self.inside.leader;
      number = c.self.inside.number;
      block = c.self.inside.block;
      bytes = c.self.inside.bytes;
      marks = marks;
    })
    (set_put None c.self.inside.marks.items c.args.d.0 (Some c.args.n) (omega (arith, long, below)))
    ∙ ap (marked c.args.d.0 c.args.n) c.self.view_is
