use Rattle.std.proofs.Common.{◌≡◌, [], ◌∷◌, ◌++◌, length, take, drop, true, false, is_some, None, sym, subst, ap, ◌∙◌, arith}
use Rattle.group_types.specs.Lists.{at}
use Rattle.group_types.specs.declared.process.ProcessId.TheVariants.{ParityNode}
use Rattle.group_types.proofs.Lists.{at_index}
use Rattle.group_types.proofs.Places.{overwritten_whole}
use Rattle.group_run.specs.Applying.{block_added, copy_after}
use Rattle.group_run.specs.Process.{Copy}
use Rattle.row_copies.proofs.Added.{copy_kept, copy_added}
use Rattle.row_copies.proofs.copy.Copy.add.Goals as goal

pub returns-then-is_some-clause-copy : goal.returns-then-is_some-clause-copy
returns-then-is_some-clause-copy c =
    let long : length c.self.inside.marks.items ≡ c.args.shape.k = let l = c.requires.whole.marks in ap (λ (v : Copy). length v.marks) c.self.view_is ∙ l in
    let below = c.requires.partition in
    let read = at_index None c.index.result.now c.self.inside.marks.items c.args.d.0 (omega (arith, long, below)) in
    let test : is_some (at None c.self.inside.marks.items c.args.d.0) ≡ true = ap is_some (read ∙ sym c.index.ensures)
    ∙ (sym c.is_some.ensures ∙ c.if-is_some.true) in
    subst (λ (v : Copy). v ≡ copy_after c.args.shape (ParityNode c.args.number) c.args.d.0 (c.args.update.now ∷ []) v) c.self.view_is
    (copy_kept c.args.shape c.args.number c.args.d.0 c.args.update.now
    (record {
      leader = c.self.inside.leader;
      number = c.self.inside.number;
      block = c.self.inside.block;
      bytes = c.self.inside.bytes;
      marks = c.self.inside.marks.items;
    }) test)

pub returns-clause-copy : goal.returns-clause-copy
returns-clause-copy c =
    let view : Copy = record {
      leader = c.self.inside.leader;
      number = c.self.inside.number;
      block = c.self.inside.block;
      bytes = c.self.inside.bytes;
      marks = c.self.inside.marks.items;
    } in
    let long : length c.self.inside.marks.items ≡ c.args.shape.k = let l = c.requires.whole.marks in ap (λ (v : Copy). length v.marks) c.self.view_is ∙ l in
    let below = c.requires.partition in
    let read = at_index None c.index.result.now c.self.inside.marks.items c.args.d.0 (omega (arith, long, below)) in
    let test : is_some (at None c.self.inside.marks.items c.args.d.0) ≡ false = ap is_some (read ∙ sym c.index.ensures)
    ∙ (sym c.is_some.ensures ∙ c.if-is_some.false) in
    let same : length c.add_body.new.bytes ≡ length c.self.inside.bytes = c.add_body.auto.bytes ∙ ap length c.bytes_mut-bytes.ensures.value in
    let sum = overwritten_whole c.self.inside.bytes c.add_body.new.bytes same
    ∙ (c.add_body.ensures
    ∙ ap (block_added c.args.shape (ParityNode c.args.number) c.args.d.0 c.self.inside.block c.args.update.now.body)
    c.bytes_mut-bytes.ensures.value) in
    copy_added c.args.shape c.args.number c.args.d.0 c.args.update.now view test
    (take (length c.self.inside.bytes)
    (c.add_body.new.bytes ++ drop (length c.add_body.new.bytes) c.self.inside.bytes)) sum
    ∙ ap (copy_after c.args.shape (ParityNode c.args.number) c.args.d.0 (c.args.update.now ∷ [])) c.self.view_is
