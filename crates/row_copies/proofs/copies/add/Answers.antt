use Rattle.std.proofs.Common.{◌<◌, [], ◌∷◌, length, set, ap, ◌∙◌, rules}
use Rattle.std.proofs.lemmas.List.Edits.{map_over_more}
use Rattle.std.proofs.lemmas.List.Elements.{All-set}
use Rattle.group_types.specs.declared.process.ProcessId.TheVariants.{ParityNode}
use Rattle.group_run.specs.Applying.{copy_after}
use Rattle.group_run.specs.Process.{Copy}
use Rattle.row_copies.specs.Row.{IsWholeCopy}
use Rattle.row_copies.proofs.copies.add.Goals as goal

pub copies-preserved : goal.copies-preserved
copies-preserved c =
    let within : c.copies.place < length c.args.copies.now.items = search rules in
    record {
      now = ap (λ (y : Copy). set c.copies.copies.items c.copies.place y) c.add.ensures.copy
          ∙ map_over_more (copy_after c.args.shape (ParityNode c.args.number) c.args.d.0 (c.args.update.now ∷ []))
          c.args.copies.now.items c.copies.copies.items c.copies.place
          c.index_mut.result.now within c.copies.invariant.now c.index_mut.ensures.value;
      whole = All-set (IsWholeCopy c.args.shape) c.copies.copies.items c.copies.place c.add.new.self c.add.ensures.whole c.copies.invariant.whole;
    }
