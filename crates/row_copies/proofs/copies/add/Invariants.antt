use Rattle.std.proofs.Common.{◌≡◌, [], ◌∷◌, ◌++◌, take, drop, map, All}
use Rattle.group_types.specs.declared.process.ProcessId.TheVariants.{ParityNode}
use Rattle.group_run.specs.Applying.{copy_after}
use Rattle.row_copies.specs.Row.{IsWholeCopy}
use Rattle.row_copies.proofs.copies.add.Given as goal

abbrev pub invariant-copies : goal.invariant-copies
invariant-copies l = record {
  now : l.copies.items ≡ map (copy_after l.shape (ParityNode l.number) l.d.0 (l.update ∷ []))
      (take l.place l.initial.copies.items) ++ drop l.place l.initial.copies.items;
  whole : All (IsWholeCopy l.shape) l.copies.items;
}
