use Rattle.std.proofs.Common.{◌≡◌, length, map}
use Rattle.std.specs.Prelude.{slice_get}
use Rattle.group_regroup.specs.Kept.{told_from}
use Rattle.group_regroup.proofs.Places.{entry_past}
use Rattle.group_regroup.proofs.regroup.Regroup.entry.Given as goal

abbrev pub invariant-eras : goal.invariant-eras
invariant-eras l = slice_get l.fn.self.log l.fn.place
    ≡ entry_past (told_from l.self-inside.bases.items l.self-inside.world.shape.k
    (length (map (λ log. log.items) l.self-inside.past.items)) l.self-inside.lowered.items 0 l.self-inside.world.log)
    (map (λ log. log.items) l.self-inside.past.items) l.era l.left
