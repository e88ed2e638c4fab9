-- What a process of a group shows: its stamp, and bytes of its space, which are those that the log tells.
use Rattle.std.specs.Prelude.{ℕ, ◌≡◌, nat_lt, Bool, List, [], ◌∷◌, map}
use Rattle.std.specs.List.{range_with_len}
use Rattle.erasure_code.specs.Code.{coded}
use Rattle.erasure_code.specs.Spaces.{bytes_at}
use Rattle.group_types.specs.Dimensions.{Dimensions, space_of}
use Rattle.group_types.specs.declared.process.ProcessId.{ProcessId}
use Rattle.group_types.specs.declared.process.ProcessId.TheVariants.{DataNode, ParityNode}
use Rattle.group_types.specs.declared.run.Run.{Run}
use Rattle.group_run.specs.Applying.{replica_of}
use Rattle.group_run.specs.Meaning.{IsDown, Lives, process_of, spaces_at, values_after}
use Rattle.group_run.specs.Process.{Process}
use Rattle.group_run.specs.World.{World, dead_nodes}

-- the stamp of the process of a name: the settled number of a data process, the applied numbers of a parity process
abbrev pub process_stamp : Dimensions → ProcessId → Process → List ℕ
process_stamp s (DataNode d) p = (replica_of p d).applied ∷ []
process_stamp s (ParityNode _) p = map (λ d. (replica_of p d).applied) (range_with_len 0 s.k)

-- the stamp of a process of the group
abbrev pub stamp_of : World → ProcessId → List ℕ
stamp_of w p = process_stamp w.shape p (process_of w p)

-- the bytes of a run that a process holds
abbrev pub held : World → ProcessId → Run → List ℕ
held w p run = bytes_at run.at run.len (process_of w p).space

-- the space that a process has by the log: the values of its partition up to its stamp, or the code of all
abbrev pub told_space : World → ProcessId → List ℕ
told_space w (DataNode d) = values_after w d (replica_of (process_of w (DataNode d)) d).applied
told_space w (ParityNode i) = coded w.shape.m i (space_of w.shape) (spaces_at w 0 (stamp_of w (ParityNode i)))

-- the bytes of a run that it has by the log
abbrev pub told_bytes : World → ProcessId → Run → List ℕ
told_bytes w p run = bytes_at run.at run.len (told_space w p)

-- whether more than m processes are dead
abbrev pub is_down : World → Bool
is_down w = nat_lt w.shape.m (dead_nodes w.nodes)

-- while the group isn't down, a living process holds what the log tells
abbrev pub HoldsTruth : World → Type 0
HoldsTruth w = ¬ (IsDown w) → (p : ProcessId) (run : Run) → Lives w p → held w p run ≡ told_bytes w p run
