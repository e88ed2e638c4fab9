-- Rows of updates that wait for a parity process. Each is a script, by lines, and what it writes.
use Rattle.std.specs.Prelude.{pos, [], ◌∷◌, codes, replicate, suc, map, ◌++◌}
use Rattle.std.specs.Fmt.{decimal}
use Rattle.std.specs.List.{range_with_len}
use Rattle.group_types.specs.declared.process.ProcessId.TheVariants.{DataNode, ParityNode}
use Rattle.memc_table.specs.declared.act.Act.TheVariants.{Get, Set}
use Rattle.scenario_text.specs.declared.line.Line.TheVariants.{Ask, Collect, Deliver, Fail, Flush, Drain, Show}
use Rattle.group_rows.specs.Script.{shape, writes}

-- the old run is free only once the update that frees it is settled
abbrev pub OldRunNotFree : Type 0
OldRunNotFree = writes (shape 1 1 1 16) (
    Ask 0 (DataNode 0) (Set (codes "a") 0 (pos 0) (replicate 10 97)) ∷
    Drain ∷
    Ask 0 (DataNode 0) (Set (codes "a") 0 (pos 0) (replicate 6 98)) ∷
    Ask 1 (DataNode 0) (Set (codes "b") 0 (pos 0) (replicate 7 99)) ∷
    Drain ∷
    Ask 1 (DataNode 0) (Set (codes "b") 0 (pos 0) (replicate 7 99)) ∷ [])
    (
    codes "ticket 1" ∷
    codes "= 0.0 set a 0 61616161616161616161 stored" ∷
    codes "drained 2" ∷
    codes "ticket 2" ∷
    codes "no_space" ∷
    codes "= 0.1 set a 0 626262626262 stored" ∷
    codes "drained 2" ∷
    codes "ticket 3" ∷ [])

-- an unfinished update on the key
abbrev pub PendingUpdate : Type 0
PendingUpdate = writes (shape 1 1 1 16) (
    Ask 0 (DataNode 0) (Set (codes "a") 0 (pos 0) (1 ∷ [])) ∷
    Ask 1 (DataNode 0) (Set (codes "a") 0 (pos 0) (2 ∷ [])) ∷
    Ask 1 (DataNode 0) (Get (codes "a")) ∷
    Collect 0 0 (DataNode 0) ∷
    Drain ∷
    Collect 0 0 (DataNode 0) ∷
    Collect 0 0 (DataNode 0) ∷
    Deliver (DataNode 0) (ParityNode 0) ∷
    Ask 1 (DataNode 0) (Set (codes "a") 0 (pos 0) (2 ∷ [])) ∷ [])
    (
    codes "ticket 1" ∷
    codes "retry pending 0 1" ∷
    codes "reply miss" ∷
    codes "= 1.1 get a miss" ∷
    codes "not_yet" ∷
    codes "= 0.0 set a 0 01 stored" ∷
    codes "drained 2" ∷
    codes "reply stored" ∷
    codes "stranger" ∷
    codes "idle" ∷
    codes "ticket 2" ∷ [])

-- all parity processes fail, and then one process more
abbrev pub AllParitiesFail : Type 0
AllParitiesFail = writes (shape 1 1 1 16) (
    Ask 0 (DataNode 0) (Set (codes "a") 0 (pos 0) (1 ∷ [])) ∷
    Fail (ParityNode 0) 0 ∷
    Deliver (ParityNode 0) (DataNode 0) ∷
    Ask 0 (DataNode 0) (Set (codes "b") 0 (pos 0) (2 ∷ [])) ∷
    Fail (ParityNode 0) 0 ∷
    Fail (DataNode 0) 0 ∷
    Ask 0 (DataNode 0) (Get (codes "a")) ∷
    Collect 0 0 (DataNode 0) ∷
    Deliver (DataNode 0) (ParityNode 0) ∷
    Flush (DataNode 0) ∷
    Show (DataNode 0) (record { at = 0; len = 1 }) ∷
    Drain ∷
    Fail (DataNode 0) 0 ∷ [])
    (
    codes "ticket 1" ∷
    codes "done" ∷
    codes "done" ∷
    codes "= 0.0 set a 0 01 stored" ∷
    codes "reply stored" ∷
    codes "= 0.1 set b 0 02 stored" ∷
    codes "already_dead" ∷
    codes "done" ∷
    codes "down" ∷
    codes "down" ∷
    codes "down" ∷
    codes "down" ∷
    codes "down" ∷
    codes "drained 0" ∷
    codes "already_dead" ∷ [])

-- the cut of a link decides: the update is lost
abbrev pub CutBefore : Type 0
CutBefore = writes (shape 2 1 4 16) (
    Ask 0 (DataNode 0) (Set (codes "a") 0 (pos 0) (65 ∷ [])) ∷
    Fail (DataNode 0) 0 ∷
    Drain ∷
    Collect 0 0 (DataNode 0) ∷
    Ask 1 (ParityNode 0) (Get (codes "a")) ∷ [])
    (
    codes "ticket 1" ∷
    codes "done" ∷
    codes "drained 2" ∷
    codes "lost" ∷
    codes "reply miss" ∷
    codes "= 1.0 get a miss" ∷ [])

-- the cut of a link decides: the update lives
abbrev pub CutBehind : Type 0
CutBehind = writes (shape 2 1 4 16) (
    Ask 0 (DataNode 0) (Set (codes "a") 0 (pos 0) (65 ∷ [])) ∷
    Fail (DataNode 0) 4294967295 ∷
    Drain ∷
    Collect 0 0 (DataNode 0) ∷
    Ask 1 (ParityNode 0) (Get (codes "a")) ∷
    Drain ∷
    Ask 1 (ParityNode 0) (Get (codes "a")) ∷ [])
    (
    codes "ticket 1" ∷
    codes "done" ∷
    codes "= 0.0 set a 0 41 stored" ∷
    codes "drained 3" ∷
    codes "lost" ∷
    codes "retry block 0" ∷
    codes "drained 3" ∷
    codes "reply value 0 1 41" ∷
    codes "= 1.1 get a value 0 1 41" ∷ [])

-- 256 updates wait, of values of no bytes, and no more can come until the first is settled
abbrev pub FullWindow : Type 0
FullWindow = writes (shape 1 1 1 16) (
    map (λ i. Ask 0 (DataNode 0) (Set (codes "k" ++ decimal i) 0 (pos 0) [])) (range_with_len 0 256) ++
    Ask 0 (DataNode 0) (Set (codes "z") 0 (pos 0) []) ∷
    Deliver (DataNode 0) (ParityNode 0) ∷
    Deliver (ParityNode 0) (DataNode 0) ∷
    Ask 0 (DataNode 0) (Set (codes "z") 0 (pos 0) []) ∷ [])
    (
    map (λ i. codes "ticket " ++ decimal (suc i)) (range_with_len 0 256) ++
    codes "retry pending 0 1" ∷
    codes "done" ∷
    codes "done" ∷
    codes "= 0.0 set k0 0 - stored" ∷
    codes "ticket 257" ∷ [])
