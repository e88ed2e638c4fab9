-- What keeping an entry comes to.
use Rattle.std.specs.Prelude.{ℕ, ◌≡◌, ◌+◌, Bool, true, false, List, [], length, Option, ⊤}
use Rattle.group_types.specs.Dimensions.{Dimensions}
use Rattle.group_types.specs.Hash.{home_of}
use Rattle.group_types.specs.Lists.{at, put}
use Rattle.group_types.specs.declared.run.Run.{Run}
use Rattle.memc_table.specs.Act.{key_of}
use Rattle.group_calls.specs.Turns.{accepts}
use Rattle.group_calls.specs.declared.entry.Entry.{Entry}
use Rattle.transcript_text.specs.declared.place.Place.{Place}
use Rattle.run_verify.specs.Passing.{Account, changes_at, effect_of, value_in, with_change, with_reply}
use Rattle.run_verify.specs.Runs.{IsRunAmong}
use Rattle.run_verify.specs.declared.change.Change.{Change}
use Rattle.run_verify.specs.declared.change.Effect.{Effect}
use Rattle.run_verify.specs.declared.change.Effect.TheVariants.{Writes, Removes, Keeps}

-- the run of a value that is written is found among the places
abbrev pub IsRunFound : Dimensions → List Place → ℕ → ℕ → Effect → Option Run → Type 0
IsRunFound s places d number (Writes value found) run = IsRunAmong places s d number (length value) run
IsRunFound s places d number Removes run = ⊤
IsRunFound s places d number Keeps run = ⊤

-- the change of an entry that was applied to the table, where its run is this
abbrev pub change_by : Account → Entry → Option Run → Change
change_by a e run = record { key = key_of e.op.act; effect = effect_of e.op.act (value_in (a.table.items (key_of e.op.act))) run }

-- a change is the one of an entry of partition d
abbrev pub HasEffect : Dimensions → List Place → Account → Entry → ℕ → Change → Type 0
HasEffect s places a e d change = (run : Option Run) × (change ≡ change_by a e run) × IsRunFound s places d (length (changes_at a d) + 1) change.effect run

-- the account behind an entry that was applied to its table
abbrev pub account_kept : ℕ → Account → Entry → Option Run → Account
account_kept k a e run = record {
  calls = put [] a.calls e.caller (with_reply (at [] a.calls e.caller) e.call e.reply);
  table = a.table;
  changes = with_change (accepts e.reply) (home_of (key_of e.op.act) k) (change_by a e run) a.changes;
  entries = a.entries + 1;
  placed = a.placed;
  shown = a.shown;
}

-- the run of an entry's change is found, if it makes one
abbrev pub IsFoundIf : Bool → Dimensions → List Place → Account → Entry → Option Run → Type 0
IsFoundIf true s places a e run = let d : ℕ = home_of (key_of e.op.act) s.k in
    IsRunFound s places d (length (changes_at a d) + 1) (change_by a e run).effect run
IsFoundIf false s places a e run = ⊤

-- an entry that was applied to the table is kept
abbrev pub IsEntryKept : Dimensions → List Place → Account → Entry → Account → Type 0
IsEntryKept s places a e next = (run : Option Run) × IsFoundIf (accepts e.reply) s places a e run × (next ≡ account_kept s.k a e run)

-- the account with other changes
abbrev pub with_changes : Account → List (List Change) → Account
with_changes a changes = record { calls = a.calls; table = a.table; changes = changes; entries = a.entries; placed = a.placed; shown = a.shown }

-- the change of an entry that was applied to the table is kept, if it makes one
abbrev pub HasChanged : Dimensions → List Place → Account → Entry → Account → Type 0
HasChanged s places a e next = (run : Option Run) × IsFoundIf (accepts e.reply) s places a e run
    × (next ≡ with_changes a (with_change (accepts e.reply) (home_of (key_of e.op.act) s.k) (change_by a e run) a.changes))

-- a change writes the value of a key of partition d, at a run that is found
abbrev pub IsValueWritten : Dimensions → List Place → Account → List ℕ → ℕ → Change → Type 0
IsValueWritten s places a key d change = (run : Option Run) × (change ≡ record { key = key; effect = Writes (value_in (a.table.items key)) run })
    × IsRunAmong places s d (length (changes_at a d) + 1) (length (value_in (a.table.items key))) run
