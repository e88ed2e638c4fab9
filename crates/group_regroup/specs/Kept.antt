-- What a group over eras keeps, and the eras that it stands for.
use Rattle.std.specs.Prelude.{ℕ, suc, ◌<◌, ◌≤◌, ◌≡◌, ◌==◌, nat_lt, nat_le, Bool, false, ◌&&◌, List, [], ◌∷◌, ◌++◌}
use Rattle.std.specs.Prelude.{length, map, All, Option, Some, None, if◌then◌else◌}
use Rattle.std.specs.Option.{unwrap_or}
use Rattle.group_types.specs.Hash.{home_of}
use Rattle.group_types.specs.Lists.{at}
use Rattle.memc_table.specs.Act.{key_of}
use Rattle.memc_table.specs.Asked.{Asked}
use Rattle.memc_table.specs.declared.act.Act.{Act}
use Rattle.memc_table.specs.declared.act.Act.TheVariants.{Cas}
use Rattle.group_calls.specs.Turns.{CallName, call_entry, name_of}
use Rattle.group_calls.specs.declared.entry.Entry.{Entry}
use Rattle.group_calls.specs.declared.event.Event.{Event}
use Rattle.group_calls.specs.declared.event.Event.TheVariants.{Ask}
use Rattle.group_run.specs.World.{World}
use Rattle.group_eras.specs.Eras.{EraEntry, Eras}
use Rattle.group_eras.specs.Promise.{IsLed}
use Rattle.group_eras.specs.Told.{Bases, based_reply, op_out}
use Rattle.group_regroup.specs.declared.changing.Lowered.{Lowered}

-- it is the call that this name names, and the event that asked it logged the entry at the place
abbrev pub covers : Lowered → ℕ → CallName → Bool
covers x place name = (nat_le x.from place && nat_lt place x.until) && (x.caller == name.caller && x.call == name.call)

-- the op as it was asked, where it went in lowered
abbrev pub op_asked : List Lowered → ℕ → CallName → Option Asked
op_asked [] place name = None
op_asked (x ∷ xs) place name = if covers x place name then Some x.op else op_asked xs place name

-- the entry at a place of the current world's log, as it is told
abbrev pub entry_of_era : Bases → ℕ → List Lowered → ℕ → Entry → Entry
entry_of_era bases k lowered place entry = call_entry (name_of entry) (unwrap_or (op_asked lowered place (name_of entry)) (op_out bases k entry.op))
    (based_reply bases (home_of (key_of entry.op.act) k) entry.reply)

-- the entries from a place on
abbrev pub told_from : Bases → ℕ → ℕ → List Lowered → ℕ → List Entry → List EraEntry
told_from bases k era lowered place [] = []
told_from bases k era lowered place (x ∷ xs) = (era, entry_of_era bases k lowered place x) ∷ told_from bases k era lowered (suc place) xs

-- the logs of past eras, from an era on
abbrev pub past_from : ℕ → List (List Entry) → List EraEntry
past_from era [] = []
past_from era (xs ∷ xss) = map (λ x. (era, x)) xs ++ past_from (suc era) xss

-- the eras of a world, with these bases and these logs of past eras
abbrev pub eras_of : World → Bases → List (List Entry) → List Lowered → Eras
eras_of w bases past lowered = record {
  era = length past;
  world = w;
  bases = bases;
  log = past_from 0 past ++ told_from bases w.shape.k (length past) lowered 0 w.log;
}

-- an op goes in lowered: a cas whose number isn't above the base
abbrev pub is_low : Bases → ℕ → Act → Bool
is_low bases k (Cas key flags expiry cas value) = nat_le cas (at 0 bases (home_of key k))
is_low bases k _ = false

-- the call that an event asks, where its op goes in lowered: so far it has logged nothing
abbrev pub lowered_by : World → Bases → Event → Option Lowered
lowered_by w bases (Ask caller op p) = if is_low bases w.shape.k op.act
    then Some (record { from = length w.log; until = length w.log; caller = caller; call = at 0 w.asked caller; op = op })
    else None
lowered_by w bases _ = None

-- and once it has logged what stands below a place
abbrev pub lowered_until : List Lowered → Option Lowered → ℕ → List Lowered
lowered_until xs None place = xs
lowered_until xs (Some x) place = xs ++ record x { until = place } ∷ []

-- a base is so low that no number told with it has more than 64 bits
abbrev pub IsLowBase : ℕ → Type 0
IsLowBase base = base < 13835058055282163712

-- a base for each partition, and no entry lowered that isn't in the log
pub record KeptFitsWorld (w : World) (bases : Bases) (lowered : List Lowered) : Type 0 where
  pub many : length bases ≡ w.shape.k
  pub low : All IsLowBase bases
  pub within : All (λ x. x.until ≤ length w.log) lowered

-- the entries from a place on, as they are told, without their era
abbrev pub entries_from : Bases → ℕ → List Lowered → ℕ → List Entry → List Entry
entries_from bases k lowered place [] = []
entries_from bases k lowered place (x ∷ xs) = entry_of_era bases k lowered place x ∷ entries_from bases k lowered (suc place) xs

-- what is kept stands for eras to which moves led
pub record AreLed (w : World) (bases : Bases) (past : List (List Entry)) (lowered : List Lowered) : Type 0 where
  pub kept : KeptFitsWorld w bases lowered
  pub led : IsLed (eras_of w bases past lowered)
