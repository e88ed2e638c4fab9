-- What ties the log to what is settled: the table holds what the settled stores hold, and each entry is a
-- refusal or that of a settled update.
use Rattle.std.specs.Prelude.{ℕ, ◌≡◌, ◌≢◌, ◌<◌, ◌⊎◌, Bool, true, false, List, [], ◌∷◌, length, map, slice_index, Option, Some, Contains}
use Rattle.std.specs.List.{list_any}
use Rattle.group_types.specs.Dimensions.{Dimensions}
use Rattle.group_types.specs.Hash.{home_of}
use Rattle.group_types.specs.Lists.{at}
use Rattle.group_types.specs.declared.run.Run.{Run}
use Rattle.group_types.specs.Each.{Each, EachTwo}
use Rattle.memc_table.specs.Act.{key_of}
use Rattle.memc_table.specs.Contents.{Contents, empty_table}
use Rattle.group_message.specs.declared.update.Update.{Update}
use Rattle.group_calls.specs.Log.{IsLegal, table_of}
use Rattle.group_calls.specs.Turns.{CallName, accepts, name_of}
use Rattle.group_calls.specs.declared.entry.Entry.{Entry}
use Rattle.group_run.specs.Asking.{reply_from}
use Rattle.group_run.specs.Replica.{run_of}
use Rattle.group_run.specs.World.{AskedCall, Ticket, same_call, update_name}
use Rattle.law_updates.specs.Store.{held, store_after}

-- the table has for each key what the settled store of its home holds, and counts the settled updates
pub record Ties (s : Dimensions) (settled : List (List Update)) (t : Contents) : Type 0 where
  pub many : length t.counts ≡ s.k
  pub counts : (d : ℕ) → d < s.k → slice_index t.counts d ≡ length (at [] settled d)
  pub items : (key : List ℕ) → t.items key ≡ held (store_after s (home_of key s.k) (at [] settled (home_of key s.k))) key

-- the entry is that of a settled update of its partition, and has the op of its call
pub record IsEntryOf (s : Dimensions) (issued : List AskedCall) (settled : List (List Update)) (e : Entry) : Type 0 where
  pub call : Contains issued (record { name = name_of e; op = e.op })
  pub update : Update
  pub there : Contains (at [] settled (home_of (key_of e.op.act) s.k)) update
  pub named : update_name update ≡ name_of e
  pub accepted : accepts e.reply ≡ true

-- or it is a refusal, of a call whose update was never issued
pub record IsRefusalOf (issued : List AskedCall) (e : Entry) : Type 0 where
  pub refused : accepts e.reply ≡ false
  pub other : Each (λ c. c.name ≢ name_of e) issued

-- each entry is one or the other
abbrev pub EntryStands : Dimensions → List AskedCall → List (List Update) → Entry → Type 0
EntryStands s issued settled e = IsEntryOf s issued settled e ⊎ IsRefusalOf issued e

-- a settled update has its entry in the log
pub record HasEntry (log : List Entry) (u : Update) : Type 0 where
  pub entry : Entry
  pub there : Contains log entry
  pub named : name_of entry ≡ update_name u
  pub replied : entry.reply ≡ reply_from u.outcome

-- two entries are of different calls
abbrev pub NamesDiffer : Entry → Entry → Type 0
NamesDiffer a b = name_of a ≢ name_of b

-- the log beside what is settled
pub record LogStands (s : Dimensions) (issued : List AskedCall) (log : List Entry) (settled : List (List Update)) : Type 0 where
  pub legal : IsLegal s.k log
  pub ties : Ties s settled (table_of (empty_table s.k) log)
  pub entries : Each (EntryStands s issued settled) log
  pub once : EachTwo NamesDiffer log
  pub entered : (d : ℕ) → Each (HasEntry log) (at [] settled d)

-- the call of this name has an entry in the log
abbrev pub is_logged : List Entry → CallName → Bool
is_logged log name = list_any (λ e. same_call (name_of e) name) log

-- each issued call has a ticket, with its op until its entry is in the log
abbrev pub AreTickets : List Entry → List AskedCall → List Ticket → Type 0
AreTickets log [] [] = Unit {0}
AreTickets log (c ∷ cs) (t ∷ ts) = (t.name ≡ c.name) × ((t.op ≡ Some c.op) ⊎ (is_logged log c.name ≡ true)) × AreTickets log cs ts
AreTickets log [] (t ∷ ts) = ⊥
AreTickets log (c ∷ cs) [] = ⊥

-- the places of a partition are the runs of its settled updates
abbrev pub ArePlaced : List (List (Option Run)) → List (List Update) → Type 0
ArePlaced places settled = (d : ℕ) → at [] places d ≡ map (λ u. run_of u.body) (at [] settled d)
