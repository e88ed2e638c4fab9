-- The cas number that a reply shows is that of a live item.
use Rattle.std.proofs.Common.{ℕ, ◌==◌, ◌≤◌, ◌++◌, nat_le, Bool, true, false, length, Option, Some, None, if◌then◌else◌}
use Rattle.memc_table.specs.Numeral.{number_of}
use Rattle.memc_table.specs.Ruling.{anew, changed, longest_value, lowered, raised, ruling_of}
use Rattle.memc_table.specs.Contents.{reply_in}
use Rattle.memc_table.specs.declared.act.Act.{Act}
use Rattle.memc_table.specs.declared.act.Act.TheVariants.{Get, Set, Add, Replace, Cas, Delete, Touch, Append, Prepend, Incr, Decr}
use Rattle.memc_table.specs.declared.holding.Holding.{Holding}
use Rattle.memc_table.specs.declared.reply.Reply.{Reply}
use Rattle.memc_table.specs.declared.reply.Reply.TheVariants as reply
use Rattle.memc_table.specs.declared.ruling.Ruling.TheVariants.{Refused, Accepted}

abbrev pub ShowsLow : ℕ → Reply → Type 0
ShowsLow n (reply.Value item) = item.cas ≤ n
ShowsLow n other = Unit {0}

abbrev pub LiveLow : ℕ → Option Holding → Type 0
LiveLow n None = Unit {0}
LiveLow n (Some h) = h.item.cas ≤ n

pub shows-low : (m t n : ℕ) (act : Act) (live : Option Holding) → LiveLow m live → ShowsLow m (reply_in (ruling_of t n act live))
shows-low m t n (Get key) None low = tt
shows-low m t n (Get key) (Some h) low = low
shows-low m t n (Set key flags expiry value) live low = tt
shows-low m t n (Add key flags expiry value) None low = tt
shows-low m t n (Add key flags expiry value) (Some h) low = tt
shows-low m t n (Replace key flags expiry value) None low = tt
shows-low m t n (Replace key flags expiry value) (Some h) low = tt
shows-low m t n (Cas key flags expiry cas value) None low = tt
shows-low m t n (Cas key flags expiry cas value) (Some h) low = by (h.item.cas == cas) where
  by : (b : Bool) → ShowsLow m (reply_in (if b then anew t n flags expiry value else Refused reply.Exists))
  by true = tt
  by false = tt
shows-low m t n (Delete key) None low = tt
shows-low m t n (Delete key) (Some h) low = tt
shows-low m t n (Touch key expiry) None low = tt
shows-low m t n (Touch key expiry) (Some h) low = tt
shows-low m t n (Append key value) None low = tt
shows-low m t n (Append key value) (Some h) low = by (nat_le (length (h.item.value ++ value)) longest_value) where
  by : (b : Bool) → ShowsLow m (reply_in (if b then Accepted reply.Stored (changed n h (h.item.value ++ value)) else Refused reply.TooLarge))
  by true = tt
  by false = tt
shows-low m t n (Prepend key value) None low = tt
shows-low m t n (Prepend key value) (Some h) low = by (nat_le (length (value ++ h.item.value)) longest_value) where
  by : (b : Bool) → ShowsLow m (reply_in (if b then Accepted reply.Stored (changed n h (value ++ h.item.value)) else Refused reply.TooLarge))
  by true = tt
  by false = tt
shows-low m t n (Incr key by') None low = tt
shows-low m t n (Incr key by') (Some h) low = by (number_of h.item.value) where
  by : (v : Option ℕ) → ShowsLow m (reply_in (raised n h by' v))
  by None = tt
  by (Some v) = tt
shows-low m t n (Decr key by') None low = tt
shows-low m t n (Decr key by') (Some h) low = by (number_of h.item.value) where
  by : (v : Option ℕ) → ShowsLow m (reply_in (lowered n h by' v))
  by None = tt
  by (Some v) = tt
