-- What is seen of a partition at a parity process, and what the messages of a link make of it, one after
-- the other: a message of a lower rank is dropped, an update stands behind what is seen, and a new head's
-- list takes the place of what stands above its base.
use Rattle.std.specs.Prelude.{ℕ, ◌≡◌, ◌<◌, ◌≤◌, ◌+◌, ◌==◌, nat_le, max, Bool, true, false, ◌&&◌, List, [], ◌∷◌, ◌++◌, length, take}
use Rattle.group_types.specs.Names.{of_rank}
use Rattle.group_types.specs.declared.process.ProcessId.{ProcessId}
use Rattle.group_message.specs.declared.message.Message.{Message}
use Rattle.group_message.specs.declared.message.Message.TheVariants as tells
use Rattle.group_message.specs.declared.update.Update.{Update}
use Rattle.group_run.specs.Deciding.{window}
use Rattle.group_run.specs.Fitting.{NumberedFrom}

-- the rank under which a replica stands, its history: what it has applied, and then its log, and a number
-- that isn't below the one up to which it has applied
pub record Seen : Type 0 where
  pub rank : ℕ
  pub history : List Update
  pub number : ℕ

-- a message of partition e and rank r is taken, where partition d is looked at
abbrev pub is_live : ℕ → Seen → ℕ → ℕ → Bool
is_live d seen e r = e == d && nat_le seen.rank r

-- an update that is taken, with what is stable
abbrev pub appended : Bool → Update → ℕ → Seen → Seen
appended true u stable seen = record { rank = seen.rank; history = seen.history ++ u ∷ []; number = max seen.number stable }
appended false u stable seen = seen

-- a number that is taken
abbrev pub raised : Bool → ℕ → Seen → Seen
raised true n seen = record { rank = seen.rank; history = seen.history; number = max seen.number n }
raised false n seen = seen

-- a new head's list that is taken
abbrev pub replaced : Bool → ℕ → ℕ → List Update → Seen → Seen
replaced true r base list seen = record { rank = r; history = take base seen.history ++ list; number = base + length list }
replaced false r base list seen = seen

-- what is seen of partition d after a message
abbrev pub next : ℕ → Seen → Message → Seen
next d seen (tells.Update r e u stable) = appended (is_live d seen e.0 r.0) u stable seen
next d seen (tells.Adopt r e base list) = replaced (is_live d seen e.0 r.0) r.0 base list seen
next d seen (tells.Ack r e n) = seen
next d seen (tells.Stable r e n) = raised (is_live d seen e.0 r.0) n seen
next d seen (tells.ReadBlock session block rows) = seen
next d seen (tells.Block session bytes n) = seen
next d seen (tells.Mark session r block e n) = raised (is_live d seen e.0 r.0) n seen
next d seen (tells.Row session bytes stamp) = seen
next d seen (tells.Cease upto) = seen
next d seen (tells.Notice dead) = seen

-- a history of partition d, of which the first a updates are applied, is numbered from 1 on, and is as the
-- sentence F says
abbrev pub Fine : (ℕ → ℕ → List Update → Type 0) → ℕ → ℕ → List Update → Type 0
Fine F d a history = NumberedFrom 1 history × F d a history

-- a history prolongs another, as what is settled: it begins with it
pub record Prolongs (settled history : List Update) : Type 0 where
  pub reaches : length settled ≤ length history
  pub front : take (length settled) history ≡ settled

-- an update stands next behind what is seen, no further above what is stable than the window, and what is
-- stable is settled
pub record UpdateGoes (F : ℕ → ℕ → List Update → Type 0) (d : ℕ) (settled : List Update) (seen : Seen) (r : ℕ) (u : Update) (stable : ℕ) : Type 0 where
  pub rank : r ≡ seen.rank
  pub stable_settled : stable ≤ length settled
  pub few : u.number ≤ stable + window
  pub fine : Fine F d stable (seen.history ++ u ∷ [])

-- a number that is told is settled
pub record NumberGoes (settled : List Update) (seen : Seen) (r n : ℕ) : Type 0 where
  pub rank : r ≡ seen.rank
  pub number_settled : n ≤ length settled

-- a mark's number is settled, and nothing above it is applied before it comes
pub record MarkGoes (settled : List Update) (seen : Seen) (r n : ℕ) : Type 0 where
  pub rank : r ≡ seen.rank
  pub number_settled : n ≤ length settled
  pub above : seen.number ≤ n

-- a new head's list begins within what is settled, and with it the history prolongs all that is settled
pub record AdoptGoes (F : ℕ → ℕ → List Update → Type 0) (d : ℕ) (settled : List Update) (seen : Seen) (r base : ℕ) (list : List Update) : Type 0 where
  pub rank : seen.rank < r
  pub base_settled : base ≤ length settled
  pub prolongs : Prolongs settled (take base seen.history ++ list)
  pub few : length list ≤ window
  pub fine : Fine F d base (take base seen.history ++ list)

-- what a message owes to what is seen of partition d, unless it is dropped
abbrev pub Goes : (ℕ → ℕ → List Update → Type 0) → ℕ → List Update → Seen → Message → Type 0
Goes F d settled seen (tells.Update r e u stable) = is_live d seen e.0 r.0 ≡ true → UpdateGoes F d settled seen r.0 u stable
Goes F d settled seen (tells.Adopt r e base list) = is_live d seen e.0 r.0 ≡ true → AdoptGoes F d settled seen r.0 base list
Goes F d settled seen (tells.Ack r e n) = Unit {0}
Goes F d settled seen (tells.Stable r e n) = is_live d seen e.0 r.0 ≡ true → NumberGoes settled seen r.0 n
Goes F d settled seen (tells.ReadBlock session block rows) = Unit {0}
Goes F d settled seen (tells.Block session bytes n) = Unit {0}
Goes F d settled seen (tells.Mark session r block e n) = is_live d seen e.0 r.0 ≡ true → MarkGoes settled seen r.0 n
Goes F d settled seen (tells.Row session bytes stamp) = Unit {0}
Goes F d settled seen (tells.Cease upto) = Unit {0}
Goes F d settled seen (tells.Notice dead) = Unit {0}

-- an acknowledgement of partition d is of the head's rank, under which its sender stands, and of what the
-- sender has
pub record AckGoes (d : ℕ) (head : ProcessId) (sender : Seen) (r n : ℕ) : Type 0 where
  pub head_is : head ≡ of_rank d r
  pub rank : sender.rank ≡ r
  pub has : n ≤ length sender.history

-- no acknowledgement in a link is of more than was issued
abbrev pub AckBelow : ℕ → ℕ → Message → Type 0
AckBelow d last (tells.Ack r e n) = e.0 ≡ d → n ≤ last
AckBelow d last _ = Unit {0}

-- each acknowledgement in a link is so
abbrev pub AckFits : ℕ → ProcessId → Seen → Message → Type 0
AckFits d head sender (tells.Ack r e n) = e.0 ≡ d → AckGoes d head sender r.0 n
AckFits d head sender _ = Unit {0}
