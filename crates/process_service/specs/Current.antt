-- Which messages a process acts on: those of a head it doesn't follow, or under another rank, it drops, and marks that its row
-- doesn't take.
use Rattle.std.specs.Prelude.{ℕ, nat_le, Bool, true, None, ⊤}
use Rattle.group_types.specs.Lists.{at}
use Rattle.group_message.specs.declared.message.Message.{Message}
use Rattle.group_message.specs.declared.message.Message.TheVariants.{Ack, Adopt, Mark, Stable, Update}
use Rattle.group_run.specs.Process.{Process}
use Rattle.group_run.specs.Rows.{accepts_mark, parity_number}
use Rattle.process_service.specs.Standing.{is_under}

-- what a head tells is of no lower rank than the one under which the process follows the partition, an acknowledgement is
-- of the rank under which it heads it, and a mark is one that its row takes; any other message is always treated
abbrev pub is_current : Process → Message → Bool
is_current p (Update rank d update stable) = nat_le (at 0 p.ranks d.0) rank.0
is_current p (Stable rank d number) = nat_le (at 0 p.ranks d.0) rank.0
is_current p (Adopt rank d base list) = nat_le (at 0 p.ranks d.0) rank.0
is_current p (Ack rank d number) = is_under rank.0 (at None p.heads d.0)
is_current p (Mark session rank block d number) = accepts_mark p (parity_number session.leader) session.number rank.0 d.0
is_current p _ = true

-- a message is no mark
abbrev pub IsNoMark : Message → Type 0
IsNoMark (Mark session rank block d number) = ⊥
IsNoMark _ = ⊤
