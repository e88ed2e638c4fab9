-- What the calls of a node make, in the machine's words.
use Rattle.std.specs.Prelude.{◌≡◌, false}
use Rattle.memc_table.specs.declared.reply.Reply.{Reply}
use Rattle.group_calls.specs.Turns.{accepts}
use Rattle.group_calls.specs.declared.event.Answer.{Answer}
use Rattle.group_calls.specs.declared.event.Answer.TheVariants as says
use Rattle.group_run.specs.Process.{Node}
use Rattle.group_run.specs.World.{NodeStep}
use Rattle.group_node.specs.declared.node.NodeOut as code

-- the machine's step after which a node stands like this, and which makes what the code's has
abbrev pub made : Node → code.NodeOut → NodeStep
made node out = record { node = node; answer = out.answer; settled = out.settled.items }

-- the answer refuses the call
abbrev pub IsRefusalAnswer : Answer → Type 0
IsRefusalAnswer answer = (reply : Reply) × (answer ≡ says.Reply reply) × (accepts reply ≡ false)
