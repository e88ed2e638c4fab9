-- Numbers that fit with a base into 64 bits.
use Rattle.std.specs.Prelude.{ℕ, ◌+◌, ◌<◌, ◌^◌, List}
use Rattle.group_types.specs.Hash.{home_of}
use Rattle.group_types.specs.Lists.{at}
use Rattle.memc_table.specs.Act.{key_of}
use Rattle.memc_table.specs.declared.reply.Reply.{Reply}
use Rattle.memc_table.specs.declared.reply.Reply.TheVariants as reply
use Rattle.group_calls.specs.declared.event.Answer.{Answer}
use Rattle.group_calls.specs.declared.event.Answer.TheVariants as says
use Rattle.group_calls.specs.declared.event.Cause.TheVariants as cause
use Rattle.group_calls.specs.declared.event.Event.{Event}
use Rattle.group_calls.specs.declared.event.Event.TheVariants.{Ask}

-- the number that a reply shows, told with this base
abbrev pub ReplyFits : ℕ → Reply → Type 0
ReplyFits base (reply.Value item) = base + item.cas < 2 ^ 64
ReplyFits base other = Unit {0}

-- an answer to an ask of partition d
abbrev pub AnswerFits : List ℕ → ℕ → Answer → Type 0
AnswerFits bases d (says.Reply r) = ReplyFits (at 0 bases d) r
AnswerFits bases d (says.Ticket n) = at 0 bases d + n < 2 ^ 64
AnswerFits bases d (says.Retry (cause.Pending e n)) = at 0 bases e.0 + n < 2 ^ 64
AnswerFits bases d other = Unit {0}

-- an answer to an event: only an ask is answered with numbers of a partition
abbrev pub FitsAsk : List ℕ → ℕ → Event → Answer → Type 0
FitsAsk bases k (Ask caller op p) answer = AnswerFits bases (home_of (key_of op.act) k) answer
FitsAsk bases k _ answer = Unit {0}
