-- What a head tells the other parity processes, as messages.
use Rattle.group_types.specs.declared.process.Partition.{Partition}
use Rattle.group_types.specs.declared.process.Rank.{Rank}
use Rattle.group_message.specs.declared.message.Message.{Message}
use Rattle.group_message.specs.declared.message.Message.TheVariants as tells
use Rattle.head_service.specs.declared.news.News.{News}
use Rattle.head_service.specs.declared.news.News.TheVariants.{Issued, Settled, TakenOver}

-- the message of some news
abbrev pub message_of : Rank → Partition → News → Message
message_of rank partition (Issued update stable) = tells.Update rank partition update stable
message_of rank partition (Settled number) = tells.Stable rank partition number
message_of rank partition (TakenOver base list) = tells.Adopt rank partition base list
