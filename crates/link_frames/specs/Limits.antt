-- Which frames a link of a group may carry: each number fits where it is written, and a value has at most the bytes of a space.
use Rattle.std.specs.Prelude.{ℕ, ℤ, pos, negsuc, ◌≡◌, ◌+◌, ◌<◌, ◌≤◌, ◌^◌, Bool, false, List, length, ⊤}
use Rattle.group_types.specs.Dimensions.{Dimensions, processes_of}
use Rattle.group_types.specs.Key.{IsKey}
use Rattle.group_types.specs.Shape.{IsShape, most_space}
use Rattle.memc_table.specs.Asked.{Asked}
use Rattle.memc_table.specs.declared.act.Act.{Act}
use Rattle.memc_table.specs.declared.act.Act.TheVariants as asks
use Rattle.memc_table.specs.declared.reply.Reply.{Reply}
use Rattle.memc_table.specs.declared.reply.Reply.TheVariants as says
use Rattle.group_calls.specs.declared.event.Answer.{Answer}
use Rattle.group_calls.specs.declared.event.Answer.TheVariants as answers
use Rattle.group_calls.specs.declared.event.Cause.{Cause}
use Rattle.group_calls.specs.declared.event.Cause.TheVariants.{Pending, Block}
use Rattle.group_wire.specs.State as wire
use Rattle.group_message.specs.declared.message.Message as messages
use Rattle.group_message.specs.declared.message.Message.TheVariants.{Notice}
use Rattle.wire_codec.specs.Fits.{IsOne, IsTwo, IsFour, IsEight, FitsProcess, HasFrame}
use Rattle.link_frames.specs.declared.hello.Hello.{Hello}
use Rattle.link_frames.specs.declared.frame.Frame.{Frame}
use Rattle.link_frames.specs.declared.frame.Frame.TheVariants.{Message, Said, Ping, Pong, Request, Told}
use Rattle.link_frames.specs.declared.frame.Frame.TheVariants as carries

abbrev pub FitsValue : List ℕ → Type 0
FitsValue value = length value ≤ most_space

-- a number of 64 bits with a sign
abbrev pub FitsSigned : ℤ → Type 0
FitsSigned (pos n) = n < 2 ^ 63
FitsSigned (negsuc n) = n < 2 ^ 63

abbrev pub FitsHello : Hello → Type 0
FitsHello h = IsTwo h.version × (IsEight h.group.high × IsEight h.group.low) × IsShape h.shape × (FitsProcess h.from × FitsProcess h.to) × IsEight h.drawn

abbrev pub FitsItem : List ℕ → ℕ → ℤ → List ℕ → Type 0
FitsItem key flags expiry value = IsKey key × IsFour flags × FitsSigned expiry × FitsValue value

abbrev pub FitsAct : Act → Type 0
FitsAct (asks.Get key) = IsKey key
FitsAct (asks.Set key flags expiry value) = FitsItem key flags expiry value
FitsAct (asks.Add key flags expiry value) = FitsItem key flags expiry value
FitsAct (asks.Replace key flags expiry value) = FitsItem key flags expiry value
FitsAct (asks.Cas key flags expiry cas value) = IsKey key × IsFour flags × FitsSigned expiry × IsEight cas × FitsValue value
FitsAct (asks.Delete key) = IsKey key
FitsAct (asks.Touch key expiry) = IsKey key × FitsSigned expiry
FitsAct (asks.Append key value) = IsKey key × FitsValue value
FitsAct (asks.Prepend key value) = IsKey key × FitsValue value
FitsAct (asks.Incr key by) = IsKey key × IsEight by
FitsAct (asks.Decr key by) = IsKey key × IsEight by

-- a moment is at most 2^62
abbrev pub FitsAsked : Asked → Type 0
FitsAsked op = (op.moment ≤ 2 ^ 62) × FitsAct op.act

abbrev pub FitsRequest : wire.Request → Type 0
FitsRequest (wire.AskFor caller call op) = IsOne caller × IsEight call × FitsAsked op
FitsRequest (wire.TraceOf caller call d) = IsOne caller × IsEight call × IsOne d

abbrev pub FitsToldReply : Reply → Type 0
FitsToldReply (says.Value item) = IsFour item.flags × IsEight item.cas × FitsValue item.value
FitsToldReply (says.Number n) = IsEight n
FitsToldReply _ = ⊤

abbrev pub FitsToldCause : Cause → Type 0
FitsToldCause (Pending d number) = IsOne d.0 × IsEight number
FitsToldCause (Block block) = IsFour block

abbrev pub FitsToldAnswer : Answer → Type 0
FitsToldAnswer (answers.Reply reply) = FitsToldReply reply
FitsToldAnswer (answers.Ticket call) = IsEight call
FitsToldAnswer (answers.Retry why) = FitsToldCause why
FitsToldAnswer (answers.Stale number) = IsEight number
FitsToldAnswer _ = ⊤

abbrev pub FitsTold : wire.Told → Type 0
FitsTold t = IsOne t.caller × IsEight t.call × FitsToldAnswer t.answer

abbrev pub IsNotice : messages.Message → Type 0
IsNotice (Notice dead) = ⊤
IsNotice _ = ⊥

-- the frame has a spelling on links
abbrev pub FitsLink : Frame → Type 0
FitsLink (Message m) = HasFrame m × (¬ (IsNotice m))
FitsLink (carries.Hello h) = FitsHello h
FitsLink (Said names) = IsFour names.0
FitsLink (Ping number) = IsEight number
FitsLink (Pong number) = IsEight number
FitsLink (Request r) = FitsRequest r
FitsLink (Told t) = FitsTold t

-- it names no process beyond those of the group
abbrev pub NamesWithin : Dimensions → Frame → Type 0
NamesWithin s (Said names) = names.0 < 2 ^ processes_of s
NamesWithin s _ = ⊤

-- a link of a group of this shape may carry it
pub record HasLink (s : Dimensions) (f : Frame) : Type 0 where
  pub fits : FitsLink f
  pub known : NamesWithin s f
