-- The text of each frame: the kind, and its fields in order. The value that a frame carries stands at the end, but in messages.
use Rattle.std.specs.Prelude.{ℕ, ℤ, pos, negsuc, ◌-◌, ◌^◌, Bool, true, false, List, [], ◌∷◌, ◌++◌, length}
use Rattle.group_types.specs.Dimensions.{Dimensions}
use Rattle.memc_table.specs.Act.{act_value}
use Rattle.memc_table.specs.Asked.{Asked}
use Rattle.memc_table.specs.declared.act.Act.{Act}
use Rattle.memc_table.specs.declared.act.Act.TheVariants as asks
use Rattle.memc_table.specs.declared.reply.Reply.{Reply}
use Rattle.memc_table.specs.declared.reply.Reply.TheVariants as says
use Rattle.group_calls.specs.declared.event.Answer.{Answer}
use Rattle.group_calls.specs.declared.event.Answer.TheVariants as answers
use Rattle.group_calls.specs.declared.event.Cause.{Cause}
use Rattle.group_calls.specs.declared.event.Cause.TheVariants.{Pending, Block}
use Rattle.group_wire.specs.State as wire
use Rattle.wire_codec.specs.Frame.{one, two, four, eight, short, process, frame_body}
use Rattle.wire_codec.specs.Parts as message
use Rattle.link_frames.specs.declared.hello.Hello.{Hello}
use Rattle.link_frames.specs.declared.frame.Frame.{Frame}
use Rattle.link_frames.specs.declared.frame.Frame.TheVariants.{Message, Said, Ping, Pong, Request, Told}
use Rattle.link_frames.specs.declared.frame.Frame.TheVariants as carries

-- "cocytus" and the end of a line
abbrev pub magic_word : ℕ
magic_word = 7165054905465795338

abbrev pub dimensions : Dimensions → List ℕ
dimensions s = one s.k ++ one s.m ++ four s.blocks ++ four s.block

-- a greeting behind the magic word
abbrev pub greeting : Hello → List ℕ
greeting h = two h.version ++ (eight h.group.high ++ eight h.group.low) ++ dimensions h.shape ++ (process h.from ++ process h.to) ++ eight h.drawn

abbrev pub hello : Hello → List ℕ
hello h = eight magic_word ++ greeting h

abbrev pub flag_byte : Bool → List ℕ
flag_byte false = 0 ∷ []
flag_byte true = 1 ∷ []

-- a number with a sign, in two's complement
abbrev pub unsigned : ℤ → ℕ
unsigned (pos n) = n
unsigned (negsuc n) = 2 ^ 64 - 1 - n

abbrev pub signed : ℤ → List ℕ
signed z = eight (unsigned z)

-- an act up to the bytes of its value
abbrev pub act_before : Act → List ℕ
act_before (asks.Get key) = 0 ∷ short key
act_before (asks.Set key flags expiry value) = 1 ∷ short key ++ four flags ++ signed expiry ++ four (length value)
act_before (asks.Add key flags expiry value) = 2 ∷ short key ++ four flags ++ signed expiry ++ four (length value)
act_before (asks.Replace key flags expiry value) = 3 ∷ short key ++ four flags ++ signed expiry ++ four (length value)
act_before (asks.Cas key flags expiry cas value) = 4 ∷ short key ++ four flags ++ signed expiry ++ eight cas ++ four (length value)
act_before (asks.Delete key) = 5 ∷ short key
act_before (asks.Touch key expiry) = 6 ∷ short key ++ signed expiry
act_before (asks.Append key value) = 7 ∷ short key ++ four (length value)
act_before (asks.Prepend key value) = 8 ∷ short key ++ four (length value)
act_before (asks.Incr key by) = 9 ∷ short key ++ eight by
act_before (asks.Decr key by) = 10 ∷ short key ++ eight by

-- a request, likewise, with its kind
abbrev pub request_before : wire.Request → List ℕ
request_before (wire.AskFor caller call op) = 15 ∷ one caller ++ eight call ++ eight op.moment ++ act_before op.act
request_before (wire.TraceOf caller call d) = 16 ∷ one caller ++ eight call ++ one d

abbrev pub request_value : wire.Request → List ℕ
request_value (wire.AskFor caller call op) = act_value op.act
request_value (wire.TraceOf caller call d) = []

-- a reply up to the bytes of the value that it shows
abbrev pub reply_before : Reply → List ℕ
reply_before (says.Value item) = 0 ∷ four item.flags ++ eight item.cas ++ four (length item.value)
reply_before says.Miss = 1 ∷ []
reply_before says.Stored = 2 ∷ []
reply_before says.NotStored = 3 ∷ []
reply_before says.Exists = 4 ∷ []
reply_before says.NotFound = 5 ∷ []
reply_before says.Deleted = 6 ∷ []
reply_before says.Touched = 7 ∷ []
reply_before (says.Number n) = 8 ∷ eight n
reply_before says.NotNumber = 9 ∷ []
reply_before says.TooLarge = 10 ∷ []

abbrev pub reply_value : Reply → List ℕ
reply_value (says.Value item) = item.value
reply_value _ = []

abbrev pub cause : Cause → List ℕ
cause (Pending d number) = 0 ∷ one d.0 ++ eight number
cause (Block block) = 1 ∷ four block

abbrev pub answer_before : Answer → List ℕ
answer_before (answers.Reply reply) = 0 ∷ reply_before reply
answer_before (answers.Ticket call) = 1 ∷ eight call
answer_before answers.NotYet = 2 ∷ []
answer_before answers.NoSpace = 3 ∷ []
answer_before (answers.Retry why) = 4 ∷ cause why
answer_before answers.Moved = 5 ∷ []
answer_before answers.Lost = 6 ∷ []
answer_before answers.Down = 7 ∷ []
answer_before answers.Idle = 8 ∷ []
answer_before answers.Stranger = 9 ∷ []
answer_before answers.Done = 10 ∷ []
answer_before answers.AlreadyDead = 11 ∷ []
answer_before answers.Gone = 12 ∷ []
answer_before (answers.Stale number) = 13 ∷ eight number

abbrev pub answer_value : Answer → List ℕ
answer_value (answers.Reply reply) = reply_value reply
answer_value _ = []

abbrev pub told_before : wire.Told → List ℕ
told_before t = one t.caller ++ eight t.call ++ flag_byte t.traced ++ answer_before t.answer

-- what stands before the value of a frame, the value, and what stands behind it
abbrev pub link_before : Frame → List ℕ
link_before (Message m) = message.text_before m
link_before (carries.Hello h) = 11 ∷ hello h
link_before (Said names) = 12 ∷ four names.0
link_before (Ping number) = 13 ∷ eight number
link_before (Pong number) = 14 ∷ eight number
link_before (Request r) = request_before r
link_before (Told t) = 17 ∷ told_before t

abbrev pub link_value : Frame → List ℕ
link_value (Message m) = message.value_of m
link_value (Request r) = request_value r
link_value (Told t) = answer_value t.answer
link_value _ = []

abbrev pub link_behind : Frame → List ℕ
link_behind (Message m) = message.text_behind m
link_behind _ = []

-- the text of a frame: of a message the one that it has elsewhere
abbrev pub link_text : Frame → List ℕ
link_text (Message m) = frame_body m
link_text f = link_before f ++ link_value f
