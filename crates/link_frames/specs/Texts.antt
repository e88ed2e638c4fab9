-- What is read of a text; none where no frame is spelled there.
use Rattle.std.specs.Prelude.{ℕ, ℤ, pos, negsuc, ◌-◌, ◌^◌, ◌==◌, nat_lt, nat_le, ◌&&◌, Bool, true, false, List, [], ◌∷◌}
use Rattle.std.specs.Prelude.{length, Option, Some, None, if◌then◌else◌}
use Rattle.std.specs.Int.{w16, w32, w64, is_power_of_two}
use Rattle.group_types.specs.Dimensions.{Dimensions, processes_of, space_of}
use Rattle.group_types.specs.Shape.{most_space}
use Rattle.group_types.specs.declared.process.ProcessId.{ProcessId}
use Rattle.memc_table.specs.Asked.{Asked}
use Rattle.memc_table.specs.declared.act.Act.{Act}
use Rattle.memc_table.specs.declared.act.Act.TheVariants as asks
use Rattle.memc_table.specs.declared.reply.Reply.{Reply}
use Rattle.memc_table.specs.declared.reply.Reply.TheVariants as says
use Rattle.group_calls.specs.declared.event.Answer.{Answer}
use Rattle.group_calls.specs.declared.event.Answer.TheVariants as answers
use Rattle.group_calls.specs.declared.event.Cause.{Cause}
use Rattle.group_calls.specs.declared.event.Cause.TheVariants.{Pending, Block}
use Rattle.group_wire.specs.State as wire
use Rattle.wire_codec.specs.Reading.{◌>>=◌, Read, nothing, given, one_at, decode_number, made_at, of_two, of_three}
use Rattle.wire_codec.specs.Reading.{of_four, of_five, tested_at, picked, tagged_at, decode_process, key_at, long_at}
use Rattle.wire_codec.specs.Reading.{message_in}
use Rattle.link_frames.specs.declared.hello.Hello.{Hello}
use Rattle.link_frames.specs.declared.hello.GroupId.{GroupId}
use Rattle.link_frames.specs.declared.frame.Frame.{Frame}
use Rattle.link_frames.specs.declared.frame.Frame.TheVariants.{Message, Said, Ping, Pong, Request, Told}
use Rattle.link_frames.specs.declared.frame.Frame.TheVariants as carries
use Rattle.link_frames.specs.Spelling.{magic_word}

-- a number of 64 bits as one with a sign
abbrev pub number_with_sign : ℕ → ℤ
number_with_sign n = if nat_lt n (2 ^ 63) then pos n else negsuc (2 ^ 64 - 1 - n)

unfoldable pub signed_at : Read ℤ
signed_at = made_at number_with_sign (decode_number w64)

unfoldable pub value_at : Read (List ℕ)
value_at = tested_at (λ value. nat_le (length value) most_space) long_at

abbrev pub flag_table : List (ℕ × Read Bool)
flag_table = (0, given false) ∷ (1, given true) ∷ []

unfoldable pub flag_at : Read Bool
flag_at = tagged_at flag_table

-- whether a shape is within its limits
abbrev pub passes_shape : Dimensions → Bool
passes_shape s = nat_le 1 s.k && nat_le s.k 16 && nat_le s.m 4 && nat_le 16 s.block && nat_le s.block 65536 &&
    is_power_of_two s.block && nat_le 1 s.blocks && nat_le (space_of s) most_space

abbrev pub dimensions_by : ℕ → ℕ → ℕ → ℕ → Dimensions
dimensions_by k m blocks block = record { k = k; m = m; blocks = blocks; block = block }

unfoldable pub shape_at : Read Dimensions
shape_at = tested_at passes_shape (of_four dimensions_by one_at one_at (decode_number w32) (decode_number w32))

unfoldable pub group_at : Read GroupId
group_at = of_two (λ high low. record { high = high; low = low }) (decode_number w64) (decode_number w64)

unfoldable pub ends_at : Read (ProcessId × ProcessId)
ends_at = of_two (λ from to. (from, to)) decode_process decode_process

abbrev pub hello_by : ℕ → GroupId → Dimensions → ProcessId × ProcessId → ℕ → Hello
hello_by version group shape ends drawn = record { version = version; group = group; shape = shape; from = ends.0; to = ends.1; drawn = drawn }

unfoldable pub greeting_at : Read Hello
greeting_at = of_five hello_by (decode_number w16) group_at shape_at ends_at (decode_number w64)

-- behind the magic word
unfoldable pub hello_at : Read Hello
hello_at bytes = tested_at (λ word. word == magic_word) (decode_number w64) bytes >>= λ word. greeting_at word.1

unfoldable pub touch_at : Read Act
touch_at = of_two asks.Touch key_at signed_at

unfoldable pub cas_at : Read Act
cas_at = of_five asks.Cas key_at (decode_number w32) signed_at (decode_number w64) value_at

-- an act that brings a whole item
abbrev pub item_at : (List ℕ → ℕ → ℤ → List ℕ → Act) → Read Act
item_at make = of_four make key_at (decode_number w32) signed_at value_at

abbrev pub act_table : List (ℕ × Read Act)
act_table = (0, made_at asks.Get key_at) ∷ (1, item_at asks.Set) ∷ (2, item_at asks.Add) ∷ (3, item_at asks.Replace)
    ∷ (4, cas_at) ∷ (5, made_at asks.Delete key_at) ∷ (6, touch_at)
    ∷ (7, of_two asks.Append key_at value_at) ∷ (8, of_two asks.Prepend key_at value_at)
    ∷ (9, of_two asks.Incr key_at (decode_number w64)) ∷ (10, of_two asks.Decr key_at (decode_number w64)) ∷ []

unfoldable pub act_at : Read Act
act_at = tagged_at act_table

unfoldable pub moment_at : Read ℕ
moment_at = tested_at (λ moment. nat_le moment (2 ^ 62)) (decode_number w64)

abbrev pub asked_by : ℕ → Act → Asked
asked_by moment act = record { moment = moment; act = act }

unfoldable pub op_at : Read Asked
op_at = of_two asked_by moment_at act_at

unfoldable pub ask_at : Read wire.Request
ask_at = of_three wire.AskFor one_at (decode_number w64) op_at

unfoldable pub trace_at : Read wire.Request
trace_at = of_three wire.TraceOf one_at (decode_number w64) one_at

abbrev pub value_reply : ℕ → ℕ → List ℕ → Reply
value_reply flags cas value = says.Value (record { flags = flags; cas = cas; value = value })

unfoldable pub value_reply_at : Read Reply
value_reply_at = of_three value_reply (decode_number w32) (decode_number w64) value_at

abbrev pub reply_table : List (ℕ × Read Reply)
reply_table = (0, value_reply_at) ∷ (1, given says.Miss) ∷ (2, given says.Stored) ∷ (3, given says.NotStored)
    ∷ (4, given says.Exists) ∷ (5, given says.NotFound) ∷ (6, given says.Deleted) ∷ (7, given says.Touched)
    ∷ (8, made_at says.Number (decode_number w64)) ∷ (9, given says.NotNumber) ∷ (10, given says.TooLarge) ∷ []

unfoldable pub reply_at : Read Reply
reply_at = tagged_at reply_table

abbrev pub pending_by : ℕ → ℕ → Cause
pending_by d number = Pending (record { 0 = d }) number

abbrev pub cause_table : List (ℕ × Read Cause)
cause_table = (0, of_two pending_by one_at (decode_number w64)) ∷ (1, made_at Block (decode_number w32)) ∷ []

unfoldable pub cause_at : Read Cause
cause_at = tagged_at cause_table

abbrev pub answer_table : List (ℕ × Read Answer)
answer_table = (0, made_at answers.Reply reply_at) ∷ (1, made_at answers.Ticket (decode_number w64))
    ∷ (2, given answers.NotYet) ∷ (3, given answers.NoSpace) ∷ (4, made_at answers.Retry cause_at)
    ∷ (5, given answers.Moved)
    ∷ (6, given answers.Lost) ∷ (7, given answers.Down) ∷ (8, given answers.Idle) ∷ (9, given answers.Stranger)
    ∷ (10, given answers.Done) ∷ (11, given answers.AlreadyDead) ∷ (12, given answers.Gone)
    ∷ (13, made_at answers.Stale (decode_number w64)) ∷ []

unfoldable pub told_answer_at : Read Answer
told_answer_at = tagged_at answer_table

abbrev pub telling_of : ℕ → ℕ → Bool → Answer → wire.Told
telling_of caller call traced answer = record { caller = caller; call = call; traced = traced; answer = answer }

unfoldable pub telling_at : Read wire.Told
telling_at = of_four telling_of one_at (decode_number w64) flag_at told_answer_at

abbrev pub said_names : ℕ → Frame
said_names names = Said (record { 0 = names })

unfoldable pub said_at : Dimensions → Read Frame
said_at s = made_at said_names (tested_at (λ names. nat_lt names (2 ^ processes_of s)) (decode_number w32))

-- the kinds that are not messages
abbrev pub link_kinds : Dimensions → List (ℕ × Read Frame)
link_kinds s = (11, made_at carries.Hello hello_at) ∷ (12, said_at s) ∷ (13, made_at Ping (decode_number w64))
    ∷ (14, made_at Pong (decode_number w64)) ∷ (15, made_at Request ask_at) ∷ (16, made_at Request trace_at)
    ∷ (17, made_at Told telling_at) ∷ []

unfoldable pub frame_at : Dimensions → Read Frame
frame_at s = tagged_at (link_kinds s)

-- what was read, if it was all
abbrev pub to_end : {A : Type 0} → A × List ℕ → Option A
to_end (x, []) = Some x
to_end (x, b ∷ rest) = None

abbrev pub one_frame : Frame → Option Frame
one_frame f = Some f

-- the frame that a text is: below 10 a message's
abbrev pub is_message : List ℕ → Bool
is_message [] = false
is_message (kind ∷ fields) = nat_lt kind 10

unfoldable pub frame_in : Dimensions → List ℕ → Option Frame
frame_in s text = if is_message text then message_in text >>= (λ m. one_frame (Message m)) else frame_at s text >>= to_end
