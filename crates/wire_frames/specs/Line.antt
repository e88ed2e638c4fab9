-- The line of a message.
use Rattle.std.specs.Prelude.{ℕ, List, ◌++◌, codes, length}
use Rattle.std.specs.Fmt.{decimal}
use Rattle.std.specs.List.{flat_map}
use Rattle.group_message.specs.declared.message.Message.{Message}
use Rattle.wire_codec.specs.Frame.{frame_body, kind_of}

-- the kind of a message, and how many bytes stand behind the length in its frame
abbrev pub line_of : Message → List ℕ
line_of m = codes "frame " ++ decimal (kind_of m) ++ codes " " ++ decimal (length (frame_body m)) ++ codes "\n"

-- the lines of messages, in order
abbrev pub message_lines : List Message → List ℕ
message_lines messages = flat_map line_of messages
