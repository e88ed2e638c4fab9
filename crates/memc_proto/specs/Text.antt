use Rattle.std.specs.Prelude.{ℕ, Bool, true, false, List, [], ◌∷◌, ◌++◌, codes, length, ⊤}
use Rattle.std.specs.Fmt.{decimal}
use Rattle.memc_table.specs.declared.reply.Item.{Item}
use Rattle.memc_table.specs.declared.reply.Reply.{Reply}
use Rattle.memc_table.specs.declared.reply.Reply.TheVariants as reply
use Rattle.memc_proto.specs.declared.end.CallEnd.{CallEnd}
use Rattle.memc_proto.specs.declared.end.CallEnd.TheVariants as call
use Rattle.memc_proto.specs.declared.end.FailEnd.{FailEnd}
use Rattle.memc_proto.specs.declared.end.FailEnd.TheVariants as fail
use Rattle.memc_proto.specs.declared.request.Refusal.{Refusal}
use Rattle.memc_proto.specs.declared.request.Refusal.TheVariants.{Unknown, BadLine, TooLarge, BadChunk}

-- a line with its end
abbrev pub line : List ℕ → List ℕ
line text = text ++ 13 ∷ 10 ∷ []

-- a number word with the space before it
abbrev pub next_number : ℕ → List ℕ
next_number n = codes " " ++ decimal n

-- the cas number, where it is asked
abbrev pub cas_text : Bool → ℕ → List ℕ
cas_text true cas = next_number cas
cas_text false cas = []

-- an item that was found
abbrev pub item_text : List ℕ → Bool → Item → List ℕ
item_text key with_cas item = line (codes "VALUE " ++ key ++ next_number item.flags ++ next_number (length item.value)
    ++ cas_text with_cas item.cas) ++ line item.value

-- the reply to a call on a key
abbrev pub reply_text : List ℕ → Bool → Reply → List ℕ
reply_text key with_cas (reply.Value item) = item_text key with_cas item
reply_text key with_cas reply.Miss = []
reply_text key with_cas reply.Stored = line (codes "STORED")
reply_text key with_cas reply.NotStored = line (codes "NOT_STORED")
reply_text key with_cas reply.Exists = line (codes "EXISTS")
reply_text key with_cas reply.NotFound = line (codes "NOT_FOUND")
reply_text key with_cas reply.Deleted = line (codes "DELETED")
reply_text key with_cas reply.Touched = line (codes "TOUCHED")
reply_text key with_cas (reply.Number n) = line (decimal n)
reply_text key with_cas reply.NotNumber = line (codes "CLIENT_ERROR cannot increment or decrement non-numeric value")
reply_text key with_cas reply.TooLarge = line (codes "SERVER_ERROR object too large for cache")

-- the end of a call on a key
abbrev pub end_text : List ℕ → Bool → CallEnd → List ℕ
end_text key with_cas (call.Reply told) = reply_text key with_cas told
end_text key with_cas call.NoSpace = line (codes "SERVER_ERROR out of memory storing object")
end_text key with_cas call.Down = line (codes "SERVER_ERROR group down")
end_text key with_cas call.Worn = line (codes "SERVER_ERROR group worn")
end_text key with_cas call.Moves = line (codes "SERVER_ERROR group moves")

-- an end whose text isn't the same for every call: it hands out an item or a number
abbrev pub HasOwnText : CallEnd → Type 0
HasOwnText (call.Reply (reply.Value _)) = ⊤
HasOwnText (call.Reply (reply.Number _)) = ⊤
HasOwnText _ = ⊥

-- the end of an order that a process fail
abbrev pub fail_text : FailEnd → List ℕ
fail_text fail.Made = line (codes "OK")
fail_text fail.AlreadyDead = line (codes "ALREADY_DEAD")
fail_text fail.NoProcess = line (codes "CLIENT_ERROR no such process")
fail_text fail.Off = line (codes "ERROR")
fail_text fail.Worn = line (codes "SERVER_ERROR group worn")

-- a refusal
abbrev pub refusal_text : Refusal → List ℕ
refusal_text Unknown = line (codes "ERROR")
refusal_text (BadLine _) = line (codes "CLIENT_ERROR bad command line format")
refusal_text (TooLarge _) = line (codes "SERVER_ERROR object too large for cache")
refusal_text BadChunk = line (codes "CLIENT_ERROR bad data chunk")

-- the version
abbrev pub version_text : List ℕ
version_text = line (codes "VERSION cocytus-1")

-- what follows the items of a get
abbrev pub end_of_items : List ℕ
end_of_items = line (codes "END")

-- what is written of a line that is too long
abbrev pub too_long_text : List ℕ
too_long_text = line (codes "CLIENT_ERROR line too long")
