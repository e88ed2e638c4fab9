-- What is read at the front of bytes, and the bytes behind it; none where no such thing is spelled there.
use Rattle.std.specs.Prelude.{ℕ, zero, suc, ◌≡◌, ◌==◌, ◌&&◌, nat_lt, nat_le, not, Bool, List, [], ◌∷◌, length, take}
use Rattle.std.specs.Prelude.{drop, Option, Some, None, Result, Ok, Err, ⊤, if◌then◌else◌}
use Rattle.std.specs.List.{list_all}
use Rattle.std.specs.Int.{Width, w16, w32, w64, byte_len, from_be_bytes}
use Rattle.group_types.specs.declared.process.ProcessId.{ProcessId}
use Rattle.group_types.specs.declared.process.ProcessId.TheVariants.{DataNode, ParityNode}
use Rattle.group_types.specs.declared.run.Run.{Run}
use Rattle.group_message.specs.declared.message.Message.{Message}
use Rattle.group_message.specs.declared.message.Message.TheVariants as tells
use Rattle.group_message.specs.declared.message.Session.{Session}
use Rattle.group_message.specs.declared.update.Body.{Body}
use Rattle.group_message.specs.declared.update.Body.TheVariants.{Put, Remove, Touch}
use Rattle.group_message.specs.declared.update.Outcome.{Outcome}
use Rattle.group_message.specs.declared.update.Outcome.TheVariants as ends
use Rattle.group_message.specs.declared.update.Update.{Update}
use Rattle.wire_codec.specs.declared.fault.ReadFault.{ReadFault}
use Rattle.wire_codec.specs.declared.fault.ReadFault.TheVariants.{NoSpelling, Want}

infixl 10 ◌>>=◌
abbrev pub ◌>>=◌ : {A B : Type 0} → Option A → (A → Option B) → Option B
(Some x) >>= f = f x
None >>= f = None

-- what a reader answers is what is read, unless there was no memory
abbrev pub Fails : {A : Type 0} → ReadFault → Option A → Type 0
Fails NoSpelling read = read ≡ None
Fails Want read = ⊤

abbrev pub Gives : {X A : Type 0} → (X → A) → Result X ReadFault → Option A → Type 0
Gives view (Ok x) read = read ≡ Some (view x)
Gives view (Err fault) read = Fails fault read

-- something that is read, and the bytes behind it
abbrev pub Read : Type 0 → Type 0
Read A = List ℕ → Option (A × List ℕ)

abbrev pub nothing : {A : Type 0} → Read A
nothing bytes = None

abbrev pub given : {A : Type 0} → A → Read A
given x bytes = Some (x, bytes)

abbrev pub one_at : Read ℕ
one_at [] = None
one_at (b ∷ rest) = Some (b, rest)

abbrev pub decode_number : Width → Read ℕ
decode_number w bytes = if nat_lt (length bytes) (byte_len w) then None else Some (from_be_bytes w (take (byte_len w) bytes), drop (byte_len w) bytes)

abbrev pub decode_bytes : ℕ → Read (List ℕ)
decode_bytes n bytes = if nat_lt (length bytes) n then None else Some (take n bytes, drop n bytes)

-- what is made of what is read
abbrev pub made_at : {A B : Type 0} → (A → B) → Read A → Read B
made_at make read bytes = read bytes >>= λ x. Some (make x.0, x.1)

-- what is made of two things, one behind the other, and of three, four and five
abbrev pub of_two : {A B X : Type 0} → (A → B → X) → Read A → Read B → Read X
of_two make a b bytes = a bytes >>= λ x. b x.1 >>= λ y. Some (make x.0 y.0, y.1)

abbrev pub of_three : {A B C X : Type 0} → (A → B → C → X) → Read A → Read B → Read C → Read X
of_three make a b c bytes = a bytes >>= λ x. b x.1 >>= λ y. c y.1 >>= λ z. Some (make x.0 y.0 z.0, z.1)

abbrev pub of_four : {A B C D X : Type 0} → (A → B → C → D → X) → Read A → Read B → Read C → Read D → Read X
of_four make a b c d bytes = a bytes >>= λ x. b x.1 >>= λ y. c y.1 >>= λ z. d z.1 >>= λ w. Some (make x.0 y.0 z.0 w.0, w.1)

abbrev pub of_five : {A B C D E X : Type 0} → (A → B → C → D → E → X) → Read A → Read B → Read C → Read D → Read E → Read X
of_five make a b c d e bytes = a bytes >>= λ x. b x.1 >>= λ y. c y.1 >>= λ z. d z.1 >>= λ w. e w.1 >>= λ v. Some (make x.0 y.0 z.0 w.0 v.0, v.1)

-- only what passes a test
abbrev pub tested_at : {A : Type 0} → (A → Bool) → Read A → Read A
tested_at test read bytes = read bytes >>= λ x. if test x.0 then Some x else None

-- as many bytes as a number before them says
abbrev pub counted_at : Read ℕ → Read (List ℕ)
counted_at read bytes = read bytes >>= λ n. decode_bytes n.0 n.1

-- so many things
unfoldable pub many_at : {A : Type 0} → Read A → ℕ → Read (List A)
many_at read zero bytes = Some ([], bytes)
many_at read (suc n) bytes = read bytes >>= λ x. many_at read n x.1 >>= λ xs. Some (x.0 ∷ xs.0, xs.1)

-- as many things as a number before them says
abbrev pub list_at : {A : Type 0} → Read ℕ → Read A → Read (List A)
list_at count read bytes = count bytes >>= λ n. many_at read n.0 n.1

-- what a table has for a number
abbrev pub picked : {A : Type 0} → List (ℕ × Read A) → ℕ → Read A
picked [] k = nothing
picked (entry ∷ table) k = if k == entry.0 then entry.1 else picked table k

-- what a table has for the first byte
abbrev pub tagged_at : {A : Type 0} → List (ℕ × Read A) → Read A
tagged_at table bytes = one_at bytes >>= λ tag. picked table tag.0 tag.1

abbrev pub options : {A : Type 0} → Read A → List (ℕ × Read (Option A))
options read = (0, given None) ∷ (1, made_at Some read) ∷ []

abbrev pub maybe_at : {A : Type 0} → Read A → Read (Option A)
maybe_at read = tagged_at (options read)

abbrev pub processes : List (ℕ × Read ProcessId)
processes = (0, made_at DataNode one_at) ∷ (1, made_at ParityNode one_at) ∷ []

unfoldable pub decode_process : Read ProcessId
decode_process = tagged_at processes

unfoldable pub session_at : Read Session
session_at = of_two (λ leader number. record { leader = leader; number = number }) decode_process (decode_number w64)

unfoldable pub decode_run : Read Run
decode_run = of_two (λ at len. record { at = at; len = len }) (decode_number w32) (decode_number w32)

unfoldable pub until_at : Read (Option ℕ)
until_at = maybe_at (decode_number w64)

unfoldable pub frees_at : Read (Option Run)
frees_at = maybe_at decode_run

-- whether bytes are within memcached's limits of a key
abbrev pub passes_key : List ℕ → Bool
passes_key key = nat_le 1 (length key) && nat_le (length key) 250 && list_all (λ b. nat_lt 32 b && not (b == 127)) key

unfoldable pub key_at : Read (List ℕ)
key_at = tested_at passes_key (counted_at one_at)

unfoldable pub long_at : Read (List ℕ)
long_at = counted_at (decode_number w32)

-- a run, and a difference of its length
unfoldable pub change_at : Read (Run × List ℕ)
change_at = tested_at (λ x. length x.1 == x.0.len) (of_two (λ r delta. (r, delta)) decode_run long_at)

unfoldable pub put_at : Read Body
put_at = of_three (λ flags until change. Put flags until change.0 change.1) (decode_number w32) until_at change_at

abbrev pub bodies : List (ℕ × Read Body)
bodies = (0, put_at) ∷ (1, given Remove) ∷ (2, made_at Touch until_at) ∷ []

unfoldable pub body_at : Read Body
body_at = tagged_at bodies

abbrev pub outcomes : List (ℕ × Read Outcome)
outcomes = (0, given ends.Stored) ∷ (1, given ends.Deleted) ∷ (2, given ends.Touched) ∷ (3, made_at ends.Number (decode_number w64)) ∷ []

unfoldable pub outcome_at : Read Outcome
outcome_at = tagged_at outcomes

-- an update's number, caller and call, and what it frees and is answered
unfoldable pub name_at : Read (ℕ × ℕ × ℕ)
name_at = of_three (λ number caller call. (number, caller, call)) (decode_number w64) one_at (decode_number w64)

unfoldable pub effect_at : Read (Option Run × Outcome)
effect_at = of_two (λ frees outcome. (frees, outcome)) frees_at outcome_at

abbrev pub update_by : ℕ × ℕ × ℕ → List ℕ → Body → Option Run × Outcome → Update
update_by name key body effect = record { number = name.0; caller = name.1; call = name.2; key = key; body = body; frees = effect.0; outcome = effect.1 }

unfoldable pub update_at : Read Update
update_at = of_four update_by name_at key_at body_at effect_at

unfoldable pub update_message_at : Read Message
update_message_at = of_four (λ r d u stable. tells.Update (record { 0 = r }) (record { 0 = d }) u stable) one_at one_at update_at (decode_number w64)

unfoldable pub ack_at : Read Message
ack_at = of_three (λ r d number. tells.Ack (record { 0 = r }) (record { 0 = d }) number) one_at one_at (decode_number w64)

unfoldable pub stable_at : Read Message
stable_at = of_three (λ r d number. tells.Stable (record { 0 = r }) (record { 0 = d }) number) one_at one_at (decode_number w64)

unfoldable pub updates_at : Read (List Update)
updates_at = list_at (decode_number w16) update_at

unfoldable pub adopt_at : Read Message
adopt_at = of_four (λ r d base list. tells.Adopt (record { 0 = r }) (record { 0 = d }) base list) one_at one_at (decode_number w64) updates_at

unfoldable pub rows_at : Read (List ℕ)
rows_at = counted_at one_at

unfoldable pub read_block_at : Read Message
read_block_at = of_three tells.ReadBlock session_at (decode_number w32) rows_at

unfoldable pub block_at : Read Message
block_at = of_three tells.Block session_at long_at (decode_number w64)

unfoldable pub mark_at : Read Message
mark_at = of_five (λ s r block d number. tells.Mark s (record { 0 = r }) block (record { 0 = d }) number) session_at
    one_at (decode_number w32) one_at (decode_number w64)

unfoldable pub stamp_at : Read (List ℕ)
stamp_at = list_at one_at (decode_number w64)

unfoldable pub row_at : Read Message
row_at = of_three tells.Row session_at long_at stamp_at

unfoldable pub cease_at : Read Message
cease_at = made_at tells.Cease (decode_number w64)

unfoldable pub notice_at : Read Message
notice_at = made_at tells.Notice decode_process

-- the kinds of messages, and how the fields of each are read
abbrev pub kinds : List (ℕ × Read Message)
kinds = (1, update_message_at) ∷ (2, ack_at) ∷ (3, stable_at) ∷ (4, adopt_at) ∷ (5, read_block_at) ∷ (6, block_at)
    ∷ (7, mark_at) ∷ (8, row_at) ∷ (9, cease_at) ∷ (10, notice_at) ∷ []

unfoldable pub message_at : Read Message
message_at = tagged_at kinds

-- the message that a text is, if it is the whole of it
abbrev pub ended : Message × List ℕ → Option Message
ended (m, []) = Some m
ended (m, b ∷ rest) = None

unfoldable pub message_in : List ℕ → Option Message
message_in text = message_at text >>= ended
