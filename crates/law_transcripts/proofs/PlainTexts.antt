-- The texts of a transcript hold no line end, but for what a key brings.
use Rattle.std.proofs.Common.{◌==◌, ℕ, ℤ, pos, negsuc, Bool, true, false, List, [], ◌∷◌, ◌++◌, codes, if◌then◌else◌, refl}
use Rattle.std.specs.Fmt.{decimal, signed_decimal}
use Rattle.group_types.specs.declared.run.Run.{Run}
use Rattle.memc_table.specs.Act.{key_of}
use Rattle.memc_table.specs.declared.act.Act.{Act}
use Rattle.memc_table.specs.declared.act.Act.TheVariants.{Get, Set, Add, Replace, Cas, Delete, Touch, Append, Prepend, Incr, Decr}
use Rattle.memc_table.specs.declared.reply.Reply.{Reply}
use Rattle.memc_table.specs.declared.reply.Reply.TheVariants as replied
use Rattle.group_calls.specs.declared.entry.Entry.{Entry}
use Rattle.group_calls.specs.declared.event.Answer.{Answer}
use Rattle.group_calls.specs.declared.event.Answer.TheVariants as answered
use Rattle.group_calls.specs.declared.event.Cause.{Cause}
use Rattle.group_calls.specs.declared.event.Cause.TheVariants.{Pending, Block}
use Rattle.scenario_text.specs.Texts.{act_text, answer_text, behind_commas, cause_text, entry_text, expiry_text}
use Rattle.scenario_text.specs.Texts.{flagged_text, moment_text, name_text, place_text, reply_words, spaced_number}
use Rattle.scenario_text.specs.Texts.{shown_text, stamp_text, stored_text, value_text}
use Rattle.law_transcripts.proofs.Plain.{Plain, append, behind-space, none, number, signed, value, word}

-- ---- answers

pub reply : (r : Reply) → Plain (reply_words r)
reply (replied.Value item) =
    append (codes "value" ++ spaced_number item.flags ++ spaced_number item.cas ++ codes " ") (value_text item.value)
    (append (codes "value" ++ spaced_number item.flags ++ spaced_number item.cas) (codes " ")
    (append (codes "value" ++ spaced_number item.flags) (spaced_number item.cas)
    (append (codes "value") (spaced_number item.flags) (word (codes "value") refl) (behind-space item.flags)) (behind-space item.cas))
    (word (codes " ") refl)) (value item.value)
reply (replied.Number n) = append (codes "number ") (decimal n) (word (codes "number ") refl) (number n)
reply replied.Miss = word (codes "miss") refl
reply replied.Stored = word (codes "stored") refl
reply replied.NotStored = word (codes "not_stored") refl
reply replied.Exists = word (codes "exists") refl
reply replied.NotFound = word (codes "not_found") refl
reply replied.Deleted = word (codes "deleted") refl
reply replied.Touched = word (codes "touched") refl
reply replied.NotNumber = word (codes "not_number") refl
reply replied.TooLarge = word (codes "too_large") refl

cause : (c : Cause) → Plain (cause_text c)
cause (Pending partition n) =
    append (codes "retry pending" ++ spaced_number partition.0) (spaced_number n)
    (append (codes "retry pending") (spaced_number partition.0) (word (codes "retry pending") refl) (behind-space partition.0)) (behind-space n)
cause (Block block) = append (codes "retry block ") (decimal block) (word (codes "retry block ") refl) (number block)

pub answer : (a : Answer) → Plain (answer_text a)
answer (answered.Reply r) = append (codes "reply ") (reply_words r) (word (codes "reply ") refl) (reply r)
answer (answered.Ticket n) = append (codes "ticket ") (decimal n) (word (codes "ticket ") refl) (number n)
answer (answered.Retry c) = cause c
answer (answered.Stale call) = append (codes "stale ") (decimal call) (word (codes "stale ") refl) (number call)
answer answered.NotYet = word (codes "not_yet") refl
answer answered.NoSpace = word (codes "no_space") refl
answer answered.Moved = word (codes "moved") refl
answer answered.Lost = word (codes "lost") refl
answer answered.Down = word (codes "down") refl
answer answered.Idle = word (codes "idle") refl
answer answered.Stranger = word (codes "stranger") refl
answer answered.Done = word (codes "done") refl
answer answered.AlreadyDead = word (codes "already_dead") refl
answer answered.Gone = word (codes "gone") refl

-- ---- entries

expiry : (z : ℤ) → Plain (expiry_text z)
expiry (negsuc e) = append (codes " ") (signed_decimal (negsuc e)) (word (codes " ") refl) (signed (negsuc e))
expiry (pos e) = by (e == 0)
  where
    by : (b : Bool) → Plain (if b then [] else codes " " ++ signed_decimal (pos e))
    by true = none
    by false = append (codes " ") (signed_decimal (pos e)) (word (codes " ") refl) (signed (pos e))

stored : (front : List ℕ) (z : ℤ) (bytes : List ℕ) → Plain front → Plain (stored_text front z bytes)
stored front z bytes plain =
    append (front ++ codes " " ++ value_text bytes) (expiry_text z)
    (append (front ++ codes " ") (value_text bytes) (append front (codes " ") plain (word (codes " ") refl)) (value bytes)) (expiry z)

flagged : (name key : List ℕ) (flags : ℕ) → Plain name → Plain key → Plain (flagged_text name key flags)
flagged name key flags first plain = append (name ++ key) (spaced_number flags) (append name key first plain) (behind-space flags)

-- an act of a key without a line end
act : (a : Act) → Plain (key_of a) → Plain (act_text a)
act (Get key) plain = append (codes "get ") key (word (codes "get ") refl) plain
act (Set key flags z bytes) plain = stored (flagged_text (codes "set ") key flags) z bytes (flagged (codes "set ") key flags (word (codes "set ") refl) plain)
act (Add key flags z bytes) plain = stored (flagged_text (codes "add ") key flags) z bytes (flagged (codes "add ") key flags (word (codes "add ") refl) plain)
act (Replace key flags z bytes) plain = stored (flagged_text (codes "replace ") key flags) z bytes
    (flagged (codes "replace ") key flags (word (codes "replace ") refl) plain)
act (Cas key flags z cas bytes) plain =
    stored (flagged_text (codes "cas ") key flags ++ spaced_number cas) z bytes
    (append (flagged_text (codes "cas ") key flags) (spaced_number cas) (flagged (codes "cas ") key flags (word (codes "cas ") refl) plain) (behind-space cas))
act (Delete key) plain = append (codes "delete ") key (word (codes "delete ") refl) plain
act (Touch key z) plain =
    append (codes "touch " ++ key) (codes " " ++ signed_decimal z) (append (codes "touch ") key (word (codes "touch ") refl) plain)
    (append (codes " ") (signed_decimal z) (word (codes " ") refl) (signed z))
act (Append key bytes) plain = stored (codes "append " ++ key) (pos 0) bytes (append (codes "append ") key (word (codes "append ") refl) plain)
act (Prepend key bytes) plain = stored (codes "prepend " ++ key) (pos 0) bytes (append (codes "prepend ") key (word (codes "prepend ") refl) plain)
act (Incr key by) plain = append (codes "incr " ++ key) (spaced_number by) (append (codes "incr ") key (word (codes "incr ") refl) plain) (behind-space by)
act (Decr key by) plain = append (codes "decr " ++ key) (spaced_number by) (append (codes "decr ") key (word (codes "decr ") refl) plain) (behind-space by)

moment : (t : ℕ) → Plain (moment_text t)
moment t = by (t == 0)
  where
    by : (b : Bool) → Plain (if b then [] else codes " @" ++ decimal t)
    by true = none
    by false = append (codes " @") (decimal t) (word (codes " @") refl) (number t)

name : (caller call t : ℕ) → Plain (name_text caller call t)
name caller call t =
    append (codes "= " ++ decimal caller ++ (codes "." ++ decimal call) ++ moment_text t) (codes " ")
    (append (codes "= " ++ decimal caller ++ (codes "." ++ decimal call)) (moment_text t)
    (append (codes "= " ++ decimal caller) (codes "." ++ decimal call) (append (codes "= ") (decimal caller) (word (codes "= ") refl) (number caller))
    (append (codes ".") (decimal call) (word (codes ".") refl) (number call))) (moment t)) (word (codes " ") refl)

pub entry : (e : Entry) → Plain (key_of e.op.act) → Plain (entry_text e)
entry e plain =
    append (name_text e.caller e.call e.op.moment ++ act_text e.op.act ++ codes " ") (reply_words e.reply)
    (append (name_text e.caller e.call e.op.moment ++ act_text e.op.act) (codes " ")
    (append (name_text e.caller e.call e.op.moment) (act_text e.op.act) (name e.caller e.call e.op.moment) (act e.op.act plain)) (word (codes " ") refl))
    (reply e.reply)

-- ---- places and looks

pub place : (d n : ℕ) (run : Run) → Plain (place_text d n run)
place d n run =
    append (codes "place" ++ spaced_number d ++ spaced_number n ++ spaced_number run.at) (spaced_number run.len)
    (append (codes "place" ++ spaced_number d ++ spaced_number n) (spaced_number run.at)
    (append (codes "place" ++ spaced_number d) (spaced_number n) (append (codes "place") (spaced_number d) (word (codes "place") refl) (behind-space d))
    (behind-space n)) (behind-space run.at)) (behind-space run.len)

commas : (ns : List ℕ) → Plain (behind_commas ns)
commas [] = none
commas (n ∷ ns) = append (codes "," ++ decimal n) (behind_commas ns) (append (codes ",") (decimal n) (word (codes ",") refl) (number n)) (commas ns)

stamp : (ns : List ℕ) → Plain (stamp_text ns)
stamp [] = none
stamp (n ∷ ns) = append (decimal n) (behind_commas ns) (number n) (commas ns)

pub shown : (ns bytes : List ℕ) → Plain (shown_text ns bytes)
shown ns bytes =
    append (codes "shown " ++ stamp_text ns ++ codes " ") (value_text bytes)
    (append (codes "shown " ++ stamp_text ns) (codes " ") (append (codes "shown ") (stamp_text ns) (word (codes "shown ") refl) (stamp ns))
    (word (codes " ") refl)) (value bytes)

-- the words of other lines
pub drained : Plain (codes "drained ")
drained = word (codes "drained ") refl

pub placed : Plain (codes "placed ")
placed = word (codes "placed ") refl

pub down : Plain (codes "down")
down = word (codes "down") refl

pub lost : Plain (codes "lost")
lost = word (codes "lost") refl
