-- What becomes of an item on its way, by what was heard of it.
use Rattle.std.specs.Prelude.{ℕ, ◌+◌, ◌-◌, ◌^◌, min, not, Bool, List, Option, if◌then◌else◌}
use Rattle.std.specs.Str.{bytes_eq}
use Rattle.memc_table.specs.Expiry.{is_live}
use Rattle.carry_words.specs.declared.course.Course.{Course}
use Rattle.carry_words.specs.declared.course.Course.TheVariants.{Goes, Carried, Gone, Fails}
use Rattle.carry_words.specs.declared.course.CarryFault.TheVariants.{Lost, Changed, Differs}
use Rattle.carry_words.specs.declared.heard.Heard.{Heard}
use Rattle.carry_words.specs.declared.heard.Heard.TheVariants as heard
use Rattle.carry_words.specs.declared.listed.Listed.{Listed}
use Rattle.carry_words.specs.declared.stage.Stage.{Stage}
use Rattle.carry_words.specs.declared.stage.Stage.TheVariants.{Unread, Read, Stored}
use Rattle.carry_words.specs.declared.transfer.Transfer.{Transfer}

-- an item with this until has ended by a moment
abbrev pub has_ended : ℕ → Option ℕ → Bool
has_ended now until = not (is_live now until)

-- a clock may be so many seconds behind that of a member
abbrev pub most_behind : ℕ
most_behind = 60

abbrev pub goes : Listed → Stage → Course
goes item stage = Goes (record { item = item; stage = stage })

-- an item isn't there: that is right once it has ended, and it is asked again where it is about to
abbrev pub missed : ℕ → Listed → Stage → Course
missed now item stage =
    if has_ended now item.until then Gone
    else (if has_ended (min (now + most_behind) (2 ^ 64 - 1)) item.until then goes item stage else Fails Lost)

-- what was heard of an item in the old group
abbrev pub read : ℕ → Listed → Heard → Course
read now item (heard.Found value) = goes item (Read value)
read now item heard.Missing = missed now item Unread
read now item heard.Other = Fails Changed
read now item _ = goes item Unread

-- what was heard of its set in the new group
abbrev pub set : Listed → List ℕ → Heard → Course
set item value heard.Stored = goes item (Stored value)
set item value _ = goes item (Read value)

-- what was heard of it there, once it was set
abbrev pub checked : ℕ → Listed → List ℕ → Heard → Course
checked now item value (heard.Found back) = if bytes_eq back value then Carried else Fails Differs
checked now item value heard.Missing = missed now item (Stored value)
checked now item value heard.Other = Fails Differs
checked now item value _ = goes item (Stored value)

-- the same by how far it has come
abbrev pub by_stage : ℕ → Listed → Stage → Heard → Course
by_stage now item Unread h = read now item h
by_stage now item (Read value) h = set item value h
by_stage now item (Stored value) h = checked now item value h

abbrev pub course_of : ℕ → Transfer → Heard → Course
course_of now t h = by_stage now t.item t.stage h
