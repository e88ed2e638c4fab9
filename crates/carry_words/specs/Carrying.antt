-- Items on their way, and what each event makes of them.
use Rattle.std.specs.Prelude.{ℕ, ◌+◌, ◌-◌, ◌^◌, ◌==◌, nat_lt, min, Bool, ◌&&◌, List, length, replicate, slice_index_or}
use Rattle.std.specs.Prelude.{slice_set, Option, Some, None, if◌then◌else◌}
use Rattle.std.specs.List.{list_all}
use Rattle.std.specs.Option.{is_none}
use Rattle.carry_words.specs.Courses.{course_of}
use Rattle.carry_words.specs.declared.course.CarryFault.{CarryFault}
use Rattle.carry_words.specs.declared.course.CarryFault.TheVariants.{Misplaced}
use Rattle.carry_words.specs.declared.course.Course.{Course}
use Rattle.carry_words.specs.declared.course.Course.TheVariants.{Goes, Carried, Gone, Fails}
use Rattle.carry_words.specs.declared.heard.Heard.{Heard}
use Rattle.carry_words.specs.declared.listed.Listed.{Listed}
use Rattle.carry_words.specs.declared.stage.Stage.TheVariants.{Unread}
use Rattle.carry_words.specs.declared.transfer.Transfer.{Transfer}

-- items on their way at places, how many lists of items aren't at their ends, how many items are carried, how many had ended, and
-- why items can't be carried
pub record Carrying : Type 0 where
  pub places : List (Option Transfer)
  pub lists : ℕ
  pub carried : ℕ
  pub gone : ℕ
  pub fault : Option CarryFault

abbrev pub fresh : ℕ → ℕ → Carrying
fresh count lists = record { places = replicate count None; lists = lists; carried = 0; gone = 0; fault = None }

abbrev pub place_at : ℕ → List (Option Transfer) → Option Transfer
place_at at places = slice_index_or places at None

-- there is such a place, and no item at it
abbrev pub is_free_place : ℕ → List (Option Transfer) → Bool
is_free_place at places = nat_lt at (length places) && is_none (place_at at places)

abbrev pub are_free : List (Option Transfer) → Bool
are_free places = list_all is_none places

abbrev pub with_place : ℕ → Option Transfer → Carrying → Carrying
with_place at place c = record { places = slice_set c.places at place; lists = c.lists; carried = c.carried; gone = c.gone; fault = c.fault }

abbrev pub failed : CarryFault → Carrying → Carrying
failed fault c = record { places = c.places; lists = c.lists; carried = c.carried; gone = c.gone; fault = Some fault }

-- one more, of at most 2^64 - 1
abbrev pub next : ℕ → ℕ
next n = min (n + 1) (2 ^ 64 - 1)

-- an item was listed, and has this place
abbrev pub listed_at : ℕ → Listed → Carrying → Carrying
listed_at at item c = if is_free_place at c.places then with_place at (Some (record { item = item; stage = Unread })) c else failed Misplaced c

-- a list was read to its end
abbrev pub listed_out : Carrying → Carrying
listed_out c = record { places = c.places; lists = c.lists - 1; carried = c.carried; gone = c.gone; fault = c.fault }

-- something became of the item that was at a place
abbrev pub settled : ℕ → Course → Carrying → Carrying
settled at (Goes t) c = with_place at (Some t) c
settled at Carried c = record { places = c.places; lists = c.lists; carried = next c.carried; gone = c.gone; fault = c.fault }
settled at Gone c = record { places = c.places; lists = c.lists; carried = c.carried; gone = next c.gone; fault = c.fault }
settled at (Fails fault) c = failed fault c

abbrev pub met : ℕ → ℕ → Heard → Option Transfer → Carrying → Carrying
met now at h None c = failed Misplaced c
met now at h (Some t) c = settled at (course_of now t h) c

-- something was heard of the item at a place
abbrev pub heard_at : ℕ → ℕ → Heard → Carrying → Carrying
heard_at now at h c = met now at h (place_at at c.places) (with_place at None c)

-- each item that was listed is carried, or has ended
abbrev pub is_done : Carrying → Bool
is_done c = (c.lists == 0) && (is_none c.fault && are_free c.places)
