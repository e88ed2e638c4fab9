-- What may be made in the course of a carry, and what comes of it.
use Rattle.std.specs.Prelude.{ℕ, ◌≡◌, ◌<◌, ◌≤◌, ◌+◌, ◌^◌, List, [], ◌∷◌, length, Option, Some, None}
use Rattle.group_types.specs.Dimensions.{Dimensions}
use Rattle.group_types.specs.Each.{Each}
use Rattle.memc_table.specs.declared.reply.Reply.TheVariants as reply
use Rattle.group_calls.specs.declared.event.Answer.{Answer}
use Rattle.group_calls.specs.declared.event.Answer.TheVariants as says
use Rattle.group_run.specs.Headline.{IsRunFrom}
use Rattle.group_run.specs.Meaning.{count_logged}
use Rattle.group_run.specs.World.{World, opening}
use Rattle.group_eras.specs.Carry.{got, reading, setting}
use Rattle.group_eras.specs.Eras.{Eras}
use Rattle.group_eras.specs.Items.{Load, loads}
use Rattle.group_eras.specs.Promise.{IsLed}
use Rattle.group_eras.specs.Refusal.{CanCarry, IsAtRest, IsSuccessor}

-- the answer has the item that is settled
abbrev pub HasItem : Load → Answer → Type 0
HasItem x (says.Reply (reply.Value item)) = (item.flags ≡ x.slot.flags) × (length item.value ≡ x.slot.len)
HasItem x _ = ⊥

-- each get has it in the end
abbrev pub AreGot : World → List Load → Type 0
AreGot w [] = Unit {0}
AreGot w (x ∷ xs) = HasItem x (got w x).answer × AreGot (got w x).world xs

abbrev pub ItemsAreGot : Type 0
ItemsAreGot = (e : Eras) → IsLed e → IsAtRest e.world → AreGot e.world (loads e.world)

-- the events that read may come in the old group, and those that set in the new one
abbrev pub ReadsMayCome : Type 0
ReadsMayCome = (e : Eras) → IsLed e → IsAtRest e.world → IsRunFrom e.world (reading e.world).events

abbrev pub SetsMayCome : Type 0
SetsMayCome = (e : Eras) (s : Dimensions) → IsLed e → IsSuccessor e.world s → CanCarry e.world s
    → IsRunFrom (opening s) (setting (opening s) (reading e.world).parcels)

-- an item's until is one that an exptime of 64 bits can ask for
abbrev pub IsLowUntil : Option ℕ → Type 0
IsLowUntil None = Unit {0}
IsLowUntil (Some until) = until < 2 ^ 63

abbrev pub UntilsAreLow : Type 0
UntilsAreLow = (e : Eras) → IsLed e → IsAtRest e.world → Each (λ x. IsLowUntil x.slot.until) (loads e.world)

-- no partition has more updates in the era's log than events were made, and no more items are carried
abbrev pub CountsAreLow : Type 0
CountsAreLow = (e : Eras) → IsLed e → (d : ℕ) → d < e.world.shape.k → count_logged e.world d ≤ e.world.events

abbrev pub LoadsAreFew : Type 0
LoadsAreFew = (e : Eras) → IsLed e → IsAtRest e.world → length (loads e.world) ≤ e.world.events

-- and in each of the two groups fewer than 2^62 events are made, where fewer than 2^58 were made before
pub record IsShortCarry (e : Eras) (s : Dimensions) : Type 0 where
  pub reads : e.world.events + length (reading e.world).events < 2 ^ 62
  pub sets : length (setting (opening s) (reading e.world).parcels) < 2 ^ 62

abbrev pub CarriesAreShort : Type 0
CarriesAreShort = (e : Eras) (s : Dimensions) → IsLed e → IsSuccessor e.world s → CanCarry e.world s → e.world.events < 2 ^ 58 → IsShortCarry e s
