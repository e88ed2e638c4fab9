-- How an item is read by its partition and its key.
use Rattle.std.specs.Prelude.{ℕ, ◌≡◌, true, List, Option, Some, None}
use Rattle.group_types.specs.declared.process.ProcessId.{ProcessId}
use Rattle.memc_table.specs.declared.act.Act.TheVariants.{Get}
use Rattle.memc_table.specs.declared.reply.Reply.TheVariants as reply
use Rattle.group_calls.specs.declared.event.Answer.{Answer}
use Rattle.group_calls.specs.declared.event.Answer.TheVariants as says
use Rattle.group_calls.specs.declared.event.Event.{Event}
use Rattle.group_calls.specs.declared.event.Event.TheVariants.{Ask}
use Rattle.group_run.specs.World.{World, step}
use Rattle.group_eras.specs.Carry.{Getting, get_with, is_retry}
use Rattle.group_eras.specs.Eras.{carrier}
use Rattle.group_eras.specs.Items.{head_of}

-- the get of a key at a process, and at the head of its partition
abbrev pub get_at : List ℕ → ProcessId → Event
get_at key p = Ask carrier (record { moment = 0; act = Get key }) p

abbrev pub get_on : World → ℕ → List ℕ → Event
get_on w d key = get_at key (head_of w d)

-- what an event makes that is asked again where it is told to
abbrev pub tried : World → Event → Getting
tried w get = get_with w.shape.blocks get (step w get)

abbrev pub got_on : World → ℕ → List ℕ → Getting
got_on w d key = tried w (get_on w d key)

-- the value that an answer has
abbrev pub value_found : Answer → Option (List ℕ)
value_found (says.Reply (reply.Value item)) = Some item.value
value_found _ = None

-- the value, or none where the call has to be asked again
pub record IsValueFound (answer : Answer) (value : Option (List ℕ)) : Type 0 where
  pub value_is : value ≡ value_found answer
  pub again : value ≡ None → is_retry answer ≡ true
