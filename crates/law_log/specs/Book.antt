-- A run with the calls whose updates were issued, and its turns so far.
use Rattle.std.specs.Prelude.{Bool, true, false, List, [], ◌∷◌, ◌++◌, Option, Some, None}
use Rattle.group_types.specs.Dimensions.{Dimensions}
use Rattle.group_calls.specs.Turns.{Turn}
use Rattle.group_calls.specs.declared.event.Answer.{Answer}
use Rattle.group_calls.specs.declared.event.Event.{Event}
use Rattle.group_run.specs.History.{History, no_history, prolonged}
use Rattle.group_run.specs.World.{AskedCall, call_of, group_step, is_issued, step}

-- a history, the calls whose updates were issued, in order, and the turns
pub record Book : Type 0 where
  pub history : History
  pub issued : List AskedCall
  pub turns : List Turn

-- a call, if its update was issued
abbrev pub call_if : Bool → AskedCall → List AskedCall
call_if true c = c ∷ []
call_if false c = []

-- the call of an event, if the answer says that its update was issued
abbrev pub issued_by : Option AskedCall → Answer → List AskedCall
issued_by None answer = []
issued_by (Some c) answer = call_if (is_issued answer) c

-- the book that an event prolongs
abbrev pub booked : Book → Event → Book
booked b e = record {
  history = prolonged b.history e;
  issued = b.issued ++ issued_by (call_of b.history.world e) (group_step b.history.world e).answer;
  turns = b.turns ++ (step b.history.world e).turn ∷ [];
}

-- the book at the start of a group
abbrev pub no_book : Dimensions → Book
no_book s = record { history = no_history s; issued = []; turns = [] }

-- the book after events, in order
abbrev pub book_from : Book → List Event → Book
book_from b [] = b
book_from b (e ∷ es) = book_from (booked b e) es

-- the book of a run
abbrev pub book_of : Dimensions → List Event → Book
book_of s es = book_from (no_book s) es
