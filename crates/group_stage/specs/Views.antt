-- What a seat knows, as it changes with the seat's steps.
use Rattle.std.specs.Prelude.{ℕ, ◌+◌, ◌-◌, ◌==◌, List, [], ◌∷◌, ◌++◌, length, map, if◌then◌else◌}
use Rattle.group_types.specs.Dimensions.{Dimensions}
use Rattle.group_types.specs.declared.process.ProcessId.TheVariants.{DataNode}
use Rattle.group_calls.specs.declared.event.Event.{Event}
use Rattle.group_calls.specs.declared.event.Event.TheVariants.{Flush}
use Rattle.group_run.specs.Locality.{occurrences}
use Rattle.group_node.specs.Standing.{NodeStanding}
use Rattle.group_stage.specs.Schedules.{answer_at, ask_by, standing_at}
use Rattle.group_stage.specs.declared.view.Numbered.{Numbered}
use Rattle.group_stage.specs.declared.view.View.{View}

-- the view of a seat that has not called, with this many parts
abbrev pub blank : Dimensions → ℕ → ℕ → ℕ → View
blank s parts pens next = record {
  shape = s;
  parts = parts;
  pens = pens;
  next = next;
  numbers = [];
  calls = 0;
  call = Flush (DataNode 0);
  due = 0;
  held = [];
  met = [];
  cleared = [];
  made = [];
  seen = [];
}

-- the view of a seat that was joined to another
abbrev pub empty_view : View
empty_view = blank (record { k = 1; m = 0; blocks = 1; block = 16 }) 0 0 0

-- a call begins
abbrev pub begun : Event → View → View
begun e v = record v { call = e; calls = v.calls + 1; due = 1 }

-- a process's word was free, and its node is held
abbrev pub with_node_held : View → ℕ → NodeStanding → View
with_node_held v p y = record v { held = (p, y) ∷ v.held }

-- a process's word was held, so that the call ends
abbrev pub with_met : View → ℕ → View
with_met v p = record v { met = v.met ++ p ∷ []; due = 0 }

-- the nodes that are held, after a schedule
abbrev pub nodes_held_at : Dimensions → List Event → List (ℕ × NodeStanding) → List (ℕ × NodeStanding)
nodes_held_at s es held = map (λ h. (h.0, standing_at s es h.0)) held

-- the call becomes the event behind this schedule
abbrev pub committed : List Event → View → View
committed es v = record v {
  due = 0;
  held = nodes_held_at v.shape (es ++ v.call ∷ []) v.held;
  made = v.made ++ record { number = length es; event = v.call; answer = answer_at v.shape es v.call } ∷ [];
  seen = es ++ v.call ∷ [];
}

-- all but the node that was taken last
abbrev pub held_rest : List (ℕ × NodeStanding) → List (ℕ × NodeStanding)
held_rest [] = []
held_rest (h ∷ hs) = hs

-- the node that was taken last is free again, and its word was found so
abbrev pub released : View → ℕ → ℕ → View
released v p found = record v { held = held_rest v.held; cleared = v.cleared ++ (p, found - 1) ∷ [] }

-- the caller number is drawn
abbrev pub numbered : View → ℕ → View
numbered v n = record v { numbers = n ∷ []; next = n + 1 }

-- a seat keeps one part, and the rest goes to a new one, which is to draw the next number
abbrev pub kept_part : View → View
kept_part v = record v { parts = 1; pens = 0 }

abbrev pub new_part : View → View
new_part v = blank v.shape (v.parts - 1) v.pens v.next

-- two views as one
abbrev pub joined_views : View → View → View
joined_views v w = record {
  shape = v.shape;
  parts = v.parts + w.parts;
  pens = v.pens + w.pens;
  next = if v.pens == 0 then w.next else v.next;
  numbers = v.numbers ++ w.numbers;
  calls = v.calls + w.calls;
  call = v.call;
  due = v.due + w.due;
  held = v.held ++ w.held;
  met = v.met ++ w.met;
  cleared = v.cleared ++ w.cleared;
  made = v.made ++ w.made;
  seen = v.seen;
}

-- how often a process's word was met held
abbrev pub met_of : ℕ → View → ℕ
met_of p v = occurrences p v.met

-- how far a process's word stood above 1 where it was released
abbrev pub tally : ℕ → List (ℕ × ℕ) → ℕ
tally p [] = 0
tally p (x ∷ xs) = (if x.0 == p then x.1 else 0) + tally p xs

abbrev pub cleared_of : ℕ → View → ℕ
cleared_of p v = tally p v.cleared

-- how many nodes of a process are held
abbrev pub holding : ℕ → View → ℕ
holding p v = occurrences p (map (λ h. h.0) v.held)

-- how many events have this number
abbrev pub times_numbered : ℕ → List Numbered → ℕ
times_numbered k made = occurrences k (map (λ x. x.number) made)

-- how many of the events are asks of this caller
abbrev pub asks_by : ℕ → List Numbered → ℕ
asks_by c [] = 0
asks_by c (x ∷ xs) = ask_by c x.event + asks_by c xs
