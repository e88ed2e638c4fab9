-- What each action makes of the members' words and processes. What a member sends goes onto the wires to those that it
-- hasn't cut, and is lost to the others.
use Rattle.std.specs.Prelude.{ℕ, List, [], ◌∷◌, ◌++◌, Option, Some, None}
use Rattle.std.specs.List.{range_with_len}
use Rattle.group_types.specs.Dimensions.{Dimensions}
use Rattle.group_types.specs.declared.process.ProcessId.{ProcessId}
use Rattle.group_message.specs.declared.message.Message.{Message}
use Rattle.group_message.specs.declared.message.Message.TheVariants as tells
use Rattle.group_run.specs.Applying.{ProcessStep, head_at}
use Rattle.group_run.specs.Asking.{CallStep, ask_process, collect_from, fate_of}
use Rattle.group_run.specs.Process.{Process}
use Rattle.group_run.specs.Receiving.{receive}
use Rattle.group_run.specs.World.{flush_process, sent_to}
use Rattle.group_wire.specs.Actions.{Action, Treat, Collect, Flush, Receive, Cut, Say, Hear, Permit, Take}
use Rattle.group_wire.specs.Sets.{Processes, changed, changed_from, either, entry_at, one_or, with_one}
use Rattle.group_wire.specs.State.{Request, AskFor, TraceOf, Words, Works, Group}

-- the wires after a frame was sent on one of them
abbrev pub sent_on : {X : Type 0} → (ProcessId → Processes) → (ProcessId → ProcessId → List X) → ProcessId → ProcessId → X → ProcessId → ProcessId → List X
sent_on cut wires p q frame = changed_from wires p q (one_or (cut p q) (wires p q) (wires p q ++ frame ∷ []))

-- the wires after frames were sent on all of a member's
abbrev pub sent_to_all : {X : Type 0} → (ProcessId → Processes) → (ProcessId → ProcessId → List X) → ProcessId → (ProcessId → List X) → ProcessId
    → ProcessId → List X
sent_to_all cut wires p frames = changed wires p (λ q. one_or (cut p q) (wires p q) (wires p q ++ frames q))

-- the set at the front of a wire is heard
abbrev pub heard_first : ProcessId → ProcessId → List Processes → Words → Words
heard_first q p [] words = words
heard_first q p (set ∷ rest) words =
    record words {
      said = changed_from words.said q p rest;
      heard = changed_from words.heard p q (either (words.heard p q) set);
    }

-- the words after an action
abbrev pub words_after : Words → Action → Words
words_after words (Cut x p) = record words { cut = changed words.cut p (with_one (words.cut p) x) }
words_after words (Say p) = record words { said = sent_to_all words.cut words.said p (λ q. words.cut p ∷ []) }
words_after words (Hear q p) = heard_first q p (words.said q p) words
words_after words (Permit p) = record words { permitted = changed words.permitted p (words.cut p) }
words_after words (Take x p) = record words { taken = changed words.taken p (with_one (words.taken p) x) }
words_after words _ = words

-- a member's process makes a step
abbrev pub stepped : (ProcessId → Processes) → ProcessId → ProcessStep → Works → Works
stepped cut p t works = record {
  process = changed works.process p t.process;
  messages = sent_to_all cut works.messages p (λ q. sent_to q t.sent);
}

-- what a process makes of a request, and what it answers
abbrev pub treating : Dimensions → Request → Process → CallStep
treating s (AskFor caller call op) p = ask_process s (record { caller = caller; call = call }) op p
treating s (TraceOf caller call d) p = record { step = record { process = p; sent = []; settled = [] }; answer = fate_of s caller call d p (head_at p d) }

-- a request is treated, if there is one
abbrev pub works_treated : Dimensions → (ProcessId → Processes) → ProcessId → Option Request → Works → Works
works_treated s cut p None works = works
works_treated s cut p (Some request) works = stepped cut p (treating s request (works.process p)).step works

-- the message at the front of a wire is received
abbrev pub works_received : Dimensions → (ProcessId → Processes) → ProcessId → ProcessId → List Message → Works → Works
works_received s cut x p [] works = works
works_received s cut x p (m ∷ rest) works = stepped cut p (receive s x m (works.process p)) (record works { messages = changed_from works.messages x p rest })

-- the request at a place among those that a member has read
abbrev pub parked_at : Group → ProcessId → ℕ → Option Request
parked_at g p place = entry_at (g.gateways.parked p) place

-- the works after an action
abbrev pub works_after : Group → Action → Works
works_after g (Treat p place) = works_treated g.shape g.words.cut p (parked_at g p place) g.works
works_after g (Collect caller call p) = stepped g.words.cut p (collect_from caller call (g.works.process p) (range_with_len 0 g.shape.k)).step g.works
works_after g (Flush p) = stepped g.words.cut p (flush_process g.shape (g.works.process p)).step g.works
works_after g (Receive x p) = works_received g.shape g.words.cut x p (g.works.messages x p) g.works
works_after g (Take x p) = stepped g.words.cut p (receive g.shape x (tells.Notice x) (g.works.process p)) g.works
works_after g _ = g.works
