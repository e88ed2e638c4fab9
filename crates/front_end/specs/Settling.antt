-- What the first request that waits needs next, and what is written once that ended.
use Rattle.std.specs.Prelude.{ℕ, ◌≡◌, ◌∷◌, Bool, true, false, not, List, [], Option, if◌then◌else◌}
use Rattle.edge_io.specs.Moving.{Appends}
use Rattle.memc_table.specs.Act.{key_of}
use Rattle.memc_table.specs.Asked.{Asked}
use Rattle.memc_table.specs.declared.act.Act.{Act}
use Rattle.memc_table.specs.declared.act.Act.TheVariants as act
use Rattle.group_types.specs.declared.process.ProcessId.{ProcessId}
use Rattle.memc_proto.specs.Text.{end_text}
use Rattle.memc_proto.specs.declared.end.CallEnd.{CallEnd}
use Rattle.memc_proto.specs.declared.request.Request.{Request}
use Rattle.memc_proto.specs.declared.request.Request.TheVariants.{Get, Change, Version, Quit, Fail, Refused}
use Rattle.front_end.specs.Progress.{behind}
use Rattle.front_end.specs.Turns.{IsMoment, is_reply, last_text, response_text}
use Rattle.front_end.specs.declared.due.Due.{Due}
use Rattle.front_end.specs.declared.due.Due.TheVariants as due

-- what is due is a call of this act, at a moment of the clock
abbrev pub IsCallDue : Option ℕ → Act → Due → Type 0
IsCallDue told asked (due.Call op) = (op.act ≡ asked) × IsMoment told op.moment
IsCallDue told asked (due.Fail _ _) = ⊥
IsCallDue told asked due.Text = ⊥

-- what a request needs next: of a get the call on its first key
abbrev pub IsDueOf : Option ℕ → Request → Due → Type 0
IsDueOf told (Get [] _) next = next ≡ due.Text
IsDueOf told (Get (key ∷ _) _) next = IsCallDue told (act.Get key) next
IsDueOf told (Change asked _) next = IsCallDue told asked next
IsDueOf told (Fail at keep) next = next ≡ due.Fail at keep
IsDueOf told Version next = next ≡ due.Text
IsDueOf told Quit next = next ≡ due.Text
IsDueOf told (Refused _) next = next ≡ due.Text

-- what the first of the requests that wait needs next
abbrev pub IsDue : Option ℕ → List Request → Due → Type 0
IsDue told [] _ = ⊥
IsDue told (request ∷ _) next = IsDueOf told request next

-- a call is due, an order is, or only a text
abbrev pub CallIsDue : List Request → Type 0
CallIsDue waiting = (told : Option ℕ) × (op : Asked) × IsDue told waiting (due.Call op)

abbrev pub OrderIsDue : List Request → Type 0
OrderIsDue waiting = (told : Option ℕ) × (at : ProcessId) × (keep : ℕ) × IsDue told waiting (due.Fail at keep)

abbrev pub TextIsDue : List Request → Type 0
TextIsDue waiting = (told : Option ℕ) × IsDue told waiting due.Text

-- the text of a request whose next call ended so
abbrev pub settled_text : CallEnd → Request → List ℕ
settled_text end (Get [] _) = []
settled_text end (Get (key ∷ []) with_cas) = last_text key with_cas end
settled_text end (Get (key ∷ _ ∷ _) with_cas) = end_text key with_cas end
settled_text end (Change asked noreply) = if noreply then [] else end_text (key_of asked) false end
settled_text end (Fail _ _) = []
settled_text end Version = []
settled_text end Quit = []
settled_text end (Refused _) = []

-- whether the whole of a request is answered once its next call ended so: a get of more keys goes on behind a reply
abbrev pub is_last : CallEnd → Request → Bool
is_last end (Get (_ ∷ _ ∷ _) _) = not (is_reply end)
is_last end (Get (_ ∷ []) _) = true
is_last end (Get [] _) = true
is_last end (Change _ _) = true
is_last end (Fail _ _) = true
is_last end Version = true
is_last end Quit = true
is_last end (Refused _) = true

-- the text of the first of the requests that wait, whose next call ended so
abbrev pub first_text : CallEnd → List Request → List ℕ
first_text end [] = []
first_text end (request ∷ _) = settled_text end request

-- the call that was due ended so: its text is written, and these wait
abbrev pub HasSettledDue : CallEnd → List ℕ → List ℕ → List Request → List Request → Type 0
HasSettledDue end before now [] left = ⊥
HasSettledDue end before now (request ∷ others) left =
    Appends before now (settled_text end request) × (left ≡ (if is_last end request then others else behind 1 request ∷ others))

-- the text of the first of the requests that wait, which needs no call
abbrev pub own_text : List Request → List ℕ
own_text [] = []
own_text (request ∷ _) = response_text request []

-- the first of the requests that waited is answered by this text
abbrev pub HasTold : List ℕ → List ℕ → List ℕ → List Request → List Request → Type 0
HasTold text before now [] left = ⊥
HasTold text before now (_ ∷ others) left = Appends before now text × (left ≡ others)
