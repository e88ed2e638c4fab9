-- The requests of a connection with the calls that were made for them, and the text of both.
use Rattle.std.specs.Prelude.{ℕ, ◌≡◌, ◌≤◌, ◌^◌, Bool, true, false, List, [], ◌∷◌, ◌++◌, map, Option, IfSome, MatchBool, ⊤, if◌then◌else◌}
use Rattle.group_types.specs.declared.process.ProcessId.{ProcessId}
use Rattle.memc_table.specs.Act.{key_of}
use Rattle.memc_table.specs.declared.act.Act.{Act}
use Rattle.memc_table.specs.declared.act.Act.TheVariants as act
use Rattle.memc_proto.specs.Text.{end_text, fail_text, refusal_text, version_text, end_of_items}
use Rattle.memc_proto.specs.declared.end.CallEnd.{CallEnd}
use Rattle.memc_proto.specs.declared.end.CallEnd.TheVariants.{Reply}
use Rattle.memc_proto.specs.declared.request.Request.{Request}
use Rattle.memc_proto.specs.declared.request.Request.TheVariants.{Get, Change, Version, Quit, Fail, Refused}
use Rattle.front_end.specs.Calls.{Call, Made, Failed}

-- a call that a request makes
pub data Due : Type 0 where
  Acts : Act → Due
  Fails : ProcessId → ℕ → Due

-- the calls that a request makes, in order: a get makes one for each key
abbrev pub dues_of : Request → List Due
dues_of (Get keys _) = map (λ key. Acts (act.Get key)) keys
dues_of (Change asked _) = Acts asked ∷ []
dues_of (Fail at keep) = Fails at keep ∷ []
dues_of Version = []
dues_of Quit = []
dues_of (Refused _) = []

-- a moment of the clock: the one that it tells, if it tells one
abbrev pub IsMoment : Option ℕ → ℕ → Type 0
IsMoment told moment = (moment ≤ 2 ^ 62) × IfSome told (λ t. moment ≡ t)

-- the call is the one that is due, at a moment of the clock
abbrev pub IsDueCall : Option ℕ → Due → Call → Type 0
IsDueCall told (Acts asked) (Made op _) = (op.act ≡ asked) × IsMoment told op.moment
IsDueCall told (Acts _) (Failed _ _ _) = ⊥
IsDueCall told (Fails _ _) (Made _ _) = ⊥
IsDueCall told (Fails at keep) (Failed process kept _) = (process ≡ at) × (kept ≡ keep)

-- whether a call ended by a reply
abbrev pub is_reply : CallEnd → Bool
is_reply (Reply _) = true
is_reply _ = false

abbrev pub is_replied : Call → Bool
is_replied (Made _ end) = is_reply end
is_replied (Failed _ _ _) = false

-- the calls are those that are due, up to the first that didn't end by a reply: all of them, or the first
abbrev pub AreCallsOf : Option ℕ → Bool → List Due → List Call → Type 0
AreCallsOf told all [] [] = ⊤
AreCallsOf told all [] (_ ∷ _) = ⊥
AreCallsOf told all (_ ∷ _) [] = all ≡ false
AreCallsOf told all (due ∷ dues) (call ∷ calls) = IsDueCall told due call × MatchBool (is_replied call) (AreCallsOf told all dues calls) (calls ≡ [])

-- what is due behind calls that were made: nothing behind one that didn't end by a reply
abbrev pub dues_behind : List Due → List Call → List Due
dues_behind dues [] = dues
dues_behind [] (_ ∷ _) = []
dues_behind (_ ∷ dues) (call ∷ calls) = if is_replied call then dues_behind dues calls else []

-- the text of a call on a key of a get
abbrev pub key_text : Bool → List ℕ → Call → List ℕ
key_text with_cas key (Made _ end) = end_text key with_cas end
key_text with_cas key (Failed _ _ _) = []

-- the text of a get, as far as its calls were made: the items found, and `END` behind the last key, but not
-- behind a call that ended otherwise than by a reply
abbrev pub get_text : Bool → List (List ℕ) → List Call → List ℕ
get_text with_cas [] _ = end_of_items
get_text with_cas (_ ∷ _) [] = []
get_text with_cas (key ∷ keys) (call ∷ calls) = key_text with_cas key call ++ (if is_replied call then get_text with_cas keys calls else [])

-- the text of the call on the last key of a get, and what stands behind it
abbrev pub last_text : List ℕ → Bool → CallEnd → List ℕ
last_text key with_cas end = end_text key with_cas end ++ (if is_reply end then end_of_items else [])

-- the text of a call that may change an item, once it was made
abbrev pub change_text : Act → Bool → List Call → List ℕ
change_text asked noreply (Made _ end ∷ _) = if noreply then [] else end_text (key_of asked) false end
change_text asked noreply _ = []

-- the text of the order that a process fail, once it was made
abbrev pub fail_answer : List Call → List ℕ
fail_answer (Failed _ _ end ∷ _) = fail_text end
fail_answer _ = []

-- the text of the answer to a request, as far as its calls were made
abbrev pub response_text : Request → List Call → List ℕ
response_text (Get keys with_cas) calls = get_text with_cas keys calls
response_text (Change asked noreply) calls = change_text asked noreply calls
response_text Version _ = version_text
response_text Quit _ = []
response_text (Fail _ _) calls = fail_answer calls
response_text (Refused refusal) _ = refusal_text refusal

-- a request that was answered, and the calls made for it
pub record Exchange : Type 0 where
  pub request : Request
  pub calls : List Call

-- all calls that are due were made, in each turn
abbrev pub AreWhole : Option ℕ → List Exchange → Type 0
AreWhole told [] = ⊤
AreWhole told (turn ∷ turns) = AreCallsOf told true (dues_of turn.request) turn.calls × AreWhole told turns

-- the calls of turns, one after the other
abbrev pub calls_in : List Exchange → List Call
calls_in [] = []
calls_in (turn ∷ turns) = turn.calls ++ calls_in turns

-- the text of turns
abbrev pub exchanges_text : List Exchange → List ℕ
exchanges_text [] = []
exchanges_text (turn ∷ turns) = response_text turn.request turn.calls ++ exchanges_text turns

-- the requests of turns
abbrev pub requests_in : List Exchange → List Request
requests_in turns = map (λ turn. turn.request) turns
