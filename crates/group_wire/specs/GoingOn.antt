-- What members can still do where all that are ever cut are among at most m: the others take all their deaths, and an
-- answer that a gateway among them was told can be shown.
use Rattle.std.specs.Prelude.{ℕ, ◌≡◌, ◌≤◌, ◌++◌, true, false, List, Some}
use Rattle.group_types.specs.Dimensions.{Dimensions}
use Rattle.group_types.specs.Each.{Each}
use Rattle.group_types.specs.Names.{IsProcess}
use Rattle.group_types.specs.declared.process.ProcessId.{ProcessId}
use Rattle.group_calls.specs.declared.event.Answer.{Answer}
use Rattle.group_calls.specs.declared.event.Answer.TheVariants as says
use Rattle.group_run.specs.Asking.{ask_process}
use Rattle.group_wire.specs.Actions.{Action, Begin, Show, LetGo, Stop}
use Rattle.group_wire.specs.Composed.{AreActions, Composed, composed}
use Rattle.group_wire.specs.May.{IsCaller, IsHere, MayAct}
use Rattle.group_wire.specs.Sets.{IsSubset, Processes, size_of}
use Rattle.group_wire.specs.Shown.{Shows}
use Rattle.group_wire.specs.State.{Group, OpenCall, Told, Unasked, gateway_of}

-- all that were ever cut are named, which are at most m, and every other member is here
pub record OthersAreHere (g : Group) (named : Processes) : Type 0 where
  pub few : size_of g.shape named ≤ g.shape.m
  pub cut : (q : ProcessId) → IsSubset (g.words.cut q) named
  pub here : (q : ProcessId) → IsProcess g.shape q → named q ≡ false → IsHere g q

-- every other member has taken the deaths of all that are named
abbrev pub NamedAreTaken : Group → Processes → Type 0
NamedAreTaken g named = (p x : ProcessId) → IsProcess g.shape p → named p ≡ false → IsProcess g.shape x → named x ≡ true → g.words.taken p x ≡ true

-- what members do by themselves: no client begins a call, is shown an answer or is let go, and no program ends
abbrev pub GoesOn : Action → Type 0
GoesOn (Begin caller op) = ⊥
GoesOn (Show caller ping) = ⊥
GoesOn (LetGo caller) = ⊥
GoesOn (Stop p) = ⊥
GoesOn _ = Unit {0}

-- more of that may come, after which something holds
abbrev pub CanBe : Dimensions → List Action → (Composed → Type 0) → Type 0
CanBe s actions P = (more : List Action) × AreActions s (actions ++ more) × P (composed s (actions ++ more)) × Each GoesOn more

-- so all named deaths can be taken, with no call changed
pub record TakesNamed (before after : Group) (named : Processes) : Type 0 where
  pub others : OthersAreHere after named
  pub taken : NamedAreTaken after named
  pub gateways : after.gateways ≡ before.gateways

abbrev pub NamedCanBeTaken : Type 0
NamedCanBeTaken = (s : Dimensions) (actions : List Action) (named : Processes) → AreActions s actions → OthersAreHere (composed s actions).group named
    → CanBe s actions (λ c. TakesNamed (composed s actions).group c.group named)

-- a call that a gateway has been told the answer of, and that is among those who go on, can be shown to its client
abbrev pub CanBeShown : ℕ → OpenCall → Composed → Type 0
CanBeShown caller o c = (c.group.gateways.call caller ≡ Some o) × ((ping : ℕ) × MayAct c.group (Show caller ping))

abbrev pub ToldCanBeShown : Type 0
ToldCanBeShown = (s : Dimensions) (actions : List Action) (named : Processes) (caller : ℕ) (o : OpenCall) (t : Told) → AreActions s actions
    → OthersAreHere (composed s actions).group named → IsCaller (composed s actions).group caller → named (gateway_of s caller) ≡ false
    → Shows (composed s actions) caller o t → CanBe s actions (CanBeShown caller o)

-- an answer ends a call
abbrev pub IsEnd : Answer → Type 0
IsEnd (says.Reply reply) = Unit {0}
IsEnd says.NoSpace = Unit {0}
IsEnd _ = ⊥

-- a member answers a call at once, if it is asked for it now
pub record AnswersAtOnce (g : Group) (caller : ℕ) (o : OpenCall) (x : ProcessId) (answer : Answer) : Type 0 where
  pub asked : (ask_process g.shape (record { caller = caller; call = g.gateways.next caller }) o.op (g.works.process x)).answer ≡ answer
  pub ends : IsEnd answer

-- a client's call can be shown, as ended by an answer
pub record IsShownAs (caller : ℕ) (o : OpenCall) (answer : Answer) (c : Composed) : Type 0 where
  pub call : OpenCall
  pub told : Told
  pub op : call.op ≡ o.op
  pub tells : told.answer ≡ answer
  pub shows : Shows c caller call told
  pub ping : ℕ
  pub may : MayAct c.group (Show caller ping)

-- so can a call that is to be asked, where a member that goes on answers it at once
abbrev pub AnsweredCanBeShown : Type 0
AnsweredCanBeShown = (s : Dimensions) (actions : List Action) (named : Processes) (caller : ℕ) (o : OpenCall)
    (x : ProcessId) (answer : Answer) → AreActions s actions
    → OthersAreHere (composed s actions).group named → NamedAreTaken (composed s actions).group named
    → IsCaller (composed s actions).group caller → named (gateway_of s caller) ≡ false → IsProcess s x → named x ≡ false
    → (composed s actions).group.gateways.call caller ≡ Some o → o.stage ≡ Unasked → AnswersAtOnce (composed s actions).group caller o x answer
    → CanBe s actions (IsShownAs caller o answer)
