-- What a member tests of a message that comes, whole: a member that hasn't failed meets none that fails the test.
use Rattle.std.specs.Prelude.{◌≡◌, ◌≢◌, ◌≤◌, false, ⊤, List, ◌∷◌}
use Rattle.group_types.specs.Dimensions.{Dimensions}
use Rattle.group_types.specs.Each.{Each}
use Rattle.group_types.specs.Names.{IsProcess}
use Rattle.group_types.specs.declared.process.ProcessId.{ProcessId}
use Rattle.membership.specs.Members.{count_known_dead, with_dead}
use Rattle.group_message.specs.declared.message.Message.{Message}
use Rattle.group_message.specs.declared.message.Message.TheVariants as tells
use Rattle.group_run.specs.Fitting.{Fits}
use Rattle.group_run.specs.Process.{Process}
use Rattle.group_run.specs.Rows.{parity_number}
use Rattle.law_answers.specs.Deliveries.{IsFor}
use Rattle.group_wire.specs.Actions.{Action, Receive, Take}
use Rattle.group_wire.specs.Composed.{AreActions, Composed, composed}
use Rattle.group_wire.specs.Composition.{HasNotFailed}
use Rattle.group_wire.specs.May.{MayAct}

-- by a notice a process learns of no more than m dead, and a mark for a session of its own is for one that it has started
abbrev pub IsOfGroupUp : Dimensions → Message → Process → Type 0
IsOfGroupUp s (tells.Notice dead) p = count_known_dead (with_dead p.known dead) ≤ s.m
IsOfGroupUp s (tells.Mark session r block d n) p = parity_number session.leader ≡ parity_number p.name → session.number ≤ p.as_leader.last_session
IsOfGroupUp s _ p = ⊤

-- a message passes: it fits what the process holds, its kind is for the process, and it comes as in a group that isn't down
pub record IsNoMisfit (s : Dimensions) (from : ProcessId) (m : Message) (p : Process) : Type 0 where
  pub fits : Fits s from m p
  pub kind : IsFor p.name m
  pub group : IsOfGroupUp s m p

-- all passes that a member may receive, and each notice that it may take; and no notice stands on a wire that it reads
pub record MeetsNoMisfit (s : Dimensions) (c : Composed) (p : ProcessId) : Type 0 where
  pub received : (x : ProcessId) (m : Message) (rest : List Message) → MayAct c.group (Receive x p) → c.group.works.messages x p ≡ m ∷ rest
      → IsNoMisfit s x m (c.group.works.process p)
  pub taken : (x : ProcessId) → MayAct c.group (Take x p) → IsNoMisfit s x (tells.Notice x) (c.group.works.process p)
  pub plain : (x : ProcessId) → IsProcess s x → x ≢ p → c.group.words.cut p x ≡ false
      → Each (λ m. (dead : ProcessId) → m ≢ tells.Notice dead) (c.group.works.messages x p)

abbrev pub NoMisfitsAtAll : Type 0
NoMisfitsAtAll = (s : Dimensions) (actions : List Action) (p : ProcessId) → AreActions s actions → HasNotFailed (composed s actions) p
    → MeetsNoMisfit s (composed s actions) p
