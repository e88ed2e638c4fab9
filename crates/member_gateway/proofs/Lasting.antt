-- What a client asked stays as long as its call is open.
use Rattle.std.proofs.Common.{ℕ, ◌≡◌, ◌≢◌, List, [], ◌∷◌, Option, Some, None, refl, sym, ap, ◌∙◌}
use Rattle.std.specs.Prelude.{⊤}
use Rattle.group_types.specs.declared.process.ProcessId.{ProcessId}
use Rattle.memc_table.specs.Asked.{Asked}
use Rattle.std.specs.List.{range_with_len}
use Rattle.group_run.specs.Asking.{collect_from}
use Rattle.group_wire.specs.Actions.{Action, Begin, Send, Read, Treat, Collect, Flush, Learn, Receive, GiveUp, Cut, Say}
use Rattle.group_wire.specs.Actions.{Hear, Permit, Take, Ping, Pong, Count, Show, LetGo, Stop}
use Rattle.group_wire.specs.Composed.{Composed, composed_from, composed_with}
use Rattle.group_wire.specs.Sets.{changed, changed_at, without_nth}
use Rattle.group_wire.specs.State.{Request, Told, Stage, Unasked, AskedOf, Unknown, TracedAt, Answered, OpenCall, Gateways, Group}
use Rattle.group_wire.specs.Sending.{parked_at, treating}
use Rattle.group_wire.specs.Serving.{gateways_after, handed_to, if_open, learned_first, read_first, request_treated}
use Rattle.group_wire.specs.Serving.{sends_by, stage_given_up, staged, tell, told_of}
use Rattle.group_wire.proofs.Changes.{changed_at-each}
use Rattle.group_wire.proofs.Wanting.{op_of}
use Rattle.group_wire.proofs.Wants.{op-learned}
use Rattle.group_member.specs.Standing.{Member}
use Rattle.member_runs.specs.Calls.{MemberCall, Receives, Cuts, Says, Hears, Permits, Takes, Flushes, HandsOut}
use Rattle.member_runs.specs.Calls.{TakesLost, Pings, Pongs, Counts, Begins, Sends, SendsHere, Reads, Treats, Learns}
use Rattle.member_runs.specs.Calls.{Collects, GivesUp, Shows, LetsGo, actions_of}
use Rattle.member_runs.specs.System.{System, SystemStep, after_step, all_actions}
use Rattle.member_runs.proofs.Reaching.{composed-more}
use Rattle.member_gateway.specs.Calls.{begun_or_ended}

-- the caller whose open call an action begins or ends
abbrev turned_by : Action → Option ℕ
turned_by (Begin caller op) = Some caller
turned_by (Show caller ping) = Some caller
turned_by (LetGo caller) = Some caller
turned_by _ = None

at-other : {X : Type 0} (f : ℕ → X) (n i : ℕ) (x : X) → i ≢ n → changed_at f n x i ≡ f i
at-other f n i x other = changed_at-each (λ j y. j ≢ n → y ≡ f j) f n x (λ apart. absurd (apart refl)) (λ j apart again. refl) i other

same-op : (gw : Gateways) (n : ℕ) (now : Option OpenCall) → op_of now ≡ op_of (gw.call n) → (i : ℕ) → op_of (changed_at gw.call n now i) ≡ op_of (gw.call i)
same-op gw n now same = changed_at-each (λ i call. op_of call ≡ op_of (gw.call i)) gw.call n now same (λ i other. refl)

tell-call : (g : Group) (p : ProcessId) (ts : List Told) (gw : Gateways) → (tell g p ts gw).call ≡ gw.call
tell-call g p [] gw = refl
tell-call g p (t ∷ ts) gw = tell-call g p ts _

module _ (g : Group) (caller : ℕ) where
  abbrev now : Option OpenCall
  now = g.gateways.call caller

  sent : (n : ℕ) (x : ProcessId) (opened : OpenCall) (stage : Stage) → g.gateways.call n ≡ Some opened
      → op_of ((sends_by g n x opened stage).call caller) ≡ op_of now
  sent n x opened Unasked is = same-op g.gateways n _ (sym (ap op_of is)) caller
  sent n x opened Unknown is = same-op g.gateways n _ (sym (ap op_of is)) caller
  sent n x opened (AskedOf y) is = refl
  sent n x opened (TracedAt y) is = refl
  sent n x opened (Answered t pinged) is = refl

  sends : (n : ℕ) (x : ProcessId) (o : Option OpenCall) → g.gateways.call n ≡ o
      → op_of ((if_open o g.gateways (λ opened. sends_by g n x opened opened.stage)).call caller) ≡ op_of now
  sends n x None is = refl
  sends n x (Some opened) is = sent n x opened opened.stage is

  gives-up : (n : ℕ) (o : Option OpenCall) → g.gateways.call n ≡ o
      → op_of ((if_open o g.gateways (λ opened. staged n opened (stage_given_up opened.op opened.stage) g.gateways)).call caller) ≡ op_of now
  gives-up n None is = refl
  gives-up n (Some opened) is = same-op g.gateways n _ (sym (ap op_of is)) caller

  reads : (x p : ProcessId) (rs : List Request) → op_of ((read_first x p rs g.gateways).call caller) ≡ op_of now
  reads x p [] = refl
  reads x p (r ∷ rs) = refl

  treats : (p : ProcessId) (place : ℕ) (r : Option Request) → op_of ((request_treated g p place r).call caller) ≡ op_of now
  treats p place None = refl
  treats p place (Some r) = ap (λ (f : ℕ → Option OpenCall). op_of (f caller))
      (tell-call g p (told_of r (treating g.shape r (g.works.process p)).answer)
      (record g.gateways { parked = changed g.gateways.parked p (without_nth (g.gateways.parked p) place) }))

  learns : (x p : ProcessId) (pinged : ℕ) (ts : List Told) → op_of ((learned_first x p pinged ts g.gateways).call caller) ≡ op_of now
  learns x p pinged [] = refl
  learns x p pinged (t ∷ ts) = same-op g.gateways t.caller _ (op-learned t pinged (g.gateways.call t.caller)) caller

  elsewhere : (n : ℕ) (o : Option OpenCall) → Some n ≢ Some caller → op_of (changed_at g.gateways.call n o caller) ≡ op_of now
  elsewhere n o leaves = ap op_of (at-other g.gateways.call n caller o (λ same. leaves (ap Some (sym same))))

  keeps : (a : Action) → turned_by a ≢ Some caller → op_of ((gateways_after g a).call caller) ≡ op_of now
  keeps (Begin n op) leaves = elsewhere n _ leaves
  keeps (Send n x) leaves = sends n x (g.gateways.call n) refl
  keeps (Read x p) leaves = reads x p (g.gateways.requests x p)
  keeps (Treat p place) leaves = treats p place (parked_at g p place)
  keeps (Collect n call p) leaves = ap (λ (f : ℕ → Option OpenCall). op_of (f caller))
      (tell-call g p (handed_to n call (collect_from n call (g.works.process p) (range_with_len 0 g.shape.k)).answer) g.gateways)
  keeps (Learn x p) leaves = learns x p (g.signs.pinged p) (g.gateways.answers x p)
  keeps (GiveUp n) leaves = gives-up n (g.gateways.call n) refl
  keeps (Show n ping) leaves = elsewhere n None leaves
  keeps (LetGo n) leaves = elsewhere n None leaves
  keeps (Flush p) leaves = refl
  keeps (Receive x p) leaves = refl
  keeps (Cut x p) leaves = refl
  keeps (Say p) leaves = refl
  keeps (Hear x p) leaves = refl
  keeps (Permit p) leaves = refl
  keeps (Take x p) leaves = refl
  keeps (Ping to p) leaves = refl
  keeps (Pong x p) leaves = refl
  keeps (Count x p) leaves = refl
  keeps (Stop p) leaves = refl

-- steps that neither begin nor end a call of a caller
abbrev pub LeaveAlone : ℕ → List SystemStep → Type 0
LeaveAlone caller [] = ⊤
LeaveAlone caller (t ∷ steps) = (begun_or_ended t.call ≢ Some caller) × LeaveAlone caller steps

abbrev AllLeave : ℕ → List Action → Type 0
AllLeave caller [] = ⊤
AllLeave caller (a ∷ actions) = (turned_by a ≢ Some caller) × AllLeave caller actions

abbrev pub op_at : Composed → ℕ → Option Asked
op_at c caller = op_of (c.group.gateways.call caller)

all-keep : (c : Composed) (actions : List Action) (caller : ℕ) → AllLeave caller actions → op_at (composed_from c actions) caller ≡ op_at c caller
all-keep c [] caller leave = refl
all-keep c (a ∷ actions) caller leave = all-keep (composed_with c a) actions caller leave.1 ∙ keeps c.group caller a leave.0

no : (n : ℕ) → None ≢ Some n
no n is = cc

call-leaves : (call : MemberCall) (v : Member) (caller : ℕ) → begun_or_ended call ≢ Some caller → AllLeave caller (actions_of call v)
call-leaves (Receives from m) v caller leaves = (no caller, tt)
call-leaves (Cuts x) v caller leaves = (no caller, tt)
call-leaves (Says set) v caller leaves = (no caller, tt)
call-leaves (Hears from set) v caller leaves = (no caller, tt)
call-leaves Permits v caller leaves = (no caller, tt)
call-leaves (Takes x) v caller leaves = (no caller, tt)
call-leaves Flushes v caller leaves = (no caller, tt)
call-leaves (HandsOut to m) v caller leaves = tt
call-leaves TakesLost v caller leaves = tt
call-leaves (Pings to ping) v caller leaves = (no caller, tt)
call-leaves (Pongs from ping) v caller leaves = (no caller, tt)
call-leaves (Counts from ping) v caller leaves = (no caller, tt)
call-leaves (Begins n op) v caller leaves = (leaves, tt)
call-leaves (Sends n to r) v caller leaves = (no caller, tt)
call-leaves (SendsHere n) v caller leaves = (no caller, (no caller, (no caller, (no caller, tt))))
call-leaves (Reads from r) v caller leaves = (no caller, tt)
call-leaves (Treats place told) v caller leaves = (no caller, (no caller, tt))
call-leaves (Learns from t) v caller leaves = (no caller, tt)
call-leaves (Collects n call told) v caller leaves = (no caller, (no caller, tt))
call-leaves (GivesUp n) v caller leaves = (no caller, tt)
call-leaves (Shows n ping) v caller leaves = (leaves, tt)
call-leaves (LetsGo n) v caller leaves = (leaves, tt)

-- steps that leave a caller's call open leave what was asked
pub steps-keep : (c : Composed) (y : System) (steps : List SystemStep) (caller : ℕ) → LeaveAlone caller steps
    → op_at (composed_from c (all_actions y steps)) caller ≡ op_at c caller
steps-keep c y [] caller leave = refl
steps-keep c y (t ∷ steps) caller leave =
    let actions = actions_of t.call (y.members t.at) in
    ap (λ (d : Composed). op_at d caller) (composed-more c actions (all_actions (after_step y t) steps))
    ∙ steps-keep (composed_from c actions) (after_step y t) steps caller leave.1
    ∙ all-keep c actions caller (call-leaves t.call (y.members t.at) caller leave.0)
