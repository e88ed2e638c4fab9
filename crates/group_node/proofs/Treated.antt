-- What a node makes of a call, and of a message.
use Rattle.std.proofs.Common.{ℕ, zero, suc, ◌≡◌, ◌+◌, Bool, true, false, List, [], ◌∷◌, length, replicate, refl, sym, ap, subst, ◌∙◌}
use Rattle.std.specs.List.{range_with_len}
use Rattle.group_types.specs.Dimensions.{Dimensions}
use Rattle.group_types.specs.Shape.{IsShape}
use Rattle.group_types.specs.declared.process.ProcessId.{ProcessId}
use Rattle.memc_table.specs.Asked.{Asked}
use Rattle.group_message.specs.declared.message.Message.{Message}
use Rattle.group_calls.specs.Turns.{CallName}
use Rattle.group_calls.specs.declared.event.Answer.{Answer}
use Rattle.group_run.specs.Applying.{ProcessStep}
use Rattle.group_run.specs.Asking as machine
use Rattle.group_run.specs.Asking.{ask_process, collect_from, only}
use Rattle.group_run.specs.Fitting.{Fits}
use Rattle.group_run.specs.Process.{Node, Process, opening_process}
use Rattle.group_run.specs.Receiving.{receive}
use Rattle.group_run.specs.World.{NodeStep, collect_node, if_up, opening_node, treated, unchanged}
use Rattle.law_answers.specs.Steps.{AlwaysSendsFew, FewForEach}
use Rattle.head_service.specs.declared.step.CallStep.{CallStep}
use Rattle.process_service.specs.declared.step.Step.{Step}
use Rattle.process_service.specs.Standing as whole
use Rattle.process_service.specs.Steps.{called, machine_step}
use Rattle.link_core.specs.Outgoing.{Link, empty_link}
use Rattle.group_node.specs.Rooms.{messages}
use Rattle.group_node.specs.Standing.{node_standing}
use Rattle.group_node.proofs.Sent.{nothing-behind}

-- no step sends more than there is room for
pub few-asked : (s t : Dimensions) (p new : Process) (name : CallName) (op : Asked) (step : CallStep) → AlwaysSendsFew → IsShape s → t ≡ s
    → ask_process t name op p ≡ called new step → FewForEach s step.sent.items
few-asked s t p new name op step always limits same is =
    subst (λ (c : machine.CallStep). FewForEach s c.step.sent)
    (ap (λ (x : Dimensions). ask_process x name op p) (sym same) ∙ is) ((always s p limits).asked name op)

pub few-received : (s t : Dimensions) (p new : Process) (from : ProcessId) (m : Message) (step : Step) → AlwaysSendsFew → IsShape s → t ≡ s → Fits s from m p
    → receive t from m p ≡ machine_step new step → FewForEach s step.sent.items
few-received s t p new from m step always limits same fits is =
    subst (λ (c : ProcessStep). FewForEach s c.sent) (ap (λ (x : Dimensions). receive x from m p) (sym same) ∙ is) ((always s p limits).received from m fits)

-- what lives in a group that is up is treated
up : (down dead : Bool) (node : Node) (step : NodeStep) → down ≡ false → dead ≡ false → if_up down dead node step ≡ step
up true dead node step is lives = absurd (cc is)
up false true node step is lives = absurd (cc lives)
up false false node step is lives = refl

-- what is collected sends nothing
pub collected : (s t : Dimensions) (caller call : ℕ) (node : Node) (answer : Answer) (new : Process) → node.down ≡ false → node.dead ≡ false
    → length node.links ≡ s.k + s.m → t ≡ s
    → collect_from caller call node.process (range_with_len 0 t.k) ≡ only answer new → collect_node s caller call node
    ≡ unchanged answer (record node { process = new })
collected s t caller call node answer new is_up lives long same is =
    up node.down node.dead node (treated s node (collect_from caller call node.process (range_with_len 0 s.k))) is_up lives
    ∙ ap (treated s node) (ap (λ (x : Dimensions). collect_from caller call node.process (range_with_len 0 x.k)) (sym same) ∙ is)
    ∙ ap (λ (links : List (List Message)). unchanged answer (record node { process = new; links = links })) (nothing-behind s new.known node.links long)

no-messages : (n : ℕ) → messages (replicate n empty_link) ≡ replicate n []
no-messages zero = refl
no-messages (suc n) = ap (λ (rest : List (List Message)). [] ∷ rest) (no-messages n)

-- a node at the start
pub starts : (s : Dimensions) (name : ProcessId) (p : whole.Standing) (old new : List (Link Message))
    → p ≡ record { shape = s; process = opening_process s name; made = [] }
    → old ≡ replicate (s.k + s.m) empty_link → messages new ≡ messages old → node_standing s p new false false
    ≡ record { shape = s; node = opening_node s name }
starts s name p old new process is same =
    let links = same ∙ ap messages is ∙ no-messages (s.k + s.m) in
    ap (λ (x : whole.Standing). node_standing s x new false false) process
    ∙ ap (λ (ms : List (List Message)). record { shape = s; node = record { process = opening_process s name; links = ms; dead = false; down = false } }) links
