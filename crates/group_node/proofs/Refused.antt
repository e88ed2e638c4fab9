-- A call that is refused changes nothing.
use Rattle.std.proofs.Common.{ℕ, ◌≡◌, ◌+◌, Bool, true, false, List, [], length, Option, Some, None, refl, sym, ap, subst, ◌∙◌}
use Rattle.std.specs.List.{range_with_len}
use Rattle.group_types.specs.Dimensions.{Dimensions}
use Rattle.group_types.specs.Hash.{home_of}
use Rattle.memc_table.specs.Act.{key_of}
use Rattle.memc_table.specs.Asked.{Asked}
use Rattle.group_message.specs.declared.message.Message.{Message}
use Rattle.group_message.specs.declared.update.Outcome.{Outcome}
use Rattle.group_message.specs.declared.update.Outcome.TheVariants as ends
use Rattle.group_message.specs.declared.update.Update.{Update}
use Rattle.group_calls.specs.Turns.{CallName, accepts}
use Rattle.group_calls.specs.declared.decision.Decision.{Decision}
use Rattle.group_calls.specs.declared.decision.Decision.TheVariants as decides
use Rattle.group_run.specs.Applying.{ProcessStep, Sent, head_at, quiet}
use Rattle.group_run.specs.Asking.{CallStep, Oldest, act_on, ask_head, ask_process, oldest_inherited, reply_from, retry_block, ticketed}
use Rattle.group_run.specs.Process.{Head, Process}
use Rattle.membership.specs.Members.{Membership}
use Rattle.group_run.specs.World.{links_after}
use Rattle.head_service.specs.declared.step.CallStep as code
use Rattle.process_service.specs.Standing as whole
use Rattle.process_service.specs.Steps.{called}
use Rattle.link_core.specs.Outgoing.{Link}
use Rattle.group_node.specs.Rooms.{messages}
use Rattle.group_node.proofs.Links.{messages-long}
use Rattle.group_node.specs.Standing.{node_standing}
use Rattle.group_node.specs.Steps.{IsRefusalAnswer}
use Rattle.group_node.proofs.Sent.{nothing-behind}

pub issues : (outcome : Outcome) → accepts (reply_from outcome) ≡ true
issues ends.Stored = refl
issues ends.Deleted = refl
issues ends.Touched = refl
issues (ends.Number n) = refl

-- a process that refuses does nothing else
module _ (s : Dimensions) (name : CallName) (op : Asked) (p : Process) where
  by-ticket : (b : Bool) (d : ℕ) (u : Update) (step : ProcessStep) → IsRefusalAnswer (ticketed b d u step).answer → (ticketed b d u step).step ≡ quiet p
  by-ticket true d u step refused =
      let reply : reply_from u.outcome ≡ refused.0 = cc refused.1 in
      absurd (cc (sym (issues u.outcome), ap accepts reply, refused.2))
  by-ticket false d u step refused = absurd (cc refused.1)

  by-block : (b : ℕ) (o : Option Oldest) → IsRefusalAnswer (retry_block s b o p).answer → (retry_block s b o p).step ≡ quiet p
  by-block b None refused = absurd (cc refused.1)
  by-block b (Some o) refused = absurd (cc refused.1)

  by-decision : (d : ℕ) (h : Head) (decision : Decision) → IsRefusalAnswer (act_on s name op d h p decision).answer
      → (act_on s name op d h p decision).step ≡ quiet p
  by-decision d h (decides.Answer r) refused = refl
  by-decision d h (decides.Retry n) refused = absurd (cc refused.1)
  by-decision d h decides.NoSpace refused = absurd (cc refused.1)
  by-decision d h (decides.NeedBlock b) refused = by-block b (oldest_inherited p (range_with_len 0 s.k)) refused
  by-decision d h (decides.Issue body outcome) refused = by-ticket _ d _ _ refused

  by-head : (d : ℕ) (o : Option Head) → IsRefusalAnswer (ask_head s name op d p o).answer → (ask_head s name op d p o).step ≡ quiet p
  by-head d None refused = absurd (cc refused.1)
  by-head d (Some h) refused = by-decision d h _ refused

  pub refused-quiet : IsRefusalAnswer (ask_process s name op p).answer → (ask_process s name op p).step ≡ quiet p
  refused-quiet refused = by-head (home_of (key_of op.act) s.k) (head_at p (home_of (key_of op.act) s.k)) refused

-- nor does its node, and that of any process that does nothing
pub quiet-stays : (s t : Dimensions) (name : CallName) (op : Asked) (old new : whole.Standing)
    (own roomy after : List (Link Message)) (known : Membership) (step : code.CallStep)
    (dead down : Bool) → t ≡ s → length own ≡ s.k + s.m → ask_process t name op old.process ≡ called new.process step
    → (ask_process t name op old.process).step ≡ quiet old.process → messages roomy ≡ messages own
    → messages after ≡ links_after s known step.sent.items (messages roomy)
    → node_standing s new after dead down ≡ node_standing s old own dead down
quiet-stays s t name op old new own roomy after known step dead down same long is quietly room behind =
    let process : new.process ≡ old.process = sym (ap (λ (c : CallStep). c.step.process) is) ∙ ap (λ (x : ProcessStep). x.process) quietly in
    let sent : step.sent.items ≡ [] = sym (ap (λ (c : CallStep). c.step.sent) is) ∙ ap (λ (x : ProcessStep). x.sent) quietly in
    let links : messages after ≡ messages own =
    behind ∙ ap (λ (xs : List Sent). links_after s known xs (messages roomy)) sent
    ∙ nothing-behind s known (messages roomy) (ap length room ∙ messages-long own ∙ long) ∙ room in
    (λ i. record { shape = s; node = record { process = process i; links = links i; dead = dead; down = down } })

pub refused-stays : (s t : Dimensions) (name : CallName) (op : Asked) (old new : whole.Standing)
    (own roomy after : List (Link Message)) (known : Membership) (step : code.CallStep)
    (dead down : Bool) → t ≡ s → length own ≡ s.k + s.m → ask_process t name op old.process ≡ called new.process step → IsRefusalAnswer step.answer
    → messages roomy ≡ messages own → messages after ≡ links_after s known step.sent.items (messages roomy)
    → node_standing s new after dead down ≡ node_standing s old own dead down
refused-stays s t name op old new own roomy after known step dead down same long is refused room behind =
    quiet-stays s t name op old new own roomy after known step dead down same long is
    (refused-quiet t name op old.process (subst (λ (c : CallStep). IsRefusalAnswer c.answer) (sym is) refused)) room behind
