-- Where an answer goes that a member gives: to its caller's gateway, which may be the member itself.
use Rattle.std.specs.Prelude.{ℕ, ◌||◌, Bool, true, false, Option, Some, None}
use Rattle.group_types.specs.Names.{same_process}
use Rattle.membership.specs.Members.{knows_dead}
use Rattle.group_calls.specs.declared.event.Answer.{Answer}
use Rattle.group_calls.specs.declared.event.Answer.TheVariants as says
use Rattle.group_wire.specs.Serving.{call_learned}
use Rattle.group_wire.specs.Sets.{one_or}
use Rattle.group_wire.specs.State.{Request, AskFor, TraceOf, Told, gateway_of}
use Rattle.group_member.specs.Callers.{OwnCallers, caller_of, with_call}
use Rattle.group_member.specs.Standing.{OwnWords}

-- what the gateway is told of an answer, but for a ticket
abbrev pub told_for : ℕ → ℕ → Bool → Answer → Option Told
told_for caller call traced (says.Ticket n) = None
told_for caller call traced answer = Some (record { caller = caller; call = call; traced = traced; answer = answer })

-- and of what is collected, once there is a reply
abbrev pub told_reply : ℕ → ℕ → Answer → Option Told
told_reply caller call (says.Reply reply) = Some (record { caller = caller; call = call; traced = false; answer = says.Reply reply })
told_reply caller call _ = None

-- the callers, of which one learns what it was told
abbrev pub callers_learned : ℕ → Told → OwnCallers → OwnCallers
callers_learned pinged t v = with_call v t.caller (call_learned t pinged (caller_of v t.caller).call)

-- the callers after something is told: one of the member's own learns it
abbrev pub callers_told : OwnWords → ℕ → Told → OwnCallers → OwnCallers
callers_told w pinged t v = one_or (same_process (gateway_of w.shape t.caller) w.name) (callers_learned pinged t v) v

-- and what is handed out for another's gateway, which isn't cut
abbrev pub told_on : OwnWords → Told → Option Told
told_on w t = one_or (same_process (gateway_of w.shape t.caller) w.name || knows_dead w.cut (gateway_of w.shape t.caller)) None (Some t)

-- the same of what is told, if anything is
abbrev pub callers_heard : OwnWords → ℕ → Option Told → OwnCallers → OwnCallers
callers_heard w pinged None v = v
callers_heard w pinged (Some t) v = callers_told w pinged t v

abbrev pub handed_of : OwnWords → Option Told → Option Told
handed_of w None = None
handed_of w (Some t) = told_on w t

-- what is told of the answer to a request
abbrev pub told_to : Request → Answer → Option Told
told_to (AskFor caller call op) answer = told_for caller call false answer
told_to (TraceOf caller call d) answer = told_for caller call true answer
