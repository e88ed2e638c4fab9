-- Each call of a member that neither begins nor ends a client's call.
use Rattle.std.proofs.Common.{ℕ, ◌≡◌, [], ◌∷◌, ◌++◌, Result, Ok, Err, IfOk, OnOk, OnErr, IfNone, refl, subst, sym}
use Rattle.std.specs.Prelude.{Option, Some, None, IfSome}
use Rattle.std.specs.declared.alloc.AllocError.{AllocError}
use Rattle.std.proofs.lemmas.List.Elements.{All-push}
use Rattle.group_types.specs.declared.process.ProcessId.{ProcessId}
use Rattle.membership.specs.Members.{Membership, knows_dead}
use Rattle.memc_table.specs.Asked.{Asked}
use Rattle.memc_proto.specs.declared.end.CallEnd.{CallEnd}
use Rattle.group_message.specs.declared.message.Message.{Message}
use Rattle.group_wire.specs.Actions as act
use Rattle.group_wire.specs.State.{Request, Told}
use Rattle.group_member.specs.Acting.{Acts, ActsHanding, ActsWhere, AnswerComes, PingComes, PongComes, RequestComes}
use Rattle.group_member.specs.Acting.{SetComes, answer_handed, message_handed, ping_handed, pong_handed, request_handed}
use Rattle.group_member.specs.Acting.{set_handed}
use Rattle.group_member.specs.Callers.{CanBeAsked, CanBeTraced, IsFree, caller_of, told_in}
use Rattle.group_member.specs.Receiving.{HasReceived}
use Rattle.group_member.specs.Showing.{CanGiveUp, CanShow}
use Rattle.group_member.specs.Standing.{Member}
use Rattle.group_member.specs.Treating.{CanAskHere, HasTreated, sent_here}
use Rattle.group_member.specs.declared.receiving.Received.{Received}
use Rattle.group_member.specs.declared.receiving.Received.TheVariants.{Made, Unread, Misfit}
use Rattle.group_member.specs.declared.serving.Treatment.{Treatment}
use Rattle.group_member.specs.declared.serving.Treatment.TheVariants as treated
use Rattle.member_runs.specs.Calls.{MemberCall, HasCalled, Begins, Collects, Counts, Cuts, Flushes, GivesUp, HandsOut}
use Rattle.member_runs.specs.Calls.{Hears, Learns, Permits, Pings, Pongs, Reads, Receives, Says, Sends, SendsHere}
use Rattle.member_runs.specs.Calls.{Takes, TakesLost, Treats}
use Rattle.member_gateway.specs.Calls.{ComesQuietly, GoesQuietly, LeavesAll, MadeCall, begun_or_ended}
use Rattle.member_gateway.specs.Rules.{IsShown, end_of}
use Rattle.member_gateway.specs.Order.{made_on}

pub quiet_call : (call : MemberCall) (before after : Member) → begun_or_ended call ≡ None → HasCalled call before after → GoesQuietly before after
quiet_call call before after quiet called start way =
    let one : MadeCall = record { call = call; after = after } in record {
      calls = way.calls ++ one ∷ [];
      made = made_on start before after way.calls (one ∷ []) way.made (called, refl);
      leave = All-push LeavesAll way.calls one way.leave quiet;
    }

pub no_call : (before after : Member) → after ≡ before → GoesQuietly before after
no_call before after same start way = subst (λ v. ComesQuietly start v) (sym same) way

pub inside_goes : (inside before after : Member) → inside ≡ before → GoesQuietly inside after → GoesQuietly before after
inside_goes inside before after same goes = subst (λ v. GoesQuietly v after) same goes

pub received : (from : ProcessId) (m : Message) (before after : Member) (r : Received) → HasReceived from m before after r → GoesQuietly before after
received from m before after (Made settled) done = quiet_call (Receives from m) before after refl done.0
received from m before after Unread done = no_call before after done.1
received from m before after Misfit done = no_call before after done.1

pub cut_one : (x : ProcessId) (before after : Member) → Acts (act.Cut x before.words.name ∷ []) before after → GoesQuietly before after
cut_one x before after acts = quiet_call (Cuts x) before after refl acts

pub said_so : (set : Membership) (v : Member) → ActsHanding (act.Say v.words.name ∷ []) (set_handed set) v v → GoesQuietly v v
said_so set v acts = quiet_call (Says set) v v refl acts

pub heard_so : (from : ProcessId) (set : Membership) (before after : Member)
    → ActsWhere (SetComes from before.words.name set) (act.Hear from before.words.name ∷ []) (λ out. out) before after → GoesQuietly before after
heard_so from set before after acts = quiet_call (Hears from set) before after refl acts

pub permitted_all : (before after : Member) → Acts (act.Permit before.words.name ∷ []) before after → GoesQuietly before after
permitted_all before after acts = quiet_call Permits before after refl acts

pub took_death : (x : ProcessId) (before after : Member) → Acts (act.Take x before.words.name ∷ []) before after → GoesQuietly before after
took_death x before after acts = quiet_call (Takes x) before after refl acts

pub flushed_once : (before after : Member) → Acts (act.Flush before.words.name ∷ []) before after → GoesQuietly before after
flushed_once before after acts = quiet_call Flushes before after refl acts

pub handed_one : (to : ProcessId) (m : Message) (before after : Member) → ActsHanding [] (message_handed to m) before after → GoesQuietly before after
handed_one to m before after acts = quiet_call (HandsOut to m) before after refl acts

pub took_lost : (before after : Member) → Acts [] before after → GoesQuietly before after
took_lost before after acts = quiet_call TakesLost before after refl acts

pub pinged_so : (to : Membership) (ping : ℕ) (before after : Member)
    → ActsHanding (act.Ping (knows_dead to) before.words.name ∷ []) (ping_handed (knows_dead to) before.words.cut ping) before after → GoesQuietly before after
pinged_so to ping before after acts = quiet_call (Pings to ping) before after refl acts

pub ponged_so : (from : ProcessId) (ping : ℕ) (answer : ℕ) (v : Member) → answer ≡ ping
    → ActsWhere (PingComes from v.words.name ping) (act.Pong from v.words.name ∷ []) (pong_handed from answer) v v → GoesQuietly v v
ponged_so from ping answer v same acts = quiet_call (Pongs from ping) v v refl
    (subst (λ n. ActsWhere (PingComes from v.words.name ping) (act.Pong from v.words.name ∷ []) (pong_handed from n) v v) same acts)

pub counted_so : (from : ProcessId) (ping : ℕ) (before after : Member)
    → ActsWhere (PongComes from before.words.name ping) (act.Count from before.words.name ∷ []) (λ out. out) before after → GoesQuietly before after
counted_so from ping before after acts = quiet_call (Counts from ping) before after refl acts

pub asked_other : (caller : ℕ) (to : ProcessId) (r : Request) (before after : Member) → CanBeAsked before.callers caller
    → ActsHanding (act.Send caller to ∷ []) (request_handed to r) before after → GoesQuietly before after
asked_other caller to r before after can acts = quiet_call (Sends caller to r) before after refl (can.its, acts)

pub traced_other : (caller : ℕ) (to : ProcessId) (r : Request) (before after : Member) → CanBeTraced before.callers caller
    → ActsHanding (act.Send caller to ∷ []) (request_handed to r) before after → GoesQuietly before after
traced_other caller to r before after can acts = quiet_call (Sends caller to r) before after refl (can.its, acts)

pub asked_here : (caller : ℕ) (before after : Member) → CanAskHere before caller → Acts (sent_here before caller) before after → GoesQuietly before after
asked_here caller before after can acts = quiet_call (SendsHere caller) before after refl (can.call.its, acts)

pub traced_here : (caller : ℕ) (before after : Member) → CanBeTraced before.callers caller
    → Acts (sent_here before caller) before after → GoesQuietly before after
traced_here caller before after can acts = quiet_call (SendsHere caller) before after refl (can.its, acts)

pub read_request : (from : ProcessId) (r : Request) (before after : Member)
    → ActsWhere (RequestComes from before.words.name r) (act.Read from before.words.name ∷ []) (λ out. out) before after → GoesQuietly before after
read_request from r before after acts = quiet_call (Reads from r) before after refl acts

treated-it : (place : ℕ) (r : Option Request) (before after : Member) (made : Treatment) → HasTreated place r before after made → GoesQuietly before after
treated-it place None before after made done = absurd done
treated-it place (Some r) before after (treated.Early answer) done = no_call before after done.2
treated-it place (Some r) before after (treated.Made told settled opened) done = quiet_call (Treats place told) before after refl done.0

pub treated_one : (place : ℕ) (r : Option Request) (before after : Member) (made : Treatment) → HasTreated place r before after made → GoesQuietly before after
treated_one = treated-it

pub learned_so : (from : ProcessId) (t : Told) (before after : Member)
    → ActsWhere (AnswerComes from before.words.name t) (act.Learn from before.words.name ∷ []) (λ out. out) before after → GoesQuietly before after
learned_so from t before after acts = quiet_call (Learns from t) before after refl acts

pub collected_due : (caller call : ℕ) (told : Option Told) (before after : Member)
    → ActsHanding (act.Collect caller call before.words.name ∷ act.Learn before.words.name before.words.name ∷ [])
    (answer_handed before.words.shape told) before after
    → GoesQuietly before after
collected_due caller call told before after acts = quiet_call (Collects caller call told) before after refl acts

pub gave_up : (caller : ℕ) (before after : Member) → CanGiveUp before.words before.callers caller
    → Acts (act.GiveUp caller ∷ []) before after → GoesQuietly before after
gave_up caller before after can acts = quiet_call (GivesUp caller) before after refl (can.its, acts)

pub begun_so : (caller : ℕ) (op : Asked) (before after : Member) → IsFree before.callers caller → Acts (act.Begin caller op ∷ []) before after
    → HasCalled (Begins caller op) before after
begun_so caller op before after free acts = (free.its, acts)

pub begun_inside : (caller : ℕ) (op : Asked) (inside before after : Member) → inside ≡ before → IsFree before.callers caller
    → Acts (act.Begin caller op ∷ []) inside after → HasCalled (Begins caller op) before after
begun_inside caller op inside before after same free acts =
    subst (λ (v : Member). HasCalled (Begins caller op) v after) same
    (begun_so caller op inside after (subst (λ (v : Member). IsFree v.callers caller) (sym same) free) acts)

pub shown_so : (caller ping : ℕ) (end : CallEnd) (told : Told) (before after : Member) → CanShow before caller ping
    → Acts (act.Show caller ping ∷ []) before after → told_in (caller_of before.callers caller).call ≡ Some told
    → IfSome (told_in (caller_of before.callers caller).call) (λ t. end_of t.answer ≡ Some end) → IsShown caller end before after
shown_so caller ping end told before after can acts was ends = record {
  ping = ping;
  told = told;
  shows = (can.its, acts);
  was = was;
  ends = subst (λ (o : Option Told). IfSome o (λ t. end_of t.answer ≡ Some end)) was ends;
}

-- after want of memory, or where there is nothing, the member is as it was
pub received_or : (from : ProcessId) (m : Message) (before after : Member) (made : Result Received AllocError)
    → IfOk made (λ r. HasReceived from m before after r) → OnErr made (after ≡ before) → GoesQuietly before after
received_or from m before after (Ok r) done want = received from m before after r done
received_or from m before after (Err e) done want = no_call before after want

pub took_or : {X : Type 0} (x : ProcessId) (before after : Member) (made : Result X AllocError)
    → OnOk made (Acts (act.Take x before.words.name ∷ []) before after) → OnErr made (after ≡ before) → GoesQuietly before after
took_or x before after (Ok r) acts want = took_death x before after acts
took_or x before after (Err e) acts want = no_call before after want

pub flushed_or : {X : Type 0} (before after : Member) (made : Result X AllocError)
    → OnOk made (Acts (act.Flush before.words.name ∷ []) before after) → OnErr made (after ≡ before) → GoesQuietly before after
flushed_or before after (Ok r) acts want = flushed_once before after acts
flushed_or before after (Err e) acts want = no_call before after want

pub handed_or : (to : ProcessId) (before after : Member) (made : Option Message)
    → IfSome made (λ m. ActsHanding [] (message_handed to m) before after) → IfNone made (after ≡ before) → GoesQuietly before after
handed_or to before after (Some m) acts nothing = handed_one to m before after acts
handed_or to before after None acts nothing = no_call before after nothing

pub asked_or : (caller : ℕ) (to : ProcessId) (before after : Member) (made : Result Request AllocError) → CanBeAsked before.callers caller
    → IfOk made (λ r. ActsHanding (act.Send caller to ∷ []) (request_handed to r) before after) → OnErr made (after ≡ before) → GoesQuietly before after
asked_or caller to before after (Ok r) can acts want = asked_other caller to r before after can acts
asked_or caller to before after (Err e) can acts want = no_call before after want

pub asked_here_or : {X : Type 0} (caller : ℕ) (before after : Member) (made : Result X AllocError) → CanAskHere before caller
    → OnOk made (Acts (sent_here before caller) before after) → OnErr made (after ≡ before) → GoesQuietly before after
asked_here_or caller before after (Ok r) can acts want = asked_here caller before after can acts
asked_here_or caller before after (Err e) can acts want = no_call before after want

pub read_or : {X Y : Type 0} (from : ProcessId) (r : Request) (before after : Member) (made : Result X Y)
    → OnOk made (ActsWhere (RequestComes from before.words.name r) (act.Read from before.words.name ∷ []) (λ out. out) before after)
    → OnErr made (after ≡ before) → GoesQuietly before after
read_or from r before after (Ok x) acts want = read_request from r before after acts
read_or from r before after (Err e) acts want = no_call before after want

pub treated_or : (place : ℕ) (r : Option Request) (before after : Member) (made : Result Treatment AllocError)
    → IfOk made (λ t. HasTreated place r before after t) → OnErr made (after ≡ before) → GoesQuietly before after
treated_or place r before after (Ok t) done want = treated_one place r before after t done
treated_or place r before after (Err e) done want = no_call before after want

pub shown_inside : (caller ping : ℕ) (end : CallEnd) (told : Told) (inside before after : Member) → inside ≡ before → CanShow inside caller ping
    → Acts (act.Show caller ping ∷ []) inside after → told_in (caller_of inside.callers caller).call ≡ Some told
    → IfSome (told_in (caller_of inside.callers caller).call) (λ t. end_of t.answer ≡ Some end) → IsShown caller end before after
shown_inside caller ping end told inside before after same can acts was ends =
    subst (λ (v : Member). IsShown caller end v after) same (shown_so caller ping end told inside after can acts was ends)
