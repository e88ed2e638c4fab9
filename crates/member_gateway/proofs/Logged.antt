-- Replies that are shown are logged, for what the client asked.
use Rattle.std.proofs.Common.{ℕ, ◌≡◌, List, [], ◌∷◌, ◌++◌, Option, Some, None, refl, sym, ap, subst, ◌∙◌}
use Rattle.std.specs.Prelude.{All}
use Rattle.group_types.specs.Dimensions.{Dimensions}
use Rattle.group_types.specs.Names.{IsProcess}
use Rattle.group_types.specs.declared.process.ProcessId.{ProcessId}
use Rattle.memc_table.specs.Asked.{Asked}
use Rattle.memc_table.specs.declared.reply.Reply.{Reply}
use Rattle.group_calls.specs.declared.event.Answer.{Answer}
use Rattle.group_calls.specs.declared.event.Answer.TheVariants as says
use Rattle.memc_proto.specs.declared.end.CallEnd.TheVariants as ends
use Rattle.group_wire.specs.Composed.{Composed, composed_from, opening_composed}
use Rattle.group_wire.specs.FromWhom.{CallersAreTheirs}
use Rattle.group_wire.specs.State.{OpenCall, Told}
use Rattle.group_wire.proofs.Changes.{changed_at-here}
use Rattle.group_wire.proofs.Wanting.{op_of}
use Rattle.group_member.specs.Callers.{answer_told_at, caller_of, told_in}
use Rattle.group_member.specs.Standing.{Member}
use Rattle.member_runs.specs.Calls.{HasCalled, MemberCall, Begins, Shows, actions_of}
use Rattle.member_runs.specs.Laws.{HaveMade, MembersShowLogged, ShowsNext, composed_of}
use Rattle.member_runs.specs.System.{System, SystemStep, after_step, after_steps, all_actions}
use Rattle.member_runs.proofs.Reaching.{composed-more, shape-all}
use Rattle.member_runs.proofs.Running.{make-a-run}
use Rattle.member_gateway.specs.Calls.{LeavesOpen, MadeCall}
use Rattle.member_gateway.specs.Laws.{EndsAreLogged, calls_at}
use Rattle.member_gateway.specs.Rules.{end_of}
use Rattle.member_gateway.proofs.Bridging.{since-alone, since_begun}
use Rattle.member_gateway.proofs.Finding.{found, leave-open}
use Rattle.member_gateway.proofs.Lasting.{LeaveAlone, op_at, steps-keep}

-- steps behind others
composed-steps : (c : Composed) (y : System) (steps more : List SystemStep)
    → composed_from c (all_actions y (steps ++ more)) ≡ composed_from (composed_from c (all_actions y steps)) (all_actions (after_steps y steps) more)
composed-steps c y [] more = refl
composed-steps c y (t ∷ steps) more =
    let actions = actions_of t.call (y.members t.at) in
    composed-more c actions (all_actions (after_step y t) (steps ++ more))
    ∙ composed-steps (composed_from c actions) (after_step y t) steps more
    ∙ ap (λ (d : Composed). composed_from d (all_actions (after_steps (after_step y t) steps) more))
    (sym (composed-more c actions (all_actions (after_step y t) steps)))

-- a call that is shown is open in the group
opened-there : CallersAreTheirs → (s : Dimensions) (y : System) (steps : List SystemStep) (t : SystemStep) (caller : ℕ) (o : OpenCall) (told : Told)
    → HaveMade s y steps → ShowsNext s (after_steps y steps) t caller o told → (composed_of s y steps).group.gateways.call caller ≡ Some o
opened-there always s y steps t caller o told made next =
    let run = make-a-run always s y steps made in
    let now = after_steps y steps in
    let own = run.stand t.at (subst (λ (d : Dimensions). IsProcess d t.at) (sym (shape-all (opening_composed s) (all_actions y steps))) next.may.member) in
    let called = subst (λ (call : MemberCall). HasCalled call (now.members t.at) t.after) next.shows next.may.called in
    own.1.callers.call caller called.0 ∙ next.opened

some-op : (a b : Asked) → Some a ≡ Some b → a ≡ b
some-op a b same = cc

module _ (s : Dimensions) (y : System) (before since : List SystemStep) (p : ProcessId) (caller : ℕ) (op : Asked)
    (after : Member) (leave : LeaveAlone caller since) where
  abbrev step : SystemStep
  step = record { at = p; call = Begins caller op; after = after }

  abbrev then : Composed
  then = composed_from (opening_composed s) (all_actions y before)

  begun-there : op_at (composed_of s y (since_begun before p caller op after since)) caller ≡ Some op
  begun-there = ap (λ (d : Composed). op_at d caller) (composed-steps (opening_composed s) y before (step ∷ since))
      ∙ steps-keep (composed_from then (actions_of step.call ((after_steps y before).members p))) (after_step (after_steps y before) step) since caller leave
      ∙ ap op_of (changed_at-here then.group.gateways.call caller _)

-- what the steps of all leave open is of the op that began
op-since : CallersAreTheirs → (s : Dimensions) (y : System) (steps before since : List SystemStep) (p : ProcessId) (caller : ℕ) (op : Asked) (first : Member)
    → HaveMade s y steps → steps ≡ since_begun before p caller op first since → All (LeavesOpen caller) (calls_at p since)
    → op_at (composed_of s y steps) caller ≡ Some op
op-since always s y steps before since p caller op first made is leave =
    let alone = since-alone always s y before since p caller op first
    (subst (λ (l : List SystemStep). HaveMade s y l) is made) (leave-open p caller since leave) in
    ap (λ (l : List SystemStep). op_at (composed_of s y l) caller) is ∙ begun-there s y before since p caller op first alone

told-open : (call : Option OpenCall) (t : Told) → told_in call ≡ Some t → (o : OpenCall) × (call ≡ Some o) × (answer_told_at o.stage ≡ Some t)
told-open None t is = absurd (cc is)
told-open (Some o) t is = (o, refl, is)

same-reply : (a b : Reply) → Some (ends.Reply a) ≡ Some (ends.Reply b) → a ≡ b
same-reply a b is = cc

reply-told : (a : Answer) (reply : Reply) → end_of a ≡ Some (ends.Reply reply) → a ≡ says.Reply reply
reply-told (says.Reply r) reply is = ap says.Reply (same-reply r reply is)
reply-told (says.Ticket n) reply is = absurd (cc is)
reply-told says.NotYet reply is = absurd (cc is)
reply-told says.NoSpace reply is = absurd (cc is)
reply-told (says.Retry cause) reply is = absurd (cc is)
reply-told says.Moved reply is = absurd (cc is)
reply-told says.Lost reply is = absurd (cc is)
reply-told says.Down reply is = absurd (cc is)
reply-told says.Idle reply is = absurd (cc is)
reply-told says.Stranger reply is = absurd (cc is)
reply-told says.Done reply is = absurd (cc is)
reply-told says.AlreadyDead reply is = absurd (cc is)
reply-told says.Gone reply is = absurd (cc is)
reply-told (says.Stale n) reply is = absurd (cc is)

further : (xs ys zs : List SystemStep) → xs ++ (ys ++ zs) ≡ (xs ++ ys) ++ zs
further [] ys zs = refl
further (x ∷ xs) ys zs = ap (λ (l : List SystemStep). x ∷ l) (further xs ys zs)

pub ends-logged : CallersAreTheirs → MembersShowLogged → EndsAreLogged
ends-logged always logged s y before since p caller op reply after made apart member began shown =
    let steps = before ++ since in
    let v = (after_steps y steps).members p in
    let begun = began.begun in
    let at = found p since (record { call = Begins caller op; after = begun.first }) begun.calls began.calls in
    let is : steps ≡ since_begun (before ++ at.others) p caller op begun.first at.behind =
    ap (λ (l : List SystemStep). before ++ l) at.is ∙ further before at.others _ in
    let now-op = op-since always s y steps (before ++ at.others) at.behind p caller op begun.first made is
    (subst (λ (l : List MadeCall). All (LeavesOpen caller) l) (sym at.calls_are) begun.leave) in
    let t : SystemStep = record { at = p; call = Shows caller shown.ping; after = after } in
    let opened = told-open (caller_of v.callers caller).call shown.told shown.was in
    let next : ShowsNext s (after_steps y steps) t caller opened.0 shown.told = record {
      may = record { member = member; called = shown.shows; reads = tt };
      ping = shown.ping;
      shows = refl;
      opened = opened.1;
      answered = opened.2;
    } in
    let call = opened-there always s y steps t caller opened.0 shown.told made next in
    record {
      opened = opened.0;
      call = call;
      asks = some-op opened.0.op op (sym (ap op_of call) ∙ now-op);
      logged = logged s y steps t caller opened.0 shown.told reply made apart next (reply-told shown.told.answer reply shown.ends);
    }
