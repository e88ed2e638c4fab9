-- One call of a member, from its begin to its end: where its reply is logged.
use Rattle.std.proofs.Common.{ℕ, ◌≡◌, ◌<◌, ◌≤◌, Bool, true, List, ◌∷◌, ◌++◌, Option, Some, None, length, take, refl, sym, ap, subst, ◌∙◌, arith}
use Rattle.std.specs.Prelude.{slice_get}
use Rattle.group_types.specs.Dimensions.{Dimensions}
use Rattle.group_types.specs.Names.{IsProcess}
use Rattle.group_types.specs.declared.process.ProcessId.{ProcessId}
use Rattle.group_types.proofs.Names.{same-refl}
use Rattle.memc_table.specs.Asked.{Asked}
use Rattle.memc_table.specs.declared.reply.Reply.{Reply}
use Rattle.memc_proto.specs.declared.end.CallEnd.TheVariants as ends
use Rattle.group_calls.specs.Turns.{accepts, call_entry, log_of}
use Rattle.group_calls.specs.declared.entry.Entry.{Entry}
use Rattle.group_calls.specs.declared.event.Answer.{Answer}
use Rattle.group_calls.specs.declared.event.Answer.TheVariants as says
use Rattle.group_run.specs.World.{turns_of}
use Rattle.group_wire.specs.Actions.{Show}
use Rattle.group_wire.specs.Composed.{Composed, events_of, opening_composed}
use Rattle.group_wire.specs.Composition.{machine}
use Rattle.group_wire.specs.Laws.{NoTwoHoldAll}
use Rattle.group_wire.specs.May.{MayAct}
use Rattle.group_wire.specs.Once.{IsChangeBy, IsShownChange}
use Rattle.group_wire.specs.Sets.{one_or}
use Rattle.group_wire.specs.Shown.{Shows}
use Rattle.group_wire.specs.State.{Answered, AskedOf, OpenCall, Stage, Told, TracedAt, Unasked, Unknown}
use Rattle.group_wire.proofs.FromWhom.{callers_are_theirs}
use Rattle.group_wire.proofs.Once.{shown_once}
use Rattle.group_wire.proofs.Showing.{shown_is_logged}
use Rattle.group_member.specs.Callers.{answer_told_at, caller_of, told_in}
use Rattle.group_member.specs.Standing.{Member, MemberStands}
use Rattle.member_runs.specs.Calls as calls
use Rattle.member_runs.specs.Calls.{HasCalled}
use Rattle.member_runs.specs.Laws.{HaveMade, composed_of}
use Rattle.member_runs.specs.System.{System, SystemStep, after_step, after_steps, all_actions}
use Rattle.member_runs.proofs.Following.{show-logged}
use Rattle.member_runs.proofs.Reaching.{shape-all}
use Rattle.member_runs.proofs.Running.{make-a-run}
use Rattle.member_gateway.specs.Calls.{AreMade, MadeCall}
use Rattle.member_gateway.specs.Laws.{EndsAreLogged, HasBegunIn, IsLoggedFor, calls_at}
use Rattle.member_gateway.specs.Rules.{HasBegunCall, IsShown, end_of}
use Rattle.member_gateway.proofs.Logged.{ends-logged}
use Rattle.law_clients.specs.Logged.{log_by, step_of}
use Rattle.law_clients.proofs.Growing.{get-below, logged-before}
use Rattle.law_clients.proofs.Walking.{apart-before, entry-after, made-front, member-after, run-by, same-run, steps-joined}

-- what was told stands in the stage
told-stage : (stage : Stage) (t : Told) → answer_told_at stage ≡ Some t → (pinged : ℕ) × (stage ≡ Answered t pinged)
told-stage (Answered told pinged) t is = (pinged, ap (λ (o : Option Told). Answered (told_or told o) pinged) is) where
  told_or : Told → Option Told → Told
  told_or u None = u
  told_or u (Some v) = v
told-stage Unasked t is = absurd (cc is)
told-stage (AskedOf x) t is = absurd (cc is)
told-stage Unknown t is = absurd (cc is)
told-stage (TracedAt x) t is = absurd (cc is)

same-reply : (a b : Reply) → Some (ends.Reply a) ≡ Some (ends.Reply b) → a ≡ b
same-reply a b is = cc is

-- the reply of an entry that changed the table is the one that was shown
reply-of : (a : Answer) (shown logged : Reply) → end_of a ≡ Some (ends.Reply shown) → a ≡ says.Reply logged → shown ≡ logged
reply-of a shown logged ended told = same-reply shown logged (sym ended ∙ ap end_of told)

-- of the entries of a call that is shown only the one that is logged with its reply may have changed the table
only-one : (c later : Composed) (caller place : ℕ) (o : OpenCall) (t : Told) (op : Asked) (reply : Reply) → end_of t.answer ≡ Some (ends.Reply reply)
    → slice_get (machine later).log place ≡ Some (call_entry (record { caller = caller; call = o.position }) op reply)
    → (other : ℕ) (e : Entry) → IsChangeBy c later caller other e → IsShownChange c later caller other o t e → other ≡ place
only-one c later caller place o t op reply ended logged other e by shown =
    let same = reply-of t.answer reply e.reply ended shown.shown in
    sym (shown.only place (call_entry (record { caller = caller; call = o.position }) op reply) (record {
      change = record {
        there = logged;
        caller_is = refl;
        since = subst (λ (n : ℕ). c.first caller ≤ n) shown.last by.change.since;
        accepted = subst (λ (r : Reply). accepts r ≡ true) (sym same) by.change.accepted;
      };
      until = subst (λ (n : ℕ). n < c.group.gateways.next caller) shown.last by.until;
    }))

-- where its reply is logged
pub record IsPlaced (s : Dimensions) (y : System) (steps before done : List SystemStep) (caller : ℕ) (op : Asked) (reply : Reply) : Type 0 where
  pub position : ℕ
  pub place : ℕ
  pub entry : slice_get (log_by s y steps) place ≡ Some (call_entry (record { caller = caller; call = position }) op reply)
  pub begun : length (log_by s y before) ≤ place
  pub shown : place < length (log_by s y done)
  pub only : (other : ℕ) (e : Entry) → IsChangeBy (composed_of s y done) (composed_of s y steps) caller other e → other ≡ place

all-logged : EndsAreLogged
all-logged = ends-logged callers_are_theirs (show-logged callers_are_theirs shown_is_logged)

module _ (s : Dimensions) (y : System) (steps before since behind : List SystemStep) (p : ProcessId) (caller : ℕ) (op : Asked) (reply : Reply)
    (began now last : Member) (begun : HasBegunCall caller op began now) (shown : IsShown caller (ends.Reply reply) now last) where
  abbrev done : List SystemStep
  done = before ++ step_of p (calls.Begins caller op) begun.first ∷ since

  abbrev all : List SystemStep
  all = done ++ step_of p (calls.Shows caller shown.ping) last ∷ behind

  module _ (are : steps ≡ all) (made : HaveMade s y steps) (apart : NoTwoHoldAll (composed_of s y steps).group) (member : IsProcess s p)
      (began-is : (after_steps y before).members p ≡ began) (since-are : calls_at p since ≡ begun.calls) where
    made-all : HaveMade s y all
    made-all = subst (λ (l : List SystemStep). HaveMade s y l) are made

    made-done : HaveMade s y done
    made-done = made-front s y done (step_of p (calls.Shows caller shown.ping) last ∷ behind) made-all

    apart-done : NoTwoHoldAll (composed_of s y done).group
    apart-done = apart-before s y done (step_of p (calls.Shows caller shown.ping) last ∷ behind) made-all
        (subst (λ (l : List SystemStep). NoTwoHoldAll (composed_of s y l).group) are apart)

    -- the member's calls since the call began
    its-calls : calls_at p (step_of p (calls.Begins caller op) begun.first ∷ since)
        ≡ record { call = calls.Begins caller op; after = begun.first } ∷ begun.calls
    its-calls =
        ap (λ (b : Bool). one_or b (record { call = calls.Begins caller op; after = begun.first } ∷ calls_at p since) (calls_at p since)) (same-refl p)
        ∙ ap (λ (l : List MadeCall). record { call = calls.Begins caller op; after = begun.first } ∷ l) since-are

    now-is : (after_steps y done).members p ≡ now
    now-is =
        ap (λ (z : System). z.members p) (steps-joined y before (step_of p (calls.Begins caller op) begun.first ∷ since))
        ∙ member-after (after_steps y before) (step_of p (calls.Begins caller op) begun.first ∷ since) p began
        (record { call = calls.Begins caller op; after = begun.first } ∷ begun.calls) now began-is its-calls (begun.begins, begun.made)

    began-in : HasBegunIn y before (step_of p (calls.Begins caller op) begun.first ∷ since) p caller op
    began-in = record {
      begun = record {
        first = begun.first;
        begins = subst (λ (m : Member). HasCalled (calls.Begins caller op) m begun.first) (sym began-is) begun.begins;
        calls = begun.calls;
        made = subst (λ (m : Member). AreMade begun.first begun.calls m) (sym now-is) begun.made;
        leave = begun.leave;
      };
      calls = its-calls;
    }

    shows-now : HasCalled (calls.Shows caller shown.ping) ((after_steps y done).members p) last
    shows-now = subst (λ (m : Member). HasCalled (calls.Shows caller shown.ping) m last) (sym now-is) shown.shows

    was-told : told_in (caller_of ((after_steps y done).members p).callers caller).call ≡ Some shown.told
    was-told = subst (λ (m : Member). told_in (caller_of m.callers caller).call ≡ Some shown.told) (sym now-is) shown.was

    found : IsLoggedFor (composed_of s y done) caller op reply
    found = all-logged s y before (step_of p (calls.Begins caller op) begun.first ∷ since) p caller op reply last made-done apart-done member began-in
        (record { ping = shown.ping; told = shown.told; shows = shows-now; was = was-told; ends = shown.ends })

    entry-done : slice_get (log_by s y done) found.logged.place ≡ Some (call_entry (record { caller = caller; call = found.opened.position }) op reply)
    entry-done = found.logged.entry ∙ ap (λ (a : Asked). Some (call_entry (record { caller = caller; call = found.opened.position }) a reply)) found.asks

    entry-all : slice_get (log_by s y steps) found.logged.place ≡ Some (call_entry (record { caller = caller; call = found.opened.position }) op reply)
    entry-all = ap (λ (l : List SystemStep). slice_get (log_by s y l) found.logged.place) are
        ∙ entry-after s y done (step_of p (calls.Shows caller shown.ping) last ∷ behind) made-all found.logged.place
        (call_entry (record { caller = caller; call = found.opened.position }) op reply) entry-done

    -- the member stands in the group, which may show the call
    own : MemberStands (composed_of s y done).group ((after_steps y done).out p) ((after_steps y done).members p)
    own = ((make-a-run callers_are_theirs s y done made-done).stand p
        (subst (λ (d : Dimensions). IsProcess d p) (sym (shape-all (opening_composed s) (all_actions y done))) member)).1

    may-show : MayAct (composed_of s y done).group (Show caller shown.ping)
    may-show = (shows-now.1 (composed_of s y done).group ((after_steps y done).out p) own).may.0

    shows-it : Shows (composed_of s y done) caller found.opened shown.told
    shows-it =
        let call : (caller_of ((after_steps y done).members p).callers caller).call ≡ Some found.opened =
        sym (own.callers.call caller shows-now.0) ∙ found.call in
        let stage = told-stage found.opened.stage shown.told (sym (ap told_in call) ∙ was-told) in
        record { pinged = stage.0; call = found.call; stage = stage.1 }

    shown-by : (other : ℕ) (e : Entry) → IsChangeBy (composed_of s y done) (composed_of s y all) caller other e
        → IsShownChange (composed_of s y done) (composed_of s y all) caller other found.opened shown.told e
    shown-by other e by =
        let show = step_of p (calls.Shows caller shown.ping) last ∷ behind in
        let same = same-run s y done show made-all in
        subst (λ (d : Composed). IsShownChange (composed_of s y done) d caller other found.opened shown.told e) same
        (shown_once s (all_actions y done) (all_actions (after_steps y done) show) caller shown.ping other found.opened shown.told e
        (run-by s y done show made-all) apart-done may-show shows-it
        (subst (λ (d : Composed). IsChangeBy (composed_of s y done) d caller other e) (sym same) by))

    only-it : (other : ℕ) (e : Entry) → IsChangeBy (composed_of s y done) (composed_of s y steps) caller other e → other ≡ found.logged.place
    only-it other e by = only-one (composed_of s y done) (composed_of s y steps) caller found.logged.place found.opened shown.told
        op reply shown.ends entry-all other e by
        (subst (λ (l : List SystemStep). IsShownChange (composed_of s y done) (composed_of s y l) caller other found.opened shown.told e) (sym are)
        (shown-by other e (subst (λ (l : List SystemStep). IsChangeBy (composed_of s y done) (composed_of s y l) caller other e) are by)))

    since-begun : length (log_by s y before) ≤ found.logged.place
    since-begun =
        let front = step_of p (calls.Begins caller op) begun.first ∷ since in
        let low : length (log_by s y before)
        ≤ length (log_of
        (take ((composed_of s y done).begun caller)
        (turns_of (composed_of s y done).group.shape (events_of (composed_of s y done))))) =
        subst (λ (d : Composed). length (log_by s y before)
        ≤ length (log_of (take (d.begun caller) (turns_of d.group.shape (events_of d)))))
        (same-run s y before front made-done)
        (logged-before s (all_actions y before)
        (all_actions (after_step (after_steps y before) (step_of p (calls.Begins caller op) begun.first)) since)
        caller op
        (run-by s y before front made-done)) in
        let since = found.logged.since in omega (arith, low, since)

    pub is-placed : IsPlaced s y steps before done caller op reply
    is-placed = record {
      position = found.opened.position;
      place = found.logged.place;
      entry = entry-all;
      begun = since-begun;
      shown = get-below (log_by s y done) found.logged.place (call_entry (record { caller = caller; call = found.opened.position }) op reply) entry-done;
      only = only-it;
    }
