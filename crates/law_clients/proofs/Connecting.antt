-- The calls of a connection, one after the other, by the calls that its member made.
use Rattle.std.proofs.Common.{ℕ, suc, ◌≡◌, ◌≤◌, ◌+◌, Bool, true, false, List, [], ◌∷◌, ◌++◌, length, refl, sym, ap, subst, ◌∙◌, if◌then◌else◌, arith}
use Rattle.std.proofs.lemmas.Cmp.{nat_list_cmp_total}
use Rattle.std.proofs.lemmas.List.{append_assoc, length-append}
use Rattle.std.specs.Cmp.{Equal-is, tied_itself}
use Rattle.std.specs.Cmp.Lexicographic.{slice_cmp}
use Rattle.std.specs.FinMap as map
use Rattle.std.specs.Ordering.{is_eq, nat_cmp}
use Rattle.group_types.specs.Dimensions.{Dimensions}
use Rattle.group_types.specs.Lists.{same_key}
use Rattle.group_types.specs.Names.{IsProcess}
use Rattle.group_types.specs.declared.process.ProcessId.{ProcessId}
use Rattle.memc_table.specs.Asked.{Asked}
use Rattle.memc_table.specs.declared.act.Act.{Act}
use Rattle.memc_table.specs.declared.reply.Reply.{Reply}
use Rattle.memc_proto.specs.declared.end.CallEnd.{CallEnd}
use Rattle.memc_proto.specs.declared.end.CallEnd.TheVariants as ends
use Rattle.front_end.specs.Calls.{Call, Made, Failed}
use Rattle.front_end.specs.Sequences.{sequence_of, with_end}
use Rattle.front_end.specs.Turns.{calls_in}
use Rattle.front_end.specs.declared.overlap.Overlap.TheVariants.{Never}
use Rattle.ready_client.specs.Ordered.{AreInSequences}
use Rattle.group_wire.specs.Laws.{NoTwoHoldAll}
use Rattle.group_wire.specs.Sets.{one_or}
use Rattle.group_wire.proofs.Changes.{changed-here}
use Rattle.group_member.specs.Standing.{Member}
use Rattle.member_runs.specs.Calls.{Begins, Shows}
use Rattle.member_runs.specs.Laws.{HaveMade, composed_of}
use Rattle.member_runs.specs.System.{System, SystemStep, after_steps}
use Rattle.member_gateway.specs.Calls.{AreMade, MadeCall}
use Rattle.member_gateway.specs.Laws.{calls_at}
use Rattle.member_gateway.specs.Order.{made_on}
use Rattle.member_gateway.specs.Rules.{Gateway, HasCallEnded, IsLaterMember, member_rules}
use Rattle.law_clients.specs.Laws.{WrittenInOrder, WrittenIsLogged}
use Rattle.law_clients.specs.Logged.{AreLogged, log_by, step_of}
use Rattle.law_clients.specs.Told.{calls_along, calls_for, calls_of}
use Rattle.law_clients.proofs.Standing.{IsPlaced, is-placed}
use Rattle.law_clients.proofs.Walking.{IsMet, log-after, made-front, member-after, met, steps-joined}

same-itself : (key : List ℕ) → same_key key key ≡ true
same-itself key = ap is_eq (tied_itself nat_list_cmp_total key)

same-is : (a b : List ℕ) → same_key a b ≡ true → a ≡ b
same-is a b same = map.slice_cmp-IsAntisymmetric map.nat_cmp-IsAntisymmetric a b ((Equal-is (slice_cmp nat_cmp a b)).0 same)

module _ (s : Dimensions) (y : System) (steps : List SystemStep) (p : ProcessId) (made : HaveMade s y steps)
    (apart : NoTwoHoldAll (composed_of s y steps).group) (member : IsProcess s p) where
  -- from wherever the member came quietly to where a connection's last call ended, its calls are logged, where its further
  -- calls are those along them
  abbrev Goes : List Call → Gateway → List MadeCall → Type 0
  Goes calls last along = (done rest : List SystemStep) (v : Member) (quiet : List MadeCall) (count place : ℕ) → steps ≡ done ++ rest
      → (after_steps y done).members p ≡ v → AreMade v quiet last.member → calls_at p rest ≡ quiet ++ along
      → count ≤ length done → place ≤ length (log_by s y done) → AreLogged s y steps p count place calls

  log-front : (done rest : List SystemStep) → steps ≡ done ++ rest → (xs ys : List SystemStep) → done ≡ xs ++ ys
      → length (log_by s y xs) ≤ length (log_by s y done)
  log-front done rest is xs ys parts =
      subst (λ (l : List SystemStep). length (log_by s y xs) ≤ length (log_by s y l)) (sym parts)
      (log-after s y xs ys (subst (λ (l : List SystemStep). HaveMade s y l) parts
      (made-front s y done rest (subst (λ (l : List SystemStep). HaveMade s y l) is made))))

  -- the steps of one call of the connection
  record IsTaken (began : Gateway) (op : Asked) (end : CallEnd) (after : Gateway) (call : HasCallEnded began op end after) (done : List SystemStep)
      (along : List MadeCall) : Type 0 where
    front : List SystemStep
    since : List SystemStep
    behind : List SystemStep
    all : steps ≡ ((done ++ front) ++ step_of p (Begins call.caller op) call.begun.first ∷ since)
        ++ step_of p (Shows call.caller call.shown.ping) after.member ∷ behind
    began_is : (after_steps y (done ++ front)).members p ≡ began.member
    since_are : calls_at p since ≡ call.begun.calls
    behind_are : calls_at p behind ≡ along

  further : (done front since behind : List SystemStep) (b e : SystemStep)
      → done ++ (front ++ b ∷ (since ++ e ∷ behind)) ≡ ((done ++ front) ++ b ∷ since) ++ e ∷ behind
  further done front since behind b e =
      sym (append_assoc done front (b ∷ (since ++ e ∷ behind))) ∙ sym (append_assoc (done ++ front) (b ∷ since) (e ∷ behind))

  regrouped : (quiet behind begun along : List MadeCall) (b e : MadeCall)
      → quiet ++ (behind ++ ((b ∷ (begun ++ e ∷ [])) ++ along)) ≡ (quiet ++ behind) ++ b ∷ (begun ++ e ∷ along)
  regrouped quiet behind begun along b e =
      sym (append_assoc quiet behind (b ∷ ((begun ++ e ∷ []) ++ along)))
      ∙ ap (λ (l : List MadeCall). (quiet ++ behind) ++ b ∷ l) (append_assoc begun (e ∷ []) along)

  taken : (last began after : Gateway) (op : Asked) (end : CallEnd) (behind : List MadeCall) (call : HasCallEnded began op end after) (along : List MadeCall)
      (done rest : List SystemStep) (v : Member) (quiet : List MadeCall) → steps ≡ done ++ rest → (after_steps y done).members p ≡ v
      → AreMade v quiet last.member → AreMade last.member behind began.member
      → calls_at p rest ≡ quiet ++ (behind ++ (calls_for began op end after call ++ along)) → IsTaken began op end after call done along
  taken last began after op end behind call along done rest v quiet is at came on are =
      let b : MadeCall = record { call = Begins call.caller op; after = call.begun.first } in
      let e : MadeCall = record { call = Shows call.caller call.shown.ping; after = after.member } in
      let first : IsMet p rest (quiet ++ behind) b (call.begun.calls ++ e ∷ along) = met p rest (quiet ++ behind) b (call.begun.calls ++ e ∷ along)
      (are ∙ regrouped quiet behind call.begun.calls along b e) in
      let second : IsMet p first.behind call.begun.calls e along = met p first.behind call.begun.calls e along first.later in
      record {
        front = first.front;
        since = second.front;
        behind = second.behind;
        all = is ∙ ap (λ (l : List SystemStep). done ++ l) first.is
            ∙ ap (λ (l : List SystemStep). done ++ (first.front ++ step_of p b.call b.after ∷ l)) second.is
            ∙ further done first.front second.front second.behind (step_of p b.call b.after) (step_of p e.call e.after);
        began_is = ap (λ (z : System). z.members p) (steps-joined y done first.front)
            ∙ member-after (after_steps y done) first.front p v (quiet ++ behind) began.member at first.earlier
            (made_on v last.member began.member quiet behind came on);
        since_are = second.earlier;
        behind_are = second.later;
      }

  module _ (began after : Gateway) (op : Asked) (end : CallEnd) (call : HasCallEnded began op end after) (done rest : List SystemStep) (along : List MadeCall)
      (is : steps ≡ done ++ rest) (t : IsTaken began op end after call done along) where
    -- the steps up to the call's end, and the one that shows it
    abbrev before-end : List SystemStep
    before-end = (done ++ t.front) ++ step_of p (Begins call.caller op) call.begun.first ∷ t.since

    abbrev to-end : List SystemStep
    to-end = before-end ++ step_of p (Shows call.caller call.shown.ping) after.member ∷ []

    to-end-is : steps ≡ to-end ++ t.behind
    to-end-is = t.all ∙ sym (append_assoc before-end (step_of p (Shows call.caller call.shown.ping) after.member ∷ []) t.behind)

    after-is : (after_steps y to-end).members p ≡ after.member
    after-is =
        ap (λ (z : System). z.members p) (steps-joined y before-end (step_of p (Shows call.caller call.shown.ping) after.member ∷ []))
        ∙ changed-here (after_steps y before-end).members p after.member

    counted : length to-end ≡ length done + length t.front + length t.since + 2
    counted =
        let one = length-append before-end (step_of p (Shows call.caller call.shown.ping) after.member ∷ []) in
        let two = length-append (done ++ t.front) (step_of p (Begins call.caller op) call.begun.first ∷ t.since) in
        let three = length-append done t.front in omega (arith, one, two, three)

    from-done : (xs : List SystemStep) (ys : List SystemStep) → to-end ≡ xs ++ ys → length (log_by s y xs) ≤ length (log_by s y to-end)
    from-done xs ys parts = log-front to-end t.behind to-end-is xs ys parts

    end-behind : to-end ≡ done ++ (t.front ++ (step_of p (Begins call.caller op) call.begun.first ∷ (t.since
        ++ step_of p (Shows call.caller call.shown.ping) after.member ∷ [])))
    end-behind = sym (further done t.front t.since [] (step_of p (Begins call.caller op) call.begun.first)
        (step_of p (Shows call.caller call.shown.ping) after.member))

    -- the calls behind it go on
    passes : (calls : List Call) (count place : ℕ) → Goes calls after along → count ≤ length to-end → place ≤ length (log_by s y to-end)
        → AreLogged s y steps p count place calls
    passes calls count place next low from = next to-end t.behind after.member [] count place to-end-is after-is refl t.behind_are low from

    skips : (calls : List Call) (count place : ℕ) → Goes calls after along → count ≤ length done → place ≤ length (log_by s y done)
        → AreLogged s y steps p count place calls
    skips calls count place next low from =
        let long = counted in
        let log = from-done done _ end-behind in
        passes calls count place next (omega (arith, low, long)) (omega (arith, from, log))

  -- a call that ended by a reply
  module _ (began after : Gateway) (op : Asked) (reply : Reply) (call : HasCallEnded began op (ends.Reply reply) after) (done rest : List SystemStep)
      (along : List MadeCall) (is : steps ≡ done ++ rest) (t : IsTaken began op (ends.Reply reply) after call done along) where
    at : IsPlaced s y steps (done ++ t.front) (before-end began after op (ends.Reply reply) call done rest along is t) call.caller op reply
    at = is-placed s y steps (done ++ t.front) t.since t.behind p call.caller op reply began.member call.before after.member call.begun call.shown
        t.all made apart member t.began_is t.since_are

    replied : (calls : List Call) (count place : ℕ) → Goes calls after along → count ≤ length done → place ≤ length (log_by s y done)
        → AreLogged s y steps p count place (Made op (ends.Reply reply) ∷ calls)
    replied calls count place next low from =
        let front = length-append done t.front in
        let long = counted began after op (ends.Reply reply) call done rest along is t in
        let until = at.shown in
        let begun = at.begun in
        let log-done = log-front (done ++ t.front) (step_of p (Begins call.caller op) call.begun.first ∷ (t.since
        ++ step_of p (Shows call.caller call.shown.ping) after.member ∷ t.behind))
        (t.all ∙ append_assoc (done ++ t.front) (step_of p (Begins call.caller op) call.begun.first ∷ t.since)
        (step_of p (Shows call.caller call.shown.ping) after.member ∷ t.behind)) done t.front refl in
        let log-end = from-done began after op (ends.Reply reply) call done rest along is t
        (before-end began after op (ends.Reply reply) call done rest along is t) (step_of p (Shows call.caller call.shown.ping) after.member ∷ []) refl in (
          record {
            caller = call.caller;
            ping = call.shown.ping;
            first = call.begun.first;
            last = after.member;
            before = done ++ t.front;
            since = t.since;
            behind = t.behind;
            are = t.all ∙ append_assoc (done ++ t.front) (step_of p (Begins call.caller op) call.begun.first ∷ t.since)
                (step_of p (Shows call.caller call.shown.ping) after.member ∷ t.behind);
            position = at.position;
            place = at.place;
            entry = at.entry;
            begun = at.begun;
            shown = at.shown;
            only = at.only;
          },
          omega (arith, low, front),
          omega (arith, from, begun, log-done),
          passes began after op (ends.Reply reply) call done rest along is t calls (length (done ++ t.front) + length t.since + 2) (suc at.place) next
              (omega (arith, front, long)) (omega (arith, until, log-end)),
        )

  -- a call of the sequence, whatever it ended by
  ended : (began after : Gateway) (op : Asked) (end : CallEnd) (call : HasCallEnded began op end after) (done rest : List SystemStep)
      (along : List MadeCall) (is : steps ≡ done ++ rest) (t : IsTaken began op end after call done along) (calls : List Call) (count place : ℕ)
      → Goes calls after along → count ≤ length done → place ≤ length (log_by s y done)
      → AreLogged s y steps p count place (Made op end ∷ calls)
  ended began after op (ends.Reply reply) call done rest along is t calls count place next low from =
      replied began after op reply call done rest along is t calls count place next low from
  ended began after op ends.NoSpace call done rest along is t calls count place next low from =
      skips began after op ends.NoSpace call done rest along is t calls count place next low from
  ended began after op ends.Down call done rest along is t calls count place next low from =
      skips began after op ends.Down call done rest along is t calls count place next low from
  ended began after op ends.Worn call done rest along is t calls count place next low from =
      skips began after op ends.Worn call done rest along is t calls count place next low from
  ended began after op ends.Moves call done rest along is t calls count place next low from =
      skips began after op ends.Moves call done rest along is t calls count place next low from

  -- a call is of the sequence, or of another
  one-call : (op : Asked) (end : CallEnd) (from last began after : Gateway) (behind : IsLaterMember from began) (call : HasCallEnded began op end after)
      (calls : List Call) (along : List MadeCall) (b : Bool) → (b ≡ true → from ≡ last) → Goes calls (if b then after else last) along
      → Goes (one_or b (Made op end ∷ calls) calls) last (one_or b (behind.calls ++ (calls_for began op end after call ++ along)) along)
  one-call op end from last began after behind call calls along true same next = λ done rest v quiet count place is at came are low begun.
      let on : AreMade last.member behind.calls began.member =
      subst (λ (g : Gateway). AreMade g.member behind.calls began.member) (same refl) behind.made in
      ended began after op end call done rest along is
      (taken last began after op end behind.calls call along done rest v quiet is at came on are) calls count place next low begun
  one-call op end from last began after behind call calls along false same next = next

  one-order : (last before after : Gateway) (behind : IsLaterMember last before) (on : IsLaterMember before after) (calls : List Call) (along : List MadeCall)
      → Goes calls after along → Goes calls last (behind.calls ++ (on.calls ++ along))
  one-order last before after behind on calls along next = λ done rest v quiet count place is at came are low begun.
      next done rest v ((quiet ++ behind.calls) ++ on.calls) count place is at
      (made_on v before.member after.member (quiet ++ behind.calls) on.calls
      (made_on v last.member before.member quiet behind.calls came behind.made) on.made)
      (are ∙ sym (append_assoc quiet behind.calls (on.calls ++ along)) ∙ sym (append_assoc (quiet ++ behind.calls) on.calls along)) low begun

  all-calls : (sequence : Act → List ℕ) (one : List ℕ) (last : List ℕ → Gateway) (calls : List Call) (now : Gateway)
      (order : AreInSequences member_rules.ways member_rules.later sequence last calls now)
      → Goes (calls_of sequence one calls) (last one) (calls_along sequence one last calls now order)
  all-calls sequence one last [] now order = λ done rest v quiet count place is at came are low begun. tt
  all-calls sequence one last (Made op end ∷ calls) now order =
      one-call op end (last (sequence op.act)) (last one) order.0 order.1 order.2 order.3 (calls_of sequence one calls)
      (calls_along sequence one (with_end last (sequence op.act) order.1) calls now order.4) (same_key (sequence op.act) one)
      (λ is. ap last (same-is (sequence op.act) one is))
      (all-calls sequence one (with_end last (sequence op.act) order.1) calls now order.4)
  all-calls sequence one last (Failed process keep end ∷ calls) now order =
      one-order (last one) order.0 order.1 (order.2 one) order.3.1 (calls_of sequence one calls)
      (calls_along sequence one (λ _. order.1) calls now order.4) (all-calls sequence one (λ _. order.1) calls now order.4)

pub written_is_logged : WrittenIsLogged
written_is_logged s y before since p overlap told input input_now kept first now held held_now answered one served =
    all-calls s y (before ++ since) p served.made served.apart served.member (sequence_of overlap) one (λ _. first) (calls_in answered.turns) now
    answered.order before since first.member [] (length before) (length (log_by s y before)) refl served.stood refl served.calls_are
    (omega arith) (omega arith)

-- where no calls overlap, all are in one sequence
all-in-one : (calls : List Call) → calls_of (sequence_of Never) [] calls ≡ calls
all-in-one [] = refl
all-in-one (Made op end ∷ calls) =
    ap (λ (b : Bool). one_or b (Made op end ∷ calls_of (sequence_of Never) [] calls) (calls_of (sequence_of Never) [] calls)) (same-itself [])
    ∙ ap (λ (l : List Call). Made op end ∷ l) (all-in-one calls)
all-in-one (Failed process keep end ∷ calls) = ap (λ (l : List Call). Failed process keep end ∷ l) (all-in-one calls)

pub written_in_order : WrittenInOrder
written_in_order s y before since p told input input_now kept first now held held_now answered served =
    subst (λ (l : List Call). AreLogged s y (before ++ since) p (length before) (length (log_by s y before)) l) (all-in-one (calls_in answered.turns))
    (written_is_logged s y before since p Never told input input_now kept first now held held_now answered [] served)
