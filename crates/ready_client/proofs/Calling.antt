-- A connection among others at one gateway, call by call.
use Rattle.std.proofs.Common.{◌≡◌, ◌≢◌, ℕ, suc, ◌+◌, List, [], ◌∷◌, ◌++◌, All, Bool, true, false, drop, take, length}
use Rattle.std.proofs.Common.{Option, Some, None, Result, Err, IfSome, is_some, arith, append-nil, refl, sym, ap, ◌∙◌}
use Rattle.std.proofs.Common.{subst, ◌⊎◌, inl, inr, if◌then◌else◌}
use Rattle.std.proofs.lemmas.List.Elements.{All-nil}
use Rattle.edge_io.specs.Moving.{Input}
use Rattle.edge_io.specs.Writing.{HasWritten}
use Rattle.group_types.specs.Lists.{same_key}
use Rattle.group_types.specs.declared.process.ProcessId.{ProcessId}
use Rattle.memc_table.specs.Act.{key_of}
use Rattle.memc_table.specs.Asked.{Asked}
use Rattle.memc_table.specs.declared.act.Act.{Act}
use Rattle.memc_proto.specs.Reader.{HasRead}
use Rattle.memc_proto.specs.Text.{fail_text}
use Rattle.memc_proto.specs.declared.end.CallEnd.{CallEnd}
use Rattle.memc_proto.specs.declared.end.FailEnd.{FailEnd}
use Rattle.memc_proto.specs.declared.request.Request.{Request}
use Rattle.memc_proto.specs.declared.request.Request.TheVariants.{Get, Change, Version, Quit, Fail, Refused}
use Rattle.front_end.specs.Ahead.{IsDueAhead, acts_ahead, unneeded_of}
use Rattle.front_end.specs.Answers.{stand}
use Rattle.front_end.specs.Faults.{HasSinkCause}
use Rattle.front_end.specs.Gateway.{Rules, KeepsOpen}
use Rattle.front_end.specs.Going.{ConnectionGoesOn}
use Rattle.front_end.specs.Order.{IsOrder}
use Rattle.front_end.specs.Progress.{Progress}
use Rattle.front_end.specs.Sequences.{sequence_of, with_end}
use Rattle.front_end.specs.Settling.{CallIsDue, IsDue, OrderIsDue, TextIsDue, HasSettledDue, HasTold, first_text, own_text}
use Rattle.front_end.specs.Turns.{IsMoment}
use Rattle.front_end.specs.declared.due.Due.{Due}
use Rattle.front_end.specs.declared.due.Due.TheVariants as due
use Rattle.front_end.specs.declared.end.ConnectionFault.{ConnectionFault}
use Rattle.front_end.specs.declared.end.ConnectionFault.TheVariants.{Want}
use Rattle.front_end.specs.declared.end.End.{End}
use Rattle.front_end.specs.declared.overlap.Overlap.{Overlap}
use Rattle.front_end.specs.declared.overlap.Overlap.TheVariants.{OtherKeys}
use Rattle.front_end.proofs.Ahead.{due-acts, order-acts, settled-acts, told-acts}
use Rattle.front_end.proofs.Sequences.{ended-elsewhere}
use Rattle.front_end.proofs.Serving.{goes_on-none}
use Rattle.front_end.proofs.Settling.{breaks-early, breaks-unmade, breaks-wanted, call-steps, call-breaks, order-steps, order-breaks, text-steps, text-breaks}
use Rattle.ready_client.specs.Calling.{AreCalls, StandOnce, AreOpen, IsBegunAs, HasEndOf, HasOpen, KeepsCalls}
use Rattle.ready_client.specs.Coming.{ways_of, ComesAtGateway, HasComeTo, IsUnderWay}
use Rattle.ready_client.specs.declared.calls.Calls.{Calls}
use Rattle.ready_client.specs.declared.open_call.OpenCall.{OpenCall}
use Rattle.ready_client.specs.declared.open_call.OpenCall.TheVariants.{Open}
use Rattle.ready_client.proofs.Beginning.{HasMadeCall, made-of, calling-begun, calls-drop, calls-more, calls-none, calls-on, calls-stay}
use Rattle.ready_client.proofs.Coming.{goes-of, more, halts, under-of}
use Rattle.ready_client.proofs.Listing.{begun-fresh, begun-open, distinct-more, open-drop, open-in, still-open}
use Rattle.ready_client.proofs.Telling.{settled, told-of, part}

pub due-some : (told : Option ℕ) (waiting : List Request) (next : Due) → IsDue told waiting next → waiting ≢ []
due-some told [] _ is none = is
due-some told (request ∷ others) _ is none = cc

-- the same call is due at another moment
due-at : (told prior : Option ℕ) (op first : Asked) (waiting : List Request) → IsDue prior waiting (due.Call first)
    → op.act ≡ first.act → IsMoment told op.moment → IsDue told waiting (due.Call op)
due-at told prior op first [] is same moment = absurd is
due-at told prior op first (Get [] with_cas ∷ others) is same moment = absurd (cc is)
due-at told prior op first (Get (key ∷ keys) with_cas ∷ others) is same moment = (same ∙ is.0, moment)
due-at told prior op first (Change asked noreply ∷ others) is same moment = (same ∙ is.0, moment)
due-at told prior op first (Fail at keep ∷ others) is same moment = absurd (cc is)
due-at told prior op first (Version ∷ others) is same moment = absurd (cc is)
due-at told prior op first (Quit ∷ others) is same moment = absurd (cc is)
due-at told prior op first (Refused refusal ∷ others) is same moment = absurd (cc is)

pub due-moment : (told : Option ℕ) (op : Asked) (waiting : List Request) → IsDue told waiting (due.Call op) → IsMoment told op.moment
due-moment told op [] is = absurd is
due-moment told op (Get [] with_cas ∷ others) is = absurd (cc is)
due-moment told op (Get (key ∷ keys) with_cas ∷ others) is = is.1
due-moment told op (Change asked noreply ∷ others) is = is.1
due-moment told op (Fail at keep ∷ others) is = absurd (cc is)
due-moment told op (Version ∷ others) is = absurd (cc is)
due-moment told op (Quit ∷ others) is = absurd (cc is)
due-moment told op (Refused refusal ∷ others) is = absurd (cc is)

-- where an order or a text is due no call is
pub order-alone : (waiting : List Request) → OrderIsDue waiting → ¬ CallIsDue waiting
order-alone waiting is (told, op, call) = let acts = due-acts told waiting op call in let none : op.act ∷ acts.0 ≡ [] =
    sym acts.1 ∙ order-acts waiting is in absurd (cc none)

pub text-alone : (waiting : List Request) → TextIsDue waiting → ¬ CallIsDue waiting
text-alone [] (told, is) call = is
text-alone (Get [] with_cas ∷ others) (told, is) (prior, op, call) = absurd (cc call)
text-alone (Get (key ∷ keys) with_cas ∷ others) (told, is) call = is
text-alone (Change asked noreply ∷ others) (told, is) call = is
text-alone (Fail at keep ∷ others) (told, is) call = absurd (cc is)
text-alone (Version ∷ others) (told, is) (prior, op, call) = absurd (cc call)
text-alone (Quit ∷ others) (told, is) (prior, op, call) = absurd (cc call)
text-alone (Refused refusal ∷ others) (told, is) (prior, op, call) = absurd (cc call)

module _ {G K : Type 0} (rules : Rules G K) (order : IsOrder rules.later) (overlap : Overlap) (told : Option ℕ)
    (input input_now : Input) (first : G) (before : List ℕ) where
  -- nothing was read
  pub begins : (held : List ℕ) (progress : Progress) → HasRead progress.kept [] [] → progress.waiting ≡ []
      → progress.count ≡ 0 → ComesAtGateway rules overlap told input input first held first (held ++ []) progress [] 0 None
  begins held progress has_read none unread = record {
    ends = λ _. first;
    later = λ _. order.same first;
    come = subst (λ (bs : List ℕ). HasComeTo (ways_of rules overlap) told input input (stand (λ _. first) held)
        (stand (λ _. first) bs) progress None) (sym (append-nil held))
        (inl (none, goes_on-none (ways_of rules overlap) told input (stand (λ _. first) held) progress.kept progress.count has_read unread));
    wanted = λ _. tt;
    opened = λ call has. absurd has;
    distinct = tt;
  }

  -- the gateway came to be later meanwhile, and the calls are open as before
  pub stays : (now next : G) (held : List ℕ) (progress : Progress) (calls : List (OpenCall K)) (unwanted : ℕ)
      (end : Option (Result End ConnectionFault)) → rules.later now next → KeepsCalls rules calls now next
      → ComesAtGateway rules overlap told input input_now first before now held progress calls unwanted end
      → ComesAtGateway rules overlap told input input_now first before next held progress calls unwanted end
  stays now next held progress calls unwanted end later keeps come = record {
    ends = come.ends;
    later = λ sequence. order.on (come.ends sequence) now next (come.later sequence) later;
    come = come.come;
    wanted = λ goes. calls-stay rules order overlap told come.ends now next (acts_ahead progress.waiting)
        (drop unwanted calls) (λ call op began has. keeps call op began (open-drop unwanted calls call has)) later
        (come.wanted goes);
    opened = still-open rules now next calls keeps come.opened;
    distinct = come.distinct;
  }

  -- it ended so, and its calls are to be let go
  pub ended-so : (now next : G) (held : List ℕ) (progress : Progress) (calls : List (OpenCall K)) (unwanted : ℕ)
      (result : Result End ConnectionFault) (ends : List ℕ → G)
      → ((sequence : List ℕ) → rules.later (ends sequence) now)
      → rules.later now next → AreOpen rules next calls → StandOnce calls
      → HasComeTo (ways_of rules overlap) told input input_now (stand (λ _. first) before) (stand ends held) progress
      (Some result) → ComesAtGateway rules overlap told input input_now first before next held progress calls unwanted
      (Some result)
  ended-so now next held progress calls unwanted result ends laters later opens distinct come = record {
    ends = ends;
    later = λ sequence. order.on (ends sequence) now next (laters sequence) later;
    come = come;
    wanted = λ goes. absurd (cc goes);
    opened = opens;
    distinct = distinct;
  }

  -- where its calls are as its requests go on
  pub record GoesOnSo (now : G) (held : List ℕ) (progress : Progress) (calls : List (OpenCall K)) : Type 0 where
    pub ends : List ℕ → G
    pub later : (sequence : List ℕ) → rules.later (ends sequence) now
    pub under : IsUnderWay (ways_of rules overlap) told input input_now (stand (λ _. first) before) (stand ends held) progress
    pub are : AreCalls rules overlap told ends now (acts_ahead progress.waiting) calls

  pub comes-so : (now : G) (held held_now : List ℕ) (progress : Progress) (calls : List (OpenCall K)) (unwanted : ℕ)
      (wanted : List (OpenCall K)) (end : Option (Result End ConnectionFault))
      → (goes : GoesOnSo now held progress wanted) → drop unwanted calls ≡ wanted
      → AreOpen rules now calls → StandOnce calls → HasComeTo (ways_of rules overlap) told input input_now
      (stand (λ _. first) before) (stand goes.ends held_now) progress end
      → ComesAtGateway rules overlap told input input_now first before now held_now progress calls unwanted end
  comes-so now held held_now progress calls unwanted wanted end goes same opens distinct come = record {
    ends = goes.ends;
    later = goes.later;
    come = come;
    wanted = λ _. subst (λ (cs : List (OpenCall K)). AreCalls rules overlap told goes.ends now (acts_ahead progress.waiting) cs) (sym same) goes.are;
    opened = opens;
    distinct = distinct;
  }

  -- the first of its calls ended
  record IsFront (prior now : G) (waiting : List Request) (ends : List ℕ → G) (end : CallEnd) (calls : List (OpenCall K)) : Type 0 where
    op : Asked
    due : IsDue told waiting (due.Call op)
    after : G
    made : (ways_of rules overlap).made ends op end (with_end ends (sequence_of overlap op.act) after)
    later : rules.later after now
    acts : List Act
    acts_are : acts_ahead waiting ≡ op.act ∷ acts
    apart : All (λ other. sequence_of overlap other ≢ sequence_of overlap op.act) (take (length calls) acts)
    are : AreCalls rules overlap told ends prior acts calls

  front-of : (prior now : G) (held : List ℕ) (was : Progress) (call : OpenCall K) (calls : List (OpenCall K))
      (end : CallEnd) → CallIsDue was.waiting → HasEndOf rules prior call end now → rules.later prior now
      → (come : ComesAtGateway rules overlap told input input_now first before prior held was (call ∷ calls) 0 None)
      → IsFront prior now was.waiting come.ends end calls
  front-of prior now held was call calls end (told_then, op, is) ended later come = by made_call
    where
      acts : (rest : List Act) × (acts_ahead was.waiting ≡ op.act ∷ rest)
      acts = due-acts told_then was.waiting op is

      are : AreCalls rules overlap told come.ends prior (op.act ∷ acts.0) (call ∷ calls)
      are = subst (λ (asks : List Act). AreCalls rules overlap told come.ends prior asks (call ∷ calls)) acts.1 (come.wanted refl)

      made_call : HasMadeCall rules order overlap told come.ends now op.act end
      made_call = made-of rules order overlap told come.ends prior now op.act call end are.0 ended later

      by : HasMadeCall rules order overlap told come.ends now op.act end → IsFront prior now was.waiting come.ends end calls
      by made = record {
        op = made.op;
        due = due-at told told_then made.op op was.waiting is made.begun.act_is made.begun.moment;
        after = made.after;
        made = (made.began, made.after, made.begun.later, made.made, refl);
        later = made.later;
        acts = acts.0;
        acts_are = acts.1 ∙ ap (λ (a : Act). a ∷ acts.0) (sym made.begun.act_is);
        apart = subst (λ (a : Act). All (λ other. sequence_of overlap other ≢ sequence_of overlap a)
            (take (length calls) acts.0)) (sym made.begun.act_is) are.1;
        are = are.2;
      }

  ends-later : (ends : List ℕ → G) (one : List ℕ) (prior after now : G)
      → ((sequence : List ℕ) → rules.later (ends sequence) prior) → rules.later prior now → rules.later after now
      → (sequence : List ℕ) → rules.later (with_end ends one after sequence) now
  ends-later ends one prior after now laters later own sequence = by (same_key one sequence)
    where
      by : (same : Bool) → rules.later (if same then after else ends sequence) now
      by true = own
      by false = order.on (ends sequence) prior now (laters sequence) later

  drop-next : (n : ℕ) (one : Act) (acts : List Act) → drop (1 + n) (one ∷ acts) ≡ drop n acts
  drop-next n one acts = let next : 1 + n ≡ suc n = omega arith in ap (λ (m : ℕ). drop m (one ∷ acts)) next

  -- the text of its first call, which ended, is written
  pub ends : (prior now : G) (sent out out_now : List ℕ) (was left : Progress) (call : OpenCall K)
      (calls : List (OpenCall K)) (end : CallEnd) → CallIsDue was.waiting → HasEndOf rules prior call end now
      → rules.later prior now → KeepsCalls rules calls prior now
      → HasSettledDue end out out_now was.waiting left.waiting → left.kept ≡ was.kept → left.quits ≡ was.quits → left.count ≡ was.count
      → ComesAtGateway rules overlap told input input_now first before prior (sent ++ out) was (call ∷ calls) 0 None
      → GoesOnSo now (sent ++ out_now) left (drop (unneeded_of end was.waiting) calls)
  ends prior now sent out out_now was left call calls end is_due ended later keeps is kept quits count come =
      by (front-of prior now (sent ++ out) was call calls end is_due ended later come)
    where
      by : IsFront prior now was.waiting come.ends end calls → GoesOnSo now (sent ++ out_now) left (drop (unneeded_of end was.waiting) calls)
      by front = record {
        ends = ends_now;
        later = ends-later come.ends (sequence_of overlap front.op.act) prior front.after now come.later later front.later;
        under = more (ways_of rules overlap) told input input_now (stand (λ _. first) before)
            (stand come.ends (sent ++ out)) (stand ends_now (sent ++ out_now)) was left
            (under-of (ways_of rules overlap) told input input_now (stand (λ _. first) before)
            (stand come.ends (sent ++ out)) was (due-some told was.waiting (due.Call front.op) front.due) come.come)
            (call-steps (ways_of rules overlap) told come.ends ends_now (sent ++ out) (sent ++ out_now) front.op end
            was.waiting left.waiting front.due front.made (settled sent end out out_now was.waiting left.waiting is))
            kept quits count;
        are = subst (λ (asks : List Act). AreCalls rules overlap told ends_now now asks (drop (unneeded_of end was.waiting) calls)) (sym acts_left)
            (calls-drop rules order overlap told ends_now now (unneeded_of end was.waiting) front.acts calls
            (calls-on rules order overlap told come.ends ends_now prior now front.acts calls
            (λ k d below. ended-elsewhere come.ends (sequence_of overlap front.op.act) _ front.after
            (front.apart k d below)) keeps later front.are));
      }
        where
          ends_now : List ℕ → G
          ends_now = with_end come.ends (sequence_of overlap front.op.act) front.after

          acts_left : acts_ahead left.waiting ≡ drop (unneeded_of end was.waiting) front.acts
          acts_left = settled-acts told front.op end out out_now was.waiting left.waiting front.due is
              ∙ ap (drop (1 + unneeded_of end was.waiting)) front.acts_are ∙ drop-next (unneeded_of end was.waiting)
              front.op.act front.acts

  -- a fault came while it was written
  pub ends-broken : (prior now : G) (sent out out_now : List ℕ) (was left : Progress) (call : OpenCall K)
      (calls : List (OpenCall K)) (unwanted : ℕ) (end : CallEnd) (faults faults_now : ℕ) (fault : ConnectionFault)
      → CallIsDue was.waiting → HasEndOf rules prior call end now
      → rules.later prior now → AreOpen rules now calls → StandOnce calls
      → HasWritten out out_now (first_text end was.waiting) → HasSinkCause {T = Unit {0}} faults faults_now
      (Err fault)
      → ComesAtGateway rules overlap told input input_now first before prior (sent ++ out) was (call ∷ calls) 0 None
      → ComesAtGateway rules overlap told input input_now first before now (sent ++ out_now) left calls unwanted
      (Some (Err fault))
  ends-broken prior now sent out out_now was left call calls unwanted end faults faults_now fault is_due ended later
      opens distinct is cause come = by (front-of prior now (sent ++ out) was call calls end is_due ended later come)
    where
      by : IsFront prior now was.waiting come.ends end calls → ComesAtGateway rules overlap told input input_now first before now
          (sent ++ out_now) left calls unwanted (Some (Err fault))
      by front = ended-so now now (sent ++ out_now) left calls unwanted (Err fault)
          (with_end come.ends (sequence_of overlap front.op.act) front.after)
          (ends-later come.ends (sequence_of overlap front.op.act) prior front.after now come.later later front.later)
          (order.same now) opens distinct
          (halts (ways_of rules overlap) told input input_now (stand (λ _. first) before)
          (stand come.ends (sent ++ out)) (stand (with_end come.ends (sequence_of overlap front.op.act) front.after)
          (sent ++ out_now)) was faults faults_now fault
          (under-of (ways_of rules overlap) told input input_now (stand (λ _. first) before)
          (stand come.ends (sent ++ out)) was (due-some told was.waiting (due.Call front.op) front.due) come.come)
          (call-breaks (ways_of rules overlap) told come.ends
          (with_end come.ends (sequence_of overlap front.op.act) front.after) (sent ++ out) (sent ++ out_now) front.op
          end fault was.waiting front.due front.made (part sent (first_text end was.waiting) out out_now is)) cause)

  -- the call that is due was begun
  pub called : (now next : G) (held : List ℕ) (progress : Progress) (op : Asked) (call : K)
      → IsDue told progress.waiting (due.Call op) → rules.opened next call op now → rules.later now next
      → ComesAtGateway rules overlap told input input_now first before now held progress [] 0 None
      → ComesAtGateway rules overlap told input input_now first before next held progress (Open call ∷ []) 0 None
  called now next held progress op call is opened later come = record {
    ends = come.ends;
    later = λ sequence. order.on (come.ends sequence) now next (come.later sequence) later;
    come = come.come;
    wanted = λ _. subst (λ (asks : List Act). AreCalls rules overlap told come.ends next asks (Open call ∷ [])) (sym acts.1) (
      (
        op,
        now,
        record {
          act_is = refl;
          moment = due-moment told op progress.waiting is;
          later = come.later (sequence_of overlap op.act);
        },
        opened,
      ),
      All-nil _,
      tt,
    );
    opened = opens;
    distinct = (λ has. has, tt);
  }
    where
      acts : (rest : List Act) × (acts_ahead progress.waiting ≡ op.act ∷ rest)
      acts = due-acts told progress.waiting op is

      opens : AreOpen rules next (Open call ∷ [])
      opens one (inl same) = (op, now, subst (λ (k : K). rules.opened next k op now) (sym same) opened)
      opens one (inr has) = absurd has

  -- there was no memory for what the first of the requests needs, or for a call ahead of it
  pub wants-first : (now next : G) (held : List ℕ) (was : Progress) (calls : List (OpenCall K)) (unwanted : ℕ)
      → was.waiting ≢ [] → rules.later now next → AreOpen rules next calls → StandOnce calls
      → ComesAtGateway rules overlap told input input_now first before now held was calls unwanted None
      → ComesAtGateway rules overlap told input input_now first before next held was calls unwanted (Some (Err Want))
  wants-first now next held was calls unwanted some later opens distinct come =
      ended-so now next held was calls unwanted (Err Want) come.ends come.later later opens distinct
      (halts (ways_of rules overlap) told input input_now (stand (λ _. first) before) (stand come.ends held) (stand come.ends held) was 0 0 Want
      (under-of (ways_of rules overlap) told input input_now (stand (λ _. first) before) (stand come.ends held) was some come.come)
      (breaks-early (ways_of rules overlap) told come.ends held Want was.waiting some) (record { later = omega arith; cause = tt }))

  -- there was none for the call that is due
  pub wants-call : (now next : G) (held : List ℕ) (was : Progress) (calls : List (OpenCall K)) (unwanted : ℕ)
      (op : Asked) → IsDue told was.waiting (due.Call op) → rules.ways.kept now op next → rules.later now next
      → AreOpen rules next calls → StandOnce calls
      → ComesAtGateway rules overlap told input input_now first before now held was calls unwanted None
      → ComesAtGateway rules overlap told input input_now first before next held was calls unwanted (Some (Err Want))
  wants-call now next held was calls unwanted op is kept later opens distinct come =
      ended-so next next held was calls unwanted (Err Want) ends_now
      (ends-later come.ends (sequence_of overlap op.act) now next next come.later later (order.same next))
      (order.same next) opens distinct
      (halts (ways_of rules overlap) told input input_now (stand (λ _. first) before) (stand come.ends held) (stand ends_now held) was 0 0 Want
      (under-of (ways_of rules overlap) told input input_now (stand (λ _. first) before) (stand come.ends held) was
      (due-some told was.waiting (due.Call op) is) come.come)
      (breaks-wanted (ways_of rules overlap) told come.ends ends_now held op was.waiting is
      (now, next, come.later (sequence_of overlap op.act), kept, refl)) (record { later = omega arith; cause = tt }))
    where
      ends_now : List ℕ → G
      ends_now = with_end come.ends (sequence_of overlap op.act) next

  -- there was none for the order that is due
  pub wants-order : (now next : G) (held : List ℕ) (was : Progress) (calls : List (OpenCall K)) (unwanted : ℕ)
      (at : ProcessId) (keep : ℕ) → IsDue told was.waiting (due.Fail at keep) → rules.ways.unmade now next
      → AreOpen rules next calls → StandOnce calls
      → ComesAtGateway rules overlap told input input_now first before now held was calls unwanted None
      → ComesAtGateway rules overlap told input input_now first before next held was calls unwanted (Some (Err Want))
  wants-order now next held was calls unwanted at keep is unmade opens distinct come =
      ended-so next next held was calls unwanted (Err Want) (λ _. next) (λ _. order.same next) (order.same next) opens
      distinct
      (halts (ways_of rules overlap) told input input_now (stand (λ _. first) before) (stand come.ends held) (stand (λ _. next) held) was 0 0 Want
      (under-of (ways_of rules overlap) told input input_now (stand (λ _. first) before) (stand come.ends held) was
      (due-some told was.waiting (due.Fail at keep) is) come.come)
      (breaks-unmade (ways_of rules overlap) told come.ends (λ _. next) held at keep was.waiting is
      (now, next, come.later, unmade, refl)) (record { later = omega arith; cause = tt }))

  -- an order was given, and its text is written
  pub orders : (now next : G) (sent out out_now : List ℕ) (was left : Progress) (calls : List (OpenCall K))
      (at : ProcessId) (keep : ℕ) (end : FailEnd) → IsDue told was.waiting (due.Fail at keep)
      → rules.ways.failed now at keep end next
      → HasTold (fail_text end) out out_now was.waiting left.waiting → left.kept ≡ was.kept → left.quits ≡ was.quits → left.count ≡ was.count
      → ComesAtGateway rules overlap told input input_now first before now (sent ++ out) was calls 0 None → GoesOnSo next (sent ++ out_now) left calls
  orders now next sent out out_now was left calls at keep end is failed text kept quits count come = record {
    ends = λ _. next;
    later = λ _. order.same next;
    under = more (ways_of rules overlap) told input input_now (stand (λ _. first) before)
        (stand come.ends (sent ++ out)) (stand (λ _. next) (sent ++ out_now)) was left
        (under-of (ways_of rules overlap) told input input_now (stand (λ _. first) before)
        (stand come.ends (sent ++ out)) was (due-some told was.waiting (due.Fail at keep) is) come.come)
        (order-steps (ways_of rules overlap) told come.ends (λ _. next) (sent ++ out) (sent ++ out_now) at keep end
        was.waiting left.waiting is (now, next, come.later, failed, refl)
        (told-of sent (fail_text end) out out_now was.waiting left.waiting text)) kept quits count;
    are = subst (λ (cs : List (OpenCall K)). AreCalls rules overlap told (λ _. next) next (acts_ahead left.waiting) cs) (sym none) tt;
  }
    where
      none : calls ≡ []
      none = calls-none rules order overlap told come.ends now (acts_ahead was.waiting) calls (order-acts was.waiting (told, at, keep, is)) (come.wanted refl)

  pub orders-broken : (now next : G) (sent out out_now : List ℕ) (was left : Progress) (calls : List (OpenCall K))
      (unwanted : ℕ) (at : ProcessId) (keep : ℕ) (end : FailEnd) (faults faults_now : ℕ) (fault : ConnectionFault)
      → IsDue told was.waiting (due.Fail at keep)
      → rules.ways.failed now at keep end next → AreOpen rules next calls → StandOnce calls
      → HasWritten out out_now (fail_text end) → HasSinkCause {T = Unit {0}} faults faults_now (Err fault)
      → ComesAtGateway rules overlap told input input_now first before now (sent ++ out) was calls unwanted None
      → ComesAtGateway rules overlap told input input_now first before next (sent ++ out_now) left calls unwanted
      (Some (Err fault))
  orders-broken now next sent out out_now was left calls unwanted at keep end faults faults_now fault is failed opens
      distinct text cause come = ended-so next next (sent ++ out_now) left calls unwanted (Err fault) (λ _. next)
      (λ _. order.same next) (order.same next) opens distinct
      (halts (ways_of rules overlap) told input input_now (stand (λ _. first) before) (stand come.ends (sent ++ out))
      (stand (λ _. next) (sent ++ out_now)) was faults faults_now fault
      (under-of (ways_of rules overlap) told input input_now (stand (λ _. first) before) (stand come.ends (sent ++ out))
      was (due-some told was.waiting (due.Fail at keep) is) come.come)
      (order-breaks (ways_of rules overlap) told come.ends (λ _. next) (sent ++ out) (sent ++ out_now) at keep end fault
      was.waiting is (now, next, come.later, failed, refl) (part sent (fail_text end) out out_now text)) cause)

  -- the text of a request that needs no call is written
  pub tells : (now : G) (sent out out_now : List ℕ) (was left : Progress) (calls : List (OpenCall K))
      → IsDue told was.waiting due.Text → HasTold (own_text was.waiting) out out_now was.waiting left.waiting
      → left.kept ≡ was.kept → left.quits ≡ was.quits → left.count ≡ was.count
      → ComesAtGateway rules overlap told input input_now first before now (sent ++ out) was calls 0 None → GoesOnSo now (sent ++ out_now) left calls
  tells now sent out out_now was left calls is text kept quits count come = record {
    ends = come.ends;
    later = come.later;
    under = more (ways_of rules overlap) told input input_now (stand (λ _. first) before)
        (stand come.ends (sent ++ out)) (stand come.ends (sent ++ out_now)) was left
        (under-of (ways_of rules overlap) told input input_now (stand (λ _. first) before)
        (stand come.ends (sent ++ out)) was (due-some told was.waiting due.Text is) come.come)
        (text-steps (ways_of rules overlap) told come.ends (sent ++ out) (sent ++ out_now) was.waiting left.waiting is
        (told-of sent (own_text was.waiting) out out_now was.waiting left.waiting text)) kept quits count;
    are = subst (λ (asks : List Act). AreCalls rules overlap told come.ends now asks calls)
        (sym (told-acts (own_text was.waiting) out out_now was.waiting left.waiting (told, is) text))
        (come.wanted refl);
  }

  pub tells-broken : (now : G) (sent out out_now : List ℕ) (was left : Progress) (calls : List (OpenCall K))
      (unwanted : ℕ) (faults faults_now : ℕ) (fault : ConnectionFault) → IsDue told was.waiting due.Text
      → HasWritten out out_now (own_text was.waiting)
      → HasSinkCause {T = Unit {0}} faults faults_now (Err fault)
      → ComesAtGateway rules overlap told input input_now first before now (sent ++ out) was calls unwanted None
      → ComesAtGateway rules overlap told input input_now first before now (sent ++ out_now) left calls unwanted
      (Some (Err fault))
  tells-broken now sent out out_now was left calls unwanted faults faults_now fault is text cause come =
      ended-so now now (sent ++ out_now) left calls unwanted (Err fault) come.ends come.later (order.same now)
      come.opened come.distinct
      (halts (ways_of rules overlap) told input input_now (stand (λ _. first) before) (stand come.ends (sent ++ out))
      (stand come.ends (sent ++ out_now)) was faults faults_now fault
      (under-of (ways_of rules overlap) told input input_now (stand (λ _. first) before) (stand come.ends (sent ++ out))
      was (due-some told was.waiting due.Text is) come.come)
      (text-breaks (ways_of rules overlap) told come.ends (sent ++ out) (sent ++ out_now) fault was.waiting is
      (part sent (own_text was.waiting) out out_now text)) cause)

  -- the first of its calls was let go, whose end was wanted no more
  pub lets-go : (now next : G) (held : List ℕ) (progress : Progress) (calls calls_now : List (OpenCall K))
      (unwanted unwanted_now : ℕ) (end : Option (Result End ConnectionFault))
      → (end ≡ None → drop unwanted_now calls_now ≡ drop unwanted calls)
      → ((call : K) → HasOpen calls_now call → HasOpen calls call) → StandOnce calls_now → KeepsCalls rules calls_now now next → rules.later now next
      → ComesAtGateway rules overlap told input input_now first before now held progress calls unwanted end
      → ComesAtGateway rules overlap told input input_now first before next held progress calls_now unwanted_now end
  lets-go now next held progress calls calls_now unwanted unwanted_now end same fewer distinct keeps later come = record {
    ends = come.ends;
    later = λ sequence. order.on (come.ends sequence) now next (come.later sequence) later;
    come = come.come;
    wanted = λ goes. calls-stay rules order overlap told come.ends now next (acts_ahead progress.waiting)
        (drop unwanted_now calls_now)
        (λ call op began has. keeps call op began (open-drop unwanted_now calls_now call has)) later
        (subst (λ (cs : List (OpenCall K)). AreCalls rules overlap told come.ends now (acts_ahead progress.waiting) cs) (sym (same goes)) (come.wanted goes));
    opened = still-open rules now next calls_now keeps (λ call has. come.opened call (fewer call has));
    distinct = distinct;
  }

  -- all that was read is answered, and no call is under way
  pub none-under-way : (now : G) (held : List ℕ) (was : Progress) (calls : List (OpenCall K)) → was.waiting ≡ []
      → ComesAtGateway rules overlap told input input_now first before now held was calls 0 None → calls ≡ []
  none-under-way now held was calls none come = calls-none rules order overlap told come.ends now
      (acts_ahead was.waiting) calls (ap acts_ahead none) (come.wanted refl)

  -- a piece was read, or none was there
  pub reads : (now : G) (input_next : Input) (held held_next : List ℕ) (was left : Progress) (calls : List (OpenCall K))
      (end : Option (Result End ConnectionFault)) → was.waiting ≡ []
      → ((ends : List ℕ → G) → ConnectionGoesOn (ways_of rules overlap) told input input_now (stand (λ _. first) before) (stand ends held) was.kept was.count
      → HasComeTo (ways_of rules overlap) told input input_next (stand (λ _. first) before) (stand ends held_next) left end)
      → ComesAtGateway rules overlap told input input_now first before now held was calls 0 None
      → ComesAtGateway rules overlap told input input_next first before now held_next left calls 0 end
  reads now input_next held held_next was left calls end none reading come = record {
    ends = come.ends;
    later = come.later;
    come = reading come.ends (goes-of (ways_of rules overlap) told input input_now (stand (λ _. first) before) (stand come.ends held) was none come.come);
    wanted = λ _. subst (λ (cs : List (OpenCall K)). AreCalls rules overlap told come.ends now (acts_ahead left.waiting)
        cs) (sym (none-under-way now held was calls none come)) tt;
    opened = come.opened;
    distinct = come.distinct;
  }

  -- none of its calls is unwanted, and it has not ended
  pub resumes : (now : G) (held : List ℕ) (progress : Progress) (calls : List (OpenCall K)) (unwanted : ℕ)
      (end : Option (Result End ConnectionFault)) → unwanted ≡ 0 → end ≡ None
      → ComesAtGateway rules overlap told input input_now first before now held progress calls unwanted end
      → ComesAtGateway rules overlap told input input_now first before now held progress calls 0 None
  resumes now held progress calls unwanted end wanted goes come =
      subst (λ (n : ℕ). ComesAtGateway rules overlap told input input_now first before now held progress calls n None) wanted
      (subst (λ (e : Option (Result End ConnectionFault)). ComesAtGateway rules overlap told input input_now first before now held progress calls unwanted e)
      goes come)

module _ {G K : Type 0} (rules : Rules G K) (order : IsOrder rules.later) (told : Option ℕ) (input input_now : Input) (first : G) (before : List ℕ) where
  -- a call was begun behind those that are under way, on another key
  pub called-behind : (now next : G) (held : List ℕ) (progress : Progress) (calls : List (OpenCall K))
      (one : OpenCall K) (op : Asked) → IsDueAhead told progress.waiting (length calls) op
      → IsBegunAs rules now op one next → KeepsOpen rules now next → rules.later now next
      → ComesAtGateway rules OtherKeys told input input_now first before now held progress calls 0 None
      → ComesAtGateway rules OtherKeys told input input_now first before next held progress (calls ++ one ∷ []) 0 None
  called-behind now next held progress calls one op is begun keeps later come = record {
    ends = come.ends;
    later = λ sequence. order.on (come.ends sequence) now next (come.later sequence) later;
    come = come.come;
    wanted = λ _. subst (λ (asks : List Act). AreCalls rules OtherKeys told come.ends next asks (calls ++ one ∷ [])) (sym is.split)
        (calls-more rules order OtherKeys told come.ends next op.act one is.before is.behind calls is.count is.apart
        (calling-begun rules order OtherKeys told come.ends now next op one
        (record { act_is = refl; moment = is.moment; later = come.later (key_of op.act) }) begun)
        (subst (λ (asks : List Act). AreCalls rules OtherKeys told come.ends next asks calls) is.split
        (calls-stay rules order OtherKeys told come.ends now next (acts_ahead progress.waiting) calls
        (λ call call_op began has. keeps call call_op began) later (come.wanted refl))));
    opened = λ call has. by call (open-in calls (one ∷ []) call has);
    distinct = distinct-more calls one come.distinct (λ call has at. let opened = come.opened call at in
        begun-fresh rules now next op one begun call has opened.0 opened.1 opened.2);
  }
    where
      by : (call : K) → HasOpen calls call ⊎ HasOpen (one ∷ []) call → (call_op : Asked) × (began : G) × rules.opened next call call_op began
      by call (inl here) = let opened = come.opened call here in (opened.0, opened.1, keeps call opened.0 opened.1 opened.2)
      by call (inr there) = (op, now, begun-open rules now next op one begun call there)

pub no-end : (end : Option (Result End ConnectionFault)) → is_some end ≡ false → end ≡ None
no-end None is = refl
no-end (Some result) is = absurd (cc is)

pub some-of : {K : Type 0} (P : K → Type 0) (found : Option K) (one : K) → found ≡ Some one → IfSome found P → P one
some-of P found one is holds = subst (λ (o : Option _). IfSome o P) is holds

-- a connection of which text went out
pub sends : {G K : Type 0} (rules : Rules G K) (overlap : Overlap) (told : Option ℕ)
    (input input_then input_now : Input) (first now : G) (before held held_now : List ℕ) (was progress : Progress)
    (calls calls_now : Calls K) (end end_now : Option (Result End ConnectionFault))
    → held_now ≡ held → input_now ≡ input_then → progress ≡ was → calls_now ≡ calls → end_now ≡ end
    → ComesAtGateway rules overlap told input input_then first before now held was calls.list calls.unwanted end
    → ComesAtGateway rules overlap told input input_now first before now held_now progress calls_now.list calls_now.unwanted
    end_now
sends rules overlap told input input_then input_now first now before held held_now was progress calls calls_now end end_now text read same called ended come =
    subst (λ (e : Option (Result End ConnectionFault)). ComesAtGateway rules overlap told input input_now first before now
    held_now progress calls_now.list calls_now.unwanted e) (sym ended)
    (subst (λ (cs : Calls _). ComesAtGateway rules overlap told input input_now first before now held_now progress cs.list cs.unwanted end) (sym called)
    (subst (λ (p : Progress). ComesAtGateway rules overlap told input input_now first before now held_now p calls.list calls.unwanted end) (sym same)
    (subst (λ (i : Input). ComesAtGateway rules overlap told input i first before now held_now was calls.list calls.unwanted end) (sym read)
    (subst (λ (bs : List ℕ). ComesAtGateway rules overlap told input input_then first before now bs was calls.list calls.unwanted end) (sym text) come))))
