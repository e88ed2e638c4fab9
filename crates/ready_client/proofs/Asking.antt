-- Steps that were made one behind the other, and what each asks.
use Rattle.std.proofs.Common.{◌≡◌, ◌≢◌, ◌<◌, ◌≤◌, ◌+◌, ◌-◌, ℕ, List, [], ◌∷◌, ◌++◌, Bool, true, false, ◌||◌, length, Option}
use Rattle.std.proofs.Common.{Some, None, Result, Ok, Err, refl, sym, ap, ◌∙◌, subst, arith, ◌⊎◌, inl, inr}
use Rattle.std.specs.List.{list_any}
use Rattle.std.proofs.lemmas.List.{length-append, take_all}
use Rattle.std.proofs.lemmas.List.Elements.{All-nil}
use Rattle.std.proofs.lemmas.List.Folds.{list_any-append}
use Rattle.edge_io.specs.Moving.{Input}
use Rattle.edge_io.specs.Writing.{HasWritten}
use Rattle.group_types.specs.declared.process.ProcessId.{ProcessId}
use Rattle.memc_table.specs.Asked.{Asked}
use Rattle.memc_proto.specs.Reader.{HasRead, ReaderState}
use Rattle.memc_proto.specs.Reads.{is_quit}
use Rattle.memc_proto.specs.Text.{fail_text, too_long_text}
use Rattle.memc_proto.specs.declared.end.CallEnd.{CallEnd}
use Rattle.memc_proto.specs.declared.end.FailEnd.{FailEnd}
use Rattle.memc_proto.specs.declared.request.Request.{Request}
use Rattle.front_end.specs.Ahead.{IsDueAhead, acts_ahead, unneeded_of}
use Rattle.front_end.specs.Answers.{stand}
use Rattle.front_end.specs.Gateway.{Rules}
use Rattle.front_end.specs.Order.{IsOrder}
use Rattle.front_end.specs.Progress.{EndsConnection, Progress}
use Rattle.front_end.specs.Settling.{CallIsDue, IsDue, HasSettledDue, HasTold, first_text, own_text}
use Rattle.front_end.specs.declared.due.Due.TheVariants as due
use Rattle.front_end.specs.declared.end.ConnectionFault.{ConnectionFault}
use Rattle.front_end.specs.declared.end.ConnectionFault.TheVariants.{ReadFault, WriteFault, Want}
use Rattle.front_end.specs.declared.end.End.{End}
use Rattle.front_end.specs.declared.end.End.TheVariants as ends
use Rattle.front_end.specs.declared.overlap.Overlap.{Overlap}
use Rattle.front_end.proofs.Ahead.{due-acts, order-acts}
use Rattle.ready_client.specs.Asking.{ConnectionAt, connection_at, Asking, Begins, Takes, LetsGo, Orders, Tells, Reads}
use Rattle.ready_client.specs.Asking.{Wants, HasReadSo, Closes, LeftUnasked, Did, Does, Asks, most_unsent}
use Rattle.ready_client.specs.Calling.{IsBegunAs, HasEndOf}
use Rattle.ready_client.specs.Coming.{ways_of, ComesAtGateway, IsUnderWay}
use Rattle.ready_client.specs.declared.calls.Calls.{Calls}
use Rattle.ready_client.specs.declared.open_call.OpenCall.{OpenCall}
use Rattle.ready_client.proofs.Beginning.{calls-none}
use Rattle.ready_client.proofs.Calling.{due-moment, due-some}
use Rattle.ready_client.proofs.Coming.{goes-of, under-of}
use Rattle.ready_client.proofs.Telling.{part, settled, told-of}

-- the call that is due where none is under way
pub due-first : (told : Option ℕ) (waiting : List Request) (op : Asked) → IsDue told waiting (due.Call op) → IsDueAhead told waiting 0 op
due-first told waiting op is = let acts = due-acts told waiting op is in record {
  before = [];
  behind = acts.0;
  split = acts.1;
  count = refl;
  apart = All-nil _;
  moment = due-moment told op waiting is;
}

-- requests that are read behind others
pub read-behind : (was now : ReaderState) (piece : List ℕ) (waiting : List Request) (quits : Bool) → HasReadSo was false
    → ((fed : List ℕ) (earlier : List Request) → HasRead was fed earlier → HasRead now (fed ++ piece)
    (earlier ++ waiting)) → quits ≡ list_any is_quit waiting → HasReadSo now quits
read-behind was now piece waiting quits so taken is = record {
  fed = so.fed ++ piece;
  requests = so.requests ++ waiting;
  has_read = taken so.fed so.requests so.has_read;
  quit = list_any-append is_quit so.requests waiting ∙ ap (λ (b : Bool). b || list_any is_quit waiting) so.quit ∙ sym is;
}

-- what a close writes
pub closes-so : (quits : Bool) (rest before now : List ℕ) (waiting : List Request)
    (result : Result (Option End) ConnectionFault) → waiting ≡ [] → EndsConnection quits rest before now result
    → Closes waiting before now
closes-so quits rest before now waiting (Ok (Some ends.Quit)) none is = inl is.1
closes-so quits rest before now waiting (Ok (Some ends.LineTooLong)) none is = inr (none, written)
  where
    written : HasWritten before now too_long_text
    written = record {
      count = length too_long_text;
      bytes = is.2 ∙ ap (λ (bs : List ℕ). before ++ bs)
          (sym (take_all (length too_long_text) too_long_text (omega arith)));
    }
closes-so quits rest before now waiting (Ok (Some ends.Ended)) none is = absurd is
closes-so quits rest before now waiting (Ok (Some ends.Cut)) none is = absurd is
closes-so quits rest before now waiting (Ok (Some ends.Worn)) none is = absurd is
closes-so quits rest before now waiting (Ok None) none is = inl is.2
closes-so quits rest before now waiting (Err ReadFault) none is = absurd is
closes-so quits rest before now waiting (Err WriteFault) none is = inr (none, is.2)
closes-so quits rest before now waiting (Err Want) none is = inr (none, is.2)

pub closes-behind : (h before now : List ℕ) (waiting : List Request) → Closes waiting before now → Closes waiting (h ++ before) (h ++ now)
closes-behind h before now waiting (inl same) = inl (ap (λ (bs : List ℕ). h ++ bs) same)
closes-behind h before now waiting (inr is) = inr (is.0, part h _ before now is.1)

-- what waits to be sent, and what was
pub soon : (sent out : List ℕ) → length out ≤ most_unsent → length (sent ++ out) ≤ length sent + most_unsent
soon sent out short = omega (arith, short, length-append sent out)

module _ {G K : Type 0} (rules : Rules G K) (told : Option ℕ) (sent : List ℕ) where
  pub asks-none : (at : ConnectionAt G K) → Asks rules told sent at at
  asks-none at = ([], refl)

  pub asks-one : (step : Asking K) (before after : ConnectionAt G K) → Does rules told sent step before after → Asks rules told sent before after
  asks-one step before after does = (step ∷ [], (after, does, refl))

  did-then : (steps steps_then : List (Asking K)) (before then after : ConnectionAt G K)
      → Did rules told sent steps before then → Did rules told sent steps_then then after
      → Did rules told sent (steps ++ steps_then) before after
  did-then [] steps_then before then after first second = subst (λ (at : ConnectionAt G K). Did rules told sent steps_then at after) first second
  did-then (step ∷ steps) steps_then before then after first second = (first.0, first.1, did-then steps steps_then first.0 then after first.2 second)

  pub asks-then : (before then after : ConnectionAt G K) → Asks rules told sent before then
      → Asks rules told sent then after → Asks rules told sent before after
  asks-then before then after first second = (first.0 ++ second.0, did-then first.0 second.0 before then after first.1 second.1)

  -- the same, by other names
  pub asks-as : (before : ConnectionAt G K) (now : G) (was progress : Progress) (calls calls_now : Calls K)
      (end end_now : Option (Result End ConnectionFault)) (held held_now : List ℕ)
      → held_now ≡ held → progress ≡ was → calls_now ≡ calls → end_now ≡ end
      → Asks rules told sent before (connection_at now was calls.list calls.unwanted end held)
      → Asks rules told sent before (connection_at now progress calls_now.list calls_now.unwanted end_now held_now)
  asks-as before now was progress calls calls_now end end_now held held_now text same called ended asked =
      subst (λ (e : Option (Result End ConnectionFault)). Asks rules told sent before
      (connection_at now progress calls_now.list calls_now.unwanted e held_now)) (sym ended)
      (subst (λ (cs : Calls K). Asks rules told sent before (connection_at now progress cs.list cs.unwanted end held_now)) (sym called)
      (subst (λ (p : Progress). Asks rules told sent before (connection_at now p calls.list calls.unwanted end held_now)) (sym same)
      (subst (λ (bs : List ℕ). Asks rules told sent before (connection_at now was calls.list calls.unwanted end bs)) (sym text) asked)))

  -- a call was begun
  pub begins-one : (before now : G) (progress : Progress) (calls calls_now : List (OpenCall K)) (held : List ℕ) (op : Asked) (call : OpenCall K)
      → length held ≤ length sent + most_unsent
      → IsDueAhead told progress.waiting (length calls) op → IsBegunAs rules before op call now → calls_now ≡ calls ++ call ∷ []
      → Asks rules told sent (connection_at before progress calls 0 None held) (connection_at now progress calls_now 0 None held)
  begins-one before now progress calls calls_now held op call short is begun more =
      asks-one (Begins op call) (connection_at before progress calls 0 None held)
      (connection_at now progress calls_now 0 None held)
      ((refl, refl, short), is, begun, ap (λ (cs : List (OpenCall K)). connection_at now progress cs 0 None held) more)

  -- its end was taken, and answered
  pub takes-one : (before now : G) (was left : Progress) (calls calls_now : List (OpenCall K)) (unwanted : ℕ)
      (end_now : Option (Result End ConnectionFault)) (out middle out_now : List ℕ) (call : OpenCall K)
      (end : CallEnd)
      → HasEndOf rules before call end now → calls_now ≡ calls → unwanted ≤ unneeded_of end was.waiting
      → HasSettledDue end out middle was.waiting left.waiting → Closes left.waiting middle out_now
      → Asks rules told sent (connection_at before was (call ∷ calls) 0 None (sent ++ out))
      (connection_at now left calls_now unwanted end_now (sent ++ out_now))
  takes-one before now was left calls calls_now unwanted end_now out middle out_now call end has same most is closes =
      asks-one (Takes call end) (connection_at before was (call ∷ calls) 0 None (sent ++ out))
      (connection_at now left calls_now unwanted end_now (sent ++ out_now)) (
        (refl, refl),
        ap (λ (cs : List (OpenCall K)). call ∷ cs) (sym same),
        has,
        most,
        inl (
          sent ++ middle,
          settled sent end out middle was.waiting left.waiting is,
          closes-behind sent middle out_now
              left.waiting closes,
        ),
      )

  -- a fault came as the answer was written
  pub takes-part : (before now : G) (was left : Progress) (calls calls_now : List (OpenCall K)) (unwanted : ℕ)
      (fault : ConnectionFault) (out out_now : List ℕ) (call : OpenCall K) (end : CallEnd)
      → HasEndOf rules before call end now → calls_now ≡ calls → unwanted ≤ unneeded_of end was.waiting → left ≡ was
      → HasWritten out out_now (first_text end was.waiting)
      → Asks rules told sent (connection_at before was (call ∷ calls) 0 None (sent ++ out))
      (connection_at now left calls_now unwanted (Some (Err fault)) (sent ++ out_now))
  takes-part before now was left calls calls_now unwanted fault out out_now call end has same most stays text =
      asks-one (Takes call end) (connection_at before was (call ∷ calls) 0 None (sent ++ out))
      (connection_at now left calls_now unwanted (Some (Err fault)) (sent ++ out_now)) (
        (refl, refl),
        ap (λ (cs : List (OpenCall K)). call ∷ cs) (sym same),
        has,
        most,
        inr (fault, refl, stays, part sent (first_text end was.waiting) out out_now text),
      )

  -- a call that is wanted no more was let go
  pub lets-one-go : (before now : G) (progress : Progress) (calls calls_now : List (OpenCall K))
      (unwanted unwanted_now : ℕ) (end : Option (Result End ConnectionFault)) (held : List ℕ) (call : OpenCall K)
      (ended : CallEnd)
      → (0 < unwanted) ⊎ (end ≢ None) → calls ≡ call ∷ calls_now → HasEndOf rules before call ended now → unwanted_now ≡ unwanted - 1
      → Asks rules told sent (connection_at before progress calls unwanted end held) (connection_at now progress calls_now unwanted_now end held)
  lets-one-go before now progress calls calls_now unwanted unwanted_now end held call ended may same has fewer =
      asks-one (LetsGo call ended) (connection_at before progress calls unwanted end held)
      (connection_at now progress calls_now unwanted_now end held)
      (may, same, has, ap (λ (n : ℕ). connection_at now progress calls_now n end held) fewer)

  -- an order was given, and answered
  pub orders-one : (before now : G) (was left : Progress) (calls : List (OpenCall K))
      (end_now : Option (Result End ConnectionFault)) (out middle out_now : List ℕ) (at : ProcessId) (keep : ℕ)
      (end : FailEnd)
      → length out ≤ most_unsent
      → IsDue told was.waiting (due.Fail at keep) → calls ≡ [] → rules.ways.failed before at keep end now
      → HasTold (fail_text end) out middle was.waiting left.waiting → Closes left.waiting middle out_now
      → Asks rules told sent (connection_at before was calls 0 None (sent ++ out)) (connection_at now left calls 0 end_now (sent ++ out_now))
  orders-one before now was left calls end_now out middle out_now at keep end short is none failed text closes =
      asks-one (Orders at keep end) (connection_at before was calls 0 None (sent ++ out)) (connection_at now left calls 0 end_now (sent ++ out_now)) (
        (refl, refl, soon sent out short),
        is,
        none,
        failed,
        ap (λ (cs : List (OpenCall K)). connection_at now left cs 0 end_now (sent ++ out_now)) none,
        inl (sent ++ middle, told-of sent (fail_text end) out middle was.waiting left.waiting text, closes-behind sent middle out_now left.waiting closes),
      )

  pub orders-part : (before now : G) (was left : Progress) (calls : List (OpenCall K)) (fault : ConnectionFault)
      (out out_now : List ℕ) (at : ProcessId) (keep : ℕ) (end : FailEnd)
      → length out ≤ most_unsent
      → IsDue told was.waiting (due.Fail at keep) → calls ≡ [] → rules.ways.failed before at keep end now → left ≡ was → HasWritten out out_now (fail_text end)
      → Asks rules told sent (connection_at before was calls 0 None (sent ++ out)) (connection_at now left calls 0 (Some (Err fault)) (sent ++ out_now))
  orders-part before now was left calls fault out out_now at keep end short is none failed stays text =
      asks-one (Orders at keep end) (connection_at before was calls 0 None (sent ++ out))
      (connection_at now left calls 0 (Some (Err fault)) (sent ++ out_now)) (
        (refl, refl, soon sent out short),
        is,
        none,
        failed,
        ap (λ (cs : List (OpenCall K)). connection_at now left cs 0 (Some (Err fault)) (sent ++ out_now)) none,
        inr (fault, refl, stays, part sent (fail_text end) out out_now text),
      )

  -- a text that needs no call was told
  pub tells-one : (now : G) (was left : Progress) (calls : List (OpenCall K)) (end_now : Option (Result End ConnectionFault)) (out middle out_now : List ℕ)
      → length out ≤ most_unsent
      → IsDue told was.waiting due.Text → HasTold (own_text was.waiting) out middle was.waiting left.waiting → Closes left.waiting middle out_now
      → Asks rules told sent (connection_at now was calls 0 None (sent ++ out)) (connection_at now left calls 0 end_now (sent ++ out_now))
  tells-one now was left calls end_now out middle out_now short is text closes =
      asks-one Tells (connection_at now was calls 0 None (sent ++ out))
      (connection_at now left calls 0 end_now (sent ++ out_now)) (
        (refl, refl, soon sent out short),
        is,
        refl,
        inl (
          sent ++ middle,
          told-of sent (own_text was.waiting) out middle was.waiting left.waiting text,
          closes-behind sent middle out_now left.waiting closes,
        ),
      )

  pub tells-part : (now : G) (was left : Progress) (calls : List (OpenCall K)) (fault : ConnectionFault)
      (out out_now : List ℕ) → length out ≤ most_unsent
      → IsDue told was.waiting due.Text → left ≡ was
      → HasWritten out out_now (own_text was.waiting)
      → Asks rules told sent (connection_at now was calls 0 None (sent ++ out)) (connection_at now left calls 0 (Some (Err fault)) (sent ++ out_now))
  tells-part now was left calls fault out out_now short is stays text =
      asks-one Tells (connection_at now was calls 0 None (sent ++ out))
      (connection_at now left calls 0 (Some (Err fault)) (sent ++ out_now))
      ((refl, refl, soon sent out short), is, refl, inr (fault, refl, stays, part sent (own_text was.waiting) out out_now text))

  -- a piece was read, or none was there
  pub reads-one : (now : G) (was left : Progress) (calls : List (OpenCall K))
      (end_now : Option (Result End ConnectionFault)) (held held_now : List ℕ) → length held ≤ length sent + most_unsent
      → was.waiting ≡ []
      → Closes left.waiting held held_now
      → Asks rules told sent (connection_at now was calls 0 None held) (connection_at now left calls 0 end_now held_now)
  reads-one now was left calls end_now held held_now short none closes =
      asks-one Reads (connection_at now was calls 0 None held) (connection_at now left calls 0 end_now held_now)
      ((refl, refl, short), none, refl, closes)

  -- there was no memory
  pub wants-none : (now : G) (progress : Progress) (calls : List (OpenCall K)) (held : List ℕ)
      → length held ≤ length sent + most_unsent
      → Asks rules told sent (connection_at now progress calls 0 None held)
      (connection_at now progress calls 0 (Some (Err Want)) held)
  wants-none now progress calls held short = asks-one Wants (connection_at now progress calls 0 None held)
      (connection_at now progress calls 0 (Some (Err Want)) held) ((refl, refl, short), inl refl, refl)

  pub wants-begin : (before now : G) (progress : Progress) (calls calls_now : List (OpenCall K)) (held : List ℕ)
      (op : Asked) → length held ≤ length sent + most_unsent
      → IsDueAhead told progress.waiting (length calls) op → (now ≡ before) ⊎ rules.ways.kept before op now
      → calls_now ≡ calls
      → Asks rules told sent (connection_at before progress calls 0 None held) (connection_at now progress calls_now 0 (Some (Err Want)) held)
  wants-begin before now progress calls calls_now held op short is left same =
      asks-one Wants (connection_at before progress calls 0 None held)
      (connection_at now progress calls_now 0 (Some (Err Want)) held)
      ((refl, refl, short), by left, ap (λ (cs : List (OpenCall K)). connection_at now progress cs 0 (Some (Err Want)) held) same)
    where
      by : (now ≡ before) ⊎ rules.ways.kept before op now → LeftUnasked rules told (connection_at before progress calls 0 None held) now
      by (inl still) = inl still
      by (inr kept) = inr (inl (op, is, kept))

  pub wants-fail : (before now : G) (progress : Progress) (calls : List (OpenCall K)) (held : List ℕ) (at : ProcessId)
      (keep : ℕ) → length held ≤ length sent + most_unsent
      → IsDue told progress.waiting (due.Fail at keep) → calls ≡ [] → rules.ways.unmade before now
      → Asks rules told sent (connection_at before progress calls 0 None held) (connection_at now progress calls 0 (Some (Err Want)) held)
  wants-fail before now progress calls held at keep short is none unmade =
      asks-one Wants (connection_at before progress calls 0 None held)
      (connection_at now progress calls 0 (Some (Err Want)) held)
      ((refl, refl, short), inr (inr (at, keep, is, none, unmade)), refl)

module _ {G K : Type 0} (rules : Rules G K) (order : IsOrder rules.later) (overlap : Overlap) (told : Option ℕ)
    (input input_now : Input) (first now : G) (before held : List ℕ) (progress : Progress)
    (calls : List (OpenCall K)) where
  -- what was read of a connection that has come so far
  pub read-so : progress.waiting ≢ [] → ComesAtGateway rules overlap told input input_now first before now held progress calls 0
      None → HasReadSo progress.kept progress.quits
  read-so some come = by (under-of (ways_of rules overlap) told input input_now (stand (λ _. first) before) (stand come.ends held) progress some come.come)
    where
      by : IsUnderWay (ways_of rules overlap) told input input_now (stand (λ _. first) before) (stand come.ends held)
          progress → HasReadSo progress.kept progress.quits
      by under = record {
        fed = under.goes.read ++ under.piece;
        requests = under.goes.requests ++ under.given;
        has_read = under.has_read;
        quit = list_any-append is_quit under.goes.requests under.given
            ∙ ap (λ (b : Bool). b || list_any is_quit under.given) under.goes.no_quit ∙ sym under.quits;
      }

  pub read-idle : progress.waiting ≡ [] → ComesAtGateway rules overlap told input input_now first before now held progress calls 0 None
      → HasReadSo progress.kept false
  read-idle none come = let goes = goes-of (ways_of rules overlap) told input input_now (stand (λ _. first) before)
      (stand come.ends held) progress none come.come in
      record { fed = goes.read; requests = goes.requests; has_read = goes.has_read; quit = goes.no_quit }

  -- where an order is due no call is under way
  pub order-none : (at : ProcessId) (keep : ℕ) → IsDue told progress.waiting (due.Fail at keep)
      → ComesAtGateway rules overlap told input input_now first before now held progress calls 0 None → calls ≡ []
  order-none at keep is come = calls-none rules order overlap told come.ends now (acts_ahead progress.waiting) calls
      (order-acts progress.waiting (told, at, keep, is)) (come.wanted refl)

pub call-some : (waiting : List Request) → CallIsDue waiting → waiting ≢ []
call-some waiting (told, op, is) = due-some told waiting (due.Call op) is

pub read-as : (kept kept_now : ReaderState) (quits quits_now : Bool) → kept_now ≡ kept → quits_now ≡ quits → HasReadSo kept quits → HasReadSo kept_now quits_now
read-as kept kept_now quits quits_now same same_quits so = subst (λ (q : Bool). HasReadSo kept_now q) (sym same_quits)
    (subst (λ (k : ReaderState). HasReadSo k quits) (sym same) so)

-- the same, of a text that is equal
pub asks-sent : {G K : Type 0} (rules : Rules G K) (told : Option ℕ) (sent sent_now : List ℕ) (before after : ConnectionAt G K)
    → sent_now ≡ sent → Asks rules told sent_now before after → Asks rules told sent before after
asks-sent rules told sent sent_now before after same asked =
    subst (λ (bs : List ℕ). Asks rules told bs before after) same asked

-- one was let go, or its end hasn't come
pub goes-or-waits : {G K : Type 0} (rules : Rules G K) (told : Option ℕ) (sent : List ℕ) (before now : G) (progress : Progress)
    (calls calls_now : Calls K) (end : Option (Result End ConnectionFault)) (held : List ℕ) (went : Bool)
    → (0 < calls.unwanted) ⊎ (end ≢ None)
    → (went ≡ true → (call : OpenCall K) × (ended : CallEnd) × HasEndOf rules before call ended now
    × (calls.list ≡ call ∷ calls_now.list) × (calls_now.unwanted ≡ calls.unwanted - 1))
    → (went ≡ false → (calls_now ≡ calls) × (now ≡ before))
    → Asks rules told sent (connection_at before progress calls.list calls.unwanted end held)
    (connection_at now progress calls_now.list calls_now.unwanted end held)
goes-or-waits rules told sent before now progress calls calls_now end held true may goes waits = let went = goes refl in
    lets-one-go rules told sent before now progress calls.list calls_now.list calls.unwanted calls_now.unwanted end held went.0 went.1 may went.3 went.2 went.4
goes-or-waits {G} {K} rules told sent before now progress calls calls_now end held false may goes waits = let same = waits refl in
    subst (λ (g : G). Asks rules told sent (connection_at before progress calls.list calls.unwanted end held)
    (connection_at g progress calls_now.list calls_now.unwanted end held)) (sym same.1)
    (asks-as rules told sent (connection_at before progress calls.list calls.unwanted end held) before progress progress
    calls calls_now end end held held refl refl same.0 refl
    (asks-none rules told sent (connection_at before progress calls.list calls.unwanted end held)))

-- none of its calls is unwanted, and it has not ended
pub asks-on : {G K : Type 0} (rules : Rules G K) (told : Option ℕ) (sent : List ℕ) (now : G) (progress : Progress)
    (calls : List (OpenCall K)) (unwanted : ℕ) (end : Option (Result End ConnectionFault)) (held : List ℕ)
    (after : ConnectionAt G K) → unwanted ≡ 0 → end ≡ None
    → Asks rules told sent (connection_at now progress calls 0 None held) after
    → Asks rules told sent (connection_at now progress calls unwanted end held) after
asks-on rules told sent now progress calls unwanted end held after wanted goes asked =
    subst (λ (n : ℕ). Asks rules told sent (connection_at now progress calls n end held) after) (sym wanted)
    (subst (λ (e : Option (Result End ConnectionFault)). Asks rules told sent (connection_at now progress calls 0 e held) after) (sym goes) asked)

-- no end was there, and nothing has moved
pub asks-still : {G K : Type 0} (rules : Rules G K) (told : Option ℕ) (sent : List ℕ) (before then : G) (progress : Progress)
    (calls calls_then : List (OpenCall K)) (held : List ℕ) (after : ConnectionAt G K) → calls_then ≡ calls
    → then ≡ before
    → Asks rules told sent (connection_at then progress calls_then 0 None held) after
    → Asks rules told sent (connection_at before progress calls 0 None held) after
asks-still {G} {K} rules told sent before then progress calls calls_then held after same still asked =
    subst (λ (cs : List (OpenCall K)). Asks rules told sent (connection_at before progress cs 0 None held) after) same
    (subst (λ (g : G). Asks rules told sent (connection_at g progress calls_then 0 None held) after) still asked)
