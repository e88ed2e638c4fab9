use Rattle.std.proofs.Common.{◌≡◌, ℕ, ◌+◌, ◌<◌, Bool, true, false, not, List, [], ◌∷◌, length, get_or, drop, Option}
use Rattle.std.proofs.Common.{Err, if◌then◌else◌, refl, sym, ap, ◌∙◌, subst, inl, inr}
use Rattle.std.proofs.Math.Seq.{drop-drop}
use Rattle.edge_io.specs.Moving.{Appends}
use Rattle.edge_io.specs.Writing.{HasWritten}
use Rattle.group_types.specs.declared.process.ProcessId.{ProcessId}
use Rattle.memc_table.specs.Asked.{Asked}
use Rattle.memc_proto.specs.Text.{fail_text}
use Rattle.memc_proto.specs.declared.end.CallEnd.{CallEnd}
use Rattle.memc_proto.specs.declared.end.FailEnd.{FailEnd}
use Rattle.memc_proto.specs.declared.request.Request.{Request}
use Rattle.memc_proto.specs.declared.request.Request.TheVariants.{Get, Change, Version, Quit, Fail, Refused}
use Rattle.front_end.specs.Answers.{Stand, stand, IsKeyAnswered}
use Rattle.front_end.specs.Calls.{Made, Failed, Ways}
use Rattle.front_end.specs.Progress.{behind, waiting_behind, HasAnsweredNext, BreaksAt}
use Rattle.front_end.specs.Settling.{CallIsDue, IsDue, HasSettledDue, is_last, HasTold, first_text, settled_text, own_text}
use Rattle.front_end.specs.Turns.{is_reply, last_text}
use Rattle.front_end.specs.declared.due.Due.TheVariants as due
use Rattle.front_end.specs.declared.end.ConnectionFault.{ConnectionFault}
use Rattle.front_end.specs.declared.end.ConnectionFault.TheVariants.{Want}
use Rattle.front_end.proofs.Answering.{broken-early, broken-wanted, ends-calls, written}
use Rattle.front_end.proofs.Asking.{answered-stop, key-broken}
use Rattle.front_end.proofs.Handing.{rest_at}
use Rattle.front_end.proofs.Stepping.{fewer-wait, first-of}

-- a fault came before anything was done of what waits
pub breaks-early : {C : Type 0} (ways : Ways C) (told : Option ℕ) (at : C) (held : List ℕ) (fault : ConnectionFault) (waiting : List Request)
    → (waiting ≡ [] → ⊥) → BreaksAt ways told (stand at held) (stand at held) fault waiting
breaks-early ways told at held fault [] some = absurd (some refl)
breaks-early ways told at held fault (request ∷ others) some = broken-early ways told at held fault request

-- there was no memory for the call that was due
pub breaks-wanted : {C : Type 0} (ways : Ways C) (told : Option ℕ) (before after : C) (held : List ℕ) (op : Asked) (waiting : List Request)
    → IsDue told waiting (due.Call op) → ways.kept before op after → BreaksAt ways told (stand before held) (stand after held) Want waiting
breaks-wanted ways told before after held op [] is kept = absurd is
breaks-wanted ways told before after held op (Get [] with_cas ∷ others) is kept = absurd (cc is)
breaks-wanted ways told before after held op (Get (key ∷ keys) with_cas ∷ others) is kept =
    broken-wanted ways told before after held (Get (key ∷ keys) with_cas) (op, is.0, is.1, kept)
breaks-wanted ways told before after held op (Change asked noreply ∷ others) is kept =
    broken-wanted ways told before after held (Change asked noreply) (op, is.0, is.1, kept)
breaks-wanted ways told before after held op (Fail at keep ∷ others) is kept = absurd (cc is)
breaks-wanted ways told before after held op (Version ∷ others) is kept = absurd (cc is)
breaks-wanted ways told before after held op (Quit ∷ others) is kept = absurd (cc is)
breaks-wanted ways told before after held op (Refused refusal ∷ others) is kept = absurd (cc is)

-- there was none for the order that was due
pub breaks-unmade : {C : Type 0} (ways : Ways C) (told : Option ℕ) (before after : C) (held : List ℕ) (at : ProcessId) (keep : ℕ) (waiting : List Request)
    → IsDue told waiting (due.Fail at keep) → ways.unmade before after → BreaksAt ways told (stand before held) (stand after held) Want waiting
breaks-unmade ways told before after held at keep [] is unmade = absurd is
breaks-unmade ways told before after held at keep (Get [] with_cas ∷ others) is unmade = absurd (cc is)
breaks-unmade ways told before after held at keep (Get (key ∷ keys) with_cas ∷ others) is unmade = absurd is
breaks-unmade ways told before after held at keep (Change asked noreply ∷ others) is unmade = absurd is
breaks-unmade ways told before after held at keep (Fail process kept ∷ others) is unmade = broken-wanted ways told before after held (Fail process kept) unmade
breaks-unmade ways told before after held at keep (Version ∷ others) is unmade = absurd (cc is)
breaks-unmade ways told before after held at keep (Quit ∷ others) is unmade = absurd (cc is)
breaks-unmade ways told before after held at keep (Refused refusal ∷ others) is unmade = absurd (cc is)

key-steps : {C : Type 0} (ways : Ways C) (told : Option ℕ) (before after : Stand C) (with_cas : Bool)
    (key more : List ℕ) (keys : List (List ℕ)) (others left : List Request) (replied : Bool)
    → IsKeyAnswered ways told before after with_cas key replied → left ≡ (if not replied then others else Get (more ∷ keys) with_cas ∷ others)
    → HasAnsweredNext ways told before after (Get (key ∷ more ∷ keys) with_cas ∷ others) left
key-steps ways told before after with_cas key more keys others left true first left_is =
    inr (
      Get (more ∷ keys) with_cas,
      record {
        key = key;
        keys = more ∷ keys;
        with_cas = with_cas;
        request_is = refl;
        answered = first;
        next_is = refl;
      },
      left_is,
    )
key-steps ways told before after with_cas key more keys others left false first left_is =
    inl (answered-stop ways told before after with_cas key (more ∷ keys) first, left_is)

-- the call that was due was made, and its text is written
pub call-steps : {C : Type 0} (ways : Ways C) (told : Option ℕ) (before after : C) (held now : List ℕ) (op : Asked)
    (end : CallEnd) (waiting left : List Request)
    → IsDue told waiting (due.Call op) → ways.made before op end after → HasSettledDue end held now waiting left
    → HasAnsweredNext ways told (stand before held) (stand after now) waiting left
call-steps ways told before after held now op end [] left is made settled = absurd is
call-steps ways told before after held now op end (Get [] with_cas ∷ others) left is made settled = absurd (cc is)
call-steps ways told before after held now op end (Get (key ∷ []) with_cas ∷ others) left is made settled =
    inl (record { calls = Made op end ∷ []; whole = (is, ends-calls (is_reply end)); leads = (after, made, refl); bytes = settled.0 }, settled.1)
call-steps ways told before after held now op end (Get (key ∷ more ∷ keys) with_cas ∷ others) left is made settled =
    key-steps ways told (stand before held) (stand after now) with_cas key more keys others left (is_reply end)
    (record { call = Made op end; is_call = is; leads = made; bytes = settled.0; replied_is = refl }) settled.1
call-steps ways told before after held now op end (Change asked noreply ∷ others) left is made settled =
    inl (record { calls = Made op end ∷ []; whole = (is, ends-calls (is_reply end)); leads = (after, made, refl); bytes = settled.0 }, settled.1)
call-steps ways told before after held now op end (Fail at keep ∷ others) left is made settled = absurd (cc is)
call-steps ways told before after held now op end (Version ∷ others) left is made settled = absurd (cc is)
call-steps ways told before after held now op end (Quit ∷ others) left is made settled = absurd (cc is)
call-steps ways told before after held now op end (Refused refusal ∷ others) left is made settled = absurd (cc is)

-- the call that was due was made, and a fault came while its text was written
pub call-breaks : {C : Type 0} (ways : Ways C) (told : Option ℕ) (before after : C) (held now : List ℕ) (op : Asked)
    (end : CallEnd) (fault : ConnectionFault) (waiting : List Request)
    → IsDue told waiting (due.Call op) → ways.made before op end after → HasWritten held now (first_text end waiting)
    → BreaksAt ways told (stand before held) (stand after now) fault waiting
call-breaks ways told before after held now op end fault [] is made part = absurd is
call-breaks ways told before after held now op end fault (Get [] with_cas ∷ others) is made part = absurd (cc is)
call-breaks ways told before after held now op end fault (Get (key ∷ []) with_cas ∷ others) is made part =
    written ways told before after held now (Get (key ∷ []) with_cas) (Made op end ∷ []) (last_text key with_cas end)
    (Err fault) (is, ends-calls (is_reply end)) (after, made, refl) refl tt part
call-breaks ways told before after held now op end fault (Get (key ∷ more ∷ keys) with_cas ∷ others) is made part =
    key-broken ways told before after held now fault with_cas key (more ∷ keys) end (record { op = op; act_is = is.0; moment = is.1; made = made }) part
call-breaks ways told before after held now op end fault (Change asked noreply ∷ others) is made part =
    written ways told before after held now (Change asked noreply) (Made op end ∷ [])
    (settled_text end (Change asked noreply)) (Err fault) (is, ends-calls (is_reply end)) (after, made, refl) refl tt
    part
call-breaks ways told before after held now op end fault (Fail at keep ∷ others) is made part = absurd (cc is)
call-breaks ways told before after held now op end fault (Version ∷ others) is made part = absurd (cc is)
call-breaks ways told before after held now op end fault (Quit ∷ others) is made part = absurd (cc is)
call-breaks ways told before after held now op end fault (Refused refusal ∷ others) is made part = absurd (cc is)

-- the order that was due was given, and its text is written
pub order-steps : {C : Type 0} (ways : Ways C) (told : Option ℕ) (before after : C) (held now : List ℕ) (at : ProcessId)
    (keep : ℕ) (end : FailEnd) (waiting left : List Request)
    → IsDue told waiting (due.Fail at keep) → ways.failed before at keep end after
    → HasTold (fail_text end) held now waiting left → HasAnsweredNext ways told (stand before held) (stand after now)
    waiting left
order-steps ways told before after held now at keep end [] left is failed settled = absurd is
order-steps ways told before after held now at keep end (Get [] with_cas ∷ others) left is failed settled = absurd (cc is)
order-steps ways told before after held now at keep end (Get (key ∷ keys) with_cas ∷ others) left is failed settled = absurd is
order-steps ways told before after held now at keep end (Change asked noreply ∷ others) left is failed settled = absurd is
order-steps ways told before after held now at keep end (Fail process kept ∷ others) left is failed settled =
    inl (record { calls = Failed at keep end ∷ []; whole = ((cc is, cc is), refl); leads = (after, failed, refl); bytes = settled.0 }, settled.1)
order-steps ways told before after held now at keep end (Version ∷ others) left is failed settled = absurd (cc is)
order-steps ways told before after held now at keep end (Quit ∷ others) left is failed settled = absurd (cc is)
order-steps ways told before after held now at keep end (Refused refusal ∷ others) left is failed settled = absurd (cc is)

-- the order that was due was given, and a fault came while its text was written
pub order-breaks : {C : Type 0} (ways : Ways C) (told : Option ℕ) (before after : C) (held now : List ℕ)
    (at : ProcessId) (keep : ℕ) (end : FailEnd) (fault : ConnectionFault) (waiting : List Request)
    → IsDue told waiting (due.Fail at keep) → ways.failed before at keep end after → HasWritten held now (fail_text end)
    → BreaksAt ways told (stand before held) (stand after now) fault waiting
order-breaks ways told before after held now at keep end fault [] is failed part = absurd is
order-breaks ways told before after held now at keep end fault (Get [] with_cas ∷ others) is failed part = absurd (cc is)
order-breaks ways told before after held now at keep end fault (Get (key ∷ keys) with_cas ∷ others) is failed part = absurd is
order-breaks ways told before after held now at keep end fault (Change asked noreply ∷ others) is failed part = absurd is
order-breaks ways told before after held now at keep end fault (Fail process kept ∷ others) is failed part =
    written ways told before after held now (Fail process kept) (Failed at keep end ∷ []) (fail_text end) (Err fault)
    ((cc is, cc is), refl) (after, failed, refl) refl tt part
order-breaks ways told before after held now at keep end fault (Version ∷ others) is failed part = absurd (cc is)
order-breaks ways told before after held now at keep end fault (Quit ∷ others) is failed part = absurd (cc is)
order-breaks ways told before after held now at keep end fault (Refused refusal ∷ others) is failed part = absurd (cc is)

-- the text of a request that needs no call is written
pub text-steps : {C : Type 0} (ways : Ways C) (told : Option ℕ) (at : C) (held now : List ℕ) (waiting left : List Request)
    → IsDue told waiting due.Text → HasTold (own_text waiting) held now waiting left → HasAnsweredNext ways told (stand at held) (stand at now) waiting left
text-steps ways told at held now [] left is settled = absurd is
text-steps ways told at held now (Get [] with_cas ∷ others) left is settled =
    inl (record { calls = []; whole = tt; leads = refl; bytes = settled.0 }, settled.1)
text-steps ways told at held now (Get (key ∷ keys) with_cas ∷ others) left is settled = absurd is
text-steps ways told at held now (Change asked noreply ∷ others) left is settled = absurd is
text-steps ways told at held now (Fail process kept ∷ others) left is settled = absurd (cc is)
text-steps ways told at held now (Version ∷ others) left is settled = inl (record { calls = []; whole = tt; leads = refl; bytes = settled.0 }, settled.1)
text-steps ways told at held now (Quit ∷ others) left is settled = inl (record { calls = []; whole = tt; leads = refl; bytes = settled.0 }, settled.1)
text-steps ways told at held now (Refused refusal ∷ others) left is settled =
    inl (record { calls = []; whole = tt; leads = refl; bytes = settled.0 }, settled.1)

-- a fault came while the text of a request that needs no call was written
pub text-breaks : {C : Type 0} (ways : Ways C) (told : Option ℕ) (at : C) (held now : List ℕ) (fault : ConnectionFault) (waiting : List Request)
    → IsDue told waiting due.Text → HasWritten held now (own_text waiting) → BreaksAt ways told (stand at held) (stand at now) fault waiting
text-breaks ways told at held now fault [] is part = absurd is
text-breaks ways told at held now fault (Get [] with_cas ∷ others) is part =
    written ways told at at held now (Get [] with_cas) [] (own_text (Get [] with_cas ∷ others)) (Err fault) tt refl refl
    tt part
text-breaks ways told at held now fault (Get (key ∷ keys) with_cas ∷ others) is part = absurd is
text-breaks ways told at held now fault (Change asked noreply ∷ others) is part = absurd is
text-breaks ways told at held now fault (Fail process kept ∷ others) is part = absurd (cc is)
text-breaks ways told at held now fault (Version ∷ others) is part = written ways told at at held now Version []
    (own_text (Version ∷ others)) (Err fault) tt refl refl tt part
text-breaks ways told at held now fault (Quit ∷ others) is part = written ways told at at held now Quit []
    (own_text (Quit ∷ others)) (Err fault) tt refl refl tt part
text-breaks ways told at held now fault (Refused refusal ∷ others) is part =
    written ways told at at held now (Refused refusal) [] (own_text (Refused refusal ∷ others)) (Err fault) tt refl refl
    tt part

call-some : (waiting : List Request) → CallIsDue waiting → waiting ≡ [] → ⊥
call-some [] due none = due.2
call-some (request ∷ others) due none = cc

behind-behind : (k : ℕ) (request : Request) → behind (k + 1) request ≡ behind 1 (behind k request)
behind-behind k (Get keys with_cas) = ap (λ (ks : List (List ℕ)). Get ks with_cas) (sym (drop-drop 1 k keys))
behind-behind k (Change act noreply) = refl
behind-behind k (Fail at keep) = refl
behind-behind k Version = refl
behind-behind k Quit = refl
behind-behind k (Refused refusal) = refl

left-as : (left : List Request) (others : List Request) (next : Request) (last : Bool) → last ≡ false
    → left ≡ next ∷ others → left ≡ (if last then others else next ∷ others)
left-as left others next true goes_on is = absurd (cc goes_on)
left-as left others next false goes_on is = is

-- the call on a key of a get ended, and the others wait
pub key-settled : (end : CallEnd) (held now : List ℕ) (k n : ℕ) (given waiting : List Request) (request : Request)
    → waiting_behind k (drop n given) ≡ waiting → CallIsDue waiting → request ≡ get_or given n request
    → Appends held now (settled_text end (behind k request)) → is_last end (behind k request) ≡ false
    → HasSettledDue end held now waiting (waiting_behind (k + 1) (drop n given))
key-settled end held now k n given waiting request is due read whole goes_on =
    let fewer : n < length given = fewer-wait k n given waiting is (call-some waiting due) in
    let rest : drop n given ≡ request ∷ drop (n + 1) given = rest_at given n request fewer read in
    subst (λ (rs : List Request). HasSettledDue end held now rs (waiting_behind (k + 1) (drop n given)))
    (sym (first-of k n given waiting request is fewer read)) (
      whole,
      left-as (waiting_behind (k + 1) (drop n given)) (drop (n + 1) given) (behind 1 (behind k request)) (is_last end (behind k request)) goes_on
          (ap (waiting_behind (k + 1)) rest ∙ ap (λ (r : Request). r ∷ drop (n + 1) given) (behind-behind k request)),
    )
