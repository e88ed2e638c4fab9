use Rattle.std.proofs.Common.{◌≡◌, ◌≢◌, ℕ, Bool, true, false, List, [], ◌∷◌, Option, Result, Ok, Err, refl, sym, ap, subst, inl, inr, if◌then◌else◌}
use Rattle.std.proofs.lemmas.Cmp.{nat_list_cmp_total}
use Rattle.std.specs.Cmp.{tied_itself, Equal-is}
use Rattle.std.specs.Cmp.Lexicographic.{slice_cmp}
use Rattle.std.specs.FinMap as map
use Rattle.std.specs.Ordering.{nat_cmp, is_eq}
use Rattle.edge_io.specs.Moving.{Input}
use Rattle.group_types.specs.Lists.{same_key}
use Rattle.group_types.specs.declared.process.ProcessId.{ProcessId}
use Rattle.memc_table.specs.Asked.{Asked}
use Rattle.memc_proto.specs.Reader.{ReaderState}
use Rattle.memc_proto.specs.declared.end.CallEnd.{CallEnd}
use Rattle.memc_proto.specs.declared.end.FailEnd.{FailEnd}
use Rattle.memc_proto.specs.declared.request.Request.{Request}
use Rattle.front_end.specs.Answers.{Stand, stand, IsRequestAnswered, IsCutByFault, AreAnswered, AreHalted}
use Rattle.front_end.specs.Calls.{Call, Made, Failed, Ways, Leads, LeadsBy}
use Rattle.front_end.specs.Connection.{IsWaiting, HasStopped, HasServed}
use Rattle.front_end.specs.Faults.{CallerStandsAt, CutsNext}
use Rattle.front_end.specs.Going.{ConnectionGoesOn}
use Rattle.front_end.specs.Order.{among}
use Rattle.front_end.specs.Progress.{HasAnsweredNext}
use Rattle.front_end.specs.Sequences.{in_sequence, sequence_of, with_end}
use Rattle.front_end.specs.Turns.{Due, Acts, Fails}
use Rattle.front_end.specs.declared.end.ConnectionFault.{ConnectionFault}
use Rattle.front_end.specs.declared.end.ConnectionFault.TheVariants.{ReadFault, WriteFault, Want}
use Rattle.front_end.specs.declared.end.End.{End}
use Rattle.front_end.specs.declared.end.End.TheVariants.{Quit, Ended, Cut, LineTooLong, Worn}
use Rattle.front_end.specs.declared.overlap.Overlap.TheVariants.{Never}

same-itself : (key : List ℕ) → same_key key key ≡ true
same-itself key = ap is_eq (tied_itself nat_list_cmp_total key)

same-is : (a b : List ℕ) → same_key a b ≡ true → a ≡ b
same-is a b same = map.slice_cmp-IsAntisymmetric map.nat_cmp-IsAntisymmetric a b ((Equal-is (slice_cmp nat_cmp a b)).0 same)

-- the sequence's end is where its last call left the caller, and those of the others stay
pub ended-at : {C : Type 0} (ends : List ℕ → C) (sequence : List ℕ) (now : C) → with_end ends sequence now sequence ≡ now
ended-at {C} ends sequence now = ap (λ (same : Bool). if same then now else ends sequence) (same-itself sequence)

pub ended-elsewhere : {C : Type 0} (ends : List ℕ → C) (sequence other : List ℕ) (now : C) → other ≢ sequence → with_end ends sequence now other ≡ ends other
ended-elsewhere {C} ends sequence other now apart = by (same_key sequence other) refl
  where
    by : (same : Bool) → same_key sequence other ≡ same → (if same then now else ends other) ≡ ends other
    by true is = absurd (apart (sym (same-is sequence other is)))
    by false is = refl

-- what the calls of callers come to, they come to of what these are seen as
pub record AreSeen {C D : Type 0} (ways : Ways C) (others : Ways D) (see : C → D) : Type 0 where
  pub made : (before : C) (op : Asked) (end : CallEnd) (after : C) → ways.made before op end after → others.made (see before) op end (see after)
  pub failed : (before : C) (at : ProcessId) (keep : ℕ) (end : FailEnd) (after : C)
      → ways.failed before at keep end after → others.failed (see before) at keep end (see after)
  pub kept : (before : C) (op : Asked) (after : C) → ways.kept before op after → others.kept (see before) op (see after)
  pub unmade : (before after : C) → ways.unmade before after → others.unmade (see before) (see after)

module _ {C D : Type 0} (ways : Ways C) (others : Ways D) (see : C → D) (seen : AreSeen ways others see) (told : Option ℕ) where
  abbrev at : Stand C → Stand D
  at s = stand (see s.caller) s.held

  by-seen : (before after : C) (call : Call) → LeadsBy ways before call after → LeadsBy others (see before) call (see after)
  by-seen before after (Made op end) made = seen.made before op end after made
  by-seen before after (Failed process keep end) failed = seen.failed before process keep end after failed

  pub leads-seen : (calls : List Call) (before after : C) → Leads ways before calls after → Leads others (see before) calls (see after)
  leads-seen [] before after same = ap see same
  leads-seen (call ∷ calls) before after (next, first, rest) = (see next, by-seen before next call first, leads-seen calls next after rest)

  pub answered-seen : (before after : Stand C) (request : Request) → IsRequestAnswered ways told before after request
      → IsRequestAnswered others told (at before) (at after) request
  answered-seen before after request answered = record {
    calls = answered.calls;
    whole = answered.whole;
    leads = leads-seen answered.calls before.caller after.caller answered.leads;
    bytes = answered.bytes;
  }

  pub all_answered-seen : (before after : Stand C) (requests : List Request) (more : List ℕ)
      → AreAnswered ways told before after requests more → AreAnswered others told (at before) (at after) requests more
  all_answered-seen before after requests more answered = record {
    turns = answered.turns;
    asked = answered.asked;
    whole = answered.whole;
    leads = leads-seen _ before.caller after.caller answered.leads;
    bytes = answered.bytes;
  }

  cuts-seen : (led : C) (dues : List Due) (after : C) → CutsNext ways told led dues after → CutsNext others told (see led) dues (see after)
  cuts-seen led [] after cut = absurd cut
  cuts-seen led (Acts asked ∷ dues) after (op, act_is, moment, kept) = (op, act_is, moment, seen.kept led op after kept)
  cuts-seen led (Fails process keep ∷ dues) after unmade = seen.unmade led after unmade

  stands-seen : (led : C) (dues : List Due) (after : C) (fault : ConnectionFault)
      → CallerStandsAt ways told led dues after fault → CallerStandsAt others told (see led) dues (see after) fault
  stands-seen led dues after Want (inl same) = inl (ap see same)
  stands-seen led dues after Want (inr cut) = inr (cuts-seen led dues after cut)
  stands-seen led dues after WriteFault same = ap see same
  stands-seen led dues after ReadFault same = ap see same

  broken-seen : (before after : Stand C) (fault : ConnectionFault) (request : Request)
      → IsCutByFault ways told before after fault request → IsCutByFault others told (at before) (at after) fault request
  broken-seen before after fault request broken = record {
    calls = broken.calls;
    first = broken.first;
    led = see broken.led;
    leads = leads-seen broken.calls before.caller broken.led broken.leads;
    stands = stands-seen broken.led _ after.caller fault broken.stands;
    count = broken.count;
    bytes = broken.bytes;
  }

  halted-seen : (before after : Stand C) (fault : ConnectionFault) (first requests : List Request) (rest : List ℕ)
      → AreHalted ways told before after fault first requests rest → AreHalted others told (at before) (at after) fault
      first requests rest
  halted-seen before after fault first requests rest (inl broken) = inl (record {
    next = broken.next;
    request = broken.request;
    others = broken.others;
    given = broken.given;
    middle = at broken.middle;
    answered = all_answered-seen before broken.middle _ [] broken.answered;
    broken = broken-seen broken.middle after fault broken.request broken.broken;
  })
  halted-seen before after fault first requests rest (inr (more, closing, answered)) =
      inr (more, closing, all_answered-seen before after requests more answered)

  pub stepped-seen : (before after : Stand C) (waiting now : List Request)
      → HasAnsweredNext ways told before after waiting now → HasAnsweredNext others told (at before) (at after) waiting now
  stepped-seen before after [] now stepped = absurd stepped
  stepped-seen before after (request ∷ rest) now (inl (answered, is)) = inl (answered-seen before after request answered, is)
  stepped-seen before after (request ∷ rest) now (inr (next, taken, is)) = inr (
    next,
    record {
      key = taken.key;
      keys = taken.keys;
      with_cas = taken.with_cas;
      request_is = taken.request_is;
      answered = record {
        call = taken.answered.call;
        is_call = taken.answered.is_call;
        leads = by-seen before.caller after.caller taken.answered.call taken.answered.leads;
        bytes = taken.answered.bytes;
        replied_is = taken.answered.replied_is;
      };
      next_is = taken.next_is;
    },
    is,
  )

  abbrev waiting-seen : (input input_now : Input) (before after : Stand C) (rest : List ℕ)
      → IsWaiting ways told input input_now before after rest → IsWaiting others told input input_now (at before)
      (at after) rest
  waiting-seen input input_now before after rest waiting = record {
    read = waiting.read;
    consumed = waiting.consumed;
    requests = waiting.requests;
    is_open = waiting.is_open;
    answered = all_answered-seen before after waiting.requests [] waiting.answered;
  }

  abbrev stopped-seen : (input input_now : Input) (before after : Stand C) (more : List ℕ)
      → HasStopped ways told input input_now before after more → HasStopped others told input input_now (at before)
      (at after) more
  stopped-seen input input_now before after more stopped = record {
    first = stopped.first;
    requests = stopped.requests;
    rest = stopped.rest;
    came = stopped.came;
    answered = all_answered-seen before after stopped.requests more stopped.answered;
  }

  pub served-seen : (input input_now : Input) (before after : Stand C) (result : Result End ConnectionFault)
      → HasServed ways told input input_now before after result → HasServed others told input input_now (at before)
      (at after) result
  served-seen input input_now before after (Ok Quit) (stopped, quit) = (stopped-seen input input_now before after [] stopped, quit)
  served-seen input input_now before after (Ok LineTooLong) (stopped, no_quit, long) = (stopped-seen input input_now before after _ stopped, no_quit, long)
  served-seen input input_now before after (Ok Ended) (waiting, fewer, ended) = (waiting-seen input input_now before after [] waiting, fewer, ended)
  served-seen input input_now before after (Ok Cut) (rest, waiting, fewer, ended, some) =
      (rest, waiting-seen input input_now before after rest waiting, fewer, ended, some)
  served-seen input input_now before after (Ok Worn) (rest, waiting, all) = (rest, waiting-seen input input_now before after rest waiting, all)
  served-seen input input_now before after (Err ReadFault) (rest, waiting) = (rest, waiting-seen input input_now before after rest waiting)
  served-seen input input_now before after (Err WriteFault) halted = record {
    first = halted.first;
    requests = halted.requests;
    rest = halted.rest;
    came = halted.came;
    halted = halted-seen before after WriteFault halted.first halted.requests halted.rest halted.halted;
  }
  served-seen input input_now before after (Err Want) wanted = record {
    read = wanted.read;
    unread = wanted.unread;
    consumed = wanted.consumed;
    requests = wanted.requests;
    rest = wanted.rest;
    reads = wanted.reads;
    halted = halted-seen before after Want [] wanted.requests wanted.rest wanted.halted;
  }

  pub goes_on-seen : (input input_now : Input) (before now : Stand C) (kept : ReaderState) (count : ℕ)
      → ConnectionGoesOn ways told input input_now before now kept count → ConnectionGoesOn others told input input_now (at before) (at now)
      kept count
  goes_on-seen input input_now before now kept count goes = record {
    read = goes.read;
    consumed = goes.consumed;
    requests = goes.requests;
    has_read = goes.has_read;
    no_quit = goes.no_quit;
    short = goes.short;
    answered = all_answered-seen before now goes.requests [] goes.answered;
    counted = goes.counted;
  }

-- where no calls overlap a connection's calls lead from where its last one ended
pub never-seen : {C : Type 0} (later : C → C → Type 0) (ways : Ways C)
    → AreSeen (in_sequence (sequence_of Never) later ways) (among later ways) (λ ends. ends [])
never-seen {C} later ways = record {
  made = λ ends op end after made. (made.0, made.2, subst (ways.made made.0 op end) (sym (ap (λ (e : List ℕ → C). e []) made.4)) made.3);
  failed = λ ends at keep end after failed. (
    failed.0,
    failed.2 [],
    subst (ways.failed failed.0 at keep end) (sym (ap (λ (e : List ℕ → C). e []) failed.4))
        failed.3,
  );
  kept = λ ends op after kept. (kept.0, kept.2, subst (ways.kept kept.0 op) (sym (ap (λ (e : List ℕ → C). e []) kept.4)) kept.3);
  unmade = λ ends after unmade. (unmade.0, unmade.2 [], subst (ways.unmade unmade.0) (sym (ap (λ (e : List ℕ → C). e []) unmade.4)) unmade.3);
}

-- so what is promised of it is what is promised of one that makes its calls one behind the other
pub never-served : {C : Type 0} (later : C → C → Type 0) (ways : Ways C) (told : Option ℕ) (input input_now : Input)
    (ends ends_now : List ℕ → C) (held now : List ℕ) (result : Result End ConnectionFault)
    → HasServed (in_sequence (sequence_of Never) later ways) told input input_now (stand ends held) (stand ends_now now) result
    → HasServed (among later ways) told input input_now (stand (ends []) held) (stand (ends_now []) now) result
never-served {C} later ways told input input_now ends ends_now held now result =
    served-seen _ _ (λ (e : List ℕ → C). e []) (never-seen later ways) told input input_now (stand ends held) (stand ends_now now) result

pub never-answered : {C : Type 0} (later : C → C → Type 0) (ways : Ways C) (told : Option ℕ)
    (ends ends_now : List ℕ → C) (held now : List ℕ) (requests : List Request) (more : List ℕ)
    → AreAnswered (in_sequence (sequence_of Never) later ways) told (stand ends held) (stand ends_now now) requests more
    → AreAnswered (among later ways) told (stand (ends []) held) (stand (ends_now []) now) requests more
never-answered {C} later ways told ends ends_now held now requests more =
    all_answered-seen _ _ (λ (e : List ℕ → C). e []) (never-seen later ways) told (stand ends held) (stand ends_now now) requests more

pub never-goes_on : {C : Type 0} (later : C → C → Type 0) (ways : Ways C) (told : Option ℕ) (input input_now : Input)
    (ends ends_now : List ℕ → C) (held now : List ℕ) (kept : ReaderState) (count : ℕ)
    → ConnectionGoesOn (in_sequence (sequence_of Never) later ways) told input input_now (stand ends held) (stand ends_now now) kept count
    → ConnectionGoesOn (among later ways) told input input_now (stand (ends []) held) (stand (ends_now []) now) kept count
never-goes_on {C} later ways told input input_now ends ends_now held now kept count =
    goes_on-seen _ _ (λ (e : List ℕ → C). e []) (never-seen later ways) told input input_now (stand ends held) (stand ends_now now) kept count
