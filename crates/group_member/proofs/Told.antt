-- What a member tells goes to its caller's gateway: to another, where it is handed out, or to itself, where it is learned.
use Rattle.std.proofs.Common.{ℕ, ◌≡◌, ◌≢◌, ◌||◌, Bool, true, false, List, [], ◌∷◌, ◌++◌, refl, sym, ap, subst, ◌∙◌}
use Rattle.std.specs.Prelude.{Option, Some, None, ⊤}
use Rattle.group_types.specs.Dimensions.{Dimensions}
use Rattle.group_types.specs.Names.{same_process}
use Rattle.group_types.specs.declared.process.ProcessId.{ProcessId}
use Rattle.group_types.proofs.Names.{same-eq, same-refl}
use Rattle.memc_table.specs.Asked.{Asked}
use Rattle.membership.specs.Members.{knows_dead}
use Rattle.group_calls.specs.declared.event.Answer.{Answer}
use Rattle.group_calls.specs.declared.event.Answer.TheVariants as says
use Rattle.group_wire.specs.Actions.{Learn}
use Rattle.group_wire.specs.Sending.{sent_on}
use Rattle.group_wire.specs.Serving.{handed_to, tell, told_of}
use Rattle.group_wire.specs.Sets.{one_or}
use Rattle.group_wire.specs.State.{Request, AskFor, TraceOf, Told, Gateways, Group, gateway_of}
use Rattle.group_wire.specs.Stepping.{group_after}
use Rattle.group_member.specs.Acting.{answer_handed, behind_at}
use Rattle.group_member.specs.Callers.{IsItsCaller}
use Rattle.group_member.specs.Standing.{HandedFrames, HasRequests, Member, OwnWords}
use Rattle.group_member.specs.Telling.{callers_heard, callers_learned, handed_of, told_for, told_on, told_reply, told_to}
use Rattle.group_member.proofs.Calls.{StandsWith}
use Rattle.group_member.proofs.Learned.{learn-nothing, learn-own}
use Rattle.group_member.proofs.Wires.{sent-elsewhere, sent-handed, sent-here, sent-nowhere}

-- what is told, if anything is
abbrev pub listed : Option Told → List Told
listed None = []
listed (Some t) = t ∷ []

-- what the member tells itself
abbrev pub own_of : OwnWords → Option Told → List Told
own_of w None = []
own_of w (Some t) = one_or (same_process (gateway_of w.shape t.caller) w.name) (t ∷ []) []

pub told-ask : (caller call : ℕ) (op : Asked) (answer : Answer) → told_of (AskFor caller call op) answer ≡ listed (told_for caller call false answer)
told-ask caller call op (says.Reply reply) = refl
told-ask caller call op (says.Ticket n) = refl
told-ask caller call op says.NotYet = refl
told-ask caller call op says.NoSpace = refl
told-ask caller call op (says.Retry cause) = refl
told-ask caller call op says.Moved = refl
told-ask caller call op says.Lost = refl
told-ask caller call op says.Down = refl
told-ask caller call op says.Idle = refl
told-ask caller call op says.Stranger = refl
told-ask caller call op says.Done = refl
told-ask caller call op says.AlreadyDead = refl
told-ask caller call op says.Gone = refl
told-ask caller call op (says.Stale n) = refl

pub told-trace : (caller call d : ℕ) (answer : Answer) → told_of (TraceOf caller call d) answer ≡ listed (told_for caller call true answer)
told-trace caller call d (says.Reply reply) = refl
told-trace caller call d (says.Ticket n) = refl
told-trace caller call d says.NotYet = refl
told-trace caller call d says.NoSpace = refl
told-trace caller call d (says.Retry cause) = refl
told-trace caller call d says.Moved = refl
told-trace caller call d says.Lost = refl
told-trace caller call d says.Down = refl
told-trace caller call d says.Idle = refl
told-trace caller call d says.Stranger = refl
told-trace caller call d says.Done = refl
told-trace caller call d says.AlreadyDead = refl
told-trace caller call d says.Gone = refl
told-trace caller call d (says.Stale n) = refl

module _ (g : Group) (out : HandedFrames) (w : OwnWords) (shape : g.shape ≡ w.shape) (cut : (q : ProcessId) → g.words.cut w.name q ≡ knows_dead w.cut q)
    (lives : knows_dead w.cut w.name ≡ false) (h : Gateways) (parked : List Request) (has : HasRequests h out w.name parked [] []) where
  abbrev p : ProcessId
  p = w.name

  -- an answer goes to q
  module _ (t : Told) (q : ProcessId) where
    abbrev after : Gateways
    after = record h { answers = sent_on g.words.cut h.answers p q t }

    by : (own lost : Bool) → same_process q p ≡ own → knows_dead w.cut q ≡ lost
        → gateway_of w.shape t.caller ≡ q
        → HasRequests after (answer_handed w.shape (one_or (own || lost) None (Some t)) out) p parked []
        (one_or own (t ∷ []) [])
    by true lost own-is lost-is at-q =
        let same = same-eq q p own-is in
        record {
          requests = has.requests;
          answers = λ r apart. sent-elsewhere g.words.cut h.answers p q t r (λ is. apart (is ∙ same)) ∙ has.answers r apart;
          parked = has.parked;
          own_requests = has.own_requests;
          own_answers = ap (λ (r : ProcessId). sent_on g.words.cut h.answers p r t p p) same ∙ sent-here g.words.cut h.answers p p t (cut p ∙ lives)
              ∙ ap (λ (l : List Told). l ++ t ∷ []) has.own_answers;
        }
    by false true own-is lost-is at-q = record {
      requests = has.requests;
      answers = λ r apart. sent-nowhere g.words.cut h.answers p q t (cut q ∙ lost-is) r ∙ has.answers r apart;
      parked = has.parked;
      own_requests = has.own_requests;
      own_answers = sent-nowhere g.words.cut h.answers p q t (cut q ∙ lost-is) p ∙ has.own_answers;
    }
    by false false own-is lost-is at-q =
        let apart : q ≢ p = λ same. cc (own-is, ap (λ (r : ProcessId). same_process r p) same, same-refl p) in
        record {
          requests = has.requests;
          answers = λ r other. sent-handed g.words.cut h.answers p q t out.answers (cut q ∙ lost-is) has.answers apart r other
              ∙ ap (λ (x : ProcessId). behind_at out.answers x t r) (sym at-q);
          parked = has.parked;
          own_requests = has.own_requests;
          own_answers = sent-elsewhere g.words.cut h.answers p q t p (λ same. apart (sym same)) ∙ has.own_answers;
        }

  pub told-there : (t : Option Told) → HasRequests (tell g p (listed t) h) (answer_handed w.shape (handed_of w t) out) p parked [] (own_of w t)
  told-there None = has
  told-there (Some t) =
      let q = gateway_of w.shape t.caller in
      subst (λ (s : Dimensions). HasRequests (record h { answers = sent_on g.words.cut h.answers p (gateway_of s t.caller) t })
      (answer_handed w.shape (told_on w t) out) p parked [] (own_of w (Some t))) (sym shape)
      (by t q (same_process q p) (knows_dead w.cut q) refl refl refl)

-- what a member tells itself is for a caller of its own
abbrev pub IsOwns : Member → Option Told → Type 0
IsOwns v None = ⊤
IsOwns v (Some t) = gateway_of v.words.shape t.caller ≡ v.words.name → IsItsCaller v.callers t.caller

module _ (g : Group) (out : HandedFrames) (v : Member) where
  own-learns : (t : Told) (own : Bool) → (own ≡ true → IsItsCaller v.callers t.caller) → StandsWith g out v [] (one_or own (t ∷ []) [])
      → StandsWith (group_after g (Learn v.words.name v.words.name)) out
      (record v { callers = one_or own (callers_learned v.signs.pinged t v.callers) v.callers }) [] []
  own-learns t true its st = learn-own g out v t st (its refl)
  own-learns t false its st = learn-nothing g out v st

  -- what the member told itself it learns
  pub learns-own : (t : Option Told) → IsOwns v t → StandsWith g out v [] (own_of v.words t)
      → StandsWith (group_after g (Learn v.words.name v.words.name)) out (record v { callers = callers_heard v.words v.signs.pinged t v.callers }) [] []
  learns-own None its st = learn-nothing g out v st
  learns-own (Some t) its st =
      let q = gateway_of v.words.shape t.caller in
      own-learns t (same_process q v.words.name) (λ is. its (same-eq q v.words.name is)) st

pub told-request : (r : Request) (answer : Answer) → told_of r answer ≡ listed (told_to r answer)
told-request (AskFor caller call op) answer = told-ask caller call op answer
told-request (TraceOf caller call d) answer = told-trace caller call d answer

pub told-handed : (caller call : ℕ) (answer : Answer) → handed_to caller call answer ≡ listed (told_reply caller call answer)
told-handed caller call (says.Reply reply) = refl
told-handed caller call (says.Ticket n) = refl
told-handed caller call says.NotYet = refl
told-handed caller call says.NoSpace = refl
told-handed caller call (says.Retry cause) = refl
told-handed caller call says.Moved = refl
told-handed caller call says.Lost = refl
told-handed caller call says.Down = refl
told-handed caller call says.Idle = refl
told-handed caller call says.Stranger = refl
told-handed caller call says.Done = refl
told-handed caller call says.AlreadyDead = refl
told-handed caller call says.Gone = refl
told-handed caller call (says.Stale n) = refl
