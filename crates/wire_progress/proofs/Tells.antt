-- What a member tells gateways of a request: one answer, unless it gave a ticket.
use Rattle.std.proofs.Common.{ℕ, ◌≡◌, ◌==◌, nat_lt, ◌⊎◌, inl, inr, Bool, true, false, List, [], ◌∷◌, Option, Some, None}
use Rattle.std.proofs.Common.{Contains, refl, sym, subst, if◌then◌else◌}
use Rattle.std.proofs.lemmas.List.Elements.{Contains-push}
use Rattle.group_types.specs.Dimensions.{Dimensions}
use Rattle.group_types.specs.Hash.{home_of}
use Rattle.group_types.specs.Lists.{at}
use Rattle.group_types.specs.declared.process.ProcessId.{ProcessId}
use Rattle.memc_table.specs.Act.{key_of}
use Rattle.group_message.specs.declared.kept.Kept as kept
use Rattle.group_calls.specs.declared.event.Answer.{Answer}
use Rattle.group_calls.specs.declared.event.Answer.TheVariants as says
use Rattle.group_run.specs.Applying.{head_at, held_at, replica_of}
use Rattle.group_run.specs.Asking.{ask_process, fate_from, fate_of, fate_unless, gone_or, is_adopted, is_in_log, reply_from}
use Rattle.group_run.specs.Process.{Head, Held, Process}
use Rattle.law_log.proofs.HeldCalls.{held_of}
use Rattle.law_causes.proofs.Calls.{HeldBehind, ask-held}
use Rattle.group_wire.specs.State.{Request, AskFor, TraceOf, Told, Gateways, Group, gateway_of}
use Rattle.group_wire.specs.Sending.{sent_on, treating}
use Rattle.group_wire.specs.Serving.{tell, told_of}
use Rattle.group_wire.proofs.AtOnce.{sent-here}
use Rattle.wire_progress.proofs.Waits.{Answering, Coming, Holding, Holds, IsHeld, Keeps, Kept, Parted, View, Waits}
use Rattle.wire_progress.proofs.Waits.{answer_to, caller_of, holds-last, holds-sent}

-- a trace gets no ticket
pub fate-no-ticket : (s : Dimensions) (caller call d n : ℕ) (p : Process) (h : Option Head) → fate_of s caller call d p h ≡ says.Ticket n → ⊥
fate-no-ticket s caller call d n p None is = cc is
fate-no-ticket s caller call d n p (Some h) is = by (is_in_log caller call (replica_of p d).log) (is_adopted s p h)
    (at None (replica_of p d).kept caller) is where
      which : (k : kept.Kept) (a b c : Bool)
          → (if a then says.Reply (reply_from k.outcome) else (if b then says.Stale k.call else gone_or c))
          ≡ says.Ticket n → ⊥
      which k true b c is = cc is
      which k false true c is = cc is
      which k false false true is = cc is
      which k false false false is = cc is

      by : (b c : Bool) (o : Option kept.Kept) → fate_unless b (fate_from c call o) ≡ says.Ticket n → ⊥
      by true c o is = cc is
      by false true None is = cc is
      by false false None is = cc is
      by false c (Some k) is = which k (k.call == call) (nat_lt call k.call) c is

pub told-or : (r : Request) (a : Answer) → ((n : ℕ) × (a ≡ says.Ticket n)) ⊎ (told_of r a ≡ answer_to r a ∷ [])
told-or r (says.Ticket n) = inl (n, refl)
told-or (AskFor caller call op) (says.Reply reply) = inr refl
told-or (AskFor caller call op) says.NotYet = inr refl
told-or (AskFor caller call op) says.NoSpace = inr refl
told-or (AskFor caller call op) (says.Retry cause) = inr refl
told-or (AskFor caller call op) says.Moved = inr refl
told-or (AskFor caller call op) says.Lost = inr refl
told-or (AskFor caller call op) says.Down = inr refl
told-or (AskFor caller call op) says.Idle = inr refl
told-or (AskFor caller call op) says.Stranger = inr refl
told-or (AskFor caller call op) says.Done = inr refl
told-or (AskFor caller call op) says.AlreadyDead = inr refl
told-or (AskFor caller call op) says.Gone = inr refl
told-or (AskFor caller call op) (says.Stale n) = inr refl
told-or (TraceOf caller call d) (says.Reply reply) = inr refl
told-or (TraceOf caller call d) says.NotYet = inr refl
told-or (TraceOf caller call d) says.NoSpace = inr refl
told-or (TraceOf caller call d) (says.Retry cause) = inr refl
told-or (TraceOf caller call d) says.Moved = inr refl
told-or (TraceOf caller call d) says.Lost = inr refl
told-or (TraceOf caller call d) says.Down = inr refl
told-or (TraceOf caller call d) says.Idle = inr refl
told-or (TraceOf caller call d) says.Stranger = inr refl
told-or (TraceOf caller call d) says.Done = inr refl
told-or (TraceOf caller call d) says.AlreadyDead = inr refl
told-or (TraceOf caller call d) says.Gone = inr refl
told-or (TraceOf caller call d) (says.Stale n) = inr refl

-- after a ticket the call is held
pub ticket-held : (s : Dimensions) (n : ℕ) (r : Request) (p : Process) → (treating s r p).answer ≡ says.Ticket n → IsHeld s (treating s r p).step.process r
ticket-held s n (TraceOf caller call d) p ticket = absurd (fate-no-ticket s caller call d n p (head_at p d) ticket)
ticket-held s n (AskFor caller call op) p ticket =
    by (ask-held s (record { caller = caller; call = call }) op (home_of (key_of op.act) s.k) n p
    (head_at p (home_of (key_of op.act) s.k)) ticket) where
      by : HeldBehind p (home_of (key_of op.act) s.k) (record { caller = caller; call = call }) n
          (ask_process s (record { caller = caller; call = call }) op p).step.process
          → IsHeld s (ask_process s (record { caller = caller; call = call }) op p).step.process (AskFor caller call op)
      by behind = (
        held_of behind.update,
        subst (λ (ys : List Held). Contains ys (held_of behind.update)) (sym behind.held)
            (Contains-push (held_at p (home_of (key_of op.act) s.k)) (held_of behind.update)),
        behind.caller,
        behind.call,
      )

-- what is told changes answers alone, and these grow
module _ (g : Group) (p : ProcessId) where
  pub tell-call : (ts : List Told) (gw : Gateways) → (tell g p ts gw).call ≡ gw.call
  tell-call [] gw = refl
  tell-call (t ∷ ts) gw = tell-call ts (record gw { answers = sent_on g.words.cut gw.answers p (gateway_of g.shape t.caller) t })

  pub tell-requests : (ts : List Told) (gw : Gateways) → (tell g p ts gw).requests ≡ gw.requests
  tell-requests [] gw = refl
  tell-requests (t ∷ ts) gw = tell-requests ts (record gw { answers = sent_on g.words.cut gw.answers p (gateway_of g.shape t.caller) t })

  pub tell-parked : (ts : List Told) (gw : Gateways) → (tell g p ts gw).parked ≡ gw.parked
  tell-parked [] gw = refl
  tell-parked (t ∷ ts) gw = tell-parked ts (record gw { answers = sent_on g.words.cut gw.answers p (gateway_of g.shape t.caller) t })

  pub tell-answers : (ts : List Told) (gw : Gateways) (u : Told) (a b : ProcessId) → Holds u (gw.answers a b) → Holds u ((tell g p ts gw).answers a b)
  tell-answers [] gw u a b there = there
  tell-answers (t ∷ ts) gw u a b there = tell-answers ts (record gw { answers = sent_on g.words.cut gw.answers p (gateway_of g.shape t.caller) t }) u a b
      (holds-sent u g.words.cut gw.answers p (gateway_of g.shape t.caller) t a b there)

  pub tells-kept : (ts : List Told) (v : View) → Keeps g.shape v (record v { gateways = tell g p ts v.gateways })
  tells-kept ts v x r (Parted is) = Parted is
  tells-kept ts v x r (Coming there) =
      Coming (subst (λ (w : ProcessId → ProcessId → List Request). Holds r (w (gateway_of g.shape (caller_of r)) x))
      (sym (tell-requests ts v.gateways)) there)
  tells-kept ts v x r (Kept there) = Kept (subst (λ (w : ProcessId → List Request). Holds r (w x)) (sym (tell-parked ts v.gateways)) there)
  tells-kept ts v x r (Holding is) = Holding is
  tells-kept ts v x r (Answering a there) = Answering a (tell-answers ts v.gateways (answer_to r a) x (gateway_of g.shape (caller_of r)) there)

  -- and the answer stands there, or one has cut the other
  pub told-waits : (process : ProcessId → Process) (gw : Gateways) (r : Request) (a : Answer)
      → Waits g.shape (record { cut = g.words.cut; process = process; gateways = tell g p (answer_to r a ∷ []) gw }) p r
  told-waits process gw (AskFor caller call op) a = by (g.words.cut p (gateway_of g.shape caller)) refl where
    t : Told
    t = answer_to (AskFor caller call op) a

    by : (b : Bool) → g.words.cut p (gateway_of g.shape caller) ≡ b
        → Waits g.shape
        (record {
          cut = g.words.cut;
          process = process;
          gateways = tell g p (answer_to (AskFor caller call op) a ∷ [])
              gw;
        }) p (AskFor caller call op)
    by true cut = Parted (inr cut)
    by false uncut =
        Answering a (subst (Holds t) (sym (sent-here g.words.cut gw.answers p (gateway_of g.shape caller) t uncut))
        (holds-last t (gw.answers p (gateway_of g.shape caller))))
  told-waits process gw (TraceOf caller call d) a = by (g.words.cut p (gateway_of g.shape caller)) refl where
    t : Told
    t = answer_to (TraceOf caller call d) a

    by : (b : Bool) → g.words.cut p (gateway_of g.shape caller) ≡ b
        → Waits g.shape
        (record {
          cut = g.words.cut;
          process = process;
          gateways = tell g p (answer_to (TraceOf caller call d) a ∷ [])
              gw;
        }) p (TraceOf caller call d)
    by true cut = Parted (inr cut)
    by false uncut =
        Answering a (subst (Holds t) (sym (sent-here g.words.cut gw.answers p (gateway_of g.shape caller) t uncut))
        (holds-last t (gw.answers p (gateway_of g.shape caller))))
