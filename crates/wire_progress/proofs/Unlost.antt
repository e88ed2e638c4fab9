-- What gateways asked of members isn't lost: each action keeps it.
use Rattle.std.proofs.Common.{ℕ, ◌≡◌, ◌⊎◌, inl, inr, Bool, true, false, List, [], ◌∷◌, ◌++◌, Option, Some, None, refl, sym, ap, subst, ◌∙◌}
use Rattle.group_types.specs.Dimensions.{Dimensions}
use Rattle.group_types.specs.Hash.{home_of}
use Rattle.group_types.specs.Names.{IsProcess}
use Rattle.group_types.specs.declared.process.ProcessId.{ProcessId}
use Rattle.memc_table.specs.Act.{key_of}
use Rattle.group_message.specs.declared.message.Message.{Message}
use Rattle.group_message.specs.declared.message.Message.TheVariants as tells
use Rattle.group_run.specs.Receiving.{receive}
use Rattle.law_log.proofs.Holds.{holds-receive}
use Rattle.law_causes.proofs.Lasting.{has-same}
use Rattle.group_wire.specs.Actions.{Action, Begin, Send, Read, Treat, Collect, Flush, Learn, Receive, GiveUp, Cut, Say}
use Rattle.group_wire.specs.Actions.{Hear, Permit, Take, Ping, Pong, Count, Show, LetGo, Stop}
use Rattle.group_wire.specs.Composed.{AreActions, AreActionsFrom, Composed, composed, composed_from, composed_with, opening_composed}
use Rattle.group_wire.specs.May.{MayAct}
use Rattle.group_wire.specs.Sets.{Processes, changed, changed_at, changed_from, with_one}
use Rattle.group_wire.specs.State.{Request, AskFor, TraceOf, Stage, Unasked, AskedOf, Unknown, TracedAt, Answered, OpenCall, Group, gateway_of}
use Rattle.group_wire.specs.Sending.{heard_first, parked_at, sent_on, works_received}
use Rattle.group_wire.specs.Serving.{if_open, read_first, sends_by, stage_given_up, staged}
use Rattle.group_wire.specs.Stepping.{group_after}
use Rattle.group_wire.proofs.AtOnce.{sent-here}
use Rattle.group_wire.proofs.Changes.{changed-each, changed-here, changed-pairs, grown-set}
use Rattle.wire_progress.proofs.Learns.{unlost-learns}
use Rattle.wire_progress.proofs.Treats.{unlost-collected, unlost-treated}
use Rattle.wire_progress.proofs.Waits.{Answering, CallAwaited, Coming, Holding, Holds, Keeps, Kept, Parted, Unlost}
use Rattle.wire_progress.proofs.Waits.{View, Waits, call-kept, caller_of, given-up-awaited, held-kept, holds-last}
use Rattle.wire_progress.proofs.Waits.{holds-more, holds-sent, same-kept, unlost-call, unlost-kept, view}

-- a call begins, ends or is given up
unlost-set : (s : Dimensions) (v : View) (caller : ℕ) (now : Option OpenCall) → CallAwaited s v caller now → Unlost s v
    → Unlost s (record v { gateways = record v.gateways { call = changed_at v.gateways.call caller now } })
unlost-set s v caller now here = unlost-call s v after kept caller now refl (call-kept s v after kept caller now here) where
  after : View
  after = record v { gateways = record v.gateways { call = changed_at v.gateways.call caller now } }

  kept : Keeps s v (record v { gateways = record v.gateways { call = changed_at v.gateways.call caller now } })
  kept = same-kept s v (record v.gateways { call = changed_at v.gateways.call caller now }) refl refl refl

unlost-gives-up : (g : Group) (caller : ℕ) (call : Option OpenCall) → g.gateways.call caller ≡ call
    → Unlost g.shape (view g)
    → Unlost g.shape
    (record (view g) {
      gateways = if_open call g.gateways
          (λ o. staged caller o (stage_given_up o.op o.stage) g.gateways);
    })
unlost-gives-up g caller None is h = h
unlost-gives-up g caller (Some o) is h = unlost-set g.shape (view g) caller (Some (record o { stage = stage_given_up o.op o.stage }))
    (given-up-awaited g.shape (view g) caller o.position o.op o.stage (subst (CallAwaited g.shape (view g) caller) is (h caller))) h

-- a request is sent
module _ (g : Group) (caller : ℕ) (x : ProcessId) (r : Request) (its : caller_of r ≡ caller) (call : ℕ → Option OpenCall) (next : ℕ → ℕ) where
  abbrev pub Sent : View
  Sent = record (view g) {
    gateways = record g.gateways {
      call = call;
      next = next;
      requests = sent_on g.words.cut g.gateways.requests (gateway_of g.shape caller) x r;
    };
  }

  sent-kept : Keeps g.shape (view g) Sent
  sent-kept y q (Parted is) = Parted is
  sent-kept y q (Coming there) =
      Coming (holds-sent q g.words.cut g.gateways.requests (gateway_of g.shape caller) x r
      (gateway_of g.shape (caller_of q)) y there)
  sent-kept y q (Kept there) = Kept there
  sent-kept y q (Holding is) = Holding is
  sent-kept y q (Answering a there) = Answering a there

  sent-waits : Waits g.shape Sent x r
  sent-waits = by (g.words.cut (gateway_of g.shape caller) x) refl where
    by : (b : Bool) → g.words.cut (gateway_of g.shape caller) x ≡ b → Waits g.shape Sent x r
    by true cut = Parted (inl (ap (λ (n : ℕ). g.words.cut (gateway_of g.shape n) x) its ∙ cut))
    by false uncut =
        Coming (subst
        (λ (n : ℕ). Holds r (sent_on g.words.cut g.gateways.requests (gateway_of g.shape caller) x r
        (gateway_of g.shape n) x)) (sym its)
        (subst (Holds r) (sym (sent-here g.words.cut g.gateways.requests (gateway_of g.shape caller) x r uncut))
        (holds-last r (g.gateways.requests (gateway_of g.shape caller) x))))

unlost-sends : (g : Group) (caller : ℕ) (x : ProcessId) (o : OpenCall) (stage : Stage) → IsProcess g.shape x
    → Unlost g.shape (view g) → Unlost g.shape (record (view g) { gateways = sends_by g caller x o stage })
unlost-sends g caller x o Unasked xin h = unlost-call g.shape (view g) (Sent g caller x r refl calls next) (sent-kept g caller x r refl calls next) caller
    (Some (record o { position = g.gateways.next caller; stage = AskedOf x })) refl (xin, sent-waits g caller x r refl calls next) h
  where
    r : Request
    r = AskFor caller (g.gateways.next caller) o.op

    calls : ℕ → Option OpenCall
    calls = (sends_by g caller x o Unasked).call

    next : ℕ → ℕ
    next = (sends_by g caller x o Unasked).next
unlost-sends g caller x o Unknown xin h = unlost-call g.shape (view g) (Sent g caller x r refl calls g.gateways.next)
    (sent-kept g caller x r refl calls g.gateways.next) caller
    (Some (record o { stage = TracedAt x })) refl (xin, sent-waits g caller x r refl calls g.gateways.next) h
  where
    r : Request
    r = TraceOf caller o.position (home_of (key_of o.op.act) g.shape.k)

    calls : ℕ → Option OpenCall
    calls = (sends_by g caller x o Unknown).call
unlost-sends g caller x o (AskedOf y) xin h = h
unlost-sends g caller x o (TracedAt y) xin h = h
unlost-sends g caller x o (Answered t n) xin h = h

-- a request is read
unlost-reads : (g : Group) (y p : ProcessId) (rs : List Request) → g.gateways.requests y p ≡ rs
    → Unlost g.shape (view g) → Unlost g.shape (record (view g) { gateways = read_first y p rs g.gateways })
unlost-reads g y p [] is h = h
unlost-reads g y p (r ∷ rest) is h = unlost-kept g.shape (view g) (record (view g) { gateways = read_first y p (r ∷ rest) g.gateways }) kept refl h where
  parks : (q : Request) (x : ProcessId) → Holds q (g.gateways.parked x) → Holds q (changed g.gateways.parked p (g.gateways.parked p ++ r ∷ []) x)
  parks q = changed-each (λ z rs. Holds q (g.gateways.parked z) → Holds q rs) g.gateways.parked p
      (g.gateways.parked p ++ r ∷ []) (holds-more q (g.gateways.parked p) (r ∷ [])) (λ z _ there. there)

  moves : (q : Request) (a b : ProcessId) → Holds q (g.gateways.requests a b)
      → Holds q (changed_from g.gateways.requests y p rest a b)
      ⊎ Holds q (changed g.gateways.parked p (g.gateways.parked p ++ r ∷ []) b)
  moves q = changed-pairs (λ a b rs. Holds q (g.gateways.requests a b) → Holds q rs
      ⊎ Holds q (changed g.gateways.parked p (g.gateways.parked p ++ r ∷ []) b)) g.gateways.requests y p rest
      (λ there. by (subst (Holds q) is there)) (λ a b there. inl there)
    where
      by : (q ≡ r) ⊎ Holds q rest → Holds q rest ⊎ Holds q (changed g.gateways.parked p (g.gateways.parked p ++ r ∷ []) p)
      by (inl same) =
          inr (subst (Holds q) (sym (changed-here g.gateways.parked p (g.gateways.parked p ++ r ∷ [])))
          (subst (λ (z : Request). Holds q (g.gateways.parked p ++ z ∷ [])) same (holds-last q (g.gateways.parked p))))
      by (inr there) = inl there

  kept : Keeps g.shape (view g) (record (view g) { gateways = read_first y p (r ∷ rest) g.gateways })
  kept x q (Parted apart) = Parted apart
  kept x q (Coming there) = by (moves q (gateway_of g.shape (caller_of q)) x there) where
    by : Holds q (changed_from g.gateways.requests y p rest (gateway_of g.shape (caller_of q)) x)
        ⊎ Holds q (changed g.gateways.parked p (g.gateways.parked p ++ r ∷ []) x)
        → Waits g.shape (record (view g) { gateways = read_first y p (r ∷ rest) g.gateways }) x q
    by (inl still) = Coming still
    by (inr parked) = Kept parked
  kept x q (Kept there) = Kept (parks q x there)
  kept x q (Holding held) = Holding held
  kept x q (Answering a there) = Answering a there

-- a process takes a message
unlost-takes : (g : Group) (x p : ProcessId) (m : Message) → Unlost g.shape (view g)
    → Unlost g.shape
    (record (view g) { process = changed g.works.process p (receive g.shape x m (g.works.process p)).process })
unlost-takes g x p m h =
    unlost-kept g.shape (view g)
    (record (view g) { process = changed g.works.process p (receive g.shape x m (g.works.process p)).process })
    (held-kept g.shape (view g) p (receive g.shape x m (g.works.process p)).process
    (λ e y there. has-same g.shape e y (g.works.process p) (receive g.shape x m (g.works.process p)).process
    (holds-receive g.shape x m (g.works.process p)) there)) refl h

unlost-receives : (g : Group) (x p : ProcessId) (ms : List Message) → Unlost g.shape (view g)
    → Unlost g.shape (record (view g) { process = (works_received g.shape g.words.cut x p ms g.works).process })
unlost-receives g x p [] h = h
unlost-receives g x p (m ∷ rest) h = unlost-takes g x p m h

-- members cut more
unlost-cut : (s : Dimensions) (v : View) (now : ProcessId → Processes)
    → ((a b : ProcessId) → v.cut a b ≡ true → now a b ≡ true) → Unlost s v → Unlost s (record v { cut = now })
unlost-cut s v now grows h = unlost-kept s v (record v { cut = now }) kept refl h where
  kept : Keeps s v (record v { cut = now })
  kept x r (Parted (inl is)) = Parted (inl (grows (gateway_of s (caller_of r)) x is))
  kept x r (Parted (inr is)) = Parted (inr (grows x (gateway_of s (caller_of r)) is))
  kept x r (Coming there) = Coming there
  kept x r (Kept there) = Kept there
  kept x r (Holding held) = Holding held
  kept x r (Answering a there) = Answering a there

unlost-step : (g : Group) (a : Action) → MayAct g a → Unlost g.shape (view g) → Unlost g.shape (view (group_after g a))
unlost-step g (Begin caller op) may h = unlost-set g.shape (view g) caller (Some (record { op = op; position = 0; stage = Unasked })) tt h
unlost-step g (Send caller x) may h = by (g.gateways.call caller) where
  by : (call : Option OpenCall) → Unlost g.shape (record (view g) { gateways = if_open call g.gateways (λ o. sends_by g caller x o o.stage) })
  by None = h
  by (Some o) = unlost-sends g caller x o o.stage may.1 h
unlost-step g (Read x p) may h = unlost-reads g x p (g.gateways.requests x p) refl h
unlost-step g (Treat p place) may h = unlost-treated g p place (parked_at g p place) refl h
unlost-step g (Collect caller call p) may h = unlost-collected g caller call p h
unlost-step g (Flush p) may h = unlost-kept g.shape (view g) (view (group_after g (Flush p)))
    (held-kept g.shape (view g) p (g.works.process p) (λ e y there. there)) refl h
unlost-step g (Learn x p) may h = unlost-learns g x p (g.signs.pinged p) (g.gateways.answers x p) refl h
unlost-step g (Receive x p) may h = unlost-receives g x p (g.works.messages x p) h
unlost-step g (GiveUp caller) may h = unlost-gives-up g caller (g.gateways.call caller) refl h
unlost-step g (Cut x p) may h = unlost-cut g.shape (view g) (changed g.words.cut p (with_one (g.words.cut p) x))
    (changed-each (λ a set. (b : ProcessId) → g.words.cut a b ≡ true → set b ≡ true) g.words.cut p
    (with_one (g.words.cut p) x) (grown-set (g.words.cut p) x) (λ a _ b is. is)) h
unlost-step g (Say p) may h = h
unlost-step g (Hear x p) may h = by (g.words.said x p) where
  by : (sets : List Processes) → Unlost g.shape (record (view g) { cut = (heard_first x p sets g.words).cut })
  by [] = h
  by (set ∷ rest) = h
unlost-step g (Permit p) may h = h
unlost-step g (Take x p) may h = unlost-takes g x p (tells.Notice x) h
unlost-step g (Ping to p) may h = h
unlost-step g (Pong x p) may h = h
unlost-step g (Count x p) may h = h
unlost-step g (Show caller ping) may h = unlost-set g.shape (view g) caller None tt h
unlost-step g (LetGo caller) may h = unlost-set g.shape (view g) caller None tt h
unlost-step g (Stop p) may h = h

unlost-from : (c : Composed) (actions : List Action) → AreActionsFrom c actions → Unlost c.group.shape (view c.group)
    → Unlost c.group.shape (view (composed_from c actions).group)
unlost-from c [] run h = h
unlost-from c (a ∷ rest) run h = unlost-from (composed_with c a) rest run.1 (unlost-step c.group a run.0 h)

pub unlost : (s : Dimensions) (actions : List Action) → AreActions s actions → Unlost s (view (composed s actions).group)
unlost s actions run = unlost-from (opening_composed s) actions run.1 (λ caller. tt)
