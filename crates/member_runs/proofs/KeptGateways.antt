-- What an action of one member leaves of the callers, the requests and the answers of another.
use Rattle.std.proofs.Common.{ℕ, suc, ◌≡◌, ◌≢◌, Bool, false, List, [], ◌∷◌, ◌++◌, Option, Some, None, refl, sym, ap, ◌∙◌}
use Rattle.std.proofs.lemmas.Bool.{ne_eqb}
use Rattle.std.specs.List.{range_with_len}
use Rattle.group_types.specs.Dimensions.{Dimensions}
use Rattle.group_types.specs.Each.{Each}
use Rattle.group_types.specs.Names.{same_process}
use Rattle.group_types.specs.declared.process.ProcessId.{ProcessId}
use Rattle.group_run.specs.Asking.{collect_from}
use Rattle.group_wire.specs.Actions.{Action, Begin, Send, Read, Treat, Collect, Flush, Learn, Receive, GiveUp, Cut, Say}
use Rattle.group_wire.specs.Actions.{Hear, Permit, Take, Ping, Pong, Count, Show, LetGo, Stop}
use Rattle.group_wire.specs.FromWhom.{IsCallerOf, NameTheirCallers}
use Rattle.group_wire.specs.Sending.{parked_at, treating}
use Rattle.group_wire.specs.Serving.{gateways_after, handed_to, if_open, learned_first, read_first, request_treated}
use Rattle.group_wire.specs.Serving.{sends_by, staged, stage_given_up, tell, told_of}
use Rattle.group_wire.specs.Sets.{changed, changed_at, one_or, without_nth}
use Rattle.group_wire.specs.State.{AskedOf, Answered, Gateways, Group, OpenCall, Request, Stage, Told, TracedAt, Unasked, Unknown, gateway_of}
use Rattle.member_runs.specs.Reading.{rest_of}
use Rattle.member_runs.proofs.Acting.{by_of, reads_answer, reads_request}
use Rattle.member_runs.proofs.Rows.{changed-other, less_if, row-empty, row-read}

-- the callers of q stay, and its requests and answers, but that p may have read the first
pub record KeepsGateways (s : Dimensions) (g now : Gateways) (q p : ProcessId) (request answer : Bool) : Type 0 where
  pub call : (c : ℕ) → gateway_of s c ≡ q → now.call c ≡ g.call c
  pub next : (c : ℕ) → gateway_of s c ≡ q → now.next c ≡ g.next c
  pub requests : (r : ProcessId) → now.requests q r ≡ less_if request p (g.requests q) r
  pub answers : (r : ProcessId) → now.answers q r ≡ less_if answer p (g.answers q) r
  pub parked : now.parked q ≡ g.parked q

number-other : {X : Type 0} (f : ℕ → X) (n : ℕ) (x : X) (i : ℕ) → i ≢ n → changed_at f n x i ≡ f i
number-other f n x i other = ap (λ (b : Bool). one_or b x (f i)) (ne_eqb i n other)

module _ (s : Dimensions) (g : Gateways) (q : ProcessId) where
  same-gateways : (p : ProcessId) → KeepsGateways s g g q p false false
  same-gateways p = record { call = λ c its. refl; next = λ c its. refl; requests = λ r. refl; answers = λ r. refl; parked = refl }

  another : (caller c : ℕ) → q ≢ gateway_of s caller → gateway_of s c ≡ q → c ≢ caller
  another caller c other its same = other (sym its ∙ ap (gateway_of s) same)

  -- a caller of another gateway has another call
  called-gateways : (caller : ℕ) (o : Option OpenCall) → q ≢ gateway_of s caller
      → KeepsGateways s g (record g { call = changed_at g.call caller o }) q (gateway_of s caller) false false
  called-gateways caller o other = record {
    call = λ c its. number-other g.call caller o c (another caller c other its);
    next = λ c its. refl;
    requests = λ r. refl;
    answers = λ r. refl;
    parked = refl;
  }

  read-gateways : (x p : ProcessId) (wire : List Request) → wire ≡ g.requests x p → q ≢ p
      → KeepsGateways s g (read_first x p wire g) q p (same_process q x) false
  read-gateways x p [] is other =
      record { call = λ c its. refl; next = λ c its. refl; requests = λ r. row-empty g.requests x p (sym is) q r; answers = λ r. refl; parked = refl }
  read-gateways x p (request ∷ rest) is other = record {
    call = λ c its. refl;
    next = λ c its. refl;
    requests = λ r. row-read g.requests x p rest (ap rest_of is) q r;
    answers = λ r. refl;
    parked = changed-other g.parked p q (g.parked p ++ request ∷ []) other;
  }

  learned-gateways : (x p : ProcessId) (pinged : ℕ) (wire : List Told) → wire ≡ g.answers x p → Each (λ (t : Told). IsCallerOf s p t.caller) wire → q ≢ p
      → KeepsGateways s g (learned_first x p pinged wire g) q p false (same_process q x)
  learned-gateways x p pinged [] is theirs other =
      record { call = λ c its. refl; next = λ c its. refl; requests = λ r. refl; answers = λ r. row-empty g.answers x p (sym is) q r; parked = refl }
  learned-gateways x p pinged (t ∷ rest) is theirs other = record {
    call = λ c its. number-other g.call t.caller _ c (another t.caller c (λ same. other (same ∙ theirs.0.1)) its);
    next = λ c its. refl;
    requests = λ r. refl;
    answers = λ r. row-read g.answers x p rest (ap rest_of is) q r;
    parked = refl;
  }

module _ (g : Group) (q : ProcessId) where
  sent-gateways : (caller : ℕ) (x : ProcessId) (opened : OpenCall) (stage : Stage) → q ≢ gateway_of g.shape caller
      → KeepsGateways g.shape g.gateways (sends_by g caller x opened stage) q (gateway_of g.shape caller) false false
  sent-gateways caller x opened Unasked other = record {
    call = λ c its. number-other g.gateways.call caller _ c (another g.shape g.gateways q caller c other its);
    next = λ c its. number-other g.gateways.next caller (suc (g.gateways.next caller)) c (another g.shape g.gateways q caller c other its);
    requests = λ r. ap (λ (row : ProcessId → List Request). row r) (changed-other g.gateways.requests (gateway_of g.shape caller) q _ other);
    answers = λ r. refl;
    parked = refl;
  }
  sent-gateways caller x opened Unknown other = record {
    call = λ c its. number-other g.gateways.call caller _ c (another g.shape g.gateways q caller c other its);
    next = λ c its. refl;
    requests = λ r. ap (λ (row : ProcessId → List Request). row r) (changed-other g.gateways.requests (gateway_of g.shape caller) q _ other);
    answers = λ r. refl;
    parked = refl;
  }
  sent-gateways caller x opened (AskedOf y) other = same-gateways g.shape g.gateways q _
  sent-gateways caller x opened (TracedAt y) other = same-gateways g.shape g.gateways q _
  sent-gateways caller x opened (Answered t pinged) other = same-gateways g.shape g.gateways q _

  open-sent : (caller : ℕ) (x : ProcessId) (o : Option OpenCall) → q ≢ gateway_of g.shape caller
      → KeepsGateways g.shape g.gateways (if_open o g.gateways (λ opened. sends_by g caller x opened opened.stage)) q (gateway_of g.shape caller) false false
  open-sent caller x None other = same-gateways g.shape g.gateways q _
  open-sent caller x (Some opened) other = sent-gateways caller x opened opened.stage other

  open-given_up : (caller : ℕ) (o : Option OpenCall) → q ≢ gateway_of g.shape caller
      → KeepsGateways g.shape g.gateways (if_open o g.gateways (λ opened. staged caller opened (stage_given_up opened.op opened.stage) g.gateways)) q
      (gateway_of g.shape caller) false false
  open-given_up caller None other = same-gateways g.shape g.gateways q _
  open-given_up caller (Some opened) other = called-gateways g.shape g.gateways q caller _ other

  -- what p tells goes onto its own wires
  told-gateways : (p : ProcessId) (ts : List Told) (now : Gateways) → q ≢ p → KeepsGateways g.shape g.gateways now q p false false
      → KeepsGateways g.shape g.gateways (tell g p ts now) q p false false
  told-gateways p [] now other keeps = keeps
  told-gateways p (t ∷ ts) now other keeps = told-gateways p ts _ other (record {
    call = keeps.call;
    next = keeps.next;
    requests = keeps.requests;
    answers = λ r. ap (λ (row : ProcessId → List Told). row r) (changed-other now.answers p q _ other) ∙ keeps.answers r;
    parked = keeps.parked;
  })

  abbrev without_parked : ProcessId → ℕ → Gateways
  without_parked p place = record g.gateways { parked = changed g.gateways.parked p (without_nth (g.gateways.parked p) place) }

  treated-gateways : (p : ProcessId) (place : ℕ) (o : Option Request) → q ≢ p → KeepsGateways g.shape g.gateways (request_treated g p place o) q p false false
  treated-gateways p place None other = same-gateways g.shape g.gateways q _
  treated-gateways p place (Some request) other =
      told-gateways p (told_of request (treating g.shape request (g.works.process p)).answer) (without_parked p place)
      other (record {
        call = λ c its. refl;
        next = λ c its. refl;
        requests = λ r. refl;
        answers = λ r. refl;
        parked = changed-other g.gateways.parked p q (without_nth (g.gateways.parked p) place) other;
      })

  pub keeps-gateways : (a : Action) → NameTheirCallers g.shape g.gateways → q ≢ by_of g.shape a
      → KeepsGateways g.shape g.gateways (gateways_after g a) q (by_of g.shape a) (reads_request a q) (reads_answer a q)
  keeps-gateways (Begin caller op) theirs other = called-gateways g.shape g.gateways q caller _ other
  keeps-gateways (Send caller x) theirs other = open-sent caller x (g.gateways.call caller) other
  keeps-gateways (Read x p) theirs other = read-gateways g.shape g.gateways q x p (g.gateways.requests x p) refl other
  keeps-gateways (Treat p place) theirs other = treated-gateways p place (parked_at g p place) other
  keeps-gateways (Collect caller call p) theirs other =
      told-gateways p
      (handed_to caller call (collect_from caller call (g.works.process p) (range_with_len 0 g.shape.k)).answer)
      g.gateways other (same-gateways g.shape g.gateways q p)
  keeps-gateways (Learn x p) theirs other = learned-gateways g.shape g.gateways q x p (g.signs.pinged p)
      (g.gateways.answers x p) refl (theirs.answers x p) other
  keeps-gateways (GiveUp caller) theirs other = open-given_up caller (g.gateways.call caller) other
  keeps-gateways (Show caller ping) theirs other = called-gateways g.shape g.gateways q caller None other
  keeps-gateways (LetGo caller) theirs other = called-gateways g.shape g.gateways q caller None other
  keeps-gateways (Flush p) theirs other = same-gateways g.shape g.gateways q _
  keeps-gateways (Receive x p) theirs other = same-gateways g.shape g.gateways q _
  keeps-gateways (Cut x p) theirs other = same-gateways g.shape g.gateways q _
  keeps-gateways (Say p) theirs other = same-gateways g.shape g.gateways q _
  keeps-gateways (Hear x p) theirs other = same-gateways g.shape g.gateways q _
  keeps-gateways (Permit p) theirs other = same-gateways g.shape g.gateways q _
  keeps-gateways (Take x p) theirs other = same-gateways g.shape g.gateways q _
  keeps-gateways (Ping to p) theirs other = same-gateways g.shape g.gateways q _
  keeps-gateways (Pong x p) theirs other = same-gateways g.shape g.gateways q _
  keeps-gateways (Count x p) theirs other = same-gateways g.shape g.gateways q _
  keeps-gateways (Stop p) theirs other = same-gateways g.shape g.gateways q _
