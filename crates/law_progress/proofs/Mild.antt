-- Steps that leave copies and sessions, and send nothing of a session but rows and blocks; and that every call makes
-- one, or opens a session.
use Rattle.std.proofs.Common.{◌≡◌, ℕ, suc, ◌%◌, ◌<◌, ◌==◌, nat_le, Bool, true, false, not, List, [], ◌∷◌, filter, find}
use Rattle.std.proofs.Common.{is_some, Option, Some, None, ◌⊎◌, inl, inr, refl, ap, ◌∙◌, arith}
use Rattle.std.specs.List.{list_any, range_with_len}
use Rattle.group_types.specs.Dimensions.{Dimensions, space_of}
use Rattle.group_types.specs.Hash.{fnv1a, home_of}
use Rattle.group_types.specs.Names.{IsProcess}
use Rattle.group_types.specs.declared.process.ProcessId.{ProcessId}
use Rattle.group_types.specs.declared.process.ProcessId.TheVariants.{DataNode, ParityNode}
use Rattle.group_types.specs.Each.{Each}
use Rattle.group_types.proofs.Eaches.{each-append, each-all, each-map}
use Rattle.membership.specs.Members.{knows_dead}
use Rattle.memc_table.specs.Act.{key_of}
use Rattle.memc_table.specs.Asked.{Asked}
use Rattle.group_message.specs.declared.message.Message.{Message}
use Rattle.group_message.specs.declared.update.Update.{Update}
use Rattle.group_calls.specs.Turns.{CallName}
use Rattle.group_calls.specs.declared.decision.Decision.{Decision}
use Rattle.group_calls.specs.declared.decision.Decision.TheVariants as decides
use Rattle.group_run.specs.Applying.{ProcessStep, and_then, apply_to, for_each, head_at, held_at, quiet, replica_of}
use Rattle.group_run.specs.Applying.{sending, when, with_head, with_held, with_replica}
use Rattle.group_run.specs.Asking.{Oldest, act_on, ask_head, collect_from, collect_held, found_at, handed_out, holding}
use Rattle.group_run.specs.Asking.{is_call, issued, oldest_inherited, retry_block, ticketed, update_of}
use Rattle.group_run.specs.Deciding.{decide}
use Rattle.group_run.specs.Heading.{acknowledge, acknowledged, judge, judge_head, other_parities, tell_stable, tell_stables, to_others}
use Rattle.group_run.specs.Leaders.{rebuilt_block, start_session}
use Rattle.group_run.specs.Process.{Head, Held, Process}
use Rattle.group_run.specs.Receiving.{enthroned, take_over_if, taken_over, takes_over}
use Rattle.group_run.specs.Replica.{with_update}
use Rattle.group_run.specs.Rows.{parity_number}
use Rattle.law_moves.proofs.Moves.{Asks, Collects, Flushes, Treats}
use Rattle.law_moves.proofs.Calls.{Owes, Seated, step-treats}
use Rattle.law_moves.proofs.Cores.{SentWell}
use Rattle.law_bytes.proofs.Unasked.{never-asks}
use Rattle.law_answers.proofs.Awaited.{kept-apply}
use Rattle.law_progress.proofs.Waiting.{Has, AsksForBlock, IsBlock, IsMark, IsRead, IsRow, marks_in}
use Rattle.law_progress.proofs.Sides.{Accepts, Calm, CalmSent, Fair, IsCease, calm-sent, marks-apply, same-leader, same-row}

-- a process with the same copies and sessions
pub record Alike (p q : Process) : Type 0 where
  pub known : q.known ≡ p.known
  pub ceased : q.as_row.ceased ≡ p.as_row.ceased
  pub marks : (l n : ℕ) → marks_in q l n ≡ marks_in p l n
  pub sessions : q.as_leader.sessions ≡ p.as_leader.sessions
  pub last : q.as_leader.last_session ≡ p.as_leader.last_session
  pub rebuilt : (d b : ℕ) → is_some (rebuilt_block q.as_leader d b) ≡ is_some (rebuilt_block p.as_leader d b)

pub alike-self : (p : Process) → Alike p p
alike-self p = record { known = refl; ceased = refl; marks = λ l n. refl; sessions = refl; last = refl; rebuilt = λ d b. refl }

pub alike-then : (p q r : Process) → Alike p q → Alike q r → Alike p r
alike-then p q r a b = record {
  known = b.known ∙ a.known;
  ceased = b.ceased ∙ a.ceased;
  marks = λ l n. b.marks l n ∙ a.marks l n;
  sessions = b.sessions ∙ a.sessions;
  last = b.last ∙ a.last;
  rebuilt = λ d x. b.rebuilt d x ∙ a.rebuilt d x;
}

-- only a replica, a rank, a head or held calls change
pub alike-same : (p q : Process) → q.known ≡ p.known → q.as_row ≡ p.as_row → q.as_leader ≡ p.as_leader → Alike p q
alike-same p q known row leader = record {
  known = known;
  ceased = ap (λ r. r.ceased) row;
  marks = λ l n. ap (λ r. marks_in (record p { as_row = r }) l n) row;
  sessions = ap (λ l. l.sessions) leader;
  last = ap (λ l. l.last_session) leader;
  rebuilt = λ d b. ap (λ l. is_some (rebuilt_block l d b)) leader;
}

pub alike-apply : (s : Dimensions) (d k : ℕ) (p : Process) → Alike p (apply_to s d k p)
alike-apply s d k p = record { known = refl; ceased = refl; marks = marks-apply s d k p; sessions = refl; last = refl; rebuilt = λ e b. kept-apply s d k p e b }

-- such a step
pub record Mild (p : Process) (t : ProcessStep) : Type 0 where
  pub alike : Alike p t.process
  pub calm : CalmSent t.sent

pub mild-self : (p : Process) → Mild p (quiet p)
mild-self p = record { alike = alike-self p; calm = tt }

pub mild-then : (p : Process) (a : ProcessStep) (f : Process → ProcessStep) → Mild p a → Mild a.process (f a.process) → Mild p (and_then a f)
mild-then p a f first next =
    record {
      alike = alike-then p a.process (f a.process).process first.alike next.alike;
      calm = each-append (λ z. Calm z.message) a.sent (f a.process).sent first.calm next.calm;
    }

pub mild-each : (xs : List ℕ) (f : ℕ → Process → ProcessStep) (p : Process) → ((x : ℕ) (q : Process) → Mild q (f x q)) → Mild p (for_each xs f p)
mild-each [] f p all = mild-self p
mild-each (x ∷ xs) f p all = mild-then p (f x p) (for_each xs f) (all x p) (mild-each xs f (f x p).process all)

pub mild-when : (b : Bool) (p : Process) (t : ProcessStep) → Mild p t → Mild p (when b p t)
mild-when true p t mild = mild
mild-when false p t mild = mild-self p

-- a message to all others
pub calm-others : (s : Dimensions) (p : Process) (m : Message) → Calm m → CalmSent (to_others s p m)
calm-others s p m calm =
    each-map (λ z. Calm z.message) (λ i. record { to = ParityNode i; message = m }) (other_parities s.m p.name p.known)
    (each-all (λ i. Calm m) (λ i. calm) (other_parities s.m p.name p.known))

mod-below : (n k : ℕ) → 0 < k → n % k < k
mod-below n k some = omega (arith, some)

module _ (s : Dimensions) where
  pub mild-judge : (d : ℕ) (p : Process) → Mild p (judge s d p)
  mild-judge d p = by (head_at p d) where
    by : (o : Option Head) → Mild p (judge_head s d p o)
    by None = mild-self p
    by (Some h) = record { alike = alike-apply s d _ p; calm = tt }

  pub mild-take : (d : ℕ) (p : Process) → Mild p (take_over_if s d p)
  mild-take d p = mild-when (takes_over p d p.name) p (taken_over s d p)
      (let q : Process = enthroned s (suc (parity_number p.name)) d p in
      mild-then p (sending _ q) (judge s d) (record { alike = alike-same p q refl refl refl; calm = calm-others s p _ tt }) (mild-judge d q))

  pub mild-acked : (p : Process) (i r d n : ℕ) (o : Option Head) → Mild p (acknowledge s i r d n o p)
  mild-acked p i r d n None = mild-self p
  mild-acked p i r d n (Some h) = mild-when (r == h.rank) p _
      (let q : Process = with_head d (Some (acknowledged i n h)) p in
      let step = mild-judge d q in
      record { alike = alike-then p q (judge s d q).process (alike-same p q refl refl refl) step.alike; calm = step.calm })

  -- the process heads a partition
  abbrev pub HeadsOne : Process → Type 0
  HeadsOne p = (d : ℕ) × (d < s.k) × ((h : Head) × (head_at p d ≡ Some h))

  -- a step with a session, or a mild one
  abbrev pub Treated : Process → ProcessStep → Type 0
  Treated p t = Mild p t ⊎ ((block l : ℕ) × (p.name ≡ ParityNode l) × HeadsOne p × (t ≡ start_session s block p))

  module _ (p : Process) (x : ProcessId) (name : p.name ≡ x) (inside : IsProcess s x) (living : knows_dead p.known x ≡ false) where
    opens : (block : ℕ) → HeadsOne p → SentWell Owes s.k (start_session s block p).process (start_session s block p).sent
        → (start_session s block p).process.name ≡ p.name → Treated p (start_session s block p)
    opens block heads well same = by x name inside living where
      by : (y : ProcessId) → p.name ≡ y → IsProcess s y → knows_dead p.known y ≡ false → Treated p (start_session s block p)
      by (ParityNode l) is within lives = inr (block, l, is, heads, refl)
      by (DataNode e) is within lives = absurd (never-asks s e block p is within lives well same)

    retries : (block : ℕ) (o : Option Oldest) → HeadsOne p → SentWell Owes s.k (retry_block s block o p).step.process (retry_block s block o p).step.sent
        → (retry_block s block o p).step.process.name ≡ p.name → Treated p (retry_block s block o p).step
    retries block (Some o) heads well same = inl (mild-self p)
    retries block None heads well same = by (not (list_any (λ g. g.block == block) p.as_leader.sessions)) well same where
      by : (b : Bool) → SentWell Owes s.k (when b p (start_session s block p)).process (when b p (start_session s block p)).sent
          → (when b p (start_session s block p)).process.name ≡ p.name → Treated p (when b p (start_session s block p))
      by true sent is = opens block heads sent is
      by false sent is = inl (mild-self p)

    mild-issued : (d : ℕ) (h : Head) (u : Update) → Mild p (issued s d h u p)
    mild-issued d h u =
        let told : Process = with_replica d (with_update u (replica_of p d)) p in
        mild-then p (sending (to_others s p _) told) (judge s d)
        (record { alike = alike-same p told refl refl refl; calm = calm-others s p _ tt }) (mild-judge d told)

    mild-ticketed : (b : Bool) (d : ℕ) (u : Update) (t : ProcessStep) → Mild p t → Mild p (ticketed b d u t).step
    mild-ticketed true d u t mild = mild
    mild-ticketed false d u t mild =
        record {
          alike = alike-then p t.process (holding d u t.process) mild.alike
              (alike-same t.process (holding d u t.process) refl refl refl);
          calm = mild.calm;
        }

    acts : (call : CallName) (op : Asked) (d : ℕ) (h : Head) (decision : Decision) → HeadsOne p
        → SentWell Owes s.k (act_on s call op d h p decision).step.process (act_on s call op d h p decision).step.sent
        → (act_on s call op d h p decision).step.process.name ≡ p.name → Treated p (act_on s call op d h p decision).step
    acts call op d h (decides.Answer r) heads well same = inl (mild-self p)
    acts call op d h (decides.Retry n) heads well same = inl (mild-self p)
    acts call op d h decides.NoSpace heads well same = inl (mild-self p)
    acts call op d h (decides.NeedBlock b) heads well same = retries b (oldest_inherited p (range_with_len 0 s.k)) heads well same
    acts call op d h (decides.Issue body outcome) heads well same =
        let u : Update = update_of call op d body outcome p in
        inl (mild-ticketed (nat_le u.number (replica_of (issued s d h u p).process d).applied) d u (issued s d h u p) (mild-issued d h u))

    asks : (call : CallName) (op : Asked) (d : ℕ) (o : Option Head) → d < s.k → head_at p d ≡ o
        → SentWell Owes s.k (ask_head s call op d p o).step.process (ask_head s call op d p o).step.sent
        → (ask_head s call op d p o).step.process.name ≡ p.name → Treated p (ask_head s call op d p o).step
    asks call op d None below is well same = inl (mild-self p)
    asks call op d (Some h) below is well same =
        acts call op d h (decide (space_of s) h.inherited (replica_of p d) op (found_at s d p p.name))
        (d, below, (h, is)) well same

    mild-handed : (b : Bool) (d : ℕ) (h : Held) → Mild p (handed_out b d h p).step
    mild-handed true d h =
        record {
          alike = alike-same p (with_held d (filter (λ y. not (is_call h.caller h.call y)) (held_at p d)) p) refl
              refl refl;
          calm = tt;
        }
    mild-handed false d h = mild-self p

    mild-collect : (caller call : ℕ) (ds : List ℕ) → Mild p (collect_from caller call p ds).step
    mild-collect caller call [] = mild-self p
    mild-collect caller call (d ∷ ds) = by (find (is_call caller call) (held_at p d)) (mild-collect caller call ds) where
      by : (o : Option Held) → Mild p (collect_from caller call p ds).step → Mild p (collect_held d o p (collect_from caller call p ds)).step
      by None rest = rest
      by (Some h) rest = mild-handed (nat_le h.number (replica_of p d).applied) d h

    calm-stables : (ds : List ℕ) → CalmSent (tell_stables s p ds)
    calm-stables [] = tt
    calm-stables (d ∷ ds) = each-append (λ z. Calm z.message) (tell_stable s p d (head_at p d)) (tell_stables s p ds) (by (head_at p d)) (calm-stables ds) where
      by : (o : Option Head) → CalmSent (tell_stable s p d o)
      by None = tt
      by (Some h) = calm-others s p _ tt

    pub treated : (t : ProcessStep) → Treats s p t → Seated s p x → Treated p t
    treated _ (Asks call op bytes) seated =
        let well = step-treats s p x _ seated (Asks call op bytes) in
        asks call op (home_of (key_of op.act) s.k) (head_at p (home_of (key_of op.act) s.k))
        (mod-below (fnv1a (key_of op.act)) s.k seated.some) refl well.sent well.same.name
    treated _ (Collects caller call) seated = inl (mild-collect caller call (range_with_len 0 s.k))
    treated _ Flushes seated = inl (record { alike = alike-self p; calm = calm-stables (range_with_len 0 s.k) })

  -- what came has no part in a session here
  module _ (x : ProcessId) (came : List Message) (p : Process) (t : ProcessStep) (mild : Mild p t) where
    pub fair-mild : ((l n r d : ℕ) → p.name ≡ ParityNode r → Has (IsMark l n d) came → Each (Accepts p) came → ⊥)
        → ((l n : ℕ) → x ≡ ParityNode l → Has (IsCease n) came → ⊥)
        → ((l n r : ℕ) → p.name ≡ ParityNode l → x ≡ ParityNode r → Has (IsRow l n) came → ⊥)
        → ((l n d : ℕ) → p.name ≡ ParityNode l → x ≡ DataNode d → Has (IsBlock l n) came → ⊥)
        → ((l n r e : ℕ) → p.name ≡ DataNode e → Has (AsksForBlock l n r) came → ⊥)
        → ((l n e : ℕ) → p.name ≡ DataNode e → Has (IsRead l n) came → ⊥) → Fair s x came p t
    fair-mild no_mark no_cease no_row no_block no_ask no_read = record {
      row = same-row s x came p t mild.alike.ceased mild.alike.marks no_mark no_cease;
      leader = same-leader s x came p t mild.alike.known mild.alike.sessions mild.alike.last no_row no_block;
      sent = calm-sent s x came p t no_ask no_read mild.calm;
    }

  pub fair-treated : (x : ProcessId) (p : Process) (t : ProcessStep) → Mild p t → Fair s x [] p t
  fair-treated x p t mild =
      fair-mild x [] p t mild (λ l n r d name has accepted. has) (λ l n from has. has) (λ l n r name from has. has)
      (λ l n d name from has. has) (λ l n r e name has. has) (λ l n e name has. has)
