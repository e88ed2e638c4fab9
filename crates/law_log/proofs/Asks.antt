-- What a head that stands answers: a refusal is the table's on what is settled, and a reply that accepts is that
-- of an update which this step settles.
use Rattle.std.proofs.Common.{ℕ, zero, suc, ◌≡◌, ◌+◌, ◌-◌, ◌<◌, ◌≤◌, nat_le, nat_lt, Bool, true, false, List, [], ◌∷◌}
use Rattle.std.proofs.Common.{◌++◌, take, length, ◌⊎◌, inl, inr, Option, Some, None, if◌then◌else◌, refl, sym, ap}
use Rattle.std.proofs.Common.{subst, ◌∙◌, arith}
use Rattle.std.specs.Prelude.{Contains, filter}
use Rattle.std.specs.List.{range_with_len}
use Rattle.std.proofs.lemmas.Bool.{cases_lt, eq-eqb}
use Rattle.std.proofs.lemmas.Grind.{common_steps}
use Rattle.std.proofs.lemmas.List.{length-append, length-take-le, take_all}
use Rattle.std.proofs.lemmas.List.Elements.{Contains-append_right}
use Rattle.group_types.specs.Dimensions.{Dimensions, space_of}
use Rattle.group_types.specs.Hash.{home_of}
use Rattle.group_types.proofs.Lists.{at-put}
use Rattle.memc_table.specs.Act.{key_of}
use Rattle.memc_table.specs.Expiry.{live_at}
use Rattle.memc_table.specs.declared.reply.Reply.{Reply}
use Rattle.memc_table.specs.declared.ruling.Ruling.TheVariants.{Refused}
use Rattle.group_message.specs.declared.update.Body.{Body}
use Rattle.group_message.specs.declared.update.Outcome.{Outcome}
use Rattle.group_message.specs.declared.update.Update.{Update}
use Rattle.group_calls.specs.Turns.{CallName, accepts}
use Rattle.group_calls.specs.declared.decision.Decision.{Decision}
use Rattle.group_calls.specs.declared.decision.Decision.TheVariants as decides
use Rattle.group_calls.specs.declared.event.Answer.{Answer}
use Rattle.group_calls.specs.declared.event.Answer.TheVariants as says
use Rattle.group_run.specs.Applying.{ProcessStep, apply_to, head_at, replica_of, with_replica}
use Rattle.group_run.specs.Asking.{Oldest, act_on, ask_head, ask_process, found_at, issued, oldest_inherited, reply_from, retry_block, ticketed, update_of}
use Rattle.group_run.specs.Deciding.{decide}
use Rattle.group_run.specs.Heading.{judge_head, least_acked, other_parities, settlements}
use Rattle.group_run.specs.History.{settled_with, history}
use Rattle.group_run.specs.Process.{Head, Process}
use Rattle.group_run.specs.Replica.{Replica, applied_to, empty_replica, last_of, up_to, with_update}
use Rattle.group_run.specs.World.{AskedCall, front_if, new_ones, settled_in, update_name}
use Rattle.law_updates.specs.Decisions.{IsSound, ReadsFrom}
use Rattle.law_updates.specs.Right.{ruling_in}
use Rattle.law_updates.specs.Store.{held, store_after}
use Rattle.law_updates.proofs.Decides.{decisions_are_sound}
use Rattle.law_updates.proofs.Fines.{issues_are_fine, now-fits, now-items}
use Rattle.law_updates.proofs.Rules.{RulesWell, rules-well}
use Rattle.law_log.proofs.Laws.{HeadsIssueFine}
use Rattle.law_log.specs.Stands.{HeadStands}
use Rattle.law_log.proofs.Entries.{accepted-from}
use Rattle.law_log.proofs.Refusals.{front-is, head-replica, settled-refusal}

-- the reply of an answer, if it is one
abbrev pub reply-in : Answer → Option Reply
reply-in (says.Reply reply) = Some reply
reply-in _ = None

pub same-reply : (a b : Reply) → says.Reply a ≡ says.Reply b → a ≡ b
same-reply a b is = ap (λ (x : Answer). elim (reply-in x) as (λ _. Reply) [ None ↦ a | Some y ↦ y ]) is

pub not-reply : (answer : Answer) (reply : Reply) → reply-in answer ≡ None → answer ≡ says.Reply reply → ⊥
not-reply answer reply none is = let some : reply-in answer ≡ Some reply = ap reply-in is in cc (none, some)

-- a block that has to be rebuilt puts a call off
retry-block-none : (s : Dimensions) (b : ℕ) (o : Option Oldest) (p : Process) → reply-in (retry_block s b o p).answer ≡ None
retry-block-none s b None p = refl
retry-block-none s b (Some o) p = refl

module _ (s : Dimensions) (calls : List AskedCall) (settled : List Update) (c : AskedCall) (d : ℕ) (p : Process) (h : Head)
    (stands : HeadStands s calls settled d p h) where
  abbrev r : Replica
  r = replica_of p d

  sound : IsSound (space_of s) h.inherited r (store_after s d (take r.applied settled)) c.op (decide (space_of s) h.inherited r c.op (found_at s d p p.name))
  sound =
      let replica = head-replica s calls settled d p h stands in
      let front : take r.applied (history settled r) ≡ take r.applied settled = front-is s calls settled d p h stands in
      let good = now-fits s calls d r.applied (history settled r) stands.fine r replica in
      subst (λ (us : List Update). IsSound (space_of s) h.inherited r (store_after s d us) c.op
      (decide (space_of s) h.inherited r c.op (found_at s d p p.name))) front
      (decisions_are_sound (space_of s) h.inherited r (store_after s d (take r.applied (history settled r))) c.op (found_at s d p p.name) good.long good.inside
      (sym (now-items s calls d r.applied (history settled r) stands.fine r replica))
      (subst (λ (us : List Update). ReadsFrom (store_after s d us).space (found_at s d p p.name)) (sym front) stands.reads))

  -- a refusal
  refused-when : (decision : Decision) → IsSound (space_of s) h.inherited r (store_after s d (take r.applied settled)) c.op decision
      → (reply : Reply) → (act_on s c.name c.op d h p decision).answer ≡ says.Reply reply → accepts reply ≡ false
      → (n : ℕ) → ruling_in (store_after s d settled) n c.op ≡ Refused reply
  refused-when (decides.Answer own) fine reply is refused n = settled-refusal s calls settled d p h stands c.op own fine
      n ∙ ap Refused (same-reply own reply is)
  refused-when (decides.Retry k) fine reply is refused n = absurd (not-reply _ reply refl is)
  refused-when decides.NoSpace fine reply is refused n = absurd (not-reply _ reply refl is)
  refused-when (decides.NeedBlock b) fine reply is refused n =
      absurd (not-reply _ reply (retry-block-none s b (oldest_inherited p (range_with_len 0 s.k)) p) is)
  refused-when (decides.Issue body outcome) fine reply is refused n = absurd (by _ _ is) where
    by : (b : Bool) (step : ProcessStep) → (ticketed b d (update_of c.name c.op d body outcome p) step).answer ≡ says.Reply reply → ⊥
    by true step is = let same = ap accepts (same-reply (reply_from outcome) reply is) in let yes = accepted-from outcome in cc (same, yes, refused)
    by false step is = not-reply _ reply refl is

-- the settlements of a partition are its own
settled-own : (d : ℕ) (us : List Update) → settled_in d (settlements d us) ≡ us
settled-own d [] = refl
settled-own d (u ∷ us) = ap (λ (b : Bool). front_if b u (settled_in d (settlements d us))) (eq-eqb d d refl)
    ∙ ap (λ (rest : List Update). u ∷ rest) (settled-own d us)

-- all of a list is taken where that many are
took-all : (k : ℕ) (us : List Update) → length us ≤ length (take k us) → take k us ≡ us
took-all k us long = take_all k us (by (cases_lt k (length us))) where
  by : (k < length us) ⊎ (length us ≤ k) → length us ≤ k
  by (inr enough) = enough
  by (inl few) = let most = length-take-le k us (omega arith) in absurd (omega arith)

-- a member that passes a test is among those that do
contains-filter : (test : Update → Bool) (us : List Update) (u : Update) → Contains us u → test u ≡ true → Contains (filter test us) u
contains-filter test [] u place passes = absurd (omega (arith, place.1))
contains-filter test (v ∷ vs) u (zero, below, is) passes =
    let here : test v ≡ true = ap test is ∙ passes in
    subst (λ (b : Bool). Contains (if b then v ∷ filter test vs else filter test vs) u) (sym here) (0, omega arith, is)
contains-filter test (v ∷ vs) u (suc k, below, is) passes = by (test v) (contains-filter test vs u (k, omega arith, is) passes) where
  by : (b : Bool) → Contains (filter test vs) u → Contains (if b then v ∷ filter test vs else filter test vs) u
  by true there = (suc there.0, (let low = there.1 in omega arith), there.2)
  by false there = there

-- a new update among others is settled for the first time
new-contained : (c : ℕ) (us : List Update) (u : Update) → c < u.number → Contains us u → Contains (new_ones c us) u
new-contained c us u above there =
    let passes : nat_lt c u.number ≡ true = grind (arith, common_steps) in
    contains-filter (λ v. nat_lt c v.number) us u there passes

module _ (s : Dimensions) (settled : List Update) (d : ℕ) (p : Process) (u : Update)
    (number : u.number ≡ suc (last_of (replica_of p d))) (reached : length settled ≤ last_of (replica_of p d)) where
  -- the process with the update in its log
  abbrev with_it : Process
  with_it = with_replica d (with_update u (replica_of p d)) p

  its-replica : replica_of with_it d ≡ with_update u (replica_of p d)
  its-replica = at-put empty_replica empty_replica p.replicas d (with_update u (replica_of p d))

  settled-here : (n : ℕ) → u.number ≤ (replica_of (apply_to s d n with_it) d).applied
      → Contains (settled_with ([] ++ settlements d (up_to n (replica_of with_it d))) d settled) u
  settled-here n reaches =
      let applied : replica_of (apply_to s d n with_it) d ≡ applied_to n (with_update u (replica_of p d))
      = at-put empty_replica empty_replica with_it.replicas d (applied_to n (replica_of with_it d)) ∙ ap (applied_to n) its-replica in
      let took : List Update = take (n - (replica_of p d).applied) ((replica_of p d).log ++ u ∷ []) in
      let many : u.number ≤ (replica_of p d).applied + length took = subst (λ (x : Replica). u.number ≤ x.applied) applied reaches in
      let all : took ≡ (replica_of p d).log ++ u ∷ [] =
      took-all (n - (replica_of p d).applied) ((replica_of p d).log ++ u ∷ [])
      (omega (arith, number, length-append (replica_of p d).log (u ∷ []))) in
      let up : up_to n (replica_of with_it d) ≡ (replica_of p d).log ++ u ∷ [] = ap (up_to n) its-replica ∙ all in
      let own : settled_in d ([] ++ settlements d (up_to n (replica_of with_it d))) ≡ (replica_of p d).log ++ u ∷ [] =
      settled-own d (up_to n (replica_of with_it d)) ∙ up in
      subst (λ (us : List Update). Contains (settled ++ new_ones (length settled) us) u) (sym own)
      (Contains-append_right settled (new_ones (length settled) ((replica_of p d).log ++ u ∷ [])) u
      (new-contained (length settled) ((replica_of p d).log ++ u ∷ []) u (omega (arith, number))
      (Contains-append_right (replica_of p d).log (u ∷ []) u (0, omega arith, refl))))

  judged-settles : (head : Option Head) → u.number ≤ (replica_of (judge_head s d with_it head).process d).applied
      → Contains (settled_with ([] ++ (judge_head s d with_it head).settled) d settled) u
  judged-settles None reaches =
      let same : (replica_of with_it d).applied ≡ (replica_of p d).applied = ap (λ (x : Replica). x.applied) its-replica in absurd (omega (arith, number))
  judged-settles (Some h) reaches = settled-here (least_acked h (last_of (replica_of with_it d)) (other_parities s.m with_it.name with_it.known)) reaches

-- an update that a call is answered by at once is settled in this step
pub record AnsweredBy (settled : List Update) (name : CallName) (reply : Reply) : Type 0 where
  pub update : Update
  pub there : Contains settled update
  pub named : update_name update ≡ name
  pub replied : reply_from update.outcome ≡ reply

module _ (s : Dimensions) (calls : List AskedCall) (settled : List Update) (c : AskedCall) (d : ℕ) (p : Process) (h : Head)
    (stands : HeadStands s calls settled d p h) where
  issued-answered : (body : Body) (outcome : Outcome) (b : Bool)
      → nat_le (suc (last_of (replica_of p d)))
      (replica_of (issued s d h (update_of c.name c.op d body outcome p) p).process d).applied ≡ b
      → (reply : Reply)
      → (ticketed b d (update_of c.name c.op d body outcome p)
      (issued s d h (update_of c.name c.op d body outcome p) p)).answer ≡ says.Reply reply
      → AnsweredBy (settled_with
      (ticketed b d (update_of c.name c.op d body outcome p)
      (issued s d h (update_of c.name c.op d body outcome p) p)).step.settled d settled) c.name reply
  issued-answered body outcome false test reply is = absurd (not-reply _ reply refl is)
  issued-answered body outcome true test reply is = record {
    update = update_of c.name c.op d body outcome p;
    there = judged-settles s settled d p (update_of c.name c.op d body outcome p) refl stands.reached (head_at p d) (grind (arith, common_steps));
    named = refl;
    replied = same-reply (reply_from outcome) reply is;
  }

  answered-when : (decision : Decision) → IsSound (space_of s) h.inherited (replica_of p d)
      (store_after s d (take (replica_of p d).applied settled)) c.op decision
      → (reply : Reply) → (act_on s c.name c.op d h p decision).answer ≡ says.Reply reply → accepts reply ≡ true
      → AnsweredBy (settled_with (act_on s c.name c.op d h p decision).step.settled d settled) c.name reply
  answered-when (decides.Answer own) fine reply is accepted =
      let well = rules-well c.op.moment 0 c.op.act (live_at c.op.moment (held (store_after s d (take (replica_of p d).applied settled)) (key_of c.op.act))) in
      let refused : accepts own ≡ false =
      subst (RulesWell 0 c.op.act
      (live_at c.op.moment (held (store_after s d (take (replica_of p d).applied settled)) (key_of c.op.act))))
      (fine.ruled 0) well in
      let same = ap accepts (same-reply own reply is) in absurd (cc (same, refused, accepted))
  answered-when (decides.Retry k) fine reply is accepted = absurd (not-reply _ reply refl is)
  answered-when decides.NoSpace fine reply is accepted = absurd (not-reply _ reply refl is)
  answered-when (decides.NeedBlock b) fine reply is accepted =
      absurd (not-reply _ reply (retry-block-none s b (oldest_inherited p (range_with_len 0 s.k)) p) is)
  answered-when (decides.Issue body outcome) fine reply is accepted =
      issued-answered body outcome
      (nat_le (suc (last_of (replica_of p d)))
      (replica_of (issued s d h (update_of c.name c.op d body outcome p) p).process d).applied) refl reply is

module _ (s : Dimensions) (calls : List AskedCall) (settled : List Update) (c : AskedCall) (p : Process)
    (stands : (h : Head) → head_at p (home_of (key_of c.op.act) s.k) ≡ Some h → HeadStands s calls settled (home_of (key_of c.op.act) s.k) p h) where
  -- what is asked of a process that may head the key's partition
  pub ask-refused : (reply : Reply) → (ask_process s c.name c.op p).answer ≡ says.Reply reply → accepts reply ≡ false
      → (n : ℕ) → ruling_in (store_after s (home_of (key_of c.op.act) s.k) settled) n c.op ≡ Refused reply
  ask-refused reply is refused n = by (head_at p (home_of (key_of c.op.act) s.k)) refl is where
    by : (h : Option Head) → head_at p (home_of (key_of c.op.act) s.k) ≡ h
        → (ask_head s c.name c.op (home_of (key_of c.op.act) s.k) p h).answer ≡ says.Reply reply
        → ruling_in (store_after s (home_of (key_of c.op.act) s.k) settled) n c.op ≡ Refused reply
    by None heads is = absurd (not-reply _ reply refl is)
    by (Some h) heads is =
        refused-when s calls settled c (home_of (key_of c.op.act) s.k) p h (stands h heads) _
        (sound s calls settled c (home_of (key_of c.op.act) s.k) p h (stands h heads)) reply is refused n

  pub ask-answered : (reply : Reply) → (ask_process s c.name c.op p).answer ≡ says.Reply reply → accepts reply ≡ true
      → AnsweredBy (settled_with (ask_process s c.name c.op p).step.settled (home_of (key_of c.op.act) s.k) settled) c.name reply
  ask-answered reply is accepted = by (head_at p (home_of (key_of c.op.act) s.k)) refl is where
    by : (h : Option Head) → head_at p (home_of (key_of c.op.act) s.k) ≡ h
        → (ask_head s c.name c.op (home_of (key_of c.op.act) s.k) p h).answer ≡ says.Reply reply
        → AnsweredBy (settled_with (ask_head s c.name c.op (home_of (key_of c.op.act) s.k) p h).step.settled
        (home_of (key_of c.op.act) s.k) settled) c.name reply
    by None heads is = absurd (not-reply _ reply refl is)
    by (Some h) heads is =
        answered-when s calls settled c (home_of (key_of c.op.act) s.k) p h (stands h heads) _
        (sound s calls settled c (home_of (key_of c.op.act) s.k) p h (stands h heads)) reply is accepted

-- what it issues prolongs its history
pub heads_issue_fine : HeadsIssueFine
heads_issue_fine s calls settled d p h c body outcome stands next home decided =
    let r : Replica = replica_of p d in
    issues_are_fine s calls d h.inherited (history settled r) c p body outcome stands.fine (head-replica s calls settled d p h stands)
    (record { caller = next.caller; home = home; bytes = next.bytes }) next.behind
    (subst (λ (us : List Update). ReadsFrom (store_after s d us).space (found_at s d p p.name))
    (sym (front-is s calls settled d p h stands)) stands.reads) decided
