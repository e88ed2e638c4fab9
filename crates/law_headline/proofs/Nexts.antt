-- What a head settles as it issues an update are the next settled updates.
use Rattle.std.proofs.Common.{ℕ, suc, ◌≡◌, ◌≢◌, ◌<◌, ◌≤◌, ◌+◌, ◌-◌, ◌==◌, max, Bool, true, false, not, nat_le, List, []}
use Rattle.std.proofs.Common.{◌∷◌, ◌++◌, length, take, Option, Some, None, ◌⊎◌, inl, inr, refl, sym, ap, subst, ◌∙◌}
use Rattle.std.proofs.Common.{arith}
use Rattle.std.proofs.lemmas.Bool.{cases_eq, cases_lt}
use Rattle.std.proofs.lemmas.List.{append-nil, length-append, length-take, length-take-le, take-append-le, take_all}
use Rattle.std.specs.List.{list_any, range_with_len}
use Rattle.group_types.specs.Dimensions.{Dimensions}
use Rattle.group_types.specs.Lists.{at}
use Rattle.group_types.proofs.Lists.{at-put}
use Rattle.group_types.specs.Names.{same_process}
use Rattle.group_types.specs.declared.process.ProcessId.TheVariants.{ParityNode}
use Rattle.group_message.specs.declared.update.Update.{Update}
use Rattle.group_run.specs.Applying.{ProcessStep, Settlement, apply_to, for_each, head_at, replica_of, when, with_replica}
use Rattle.group_run.specs.Asking.{Oldest, act_on, issued, oldest_inherited, retry_block, ticketed, update_of}
use Rattle.group_message.specs.declared.update.Body.{Body}
use Rattle.group_message.specs.declared.update.Outcome.{Outcome}
use Rattle.group_calls.specs.Turns.{CallName}
use Rattle.group_calls.specs.declared.decision.Decision.{Decision}
use Rattle.group_calls.specs.declared.decision.Decision.TheVariants as decides
use Rattle.memc_table.specs.Asked.{Asked}
use Rattle.group_run.specs.Fitting.{NumberedFrom}
use Rattle.group_run.specs.Heading.{judge_head, least_acked, other_parities, settlements}
use Rattle.group_run.specs.History.{settled_with, history}
use Rattle.group_run.specs.Leaders.{copy_kept, copy_marked, lost_of, mark_comes, mark_taken, own_mark, row_finished, session_opened, start_session}
use Rattle.group_run.specs.Process.{Copy, Head, Process}
use Rattle.group_run.specs.Replica.{Replica, empty_replica, last_of, up_to, with_update}
use Rattle.group_run.specs.Rows.{accepts_mark, begin_copy, copy_in, is_marked, marked, parity_number}
use Rattle.group_run.specs.World.{settled_in}
use Rattle.law_histories.proofs.LaneWords.{Prolongs}
use Rattle.law_histories.proofs.Applies.{settles-is}
use Rattle.law_histories.proofs.Heads.{least-last}
use Rattle.law_histories.proofs.Histories.{history-with_update, length-history, settled-in-other, settled-in-own}
use Rattle.law_histories.proofs.Lanes.{begins-refl}
use Rattle.law_bytes.proofs.Premises.{GoesOn, SettlesNext}
use Rattle.law_bytes.proofs.Applying.{applied-settled}
use Rattle.law_headline.proofs.Applies.{goes-grown}

-- to start a session settles nothing
pub row-none : (b : Bool) (s : Dimensions) (copy : Copy) (p : Process) → (row_finished b s copy p).settled ≡ []
row-none true s copy p = refl
row-none false s copy p = refl

kept-none : (b : Bool) (s : Dimensions) (copy : Copy) (p : Process) → (copy_kept b s copy p).settled ≡ []
kept-none true s copy p = row-none (same_process p.name (ParityNode copy.leader)) s copy _
kept-none false s copy p = refl

marked-none : (s : Dimensions) (d n : ℕ) (o : Option Copy) (p : Process) → (copy_marked s d n o p).settled ≡ []
marked-none s d n None p = refl
marked-none s d n (Some copy) p = kept-none (is_marked s (marked d n copy)) s (marked d n copy) p

mark-none : (s : Dimensions) (leader number r block d n : ℕ) (p : Process) → (mark_comes s leader number r block d n p).settled ≡ []
mark-none s leader number r block d n p = by (accepts_mark p leader number r d) where
  by : (b : Bool) → (when b p (mark_taken s leader number block d n p)).settled ≡ []
  by true = let q : Process = apply_to s d n (begin_copy s leader number block p) in marked-none s d n (copy_in q.as_row.copies leader number) q
  by false = refl

marks-none : (s : Dimensions) (leader number block : ℕ) (ls : List ℕ) (p : Process) → (for_each ls (own_mark s leader number block) p).settled ≡ []
marks-none s leader number block [] p = refl
marks-none s leader number block (l ∷ ls) p =
    ap (λ (xs : List Settlement). xs ++ (for_each ls (own_mark s leader number block) (own_mark s leader number block l p).process).settled)
    (mark-none s leader number (at 0 p.ranks l) block l (replica_of p l).applied p)
    ∙ marks-none s leader number block ls (own_mark s leader number block l p).process

pub start-none : (s : Dimensions) (block : ℕ) (p : Process) → (start_session s block p).settled ≡ []
start-none s block p = marks-none s (parity_number p.name) (suc p.as_leader.last_session) block (lost_of s p)
    (session_opened s (suc p.as_leader.last_session) block p)

pub retry-none : (s : Dimensions) (block : ℕ) (o : Option Oldest) (p : Process) → (retry_block s block o p).step.settled ≡ []
retry-none s block (Some o) p = refl
retry-none s block None p = by (not (list_any (λ g. g.block == block) p.as_leader.sessions)) where
  by : (b : Bool) → (when b p (start_session s block p)).settled ≡ []
  by true = start-none s block p
  by false = refl

-- a front of a history is prolonged by it
front-prolongs : (more : List Update) (n : ℕ) (whole : List Update) → more ≡ take n whole → Prolongs more whole
front-prolongs more n whole is = by (cases_lt n (length whole)) where
  by : (n < length whole) ⊎ (length whole ≤ n) → Prolongs more whole
  by (inl under) = let long : length more ≡ n = ap length is ∙ length-take-le n whole (omega (arith, under)) in
      record { reaches = omega (arith, long, under); front = ap (λ (k : ℕ). take k whole) long ∙ sym is }
  by (inr over) = let all : more ≡ whole = is ∙ take_all n whole over in
      record {
        reaches = omega (arith, ap length all);
        front = ap (λ (us : List Update). take (length us) whole) all
            ∙ take_all (length whole) whole (omega arith) ∙ sym all;
      }

-- where nothing is settled
pub nothing-next : (s : Dimensions) (settled : ℕ → List Update) (p : Process) (t : ProcessStep)
    → ((d : ℕ) → settled_in d t.settled ≡ []) → SettlesNext s settled p t
nothing-next s settled p t none d below =
    ap (λ (us : List Update). take ((replica_of p d).applied + length us) (settled d)) (none d)
    ∙ ap (λ (n : ℕ). take n (settled d)) (omega arith)
    ∙ sym (append-nil (take (replica_of p d).applied (settled d)))
    ∙ ap (λ (us : List Update). take (replica_of p d).applied (settled d) ++ us) (sym (none d))

-- what is settled as an update is issued
module _ (s : Dimensions) (d : ℕ) (h : Head) (u : Update) (p : Process) (heads : head_at p d ≡ Some h) where
  pub told : Process
  told = with_replica d (with_update u (replica_of p d)) p

  pub least : ℕ
  least = least_acked h (last_of (replica_of told d)) (other_parities s.m p.name p.known)

  replica_told : replica_of told d ≡ with_update u (replica_of p d)
  unfolding told
  replica_told = at-put empty_replica empty_replica p.replicas d (with_update u (replica_of p d))

  pub issued-settles : (issued s d h u p).settled ≡ settlements d (up_to least (with_update u (replica_of p d)))
  unfolding told least
  issued-settles = ap (λ (o : Option Head). (judge_head s d told o).settled) heads ∙ ap (λ (x : Replica). settlements d (up_to least x)) replica_told

  pub least-within : least ≤ last_of (with_update u (replica_of p d))
  unfolding told least
  least-within = subst (λ (x : Replica). least ≤ last_of x) replica_told (least-last h (last_of (replica_of told d)) (other_parities s.m p.name p.known))

  -- the settled updates after it go on from what was applied
  pub issued-next : (settled more : List Update) → (replica_of p d).applied ≤ length settled → Prolongs settled (history settled (replica_of p d))
      → NumberedFrom 1 (history settled (replica_of p d) ++ u ∷ [])
      → more ≡ settled_with (issued s d h u p).settled d settled
      → take ((replica_of p d).applied + length (settled_in d (issued s d h u p).settled)) more
      ≡ take (replica_of p d).applied more ++ settled_in d (issued s d h u p).settled
  issued-next settled more applied prolongs numbers is =
      let own : settled_in d (issued s d h u p).settled ≡ up_to least (with_update u (replica_of p d)) = ap (settled_in d) issued-settles
      ∙ settled-in-own d (up_to least (with_update u (replica_of p d))) in
      let grown : history settled (with_update u (replica_of p d)) ≡ history settled (replica_of p d) ++ u ∷ [] =
      history-with_update settled (replica_of p d) applied u in
      let long : length (history settled (replica_of p d) ++ u ∷ []) ≡ length (history settled (replica_of p d)) + 1 =
      length-append (history settled (replica_of p d)) (u ∷ []) in
      let longer : Prolongs settled (history settled (with_update u (replica_of p d))) = subst (Prolongs settled) (sym grown) (record {
        reaches = let reach = prolongs.reaches in omega (arith, long, reach);
        front = take-append-le (length settled) (history settled (replica_of p d)) (u ∷ []) prolongs.reaches ∙ prolongs.front;
      }) in
      let is_front : more ≡ take (max (length settled) least) (history settled (with_update u (replica_of p d))) =
      is ∙ ap (λ (xs : List Settlement). settled_with xs d settled) issued-settles
      ∙ settles-is d settled (with_update u (replica_of p d)) least applied longer (subst (NumberedFrom 1) (sym grown) numbers) least-within in
      let reach = longer.reaches in
      let most = least-within in
      let last = length-history settled (with_update u (replica_of p d)) applied in
      let count : length more ≡ max (length settled) least = ap length is_front
      ∙ length-take-le (max (length settled) least) (history settled (with_update u (replica_of p d))) (omega (arith, reach, most, last)) in
      let taken = length-take (least - (replica_of p d).applied) ((replica_of p d).log ++ u ∷ []) in
      let within : (replica_of p d).applied + length (up_to least (with_update u (replica_of p d))) ≤ length more = omega (arith, count, taken, applied) in
      let goes : GoesOn more (with_update u (replica_of p d)) =
      goes-grown settled more (with_update u (replica_of p d)) (history settled (with_update u (replica_of p d))) applied
      (begins-refl (history settled (with_update u (replica_of p d))))
      (front-prolongs more (max (length settled) least) (history settled (with_update u (replica_of p d))) is_front) in
      ap (λ (us : List Update). take ((replica_of p d).applied + length us) more) own
      ∙ applied-settled more (with_update u (replica_of p d)) least goes within
      ∙ ap (λ (us : List Update). take (replica_of p d).applied more ++ us) (sym own)

-- what a ticket does settles nothing
pub ticketed-settled : (b : Bool) (d : ℕ) (u : Update) (t : ProcessStep) → (ticketed b d u t).step.settled ≡ t.settled
ticketed-settled true d u t = refl
ticketed-settled false d u t = refl

-- what a head settles as it is asked is next
module _ (s : Dimensions) (p : Process) (settled more : ℕ → List Update) (name : CallName) (op : Asked) (e : ℕ) (inside : e < s.k)
    (applied : (replica_of p e).applied ≤ length (settled e)) (prolongs : Prolongs (settled e) (history (settled e) (replica_of p e))) where
  pub act-next : (h : Head) (decision : Decision) → head_at p e ≡ Some h
      → ((body : Body) (outcome : Outcome) → decision ≡ decides.Issue body outcome
      → NumberedFrom 1 (history (settled e) (replica_of p e) ++ update_of name op e body outcome p ∷ []))
      → ((d : ℕ) → d < s.k → more d ≡ settled_with (act_on s name op e h p decision).step.settled d (settled d))
      → SettlesNext s more p (act_on s name op e h p decision).step
  act-next h (decides.Answer r) heads numbers is = nothing-next s more p (act_on s name op e h p (decides.Answer r)).step (λ d. refl)
  act-next h (decides.Retry n) heads numbers is = nothing-next s more p (act_on s name op e h p (decides.Retry n)).step (λ d. refl)
  act-next h decides.NoSpace heads numbers is = nothing-next s more p (act_on s name op e h p decides.NoSpace).step (λ d. refl)
  act-next h (decides.NeedBlock b) heads numbers is =
      nothing-next s more p (act_on s name op e h p (decides.NeedBlock b)).step
      (λ d. ap (settled_in d) (retry-none s b (oldest_inherited p (range_with_len 0 s.k)) p))
  act-next h (decides.Issue body outcome) heads numbers is = λ d below. by d below (cases_eq e d) where
    same : (act_on s name op e h p (decides.Issue body outcome)).step.settled ≡ (issued s e h (update_of name op e body outcome p) p).settled
    same =
        ticketed-settled (nat_le (suc (last_of (replica_of p e))) (replica_of (issued s e h (update_of name op e body outcome p) p).process e).applied) e
        (update_of name op e body outcome p) (issued s e h (update_of name op e body outcome p) p)

    by : (d : ℕ) → d < s.k → (e ≡ d) ⊎ (e ≢ d)
        → take ((replica_of p d).applied + length (settled_in d (act_on s name op e h p (decides.Issue body outcome)).step.settled)) (more d) ≡ take
        (replica_of p d).applied (more d) ++ settled_in d (act_on s name op e h p (decides.Issue body outcome)).step.settled
    by d below (inl here) =
        subst
        (λ (j : ℕ). take
        ((replica_of p j).applied + length
        (settled_in j (act_on s name op e h p (decides.Issue body outcome)).step.settled)) (more j)
        ≡ take (replica_of p j).applied (more j)
        ++ settled_in j (act_on s name op e h p (decides.Issue body outcome)).step.settled) here
        (subst (λ (ss : List Settlement). take ((replica_of p e).applied + length (settled_in e ss)) (more e)
        ≡ take (replica_of p e).applied (more e) ++ settled_in e ss) (sym same)
        (issued-next s e h (update_of name op e body outcome p) p heads (settled e) (more e) applied prolongs
        (numbers body outcome refl) (is e inside ∙ ap (λ (ss : List Settlement). settled_with ss e (settled e))
        same)))
    by d below (inr other) =
        let none : settled_in d (act_on s name op e h p (decides.Issue body outcome)).step.settled ≡ [] =
        ap (settled_in d) (same ∙ issued-settles s e h (update_of name op e body outcome p) p heads)
        ∙ settled-in-other d e (up_to (least s e h (update_of name op e body outcome p) p heads)
        (with_update (update_of name op e body outcome p) (replica_of p e))) other in
        ap (λ (us : List Update). take ((replica_of p d).applied + length us) (more d)) none
        ∙ ap (λ (n : ℕ). take n (more d)) (omega arith)
        ∙ sym (append-nil (take (replica_of p d).applied (more d)))
        ∙ ap (λ (us : List Update). take (replica_of p d).applied (more d) ++ us) (sym none)
