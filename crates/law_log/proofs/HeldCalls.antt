-- What an ask and a collect make of the calls that a process holds.
use Rattle.std.proofs.Common.{ℕ, suc, ◌≡◌, ◌≢◌, ◌<◌, ◌≤◌, ◌-◌, ◌+◌, nat_le, Bool, true, false, not, List, [], ◌∷◌, ◌++◌}
use Rattle.std.proofs.Common.{length, take, drop, Option, Some, None, ◌⊎◌, inl, inr, refl, sym, ap, subst, ◌∙◌, arith}
use Rattle.std.proofs.lemmas.Bool.{cases_eq, cases_lt}
use Rattle.std.proofs.lemmas.Grind.{common_steps}
use Rattle.std.proofs.lemmas.List.{drop-append-le, length-append, take_all}
use Rattle.std.proofs.lemmas.List.Elements.{Contains-append_right}
use Rattle.std.specs.Prelude.{filter, find, Contains}
use Rattle.std.specs.List.{range_with_len}
use Rattle.group_types.specs.Dimensions.{Dimensions, space_of}
use Rattle.group_types.specs.Lists.{at, put}
use Rattle.group_types.proofs.Lists.{at-put, at-put-other}
use Rattle.group_types.specs.Each.{Each}
use Rattle.group_types.proofs.Eaches.{each-append, each-filter}
use Rattle.memc_table.specs.Asked.{Asked}
use Rattle.group_message.specs.declared.update.Update.{Update}
use Rattle.group_calls.specs.Turns.{CallName}
use Rattle.group_calls.specs.declared.decision.Decision.{Decision}
use Rattle.group_calls.specs.declared.decision.Decision.TheVariants as decides
use Rattle.group_run.specs.Applying.{ProcessStep, head_at, held_at, replica_of, with_held, with_replica}
use Rattle.group_run.specs.Asking.{CallStep, Oldest, act_on, ask_head, collect_from, collect_held, found_at, handed_out}
use Rattle.group_run.specs.Asking.{is_call, issued, oldest_inherited, retry_block, ticketed, update_of}
use Rattle.group_run.specs.Deciding.{decide}
use Rattle.group_run.specs.Heading.{judge_head, least_acked, other_parities}
use Rattle.group_run.specs.Leaders.{start_session}
use Rattle.group_run.specs.Process.{Head, Held, Process}
use Rattle.group_run.specs.Replica.{Replica, applied_to, empty_replica, last_of, with_update}
use Rattle.law_log.proofs.Holds.{holds-judge, holds-start, holds-when}

-- a held call of an update
abbrev pub held_of : Update → Held
held_of u = record { caller = u.caller; call = u.call; number = u.number; outcome = u.outcome }

-- other calls held of partition e
held-put : (P : Held → Type 0) (d e : ℕ) (p : Process) (ys : List Held) → Each P (held_at p d) → (d ≡ e → Each P ys) → Each P (held_at (with_held e ys p) d)
held-put P d e p ys all here = by (cases_eq d e) where
  by : (d ≡ e) ⊎ (d ≢ e) → Each P (held_at (with_held e ys p) d)
  by (inl same) = subst (Each P) (sym (ap (at [] (put [] p.held e ys)) same ∙ at-put [] [] p.held e ys)) (here same)
  by (inr other) = subst (Each P) (sym (at-put-other [] p.held e d ys other)) all

module _ (P : Held → Type 0) (d : ℕ) where
  held-handed : (b : Bool) (e : ℕ) (h : Held) (p : Process) → Each P (held_at p d) → Each P (held_at (handed_out b e h p).step.process d)
  held-handed true e h p all = held-put P d e p (filter (λ x. not (is_call h.caller h.call x)) (held_at p e)) all
      (λ same. each-filter P (λ x. not (is_call h.caller h.call x)) (held_at p e) (subst (λ (k : ℕ). Each P (held_at p k)) same all))
  held-handed false e h p all = all

  held-found : (e : ℕ) (h : Option Held) (p : Process) (elsewhere : CallStep) → Each P (held_at p d) → Each P (held_at elsewhere.step.process d)
      → Each P (held_at (collect_held e h p elsewhere).step.process d)
  held-found e None p elsewhere all rest = rest
  held-found e (Some h) p elsewhere all rest = held-handed (nat_le h.number (replica_of p e).applied) e h p all

  -- a collect only forgets
  pub held-collect : (caller call : ℕ) (p : Process) (es : List ℕ) → Each P (held_at p d) → Each P (held_at (collect_from caller call p es).step.process d)
  held-collect caller call p [] all = all
  held-collect caller call p (e ∷ es) all = held-found e (find (is_call caller call) (held_at p e)) p
      (collect_from caller call p es) all (held-collect caller call p es all)

-- an update that was put behind and isn't applied yet stands in the log
log-has : (r : Replica) (u : Update) (n : ℕ) → u.number ≡ suc (last_of r)
    → nat_le u.number (applied_to n (with_update u r)).applied ≡ false → Contains (applied_to n (with_update u r)).log u
log-has r u n number test = by (cases_lt (length r.log) (n - r.applied)) where
  whole : length (r.log ++ u ∷ []) ≡ length r.log + 1
  whole = length-append r.log (u ∷ [])

  above : r.applied + length (take (n - r.applied) (r.log ++ u ∷ [])) < u.number
  above = grind (arith, common_steps)

  by : (length r.log < n - r.applied) ⊎ (n - r.applied ≤ length r.log) → Contains (applied_to n (with_update u r)).log u
  by (inl more) =
      let all : length (take (n - r.applied) (r.log ++ u ∷ [])) ≡ length (r.log ++ u ∷ []) =
      ap length (take_all (n - r.applied) (r.log ++ u ∷ []) (omega (arith, more, whole))) in
      absurd (omega (arith, above, all, whole, number))
  by (inr low) =
      subst (λ (us : List Update). Contains us u) (sym (drop-append-le (n - r.applied) r.log (u ∷ []) low))
      (Contains-append_right (drop (n - r.applied) r.log) (u ∷ []) u (0, omega arith, refl))

log-judged : (s : Dimensions) (e : ℕ) (q : Process) (h : Option Head) (r : Replica) (u : Update) → replica_of q e ≡ with_update u r → u.number ≡ suc (last_of r)
    → nat_le u.number (replica_of (judge_head s e q h).process e).applied ≡ false → Contains (replica_of (judge_head s e q h).process e).log u
log-judged s e q None r u is number test = subst (λ (x : Replica). Contains x.log u) (sym is) (Contains-append_right r.log (u ∷ []) u (0, omega arith, refl))
log-judged s e q (Some h) r u is number test =
    by _ (at-put empty_replica empty_replica q.replicas e (applied_to n (replica_of q e)) ∙ ap (applied_to n) is)
    test where
      n : ℕ
      n = least_acked h (last_of (replica_of q e)) (other_parities s.m q.name q.known)

      by : (x : Replica) → x ≡ applied_to n (with_update u r) → nat_le u.number x.applied ≡ false → Contains x.log u
      by x same test = subst (λ (y : Replica). Contains y.log u) (sym same)
          (log-has r u n number (ap (λ (y : Replica). nat_le u.number y.applied) (sym same) ∙ test))

module _ (s : Dimensions) (P : Held → Type 0) (d : ℕ) where
  -- a ticket puts the update's call behind those that are held, and the log has the update
  held-issued : (e : ℕ) (h : Head) (u : Update) (p : Process) → u.number ≡ suc (last_of (replica_of p e)) → (b : Bool)
      → nat_le u.number (replica_of (issued s e h u p).process e).applied ≡ b → Each P (held_at p d)
      → (d ≡ e → Contains (replica_of (issued s e h u p).process d).log u → P (held_of u))
      → Each P (held_at (ticketed b e u (issued s e h u p)).step.process d)
  held-issued e h u p number b test all more = by b test where
    told : Process
    told = with_replica e (with_update u (replica_of p e)) p

    same : held_at (issued s e h u p).process d ≡ held_at p d
    same = ap (λ (held : List (List Held)). at [] held d) (holds-judge s e told)

    stays : Each P (held_at (issued s e h u p).process d)
    stays = subst (Each P) (sym same) all

    by : (b : Bool) → nat_le u.number (replica_of (issued s e h u p).process e).applied ≡ b
        → Each P (held_at (ticketed b e u (issued s e h u p)).step.process d)
    by true test = stays
    by false test = held-put P d e (issued s e h u p).process (held_at (issued s e h u p).process e ++ held_of u ∷ []) stays
        (λ here. each-append P (held_at (issued s e h u p).process e) (held_of u ∷ [])
        (subst (λ (k : ℕ). Each P (held_at (issued s e h u p).process k)) here stays) (
          more here (subst (λ (k : ℕ). Contains (replica_of (issued s e h u p).process k).log u) (sym here)
              (log-judged s e told (head_at told e) (replica_of p e) u
              (at-put empty_replica empty_replica p.replicas e (with_update u (replica_of p e))) number test)),
          tt,
        ))

  held-retry : (b : ℕ) (o : Option Oldest) (p : Process) → Each P (held_at p d) → Each P (held_at (retry_block s b o p).step.process d)
  held-retry b (Some o) p all = all
  held-retry b None p all = subst (λ (held : List (List Held)). Each P (at [] held d)) (sym (holds-when _ p (start_session s b p) (holds-start s b p))) all

  replica-ticketed : (b : Bool) (e : ℕ) (u : Update) (t : ProcessStep) → replica_of (ticketed b e u t).step.process d ≡ replica_of t.process d
  replica-ticketed true e u t = refl
  replica-ticketed false e u t = refl

  held-act : (name : CallName) (op : Asked) (e : ℕ) (h : Head) (p : Process) (decision : Decision) → Each P (held_at p d)
      → ((u : Update) → d ≡ e → Contains (replica_of (act_on s name op e h p decision).step.process d).log u → P (held_of u))
      → Each P (held_at (act_on s name op e h p decision).step.process d)
  held-act name op e h p (decides.Answer r) all more = all
  held-act name op e h p (decides.Retry n) all more = all
  held-act name op e h p decides.NoSpace all more = all
  held-act name op e h p (decides.NeedBlock b) all more = held-retry b (oldest_inherited p (range_with_len 0 s.k)) p all
  held-act name op e h p (decides.Issue body outcome) all more =
      let u : Update = update_of name op e body outcome p in
      let t : ProcessStep = issued s e h u p in
      held-issued e h u p refl (nat_le u.number (replica_of t.process e).applied) refl all
      (λ here there.
      more u here (subst (λ (r : Replica). Contains r.log u)
      (sym (replica-ticketed (nat_le u.number (replica_of t.process e).applied) e u t)) there))

  -- what is held after a call was asked: what was, or the call of an update of the log
  pub held-ask : (name : CallName) (op : Asked) (e : ℕ) (p : Process) (h : Option Head) → head_at p e ≡ h → Each P (held_at p d)
      → ((g : Head) (u : Update) → head_at p d ≡ Some g → Contains (replica_of (ask_head s name op e p h).step.process d).log u → P (held_of u))
      → Each P (held_at (ask_head s name op e p h).step.process d)
  held-ask name op e p None heads all more = all
  held-ask name op e p (Some h) heads all more =
      held-act name op e h p (decide (space_of s) h.inherited (replica_of p e) op (found_at s e p p.name)) all
      (λ u here there. more h u (ap (head_at p) here ∙ heads) there)
