-- Where an ask gets a ticket, the process holds the call; and no number that is held is above the last.
use Rattle.std.proofs.Common.{ℕ, ◌≡◌, ◌==◌, ◌&&◌, nat_le, Bool, true, false, List, [], ◌∷◌, ◌++◌, Option, Some, None, refl, sym, subst, arith}
use Rattle.std.specs.Prelude.{Contains}
use Rattle.std.specs.List.{range_with_len}
use Rattle.std.proofs.lemmas.Grind.{common_steps}
use Rattle.std.proofs.lemmas.List.Elements.{Contains-append_right}
use Rattle.group_types.specs.Dimensions.{Dimensions, space_of}
use Rattle.group_types.proofs.Lists.{at-put}
use Rattle.memc_table.specs.Asked.{Asked}
use Rattle.group_message.specs.declared.update.Update.{Update}
use Rattle.group_calls.specs.Turns.{CallName}
use Rattle.group_calls.specs.declared.decision.Decision.{Decision}
use Rattle.group_calls.specs.declared.decision.Decision.TheVariants as decides
use Rattle.group_calls.specs.declared.event.Answer.TheVariants as says
use Rattle.group_run.specs.Applying.{ProcessStep, held_at, replica_of}
use Rattle.group_run.specs.Asking.{Oldest, act_on, ask_head, found_at, is_call, issued, oldest_inherited, retry_block, ticketed, update_of}
use Rattle.group_run.specs.Deciding.{decide}
use Rattle.group_run.specs.Process.{Head, Held, Process}

-- a process holds this call, of an update of partition d
abbrev pub HoldsNamed : ℕ → ℕ → ℕ → Process → Type 0
HoldsNamed caller call d p = (x : Held) × Contains (held_at p d) x × (is_call caller call x ≡ true)

pub equal-self : (n : ℕ) → (n == n) ≡ true
equal-self n = grind (arith, common_steps)

both : (a b : Bool) → a ≡ true → b ≡ true → (a && b) ≡ true
both true true _ _ = refl
both true false _ is = cc is
both false b is _ = cc is

ticket-holds : (b : Bool) (d n : ℕ) (u : Update) (t : ProcessStep) → (ticketed b d u t).answer ≡ says.Ticket n
    → HoldsNamed u.caller u.call d (ticketed b d u t).step.process
ticket-holds true d n u t is = cc is
ticket-holds false d n u t is =
    let x : Held = record { caller = u.caller; call = u.call; number = u.number; outcome = u.outcome } in (
      x,
      subst (λ (xs : List Held). Contains xs x) (sym (at-put [] [] t.process.held d (held_at t.process d ++ x ∷ [])))
          (Contains-append_right (held_at t.process d) (x ∷ []) x (0, omega arith, refl)),
      both (u.caller == u.caller) (u.call == u.call) (equal-self u.caller) (equal-self u.call),
    )

act-holds : (s : Dimensions) (name : CallName) (op : Asked) (d n : ℕ) (h : Head) (p : Process) (decision : Decision)
    → (act_on s name op d h p decision).answer ≡ says.Ticket n
    → HoldsNamed name.caller name.call d (act_on s name op d h p decision).step.process
act-holds s name op d n h p (decides.Answer r) is = cc is
act-holds s name op d n h p (decides.Retry m) is = cc is
act-holds s name op d n h p decides.NoSpace is = cc is
act-holds s name op d n h p (decides.NeedBlock b) is = by (oldest_inherited p (range_with_len 0 s.k)) is where
  by : (o : Option Oldest) → (retry_block s b o p).answer ≡ says.Ticket n → HoldsNamed name.caller name.call d (retry_block s b o p).step.process
  by None same = cc same
  by (Some o) same = cc same
act-holds s name op d n h p (decides.Issue body outcome) is =
    let u : Update = update_of name op d body outcome p in
    ticket-holds (nat_le u.number (replica_of (issued s d h u p).process d).applied) d n u (issued s d h u p) is

pub ask-holds : (s : Dimensions) (name : CallName) (op : Asked) (d n : ℕ) (p : Process) (o : Option Head) → (ask_head s name op d p o).answer ≡ says.Ticket n
    → HoldsNamed name.caller name.call d (ask_head s name op d p o).step.process
ask-holds s name op d n p None is = cc is
ask-holds s name op d n p (Some h) is = act-holds s name op d n h p (decide (space_of s) h.inherited (replica_of p d) op (found_at s d p p.name)) is
