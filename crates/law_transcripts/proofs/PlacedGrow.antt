-- The runs of a partition's updates only grow along a run.
use Rattle.std.proofs.Common.{ℕ, ◌≡◌, ◌≢◌, ◌⊎◌, inl, inr, List, [], ◌∷◌, ◌++◌, length, map, Option, sym, ap, subst, ◌∙◌, append-nil, append_assoc}
use Rattle.std.specs.List.{range_with_len}
use Rattle.std.proofs.lemmas.Bool.{cases_eq}
use Rattle.group_types.specs.Lists.{at, put}
use Rattle.group_types.specs.declared.run.Run.{Run}
use Rattle.group_types.proofs.Lists.{at-put, at-put-other}
use Rattle.group_message.specs.declared.update.Update.{Update}
use Rattle.group_calls.specs.Turns.{Turn}
use Rattle.group_calls.specs.declared.event.Event.{Event}
use Rattle.group_run.specs.Applying.{Settlement}
use Rattle.group_run.specs.Replica.{run_of}
use Rattle.group_run.specs.World.{Ledger, Ticket, World, call_of, group_step, grown, ledger_after, ledger_with}
use Rattle.group_run.specs.World.{logged_at_once, new_ones, settled_in, step, tickets_after, world_after}
use Rattle.law_moves.proofs.Reading.{grown-is}
use Rattle.scenario_run.proofs.Leading.{Leads}

-- runs that begin with these
pub record Begins (runs more : List (Option Run)) : Type 0 where
  pub rest : List (Option Run)
  pub is : more ≡ runs ++ rest

pub begins-alike : (runs : List (Option Run)) → Begins runs runs
begins-alike runs = record { rest = []; is = sym (append-nil runs) }

pub begins-then : (a b c : List (Option Run)) → Begins a b → Begins b c → Begins a c
begins-then a b c first then = record {
  rest = first.rest ++ then.rest;
  is = then.is ∙ ap (λ (xs : List (Option Run)). xs ++ then.rest) first.is ∙ append_assoc a first.rest then.rest;
}

-- runs behind those of a partition
put-grows : (places : List (List (Option Run))) (e d : ℕ) (more : List (Option Run))
    → Begins (at [] places d) (at [] (put [] places e (grown (at [] places e) more)) d)
put-grows places e d more = by (cases_eq d e) where
  all : List (Option Run)
  all = grown (at [] places e) more

  by : (d ≡ e) ⊎ (d ≢ e) → Begins (at [] places d) (at [] (put [] places e (grown (at [] places e) more)) d)
  by (inl same) = record {
    rest = more;
    is = ap (at [] (put [] places e (grown (at [] places e) more))) same ∙ at-put [] [] places e (grown (at [] places e) more)
        ∙ grown-is (at [] places e) more
        ∙ ap (λ (x : ℕ). at [] places x ++ more) (sym same);
  }
  by (inr other) = record { rest = []; is = at-put-other [] places e d (grown (at [] places e) more) other ∙ sym (append-nil (at [] places d)) }

ledger-grows : (tickets : List Ticket) (settled : List Settlement) (ds : List ℕ) (ledger : Ledger) (d : ℕ)
    → Begins (at [] ledger.places d) (at [] (ledger_after tickets settled ds ledger).places d)
ledger-grows tickets settled [] ledger d = begins-alike (at [] ledger.places d)
ledger-grows tickets settled (e ∷ ds) ledger d =
    let news : List Update = new_ones (length (at [] ledger.places e)) (settled_in e settled) in
    begins-then (at [] ledger.places d) (at [] (ledger_with tickets e news ledger).places d)
    (at [] (ledger_after tickets settled ds (ledger_with tickets e news ledger)).places d)
    (put-grows ledger.places e d (map (λ u. run_of u.body) news)) (ledger-grows tickets settled ds (ledger_with tickets e news ledger) d)

step-grows : (w : World) (e : Event) (d : ℕ) → Begins (at [] w.places d) (at [] (step w e).world.places d)
step-grows w e d = ledger-grows (tickets_after (length w.log) (call_of w e) (group_step w e).answer w.tickets) (group_step w e).settled
    (range_with_len 0 w.shape.k)
    (record { logged = logged_at_once (call_of w e) (group_step w e).answer; places = w.places }) d

run-grows : (w : World) (es : List Event) (d : ℕ) → Begins (at [] w.places d) (at [] (world_after w es).places d)
run-grows w [] d = begins-alike (at [] w.places d)
run-grows w (e ∷ es) d = begins-then (at [] w.places d) (at [] (step w e).world.places d) (at [] (world_after w (e ∷ es)).places d)
    (step-grows w e d) (run-grows (step w e).world es d)

-- from one group to the one that it leads to
pub leads-grow : (w v : World) (turns : List Turn) → Leads w v turns → (d : ℕ) → Begins (at [] w.places d) (at [] v.places d)
leads-grow w v turns leads d = subst (λ (x : World). Begins (at [] w.places d) (at [] x.places d)) leads.to (run-grows w leads.events d)
