-- When two runs have an address in common.
use Rattle.std.proofs.Common.{◌≡◌, ℕ, ◌+◌, ◌-◌, ◌<◌, nat_lt, Bool, true, false, not, ◌↔◌, ◌||◌, List, ◌∷◌, Some, IsTrue, refl, sym, ap, ◌∙◌, arith}
use Rattle.std.specs.List.{list_any}
use Rattle.std.proofs.lemmas.Bool.Decides.{nat_tests}
use Rattle.std.proofs.lemmas.Bool.{false_from_ne_true, true≢false}
use Rattle.group_types.specs.declared.run.Run.{Run}
use Rattle.group_message.specs.declared.update.Update.{Update}
use Rattle.run_alloc.proofs.Spread.{in_run-true, in_run-inside}
use Rattle.group_run.specs.Free.{in_run, in_some_run}
use Rattle.group_run.specs.Replica.{run_of}
use Rattle.partition_replica.specs.Coming.{ShareNoAddress}
use Rattle.partition_replica.specs.Sound.{log_runs}
use Rattle.partition_replica.proofs.Owners.{any_log, any_written}

-- an address that both runs have
abbrev pub Meet : Run → Run → Type 0
Meet x y = (a : ℕ) × (in_run a x ≡ true) × (in_run a y ≡ true)

pub meet_at : (x y : Run) → x.at - y.at < y.len → y.at - x.at < x.len → Meet x y
meet_at x y first second =
    let a = x.at + (y.at - x.at) in
    (a, in_run-inside x.at x.len a (omega arith) (omega (arith, second)), in_run-inside y.at y.len a (omega arith) (omega (arith, first)))

pub meet_ends : (x y : Run) → Meet x y → (x.at - y.at < y.len) × (y.at - x.at < x.len)
meet_ends x y meet =
    let one = in_run-true x.at x.len meet.0 meet.1 in
    let other = in_run-true y.at y.len meet.0 meet.2 in
    (omega (arith, one.0, one.1, other.0, other.1), omega (arith, one.0, one.1, other.0, other.1))

pub meet_is : (x y : Run) (n : ℕ) → n ≡ y.at - x.at → x.at - y.at < y.len → IsTrue (nat_lt n x.len) ↔ Meet x y
meet_is x y n is first = (
  (λ test. let lt : n < x.len = grind (arith, nat_tests, test) in meet_at x y first (omega (arith, is, lt))),
  (λ meet. let ends = meet_ends x y meet in grind (arith, nat_tests, is, ends.1)),
)

pub clear_is : (x y : Run) (r : Bool) → IsTrue r ↔ Meet x y → IsTrue (not r) ↔ ShareNoAddress (Some x) (Some y)
clear_is x y true meets =
    ((λ test. absurd (true≢false (sym test))), (λ clear. absurd (true≢false (sym (meets.0 refl).2 ∙ clear (meets.0 refl).0 (meets.0 refl).1))))
clear_is x y false meets =
    ((λ test a one. false_from_ne_true (in_run a y) (λ other. true≢false (sym (meets.1 (a, one, other))))), (λ clear. refl))

-- whether updates write an address, the first of them apart
pub any_cons : (u : Update) (us : List Update) (a : ℕ)
    → list_any (in_run a) (log_runs (u ∷ us)) ≡ (in_some_run a (run_of u.body) || list_any (in_run a) (log_runs us))
any_cons u us a =
    any_log (in_run a) (u ∷ us) ∙ sym (any_written a (u ∷ us))
    ∙ ap (λ (b : Bool). in_some_run a (run_of u.body) || b) (any_written a us ∙ sym (any_log (in_run a) us))
