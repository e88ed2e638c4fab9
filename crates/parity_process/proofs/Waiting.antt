-- Open sessions that wait for the process's own row.
use Rattle.std.proofs.Common.{ℕ, ◌≡◌, ◌==◌, Bool, true, false, cond, List, [], ◌∷◌, find, is_some, Some, IfSome, All, Contains, sym, subst}
use Rattle.std.proofs.lemmas.List.Elements.{All-head, All-tail}
use Rattle.group_types.specs.Dimensions.{Dimensions}
use Rattle.group_types.specs.declared.process.ProcessId.{ProcessId}
use Rattle.group_types.specs.declared.process.ProcessId.TheVariants.{ParityNode}
use Rattle.group_run.specs.Leaders.{open_session}
use Rattle.group_run.specs.Process.{Gathering, Process}
use Rattle.group_run.specs.Rows.{begin_copy, copy_begun, copy_in, parity_number}
use Rattle.parity_process.specs.Marking.{WaitForOwnRow}

found-waits : (i number : ℕ) (gs : List Gathering) → All (λ g. Contains g.rows i) gs → IfSome (find (λ g. g.number == number) gs) (λ g. Contains g.rows i)
found-waits i number [] all = tt
found-waits i number (g ∷ gs) all = by (g.number == number) (found-waits i number gs (All-tail (λ x. Contains x.rows i) g gs all)) where
  by : (b : Bool) → IfSome (find (λ x. x.number == number) gs) (λ x. Contains x.rows i)
      → IfSome (cond b (Some g) (find (λ x. x.number == number) gs)) (λ x. Contains x.rows i)
  by true later = All-head (λ x. Contains x.rows i) g gs all
  by false later = later

-- a session that is open waits for it
pub own-awaited : (leader number : ℕ) (p : Process) → p.name ≡ ParityNode leader → WaitForOwnRow p
    → IfSome (open_session p.as_leader number) (λ g. Contains g.rows leader)
own-awaited leader number p name wait =
    found-waits leader number p.as_leader.sessions (subst (λ (x : ProcessId). All (λ g. Contains g.rows (parity_number x)) p.as_leader.sessions) name wait)

-- what leaves the name and the sessions
pub still-waiting : (p q : Process) → q.name ≡ p.name → q.as_leader.sessions ≡ p.as_leader.sessions → WaitForOwnRow p → WaitForOwnRow q
still-waiting p q name sessions wait =
    subst (λ (gs : List Gathering). All (λ g. Contains g.rows (parity_number q.name)) gs) (sym sessions)
    (subst (λ (x : ProcessId). All (λ g. Contains g.rows (parity_number x)) p.as_leader.sessions) (sym name) wait)

-- a copy that begins does
pub begun-waiting : (s : Dimensions) (leader number block : ℕ) (p q : Process) → q ≡ begin_copy s leader number block p → WaitForOwnRow p → WaitForOwnRow q
begun-waiting s leader number block p q is wait = subst WaitForOwnRow (sym is) (by (is_some (copy_in p.as_row.copies leader number))) where
  by : (b : Bool) → WaitForOwnRow (copy_begun b s leader number block p)
  by true = wait
  by false = wait
