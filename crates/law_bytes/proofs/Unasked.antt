-- A data process never opens a session: it would ask itself.
use Rattle.std.proofs.Common.{map, ◌≡◌, ℕ, suc, ◌<◌, false, not, List, [], ◌∷◌, ◌++◌, ap, subst, ◌∙◌, arith}
use Rattle.std.specs.List.{range_with_len}
use Rattle.group_types.specs.Dimensions.{Dimensions}
use Rattle.group_types.specs.declared.process.ProcessId.TheVariants.{DataNode}
use Rattle.group_types.specs.Each.{Each}
use Rattle.membership.specs.Members.{knows_dead}
use Rattle.group_run.specs.Applying.{Sent}
use Rattle.group_run.specs.Leaders.{left_of, rows_of, session_of, session_starts, start_session}
use Rattle.group_run.specs.Process.{Process}
use Rattle.group_run.specs.Rows.{parity_number}
use Rattle.law_moves.proofs.Members.{IsParity}
use Rattle.law_moves.proofs.Calls.{Owes}
use Rattle.law_moves.proofs.Cores.{MaySend, SentWell}
use Rattle.erasure_code.proofs.Nodes.{Among}
use Rattle.law_bytes.proofs.Rising.{among-range, each-among, filter-among}
use Rattle.group_message.specs.declared.message.Message.TheVariants as tells

-- a data process never opens one: it would ask itself
pub never-asks : (s : Dimensions) (e block : ℕ) (p : Process) → p.name ≡ DataNode e → e < s.k → knows_dead p.known (DataNode e) ≡ false
    → SentWell Owes s.k (start_session s block p).process (start_session s block p).sent
    → (start_session s block p).process.name ≡ p.name → ⊥
never-asks s e block p name inside living well same =
    subst IsParity (same ∙ name) (each-among (λ d. IsParity (start_session s block p).process.name) (left_of s p) e
    asked there) where
      l : ℕ
      l = parity_number p.name

      number : ℕ
      number = suc p.as_leader.last_session

      question : ℕ → Sent
      question d = record { to = DataNode d; message = tells.ReadBlock (session_of l number) block (rows_of s p) }

      front : {X : Type 0} (P : X → Type 0) (xs ys : List X) → Each P (xs ++ ys) → Each P xs
      front P [] ys all = tt
      front P (x ∷ xs) ys all = (all.0, front P xs ys all.1)

      asked_of : (P : Sent → Type 0) (Q : ℕ → Type 0) → ((d : ℕ) → P (question d) → Q d) → (ds : List ℕ) → Each P (map question ds) → Each Q ds
      asked_of P Q turn [] all = tt
      asked_of P Q turn (d ∷ ds) all = (turn d all.0, asked_of P Q turn ds all.1)

      asked : Each (λ d. IsParity (start_session s block p).process.name) (left_of s p)
      asked = asked_of (λ z. MaySend Owes s.k (start_session s block p).process z.to z.message)
          (λ d. IsParity (start_session s block p).process.name) (λ d may. may.1) (left_of s p)
          (front (λ z. MaySend Owes s.k (start_session s block p).process z.to z.message) (map question (left_of s p)) _
          (front (λ z. MaySend Owes s.k (start_session s block p).process z.to z.message)
          (session_starts s l number block p) _ well))

      there : Among e (left_of s p)
      there = filter-among (λ d. not (knows_dead p.known (DataNode d))) e (range_with_len 0 s.k)
          (among-range e 0 s.k (omega arith) (omega (arith, inside))) (ap not living)
