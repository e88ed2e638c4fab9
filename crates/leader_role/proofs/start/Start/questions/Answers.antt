use Rattle.std.proofs.Common.{ℕ, ◌≡◌, List, ◌++◌, map, sym, ap, ◌∙◌}
use Rattle.group_run.specs.Applying.{Sent}
use Rattle.group_run.specs.Leaders.{rows_of}
use Rattle.group_run.specs.Replica.{Replica}
use Rattle.membership.specs.Members.{Membership}
use Rattle.leader_role.specs.Starting.{marks_of_lost, reads}
use Rattle.leader_role.proofs.start.Start.questions.Goals as goal

pub returns : goal.returns
returns c p parts =
    let ranks : List ℕ = map (λ r. r.0) c.args.ranks.now in
    let replicas : List Replica = map (λ r. r.replica) c.args.replicas.now in
    let asked : List Sent = reads c.args.self.now c.args.shape c.args.known.now c.args.rows.now in
    let marked : List Sent = marks_of_lost c.args.self.now c.args.shape c.args.known.now c.args.rows.now ranks replicas in
    let made : c.mark_lost.new.sent.items ≡ asked ++ marked =
    c.in_ok-mark_lost.ensures ∙ ap (λ (xs : List Sent). xs ++ marked) (c.in_ok-ask.ensures ∙ ap (λ (xs : List Sent). xs ++ asked) c.new-sent.ensures.items) in
    let all : Membership → List ℕ → List ℕ → List Replica → List Sent =
    λ known rows rs reps. reads c.args.self.now c.args.shape known rows ++ marks_of_lost c.args.self.now c.args.shape known rows rs reps in
    made
    ∙ ap (λ (known : Membership). all known c.args.rows.now ranks replicas) (sym parts.known_is)
    ∙ ap (λ (rows : List ℕ). all p.known rows ranks replicas) parts.rows_are
    ∙ ap (λ (rs : List ℕ). all p.known (rows_of c.args.shape p) rs replicas) (sym parts.ranks_are)
    ∙ ap (λ (reps : List Replica). all p.known (rows_of c.args.shape p) p.ranks reps) (sym parts.replicas_are)
