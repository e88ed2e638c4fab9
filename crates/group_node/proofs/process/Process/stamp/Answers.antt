use Rattle.std.proofs.Common.{ℕ, List, length, sym, ap, ◌∙◌}
use Rattle.std.proofs.lemmas.List.FromFn.{length-map-range_with_len}
use Rattle.group_run.specs.Applying.{replica_of}
use Rattle.process_service.specs.Standing.{Standing}
use Rattle.group_node.specs.Roles.{standing_in}
use Rattle.group_node.specs.declared.process.Role.{Role}
use Rattle.group_node.proofs.process.Process.stamp.Goals as goal

pub numbers_of-requires : goal.numbers_of-requires
numbers_of-requires c =
    let p = c.deref-in-Parity.result.now in
    c.requires ∙ sym (ap (λ (v : Standing). v.shape.k) c.self.view_is) ∙ ap (λ (r : Role). (standing_in r).shape.k) c.in-Parity.is
    ∙ sym (ap (λ (ns : List ℕ). length ns) c.in_ok-stamp-in-Parity.ensures
    ∙ length-map-range_with_len (λ (d : ℕ). (replica_of p.process d).applied) 0 p.shape.k
    ∙ ap (λ (v : Standing). v.shape.k) c.deref-in-Parity.ensures)
