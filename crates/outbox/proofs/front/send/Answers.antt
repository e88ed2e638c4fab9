use Rattle.std.proofs.Common.{ℕ, List, length, take, drop, sym, ◌∙◌, subst, ap, arith}
use Rattle.std.proofs.Math.Seq.{take-add}
use Rattle.std.proofs.lemmas.List.{length-drop, take_rest}
use Rattle.edge_io.specs.Moving.{Appends}
use Rattle.edge_io.proofs.Moving.{Appends-trans}
use Rattle.outbox.proofs.front.send.Goals as goal

pub pieces-preserved : goal.pieces-preserved
pieces-preserved g c = record {
  sends = subst (Appends (g.S.TryStream.held c.args.stream.now) (g.S.TryStream.held c.try_write.new.self))
      (sym (take-add c.pieces.sent c.in_ok-n.n c.args.bytes.now))
      (Appends-trans (g.S.TryStream.held c.args.stream.now) (g.S.TryStream.held c.pieces.stream)
      (g.S.TryStream.held c.try_write.new.self) (take c.pieces.sent c.args.bytes.now)
      (take c.in_ok-n.n (drop c.pieces.sent c.args.bytes.now))
      c.pieces.invariant.sends
      (subst (λ (rest : List ℕ). Appends (g.S.TryStream.held c.pieces.stream) (g.S.TryStream.held c.try_write.new.self)
      (take c.in_ok-n.n rest)) (take_rest c.args.bytes.now c.pieces.sent) c.in_ok-n.ensures.bytes));
  within = omega (arith, c.in_ok-n.ensures.bound, ap length (take_rest c.args.bytes.now c.pieces.sent), length-drop c.pieces.sent c.args.bytes.now);
  input = c.in_ok-n.ensures.input ∙ c.pieces.invariant.input;
  later = omega (arith, c.in_ok-n.ensures.cause.later);
}
