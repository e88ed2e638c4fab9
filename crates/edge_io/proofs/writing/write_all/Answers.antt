use Rattle.std.proofs.Common.{ℕ, List, length, take, drop, sym, subst, ap, arith}
use Rattle.std.proofs.Math.Seq.{take-add}
use Rattle.std.proofs.lemmas.List.{length-drop, take_rest}
use Rattle.edge_io.specs.Moving.{Appends}
use Rattle.edge_io.proofs.Moving.{Appends-trans}
use Rattle.edge_io.proofs.writing.write_all.Goals as goal

pub pieces-preserved : goal.pieces-preserved
pieces-preserved g c = record {
  written = subst (Appends (g.K.Sink.held c.args.sink.now) (g.K.Sink.held c.write.new.self)) (sym (take-add c.pieces.done c.in_ok-done.field-0 c.args.text.now))
      (Appends-trans (g.K.Sink.held c.args.sink.now) (g.K.Sink.held c.pieces.sink) (g.K.Sink.held c.write.new.self)
      (take c.pieces.done c.args.text.now) (take c.in_ok-done.field-0 (drop c.pieces.done c.args.text.now))
      c.pieces.invariant.written
      (subst (λ (rest : List ℕ). Appends (g.K.Sink.held c.pieces.sink) (g.K.Sink.held c.write.new.self)
      (take c.in_ok-done.field-0 rest)) (take_rest c.args.text.now c.pieces.done) c.in_ok-done.ensures.bytes));
  within = omega (arith, c.in_ok-done.ensures.bound, ap length (take_rest c.args.text.now c.pieces.done), length-drop c.pieces.done c.args.text.now);
  later = omega (arith, c.in_ok-done.ensures.cause.later);
}
