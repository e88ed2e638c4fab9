use Rattle.std.proofs.Common.{rules, ◌≡◌, length, take, arith}
use Rattle.wire_frames.proofs.Going.{end-tells, framed-bad, framed-end, framed-piece, framed-read_fault, framed-worn}
use Rattle.wire_frames.proofs.Going.{goes-more, goes-none, handed-on, piece-tells, takes-none}
use Rattle.wire_frames.proofs.Stands.{taken-within}
use Rattle.wire_frames.proofs.listing.list_pieces.Goals as goal

pub pieces-init : goal.pieces-init
pieces-init g c = record {
  goes = goes-none _ _ _ c.requires.read c.requires.good;
  within = omega arith;
  read_later = omega arith;
  written_later = omega arith;
}

pub returns-in_err-n-clause-framed : goal.returns-in_err-n-clause-framed
returns-in_err-n-clause-framed g c = handed-on _ _ _ _ _ c.from_residual.result
    (framed-read_fault _ _ _ _ _ _ _ c.pieces.invariant.goes c.in_err-n.ensures.bytes.0) c.from_residual.ensures.1

pub end_stream-requires : goal.end_stream-requires
end_stream-requires g c = c.pieces.invariant.goes.good

pub returns-then-n-eq0-clause-framed : goal.returns-then-n-eq0-clause-framed
returns-then-n-eq0-clause-framed g c =
    let goes = c.pieces.invariant.goes in
    let size : length c.read.new.into ≡ c.min-most.result = search rules in
    framed-end _ _ _ _ _ _ _ goes (takes-none _ _ c.read.new.into c.in_ok-n.n c.if-n-eq0.true c.in_ok-n.ensures.bytes.takes)
    (c.in_ok-n.ensures.bytes.ended.1 (c.if-n-eq0.true, omega (arith, size, c.min-most.ensures, c.pieces-test.true))) c.pieces-test.true
    c.end_stream.result (c.end_stream.ensures goes.read goes.messages goes.has_read)

pub returns-then-n-eq0-clause-read : goal.returns-then-n-eq0-clause-read
returns-then-n-eq0-clause-read g c =
    let goes = c.pieces.invariant.goes in
    record {
      later = omega (arith, c.pieces.invariant.read_later, c.in_ok-n.ensures.cause.later);
      failed = λ is. absurd ((end-tells goes.read goes.messages c.end_stream.result (c.end_stream.ensures goes.read goes.messages goes.has_read)).0 is);
    }

pub returns-then-n-eq0-clause-write : goal.returns-then-n-eq0-clause-write
returns-then-n-eq0-clause-write g c =
    let goes = c.pieces.invariant.goes in
    record {
      later = c.pieces.invariant.written_later;
      failed = λ is. absurd ((end-tells goes.read goes.messages c.end_stream.result (c.end_stream.ensures goes.read goes.messages goes.has_read)).1 is);
    }

pub list_piece-requires-clause-taken : goal.list_piece-requires-clause-taken
list_piece-requires-clause-taken g c =
    let goes = c.pieces.invariant.goes in
    let size : length c.read.new.into ≡ c.min-most.result = search rules in
    taken-within _ goes.read goes.messages _ goes.has_read
    (omega (
      arith,
      goes.counted,
      c.pieces-test.true,
      size,
      c.min-most.ensures,
      c.in_ok-n.ensures.bound.0,
      c.in_ok-n.ensures.bound.1,
    ))

pub list_piece-requires-clause-fed : goal.list_piece-requires-clause-fed
list_piece-requires-clause-fed g c = let goes = c.pieces.invariant.goes in (goes.read, goes.messages, goes.has_read)

pub returns-in_err-list_piece-clause-framed : goal.returns-in_err-list_piece-clause-framed
returns-in_err-list_piece-clause-framed g c =
    let goes = c.pieces.invariant.goes in
    let size : length c.read.new.into ≡ c.min-most.result = search rules in
    handed-on _ _ _ _ _ c.from_residual-in_err-list_piece.result
    (framed-piece _ _ _ _ _ _ _ goes c.list_piece.new.decoder (take c.in_ok-n.n c.read.new.into) _
    (omega (arith, size, c.in_ok-n.ensures.bound.0, c.in_ok-n.ensures.bound.1, c.min-most.ensures)) c.in_ok-n.ensures.bytes.takes
    c.in_err-list_piece.field-0.0 (c.in_err-list_piece.ensures.listed goes.read goes.messages goes.has_read)) c.from_residual-in_err-list_piece.ensures.1

pub returns-in_err-list_piece-clause-read : goal.returns-in_err-list_piece-clause-read
returns-in_err-list_piece-clause-read g c =
    let goes = c.pieces.invariant.goes in
    record {
      later = omega (arith, c.pieces.invariant.read_later, c.in_ok-n.ensures.cause.later);
      failed = λ is. absurd (piece-tells c.pieces.decoder c.list_piece.new.decoder goes.read goes.messages (take c.in_ok-n.n c.read.new.into)
          (g.K.Sink.held c.pieces.sink) (g.K.Sink.held c.list_piece.new.sink) c.in_err-list_piece.field-0.0
          c.from_residual-in_err-list_piece.result
          (c.in_err-list_piece.ensures.listed goes.read goes.messages goes.has_read)
          c.from_residual-in_err-list_piece.ensures.1 is);
    }

pub returns-in_err-tell_bad-clause-framed : goal.returns-in_err-tell_bad-clause-framed
returns-in_err-tell_bad-clause-framed g c =
    let goes = c.pieces.invariant.goes in
    let size : length c.read.new.into ≡ c.min-most.result = search rules in
    handed-on _ _ _ _ _ c.from_residual-in_err-tell_bad.result
    (framed-bad _ _ _ _ _ _ _ goes c.list_piece.new.decoder (take c.in_ok-n.n c.read.new.into) _
    (omega (arith, size, c.in_ok-n.ensures.bound.0, c.in_ok-n.ensures.bound.1, c.min-most.ensures)) c.in_ok-n.ensures.bytes.takes _
    (c.in_ok-list_piece.ensures.listed goes.read goes.messages goes.has_read) c.in_err-tell_bad.field-0.0
    c.in_err-tell_bad.ensures.bad) c.from_residual-in_err-tell_bad.ensures.1

pub pieces-preserved : goal.pieces-preserved
pieces-preserved g c =
    let goes = c.pieces.invariant.goes in
    let size : length c.read.new.into ≡ c.min-most.result = search rules in
    record {
      goes = goes-more _ _ _ _ _ _ _ goes c.list_piece.new.decoder (take c.in_ok-n.n c.read.new.into) _
          (omega (arith, size, c.in_ok-n.ensures.bound.0, c.in_ok-n.ensures.bound.1, c.min-most.ensures)) c.in_ok-n.ensures.bytes.takes _
          (c.in_ok-list_piece.ensures.listed goes.read goes.messages goes.has_read) c.tell_bad.new.decoder c.in_ok-n.n c.tell_bad.ensures.same
          (omega (arith, c.in_ok-n.ensures.bound.1)) c.in_ok-tell_bad.ensures.good;
      within = omega (arith, size, c.in_ok-n.ensures.bound.0, c.min-most.ensures, c.pieces-test.true);
      read_later = omega (arith, c.pieces.invariant.read_later, c.in_ok-n.ensures.cause.later);
      written_later = omega (arith, c.pieces.invariant.written_later, c.list_piece.ensures.cause.later);
    }

pub returns-clause-framed : goal.returns-clause-framed
returns-clause-framed g c = framed-worn _ _ _ _ _ _ c.pieces.invariant.goes (omega (arith, c.pieces-test.false, c.pieces.invariant.within))
