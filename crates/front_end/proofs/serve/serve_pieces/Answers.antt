use Rattle.std.proofs.Common.{◌≡◌, length, rules, arith}
use Rattle.front_end.proofs.Serving.{goes_on-none, consumes-zero, served-ended, served-worn, served-read_fault, served-some, served-err, goes_on-none_yet}
use Rattle.front_end.proofs.serve.serve_pieces.Goals as goal

pub pieces-init : goal.pieces-init
pieces-init g c = record {
  goes = goes_on-none _ _ _ _ _ _ c.requires.fresh c.requires.unread;
  idle = c.requires.idle;
  within = omega (arith, c.requires.unread);
  read_later = omega arith;
  written_later = omega arith;
}

pub returns-in_err-n-clause-served : goal.returns-in_err-n-clause-served
returns-in_err-n-clause-served g c = served-read_fault _ _ _ _ _ _ _ _ _ c.from_residual.result c.pieces.invariant.goes
    c.in_err-n.ensures.bytes.0 c.from_residual.ensures.1

pub returns-then-n-eq0-clause-served : goal.returns-then-n-eq0-clause-served
returns-then-n-eq0-clause-served g c =
    let size : length c.read.new.into ≡ c.most-in-pieces.result = search rules in
    served-ended _ _ _ _ _ _ _ _ _ c.pieces.invariant.goes _ (omega (arith, c.most.ensures, c.pieces-test.true))
    (consumes-zero _ _ c.read.new.into c.in_ok-n.n c.if-n-eq0.true c.in_ok-n.ensures.bytes.takes)
    (c.in_ok-n.ensures.bytes.ended.1 (c.if-n-eq0.true, omega (arith, c.most-in-pieces.ensures, c.most.ensures, c.pieces-test.true)))
    (c.end.ensures c.pieces.invariant.goes.read c.pieces.invariant.goes.requests c.pieces.invariant.goes.has_read c.pieces.invariant.goes.no_quit)

pub returns-in_err-end-clause-served : goal.returns-in_err-end-clause-served
returns-in_err-end-clause-served g c = served-err _ _ _ _ _ _ _ _ _ _ _ c.pieces.invariant.goes _ _ _ c.from_residual-in_err-end.result
    (let size : length c.read.new.into ≡ c.most-in-pieces.result = search rules in
    omega (arith, c.in_ok-n.ensures.bound.0, c.in_ok-n.ensures.bound.1, c.most-in-pieces.ensures))
    c.in_ok-n.ensures.bytes.takes
    (c.serve_piece.ensures.served c.pieces.invariant.goes.read c.pieces.invariant.goes.requests
    c.pieces.invariant.goes.has_read c.pieces.invariant.goes.no_quit) c.in_err-end.was
    c.from_residual-in_err-end.ensures.1

pub returns-in-Some-clause-served : goal.returns-in-Some-clause-served
returns-in-Some-clause-served g c = served-some _ _ _ _ _ _ _ _ _ _ _ c.pieces.invariant.goes _ _ _ _
    (let size : length c.read.new.into ≡ c.most-in-pieces.result = search rules in
    omega (arith, c.in_ok-n.ensures.bound.0, c.in_ok-n.ensures.bound.1, c.most-in-pieces.ensures))
    c.in_ok-n.ensures.bytes.takes
    (c.serve_piece.ensures.served c.pieces.invariant.goes.read c.pieces.invariant.goes.requests
    c.pieces.invariant.goes.has_read c.pieces.invariant.goes.no_quit) c.in_ok-end.was c.in-Some.is

pub pieces-preserved : goal.pieces-preserved
pieces-preserved g c = record {
  goes = goes_on-none_yet _ _ _ _ _ _ _ _ _ _ _ _ c.pieces.invariant.goes _ _ _ c.in_ok-n.ensures.bytes.takes
      c.in_ok-end.ensures.count
      (c.serve_piece.ensures.served c.pieces.invariant.goes.read c.pieces.invariant.goes.requests
      c.pieces.invariant.goes.has_read c.pieces.invariant.goes.no_quit) c.in_ok-end.was c.in_default.is;
  idle = c.in_ok-end.ensures.idle;
  within = let size : length c.read.new.into ≡ c.most-in-pieces.result = search rules in
      omega (
        arith,
        c.in_ok-n.ensures.bound.0,
        c.in_ok-n.ensures.bound.1,
        c.most-in-pieces.ensures,
        c.in_ok-end.ensures.count,
        c.pieces.invariant.within,
      );
  read_later = omega (arith, c.pieces.invariant.read_later, c.in_ok-n.ensures.cause.later);
  written_later = omega (arith, c.pieces.invariant.written_later, c.serve_piece.ensures.cause.later);
}

pub returns-clause-served : goal.returns-clause-served
returns-clause-served g c = served-worn _ _ _ _ _ _ _ _ c.pieces.invariant.goes (omega (arith, c.pieces-test.false, c.most.ensures, c.pieces.invariant.within))
