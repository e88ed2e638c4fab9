use Rattle.std.proofs.Common.{arith}
use Rattle.std.proofs.lemmas.List.Elements.{All-take}
use Rattle.run_alloc.specs.Shelves.{IsBlank}
use Rattle.run_alloc.proofs.Laid.{even-few}
use Rattle.run_alloc.proofs.shelf.Shelf.shrink.Goals as goal

pub overflow_sub-len : goal.overflow_sub-len
overflow_sub-len c = omega (
  arith,
  even-few c.self.inside.chunks.items c.self.invariant.even,
  c.self.invariant.room,
  c.saturating_sub-blanks.ensures,
  c.len.ensures,
)

pub invariant_of-self : goal.invariant_of-self
invariant_of-self c =
    let many = even-few c.self.inside.chunks.items c.self.invariant.even in
    record {
      laid = c.self.invariant.laid;
      starts = c.self.invariant.starts;
      even = c.self.invariant.even;
      blank = rw c.truncate.ensures.items (All-take IsBlank _ _ c.self.invariant.blank);
      room = omega (arith, many, c.self.invariant.room, c.saturating_sub-blanks.ensures, c.len.ensures, c.truncate.ensures.len);
      few = omega (arith, c.self.invariant.few);
      chunks_fit = omega (arith, c.self.invariant.chunks_fit, c.truncate.ensures.len);
      stock_fits = omega (arith, c.self.invariant.stock_fits, c.truncate.ensures.len, c.truncate.ensures.capacity);
    }
