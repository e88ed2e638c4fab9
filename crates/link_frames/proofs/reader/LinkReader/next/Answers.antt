use Rattle.std.proofs.Common.{◌++◌, refl, sym, subst, List, ℕ}
use Rattle.link_frames.specs.Cuts.{IsWholeCut}
use Rattle.link_frames.specs.Links.{IsBroken, IsPartialFrame}
use Rattle.link_frames.proofs.Joins.{found-next, bad-next}
use Rattle.link_frames.proofs.reader.LinkReader.next.Goals as goal

pub returns-in-Bad-clause-bad : goal.returns-in-Bad-clause-bad
returns-in-Bad-clause-bad c = λ _. (
  refl,
  λ _.
      bad-next (record { shape = c.self.inside.shape; bad = c.self.inside.bad; front = c.self.inside.front.items })
      c.args.self.now c.args.piece.now c.self.view_is
      (subst (λ (t : List ℕ). IsBroken c.self.inside.shape (t ++ c.args.piece.now)) c.deref.ensures.value
      (c.in-Bad.ensures (subst IsPartialFrame (sym c.deref.ensures.value) c.self.invariant) c.self.inside.shape)),
)

pub returns-in-Ok-clause-found : goal.returns-in-Ok-clause-found
returns-in-Ok-clause-found c =
    let cut = subst (λ (t : List ℕ). IsWholeCut t c.args.piece.now c.in-Whole.taken) c.deref.ensures.value
    (c.in-Whole.ensures (subst IsPartialFrame (sym c.deref.ensures.value) c.self.invariant)) in
    found-next (record { shape = c.self.inside.shape; bad = c.self.inside.bad; front = c.self.inside.front.items })
    c.args.self.now c.whole_frame.new.front.items c.args.piece.now c.in-Whole.taken c.in-Ok.frame c.self.view_is
    c.in-Ok.ensures.given cut c.in-Ok.ensures.found
