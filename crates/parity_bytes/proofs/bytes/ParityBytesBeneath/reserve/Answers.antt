use Rattle.std.proofs.Common.{◌<◌, refl, subst, sym, ◌∙◌}
use Rattle.group_types.specs.Dimensions.{Dimensions, space_of}
use Rattle.group_run.specs.Fitting.{Writes}
use Rattle.page_map.specs.Spaces.{MakesOnly}
use Rattle.head_service.proofs.Paging.{put-pages}
use Rattle.parity_bytes.specs.Bytes.{ParityHolding}
use Rattle.parity_bytes.proofs.Ready.{put_ready, still_ready}
use Rattle.parity_bytes.proofs.bytes.ParityBytesBeneath.reserve.Goals as goal

pub returns-in_ok-reserve-clause-ready : goal.returns-in_ok-reserve-clause-ready
returns-in_ok-reserve-clause-ready c =
    let writes = subst (λ (b : ParityHolding). Writes (space_of b.shape) c.args.update.now.body) (sym c.self.view_is) c.requires.writes in
    let within = subst (λ (b : ParityHolding). c.args.arg2.0 < b.shape.k) (sym c.self.view_is) c.requires.partition in (
      within,
      put_ready c.self.inside.shape c.reserve.new.self c.args.update.now.body c.in-Put.flags c.in-Put.until c.in-Put.run' c.in-Put.delta c.in-Put.is
          (c.reserve.ensures.shape ∙ c.self.invariant.space_shape) writes c.in_ok-reserve.ensures.ready,
    )

pub returns-in_ok-reserve-clause-makes : goal.returns-in_ok-reserve-clause-makes
returns-in_ok-reserve-clause-makes c =
    rw (← c.self.view_is) (record {
      shape = refl;
      pages = put-pages c.self.inside.shape.block c.args.update.now.body c.in-Put.flags c.in-Put.until c.in-Put.run' c.in-Put.delta
          c.self.inside.space.made c.reserve.new.self.made c.in-Put.is
          (subst (λ (s : Dimensions). MakesOnly s.block c.in-Put.run' c.self.inside.space.made c.reserve.new.self.made)
          c.self.invariant.space_shape c.in_ok-reserve.ensures.made);
      kept = still_ready c.self.inside.shape c.self.inside.space.made c.reserve.new.self.made c.in_ok-reserve.ensures.made.kept;
    })
