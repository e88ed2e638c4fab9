use Rattle.head_service.proofs.Paging.{put-pages}
use Rattle.data_process.proofs.Adding.{still-ready}
use Rattle.data_process.proofs.values.ValuesBeneath.reserve.Goals as goal

pub returns-in_ok-reserve-clause-makes : goal.returns-in_ok-reserve-clause-makes
returns-in_ok-reserve-clause-makes c =
    rw (← c.self.view_is) (record {
      shape = c.reserve.ensures.shape;
      pages = put-pages c.self.inside.space.shape.block c.args.update.now.body c.in-Put.flags c.in-Put.until c.in-Put.run' c.in-Put.delta
          c.self.inside.space.made c.reserve.new.self.made c.in-Put.is c.in_ok-reserve.ensures.made;
      kept = still-ready c.self.inside.number c.self.inside.space c.reserve.new.self c.reserve.ensures.shape c.in_ok-reserve.ensures.made.kept;
    })
