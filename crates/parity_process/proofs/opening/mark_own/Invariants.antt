use Rattle.std.proofs.Common.{◌≡◌, drop}
use Rattle.group_run.specs.Applying.{for_each}
use Rattle.group_run.specs.Leaders.{own_mark}
use Rattle.head_service.specs.Serving.{serving}
use Rattle.parity_process.specs.Standing.{BytesAreBeneath}
use Rattle.parity_process.proofs.Marks.{AreLeft}
use Rattle.parity_process.proofs.opening.mark_own.Given as goal

abbrev pub invariant-lost : goal.invariant-lost
invariant-lost l = record {
  shape : l.service.shape ≡ l.initial.service.shape;
  over : BytesAreBeneath l.service l.bytes;
  pages : l.bytes.made ≡ l.initial.bytes.made;
  left : AreLeft l.initial.service.shape l.leader l.number l.block (drop l.d-index l.lost) (serving l.service l.bytes.process);
  step : for_each (drop l.d-index l.lost) (own_mark l.initial.service.shape l.leader l.number l.block) (serving l.service l.bytes.process)
      ≡ for_each l.lost (own_mark l.initial.service.shape l.leader l.number l.block) (serving l.initial.service l.initial.bytes.process);
}
