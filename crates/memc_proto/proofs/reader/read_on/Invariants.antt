use Rattle.std.proofs.Common.{◌++◌, List, length}
use Rattle.memc_proto.specs.Reader.{HasRead, ReaderState}
use Rattle.memc_proto.specs.Step.{ReadsOn}
use Rattle.memc_proto.specs.declared.request.Request.{Request}
use Rattle.memc_proto.proofs.reader.read_on.Given as goal

abbrev pub invariant-requests : goal.invariant-requests
invariant-requests l = (kept : ReaderState) (given : List Request) → HasRead kept l.rest given
    → ReadsOn kept l.text l.fn.found.items (l.requests.items ++ given)

abbrev pub decreases-requests : goal.decreases-requests
decreases-requests l = length l.rest
