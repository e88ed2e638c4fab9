use Rattle.std.proofs.Common.{◌≡◌, false, ℕ, List, subst}
use Rattle.std.specs.List.{list_any}
use Rattle.memc_proto.specs.Reader.{HasRead}
use Rattle.memc_proto.specs.Reads.{is_quit}
use Rattle.memc_proto.specs.declared.request.Request.{Request}
use Rattle.front_end.specs.Connection.{IsEndAt}
use Rattle.front_end.specs.Progress.{Progress}
use Rattle.front_end.proofs.connection.Connection.end.Goals as goal

pub returns : goal.returns
returns c = subst (λ (p : Progress). (input : List ℕ) (requests : List Request) → (read : HasRead p.kept input requests)
    → list_any is_quit requests ≡ false → IsEndAt read.rest c.end_at.result) c.self.view_is c.end_at.ensures
