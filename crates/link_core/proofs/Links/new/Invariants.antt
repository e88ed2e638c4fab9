use Rattle.std.proofs.Common.{◌≡◌, replicate}
use Rattle.link_core.specs.Outgoing.{empty_link}
use Rattle.link_core.proofs.Links.new.Given as goal

abbrev pub invariant-targets : goal.invariant-targets
invariant-targets g l = l.links.items ≡ replicate l.counter empty_link
