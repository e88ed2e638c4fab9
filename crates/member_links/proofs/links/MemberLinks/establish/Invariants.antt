use Rattle.member_links.specs.Ages.{NoneGoesBack}
use Rattle.member_links.proofs.links.MemberLinks.establish.Given as goal

abbrev pub invariant-links : goal.invariant-links
invariant-links g l = NoneGoesBack l.fn.self.links.items l.self.links.items
