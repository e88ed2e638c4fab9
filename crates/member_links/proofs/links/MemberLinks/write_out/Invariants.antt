use Rattle.member_links.specs.Ages.{NoneGoesBack}
use Rattle.member_links.proofs.links.MemberLinks.write_out.Given as goal

abbrev pub invariant-links : goal.invariant-links
invariant-links l = NoneGoesBack l.fn.self.links.items l.self.links.items
