use Rattle.law_headline.proofs.Headlines.{fits_always}
use Rattle.law_headline.proofs.fits_always.Goals as goal

pub returns : goal.returns
returns c = fits_always
