use Rattle.chr_semantics.proofs.FitsLaw.{fits_law}
use Rattle.chr_semantics.proofs.laws.fits_law.Goals as goal

pub returns : goal.returns
returns c = fits_law
