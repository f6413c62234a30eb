use Rattle.reports.proofs.questions.Laws.{fits_not, fits_by}
use Rattle.reports.proofs.questions.fits.fits.Goals as goal

pub returns-then-count-gt-LIMIT : goal.returns-then-count-gt-LIMIT
returns-then-count-gt-LIMIT c = fits_not _ _ c.if-count-gt-LIMIT.true

pub returns : goal.returns
returns c = fits_by _ _ c.if-count-gt-LIMIT.false
