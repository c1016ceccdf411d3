use Rattle.figures.proofs.Figures.{figures}
use Rattle.figures.proofs.worked_figures.Goals as goal

pub returns : goal.returns
returns c = figures
