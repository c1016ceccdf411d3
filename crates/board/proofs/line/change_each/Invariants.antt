use Rattle.board.proofs.Sweeps.{Swept}
use Rattle.board.proofs.line.change_each.Given as goal

abbrev pub invariant-loop-place : goal.invariant-loop-place
invariant-loop-place g l = Swept (goal.F-post g l.change) l.place l.initial.cells l.cells
