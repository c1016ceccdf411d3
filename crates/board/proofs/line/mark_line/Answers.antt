use Rattle.std.proofs.Common.{arith, rules}
use Rattle.board.specs.Cells.{posting}
use Rattle.board.proofs.Sweeps.{part_line}
use Rattle.board.proofs.line.mark_line.Goals as goal

pub returns : goal.returns
returns c =
    part_line (posting c.args.posted) _ (λ k x y e. search rules) _ _ c.args.cells.now _ (omega arith) c.change_each.ensures c.args.line (omega arith) (omega arith)
