use Rattle.std.proofs.Common.{◌∙◌, rules}
use Rattle.board.specs.Cells.{settled_at}
use Rattle.board.proofs.Sweeps.{changed_each, each_map}
use Rattle.board.proofs.line.settle_all.Goals as goal

pub returns : goal.returns
returns c = changed_each (λ _ x. settled_at x.present) _ _ _ (λ k x y e. search rules) c.change_each.ensures ∙ each_map (λ x. settled_at x.present) 0 c.args.cells.now
