use Rattle.std.proofs.Common.{rules}
use Rattle.board.specs.Cells.{after_cut, wanted_at}
use Rattle.board.proofs.Sweeps.{changed_each}
use Rattle.board.proofs.line.cut_cells.Goals as goal

pub returns : goal.returns
returns c =
    let s = c.change_each.ensures in
    record {
      table = changed_each (λ k x. after_cut (wanted_at c.args.wanted.now k) x) _ _ _ (λ k x y e. search rules) s;
      may = record { size = s.size; places = λ k h. let e = s.places k h in search rules };
    }
