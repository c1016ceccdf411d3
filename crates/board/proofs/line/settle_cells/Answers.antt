use Rattle.std.proofs.Common.{◌≡◌, ◌∙◌, sym, subst, rules}
use Rattle.model.specs.Writes.{settle}
use Rattle.board.specs.Cells.{after_settle}
use Rattle.board.specs.Lines.{settled_table, TableAfter}
use Rattle.board.proofs.Sweeps.{changed_each, each_map}
use Rattle.board.proofs.Tables.{settled_may}
use Rattle.board.proofs.line.settle_cells.Goals as goal

pub returns : goal.returns
returns c =
    let cs = c.args.cells.now in
    let table : c.change_each.new.cells ≡ settled_table cs = changed_each (λ _ x. after_settle x) _ _ _ (λ k x y e. search rules) c.change_each.ensures ∙ each_map after_settle 0 cs in
    record { table = table; may = subst (TableAfter settle cs) (sym table) (settled_may cs) }
