use Rattle.std.proofs.Common.{◌≡◌, set, sym, subst}
use Rattle.model.specs.Writes.{store}
use Rattle.board.specs.Lines.{stored_table, TableAfter}
use Rattle.board.proofs.Tables.{stored_may}
use Rattle.board.proofs.line.store_cell.Goals as goal

pub returns : goal.returns
returns c =
    let p = c.args.place in
    let b = c.args.byte in
    let cs = c.args.cells.now in
    let table : set c.mark_line.new.cells p c.after_store-cell.result ≡ stored_table p b cs = cc in
    record { table = table; may = subst (TableAfter (store p b) cs) (sym table) (stored_may p b cs c.requires) }
