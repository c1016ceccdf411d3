use Rattle.std.proofs.Common.{◌≤◌, arith}
use Rattle.survey.specs.Record.{record_end, Found}
use Rattle.survey.proofs.Updates.{found_either, updated_size, shown}
use Rattle.survey.proofs.record.found.Given.{Over}
use Rattle.survey.proofs.record.found.Goals as goal

found_after : (g : Over) (c : goal.After-present_bytes g) → record_end ≤ (g.B.Board.meaning c.args.board.now).size → Found g.B.Board.width c.args.supply c.present_bytes.result (g.B.Board.meaning c.cut.new.self)
found_after g c long =
    let u = c.update.ensures long in
    let before = updated_size _ _ _ _ u in
    let after : record_end ≤ (g.B.Board.meaning c.cut.new.self).size = omega arith in
    record { carried = c.update.result; before = _; updated = u; cut = c.cut.ensures; shown = shown _ _ after (c.present_bytes.ensures.within after) }

pub returns : goal.returns
returns g c = record { found = found_after g c; either = λ long. found_either _ _ _ _ (found_after g c long) }
