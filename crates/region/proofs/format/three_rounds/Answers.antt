use Rattle.std.proofs.Common.{arith, rules}
use Rattle.std.proofs.lemmas.Result.{err_from_is_err_and}
use Rattle.region.proofs.Operations.{two_fits, three_fits, stopped_one, stopped_two, last_round}
use Rattle.region.proofs.format.three_rounds.Goals as goal

pub returns-in_err-blank : goal.returns-in_err-blank
returns-in_err-blank g c =
    let p = err_from_is_err_and c.from_residual.result c.from_residual.ensures.1 in
    rw (p.1, p.2) (stopped_one g.B.Board.width (g.B.Board.meaning c.args.board.now) g.met.B.Board.bounded.0 c.requires _ _ c.in_err-blank.ensures)

pub next_round-requires-2 : goal.next_round-requires-2
next_round-requires-2 g c =
    two_fits g.B.Board.width (g.B.Board.meaning c.args.board.now) g.met.B.Board.bounded.0 c.requires
    c.as_slice.result.now (search rules) _ _ c.in_ok-blank.ensures

pub returns-in_err-filled : goal.returns-in_err-filled
returns-in_err-filled g c =
    let p = err_from_is_err_and c.from_residual-in_err-filled.result c.from_residual-in_err-filled.ensures.1 in
    rw (p.1, p.2)
    (stopped_two g.B.Board.width (g.B.Board.meaning c.args.board.now) g.met.B.Board.bounded.0 c.requires
    c.as_slice.result.now (search rules) _ _ _ _ c.in_ok-blank.ensures c.in_err-filled.ensures)

pub next_round-requires-3 : goal.next_round-requires-3
next_round-requires-3 g c =
    let r =
    three_fits g.B.Board.width (g.B.Board.meaning c.args.board.now) g.met.B.Board.bounded.0 c.requires
    c.as_slice.result.now (search rules) _ _ _ _ c.in_ok-blank.ensures c.in_ok-filled.ensures in
    ((omega arith, r.0, omega arith), r.1)

pub returns : goal.returns
returns g c =
    last_round g.B.Board.width (g.B.Board.meaning c.args.board.now) g.met.B.Board.bounded.0 c.requires
    c.as_slice.result.now (search rules) _ _ _ _ _ _ c.in_ok-blank.ensures c.in_ok-filled.ensures c.next_round-3.ensures
