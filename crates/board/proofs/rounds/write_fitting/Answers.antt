use Rattle.std.proofs.Common.{◌/◌, length, arith, rules}
use Rattle.std.proofs.lemmas.List.{length-append}
use Rattle.model.specs.Rounds.{stores, posts, lines}
use Rattle.model.proofs.Rounds.{length-stores, length-posts, lines_few}
use Rattle.board.proofs.Progress.{written_short, settled_short, settled_whole}
use Rattle.board.proofs.rounds.write_fitting.Goals as goal

pub returns-in_err-carried : goal.returns-in_err-carried
returns-in_err-carried g c =
    written_short g.B.Board.width c.args.at c.args.bytes.now _ c.requires.0 (omega arith) _ _ _ _ c.settle-settled.result c.store_and_post-written.ensures c.settle-settled.ensures (search rules)

pub returns-in_err-map_err : goal.returns-in_err-map_err
returns-in_err-map_err g c =
    settled_short g.B.Board.width c.args.at c.args.bytes.now _ c.requires.0 (omega arith) _ _ _ c.settle-settled.result _ c.in_ok-carried.ensures c.settle-settled.ensures (search rules)

pub overflow_add-result : goal.overflow_add-result
overflow_add-result g c =
    let L = g.B.Board.width in
    let p = c.args.at in
    let bs = c.args.bytes.now in
    let n = lines L p (length bs) in
    omega (arith, c.requires.2, c.in_ok-carried.ensures.0, length-append (stores p bs) (posts (p / L) n), length-stores p bs, length-posts (p / L) n, lines_few L p (length bs) g.met.B.Board.bounded.0)

pub returns : goal.returns
returns g c =
    settled_whole g.B.Board.width c.args.at c.args.bytes.now _ c.requires.0 (omega arith) _ _ _ c.settle-settled.result c.in_ok-carried.ensures c.settle-settled.ensures (search rules)
