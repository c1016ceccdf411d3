use Rattle.std.proofs.Common.{length, sym}
use Rattle.std.proofs.lemmas.Bool.{eqb-true}
use Rattle.board.proofs.Progress.{whole_none}
use Rattle.board.proofs.rounds.write_round.Goals as goal

pub returns-then-is_empty : goal.returns-then-is_empty
returns-then-is_empty g c =
    whole_none g.B.Board.width c.args.at c.args.bytes.now _ (eqb-true (length c.args.bytes.now) 0 (sym c.if-is_empty.ensures))
