use Rattle.board.proofs.Progress.{reached}
use Rattle.board.proofs.rounds.post_lines.Goals as goal

pub returns-clause-few : goal.returns-clause-few
returns-clause-few g c = (reached g.B.Board.width c.args.at c.args.count _ g.met.B.Board.bounded.0 c.requires.0 c.line_size-width.ensures).few
