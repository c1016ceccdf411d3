use Rattle.std.proofs.Common.{◌≡◌, ◌-◌, take}
use Rattle.model.specs.Writes.{Ran}
use Rattle.model.specs.Rounds.{posts}
use Rattle.board.proofs.rounds.post_range.Given as goal

abbrev pub invariant-loop-line : goal.invariant-loop-line
invariant-loop-line g l =
    let b = g.B.Board in
    ((b.meaning l.board).size ≡ (b.meaning l.initial.board).size)
    × Ran b.width (take (l.line-counter - l.first) (posts l.first (l.end - l.first))) (b.meaning l.initial.board) (b.meaning l.board)
