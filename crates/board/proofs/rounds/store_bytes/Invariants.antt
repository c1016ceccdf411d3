use Rattle.std.proofs.Common.{◌≡◌, take}
use Rattle.model.specs.Writes.{Ran}
use Rattle.model.specs.Rounds.{stores}
use Rattle.board.proofs.rounds.store_bytes.Given as goal

abbrev pub invariant-loop-i : goal.invariant-loop-i
invariant-loop-i g l =
    let b = g.B.Board in
    ((b.meaning l.board).size ≡ (b.meaning l.initial.board).size)
    × Ran b.width (take l.i-counter (stores l.at l.bytes)) (b.meaning l.initial.board) (b.meaning l.board)
