use Rattle.std.proofs.Common.{◌≡◌, ℕ, ◌+◌, ◌<◌, length, get_or}
use Rattle.model.specs.Writes.{bytes}
use Rattle.region.proofs.read.fill.Given as goal

abbrev pub invariant-loop-i : goal.invariant-loop-i
invariant-loop-i g l =
    (length l.into ≡ length l.initial.into) × ((k : ℕ) → k < l.i → get_or l.into k 0 ≡ get_or (bytes (g.B.Board.meaning l.board)) (l.at + k) 0)
