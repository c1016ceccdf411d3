-- The through board: every place is settled at its byte.
use Rattle.std.specs.Prelude.{ℕ, List, length, slice_index, slice_set}
use Rattle.model.specs.Places.{settled}
use Rattle.model.specs.Writes.{Meaning}
use Rattle.board.specs.declared.through.ThroughBoard.{ThroughBoard}

-- the places in a line
abbrev pub through_width : ℕ
through_width = 1

-- what a through board means
abbrev pub through_board : ThroughBoard → Meaning
through_board b = record { size = length b.bytes.now; at = λ k. settled (slice_index b.bytes.now k); supply = b.supply }

-- a store sets its byte; a post, a settle and a cut change none
abbrev pub stored_bytes : ℕ → ℕ → List ℕ → List ℕ
stored_bytes p b bs = slice_set bs p b

abbrev pub same_bytes : List ℕ → List ℕ
same_bytes bs = bs
