-- The line board's table of cells: what it means, and what each call leaves of it.
use Rattle.std.specs.Prelude.{◌≡◌, ℕ, suc, ◌/◌, ◌<◌, Bool, true, false, cond, List, [], ◌∷◌, map, length, ◌==◌, slice_index_or, slice_set}
use Rattle.model.specs.Places.{AfterCut}
use Rattle.model.specs.Writes.{Meaning, Write, After}
use Rattle.board.specs.declared.line.Cell.{Cell}
use Rattle.board.specs.declared.line.LineBoard.{LineBoard}
use Rattle.board.specs.Cells.{place_of, settled_at, blank, posting, after_store, after_settle, after_cut, wanted_at}

-- the places in a line
abbrev pub line_width : ℕ
line_width = 64

-- what a line board means
abbrev pub line_board : LineBoard → Meaning
line_board b = record { size = length b.cells.now; at = λ k. place_of (slice_index_or b.cells.now k blank); supply = b.supply }

-- each cell by its place, the first at k
abbrev pub each : (ℕ → Cell → Cell) → ℕ → List Cell → List Cell
each f k [] = []
each f k (c ∷ cs) = f k c ∷ each f (suc k) cs

-- a table of as many cells, each of which R allows of the cell that stood at its place k
pub record ChangedBy (R : ℕ → Cell → Cell → Type 0) (xs ys : List Cell) : Type 0 where
  pub size : length ys ≡ length xs
  pub places : (k : ℕ) → k < length xs → R k (slice_index_or xs k blank) (slice_index_or ys k blank)

-- the posting of line l set, the other lines as they are
abbrev pub with_line : Bool → ℕ → List Cell → List Cell
with_line v l cs = each (λ k c. cond (k / line_width == l) (posting v c) c) 0 cs

-- every cell settled at its present byte
abbrev pub new_table : List Cell → List Cell
new_table cs = map (λ c. settled_at c.present) cs

-- b stored at p, whose line loses its posting
abbrev pub stored_table : ℕ → ℕ → List Cell → List Cell
stored_table p b cs = slice_set (with_line false (p / line_width) cs) p (after_store b (slice_index_or cs p blank))

abbrev pub posted_table : ℕ → List Cell → List Cell
posted_table l cs = with_line true l cs

abbrev pub settled_table : List Cell → List Cell
settled_table cs = map after_settle cs

abbrev pub cut_table : List ℕ → List Cell → List Cell
cut_table ws cs = each (λ k c. after_cut (wanted_at ws k) c) 0 cs

-- a table that a granted call of any board may make of xs
pub record TableAfter (w : Write) (xs ys : List Cell) : Type 0 where
  pub size : length ys ≡ length xs
  pub places : (k : ℕ) → k < length xs → After line_width w k (place_of (slice_index_or xs k blank)) (place_of (slice_index_or ys k blank))

-- a table that a power cut of any board may leave of xs
pub record TableCut (xs ys : List Cell) : Type 0 where
  pub size : length ys ≡ length xs
  pub places : (k : ℕ) → k < length xs → AfterCut (place_of (slice_index_or xs k blank)) (place_of (slice_index_or ys k blank))
