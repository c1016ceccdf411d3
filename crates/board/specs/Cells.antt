-- A cell of the line board, and what the calls make of it.
use Rattle.std.specs.Prelude.{ℕ, Bool, false, cond, List, length, Some, None, Option, ◌==◌, nat_lt, slice_index}
use Rattle.model.specs.Places.{Place, settled, loose}
use Rattle.board.specs.declared.line.Cell.{Cell}
use Rattle.board.specs.declared.line.Stores.{Stores}
use Rattle.board.specs.declared.line.Stores.TheVariants.{Never, Once, More}

abbrev pub standing : Stores → ℕ → ℕ → Bool → Place
standing Never a s posted = settled a
standing Once a s posted = loose a (Some s) posted
standing More a s posted = loose a None posted

-- how a cell stands
abbrev pub place_of : Cell → Place
place_of c = standing c.stores c.present c.settled c.posted

-- settled at b
abbrev pub settled_at : ℕ → Cell
settled_at b = record { present = b; settled = b; stores = Never; posted = false }

-- what is read past a table's end
abbrev pub blank : Cell
blank = settled_at 0

-- with its posting set; a settled cell stands the same with it and without
abbrev pub posting : Bool → Cell → Cell
posting v c = record { present = c.present; settled = c.settled; stores = c.stores; posted = v }

abbrev pub store_over : Stores → ℕ → ℕ → ℕ → Cell
store_over Never b a s = record { present = b; settled = a; stores = Once; posted = false }
store_over Once b a s = record { present = b; settled = s; stores = More; posted = false }
store_over More b a s = record { present = b; settled = s; stores = More; posted = false }

-- after a store of b
abbrev pub after_store : ℕ → Cell → Cell
after_store b c = store_over c.stores b c.present c.settled

-- after a settle
abbrev pub after_settle : Cell → Cell
after_settle c = cond c.posted (settled_at c.present) c

abbrev pub byte_left : Stores → ℕ → ℕ → Option ℕ → ℕ
byte_left Never a s w = a
byte_left Once a s None = s
byte_left Once a s (Some b) = cond (b == a) b s
byte_left More a s None = s
byte_left More a s (Some b) = b

-- after a power cut, where the byte w is wanted, or none is
abbrev pub after_cut : Option ℕ → Cell → Cell
after_cut w c = settled_at (byte_left c.stores c.present c.settled w)

-- the byte wanted at place k
abbrev pub wanted_at : List ℕ → ℕ → Option ℕ
wanted_at ws k = cond (nat_lt k (length ws)) (Some (slice_index ws k)) None
