-- A row of the record's table: what it shows, and its text.
use Rattle.std.specs.Prelude.{◌≡◌, ℕ, ◌+◌, ◌-◌, ◌^◌, ◌<◌, List, ◌++◌, if◌then◌else◌, Some, codes, slice_index}
use Rattle.std.specs.Fmt.{format_spec, styled_decimal}
use Rattle.std.specs.Str.{is_utf8}
use Rattle.model.specs.Writes.{Meaning, loose_at}
use Rattle.survey.specs.declared.table.Row.{Row}
use Rattle.survey.specs.Record.{record_at, record_size, Updated, Found, mark}

-- a mark for each place of the record
abbrev pub Marked : Meaning → List ℕ → Type 0
Marked m xs = (k : ℕ) → k < record_size → slice_index xs k ≡ mark (loose_at m (record_at + k))

-- the row shows an update with its supply, after which the board is n, and what was found after two such updates and a cut each
pub record RowShown (L : ℕ) (r : Row) (n : Meaning) : Type 0 where
  pub carried : Updated L (Some r.supply) r.carried n
  pub old : (o : Meaning) × Found L (Some r.supply) r.kept.old o
  pub new : (o : Meaning) × Found L (Some r.supply) r.kept.new o

-- a number at the left of a column of w places, and at its right
abbrev pub left : ℕ → ℕ → List ℕ
left w n = styled_decimal (format_spec 32 1 0 w (2 ^ 64 - 1)) n

abbrev pub right : ℕ → ℕ → List ℕ
right w n = styled_decimal (format_spec 32 3 0 w (2 ^ 64 - 1)) n

-- the bytes as text, if they are
abbrev pub text_of : List ℕ → List ℕ
text_of bs = if is_utf8 bs then bs else codes "?"

abbrev pub row_text : Row → List ℕ
row_text r = right 6 r.supply ++ (codes " " ++ (right 7 r.carried ++ (codes "  " ++ (text_of r.marks ++ (codes "  " ++ (text_of r.kept.old ++ (codes "  " ++ text_of r.kept.new)))))))
