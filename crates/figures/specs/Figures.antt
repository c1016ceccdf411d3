-- Figures computed from the definitions.
use Rattle.std.specs.Prelude.{◌≡◌, List, [], ◌∷◌, ℕ, length}
use Rattle.plain.specs.declared.Answer.{Answer}
use Rattle.plain.specs.declared.Progress.{Progress}
use Rattle.plain.specs.Frames.{call, note, give}
use Rattle.layout.specs.Layout.{marker_byte}
use Rattle.region.specs.Frames.{Located, end, is_top}
use Rattle.region.specs.Plans.{plan, writes, after, above, bottom, format_plan}

-- the line lengths of the two makes of board
abbrev pub on_line_board : ℕ
on_line_board = 64

abbrev pub on_through_board : ℕ
on_through_board = 1

abbrev pub fresh_stack : List Located
fresh_stack = bottom ∷ []

-- the frame of the first call without arguments lies at places 44 to 82: it starts at 44, and the place behind it is 83
pub record FirstFrame (kind : ℕ) : Type 0 where
  pub stands : after (call kind []) fresh_stack ≡ bottom ∷ above kind [] bottom ∷ []
  pub first : (above kind [] bottom).first ≡ 44
  pub behind : end (above kind [] bottom) ≡ 83

-- the marker of the bottom frame
abbrev pub bottom_marker : List Located → ℕ
bottom_marker [] = 0
bottom_marker (x ∷ xs) = marker_byte x.live (is_top xs)

-- the bottom's marker on a fresh stack, and after a call, a give, a call and a give
pub record BottomMarkers (kind : ℕ) (a b : Answer) : Type 0 where
  pub on_fresh : bottom_marker fresh_stack ≡ 0x01
  pub after_call : bottom_marker (after (call kind []) fresh_stack) ≡ 0x00
  pub after_give : bottom_marker (after (give a) (after (call kind []) fresh_stack)) ≡ 0x03
  pub after_second_call : bottom_marker (after (call kind []) (after (give a) (after (call kind []) fresh_stack))) ≡ 0x02
  pub after_second_give : bottom_marker (after (give b) (after (call kind []) (after (give a) (after (call kind []) fresh_stack)))) ≡ 0x01

-- how many writing calls the plans make
pub record WritingCalls (kind size : ℕ) (p : Progress) : Type 0 where
  pub first_call_line : length (writes on_line_board (plan (call kind []) fresh_stack)) ≡ 45
  pub first_call_through : length (writes on_through_board (plan (call kind []) fresh_stack)) ≡ 82
  pub note_line : length (writes on_line_board (plan (note p) fresh_stack)) ≡ 22
  pub format_line : length (format_plan on_line_board size) ≡ 51

-- for every kind, size, answer and progress
abbrev pub Figures : Type 0
Figures = (kind size : ℕ) (a b : Answer) (p : Progress) → FirstFrame kind × BottomMarkers kind a b × WritingCalls kind size p
