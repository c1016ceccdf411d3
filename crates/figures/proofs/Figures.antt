-- The worked figures, computed.
use mathlib.Core.Path.{refl}
use Prim.Native.Nat.{ℕ}
use Rattle.model.specs.Rounds.{round}
use Rattle.plain.specs.declared.Answer.{Answer}
use Rattle.plain.specs.declared.Progress.{Progress}
use Rattle.figures.specs.Figures.{FirstFrame, BottomMarkers, WritingCalls, Figures}

first_frame : (kind : ℕ) → FirstFrame kind
first_frame kind = record { stands = refl; first = refl; behind = refl }

bottom_markers : (kind : ℕ) (a b : Answer) → BottomMarkers kind a b
bottom_markers kind a b = record { on_fresh = refl; after_call = refl; after_give = refl; after_second_call = refl; after_second_give = refl }

writing_calls : (kind size : ℕ) (p : Progress) → WritingCalls kind size p
unfolding round
writing_calls kind size p = record { first_call_line = refl; first_call_through = refl; note_line = refl; format_line = refl }

pub figures : Figures
figures kind size a b p = (first_frame kind, bottom_markers kind a b, writing_calls kind size p)
