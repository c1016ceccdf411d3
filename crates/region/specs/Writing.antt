-- What is written: a pad, a frame, a whole region.
use Rattle.std.specs.Prelude.{ℕ, Bool, true, List, [], ◌∷◌, ◌++◌, Some, None, Option}
use Rattle.plain.specs.Frames.{fresh}
use Rattle.plain.specs.declared.Answer.{Answer}
use Rattle.plain.specs.declared.Progress.{Progress}
use Rattle.layout.specs.declared.marker.Pad.{Pad}
use Rattle.layout.specs.declared.marker.Pad.TheVariants.{Zero, One}
use Rattle.region.specs.Numbers.{spelled}
use Rattle.layout.specs.Layout.{version, size_size, no_answer, with_answer, answer_size, progress_size, count_size, kind_size, marker_byte}
use Rattle.region.specs.Frames.{Located, count, is_top}

abbrev pub tag : Option Answer → ℕ
tag None = no_answer
tag (Some a) = with_answer

-- the number in the answer's places, which are 0 without an answer
abbrev pub answer_number : Option Answer → ℕ
answer_number None = 0
answer_number (Some a) = a.value

abbrev pub pad_bytes : Option Answer → Progress → List ℕ
pad_bytes a p = tag a ∷ (spelled answer_size (answer_number a) ++ spelled progress_size p.value)

abbrev pub zero_pad : List ℕ
zero_pad = pad_bytes None (record { value = 0 })

-- both pads of a frame, the idle one zero
abbrev pub both_pads : Pad → List ℕ → List ℕ
both_pads Zero live = live ++ zero_pad
both_pads One live = zero_pad ++ live

-- last: the stack ends here
abbrev pub frame_bytes : Located → Bool → List ℕ
frame_bytes x last =
    spelled count_size (count x) ++ (spelled kind_size x.frame.kind ++ (x.frame.args
    ++ (both_pads x.live (pad_bytes x.frame.answer x.frame.progress) ++ (marker_byte x.live last ∷ []))))

-- a new frame on top of the stack; where it starts does not matter
abbrev pub fresh_frame : ℕ → List ℕ → List ℕ
fresh_frame kind args = frame_bytes (record { first = 0; live = Zero; frame = fresh kind args }) true

abbrev pub frames_bytes : List Located → List ℕ
frames_bytes [] = []
frames_bytes (x ∷ xs) = frame_bytes x (is_top xs) ++ frames_bytes xs

-- a region of that size with these frames, and the rest behind them
abbrev pub region_bytes : ℕ → List Located → List ℕ → List ℕ
region_bytes size fs rest = version ∷ (spelled size_size size ++ (frames_bytes fs ++ rest))
