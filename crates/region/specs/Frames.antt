-- Frames in their places: which places count, and which byte each of them holds.
use Rattle.std.specs.Prelude.{◌≡◌, ℕ, zero, suc, ◌+◌, ◌^◌, ◌<◌, ◌≤◌, Bool, true, false, ◌&&◌, List, [], ◌∷◌, map, length, Some, None, Option, ◌==◌, nat_le, nat_lt, slice_index}
use Rattle.plain.specs.Frames.{Frame}
use Rattle.plain.specs.declared.Answer.{Answer}
use Rattle.plain.specs.declared.Progress.{Progress}
use Rattle.layout.specs.declared.marker.Pad.{Pad}
use Rattle.region.specs.Numbers.{spelled, Bytes}
use Rattle.layout.specs.Layout.{least_size, greatest_size, max_frames, max_args, version, version_at, size_at, size_size, frames_at, no_answer, with_answer, answer_size, progress_size, answer_place, progress_place, count_size, kind_size, kind_place, args_place, pad_place, marker_place, frame_size, marker_byte}

-- a plain frame, the place where it starts, and its live pad
pub record Located : Type 0 where
  pub first : ℕ
  pub live : Pad
  pub frame : Frame

-- the number of its argument bytes
abbrev pub count : Located → ℕ
count x = length x.frame.args

-- the place behind it
abbrev pub end : Located → ℕ
end x = x.first + frame_size (count x)

-- the frames without their places and pads
abbrev pub plain : List Located → List Frame
plain fs = map (λ x. x.frame) fs

-- P holds of each place from p on, with its byte
abbrev pub Laid : (ℕ → ℕ → Type 0) → ℕ → List ℕ → Type 0
Laid P p bs = (i : ℕ) → i < length bs → P (p + i) (slice_index bs i)

-- P holds of each place that counts in a pad at place q, with its byte; without an answer the answer's places do not count
abbrev pub PadLaid : (ℕ → ℕ → Type 0) → ℕ → Option Answer → Progress → Type 0
PadLaid P q None p = P q no_answer × Laid P (progress_place q) (spelled progress_size p.value)
PadLaid P q (Some a) p =
    P q with_answer × (Laid P (answer_place q) (spelled answer_size a.value) × Laid P (progress_place q) (spelled progress_size p.value))

-- P holds of each place that counts in frame x, with its byte: all but those of the idle pad, and of an answer
-- that is absent. last: the stack ends here.
pub record FrameLaid (P : ℕ → ℕ → Type 0) (x : Located) (last : Bool) : Type 0 where
  pub count_bytes : Laid P x.first (spelled count_size (count x))
  pub kind : Laid P (kind_place x.first) (spelled kind_size x.frame.kind)
  pub args : Laid P (args_place x.first) x.frame.args
  pub pad : PadLaid P (pad_place x.first (count x) x.live) x.frame.answer x.frame.progress
  pub marker : P (marker_place x.first (count x)) (marker_byte x.live last)

-- nothing stands above
abbrev pub is_top : List Located → Bool
is_top [] = true
is_top (x ∷ xs) = false

abbrev pub FramesLaid : (ℕ → ℕ → Type 0) → List Located → Type 0
FramesLaid P [] = Unit {0}
FramesLaid P (x ∷ xs) = FrameLaid P x (is_top xs) × FramesLaid P xs

-- P holds of each place that counts in a region of that size with these frames, with its byte
pub record RegionLaid (P : ℕ → ℕ → Type 0) (size : ℕ) (fs : List Located) : Type 0 where
  pub version_byte : P version_at version
  pub size_bytes : Laid P size_at (spelled size_size size)
  pub frames : FramesLaid P fs

-- the bottom has kind 0 and no arguments; a frame above it, which has i > 0 frames below it, has another kind and at most max_args arguments
abbrev pub kind_rule : ℕ → ℕ → ℕ → Bool
kind_rule zero kind n = kind == 0 && n == 0
kind_rule (suc i) kind n = nat_lt 0 kind && nat_le n max_args

abbrev pub AnswerFits : Option Answer → Type 0
AnswerFits None = Unit {0}
AnswerFits (Some a) = a.value < 256 ^ answer_size

-- frame x may start at place p, above i frames, and ends at reach at the latest
pub record WellPlaced (reach i p : ℕ) (x : Located) : Type 0 where
  pub first : x.first ≡ p
  pub ends : p + frame_size (count x) ≤ reach
  pub rule : kind_rule i x.frame.kind (count x) ≡ true
  pub kind : x.frame.kind < 256 ^ kind_size
  pub args : Bytes x.frame.args
  pub progress : x.frame.progress.value < 256 ^ progress_size
  pub answer : AnswerFits x.frame.answer

-- the frames stand one behind the other, from place p on
abbrev pub InRow : ℕ → ℕ → ℕ → List Located → Type 0
InRow reach i p [] = Unit {0}
InRow reach i p (x ∷ xs) = WellPlaced reach i p x × InRow reach (suc i) (p + frame_size (count x)) xs

abbrev pub SizeAllowed : ℕ → Type 0
SizeAllowed size = (least_size ≤ size) × (size ≤ greatest_size)

-- the frames make a stack in a region of that size
pub record Stands (size : ℕ) (fs : List Located) : Type 0 where
  pub size_allowed : SizeAllowed size
  pub some : 0 < length fs
  pub few : length fs ≤ max_frames
  pub row : InRow size 0 frames_at fs
