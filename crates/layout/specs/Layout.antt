-- The region's numbers and places. Every length and offset has its name here.
use Rattle.std.specs.Prelude.{ℕ, ◌+◌, ◌%◌, Bool, true, false, cond, ◌==◌, nat_lt}
use Rattle.layout.specs.declared.marker.Pad.{Pad}
use Rattle.layout.specs.declared.marker.Pad.TheVariants.{Zero, One}

-- at most this many frames stand, and a frame has at most this many argument bytes
abbrev pub max_frames : ℕ
max_frames = 64

abbrev pub max_args : ℕ
max_args = 255

-- the header: the version, and the number of places
abbrev pub version : ℕ
version = 1

abbrev pub version_at : ℕ
version_at = 0

abbrev pub size_at : ℕ
size_at = 1

abbrev pub size_size : ℕ
size_size = 4

-- where the bottom frame starts
abbrev pub frames_at : ℕ
frames_at = size_at + size_size

-- a pad: a tag, the answer and the progress
abbrev pub no_answer : ℕ
no_answer = 0

abbrev pub with_answer : ℕ
with_answer = 1

abbrev pub tag_size : ℕ
tag_size = 1

abbrev pub answer_size : ℕ
answer_size = 8

abbrev pub progress_size : ℕ
progress_size = 8

abbrev pub pad_size : ℕ
pad_size = tag_size + answer_size + progress_size

abbrev pub answer_place : ℕ → ℕ
answer_place q = q + tag_size

abbrev pub progress_place : ℕ → ℕ
progress_place q = q + (tag_size + answer_size)

-- a frame: the number n of argument bytes, the kind, the arguments, pad 0, pad 1 and the marker
abbrev pub count_size : ℕ
count_size = 2

abbrev pub kind_size : ℕ
kind_size = 2

abbrev pub marker_size : ℕ
marker_size = 1

abbrev pub kind_place : ℕ → ℕ
kind_place p = p + count_size

abbrev pub args_place : ℕ → ℕ
args_place p = p + (count_size + kind_size)

abbrev pub pad_place : ℕ → ℕ → Pad → ℕ
pad_place p n Zero = args_place p + n
pad_place p n One = args_place p + n + pad_size

abbrev pub marker_place : ℕ → ℕ → ℕ
marker_place p n = args_place p + n + (pad_size + pad_size)

abbrev pub frame_size : ℕ → ℕ
frame_size n = count_size + kind_size + n + (pad_size + pad_size) + marker_size

-- a region has from least_size to greatest_size places: the header and a bottom frame fit
abbrev pub least_size : ℕ
least_size = frames_at + frame_size 0

abbrev pub greatest_size : ℕ
greatest_size = 65536

-- the longest frame
abbrev pub max_frame : ℕ
max_frame = frame_size max_args

-- a marker: bit 0 is set where the stack ends, bit 1 is the number of the live pad
abbrev pub end_bit : Bool → ℕ
end_bit false = 0
end_bit true = 1

abbrev pub pad_bit : Pad → ℕ
pad_bit Zero = 0
pad_bit One = 2

abbrev pub marker_byte : Pad → Bool → ℕ
marker_byte live last = pad_bit live + end_bit last

-- every marker is below this
abbrev pub marker_limit : ℕ
marker_limit = 4

abbrev pub other : Pad → Pad
other Zero = One
other One = Zero

-- bit 0 of a marker
abbrev pub is_last : ℕ → Bool
is_last marker = marker % 2 == 1

-- bit 1 of a marker, which is below marker_limit
abbrev pub live_pad : ℕ → Pad
live_pad marker = cond (nat_lt marker 2) Zero One
