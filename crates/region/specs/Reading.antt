-- What a region's bytes say: its frames, or why it is refused.
use Rattle.std.specs.Prelude.{◌≡◌, ℕ, zero, suc, ◌+◌, Bool, cond, ◌&&◌, List, [], ◌∷◌, length, Some, None, Ok, Err, Option, Result, ◌==◌, nat_le, nat_lt, slice_index}
use Rattle.model.specs.declared.faults.StackFault.{StackFault}
use Rattle.model.specs.declared.faults.StackFault.TheVariants.{BoardSize, Version, StoredSize, Damaged}
use Rattle.plain.specs.declared.Answer.{Answer}
use Rattle.plain.specs.declared.Progress.{Progress}
use Rattle.region.specs.Numbers.{number, part}
use Rattle.layout.specs.Layout.{least_size, greatest_size, max_frames, version, version_at, size_at, size_size, frames_at, with_answer, answer_size, progress_size, answer_place, progress_place, count_size, kind_size, kind_place, args_place, pad_place, marker_place, frame_size, marker_limit, is_last, live_pad}
use Rattle.region.specs.Frames.{Located, kind_rule, RegionLaid, Stands}

-- what stands in the frame that starts at place p
abbrev pub count_at : List ℕ → ℕ → ℕ
count_at bs p = number (part bs p count_size)

abbrev pub kind_at : List ℕ → ℕ → ℕ
kind_at bs p = number (part bs (kind_place p) kind_size)

abbrev pub marker_at : List ℕ → ℕ → ℕ
marker_at bs p = slice_index bs (marker_place p (count_at bs p))

abbrev pub live_at : List ℕ → ℕ → ℕ
live_at bs p = pad_place p (count_at bs p) (live_pad (marker_at bs p))

-- what stands in the pad at place q
abbrev pub tag_at : List ℕ → ℕ → ℕ
tag_at bs q = slice_index bs q

abbrev pub answer_at : List ℕ → ℕ → Option Answer
answer_at bs q = cond (tag_at bs q == with_answer) (Some (record { value = number (part bs (answer_place q) answer_size) })) None

abbrev pub progress_at : List ℕ → ℕ → Progress
progress_at bs q = record { value = number (part bs (progress_place q) progress_size) }

-- whether the frame at place p, with i frames below it, is undamaged: it is not one too many, ends at reach at the latest,
-- keeps the rule for kind and number of arguments, and has a marker below marker_limit and a live tag of 0 or 1
abbrev pub undamaged : ℕ → List ℕ → ℕ → ℕ → Bool
undamaged reach bs i p =
    nat_lt i max_frames && (nat_le (p + frame_size (count_at bs p)) reach && (kind_rule i (kind_at bs p) (count_at bs p)
    && (nat_lt (marker_at bs p) marker_limit && nat_le (tag_at bs (live_at bs p)) with_answer)))

-- the frame at place p, if it is undamaged
abbrev pub frame_at : List ℕ → ℕ → Located
frame_at bs p =
    record {
      first = p;
      live = live_pad (marker_at bs p);
      frame =
          record {
            kind = kind_at bs p;
            args = part bs (args_place p) (count_at bs p);
            progress = progress_at bs (live_at bs p);
            answer = answer_at bs (live_at bs p);
          };
    }

-- a frame before the frames that were read behind it
abbrev pub before : Located → Result (List Located) StackFault → Result (List Located) StackFault
before x (Ok xs) = Ok (x ∷ xs)
before x (Err e) = Err e

-- the frames from place p on, of which k may stand at most, above i others, up to the first whose marker ends the stack
abbrev pub frames_from : ℕ → ℕ → List ℕ → ℕ → ℕ → Result (List Located) StackFault
frames_from zero reach bs i p = Err (Damaged p)
frames_from (suc k) reach bs i p =
    cond (undamaged reach bs i p)
    (cond (is_last (marker_at bs p)) (Ok (frame_at bs p ∷ [])) (before (frame_at bs p) (frames_from k reach bs (suc i) (p + frame_size (count_at bs p)))))
    (Err (Damaged p))

-- the three tests of the header
abbrev pub allows_size : List ℕ → Bool
allows_size bs = nat_le least_size (length bs) && nat_le (length bs) greatest_size

abbrev pub has_version : List ℕ → Bool
has_version bs = slice_index bs version_at == version

abbrev pub has_size : List ℕ → Bool
has_size bs = number (part bs size_at size_size) == length bs

-- the header: 8, 9 and 10, tested in this order
abbrev pub header : List ℕ → Result (Unit {0}) StackFault
header bs = cond (allows_size bs) (cond (has_version bs) (cond (has_size bs) (Ok tt) (Err StoredSize)) (Err Version)) (Err BoardSize)

-- what is read behind a header that passed its tests
abbrev pub behind : Result (Unit {0}) StackFault → Result (List Located) StackFault → Result (List Located) StackFault
behind (Ok u) r = r
behind (Err e) r = Err e

-- the frames of a region, or the refusal of its header or of a frame
abbrev pub read : List ℕ → Result (List Located) StackFault
read bs = behind (header bs) (frames_from max_frames (length bs) bs 0 frames_at)

-- the bytes hold b at place q
abbrev pub Found : List ℕ → ℕ → ℕ → Type 0
Found bs q b = slice_index bs q ≡ b

-- the bytes are a region with these frames: each place that counts holds its byte
pub record Spells (bs : List ℕ) (fs : List Located) : Type 0 where
  pub stands : Stands (length bs) fs
  pub laid : RegionLaid (Found bs) (length bs) fs
