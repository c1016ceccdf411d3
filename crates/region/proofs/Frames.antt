-- The places that count in frames: facts about them place by place, and where they lie.
use Rattle.std.proofs.Common.{ℕ, suc, ◌+◌, ◌<◌, ◌≤◌, Bool, List, [], ◌∷◌, get_or, Some, None, Option, arith}
use Rattle.model.specs.Laws.{Outside}
use Rattle.plain.specs.declared.Answer.{Answer}
use Rattle.plain.specs.declared.Progress.{Progress}
use Rattle.layout.specs.declared.marker.Pad.{Pad}
use Rattle.layout.specs.declared.marker.Pad.TheVariants.{Zero, One}
use Rattle.region.specs.Numbers.{spelled}
use Rattle.layout.specs.Layout.{size_at, size_size, frames_at, answer_size, progress_size, pad_size, count_size, kind_size, kind_place, args_place, pad_place, marker_place, answer_place, progress_place, frame_size, other}
use Rattle.region.specs.Frames.{Located, count, end, Laid, PadLaid, FrameLaid, is_top, FramesLaid, RegionLaid, InRow, Stands}
use Rattle.region.proofs.Numbers.{length-spelled}

-- two facts about each place give a third
module _ {P Q R : ℕ → ℕ → Type 0} (f : (q b : ℕ) → P q b → Q q b → R q b) where
  pub laid_zip : (p : ℕ) (bs : List ℕ) → Laid P p bs → Laid Q p bs → Laid R p bs
  laid_zip p bs g h i lt = f (p + i) (get_or bs i 0) (g i lt) (h i lt)

  pub pad_zip : (q : ℕ) (a : Option Answer) (v : Progress) → PadLaid P q a v → PadLaid Q q a v → PadLaid R q a v
  pad_zip q None v g h = (f q _ g.0 h.0, laid_zip (progress_place q) (spelled progress_size v.value) g.1 h.1)
  pad_zip q (Some a) v g h = (f q _ g.0 h.0, (laid_zip (answer_place q) (spelled answer_size a.value) g.1.0 h.1.0, laid_zip (progress_place q) (spelled progress_size v.value) g.1.1 h.1.1))

  pub frame_zip : (x : Located) (last : Bool) → FrameLaid P x last → FrameLaid Q x last → FrameLaid R x last
  frame_zip x last g h =
      record {
        count_bytes = laid_zip x.first (spelled count_size (count x)) g.count_bytes h.count_bytes;
        kind = laid_zip (kind_place x.first) (spelled kind_size x.frame.kind) g.kind h.kind;
        args = laid_zip (args_place x.first) x.frame.args g.args h.args;
        pad = pad_zip _ x.frame.answer x.frame.progress g.pad h.pad;
        marker = f _ _ g.marker h.marker;
      }

  pub frames_zip : (fs : List Located) → FramesLaid P fs → FramesLaid Q fs → FramesLaid R fs
  frames_zip [] g h = tt
  frames_zip (x ∷ xs) g h = (frame_zip x (is_top xs) g.0 h.0, frames_zip xs g.1 h.1)

  pub region_zip : (size : ℕ) (fs : List Located) → RegionLaid P size fs → RegionLaid Q size fs → RegionLaid R size fs
  region_zip size fs g h =
      record {
        version_byte = f _ _ g.version_byte h.version_byte;
        size_bytes = laid_zip size_at (spelled size_size size) g.size_bytes h.size_bytes;
        frames = frames_zip fs g.frames h.frames;
      }

-- where spelled numbers lie
pub laid_within : (P : ℕ → Type 0) (p k v : ℕ) → ((q : ℕ) → p ≤ q → q < p + k → P q) → Laid (λ q b. P q) p (spelled k v)
laid_within P p k v h i lt = h (p + i) (omega arith) (omega (arith, lt, length-spelled k v))

pub pad_within : (P : ℕ → Type 0) (q : ℕ) (a : Option Answer) (v : Progress) → ((r : ℕ) → q ≤ r → r < q + pad_size → P r) → PadLaid (λ r b. P r) q a v
pad_within P q None v h =
    (h q (omega arith) (omega arith), laid_within P (progress_place q) progress_size v.value (λ r l u. h r (omega arith) (omega arith)))
pad_within P q (Some a) v h = (
  h q (omega arith) (omega arith),
  (
    laid_within P (answer_place q) answer_size a.value (λ r l u. h r (omega arith) (omega arith)),
    laid_within P (progress_place q) progress_size v.value (λ r l u. h r (omega arith) (omega arith)),
  ),
)

-- a fact about each place of the parts of a frame but its idle pad
pub frame_within : (P : ℕ → Type 0) (x : Located) (last : Bool)
    → ((q : ℕ) → x.first ≤ q → q < args_place x.first + count x → P q)
    → ((q : ℕ) → pad_place x.first (count x) x.live ≤ q → q < pad_place x.first (count x) x.live + pad_size → P q)
    → P (marker_place x.first (count x))
    → FrameLaid (λ q b. P q) x last
frame_within P x last head pad marker =
    record {
      count_bytes = laid_within P x.first count_size (count x) (λ q l u. head q (omega arith) (omega arith));
      kind = laid_within P (kind_place x.first) kind_size x.frame.kind (λ q l u. head q (omega arith) (omega arith));
      args = λ i lt. head (args_place x.first + i) (omega arith) (omega arith);
      pad = pad_within P (pad_place x.first (count x) x.live) x.frame.answer x.frame.progress pad;
      marker = marker;
    }

-- both pads lie between the arguments and the marker
pub pad_low : (p n : ℕ) (d : Pad) → args_place p + n ≤ pad_place p n d
pad_low p n Zero = omega arith
pad_low p n One = omega arith

pub pad_high : (p n : ℕ) (d : Pad) → pad_place p n d + pad_size ≤ marker_place p n
pad_high p n Zero = omega arith
pad_high p n One = omega arith

-- each place that counts lies in the frame
pub frame_inside : (x : Located) (last : Bool) → FrameLaid (λ q b. (x.first ≤ q) × (q < end x)) x last
frame_inside x last =
    frame_within (λ q. (x.first ≤ q) × (q < end x)) x last
    (λ q l u. (l, omega arith))
    (λ q l u. (omega (arith, pad_low x.first (count x) x.live), omega (arith, pad_high x.first (count x) x.live)))
    (omega arith, omega arith)

-- none lies in the idle pad
pads_apart : (p n : ℕ) (d : Pad) (q : ℕ) → pad_place p n d ≤ q → q < pad_place p n d + pad_size → Outside (pad_place p n (other d)) pad_size q
pads_apart p n Zero q l u h k = omega arith
pads_apart p n One q l u h k = omega arith

pub frame_idle : (x : Located) (last : Bool) → FrameLaid (λ q b. Outside (pad_place x.first (count x) (other x.live)) pad_size q) x last
frame_idle x last =
    let d : Pad = other x.live in
    frame_within (λ q. Outside (pad_place x.first (count x) d) pad_size q) x last
    (λ q l u h k. omega (arith, pad_low x.first (count x) d))
    (pads_apart x.first (count x) x.live)
    (λ h k. omega (arith, pad_high x.first (count x) d))

pub frames_inside : (reach i p : ℕ) (fs : List Located) → InRow reach i p fs → FramesLaid (λ q b. (p ≤ q) × (q < reach)) fs
frames_inside reach i p [] s = tt
frames_inside reach i p (x ∷ xs) s =
    let here = frame_inside x (is_top xs) in
    let above = frames_inside reach (suc i) (p + frame_size (count x)) xs s.1 in (
      frame_zip (λ q b g h. (omega (arith, s.0.first, g.0), omega (arith, s.0.first, s.0.ends, g.1))) x (is_top xs) here here,
      frames_zip (λ q b g h. (omega (arith, g.0), g.1)) xs above above,
    )

-- each place that counts in a region lies in it
pub region_inside : (size : ℕ) (fs : List Located) → Stands size fs → RegionLaid (λ q b. q < size) size fs
region_inside size fs s =
    let in-frames = frames_inside size 0 frames_at fs s.row in
    record {
      version_byte = omega (arith, s.size_allowed.0);
      size_bytes = laid_within (λ q. q < size) size_at size_size size (λ q l u. omega (arith, s.size_allowed.0));
      frames = frames_zip (λ q b g h. g.1) fs in-frames in-frames;
    }
