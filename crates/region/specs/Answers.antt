-- What the functions that read answer.
use Rattle.std.specs.Prelude.{◌≡◌, ℕ, ◌+◌, ◌<◌, ◌≤◌, max, Bool, true, false, cond, List, length, Some, None, Option, Result, MatchResult, nat_le}
use Rattle.model.specs.declared.faults.BoardFault.{BoardFault}
use Rattle.model.specs.declared.faults.StackFault.{StackFault}
use Rattle.model.specs.declared.faults.Layer.TheVariants.{Stack}
use Rattle.model.specs.Faults.{Fault, Refusal}
use Rattle.model.specs.Writes.{Meaning, bytes}
use Rattle.region.specs.declared.read.PadContent.{PadContent}
use Rattle.region.specs.declared.read.FrameHead.{FrameHead}
use Rattle.region.specs.Numbers.{part}
use Rattle.layout.specs.Layout.{with_answer, is_last}
use Rattle.region.specs.Frames.{Located}
use Rattle.region.specs.Reading.{marker_at, tag_at, answer_at, progress_at, undamaged, frame_at}

-- the bytes from place p on, in the place of xs; or 2 with the first place outside, and xs stays
abbrev pub BytesRead : ℕ → List ℕ → Meaning → Result (Unit {0}) BoardFault → List ℕ → Type 0
BytesRead p xs m r ys =
    MatchResult r (λ _. (p + length xs ≤ m.size) × (ys ≡ part (bytes m) p (length xs)))
    (λ e. (m.size < p + length xs) × Fault 2 (max p m.size) e × (ys ≡ xs))

-- what the pad at place q holds; nothing if its tag is neither 0 nor 1
abbrev pub pad_at : List ℕ → ℕ → Option PadContent
pad_at bs q = cond (nat_le (tag_at bs q) with_answer) (Some (record { answer = answer_at bs q; progress = progress_at bs q })) None

-- h is frame x but for its argument bytes; last: the stack ends here
pub record Heads (h : FrameHead) (x : Located) (last : Bool) : Type 0 where
  pub first : h.extent.first ≡ x.first
  pub kind : h.kind ≡ x.frame.kind
  pub count : h.extent.count ≡ length x.frame.args
  pub live : h.marker.live ≡ x.live
  pub last_frame : h.marker.last ≡ last
  pub progress : h.pad.progress ≡ x.frame.progress
  pub answer : h.pad.answer ≡ x.frame.answer

-- the undamaged frame at place p, with i frames below it
pub record HeadFound (bs : List ℕ) (i p : ℕ) (h : FrameHead) : Type 0 where
  pub sound : undamaged (length bs) bs i p ≡ true
  pub heads : Heads h (frame_at bs p) (is_last (marker_at bs p))

-- that frame, or nothing if it is damaged
abbrev pub HeadRead : List ℕ → ℕ → ℕ → Option FrameHead → Type 0
HeadRead bs i p (Some h) = HeadFound bs i p h
HeadRead bs i p None = undamaged (length bs) bs i p ≡ false

-- that frame, or 11 with its first place
abbrev pub FrameRead : List ℕ → ℕ → ℕ → Result FrameHead StackFault → Type 0
FrameRead bs i p r = MatchResult r (λ h. HeadFound bs i p h) (λ e. (undamaged (length bs) bs i p ≡ false) × Refusal 11 Stack p e)
