-- One frame, test by test, as the code reads it.
use Rattle.std.proofs.Common.{◌≡◌, ℕ, ◌+◌, ◌<◌, ◌≤◌, Bool, true, false, cond, ltb, leb, List, length, get_or, Ok, Err, Result, Some, None, Option, sym, refl, ap, ◌∙◌, subst, arith}
use Rattle.std.proofs.lemmas.Bool.{and_from, and_left, and_right, lt-leb, le-leb, lt-ltb}
use Rattle.std.proofs.lemmas.List.{get_or_past}
use Rattle.std.specs.Result.{result_unwrap_or}
use Rattle.model.specs.declared.faults.BoardFault.{BoardFault}
use Rattle.model.specs.Writes.{Meaning, bytes}
use Rattle.model.specs.Calls.{Answered}
use Rattle.model.proofs.Places.{length-bytes, byte_at}
use Rattle.region.specs.declared.read.FrameHead.{FrameHead}
use Rattle.layout.specs.declared.marker.Marker.{Marker}
use Rattle.region.specs.declared.read.PadContent.{PadContent}
use Rattle.layout.specs.Layout.{max_frames, with_answer, args_place, pad_place, frame_size, marker_limit, is_last, live_pad}
use Rattle.region.specs.Frames.{kind_rule}
use Rattle.region.specs.Reading.{count_at, kind_at, marker_at, live_at, tag_at, undamaged}
use Rattle.layout.specs.Markers.{marker_of}
use Rattle.region.specs.Answers.{pad_at, HeadFound, HeadRead}
use Rattle.region.proofs.Numbers.{length-part}

-- no frame is read of one that ends past the board already with n argument bytes, which are no more than it has
pub passes_end : (bs : List ℕ) (i p n : ℕ) (r : Option FrameHead) → n ≤ count_at bs p → length bs < p + frame_size n → r ≡ None → HeadRead bs i p r
passes_end bs i p n r le far e =
    let damaged : undamaged (length bs) bs i p ≡ false =
    and_right (ltb i max_frames) _
    (and_left (leb (p + frame_size (count_at bs p)) (length bs)) _ (lt-leb (p + frame_size (count_at bs p)) (length bs) (omega arith))) in
    subst (HeadRead bs i p) (sym e) damaged

-- what stands where a test was passed
some_of : {A : Type 0} (t : Bool) (x y : A) → cond t (Some x) None ≡ Some y → (t ≡ true) × (x ≡ y)
some_of true x y e = (refl, cc)
some_of false x y e = let z : ◌≡◌ {A = ℕ} 0 1 = cc in absurd (omega arith)

pub head_found : (bs : List ℕ) (i p n kind b : ℕ) (k : Marker) (c : PadContent) (h : FrameHead)
    → i < max_frames → n ≡ count_at bs p → kind ≡ kind_at bs p → p + frame_size n ≤ length bs → kind_rule i kind n ≡ true
    → b ≡ marker_at bs p → marker_of b ≡ Some k → pad_at bs (pad_place p n k.live) ≡ Some c
    → h.extent.first ≡ p → h.kind ≡ kind → h.extent.count ≡ n → h.marker ≡ k → h.pad.progress ≡ c.progress → h.pad.answer ≡ c.answer
    → HeadFound bs i p h
head_found bs i p n kind b k c h few en ek room rule eb em ep hf hk hc hm hp ha =
    let m = some_of (ltb b marker_limit) _ k em in
    let live : live_pad (marker_at bs p) ≡ k.live = ap live_pad (sym eb) ∙ ap (λ z. z.live) m.1 in
    let last : is_last (marker_at bs p) ≡ k.last = ap is_last (sym eb) ∙ ap (λ z. z.last) m.1 in
    let place : pad_place p n k.live ≡ live_at bs p = (λ j. pad_place p (en j) (sym live j)) in
    let d = some_of (leb (tag_at bs (live_at bs p)) with_answer) _ c (subst (λ q. pad_at bs q ≡ Some c) place ep) in
    record {
      sound =
          and_from (ltb i max_frames) _ (lt-ltb i max_frames few)
          (and_from (leb (p + frame_size (count_at bs p)) (length bs)) _ (le-leb (p + frame_size (count_at bs p)) (length bs) (subst (λ j. p + frame_size j ≤ length bs) en room))
          (and_from (kind_rule i (kind_at bs p) (count_at bs p)) _ ((λ j. kind_rule i (sym ek j) (sym en j)) ∙ rule)
          (and_from (ltb (marker_at bs p) marker_limit) _ (ap (λ z. ltb z marker_limit) (sym eb) ∙ m.0) d.0)));
      heads =
          record {
            first = hf;
            kind = hk ∙ ek;
            count = hc ∙ (en ∙ sym (length-part bs (args_place p) (count_at bs p)));
            live = ap (λ z. z.live) hm ∙ sym live;
            last_frame = ap (λ z. z.last) hm ∙ sym last;
            progress = hp ∙ sym (ap (λ z. z.progress) d.1);
            answer = ha ∙ sym (ap (λ z. z.answer) d.1);
          };
    }

-- what a read answers, with 0 past the board's end
pub read_or_zero : (m : Meaning) (p : ℕ) (r : Result ℕ BoardFault) → Answered p m r → result_unwrap_or r 0 ≡ get_or (bytes m) p 0
read_or_zero m p (Ok b) h = h.1 ∙ sym (byte_at m p h.0)
read_or_zero m p (Err e) h = sym (get_or_past (bytes m) p 0 (omega (arith, length-bytes m, h.0)))

-- the number of places, as a board answers it
pub size_is : (m : Meaning) (n : ℕ) → n ≡ m.size → n ≡ length (bytes m)
size_is m n e = e ∙ sym (length-bytes m)
