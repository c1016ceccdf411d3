-- What is written holds the byte of each place that counts.
use Rattle.std.proofs.Common.{◌≡◌, ℕ, zero, suc, ◌+◌, Bool, List, [], ◌∷◌, ◌++◌, length, get_or, Some, None, Ok, Option, sym, refl, ap, ◌∙◌, subst, append_assoc, arith}
use lib.ListN.{get_or-append}
use Rattle.std.proofs.lemmas.List.{length-append, get_or-append-add}
use Rattle.plain.specs.declared.Answer.{Answer}
use Rattle.plain.specs.declared.Progress.{Progress}
use Rattle.layout.specs.declared.marker.Pad.{Pad}
use Rattle.layout.specs.declared.marker.Pad.TheVariants.{Zero, One}
use Rattle.region.specs.Numbers.{spelled}
use Rattle.layout.specs.Layout.{version, version_at, size_at, size_size, frames_at, answer_size, progress_size, answer_place, progress_place, pad_size, count_size, kind_size, kind_place, args_place, pad_place, marker_place, frame_size, marker_byte}
use Rattle.region.specs.Frames.{Located, count, Laid, PadLaid, FrameLaid, is_top, FramesLaid, RegionLaid, InRow, Stands}
use Rattle.region.specs.Writing.{tag, answer_number, pad_bytes, zero_pad, both_pads, frame_bytes, frames_bytes, region_bytes}
use Rattle.region.proofs.Numbers.{length-spelled}
use Rattle.region.specs.Reading.{read, Found}
use Rattle.region.proofs.Reading.{spelled_read}

-- parts of what is laid
pub laid_left : (P : ℕ → ℕ → Type 0) (p : ℕ) (us vs : List ℕ) → Laid P p (us ++ vs) → Laid P p us
laid_left P p us vs h i lt = subst (P (p + i)) (get_or-append us vs 0 i lt) (h i (omega (arith, lt, length-append us vs)))

pub laid_right : (P : ℕ → ℕ → Type 0) (p q : ℕ) (us vs : List ℕ) → q ≡ p + length us → Laid P p (us ++ vs) → Laid P q vs
laid_right P p q us vs e h i lt =
    let place : p + (length us + i) ≡ q + i = omega (arith, e) in
    subst (λ r. P r (get_or vs i 0)) place (subst (P (p + (length us + i))) (get_or-append-add us vs i 0) (h (length us + i) (omega (arith, lt, length-append us vs))))

pub laid_first : (P : ℕ → ℕ → Type 0) (p b : ℕ) (bs : List ℕ) → Laid P p (b ∷ bs) → P p b
laid_first P p b bs h = let e : p + 0 ≡ p = omega arith in subst (λ q. P q b) e (h 0 (omega arith))

pub laid_rest : (P : ℕ → ℕ → Type 0) (p q b : ℕ) (bs : List ℕ) → q ≡ p + 1 → Laid P p (b ∷ bs) → Laid P q bs
laid_rest P p q b bs e h i lt = let place : p + suc i ≡ q + i = omega (arith, e) in subst (λ r. P r (get_or bs i 0)) place (h (suc i) (omega arith))

pub laid_join : (P : ℕ → ℕ → Type 0) (p q b : ℕ) (bs : List ℕ) → q ≡ p + 1 → P p b → Laid P q bs → Laid P p (b ∷ bs)
laid_join P p q b bs e g h zero lt = let place : p ≡ p + 0 = omega arith in subst (λ r. P r b) place g
laid_join P p q b bs e g h (suc i) lt = let place : q + i ≡ p + suc i = omega (arith, e) in subst (λ r. P r (get_or bs i 0)) place (h i (omega arith))

pub length-pad_bytes : (a : Option Answer) (v : Progress) → length (pad_bytes a v) ≡ pad_size
length-pad_bytes a v =
    omega (arith, length-append (spelled answer_size (answer_number a)) (spelled progress_size v.value), length-spelled answer_size (answer_number a), length-spelled progress_size v.value)

pub pad_written : (P : ℕ → ℕ → Type 0) (q : ℕ) (a : Option Answer) (v : Progress) → Laid P q (pad_bytes a v) → PadLaid P q a v
pad_written P q a v h = pads a (laid_first P q (tag a) (us ++ vs) h) (laid_left P (answer_place q) us vs rest) (laid_right P (answer_place q) (progress_place q) us vs (omega (arith, length-spelled answer_size (answer_number a))) rest)
  where
    us : List ℕ
    us = spelled answer_size (answer_number a)

    vs : List ℕ
    vs = spelled progress_size v.value

    rest : Laid P (answer_place q) (us ++ vs)
    rest = laid_rest P q (answer_place q) (tag a) (us ++ vs) refl h

    pads : (a : Option Answer) → P q (tag a) → Laid P (answer_place q) (spelled answer_size (answer_number a)) → Laid P (progress_place q) vs → PadLaid P q a v
    pads None t x y = (t, y)
    pads (Some a) t x y = (t, (x, y))

length_both : (d : Pad) (a : Option Answer) (v : Progress) → length (both_pads d (pad_bytes a v)) ≡ pad_size + pad_size
length_both Zero a v = length-append (pad_bytes a v) zero_pad ∙ ap (λ n. n + pad_size) (length-pad_bytes a v)
length_both One a v = length-append zero_pad (pad_bytes a v) ∙ ap (λ n. pad_size + n) (length-pad_bytes a v)

live_written : (P : ℕ → ℕ → Type 0) (p n : ℕ) (d : Pad) (a : Option Answer) (v : Progress) → Laid P (args_place p + n) (both_pads d (pad_bytes a v)) → Laid P (pad_place p n d) (pad_bytes a v)
live_written P p n Zero a v h = laid_left P (pad_place p n Zero) (pad_bytes a v) zero_pad h
live_written P p n One a v h = laid_right P (args_place p + n) (pad_place p n One) zero_pad (pad_bytes a v) refl h

pub length-frame_bytes : (x : Located) (last : Bool) → length (frame_bytes x last) ≡ frame_size (count x)
length-frame_bytes x last =
    let pads = both_pads x.live (pad_bytes x.frame.answer x.frame.progress) in
    let end = marker_byte x.live last ∷ [] in
    omega (
      arith,
      length-append (spelled count_size (count x)) (spelled kind_size x.frame.kind ++ (x.frame.args ++ (pads ++ end))),
      length-append (spelled kind_size x.frame.kind) (x.frame.args ++ (pads ++ end)),
      length-append x.frame.args (pads ++ end),
      length-append pads end,
      length-spelled count_size (count x),
      length-spelled kind_size x.frame.kind,
      length_both x.live x.frame.answer x.frame.progress,
    )

pub frame_written : (P : ℕ → ℕ → Type 0) (x : Located) (last : Bool) → Laid P x.first (frame_bytes x last) → FrameLaid P x last
frame_written P x last h =
    let p : ℕ = x.first in
    let n : ℕ = count x in
    let a : List ℕ = spelled count_size n in
    let b : List ℕ = spelled kind_size x.frame.kind in
    let c : List ℕ = x.frame.args in
    let d : List ℕ = both_pads x.live (pad_bytes x.frame.answer x.frame.progress) in
    let e : List ℕ = marker_byte x.live last ∷ [] in
    let h1 = laid_right P p (kind_place p) a (b ++ (c ++ (d ++ e))) (omega (arith, length-spelled count_size n)) h in
    let h2 = laid_right P (kind_place p) (args_place p) b (c ++ (d ++ e)) (omega (arith, length-spelled kind_size x.frame.kind)) h1 in
    let h3 = laid_right P (args_place p) (args_place p + n) c (d ++ e) refl h2 in
    let h4 = laid_right P (args_place p + n) (marker_place p n) d e (omega (arith, length_both x.live x.frame.answer x.frame.progress)) h3 in
    record {
      count_bytes = laid_left P p a (b ++ (c ++ (d ++ e))) h;
      kind = laid_left P (kind_place p) b (c ++ (d ++ e)) h1;
      args = laid_left P (args_place p) c (d ++ e) h2;
      pad = pad_written P (pad_place p n x.live) x.frame.answer x.frame.progress (live_written P p n x.live x.frame.answer x.frame.progress (laid_left P (args_place p + n) d e h3));
      marker = laid_first P (marker_place p n) (marker_byte x.live last) [] h4;
    }

pub frames_written : (P : ℕ → ℕ → Type 0) (reach i p : ℕ) (fs : List Located) (rest : List ℕ) → InRow reach i p fs → Laid P p (frames_bytes fs ++ rest) → FramesLaid P fs
frames_written P reach i p [] rest w h = tt
frames_written P reach i p (x ∷ xs) rest w h =
    let here = laid_left P p (frame_bytes x (is_top xs) ++ frames_bytes xs) rest h in
    let whole : Laid P p (frame_bytes x (is_top xs) ++ (frames_bytes xs ++ rest)) = subst (Laid P p) (append_assoc (frame_bytes x (is_top xs)) (frames_bytes xs) rest) h in (
      frame_written P x (is_top xs) (subst (λ q. Laid P q (frame_bytes x (is_top xs))) (sym w.0.first) (laid_left P p (frame_bytes x (is_top xs)) (frames_bytes xs) here)),
      frames_written P reach (suc i) (p + frame_size (count x)) xs rest w.1
          (laid_right P p (p + frame_size (count x)) (frame_bytes x (is_top xs)) (frames_bytes xs ++ rest) (omega (arith, length-frame_bytes x (is_top xs))) whole),
    )

pub region_written : (P : ℕ → ℕ → Type 0) (size : ℕ) (fs : List Located) (rest : List ℕ) → Stands size fs → Laid P 0 (region_bytes size fs rest) → RegionLaid P size fs
region_written P size fs rest s h =
    let after = laid_rest P version_at size_at version (spelled size_size size ++ (frames_bytes fs ++ rest)) refl h in
    record {
      version_byte = laid_first P version_at version (spelled size_size size ++ (frames_bytes fs ++ rest)) h;
      size_bytes = laid_left P size_at (spelled size_size size) (frames_bytes fs ++ rest) after;
      frames = frames_written P size 0 frames_at fs rest s.row (laid_right P size_at frames_at (spelled size_size size) (frames_bytes fs ++ rest) (omega (arith, length-spelled size_size size)) after);
    }

-- frames written out and read
pub read_back : (size : ℕ) (fs : List Located) (rest : List ℕ) → Stands size fs → length (region_bytes size fs rest) ≡ size → read (region_bytes size fs rest) ≡ Ok fs
read_back size fs rest s l =
    let bs : List ℕ = region_bytes size fs rest in
    spelled_read bs fs
    (record {
      stands = subst (λ n. Stands n fs) (sym l) s;
      laid = subst (λ n. RegionLaid (Found bs) n fs) (sym l) (region_written (Found bs) size fs rest s (λ i lt. let e : 0 + i ≡ i = omega arith in ap (λ k. get_or bs k 0) e));
    })
