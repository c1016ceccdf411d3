-- Reading finds exactly the frames that the places that count spell.
use Rattle.std.proofs.Common.{◌≡◌, ℕ, zero, suc, ◌+◌, ◌^◌, ◌<◌, ◌≤◌, Bool, true, false, ◌&&◌, eqb, ltb, leb, List, [], ◌∷◌, length, get_or, Some, None, Ok, Err, Option, Result, sym, refl, ap, ◌∙◌, subst, ⊎_elim, arith}
use Rattle.std.proofs.lemmas.List.{ext_get_or}
use Rattle.std.proofs.lemmas.Bool.{cases_Bool, and_from, and_parts, lt-ltb, le-leb, leb-true, ltb-true, eqb-true, eqb-false, eq-eqb, ne_eqb, false≢true}
use Rattle.model.specs.declared.faults.StackFault.{StackFault}
use Rattle.model.specs.declared.faults.StackFault.TheVariants.{BoardSize, Version, StoredSize, Damaged}
use Rattle.plain.specs.declared.Answer.{Answer}
use Rattle.plain.specs.declared.Progress.{Progress}
use Rattle.layout.specs.declared.marker.Pad.{Pad}
use Rattle.layout.specs.declared.marker.Pad.TheVariants.{Zero, One}
use Rattle.region.specs.Numbers.{number, spelled, part, Bytes}
use Rattle.layout.specs.Layout.{least_size, greatest_size, max_frames, max_args, version, version_at, size_at, size_size, frames_at, with_answer, answer_size, progress_size, answer_place, progress_place, count_size, kind_size, kind_place, args_place, pad_place, marker_place, frame_size, marker_byte, marker_limit, is_last, live_pad}
use Rattle.region.specs.Frames.{Located, count, Laid, PadLaid, FrameLaid, FramesLaid, kind_rule, AnswerFits, WellPlaced, InRow}
use Rattle.region.specs.Reading.{count_at, kind_at, marker_at, live_at, tag_at, answer_at, progress_at, undamaged, frame_at, before, frames_from, read, Found, Spells}
use Rattle.region.proofs.Numbers.{length-spelled, number-spelled, number_below, spelled-number, length-part, get_or-part, Bytes-part}

-- bytes that lie in the region are read
part_found : (bs : List ℕ) (p : ℕ) (cs : List ℕ) → Laid (Found bs) p cs → part bs p (length cs) ≡ cs
part_found bs p cs h =
    ext_get_or 0 (part bs p (length cs)) cs (length-part bs p (length cs))
    (λ i lt. let l : i < length cs = omega (arith, length-part bs p (length cs)) in get_or-part bs p (length cs) i l ∙ h i l)

number_found : (bs : List ℕ) (p k v : ℕ) → Laid (Found bs) p (spelled k v) → v < 256 ^ k → number (part bs p k) ≡ v
number_found bs p k v h lt =
    ap number (subst (λ n. part bs p n ≡ spelled k v) (length-spelled k v) (part_found bs p (spelled k v) h)) ∙ number-spelled k v lt

-- one pad
pub pad_found : (bs : List ℕ) (q : ℕ) (a : Option Answer) (v : Progress) → AnswerFits a → v.value < 256 ^ progress_size → PadLaid (Found bs) q a v
    → (leb (tag_at bs q) with_answer ≡ true) × (answer_at bs q ≡ a) × (progress_at bs q ≡ v)
pad_found bs q None v fits lt h =
    let n = number_found bs (progress_place q) progress_size v.value h.1 lt in (
      le-leb (tag_at bs q) with_answer (omega (arith, h.0)),
      rw (ne_eqb (tag_at bs q) with_answer (λ e. omega (arith, h.0))),
      (λ i. record { value = n i }),
    )
pad_found bs q (Some a) v fits lt h =
    let n = number_found bs (progress_place q) progress_size v.value h.1.1 lt in
    let m = number_found bs (answer_place q) answer_size a.value h.1.0 fits in (
      le-leb (tag_at bs q) with_answer (omega (arith, h.0)),
      rw (eq-eqb (tag_at bs q) with_answer h.0) (λ i. Some (record { value = m i })),
      (λ i. record { value = n i }),
    )

-- marker_limit
live_of : (d : Pad) (l : Bool) → live_pad (marker_byte d l) ≡ d
live_of Zero false = refl
live_of Zero true = refl
live_of One false = refl
live_of One true = refl

last_of : (d : Pad) (l : Bool) → is_last (marker_byte d l) ≡ l
last_of Zero false = refl
last_of Zero true = refl
last_of One false = refl
last_of One true = refl

marker_below : (d : Pad) (l : Bool) → ltb (marker_byte d l) marker_limit ≡ true
marker_below Zero false = refl
marker_below Zero true = refl
marker_below One false = refl
marker_below One true = refl

few_args : (i kind n : ℕ) → kind_rule i kind n ≡ true → n ≤ max_args
few_args zero kind n e = let z = eqb-true n 0 (and_parts (eqb kind 0) (eqb n 0) e).1 in omega arith
few_args (suc i) kind n e = leb-true n max_args (and_parts (ltb 0 kind) (leb n max_args) e).1

-- one frame
pub record FrameFound (reach : ℕ) (bs : List ℕ) (i : ℕ) (x : Located) (last : Bool) : Type 0 where
  pub sound : undamaged reach bs i x.first ≡ true
  pub ends : is_last (marker_at bs x.first) ≡ last
  pub same : frame_at bs x.first ≡ x
  pub width : count_at bs x.first ≡ count x

pub frame_found : (reach : ℕ) (bs : List ℕ) (i p : ℕ) (x : Located) (last : Bool) → i < max_frames → WellPlaced reach i p x → FrameLaid (Found bs) x last → FrameFound reach bs i x last
frame_found reach bs i p x last few w h =
    let f : ℕ = x.first in
    let n : count_at bs f ≡ count x = number_found bs f count_size (count x) h.count_bytes (omega (arith, few_args i x.frame.kind (count x) w.rule)) in
    let kind : kind_at bs f ≡ x.frame.kind = number_found bs (kind_place f) kind_size x.frame.kind h.kind w.kind in
    let marker : marker_at bs f ≡ marker_byte x.live last = ap (λ k. get_or bs (marker_place f k) 0) n ∙ h.marker in
    let live : live_pad (marker_at bs f) ≡ x.live = ap live_pad marker ∙ live_of x.live last in
    let pad : live_at bs f ≡ pad_place f (count x) x.live = (λ j. pad_place f (n j) (live j)) in
    let found = pad_found bs (pad_place f (count x) x.live) x.frame.answer x.frame.progress w.answer w.progress h.pad in
    let args : part bs (args_place f) (count_at bs f) ≡ x.frame.args = ap (part bs (args_place f)) n ∙ part_found bs (args_place f) x.frame.args h.args in
    let answer : answer_at bs (live_at bs f) ≡ x.frame.answer = ap (answer_at bs) pad ∙ found.1 in
    let progress : progress_at bs (live_at bs f) ≡ x.frame.progress = ap (progress_at bs) pad ∙ found.2 in
    let room : f + frame_size (count_at bs f) ≤ reach = omega (arith, n, w.first, w.ends) in
    let rule : kind_rule i (kind_at bs f) (count_at bs f) ≡ true = (λ j. kind_rule i (kind j) (n j)) ∙ w.rule in
    let tag : leb (tag_at bs (live_at bs f)) with_answer ≡ true = ap (λ q. leb (tag_at bs q) with_answer) pad ∙ found.0 in
    record {
      sound =
          and_from (ltb i max_frames) _ (lt-ltb i max_frames few)
          (and_from (leb (f + frame_size (count_at bs f)) reach) _ (le-leb (f + frame_size (count_at bs f)) reach room)
          (and_from (kind_rule i (kind_at bs f) (count_at bs f)) _ rule
          (and_from (ltb (marker_at bs f) marker_limit) _ (ap (λ b. ltb b marker_limit) marker ∙ marker_below x.live last) tag)));
      ends = ap is_last marker ∙ last_of x.live last;
      same = (λ j. record { first = f; live = live j; frame = record { kind = kind j; args = args j; progress = progress j; answer = answer j } });
      width = n;
    }

pub frames_found : (k reach : ℕ) (bs : List ℕ) (i p : ℕ) (fs : List Located) → 0 < length fs → length fs ≤ k → i + length fs ≤ max_frames → InRow reach i p fs → FramesLaid (Found bs) fs → frames_from k reach bs i p ≡ Ok fs
frames_found k reach bs i p [] some few all w h = absurd (omega arith)
frames_found zero reach bs i p (x ∷ xs) some few all w h = absurd (omega arith)
frames_found (suc k) reach bs i p (x ∷ []) some few all w h =
    let found = frame_found reach bs i p x true (omega arith) w.0 h.0 in
    subst (λ q. frames_from (suc k) reach bs i q ≡ Ok (x ∷ [])) w.0.first
    (rw (found.sound, found.ends, found.same))
frames_found (suc k) reach bs i p (x ∷ y ∷ ys) some few all w h =
    let found = frame_found reach bs i p x false (omega arith) w.0 h.0 in
    let q : x.first + frame_size (count_at bs x.first) ≡ p + frame_size (count x) = omega (arith, w.0.first, found.width) in
    let rest : frames_from k reach bs (suc i) (x.first + frame_size (count_at bs x.first)) ≡ Ok (y ∷ ys) =
    ap (frames_from k reach bs (suc i)) q ∙ frames_found k reach bs (suc i) (p + frame_size (count x)) (y ∷ ys) (omega arith) (omega arith) (omega arith) w.1 h.1 in
    subst (λ r. frames_from (suc k) reach bs i r ≡ Ok (x ∷ y ∷ ys)) w.0.first
    (rw (found.sound, found.ends, found.same, rest))

pub size_test : (n : ℕ) → least_size ≤ n → n ≤ greatest_size → (leb least_size n && leb n greatest_size) ≡ true
size_test n l u = and_from (leb least_size n) (leb n greatest_size) (le-leb least_size n l) (le-leb n greatest_size u)

-- what the places that count spell is read
pub spelled_read : (bs : List ℕ) (fs : List Located) → Spells bs fs → read bs ≡ Ok fs
spelled_read bs fs s =
    let size = number_found bs size_at size_size (length bs) s.laid.size_bytes (omega (arith, s.stands.size_allowed.1)) in
    rw (size_test (length bs) s.stands.size_allowed.0 s.stands.size_allowed.1, eq-eqb (get_or bs version_at 0) version s.laid.version_byte, eq-eqb (number (part bs size_at size_size)) (length bs) size)
    (frames_found max_frames (length bs) bs 0 frames_at fs s.stands.some s.stands.few (omega (arith, s.stands.few)) s.stands.row s.laid.frames)

-- The other way: what is read is spelled.
part_laid : (bs : List ℕ) (p k : ℕ) → Laid (Found bs) p (part bs p k)
part_laid bs p k i lt = sym (get_or-part bs p k i (omega (arith, lt, length-part bs p k)))

number_laid : (bs : List ℕ) (p k : ℕ) → Bytes bs → Laid (Found bs) p (spelled k (number (part bs p k)))
number_laid bs p k h = subst (Laid (Found bs) p) (sym (spelled-number k (part bs p k) (Bytes-part bs p k h) (length-part bs p k))) (part_laid bs p k)

number_fits : (bs : List ℕ) (p k : ℕ) → Bytes bs → number (part bs p k) < 256 ^ k
number_fits bs p k h = subst (λ n. number (part bs p k) < 256 ^ n) (length-part bs p k) (number_below (part bs p k) (Bytes-part bs p k h))

pad_laid : (bs : List ℕ) (q : ℕ) → Bytes bs → tag_at bs q ≤ with_answer → PadLaid (Found bs) q (answer_at bs q) (progress_at bs q) × AnswerFits (answer_at bs q)
pad_laid bs q h le =
    ⊎_elim
    (λ e. let t = eqb-true (tag_at bs q) with_answer e in
    subst (λ a. PadLaid (Found bs) q a (progress_at bs q) × AnswerFits a) (sym (with_one e))
    ((t, (number_laid bs (answer_place q) answer_size h, number_laid bs (progress_place q) progress_size h)), number_fits bs (answer_place q) answer_size h))
    (λ e. let z : tag_at bs q ≡ 0 = ⊎_elim (λ o. absurd (false≢true (sym e ∙ o))) (λ o. omega (arith, le, eqb-false (tag_at bs q) with_answer o)) (cases_Bool (eqb (tag_at bs q) with_answer)) in
    subst (λ a. PadLaid (Found bs) q a (progress_at bs q) × AnswerFits a) (sym (with_none e))
    ((z, number_laid bs (progress_place q) progress_size h), tt))
    (cases_Bool (eqb (tag_at bs q) with_answer))
  where
    with_one : eqb (tag_at bs q) with_answer ≡ true → answer_at bs q ≡ Some (record { value = number (part bs (answer_place q) answer_size) })
    with_one e = rw e refl

    with_none : eqb (tag_at bs q) with_answer ≡ false → answer_at bs q ≡ None
    with_none e = rw e refl

marker_again : (m : ℕ) → m < marker_limit → m ≡ marker_byte (live_pad m) (is_last m)
marker_again zero lt = refl
marker_again (suc zero) lt = refl
marker_again (suc (suc zero)) lt = refl
marker_again (suc (suc (suc zero))) lt = refl
marker_again (suc (suc (suc (suc m)))) lt = absurd (omega arith)

pub frame_read : (reach : ℕ) (bs : List ℕ) (i p : ℕ) → Bytes bs → undamaged reach bs i p ≡ true → WellPlaced reach i p (frame_at bs p) × FrameLaid (Found bs) (frame_at bs p) (is_last (marker_at bs p))
frame_read reach bs i p h e =
    let a = and_parts (ltb i max_frames) _ e in
    let b = and_parts (leb (p + frame_size (count_at bs p)) reach) _ a.1 in
    let c = and_parts (kind_rule i (kind_at bs p) (count_at bs p)) _ b.1 in
    let d = and_parts (ltb (marker_at bs p) marker_limit) _ c.1 in
    let n : length (part bs (args_place p) (count_at bs p)) ≡ count_at bs p = length-part bs (args_place p) (count_at bs p) in
    let pad = pad_laid bs (live_at bs p) h (leb-true (tag_at bs (live_at bs p)) with_answer d.1) in (
      record {
        first = refl;
        ends = subst (λ k. p + frame_size k ≤ reach) (sym n) (leb-true (p + frame_size (count_at bs p)) reach b.0);
        rule = subst (λ k. kind_rule i (kind_at bs p) k ≡ true) (sym n) c.0;
        kind = number_fits bs (kind_place p) kind_size h;
        args = Bytes-part bs (args_place p) (count_at bs p) h;
        progress = number_fits bs (progress_place (live_at bs p)) progress_size h;
        answer = pad.1;
      },
      record {
        count_bytes = subst (λ k. Laid (Found bs) p (spelled count_size k)) (sym n) (number_laid bs p count_size h);
        kind = number_laid bs (kind_place p) kind_size h;
        args = part_laid bs (args_place p) (count_at bs p);
        pad = subst (λ k. PadLaid (Found bs) (pad_place p k (live_pad (marker_at bs p))) (answer_at bs (live_at bs p)) (progress_at bs (live_at bs p))) (sym n) pad.0;
        marker = subst (λ k. get_or bs (marker_place p k) 0 ≡ marker_byte (live_pad (marker_at bs p)) (is_last (marker_at bs p))) (sym n) (marker_again (marker_at bs p) (ltb-true (marker_at bs p) marker_limit d.0));
      },
    )

pub record RowRead (k reach : ℕ) (bs : List ℕ) (i p : ℕ) (fs : List Located) : Type 0 where
  pub some : 0 < length fs
  pub few : length fs ≤ k
  pub row : InRow reach i p fs
  pub laid : FramesLaid (Found bs) fs

row_one : (k reach : ℕ) (bs : List ℕ) (i p : ℕ) → Bytes bs → undamaged reach bs i p ≡ true → is_last (marker_at bs p) ≡ true → RowRead (suc k) reach bs i p (frame_at bs p ∷ [])
row_one k reach bs i p h e l =
    let f = frame_read reach bs i p h e in
    record { some = omega arith; few = omega arith; row = (f.0, tt); laid = (subst (FrameLaid (Found bs) (frame_at bs p)) l f.1, tt) }

row_more : (k reach : ℕ) (bs : List ℕ) (i p : ℕ) (fs : List Located) → Bytes bs → undamaged reach bs i p ≡ true → is_last (marker_at bs p) ≡ false
    → RowRead k reach bs (suc i) (p + frame_size (count_at bs p)) fs → RowRead (suc k) reach bs i p (frame_at bs p ∷ fs)
row_more k reach bs i p [] h e l r = absurd (omega (arith, r.some))
row_more k reach bs i p (y ∷ ys) h e l r =
    let f = frame_read reach bs i p h e in
    let n : count_at bs p ≡ count (frame_at bs p) = sym (length-part bs (args_place p) (count_at bs p)) in
    record {
      some = omega arith;
      few = omega (arith, r.few);
      row = (f.0, subst (λ k. InRow reach (suc i) (p + frame_size k) (y ∷ ys)) n r.row);
      laid = (subst (FrameLaid (Found bs) (frame_at bs p)) l f.1, r.laid);
    }

-- a result that is Ok is not Err
not_both : {fs : List Located} {e : StackFault} → Err e ≡ Ok fs → ⊥
not_both q = let z : ◌≡◌ {A = ℕ} 0 1 = cc in omega arith

ok_same : {fs gs : List Located} → ◌≡◌ {A = Result (List Located) StackFault} (Ok gs) (Ok fs) → gs ≡ fs
ok_same q = cc

next_of : (x : Located) (r : Result (List Located) StackFault) (fs : List Located) → before x r ≡ Ok fs → (gs : List Located) × (r ≡ Ok gs) × (x ∷ gs ≡ fs)
next_of x (Ok gs) fs q = (gs, refl, ok_same q)
next_of x (Err e) fs q = absurd (not_both q)

pub frames_read : (k reach : ℕ) (bs : List ℕ) (i p : ℕ) (fs : List Located) → Bytes bs → frames_from k reach bs i p ≡ Ok fs → RowRead k reach bs i p fs
frames_read zero reach bs i p fs h q = absurd (not_both q)
frames_read (suc k) reach bs i p fs h q =
    ⊎_elim
    (λ e. ⊎_elim
    (λ l. subst (RowRead (suc k) reach bs i p) (ok_same (sym (as_last e l) ∙ q)) (row_one k reach bs i p h e l))
    (λ l. let more = next_of (frame_at bs p) _ fs (sym (as_more e l) ∙ q) in
    subst (RowRead (suc k) reach bs i p) more.2
    (row_more k reach bs i p more.0 h e l (frames_read k reach bs (suc i) (p + frame_size (count_at bs p)) more.0 h more.1)))
    (cases_Bool (is_last (marker_at bs p))))
    (λ e. absurd (not_both (sym (as_damaged e) ∙ q)))
    (cases_Bool (undamaged reach bs i p))
  where
    as_damaged : undamaged reach bs i p ≡ false → frames_from (suc k) reach bs i p ≡ Err (Damaged p)
    as_damaged e = rw e refl

    as_last : undamaged reach bs i p ≡ true → is_last (marker_at bs p) ≡ true → frames_from (suc k) reach bs i p ≡ Ok (frame_at bs p ∷ [])
    as_last e l = rw (e, l) refl

    as_more : undamaged reach bs i p ≡ true → is_last (marker_at bs p) ≡ false → frames_from (suc k) reach bs i p ≡ before (frame_at bs p) (frames_from k reach bs (suc i) (p + frame_size (count_at bs p)))
    as_more e l = rw (e, l) refl

-- the tests of the header, each passed
pub read_spelled : (bs : List ℕ) (fs : List Located) → Bytes bs → read bs ≡ Ok fs → Spells bs fs
read_spelled bs fs h q =
    ⊎_elim
    (λ a. ⊎_elim
    (λ b. ⊎_elim
    (λ c. spells a b c (frames_read max_frames (length bs) bs 0 frames_at fs h (sym (as_frames a b c) ∙ q)))
    (λ c. absurd (not_both (sym (as_stored a b c) ∙ q)))
    (cases_Bool (eqb (number (part bs size_at size_size)) (length bs))))
    (λ b. absurd (not_both (sym (as_version a b) ∙ q)))
    (cases_Bool (eqb (get_or bs version_at 0) version)))
    (λ a. absurd (not_both (sym (as_size a) ∙ q)))
    (cases_Bool (leb least_size (length bs) && leb (length bs) greatest_size))
  where
    Sized : Bool → Type 0
    Sized t = (leb least_size (length bs) && leb (length bs) greatest_size) ≡ t

    Versioned : Bool → Type 0
    Versioned t = eqb (get_or bs version_at 0) version ≡ t

    Stored : Bool → Type 0
    Stored t = eqb (number (part bs size_at size_size)) (length bs) ≡ t

    as_size : Sized false → read bs ≡ Err BoardSize
    as_size a = rw a refl

    as_version : Sized true → Versioned false → read bs ≡ Err Version
    as_version a b = rw (a, b) refl

    as_stored : Sized true → Versioned true → Stored false → read bs ≡ Err StoredSize
    as_stored a b c = rw (a, b, c) refl

    as_frames : Sized true → Versioned true → Stored true → read bs ≡ frames_from max_frames (length bs) bs 0 frames_at
    as_frames a b c = rw (a, b, c) refl

    spells : Sized true → Versioned true → Stored true → RowRead max_frames (length bs) bs 0 frames_at fs → Spells bs fs
    spells a b c r =
        let limits = and_parts (leb least_size (length bs)) (leb (length bs) greatest_size) a in
        let size : number (part bs size_at size_size) ≡ length bs = eqb-true (number (part bs size_at size_size)) (length bs) c in
        record {
          stands =
              record {
                size_allowed = (leb-true least_size (length bs) limits.0, leb-true (length bs) greatest_size limits.1);
                some = r.some;
                few = r.few;
                row = r.row;
              };
          laid =
              record {
                version_byte = eqb-true (get_or bs version_at 0) version b;
                size_bytes = subst (λ n. Laid (Found bs) size_at (spelled size_size n)) size (number_laid bs size_at size_size h);
                frames = r.laid;
              };
        }
