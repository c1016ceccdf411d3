-- A change's plan and the places that count: round one stores at none of them, and round two makes the new frames of the old ones.
use Rattle.std.proofs.Common.{◌≡◌, ℕ, suc, ◌+◌, ◌^◌, ◌<◌, ◌≤◌, Bool, true, false, ltb, leb, List, [], ◌∷◌, length, Some, None, Option, sym, refl, ap, ◌∙◌, subst, arith}
use Rattle.std.proofs.lemmas.Bool.{and_from, lt-ltb, le-leb, false≢true}
use Rattle.model.specs.Laws.{Outside}
use Rattle.plain.specs.Frames.{Frame, noted, answered, called, with_top, without_top, above_bottom, Change, call, note, give, does}
use Rattle.plain.specs.declared.Answer.{Answer}
use Rattle.plain.specs.declared.Progress.{Progress}
use Rattle.layout.specs.declared.marker.Pad.{Pad}
use Rattle.layout.specs.declared.marker.Pad.TheVariants.{Zero, One}
use Rattle.region.specs.Numbers.{Bytes}
use Rattle.layout.specs.Layout.{max_frames, max_args, frames_at, answer_size, progress_size, count_size, kind_size, pad_place, marker_place, frame_size, marker_byte, other}
use Rattle.region.specs.Frames.{Located, count, end, plain, Laid, FrameLaid, is_top, FramesLaid, AnswerFits, WellPlaced, InRow, Stands}
use Rattle.region.specs.Plans.{Plan, turn, turned, above, push, at_top, plan, extended, after, MayCall, Allowed}
use Rattle.region.proofs.Numbers.{length-spelled}
use Rattle.region.proofs.Frames.{pad_zip, frame_zip, frames_zip, pad_within, pad_low, pad_high, frame_inside, frame_idle, frames_inside}
use Rattle.region.proofs.Writing.{length-pad_bytes, length-frame_bytes, pad_written, frame_written}

-- frames fs from place p on, above i others, become gs by this plan
pub record Local (reach i p : ℕ) (fs gs : List Located) (pl : Plan) : Type 1 where
  -- no place that counts lies in round one
  pub idle : FramesLaid (λ q b. Outside pl.at (length pl.bytes) q) fs
  -- the marker's place counts, with another byte than the new one
  pub old : ℕ
  pub marked : (P : ℕ → ℕ → Type 0) → FramesLaid P fs → P pl.mark old
  pub moves : old ≡ pl.byte → ⊥
  -- the bytes that count after it are those of round one, of round two, and some that counted before
  pub follows : (P : ℕ → ℕ → Type 0) → Laid P pl.at pl.bytes → P pl.mark pl.byte → FramesLaid (λ q b. (q ≡ pl.mark → ⊥) → P q b) fs → FramesLaid P gs
  pub row : InRow reach i p gs
  -- it stores at no place before p
  pub low : p ≤ pl.at
  pub mark_low : p ≤ pl.mark
  pub room : pl.at + length pl.bytes ≤ reach
  pub tops : is_top fs ≡ is_top gs

deeper : (reach i p : ℕ) (x : Located) (fs gs : List Located) (pl : Plan) → WellPlaced reach i p x → Local reach (suc i) (p + frame_size (count x)) fs gs pl → Local reach i p (x ∷ fs) (x ∷ gs) pl
deeper reach i p x fs gs pl w l =
    let here = frame_inside x (is_top fs) in
    record {
      idle = (frame_zip (λ q b g h low high. omega (arith, g.1, w.first, l.low)) x (is_top fs) here here, l.idle);
      old = l.old;
      marked = λ P h. l.marked P h.1;
      moves = l.moves;
      follows = λ P z m h. (
        subst (FrameLaid P x) l.tops (frame_zip (λ q b g k. k (λ e. omega (arith, g.1, w.first, l.mark_low))) x (is_top fs) here h.0),
        l.follows P z m h.1,
      );
      row = (w, l.row);
      low = omega (arith, l.low);
      mark_low = omega (arith, l.mark_low);
      room = l.room;
      tops = refl;
    }

-- a turned frame, whatever stood above it
turn_moves : (d : Pad) (last : Bool) → marker_byte d last ≡ marker_byte (other d) true → ⊥
turn_moves Zero false e = omega arith
turn_moves Zero true e = omega arith
turn_moves One false e = omega arith
turn_moves One true e = omega arith

turn_local : (reach i p : ℕ) (a : Option Answer) (v : Progress) (x : Located) (ts : List Located) → AnswerFits a → v.value < 256 ^ progress_size → InRow reach i p (x ∷ ts)
    → Local reach i p (x ∷ ts) (turned a v x ∷ []) (turn a v x)
turn_local reach i p a v x ts fits lt s =
    let d : Pad = other x.live in
    let f : ℕ = x.first in
    let n : ℕ = count x in
    let upper = frames_inside reach (suc i) (p + frame_size n) ts s.1 in
    record {
      idle = (
        subst (λ k. FrameLaid (λ q b. Outside (pad_place f n d) k q) x (is_top ts)) (sym (length-pad_bytes a v)) (frame_idle x (is_top ts)),
        frames_zip (λ q b g h low high. omega (arith, g.0, s.0.first, pad_high f n d, length-pad_bytes a v)) ts upper upper,
      );
      old = marker_byte x.live (is_top ts);
      marked = λ P h. h.0.marker;
      moves = turn_moves x.live (is_top ts);
      follows = λ P z m h. (
        record {
          count_bytes = λ j lt. h.0.count_bytes j lt (λ e. omega (arith, lt, length-spelled count_size n));
          kind = λ j lt. h.0.kind j lt (λ e. omega (arith, lt, length-spelled kind_size x.frame.kind));
          args = λ j lt. h.0.args j lt (λ e. omega (arith, lt));
          pad = pad_written P (pad_place f n d) a v z;
          marker = m;
        },
        tt,
      );
      row = (
        record {
          first = s.0.first;
          ends = s.0.ends;
          rule = s.0.rule;
          kind = s.0.kind;
          args = s.0.args;
          progress = lt;
          answer = fits;
        },
        tt,
      );
      low = omega (arith, s.0.first, pad_low f n d);
      mark_low = omega (arith, s.0.first);
      room = omega (arith, s.0.first, s.0.ends, pad_high f n d, length-pad_bytes a v);
      tops = refl;
    }

-- a fresh frame above the top
push_moves : (d : Pad) → marker_byte d true ≡ marker_byte d false → ⊥
push_moves Zero e = omega arith
push_moves One e = omega arith

push_local : (reach i p kind : ℕ) (args : List ℕ) (x : Located) → 0 < kind → kind < 256 ^ kind_size → length args ≤ max_args → Bytes args → end x + frame_size (length args) ≤ reach → WellPlaced reach i p x
    → Local reach i p (x ∷ []) (x ∷ above kind args x ∷ []) (push kind args x)
push_local reach i p kind args x some fits few bytes room w =
    let f : ℕ = x.first in
    let n : ℕ = count x in
    let here = frame_inside x true in
    let live : ℕ = pad_place f n x.live in
    let apart = pad_within (λ q. q < marker_place f n) live x.frame.answer x.frame.progress (λ q l u. omega (arith, l, u, pad_high f n x.live)) in
    record {
      idle = (frame_zip (λ q b g h low high. omega (arith, g.1)) x true here here, tt);
      old = marker_byte x.live true;
      marked = λ P h. h.0.marker;
      moves = push_moves x.live;
      follows = λ P z m h. (
        record {
          count_bytes = λ j lt. h.0.count_bytes j lt (λ e. omega (arith, lt, length-spelled count_size n));
          kind = λ j lt. h.0.kind j lt (λ e. omega (arith, lt, length-spelled kind_size x.frame.kind));
          args = λ j lt. h.0.args j lt (λ e. omega (arith, lt));
          pad = pad_zip {P = λ q b. q < marker_place f n} {Q = λ q b. (q ≡ marker_place f n → ⊥) → P q b} {R = P} (λ q b g k. k (λ e. omega (arith, g, e))) live x.frame.answer x.frame.progress apart h.0.pad;
          marker = m;
        },
        (frame_written P (above kind args x) true z, tt),
      );
      row = (
        w,
        (
          record {
            first = ap (λ q. q + frame_size n) w.first;
            ends = omega (arith, w.first, room);
            rule = and_from (ltb 0 kind) (leb (length args) max_args) (lt-ltb 0 kind some) (le-leb (length args) max_args few);
            kind = fits;
            args = bytes;
            progress = omega arith;
            answer = tt;
          },
          tt,
        ),
      );
      low = omega (arith, w.first);
      mark_low = omega (arith, w.first);
      room = omega (arith, room, length-frame_bytes (above kind args x) true);
      tops = refl;
    }

-- each change, at the top or below it
note_local : (reach i p : ℕ) (v : Progress) (fs : List Located) → 0 < length fs → v.value < 256 ^ progress_size → InRow reach i p fs → Local reach i p fs (with_top (turned None v) fs) (at_top (turn None v) fs)
note_local reach i p v [] some lt s = absurd (omega arith)
note_local reach i p v (x ∷ []) some lt s = turn_local reach i p None v x [] tt lt s
note_local reach i p v (x ∷ y ∷ ys) some lt s =
    deeper reach i p x (y ∷ ys) (with_top (turned None v) (y ∷ ys)) (at_top (turn None v) (y ∷ ys)) s.0
    (note_local reach (suc i) (p + frame_size (count x)) v (y ∷ ys) (omega arith) lt s.1)

abbrev given : Answer → Located → Located
given a x = turned (Some a) x.frame.progress x

abbrev giving : Answer → Located → Plan
giving a x = turn (Some a) x.frame.progress x

give_local : (reach i p : ℕ) (a : Answer) (fs : List Located) → above_bottom (plain fs) ≡ true → a.value < 256 ^ answer_size → InRow reach i p fs
    → Local reach i p fs (with_top (given a) (without_top fs)) (at_top (giving a) (without_top fs))
give_local reach i p a [] two lt s = absurd (false≢true two)
give_local reach i p a (x ∷ []) two lt s = absurd (false≢true two)
give_local reach i p a (x ∷ y ∷ []) two lt s = turn_local reach i p (Some a) x.frame.progress x (y ∷ []) lt s.0.progress s
give_local reach i p a (x ∷ y ∷ z ∷ zs) two lt s =
    deeper reach i p x (y ∷ z ∷ zs) (with_top (given a) (without_top (y ∷ z ∷ zs))) (at_top (giving a) (without_top (y ∷ z ∷ zs))) s.0
    (give_local reach (suc i) (p + frame_size (count x)) a (y ∷ z ∷ zs) refl lt s.1)

call_local : (reach i p kind : ℕ) (args : List ℕ) (fs : List Located) → 0 < length fs → MayCall reach kind args fs → InRow reach i p fs → Local reach i p fs (extended kind args fs) (at_top (push kind args) fs)
call_local reach i p kind args [] some c s = absurd (omega arith)
call_local reach i p kind args (x ∷ []) some c s = push_local reach i p kind args x c.kind_some c.kind_fits c.args_few c.args_bytes c.room s.0
call_local reach i p kind args (x ∷ y ∷ ys) some c s =
    deeper reach i p x (y ∷ ys) (extended kind args (y ∷ ys)) (at_top (push kind args) (y ∷ ys)) s.0
    (call_local reach (suc i) (p + frame_size (count x)) kind args (y ∷ ys) (omega arith) upper s.1)
  where
    upper : MayCall reach kind args (y ∷ ys)
    upper =
        record {
          kind_some = c.kind_some;
          kind_fits = c.kind_fits;
          args_few = c.args_few;
          args_bytes = c.args_bytes;
          frames_few = omega (arith, c.frames_few);
          room = c.room;
        }

pub local : (size : ℕ) (c : Change) (fs : List Located) → Stands size fs → Allowed size c fs → Local size 0 frames_at fs (after c fs) (plan c fs)
local size (call kind args) fs s a = call_local size 0 frames_at kind args fs s.some a s.row
local size (note v) fs s a = note_local size 0 frames_at v fs s.some a s.row
local size (give v) fs s a = give_local size 0 frames_at v fs a.1 a.0 s.row

-- how many frames stand
length-with_top : (f : Located → Located) (fs : List Located) → length (with_top f fs) ≡ length fs
length-with_top f [] = refl
length-with_top f (x ∷ []) = refl
length-with_top f (x ∷ y ∷ ys) = ap suc (length-with_top f (y ∷ ys))

length_without : (fs : List Located) → above_bottom (plain fs) ≡ true → suc (length (without_top fs)) ≡ length fs
length_without [] two = absurd (false≢true two)
length_without (x ∷ []) two = absurd (false≢true two)
length_without (x ∷ y ∷ []) two = refl
length_without (x ∷ y ∷ z ∷ zs) two = ap suc (length_without (y ∷ z ∷ zs) refl)

two_frames : (fs : List Located) → above_bottom (plain fs) ≡ true → 1 < length fs
two_frames [] two = absurd (false≢true two)
two_frames (x ∷ []) two = absurd (false≢true two)
two_frames (x ∷ y ∷ ys) two = omega arith

length-extended : (kind : ℕ) (args : List ℕ) (fs : List Located) → 0 < length fs → length (extended kind args fs) ≡ suc (length fs)
length-extended kind args [] some = absurd (omega arith)
length-extended kind args (x ∷ []) some = refl
length-extended kind args (x ∷ y ∷ ys) some = ap suc (length-extended kind args (y ∷ ys) (omega arith))

after_count : (size : ℕ) (c : Change) (fs : List Located) → Stands size fs → Allowed size c fs → (0 < length (after c fs)) × (length (after c fs) ≤ max_frames)
after_count size (call kind args) fs s a = let l = length-extended kind args fs s.some in (omega arith, omega (arith, a.frames_few))
after_count size (note v) fs s a = let l = length-with_top (turned None v) fs in (omega (arith, s.some), omega (arith, s.few))
after_count size (give v) fs s a =
    let l = length-with_top (given v) (without_top fs) in
    let k = length_without fs a.1 in
    (omega (arith, two_frames fs a.1), omega (arith, s.few))

pub after_stands : (size : ℕ) (c : Change) (fs : List Located) → Stands size fs → Allowed size c fs → Stands size (after c fs)
after_stands size c fs s a =
    let counted = after_count size c fs s a in
    record { size_allowed = s.size_allowed; some = counted.0; few = counted.1; row = (local size c fs s a).row }

-- a change's effect on the plain stack
plain-with_top : (f : Located → Located) (g : Frame → Frame) → ((x : Located) → (f x).frame ≡ g x.frame) → (fs : List Located) → plain (with_top f fs) ≡ with_top g (plain fs)
plain-with_top f g e [] = refl
plain-with_top f g e (x ∷ []) = ap (λ y. y ∷ []) (e x)
plain-with_top f g e (x ∷ y ∷ ys) = ap (λ zs. x.frame ∷ zs) (plain-with_top f g e (y ∷ ys))

plain-without_top : (fs : List Located) → plain (without_top fs) ≡ without_top (plain fs)
plain-without_top [] = refl
plain-without_top (x ∷ []) = refl
plain-without_top (x ∷ y ∷ ys) = ap (λ zs. x.frame ∷ zs) (plain-without_top (y ∷ ys))

plain-extended : (kind : ℕ) (args : List ℕ) (fs : List Located) → 0 < length fs → plain (extended kind args fs) ≡ called kind args (plain fs)
plain-extended kind args [] some = absurd (omega arith)
plain-extended kind args (x ∷ []) some = refl
plain-extended kind args (x ∷ y ∷ ys) some = ap (λ zs. x.frame ∷ zs) (plain-extended kind args (y ∷ ys) (omega arith))

pub plain-after : (size : ℕ) (c : Change) (fs : List Located) → Stands size fs → Allowed size c fs → plain (after c fs) ≡ does c (plain fs)
plain-after size (call kind args) fs s a = plain-extended kind args fs s.some
plain-after size (note v) fs s a = plain-with_top (turned None v) (noted v) (λ x. refl) fs
plain-after size (give v) fs s a =
    rw a.1 (plain-with_top (given v) (answered v) (λ x. refl) (without_top fs) ∙ ap (with_top (answered v)) (plain-without_top fs))
