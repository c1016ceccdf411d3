-- A change's effect on a list of bytes, and which bytes do not matter.
use Rattle.std.proofs.Common.{◌≡◌, ℕ, suc, ◌+◌, ◌<◌, ◌≤◌, true, false, List, [], ◌∷◌, length, get_or, sym, ap, ◌∙◌, subst, inl, inr, ⊎_elim, arith}
use Rattle.model.specs.Rounds.{overwritten}
use Rattle.model.specs.Laws.{Outside}
use Rattle.layout.specs.Layout.{version_at, size_at, size_size, frames_at, frame_size, other}
use Rattle.region.specs.Frames.{Located, count, Laid, FramesLaid, RegionLaid, InRow, Stands}
use Rattle.region.specs.Reading.{Found, Spells}
use Rattle.region.specs.Writing.{pad_bytes}
use Rattle.region.specs.Plans.{Plan, plan, after, stack_end}
use Rattle.region.specs.Laws.{PadBack, ReadsExactly, Effect, both_rounds, InIdlePad, FramesAloneCount}
use Rattle.region.proofs.Numbers.{length-spelled}
use Rattle.region.proofs.Frames.{frame_zip, frames_zip, region_zip, frame_inside, frame_idle, frames_inside, region_inside, pad_low, pad_high}
use Rattle.region.proofs.Overwritten.{over_length, over_outside, over_inside}
use Rattle.region.proofs.Reading.{pad_found, spelled_read, read_spelled}
use Rattle.region.proofs.Writing.{pad_written}
use Rattle.region.proofs.Plans.{Local, local, after_stands, plain-after}
use Rattle.region.proofs.Changes.{region_idle, region_follows, mark_apart}

pub reads_exactly : ReadsExactly
reads_exactly bs fs = (read_spelled bs fs, spelled_read bs fs)

pub pad_back : PadBack
pad_back a p fits lt =
    let bs : List ℕ = pad_bytes a p in
    let found = pad_found bs 0 a p fits lt (pad_written (Found bs) 0 a p (λ i l. let e : 0 + i ≡ i = omega arith in ap (λ k. get_or bs k 0) e)) in
    (found.1, found.2)

pub effect : Effect
effect bs fs c s a = (spelled_read cs (after c fs) spells, plain-after (length bs) c fs s.stands a)
  where
    pl : Plan
    pl = plan c fs

    one : List ℕ
    one = overwritten bs pl.at pl.bytes

    cs : List ℕ
    cs = both_rounds pl bs

    spells : Spells cs (after c fs)
    spells =
        record {
          stands = subst (λ k. Stands k (after c fs)) (sym same) (after_stands (length bs) c fs s.stands a);
          laid = subst (λ k. RegionLaid (Found cs) k (after c fs)) (sym same) (region_follows (length bs) fs (after c fs) pl l (Found cs) new marker (region_zip kept (length bs) fs (region_idle (length bs) fs (after c fs) pl l) s.laid));
        }
      where
        same : length cs ≡ length bs
        same = over_length one pl.mark (pl.byte ∷ []) ∙ over_length bs pl.at pl.bytes

        l : Local (length bs) 0 frames_at fs (after c fs) pl
        l = local (length bs) c fs s.stands a

        mark_inside : pl.mark < length bs
        mark_inside = l.marked (λ q b. q < length bs) (region_inside (length bs) fs s.stands).frames

        off_mark : (q : ℕ) → (q ≡ pl.mark → ⊥) → get_or cs q 0 ≡ get_or one q 0
        off_mark q ne = over_outside one pl.mark (pl.byte ∷ []) q (λ low high. ne (omega arith))

        kept : (q b : ℕ) → Outside pl.at (length pl.bytes) q → get_or bs q 0 ≡ b → (q ≡ pl.mark → ⊥) → Found cs q b
        kept q b out e ne = off_mark q ne ∙ (over_outside bs pl.at pl.bytes q out ∙ e)

        new : Laid (Found cs) pl.at pl.bytes
        new i lt =
            off_mark (pl.at + i) (λ e. mark_apart (length bs) fs (after c fs) pl l (omega arith) (omega arith))
            ∙ over_inside bs pl.at pl.bytes i lt l.room

        marker : Found cs pl.mark pl.byte
        marker =
            let e : pl.mark ≡ pl.mark + 0 = omega arith in
            ap (λ q. get_or cs q 0) e ∙ over_inside one pl.mark (pl.byte ∷ []) 0 (omega arith) (omega (arith, over_length bs pl.at pl.bytes, mark_inside))

-- which places do not matter
idle_above : (reach i p : ℕ) (fs : List Located) (q : ℕ) → InRow reach i p fs → InIdlePad fs q → p ≤ q
idle_above reach i p [] q w h = absurd h
idle_above reach i p (x ∷ xs) q w (inl h) = omega (arith, h.0, w.0.first, pad_low x.first (count x) (other x.live))
idle_above reach i p (x ∷ xs) q w (inr h) = let le = idle_above reach (suc i) (p + frame_size (count x)) xs q w.1 h in omega arith

end_above : (reach i p : ℕ) (fs : List Located) → 0 < length fs → InRow reach i p fs → p + frame_size 0 ≤ stack_end fs
end_above reach i p [] some w = absurd (omega arith)
end_above reach i p (x ∷ []) some w = omega (arith, w.0.first)
end_above reach i p (x ∷ y ∷ ys) some w = let le = end_above reach (suc i) (p + frame_size (count x)) (y ∷ ys) (omega arith) w.1 in omega arith

-- the place counts: it lies before the stack's end, and in no idle pad
abbrev Counts : List Located → ℕ → ℕ → Type 0
Counts fs q b = (q < stack_end fs) × (InIdlePad fs q → ⊥)

frames_count : (reach i p : ℕ) (fs : List Located) → InRow reach i p fs → FramesLaid (Counts fs) fs
frames_count reach i p [] w = tt
frames_count reach i p (x ∷ []) w = (frame_zip (λ q b g h. (g.1, λ idle. ⊎_elim (λ k. h k.0 k.1) (λ k. k) idle)) x true (frame_inside x true) (frame_idle x true), tt)
frames_count reach i p (x ∷ y ∷ ys) w =
    let p2 : ℕ = p + frame_size (count x) in
    let d = other x.live in
    let last = end_above reach (suc i) p2 (y ∷ ys) (omega arith) w.1 in (
      frame_zip (λ q b g h. (omega (arith, g.1, w.0.first, last), λ idle. ⊎_elim (λ k. h k.0 k.1) (λ k. omega (arith, g.1, w.0.first, idle_above reach (suc i) p2 (y ∷ ys) q w.1 k)) idle)) x false (frame_inside x false) (frame_idle x false),
      frames_zip {P = λ q b. (p2 ≤ q) × (q < reach)} {Q = Counts (y ∷ ys)} (λ q b g h. (h.0, λ idle. ⊎_elim (λ k. omega (arith, g.0, k.1, w.0.first, pad_high x.first (count x) d)) h.1 idle)) (y ∷ ys) (frames_inside reach (suc i) p2 (y ∷ ys) w.1) (frames_count reach (suc i) p2 (y ∷ ys) w.1),
    )

region_count : (size : ℕ) (fs : List Located) → Stands size fs → RegionLaid (Counts fs) size fs
region_count size fs s =
    record {
      version_byte = header version_at (omega arith);
      size_bytes = λ i lt. header (size_at + i) (omega (arith, lt, length-spelled size_size size));
      frames = frames_count size 0 frames_at fs s.row;
    }
  where
    header : (q : ℕ) → q < frames_at → (q < stack_end fs) × (InIdlePad fs q → ⊥)
    header q lt = (omega (arith, lt, end_above size 0 frames_at fs s.some s.row), λ idle. omega (arith, lt, idle_above size 0 frames_at fs q s.row idle))

pub frames_alone_count : FramesAloneCount
frames_alone_count bs cs fs bytes long found same =
    let s = read_spelled bs fs bytes found in
    spelled_read cs fs
    (record {
      stands = subst (λ k. Stands k fs) (sym long) s.stands;
      laid =
          subst (λ k. RegionLaid (Found cs) k fs) (sym long)
          (region_zip {P = Counts fs} (λ q b g h. ⊎_elim (λ past. absurd (omega (arith, g.0, past))) (λ x. ⊎_elim (λ idle. absurd (g.1 idle)) (λ e. e ∙ h) x) (same q)) (length bs) fs (region_count (length bs) fs s.stands) s.laid);
    })
