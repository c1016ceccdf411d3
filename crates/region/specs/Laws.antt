-- What the format keeps, on every board.
use Rattle.std.specs.Prelude.{◌≡◌, ℕ, ◌+◌, ◌^◌, ◌<◌, ◌≤◌, ◌⊎◌, List, [], ◌∷◌, length, take, Ok, Option, slice_index}
use Rattle.model.specs.Places.{settled}
use Rattle.model.specs.Writes.{Meaning, Cut, Ran}
use Rattle.model.specs.Rounds.{overwritten}
use Rattle.plain.specs.Frames.{Change, does}
use Rattle.plain.specs.declared.Answer.{Answer}
use Rattle.plain.specs.declared.Progress.{Progress}
use Rattle.region.specs.Numbers.{Bytes}
use Rattle.layout.specs.Layout.{version_at, progress_size, pad_size, pad_place, other}
use Rattle.region.specs.Frames.{Located, count, plain, AnswerFits, SizeAllowed, Stands}
use Rattle.region.specs.Reading.{answer_at, progress_at, read, Spells}
use Rattle.region.specs.Writing.{pad_bytes, region_bytes}
use Rattle.region.specs.Plans.{Plan, writes, plan, after, stack_end, Allowed, bottom, format_plan}
use Rattle.region.specs.Cuts.{Settled, Finds, MarkerNew, FormatFound}

-- Reading finds these frames exactly if they make a stack, and each place that counts holds its byte.
abbrev pub ReadsExactly : Type 0
ReadsExactly = (bs : List ℕ) (fs : List Located) → (Bytes bs → read bs ≡ Ok fs → Spells bs fs) × (Spells bs fs → read bs ≡ Ok fs)

-- A pad that was written is read as its answer and its progress.
abbrev pub PadBack : Type 0
PadBack = (a : Option Answer) (p : Progress) → AnswerFits a → p.value < 256 ^ progress_size → (answer_at (pad_bytes a p) 0 ≡ a) × (progress_at (pad_bytes a p) 0 ≡ p)

-- Frames written out and read are the same frames, whatever stands behind them.
abbrev pub ReadBack : Type 0
ReadBack =
    (size : ℕ) (fs : List Located) (rest : List ℕ) → Stands size fs → length (region_bytes size fs rest) ≡ size
    → read (region_bytes size fs rest) ≡ Ok fs

-- the bytes after both rounds of a plan
abbrev pub both_rounds : Plan → List ℕ → List ℕ
both_rounds p bs = overwritten (overwritten bs p.at p.bytes) p.mark (p.byte ∷ [])

-- On bytes that spell frames, a change's whole plan makes bytes that read as its effect on the plain stack.
abbrev pub Effect : Type 0
Effect =
    (bs : List ℕ) (fs : List Located) (c : Change) → Spells bs fs → Allowed (length bs) c fs
    → (read (both_rounds (plan c fs) bs) ≡ Ok (after c fs)) × (plain (after c fs) ≡ does c (plain fs))

-- Settled frames are found, and found again after a power cut.
abbrev pub SettledFound : Type 0
SettledFound = (fs : List Located) (m o : Meaning) (s : Option ℕ) → Settled m fs → Finds m fs × (Cut s m o → Finds o fs)

-- One change under power cuts: after any first k calls of its plan and a power cut, reading finds the frames before it or those after
-- it; those after it exactly if the marker's place holds the byte of round two.
abbrev pub OneChange : Type 0
OneChange =
    (L k : ℕ) (c : Change) (fs : List Located) (m n o : Meaning) (s : Option ℕ) → 0 < L → Settled m fs → Allowed m.size c fs
    → Ran L (take k (writes L (plan c fs))) m n → Cut s n o
    → ((MarkerNew (plan c fs) o → ⊥) × Finds o fs) ⊎ (MarkerNew (plan c fs) o × Finds o (after c fs))

-- The byte of round two is another one than the marker had.
abbrev pub MarkerMoves : Type 0
MarkerMoves = (c : Change) (fs : List Located) (m : Meaning) → Settled m fs → Allowed m.size c fs → MarkerNew (plan c fs) m → ⊥

-- After the whole plan the header and the new frames are settled.
abbrev pub ChangeLasts : Type 0
ChangeLasts =
    (L : ℕ) (c : Change) (fs : List Located) (m n : Meaning) → 0 < L → Settled m fs → Allowed m.size c fs
    → Ran L (writes L (plan c fs)) m n → Finds n (after c fs)

-- A format under power cuts, where place 0 was settled, at any byte.
abbrev pub FormatCut : Type 0
FormatCut =
    (L k a : ℕ) (m n o : Meaning) (s : Option ℕ) → 0 < L → SizeAllowed m.size → m.at version_at ≡ settled a
    → Ran L (take k (format_plan L m.size)) m n → Cut s n o → FormatFound L k m o

-- After a whole format the empty stack is settled.
abbrev pub FormatLasts : Type 0
FormatLasts = (L : ℕ) (m n : Meaning) → 0 < L → SizeAllowed m.size → Ran L (format_plan L m.size) m n → Finds n (bottom ∷ [])

-- place q lies in the idle pad of one of the frames
abbrev pub InIdlePad : List Located → ℕ → Type 0
InIdlePad [] q = ⊥
InIdlePad (x ∷ xs) q =
    let at : ℕ = pad_place x.first (count x) (other x.live) in
    ((at ≤ q) × (q < at + pad_size)) ⊎ InIdlePad xs q

-- Frames alone count: bytes past the stack's end and in idle pads do not matter to reading.
abbrev pub FramesAloneCount : Type 0
FramesAloneCount =
    (bs cs : List ℕ) (fs : List Located) → Bytes bs → length cs ≡ length bs → read bs ≡ Ok fs
    → ((q : ℕ) → (stack_end fs ≤ q) ⊎ (InIdlePad fs q ⊎ (slice_index cs q ≡ slice_index bs q)))
    → read cs ≡ Ok fs

pub record RegionLaws : Type 0 where
  pub reads_exactly : ReadsExactly
  pub pad_back : PadBack
  pub read_back : ReadBack
  pub effect : Effect
  pub settled_found : SettledFound
  pub one_change : OneChange
  pub marker_moves : MarkerMoves
  pub change_lasts : ChangeLasts
  pub format_cut : FormatCut
  pub format_lasts : FormatLasts
  pub frames_alone_count : FramesAloneCount
