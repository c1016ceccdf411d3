-- What a power cut leaves of a region.
use Rattle.std.specs.Prelude.{◌≡◌, ℕ, ◌+◌, ◌<◌, ◌≤◌, ◌⊎◌, List, [], ◌∷◌, length, Ok, Err}
use Rattle.model.specs.declared.faults.StackFault.TheVariants.{Version}
use Rattle.model.specs.Places.{settled, present}
use Rattle.model.specs.Writes.{Meaning, bytes}
use Rattle.layout.specs.Layout.{version_at}
use Rattle.region.specs.Frames.{Located, RegionLaid, Stands}
use Rattle.region.specs.Reading.{read}
use Rattle.region.specs.Plans.{Plan, bottom, blank, fill}

-- the header and the frames are settled: each place that counts, at its byte
pub record Settled (m : Meaning) (fs : List Located) : Type 0 where
  pub stands : Stands m.size fs
  pub laid : RegionLaid (λ q b. m.at q ≡ settled b) m.size fs

-- the header and these frames are settled, and reading finds them
pub record Finds (m : Meaning) (fs : List Located) : Type 0 where
  pub settled_frames : Settled m fs
  pub frames : read (bytes m) ≡ Ok fs

-- the marker's place holds the byte of round two
abbrev pub MarkerNew : Plan → Meaning → Type 0
MarkerNew p m = present (m.at p.mark) ≡ p.byte

-- as before: what was settled is settled at the same byte, and frames that were settled are found again
pub record IsAsBefore (m o : Meaning) : Type 0 where
  pub places : (q a : ℕ) → q < m.size → m.at q ≡ settled a → o.at q ≡ settled a
  pub frames : (fs : List Located) → Settled m fs → Finds o fs

-- blank: place 0 is settled at 0, and reading refuses the region with 9
pub record Blank (o : Meaning) : Type 0 where
  pub zero_byte : o.at version_at ≡ settled 0
  pub refused : read (bytes o) ≡ Err Version

-- what is found where the power ended a format after k of its calls: as before or blank in round one, blank in round two,
-- blank or the empty stack in round three
pub record FormatFound (L k : ℕ) (m o : Meaning) : Type 0 where
  pub round_one : k ≤ length (blank L) → IsAsBefore m o ⊎ Blank o
  pub round_two : length (blank L) ≤ k → k ≤ length (blank L) + length (fill L m.size) → Blank o
  pub round_three : length (blank L) + length (fill L m.size) ≤ k → Blank o ⊎ Finds o (bottom ∷ [])
