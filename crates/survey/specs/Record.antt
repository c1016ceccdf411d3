-- The record's update, and what may be found of it.
use Rattle.std.specs.Prelude.{◌≡◌, ℕ, ◌+◌, ◌<◌, ◌≤◌, min, Bool, true, false, ◌⊎◌, List, length, take, Some, None, codes, Option, slice_index}
use Rattle.model.specs.Places.{settled, present}
use Rattle.model.specs.Writes.{Meaning, Write, Cut, Ran}
use Rattle.model.specs.Rounds.{round}

-- the record's first place, its length, and the place behind it
abbrev pub record_at : ℕ
record_at = 60

abbrev pub record_size : ℕ
record_size = 8

abbrev pub record_end : ℕ
record_end = 68

abbrev pub old_record : List ℕ
old_record = codes "old-vote"

abbrev pub new_record : List ℕ
new_record = codes "NEW+VOTE"

-- the bytes bs are settled from place p on, and the power carries s
pub record Prepared (p : ℕ) (bs : List ℕ) (s : Option ℕ) (m : Meaning) : Type 0 where
  pub room : p + length bs ≤ m.size
  pub supply : m.supply ≡ s
  pub places : (k : ℕ) → k < length bs → m.at (p + k) ≡ settled (slice_index bs k)

-- how many of these calls a supply carries
abbrev pub carries : List Write → Option ℕ → ℕ
carries ws None = length ws
carries ws (Some s) = min s (length ws)

-- k calls, as many as the supply s carries, were carried out of the round that writes the new record over the old one
pub record Updated (L : ℕ) (s : Option ℕ) (k : ℕ) (n : Meaning) : Type 0 where
  pub count : k ≡ carries (round L record_at new_record) s
  pub start : Meaning
  pub old : Prepared record_at old_record s start
  pub ran : Ran L (take k (round L record_at new_record)) start n

-- every byte is the old record's or the new one's
abbrev pub OldOrNew : List ℕ → Type 0
OldOrNew r = (k : ℕ) → k < record_size → (slice_index r k ≡ slice_index old_record k) ⊎ (slice_index r k ≡ slice_index new_record k)

-- the record's present bytes
pub record Shown (m : Meaning) (r : List ℕ) : Type 0 where
  pub size : length r ≡ record_size
  pub bytes : (k : ℕ) → k < record_size → slice_index r k ≡ present (m.at (record_at + k))

-- the record was updated with the supply s, the power was cut, and r are its present bytes then
pub record Found (L : ℕ) (s : Option ℕ) (r : List ℕ) (n : Meaning) : Type 0 where
  pub carried : ℕ
  pub before : Meaning
  pub updated : Updated L s carried before
  pub cut : Cut None before n
  pub shown : Shown n r

-- an image of the record in which each byte is that of low or that of high
pub record Between (low high image : List ℕ) : Type 0 where
  pub size : length image ≡ record_size
  pub bytes : (k : ℕ) → k < record_size → (slice_index image k ≡ slice_index low k) ⊎ (slice_index image k ≡ slice_index high k)

-- every such image is this record
abbrev pub Sure : List ℕ → List ℕ → List ℕ → Type 0
Sure low high r = (image : List ℕ) → Between low high image → image ≡ r

-- x for a loose place, else a dot
abbrev pub mark : Bool → ℕ
mark true = 120
mark false = 46
