-- How one byte stands on a board, and what a call or a power cut may make of it.
use Rattle.std.specs.Prelude.{◌≡◌, ℕ, ◌<◌, Bool, true, false, ◌⊎◌, Some, None, Option}

-- settled a: the byte a is present, and lasts.
-- loose a old posted: the byte a is present and does not last yet. Below it lies the byte old, or an unknown one (None);
-- posted says whether its line was posted since the last store in that line.
pub data Place : Type 0 where
  settled : ℕ → Place
  loose : ℕ → Option ℕ → Bool → Place

-- the byte that is read
abbrev pub present : Place → ℕ
present (settled a) = a
present (loose a old posted) = a

abbrev pub is_loose : Place → Bool
is_loose (settled a) = false
is_loose (loose a old posted) = true

-- the place with its posting set; a settled one has none
abbrev pub marked : Bool → Place → Place
marked v (settled a) = settled a
marked v (loose a old posted) = loose a old v

-- left alone: as it was, or settled at its present byte, which a granted writing call may do to any loose place
abbrev pub Kept : Place → Place → Type 0
Kept x y = (y ≡ x) ⊎ (y ≡ settled (present x))

-- after a store of b at this place
abbrev pub Stored : ℕ → Place → Place → Type 0
Stored b (settled a) y = (y ≡ loose b (Some a) false) ⊎ (y ≡ settled b)
Stored b (loose a old posted) y = ((o : Option ℕ) × (y ≡ loose b o false)) ⊎ (y ≡ settled b)

-- after a settle
abbrev pub AfterSettle : Place → Place → Type 0
AfterSettle (settled a) y = y ≡ settled a
AfterSettle (loose a old true) y = y ≡ settled a
AfterSettle (loose a old false) y = Kept (loose a old false) y

-- after a power cut
abbrev pub AfterCut : Place → Place → Type 0
AfterCut (settled a) y = y ≡ settled a
AfterCut (loose a (Some old) posted) y = (y ≡ settled old) ⊎ (y ≡ settled a)
AfterCut (loose a None posted) y = (b : ℕ) × (b < 256) × (y ≡ settled b)
