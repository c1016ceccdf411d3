-- One round of writing: bytes at rising places, posts of the lines that hold one, rising, and a settle.
use Rattle.std.specs.Prelude.{ℕ, zero, suc, ◌+◌, ◌-◌, ◌/◌, List, [], ◌∷◌, ◌++◌, length, slice_set}
use Rattle.model.specs.Writes.{Write, store, post, settle}

abbrev pub stores : ℕ → List ℕ → List Write
stores p [] = []
stores p (b ∷ bs) = store p b ∷ stores (suc p) bs

-- n lines from l on
abbrev pub posts : ℕ → ℕ → List Write
posts l zero = []
posts l (suc n) = post l ∷ posts (suc l) n

-- how many lines hold one of n places from p on
abbrev pub lines : ℕ → ℕ → ℕ → ℕ
lines L p zero = 0
lines L p (suc n) = (p + n) / L + 1 - p / L

-- the calls of a round before its settle
abbrev pub stores_and_posts : ℕ → ℕ → List ℕ → List Write
stores_and_posts L p bs = stores p bs ++ posts (p / L) (lines L p (length bs))

-- the writing calls of the round that writes bs from place p on; no bytes, no calls
unfoldable pub round : ℕ → ℕ → List ℕ → List Write
round L p [] = []
round L p (b ∷ bs) = stores p (b ∷ bs) ++ (posts (p / L) (lines L p (length (b ∷ bs))) ++ (settle ∷ []))

-- the bytes xs with bs in the place of those from p on
abbrev pub overwritten : List ℕ → ℕ → List ℕ → List ℕ
overwritten xs p [] = xs
overwritten xs p (b ∷ bs) = overwritten (slice_set xs p b) (suc p) bs
