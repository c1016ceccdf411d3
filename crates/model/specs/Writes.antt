-- What a board means, and what its writing calls and a power cut do to that meaning.
use Rattle.std.specs.Prelude.{◌≡◌, ℕ, ◌-◌, ◌*◌, ◌/◌, ◌<◌, Bool, true, false, ◌&&◌, List, [], ◌∷◌, map, length, take, Some, None, Option, ◌≢◌, nat_lt, slice_set}
use Rattle.std.specs.List.{range_with_len}
use Rattle.model.specs.Places.{Place, present, is_loose, marked, Kept, Stored, AfterSettle, AfterCut}

-- size is the number of places, N; supply is the number of writing calls that the power still carries, None without limit.
-- The line of place p is p / L, where L belongs to the make of board and stands beside the meaning.
pub record Meaning : Type 0 where
  pub size : ℕ
  pub at : ℕ → Place
  pub supply : Option ℕ

-- the present bytes
abbrev pub bytes : Meaning → List ℕ
bytes m = map (λ k. present (m.at k)) (range_with_len 0 m.size)

-- whether p is a loose place of the board
abbrev pub loose_at : Meaning → ℕ → Bool
loose_at m p = nat_lt p m.size && is_loose (m.at p)

-- the writing calls: a byte at a place, a line, all that is posted
pub data Write : Type 0 where
  store : ℕ → ℕ → Write
  post : ℕ → Write
  settle : Write

-- place k, from x to y, where b is stored at p
pub record StoredAt (L p b k : ℕ) (x y : Place) : Type 0 where
  pub here : k ≡ p → Stored b x y
  pub beside : (k ≢ p) → k / L ≡ p / L → Kept (marked false x) y
  pub apart : (k / L ≢ p / L) → Kept x y

-- place k, from x to y, where line l is posted
pub record PostedAt (L l k : ℕ) (x y : Place) : Type 0 where
  pub inside : k / L ≡ l → Kept (marked true x) y
  pub apart : (k / L ≢ l) → Kept x y

abbrev pub After : ℕ → Write → ℕ → Place → Place → Type 0
After L (store p b) k x y = StoredAt L p b k x y
After L (post l) k x y = PostedAt L l k x y
After L settle k x y = AfterSettle x y

-- the place, or the first place of the line, lies on a board of that size
abbrev pub Within : ℕ → Write → ℕ → Type 0
Within L (store p b) size = p < size
Within L (post l) size = l * L < size
Within L settle size = Unit {0}

abbrev pub spent : Option ℕ → Option ℕ
spent None = None
spent (Some s) = Some (s - 1)

-- a writing call that is granted, from m to n
pub record Granted (L : ℕ) (w : Write) (m n : Meaning) : Type 0 where
  pub within : Within L w m.size
  pub powered : m.supply ≡ Some 0 → ⊥
  pub size : n.size ≡ m.size
  pub supply : n.supply ≡ spent m.supply
  pub places : (k : ℕ) → k < m.size → After L w k (m.at k) (n.at k)

-- a power cut, after which the power carries s
pub record Cut (s : Option ℕ) (m n : Meaning) : Type 0 where
  pub size : n.size ≡ m.size
  pub supply : n.supply ≡ s
  pub places : (k : ℕ) → k < m.size → AfterCut (m.at k) (n.at k)

-- a list of writing calls, each granted, from m to o
abbrev pub Ran : ℕ → List Write → Meaning → Meaning → Type 0
Ran L [] m o = o ≡ m
Ran L (w ∷ ws) m o = (n : Meaning) × Granted L w m n × Ran L ws n o

-- power ends the list after k calls, which is the supply at its start
pub record Broken (L : ℕ) (ws : List Write) (m : Meaning) (k : ℕ) (n : Meaning) : Type 0 where
  pub short : k < length ws
  pub supply : m.supply ≡ Some k
  pub ran : Ran L (take k ws) m n

-- the call does not store at place q
abbrev pub Spares : ℕ → Write → Type 0
Spares q (store p b) = q ≡ p → ⊥
Spares q (post l) = Unit {0}
Spares q settle = Unit {0}

-- no call of the list stores at place q
abbrev pub Spared : ℕ → List Write → Type 0
Spared q [] = Unit {0}
Spared q (w ∷ ws) = Spares q w × Spared q ws

-- the call does not store in the line of place q
abbrev pub SparesLine : ℕ → ℕ → Write → Type 0
SparesLine L q (store p b) = q / L ≡ p / L → ⊥
SparesLine L q (post l) = Unit {0}
SparesLine L q settle = Unit {0}

-- no call of the list stores in the line of place q
abbrev pub SparedLine : ℕ → ℕ → List Write → Type 0
SparedLine L q [] = Unit {0}
SparedLine L q (w ∷ ws) = SparesLine L q w × SparedLine L q ws

-- the present bytes after a call
abbrev pub rewritten : Write → List ℕ → List ℕ
rewritten (store p b) xs = slice_set xs p b
rewritten (post l) xs = xs
rewritten settle xs = xs

-- the present bytes after a list of calls
abbrev pub bytes_after : List Write → List ℕ → List ℕ
bytes_after [] xs = xs
bytes_after (w ∷ ws) xs = bytes_after ws (rewritten w xs)
