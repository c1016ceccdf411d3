-- Numbers as bytes, the most significant byte first.
use Rattle.std.specs.Prelude.{ℕ, zero, suc, ◌+◌, ◌*◌, ◌/◌, ◌%◌, ◌^◌, ◌<◌, List, [], ◌∷◌, length, slice_index}

-- the number that the bytes spell
abbrev pub number : List ℕ → ℕ
number [] = 0
number (b ∷ bs) = b * 256 ^ length bs + number bs

-- v in k bytes
abbrev pub spelled : ℕ → ℕ → List ℕ
spelled zero v = []
spelled (suc k) v = v / 256 ^ k % 256 ∷ spelled k v

-- the k bytes from place p on
abbrev pub part : List ℕ → ℕ → ℕ → List ℕ
part bs p zero = []
part bs p (suc k) = slice_index bs p ∷ part bs (suc p) k

-- each is a byte
abbrev pub Bytes : List ℕ → Type 0
Bytes [] = Unit {0}
Bytes (b ∷ bs) = (b < 256) × Bytes bs
