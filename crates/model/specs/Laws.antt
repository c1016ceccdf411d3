-- What every board keeps, from the relations of its calls alone. Whoever builds on a board rests on these laws.
use Rattle.std.specs.Prelude.{◌≡◌, ℕ, ◌+◌, ◌-◌, ◌/◌, ◌<◌, ◌≤◌, ◌⊎◌, List, [], ◌∷◌, ◌++◌, length, take, Some, None, Option, slice_index}
use Rattle.model.specs.Places.{settled}
use Rattle.model.specs.Writes.{Meaning, bytes, Write, store, post, settle, Granted, Cut, Ran, Spares, Spared, SparedLine, rewritten, bytes_after}
use Rattle.model.specs.Rounds.{round, overwritten}

-- A settled place stays settled at its byte through any granted call that does not store at it.
abbrev pub SettledStays : Type 0
SettledStays =
    (L q a : ℕ) (w : Write) (m n : Meaning) → Granted L w m n → q < m.size → Spares q w → m.at q ≡ settled a → n.at q ≡ settled a

-- A store, a post of its line and a settle leave the place settled at the stored byte, where no other call stores
-- at the place before the post, or in its line after it.
abbrev pub StoredLasts : Type 0
StoredLasts =
    (L p b : ℕ) (us vs : List Write) (m n : Meaning) → Spared p us → SparedLine L p vs
    → Ran L (store p b ∷ (us ++ (post (p / L) ∷ (vs ++ (settle ∷ []))))) m n → n.at p ≡ settled b

-- at most one call of the list stores at place q, and it stores b
abbrev pub Once : ℕ → ℕ → List Write → Type 0
Once q b [] = Unit {0}
Once q b (w ∷ ws) = (Spares q w × Once q b ws) ⊎ ((w ≡ store q b) × Spared q ws)

-- A settled place that is stored at no more than once holds, after a power cut, the old byte or the new one.
abbrev pub CutOldOrNew : Type 0
CutOldOrNew =
    (L q a b : ℕ) (ws : List Write) (m n o : Meaning) (s : Option ℕ) → q < m.size → Once q b ws → m.at q ≡ settled a
    → Ran L ws m n → Cut s n o → (o.at q ≡ settled a) ⊎ (o.at q ≡ settled b)

-- A power cut leaves settled places alone.
abbrev pub SettledSurvives : Type 0
SettledSurvives =
    (q a : ℕ) (m n : Meaning) (s : Option ℕ) → q < m.size → m.at q ≡ settled a → Cut s m n → n.at q ≡ settled a

-- A power cut keeps the number of places, and the power carries its new supply.
abbrev pub CutSupplies : Type 0
CutSupplies = (m n : Meaning) (s : Option ℕ) → Cut s m n → (n.size ≡ m.size) × (n.supply ≡ s)

-- Present bytes change only where a store says so.
abbrev pub BytesFollow : Type 0
BytesFollow = (L : ℕ) (w : Write) (m n : Meaning) → Granted L w m n → bytes n ≡ rewritten w (bytes m)

-- The present bytes after a list of granted calls are those that its stores make.
abbrev pub RanBytes : Type 0
RanBytes = (L : ℕ) (ws : List Write) (m n : Meaning) → Ran L ws m n → bytes n ≡ bytes_after ws (bytes m)

-- k calls leave t of the supply; without limit it stays without limit
abbrev pub Spends : ℕ → Option ℕ → Option ℕ → Type 0
Spends k None t = t ≡ None
Spends k (Some s) t = (k ≤ s) × (t ≡ Some (s - k))

-- A list of granted calls keeps the number of places and spends its length of the supply, which had as much.
abbrev pub RanSpends : Type 0
RanSpends =
    (L : ℕ) (ws : List Write) (m n : Meaning) → Ran L ws m n → (n.size ≡ m.size) × Spends (length ws) m.supply n.supply

-- place q is not one of the n places from p on
abbrev pub Outside : ℕ → ℕ → ℕ → Type 0
Outside p n q = p ≤ q → q < p + n → ⊥

-- the call is one of the list
abbrev pub Has : Write → List Write → Type 0
Has w [] = ⊥
Has w (v ∷ ws) = (w ≡ v) ⊎ Has w ws

-- A round posts the lines that hold one of its places, and no other.
abbrev pub RoundPosts : Type 0
RoundPosts =
    (L p : ℕ) (bs : List ℕ) → 0 < L
    → ((i : ℕ) → i < length bs → Has (post ((p + i) / L)) (round L p bs))
    × ((l : ℕ) → Has (post l) (round L p bs) → (i : ℕ) × (i < length bs) × ((p + i) / L ≡ l))

-- A round of n bytes takes at most 2 n + 1 calls.
abbrev pub RoundShort : Type 0
RoundShort = (L p : ℕ) (bs : List ℕ) → 0 < L → length (round L p bs) ≤ length bs + length bs + 1

-- After the first k calls of a round every settled place outside it is settled at its byte, and holds it after a power cut.
abbrev pub RoundOutside : Type 0
RoundOutside =
    (L p : ℕ) (bs : List ℕ) (k q a : ℕ) (m n o : Meaning) (s : Option ℕ) → q < m.size → Outside p (length bs) q → m.at q ≡ settled a
    → Ran L (take k (round L p bs)) m n → (n.at q ≡ settled a) × (Cut s n o → o.at q ≡ settled a)

-- After the first k calls of a round and a power cut every settled place of the round holds its old byte or its new one.
abbrev pub RoundOldOrNew : Type 0
RoundOldOrNew =
    (L p : ℕ) (bs : List ℕ) (k i a : ℕ) (m n o : Meaning) (s : Option ℕ) → i < length bs → p + i < m.size → m.at (p + i) ≡ settled a
    → Ran L (take k (round L p bs)) m n → Cut s n o → (o.at (p + i) ≡ settled a) ⊎ (o.at (p + i) ≡ settled (slice_index bs i))

-- After the whole round its places are settled at the new bytes.
abbrev pub RoundLasts : Type 0
RoundLasts =
    (L p : ℕ) (bs : List ℕ) (i : ℕ) (m n : Meaning) → 0 < L → i < length bs → Ran L (round L p bs) m n → n.at (p + i) ≡ settled (slice_index bs i)

-- After the first k calls of a round the first k of its bytes are present, or all, and every other byte is as it was.
abbrev pub RoundBytes : Type 0
RoundBytes =
    (L p : ℕ) (bs : List ℕ) (k : ℕ) (m n : Meaning) → Ran L (take k (round L p bs)) m n → bytes n ≡ overwritten (bytes m) p (take k bs)

pub record BoardLaws : Type 0 where
  pub settled_stays : SettledStays
  pub stored_lasts : StoredLasts
  pub cut_old_or_new : CutOldOrNew
  pub settled_survives : SettledSurvives
  pub cut_supplies : CutSupplies
  pub bytes_follow : BytesFollow
  pub ran_bytes : RanBytes
  pub ran_spends : RanSpends
  pub round_posts : RoundPosts
  pub round_short : RoundShort
  pub round_outside : RoundOutside
  pub round_old_or_new : RoundOldOrNew
  pub round_lasts : RoundLasts
  pub round_bytes : RoundBytes
