-- What a round of writing answers, and what it leaves.
use Rattle.std.specs.Prelude.{◌≡◌, ℕ, ◌+◌, ◌^◌, ◌<◌, ◌≤◌, max, ◌⊎◌, List, [], ◌∷◌, length, take, Result, MatchResult}
use Rattle.model.specs.Writes.{Meaning, bytes, Write, Ran, Broken}
use Rattle.model.specs.Rounds.{round, overwritten}
use Rattle.board.specs.declared.rounds.Stopped.{Stopped}
use Rattle.model.specs.declared.faults.BoardFault.{BoardFault}
use Rattle.model.specs.Faults.{Fault}

-- there are n places from p on, at least one, on a board of that size, and their numbers fit a machine word
abbrev pub OnBoard : ℕ → ℕ → ℕ → Type 0
OnBoard p n size = (0 < n) × (p + n ≤ size) × (p + n < 2 ^ 64)

-- the n places from p on lie on a board of that size; else 2, with the first place outside
abbrev pub Checked : ℕ → ℕ → ℕ → Result (Unit {0}) BoardFault → Type 0
Checked p n size r = MatchResult r (λ _. p + n ≤ size) (λ e. (size < p + n) × Fault 2 (max p size) e)

-- calls that all lie on the board: carried out, with their number, or ended by the power
abbrev pub Carried : ℕ → List Write → Meaning → Result ℕ Stopped → Meaning → Type 0
Carried L ws m r n = MatchResult r (λ k. (k ≡ length ws) × Ran L ws m n) (λ s. Fault 1 0 s.fault × Broken L ws m s.carried n)

-- every place of the stretch of bs from p on lies on a board of that size; no bytes take no place
abbrev pub Fits : ℕ → List ℕ → ℕ → Type 0
Fits p [] size = Unit {0}
Fits p (b ∷ bs) size = p + length (b ∷ bs) ≤ size

-- the whole round is carried out, in k calls
pub record Whole (L p : ℕ) (bs : List ℕ) (m : Meaning) (k : ℕ) (n : Meaning) : Type 0 where
  pub fits : Fits p bs m.size
  pub count : k ≡ length (round L p bs)
  pub ran : Ran L (round L p bs) m n
  pub present_bytes : bytes n ≡ overwritten (bytes m) p bs

-- power ends the round: 1, after as many calls as the supply had at the start
pub record CutShort (L p : ℕ) (bs : List ℕ) (m : Meaning) (s : Stopped) (n : Meaning) : Type 0 where
  pub fits : Fits p bs m.size
  pub fault : Fault 1 0 s.fault
  pub broken : Broken L (round L p bs) m s.carried n
  pub present_bytes : bytes n ≡ overwritten (bytes m) p (take s.carried bs)

-- the stretch passes the board's end: 2, with the first place outside, and the board is as it was
pub record TooLong (p : ℕ) (bs : List ℕ) (m : Meaning) (s : Stopped) (n : Meaning) : Type 0 where
  pub outside : Fits p bs m.size → ⊥
  pub fault : Fault 2 (max p m.size) s.fault
  pub carried : s.carried ≡ 0
  pub untouched : n ≡ m

abbrev pub Round : ℕ → ℕ → List ℕ → Meaning → Result ℕ Stopped → Meaning → Type 0
Round L p bs m r n = MatchResult r (λ k. Whole L p bs m k n) (λ s. CutShort L p bs m s n ⊎ TooLong p bs m s n)
