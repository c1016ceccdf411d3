-- What each call of a board answers, and what it leaves.
use Rattle.std.specs.Prelude.{◌≡◌, ℕ, ◌<◌, ◌≤◌, ◌⊎◌, Some, Result, MatchResult}
use Rattle.model.specs.Places.{present}
use Rattle.model.specs.Writes.{Meaning, Write, store, post, settle, Within, Granted}
use Rattle.model.specs.declared.faults.BoardFault.{BoardFault}
use Rattle.model.specs.Faults.{Fault}

-- the place or line that a writing call is given
abbrev pub given : Write → ℕ
given (store p b) = p
given (post l) = l
given settle = 0

-- The faults of a writing call: 2 outside the board, with the place or line given; on the board 1 without power, with 0 calls carried out.
abbrev pub Refused : ℕ → Write → Meaning → BoardFault → Type 0
Refused L w m e =
    ((Within L w m.size → ⊥) × Fault 2 (given w) e) ⊎ (Within L w m.size × (m.supply ≡ Some 0) × Fault 1 0 e)

-- a writing call, from m to n
abbrev pub Wrote : ℕ → Write → Meaning → Result (Unit {0}) BoardFault → Meaning → Type 0
Wrote L w m r n = MatchResult r (λ _. Granted L w m n) (λ e. Refused L w m e × (n ≡ m))

-- a read: the present byte, or 2 outside the board, with the place given
abbrev pub Answered : ℕ → Meaning → Result ℕ BoardFault → Type 0
Answered p m r = MatchResult r (λ b. (p < m.size) × (b ≡ present (m.at p))) (λ e. (m.size ≤ p) × Fault 2 p e)
