-- Operations on a region: what they answer and leave.
use Rattle.std.specs.Prelude.{◌≡◌, ℕ, ◌+◌, ◌⊎◌, List, [], ◌∷◌, length, Option, Result, MatchResult}
use Rattle.model.specs.declared.faults.BoardFault.{BoardFault}
use Rattle.model.specs.declared.faults.BoardFault.TheVariants.{NoPower, Outside}
use Rattle.model.specs.declared.faults.StackFault.{StackFault}
use Rattle.model.specs.declared.faults.StackFault.TheVariants.{Board as on_board}
use Rattle.model.specs.declared.faults.Layer.TheVariants.{Board, Stack}
use Rattle.model.specs.Faults.{Refusal}
use Rattle.model.specs.Places.{settled}
use Rattle.model.specs.Writes.{Meaning, Write, Cut, Ran, Broken}
use Rattle.layout.specs.Layout.{version_at}
use Rattle.region.specs.Frames.{SizeAllowed}
use Rattle.region.specs.Plans.{bottom, format_plan}
use Rattle.region.specs.Cuts.{Finds, FormatFound}

-- the board's fault, passed up whole but for the count in a refusal 1
abbrev pub with_count : BoardFault → ℕ → StackFault
with_count (NoPower carried) k = on_board (NoPower k)
with_count (Outside given) k = on_board (Outside given)

-- calls of an operation that has already carried out before calls: carried out, with the count of all; or ended by the power, with 1
-- and that count
abbrev pub Counted : ℕ → ℕ → List Write → Meaning → Result ℕ StackFault → Meaning → Type 0
Counted L before ws m r n =
    MatchResult r (λ k. (k ≡ before + length ws) × Ran L ws m n) (λ e. (k : ℕ) × Refusal 1 Board (before + k) e × Broken L ws m k n)

-- the whole format is carried out, in k calls: the empty stack is found
pub record Formatted (L : ℕ) (m : Meaning) (k : ℕ) (n : Meaning) : Type 0 where
  pub size_allowed : SizeAllowed m.size
  pub count : k ≡ length (format_plan L m.size)
  pub ran : Ran L (format_plan L m.size) m n
  pub found : Finds n (bottom ∷ [])

-- power ends the format: 1, with as many calls as the supply had at the start
pub record FormatStopped (L : ℕ) (m : Meaning) (e : StackFault) (n : Meaning) : Type 0 where
  pub size_allowed : SizeAllowed m.size
  pub carried : ℕ
  pub fault : Refusal 1 Board carried e
  pub broken : Broken L (format_plan L m.size) m carried n
  -- after the next power cut, over a region whose place 0 was settled
  pub found : (a : ℕ) (s : Option ℕ) (o : Meaning) → m.at version_at ≡ settled a → Cut s n o → FormatFound L carried m o

-- no region may have the board's size: 8, and the board is as it was
pub record FormatRefused (m : Meaning) (e : StackFault) (n : Meaning) : Type 0 where
  pub not_allowed : SizeAllowed m.size → ⊥
  pub fault : Refusal 8 Stack 0 e
  pub untouched : n ≡ m

-- on a board whose size is allowed
abbrev pub FormatCarried : ℕ → Meaning → Result ℕ StackFault → Meaning → Type 0
FormatCarried L m r n = MatchResult r (λ k. Formatted L m k n) (λ e. FormatStopped L m e n)

abbrev pub FormatAnswered : ℕ → Meaning → Result ℕ StackFault → Meaning → Type 0
FormatAnswered L m r n = MatchResult r (λ k. Formatted L m k n) (λ e. FormatStopped L m e n ⊎ FormatRefused m e n)
