-- Drawing on the supply of writing calls.
use Rattle.std.specs.Prelude.{◌≡◌, ℕ, Some, Option, Result, MatchResult, ◌≢◌}
use Rattle.model.specs.declared.faults.BoardFault.{BoardFault}
use Rattle.model.specs.Faults.{Fault}
use Rattle.model.specs.Writes.{spent}

-- one writing call makes t of a supply s; where none is left it is refused with 1, and the supply stays
abbrev pub Drawn : Option ℕ → Result (Unit {0}) BoardFault → Option ℕ → Type 0
Drawn s r t = MatchResult r (λ _. (t ≡ spent s) × (s ≢ Some 0)) (λ e. (s ≡ Some 0) × Fault 1 0 e × (t ≡ s))
