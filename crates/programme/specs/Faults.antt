-- The number, the layer and the detail of each fault.
use Rattle.std.specs.Prelude.{◌≡◌, ℕ, Result, MatchResult}
use Rattle.model.specs.declared.faults.Layer.{Layer}
use Rattle.model.specs.declared.faults.Layer.TheVariants.{Runner}
use Rattle.programme.specs.declared.choice.ProgrammeFault.{ProgrammeFault}
use Rattle.programme.specs.declared.choice.ProgrammeFault.TheVariants.{UnknownKind, WrongArguments, ShortBuffer}

abbrev pub number : ProgrammeFault → ℕ
number UnknownKind = 12
number WrongArguments = 13
number ShortBuffer = 14

abbrev pub layer : ProgrammeFault → Layer
layer UnknownKind = Runner
layer WrongArguments = Runner
layer ShortBuffer = Runner

abbrev pub detail : ProgrammeFault → ℕ
detail UnknownKind = 0
detail WrongArguments = 0
detail ShortBuffer = 0

-- the refusal with this number, by the runner and with detail 0
abbrev pub Refusal : ℕ → ProgrammeFault → Type 0
Refusal n e = (number e ≡ n) × (layer e ≡ Runner) × (detail e ≡ 0)

-- r is that refusal
abbrev pub Refused : {A : Type 0} → ℕ → Result A ProgrammeFault → Type 0
Refused n r = MatchResult r (λ _. ⊥) (Refusal n)
