-- The number, the layer and the detail of each fault.
use Rattle.std.specs.Prelude.{◌≡◌, ℕ}
use Rattle.model.specs.declared.faults.Layer.{Layer}
use Rattle.model.specs.declared.faults.Layer.TheVariants.{Board, Stack}
use Rattle.model.specs.declared.faults.BoardFault.{BoardFault}
use Rattle.model.specs.declared.faults.BoardFault.TheVariants.{NoPower, Outside}
use Rattle.model.specs.declared.faults.StackFault.{StackFault}
use Rattle.model.specs.declared.faults.StackFault.TheVariants.{Board as on_board, TooManyArguments, BoardSize, Version, StoredSize, Damaged}

abbrev pub number : BoardFault → ℕ
number (NoPower carried) = 1
number (Outside given) = 2

abbrev pub layer : BoardFault → Layer
layer (NoPower carried) = Board
layer (Outside given) = Board

abbrev pub detail : BoardFault → ℕ
detail (NoPower carried) = carried
detail (Outside given) = given

-- the board's fault with this number and this detail
abbrev pub Fault : ℕ → ℕ → BoardFault → Type 0
Fault n d e = (number e ≡ n) × (layer e ≡ Board) × (detail e ≡ d)

abbrev pub stack_number : StackFault → ℕ
stack_number (on_board e) = number e
stack_number TooManyArguments = 5
stack_number BoardSize = 8
stack_number Version = 9
stack_number StoredSize = 10
stack_number (Damaged first) = 11

abbrev pub stack_layer : StackFault → Layer
stack_layer (on_board e) = layer e
stack_layer TooManyArguments = Stack
stack_layer BoardSize = Stack
stack_layer Version = Stack
stack_layer StoredSize = Stack
stack_layer (Damaged first) = Stack

abbrev pub stack_detail : StackFault → ℕ
stack_detail (on_board e) = detail e
stack_detail TooManyArguments = 0
stack_detail BoardSize = 0
stack_detail Version = 0
stack_detail StoredSize = 0
stack_detail (Damaged first) = first

-- the stack's refusal with this number, layer and detail
abbrev pub Refusal : ℕ → Layer → ℕ → StackFault → Type 0
Refusal n l d e = (stack_number e ≡ n) × (stack_layer e ≡ l) × (stack_detail e ≡ d)
