-- The table that a board of either make is over, cells or bytes, after a call.
use Rattle.std.specs.Prelude.{◌≡◌, cond, List, is_ok, Result}
use Rattle.model.specs.declared.faults.BoardFault.{BoardFault}

-- f of the table before if the call was granted, else that table
abbrev pub Leaves : {A : Type 0} → Result (Unit {0}) BoardFault → (List A → List A) → List A → List A → Type 0
Leaves r f xs ys = ys ≡ cond (is_ok r) (f xs) xs
