-- The plain stack: a list of frames, bottom first, and what the changes do to it.
use Rattle.std.specs.Prelude.{ℕ, Bool, true, false, cond, List, [], ◌∷◌, ◌++◌, Some, None, Option}
use Rattle.plain.specs.declared.Progress.{Progress}
use Rattle.plain.specs.declared.Answer.{Answer}

-- one activity; answer is what the one that it opened handed to it, None before that and after a note
pub record Frame : Type 0 where
  pub kind : ℕ
  pub args : List ℕ
  pub progress : Progress
  pub answer : Option Answer

-- a frame with progress 0 and without answer
abbrev pub fresh : ℕ → List ℕ → Frame
fresh kind args = record { kind = kind; args = args; progress = record { value = 0 }; answer = None }

-- the bottom alone, which has kind 0 and no arguments
abbrev pub empty : List Frame
empty = fresh 0 [] ∷ []

pub data Change : Type 0 where
  call : ℕ → List ℕ → Change
  note : Progress → Change
  give : Answer → Change

-- the frame with this progress, and without an answer
abbrev pub noted : Progress → Frame → Frame
noted p x = record { kind = x.kind; args = x.args; progress = p; answer = None }

-- the frame with this answer
abbrev pub answered : Answer → Frame → Frame
answered a x = record { kind = x.kind; args = x.args; progress = x.progress; answer = Some a }

-- the last of a list, changed
abbrev pub with_top : {A : Type 0} → (A → A) → List A → List A
with_top f [] = []
with_top f (x ∷ []) = f x ∷ []
with_top f (x ∷ y ∷ ys) = x ∷ with_top f (y ∷ ys)

-- a list without its last
abbrev pub without_top : {A : Type 0} → List A → List A
without_top [] = []
without_top (x ∷ []) = []
without_top (x ∷ y ∷ ys) = x ∷ without_top (y ∷ ys)

-- call adds a fresh frame on top
abbrev pub called : ℕ → List ℕ → List Frame → List Frame
called kind args xs = xs ++ (fresh kind args ∷ [])

-- note sets the top's progress, and removes its answer
abbrev pub top_noted : Progress → List Frame → List Frame
top_noted p xs = with_top (noted p) xs

-- whether a frame stands above the bottom
abbrev pub above_bottom : List Frame → Bool
above_bottom [] = false
above_bottom (x ∷ []) = false
above_bottom (x ∷ y ∷ ys) = true

-- give removes the top, and the new top has the answer; the bottom alone stays as it is
abbrev pub given : Answer → List Frame → List Frame
given a xs = cond (above_bottom xs) (with_top (answered a) (without_top xs)) xs

abbrev pub does : Change → List Frame → List Frame
does (call kind args) xs = called kind args xs
does (note p) xs = top_noted p xs
does (give a) xs = given a xs
