-- What a programme's table says, and what is answered by it.
use Rattle.std.specs.Prelude.{◌≡◌, ℕ, ◌<◌, ◌≤◌, List, [], ◌∷◌, ◌++◌, length, drop, Some, None, Ok, MatchBool, Option, Result, MatchResult, nat_lt}
use Rattle.plain.specs.Frames.{Frame, Change, call, note, give}
use Rattle.layout.specs.Layout.{max_args}
use Rattle.programme.specs.declared.Top.{Top}
use Rattle.programme.specs.declared.choice.Choice.{Choice}
use Rattle.programme.specs.declared.choice.Choice.TheVariants.{Wait, Note, Give, Call}
use Rattle.programme.specs.declared.choice.ProgrammeFault.{ProgrammeFault}
use Rattle.programme.specs.Faults.{Refused, Refusal}

-- what is to be done at a step: nothing, a change, or refusal 12 or 13
pub data Verdict : Type 0 where
  wait : Verdict
  change : Change → Verdict
  unknown_kind : Verdict
  wrong_arguments : Verdict

-- a programme's meaning: from the top frame and a touch, which may be absent
abbrev pub Table : Type 0
Table = Frame → Option ℕ → Verdict

-- the frame that is lent
abbrev pub frame : Top → Frame
frame t = record { kind = t.kind; args = t.args.now; progress = t.progress; answer = t.answer }

-- the bottom's kind, which every programme has
abbrev pub bottom_kind : ℕ
bottom_kind = 0

-- the verdict on a frame whose kind has no arguments; with any, 13
abbrev pub without_args : List ℕ → Verdict → Verdict
without_args [] v = v
without_args (a ∷ xs) v = wrong_arguments

-- the verdict by the record that a frame's arguments hold; if they hold none, 13
abbrev pub by_record : {A : Type 0} → Option A → (A → Verdict) → Verdict
by_record None f = wrong_arguments
by_record (Some x) f = f x

-- a call has at most 255 argument bytes
abbrev pub Brief : Verdict → Type 0
Brief wait = Unit {0}
Brief (change (call kind args)) = length args ≤ max_args
Brief (change (note p)) = Unit {0}
Brief (change (give a)) = Unit {0}
Brief unknown_kind = Unit {0}
Brief wrong_arguments = Unit {0}

-- the bytes cs of a buffer that held bs, once xs is written to its front
abbrev pub at_front : List ℕ → List ℕ → List ℕ
at_front xs bs = xs ++ drop (length xs) bs

-- xs is written to the front of a buffer that held bs, and y answered; without room for it 14, and the buffer stays
abbrev pub Written : {A : Type 0} → List ℕ → A → List ℕ → Result A ProgrammeFault → List ℕ → Type 0
Written xs y bs r cs = MatchResult r (λ x. (length xs ≤ length bs) × (x ≡ y) × (cs ≡ at_front xs bs)) (λ e. (length bs < length xs) × Refusal 14 e × (cs ≡ bs))

-- what a verdict is answered with, and the buffer cs that held bs before: a call's argument bytes stand at its front
abbrev pub Answered : Verdict → List ℕ → Result Choice ProgrammeFault → List ℕ → Type 0
Answered wait bs r cs = (r ≡ Ok Wait) × (cs ≡ bs)
Answered (change (call kind args)) bs r cs = (r ≡ Ok (Call kind (length args))) × (cs ≡ at_front args bs)
Answered (change (note p)) bs r cs = (r ≡ Ok (Note p)) × (cs ≡ bs)
Answered (change (give a)) bs r cs = (r ≡ Ok (Give a)) × (cs ≡ bs)
Answered unknown_kind bs r cs = Refused 12 r × (cs ≡ bs)
Answered wrong_arguments bs r cs = Refused 13 r × (cs ≡ bs)

-- the same, but for a buffer shorter than 255 bytes, which is refused with 14 and stays
abbrev pub Chosen : Verdict → List ℕ → Result Choice ProgrammeFault → List ℕ → Type 0
Chosen v bs r cs = MatchBool (nat_lt (length bs) max_args) (Refused 14 r × (cs ≡ bs)) (Answered v bs r cs)
