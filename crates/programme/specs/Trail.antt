-- Trail's table: a quiz of three questions, as often as a guest starts it.
use Rattle.std.specs.Prelude.{◌≡◌, ℕ, ◌+◌, ◌-◌, ◌*◌, ◌/◌, ◌%◌, ◌^◌, min, cond, List, [], ◌∷◌, Some, None, Option, Result, MatchResult, ◌==◌, nat_lt}
use Rattle.plain.specs.declared.Answer.{Answer}
use Rattle.plain.specs.declared.Progress.{Progress}
use Rattle.plain.specs.Frames.{Frame, call, note, give}
use Rattle.region.specs.Numbers.{number}
use Rattle.programme.specs.declared.trail.QuizArgs.{QuizArgs}
use Rattle.programme.specs.declared.trail.QuestionArgs.{QuestionArgs}
use Rattle.programme.specs.declared.choice.ProgrammeFault.{ProgrammeFault}
use Rattle.programme.specs.declared.trail.Kind.{Kind}
use Rattle.programme.specs.declared.trail.Kind.TheVariants.{Bottom, Quiz, Question}
use Rattle.programme.specs.Faults.{Refusal}
use Rattle.programme.specs.Verdicts.{Verdict, Table, wait, change, unknown_kind, bottom_kind, by_record, without_args}

-- the kinds that are called
abbrev pub quiz_kind : ℕ
quiz_kind = 1

abbrev pub question_kind : ℕ
question_kind = 2

-- a quiz's arguments: its first question in two bytes, and how many it asks in one
abbrev pub quiz_image : QuizArgs → List ℕ
quiz_image q = q.first / 256 ∷ q.first % 256 ∷ q.count ∷ []

abbrev pub quiz_parsed : List ℕ → Option QuizArgs
quiz_parsed [] = None
quiz_parsed (a ∷ []) = None
quiz_parsed (a ∷ b ∷ []) = None
quiz_parsed (a ∷ b ∷ c ∷ []) = Some (record { first = number (a ∷ b ∷ []); count = c })
quiz_parsed (a ∷ b ∷ c ∷ d ∷ xs) = None

-- a question's argument: its number in two bytes
abbrev pub question_image : QuestionArgs → List ℕ
question_image q = q.question / 256 ∷ q.question % 256 ∷ []

abbrev pub question_parsed : List ℕ → Option QuestionArgs
question_parsed [] = None
question_parsed (a ∷ []) = None
question_parsed (a ∷ b ∷ []) = Some (record { question = number (a ∷ b ∷ []) })
question_parsed (a ∷ b ∷ c ∷ xs) = None

-- a quiz's progress: how many questions it asked, and how many points they gave; higher bits do not count
abbrev pub asked : Progress → ℕ
asked p = p.value / 256 % 256

abbrev pub points : Progress → ℕ
points p = p.value % 256

-- the progress after one more question, with this answer
abbrev pub scored : Progress → Answer → Progress
scored p a = record { value = 256 * min (asked p + 1) 255 + min (points p + min a.value 1) 255 }

-- kind 0, the bottom: an answer is added to its progress; without one, touch 0x53 opens a quiz of questions 1 to 3
abbrev pub bottom_turn : Progress → Option Answer → Option ℕ → Verdict
bottom_turn p (Some a) touch = change (note (record { value = min (p.value + a.value) (2 ^ 64 - 1) }))
bottom_turn p None (Some t) = cond (t == 0x53) (change (call quiz_kind (quiz_image (record { first = 1; count = 3 })))) wait
bottom_turn p None None = wait

abbrev pub at_bottom : Frame → Option ℕ → Verdict
at_bottom x touch = without_args x.args (bottom_turn x.progress x.answer touch)

-- kind 1, a quiz: an answer is scored; without one it asks the next question, or gives its points
abbrev pub quiz_turn : QuizArgs → Progress → Option Answer → Verdict
quiz_turn q p (Some a) = change (note (scored p a))
quiz_turn q p None =
    cond (nat_lt (asked p) q.count) (change (call question_kind (question_image (record { question = (q.first + asked p) % 65536 })))) (change (give (record { value = points p })))

abbrev pub at_quiz : Frame → Verdict
at_quiz x = by_record (quiz_parsed x.args) (λ q. quiz_turn q x.progress x.answer)

-- kind 2, a question: it waits for a touch, and gives 1 if that is its number modulo 4, else 0
abbrev pub question_turn : QuestionArgs → Option ℕ → Verdict
question_turn q None = wait
question_turn q (Some t) = change (give (record { value = cond (t == q.question % 4) 1 0 }))

abbrev pub at_question : Frame → Option ℕ → Verdict
at_question x touch = by_record (question_parsed x.args) (λ q. question_turn q touch)

-- the kind with this number
abbrev pub kind_of : ℕ → Option Kind
kind_of n = cond (n == bottom_kind) (Some Bottom) (cond (n == quiz_kind) (Some Quiz) (cond (n == question_kind) (Some Question) None))

-- r is the kind with number n; where there is none, 12
abbrev pub IsKind : ℕ → Result Kind ProgrammeFault → Type 0
IsKind n r = MatchResult r (λ k. kind_of n ≡ Some k) (λ e. (kind_of n ≡ None) × Refusal 12 e)

-- the verdict on a frame of this kind
abbrev pub by_kind : Option Kind → Table
by_kind (Some Bottom) x touch = at_bottom x touch
by_kind (Some Quiz) x touch = at_quiz x
by_kind (Some Question) x touch = at_question x touch
by_kind None x touch = unknown_kind

abbrev pub trail : Table
trail x touch = by_kind (kind_of x.kind) x touch
