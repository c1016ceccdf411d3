-- What each change and a format write, round by round.
use Rattle.std.specs.Prelude.{◌≡◌, ℕ, ◌+◌, ◌^◌, ◌<◌, ◌≤◌, true, false, List, [], ◌∷◌, ◌++◌, length, Some, None, Option}
use Rattle.model.specs.Writes.{Write}
use Rattle.model.specs.Rounds.{round}
use Rattle.plain.specs.Frames.{fresh, with_top, without_top, above_bottom, Change, call, note, give}
use Rattle.plain.specs.declared.Answer.{Answer}
use Rattle.plain.specs.declared.Progress.{Progress}
use Rattle.layout.specs.declared.marker.Pad.TheVariants.{Zero}
use Rattle.region.specs.Numbers.{spelled, Bytes}
use Rattle.layout.specs.Layout.{max_frames, max_args, version, version_at, size_at, size_size, frames_at, answer_size, progress_size, kind_size, pad_place, marker_place, frame_size, marker_byte, other}
use Rattle.region.specs.Frames.{Located, count, end, plain}
use Rattle.region.specs.Writing.{pad_bytes, fresh_frame}

-- A change in two rounds: round one stores bytes from place at on, round two stores byte at the marker's place, mark.
pub record Plan : Type 0 where
  pub at : ℕ
  pub bytes : List ℕ
  pub mark : ℕ
  pub byte : ℕ

abbrev pub writes : ℕ → Plan → List Write
writes L p = round L p.at p.bytes ++ round L p.mark (p.byte ∷ [])

-- the idle pad of x gets this answer and this progress, and then it is the live one, and the stack ends here
abbrev pub turn : Option Answer → Progress → Located → Plan
turn a p x =
    record {
      at = pad_place x.first (count x) (other x.live);
      bytes = pad_bytes a p;
      mark = marker_place x.first (count x);
      byte = marker_byte (other x.live) true;
    }

-- the frame x after that
abbrev pub turned : Option Answer → Progress → Located → Located
turned a p x =
    record { first = x.first; live = other x.live; frame = record { kind = x.frame.kind; args = x.frame.args; progress = p; answer = a } }

-- the fresh frame behind x
abbrev pub above : ℕ → List ℕ → Located → Located
above kind args x = record { first = end x; live = Zero; frame = fresh kind args }

-- a fresh frame is written behind x, and then the stack does not end at x any more
abbrev pub push : ℕ → List ℕ → Located → Plan
push kind args x =
    record {
      at = end x;
      bytes = fresh_frame kind args;
      mark = marker_place x.first (count x);
      byte = marker_byte x.live false;
    }

-- the plan for the last frame; without one there is nothing to write, and no change is allowed
abbrev pub at_top : (Located → Plan) → List Located → Plan
at_top f [] = record { at = 0; bytes = []; mark = 0; byte = 0 }
at_top f (x ∷ []) = f x
at_top f (x ∷ y ∷ ys) = at_top f (y ∷ ys)

-- call writes a fresh frame behind the top; note turns the top; give turns the frame below it, which keeps its progress
abbrev pub plan : Change → List Located → Plan
plan (call kind args) fs = at_top (push kind args) fs
plan (note p) fs = at_top (turn None p) fs
plan (give a) fs = at_top (λ x. turn (Some a) x.frame.progress x) (without_top fs)

-- the frames with a fresh one on top
abbrev pub extended : ℕ → List ℕ → List Located → List Located
extended kind args [] = []
extended kind args (x ∷ []) = x ∷ above kind args x ∷ []
extended kind args (x ∷ y ∷ ys) = x ∷ extended kind args (y ∷ ys)

-- the frames after a change
abbrev pub after : Change → List Located → List Located
after (call kind args) fs = extended kind args fs
after (note p) fs = with_top (turned None p) fs
after (give a) fs = with_top (λ x. turned (Some a) x.frame.progress x) (without_top fs)

-- the place behind the top
abbrev pub stack_end : List Located → ℕ
stack_end [] = frames_at
stack_end (x ∷ []) = end x
stack_end (x ∷ y ∷ ys) = stack_end (y ∷ ys)

-- a frame of that kind with these arguments may be put on top, in a region of that size
pub record MayCall (size : ℕ) (kind : ℕ) (args : List ℕ) (fs : List Located) : Type 0 where
  pub kind_some : 0 < kind
  pub kind_fits : kind < 256 ^ kind_size
  pub args_few : length args ≤ max_args
  pub args_bytes : Bytes args
  pub frames_few : length fs < max_frames
  pub room : stack_end fs + frame_size (length args) ≤ size

-- the change is possible: its numbers fit, a call has room, a give has a frame below the top
abbrev pub Allowed : ℕ → Change → List Located → Type 0
Allowed size (call kind args) fs = MayCall size kind args fs
Allowed size (note p) fs = p.value < 256 ^ progress_size
Allowed size (give a) fs = (a.value < 256 ^ answer_size) × (above_bottom (plain fs) ≡ true)

-- the bottom of an empty stack
abbrev pub bottom : Located
bottom = record { first = frames_at; live = Zero; frame = fresh 0 [] }

-- the three rounds of a format: the region is blank, then its size and its bottom are written, and then it has its version
abbrev pub blank : ℕ → List Write
blank L = round L version_at (0 ∷ [])

abbrev pub fresh_bytes : ℕ → List ℕ
fresh_bytes size = spelled size_size size ++ fresh_frame 0 []

abbrev pub fill : ℕ → ℕ → List Write
fill L size = round L size_at (fresh_bytes size)

abbrev pub finish : ℕ → List Write
finish L = round L version_at (version ∷ [])

abbrev pub format_plan : ℕ → ℕ → List Write
format_plan L size = blank L ++ (fill L size ++ finish L)
