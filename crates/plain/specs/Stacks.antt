-- The plain stack that a program holds.
use Rattle.std.specs.Prelude.{List, map, vec_items}
use Rattle.plain.specs.declared.PlainFrame.{PlainFrame}
use Rattle.plain.specs.declared.PlainStack.TheInside.{Inside}
use Rattle.plain.specs.Frames.{Frame}

abbrev pub frame : PlainFrame → Frame
frame x = record { kind = x.kind; args = vec_items x.args; progress = x.progress; answer = x.answer }

abbrev pub all_frames : List PlainFrame → List Frame
all_frames xs = map frame xs

-- the frames, bottom first
abbrev pub frames_of : Inside → List Frame
frames_of s = all_frames (vec_items s.frames)
