-- A format over a region that holds something, and what may be found of it.
use Rattle.std.specs.Prelude.{◌≡◌, ℕ, ◌-◌, ◌^◌, ◌<◌, List, [], ◌∷◌, ◌++◌, take, Some, None, codes, Option, ◌≢◌, slice_index}
use Rattle.std.specs.Fmt.{format_spec, padded}
use Rattle.model.specs.Places.{settled}
use Rattle.model.specs.Writes.{Meaning, Cut, Ran}
use Rattle.layout.specs.declared.marker.Pad.TheVariants.{One}
use Rattle.layout.specs.Layout.{least_size, frames_at}
use Rattle.region.specs.Frames.{Located, SizeAllowed}
use Rattle.region.specs.Writing.{region_bytes}
use Rattle.region.specs.Plans.{bottom, format_plan}
use Rattle.region.specs.Cuts.{Finds, Blank as FoundBlank}
use Rattle.survey.specs.declared.formats.Finding.{Finding}
use Rattle.survey.specs.declared.formats.Finding.TheVariants.{AsBefore, Blank, Empty}
use Rattle.survey.specs.declared.formats.Run.{Run}
use Rattle.survey.specs.declared.kept.Kept.{Kept}
use Rattle.survey.specs.Record.{Prepared, carries}
use Rattle.survey.specs.Rows.{left, right}

-- the region before the format: a bottom frame whose pad 1 is live, with progress 7
abbrev pub old_bottom : Located
old_bottom = record { first = frames_at; live = One; frame = record { kind = 0; args = []; progress = record { value = 7 }; answer = None } }

abbrev pub before_bytes : List ℕ
before_bytes = region_bytes 128 (old_bottom ∷ []) []

abbrev pub finding_text : Finding → List ℕ
finding_text AsBefore = codes "as before"
finding_text Blank = codes "blank"
finding_text Empty = codes "empty"

-- what the bytes of places 0 to 43 are
abbrev pub Classed : Finding → List ℕ → Type 0
Classed AsBefore bs = bs ≡ before_bytes
Classed Blank bs = slice_index bs 0 ≡ 0
Classed Empty bs = (slice_index bs 0 ≢ 0) × (bs ≢ before_bytes)

-- k calls, as many as the supply s carries, were carried out of a format over that region
pub record StoppedFormat (L : ℕ) (s : Option ℕ) (k : ℕ) (n : Meaning) : Type 0 where
  pub start : Meaning
  pub fits : SizeAllowed start.size
  pub old : Prepared 0 before_bytes s start
  pub count : k ≡ carries (format_plan L start.size) s
  pub ran : Ran L (take k (format_plan L start.size)) start n

-- what is found: every place as before; place 0 holds 0, and reading refuses the region with 9; or the empty stack is read
abbrev pub Shows : Finding → Meaning → Type 0
Shows AsBefore o = (k : ℕ) → k < least_size → o.at k ≡ settled (slice_index before_bytes k)
Shows Blank o = FoundBlank o
Shows Empty o = Finds o (bottom ∷ [])

-- that was found after such a format and a power cut
pub record FormatShown (L : ℕ) (s : Option ℕ) (f : Finding) (o : Meaning) : Type 0 where
  pub carried : ℕ
  pub before : Meaning
  pub stopped : StoppedFormat L s carried before
  pub cut : Cut None before o
  pub shows : Shows f o

-- the finding, left in a column of 9 places
abbrev pub finding_column : Finding → List ℕ
finding_column f = padded (format_spec 32 1 0 9 (2 ^ 64 - 1)) (finding_text f)

abbrev pub run_text : Run → List ℕ
run_text r = right 6 r.first ++ (codes " to " ++ (left 6 r.last ++ (codes " " ++ (finding_column r.kept.old ++ (codes "  " ++ finding_text r.kept.new)))))

-- what was found with the supply s after one power cut and, on board o, after another; what each cut wanted is the board's affair
pub record KeptShown (L s : ℕ) (k : Kept Finding) (o : Meaning) : Type 0 where
  pub old : (p : Meaning) × FormatShown L (Some s) k.old p
  pub new : FormatShown L (Some s) k.new o
