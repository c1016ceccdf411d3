-- A format over the old region, cut off anywhere, and what is found of it.
use Rattle.std.proofs.Common.{◌≡◌, ℕ, ◌+◌, ◌<◌, ◌≤◌, ◌⊎◌, List, [], ◌∷◌, length, get_or, take, None, Ok, Err, Option, Result, MatchResult, sym, ap, ◌∙◌, subst, inl, inr, ⊎_elim, arith}
use Rattle.std.proofs.lemmas.Bool.{cases_lt}
use Rattle.std.proofs.lemmas.List.{ext_get_or}
use Rattle.model.specs.declared.faults.StackFault.{StackFault}
use Rattle.model.specs.Places.{settled, present}
use Rattle.model.specs.Faults.{stack_detail}
use Rattle.model.specs.Writes.{Meaning, bytes, Cut}
use Rattle.model.proofs.Places.{byte_at}
use Rattle.model.proofs.Lists.{ran_size}
use Rattle.region.specs.Numbers.{part}
use Rattle.layout.specs.Layout.{version_at, least_size}
use Rattle.region.specs.Frames.{SizeAllowed}
use Rattle.region.specs.Plans.{bottom, blank, fill, format_plan}
use Rattle.region.specs.Cuts.{Finds, IsAsBefore, FormatFound, Blank as FoundBlank}
use Rattle.region.specs.Operations.{FormatAnswered}
use Rattle.region.proofs.Numbers.{length-part, get_or-part}
use Rattle.region.proofs.Formats.{format_cut}
use Rattle.survey.specs.declared.formats.Finding.{Finding}
use Rattle.survey.specs.declared.formats.Finding.TheVariants.{AsBefore, Blank, Empty}
use Rattle.survey.specs.Record.{Prepared}
use Rattle.survey.specs.Formats.{before_bytes, Classed, StoppedFormat, Shows, FormatShown}
use Rattle.survey.proofs.Updates.{CarriedOut, all_carried, some_carried}

-- a format over the old region, whatever it answers
pub stopped : (L k : ℕ) (s : Option ℕ) (m n : Meaning) (r : Result ℕ StackFault) → Prepared 0 before_bytes s m → SizeAllowed m.size → FormatAnswered L m r n → MatchResult r (λ j. k ≡ j) (λ e. k ≡ stack_detail e) → StoppedFormat L s k n
stopped L k s m n r p fits f e = record { start = m; fits = fits; old = p; count = (out r f e).count; ran = (out r f e).ran }
  where
    out : (r : Result ℕ StackFault) → FormatAnswered L m r n → MatchResult r (λ j. k ≡ j) (λ e. k ≡ stack_detail e) → CarriedOut L (format_plan L m.size) s k m n
    out (Ok j) f e = all_carried L _ s k m n p.supply (e ∙ f.count) f.ran
    out (Err x) (inl f) e = some_carried L _ s _ k m n p.supply (e ∙ f.fault.2) f.broken
    out (Err x) (inr f) e = absurd (f.not_allowed fits)

-- a format that was cut off leaves one of three
one_of_three : (L k : ℕ) (m o : Meaning) → FormatFound L k m o → IsAsBefore m o ⊎ (FoundBlank o ⊎ Finds o (bottom ∷ []))
one_of_three L k m o f =
    ⊎_elim
    (λ lt. ⊎_elim (λ x. inl x) (λ x. inr (inl x)) (f.round_one (omega arith)))
    (λ le. ⊎_elim (λ lt. inr (inl (f.round_two le (omega arith)))) (λ up. inr (f.round_three up)) (cases_lt k (length (blank L) + length (fill L m.size))))
    (cases_lt k (length (blank L)))

module _ (s : Option ℕ) (m o : Meaning) (p : Prepared 0 before_bytes s m) (long : least_size ≤ o.size) (bs : List ℕ) (seen : bs ≡ part (bytes o) 0 least_size) where
  -- what is seen at a place that is settled
  seen_at : (k a : ℕ) → k < least_size → o.at k ≡ settled a → get_or bs k 0 ≡ a
  seen_at k a lt e =
      let z : 0 + k ≡ k = omega arith in
      ap (λ xs. get_or xs k 0) seen ∙ (get_or-part (bytes o) 0 least_size k lt ∙ (ap (λ q. get_or (bytes o) q 0) z ∙ (byte_at o k (omega arith) ∙ ap present e)))

  same_places : IsAsBefore m o → Shows AsBefore o
  same_places h k lt = h.places k (get_or before_bytes k 0) (omega (arith, p.room)) (let z : k ≡ 0 + k = omega arith in ap m.at z ∙ p.places k lt)

  same_bytes : IsAsBefore m o → bs ≡ before_bytes
  same_bytes h =
      let n : length bs ≡ least_size = ap length seen ∙ length-part (bytes o) 0 least_size in
      ext_get_or 0 bs before_bytes n (λ k lt. seen_at k (get_or before_bytes k 0) (omega (arith, lt, n)) (same_places h k (omega (arith, lt, n))))

  shows : (f : Finding) → Classed f bs → IsAsBefore m o ⊎ (FoundBlank o ⊎ Finds o (bottom ∷ [])) → Shows f o
  shows AsBefore c (inl h) = same_places h
  shows AsBefore c (inr (inl h)) = absurd (omega (arith, ap (λ xs. get_or xs 0 0) c, seen_at 0 0 (omega arith) h.zero_byte))
  shows AsBefore c (inr (inr h)) = absurd (omega (arith, ap (λ xs. get_or xs 43 0) c, seen_at 43 1 (omega arith) h.settled_frames.laid.frames.0.marker))
  shows Blank c (inl h) = absurd (omega (arith, c, ap (λ xs. get_or xs 0 0) (same_bytes h)))
  shows Blank c (inr (inl h)) = h
  shows Blank c (inr (inr h)) = absurd (omega (arith, c, seen_at 0 1 (omega arith) h.settled_frames.laid.version_byte))
  shows Empty c (inl h) = absurd (c.1 (same_bytes h))
  shows Empty c (inr (inl h)) = absurd (c.0 (seen_at 0 0 (omega arith) h.zero_byte))
  shows Empty c (inr (inr h)) = h

pub format_shown : (L k : ℕ) (s : Option ℕ) (n o : Meaning) (bs : List ℕ) (f : Finding) → 0 < L → StoppedFormat L s k n → Cut None n o → (least_size ≤ o.size → bs ≡ part (bytes o) 0 least_size) → Classed f bs → FormatShown L s f o
format_shown L k s n o bs f some stopped cut seen c =
    let m = stopped.start in
    let kept = ran_size L (take k (format_plan L m.size)) m n stopped.ran in
    let long : least_size ≤ o.size = omega (arith, stopped.fits.0) in
    let first : m.at version_at ≡ settled 1 = stopped.old.places 0 (omega arith) in
    record {
      carried = k;
      before = n;
      stopped = stopped;
      cut = cut;
      shows = shows s m o stopped.old long bs (seen long) f c (one_of_three L k m o (format_cut L k 1 m n o None some stopped.fits first stopped.ran cut));
    }

pub format_size : (L : ℕ) (s : Option ℕ) (f : Finding) (o : Meaning) → FormatShown L s f o → SizeAllowed o.size
format_size L s f o x = subst SizeAllowed (sym (x.cut.size ∙ ran_size L _ x.stopped.start x.before x.stopped.ran)) x.stopped.fits
