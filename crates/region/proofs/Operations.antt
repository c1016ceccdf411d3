-- Rounds one after the other, as one operation.
use Rattle.std.proofs.Common.{◌≡◌, ℕ, ◌+◌, ◌^◌, ◌<◌, ◌≤◌, ◌⊎◌, List, [], ◌∷◌, ◌++◌, length, Ok, Err, Result, refl, ap, ◌∙◌, subst, inl, inr, arith}
use Rattle.std.proofs.lemmas.List.{length-append}
use Rattle.model.specs.declared.faults.BoardFault.{BoardFault}
use Rattle.model.specs.declared.faults.BoardFault.TheVariants.{NoPower, Outside}
use Rattle.model.specs.declared.faults.StackFault.{StackFault}
use Rattle.model.specs.declared.faults.Layer.TheVariants.{Board}
use Rattle.model.specs.Faults.{Fault, Refusal}
use Rattle.model.specs.Writes.{Meaning, Write, Ran, Broken}
use Rattle.model.specs.Rounds.{round}
use Rattle.model.proofs.Lists.{ran_size, ran_join, broken_first, broken_then}
use Rattle.model.proofs.Rounds.{round_short}
use Rattle.board.specs.declared.rounds.Stopped.{Stopped}
use Rattle.board.specs.Rounds.{OnBoard, Whole, CutShort, TooLong, Round}
use Rattle.region.specs.Frames.{SizeAllowed}
use Rattle.layout.specs.Layout.{version_at, size_at, size_size, frame_size}
use Rattle.region.specs.Plans.{blank, fresh_bytes, fill, finish, format_plan}
use Rattle.region.specs.Operations.{with_count, Counted, Formatted, FormatStopped, FormatCarried}
use Rattle.region.proofs.Formats.{length-fresh_bytes, format_cut, format_lasts}

power_fault : (e : BoardFault) (k : ℕ) → Fault 1 0 e → Refusal 1 Board k (with_count e k)
power_fault (NoPower c) k f = (refl, refl, refl)
power_fault (Outside g) k f = absurd (omega (arith, f.0))

-- how many calls that were
few : (L p : ℕ) (bs : List ℕ) (m : Meaning) (s : Stopped) (n : Meaning) → 0 < L → CutShort L p bs m s n ⊎ TooLong p bs m s n → s.carried ≤ length bs + length bs + 1
few L p bs m s n some (inl c) = omega (arith, c.broken.short, round_short L p bs some)
few L p bs m s n some (inr c) = omega (arith, c.carried)

pub stopped_few : (L p : ℕ) (bs : List ℕ) (m : Meaning) (r : Result ℕ Stopped) (s : Stopped) (n : Meaning) → 0 < L → Round L p bs m r n → r ≡ Err s → s.carried ≤ length bs + length bs + 1
stopped_few L p bs m r s n some h e = few L p bs m s n some (subst (λ x. Round L p bs m x n) e h)

pub whole_few : (L p : ℕ) (bs : List ℕ) (m : Meaning) (r : Result ℕ Stopped) (k : ℕ) (n : Meaning) → 0 < L → Round L p bs m r n → r ≡ Ok k → k ≤ length bs + length bs + 1
whole_few L p bs m r k n some h e =
    let w : Whole L p bs m k n = subst (λ x. Round L p bs m x n) e h in omega (arith, w.count, round_short L p bs some)

-- a format that the power ended, and a whole one
pub format_stopped : (L k : ℕ) (m : Meaning) (e : StackFault) (n : Meaning) → 0 < L → SizeAllowed m.size → Refusal 1 Board k e → Broken L (format_plan L m.size) m k n → FormatStopped L m e n
format_stopped L k m e n some fits f b =
    record { size_allowed = fits; carried = k; fault = f; broken = b; found = λ a s o at cut. format_cut L k a m n o s some fits at b.ran cut }

pub formatted : (L : ℕ) (m : Meaning) (k : ℕ) (n : Meaning) → 0 < L → SizeAllowed m.size → k ≡ length (format_plan L m.size) → Ran L (format_plan L m.size) m n → Formatted L m k n
formatted L m k n some fits e r = record { size_allowed = fits; count = e; ran = r; found = format_lasts L m n some fits r }

module _ (L : ℕ) (m : Meaning) (some : 0 < L) (fits : SizeAllowed m.size) where
  abbrev one : List Write
  one = blank L

  abbrev two : List Write
  two = fill L m.size

  abbrev three : List Write
  three = finish L

  pub stopped_one : (e : StackFault) (n : Meaning) → (k : ℕ) × Refusal 1 Board (0 + k) e × Broken L one m k n → FormatStopped L m e n
  stopped_one e n b = format_stopped L (0 + b.0) m e n some fits b.1 (subst (λ k. Broken L (format_plan L m.size) m k n) (omega arith) (broken_first L one (two ++ three) b.0 m n b.2))

  -- round two writes bs
  module _ (bs : List ℕ) (same : bs ≡ fresh_bytes m.size) where
    abbrev filling : List Write
    filling = round L size_at bs

    as_two : filling ≡ two
    as_two = ap (round L size_at) same

    -- what rounds two and three need
    pub two_fits : (j : ℕ) (n : Meaning) → (j ≡ 0 + length one) × Ran L one m n → OnBoard size_at (length bs) n.size × (j + (length bs + length bs + 1) < 2 ^ 64)
    two_fits j n r =
        let long : length bs ≡ size_size + frame_size 0 = ap length same ∙ length-fresh_bytes m.size in
        let sized = ran_size L one m n r.1 in
        ((omega arith, omega (arith, fits.0), omega arith), omega (arith, r.0, round_short L version_at (0 ∷ []) some))

    pub three_fits : (i j : ℕ) (n o : Meaning) → (i ≡ 0 + length one) × Ran L one m n → (j ≡ i + length filling) × Ran L filling n o → (1 ≤ o.size) × (j + 3 < 2 ^ 64)
    three_fits i j n o r s =
        let long : length bs ≡ size_size + frame_size 0 = ap length same ∙ length-fresh_bytes m.size in
        let sized = ran_size L one m n r.1 in
        let still = ran_size L filling n o s.1 in
        (omega (arith, fits.0), omega (arith, r.0, s.0, round_short L version_at (0 ∷ []) some, round_short L size_at bs some))

    pub stopped_two : (j : ℕ) (n o : Meaning) (e : StackFault) → (j ≡ 0 + length one) × Ran L one m n → (k : ℕ) × Refusal 1 Board (j + k) e × Broken L filling n k o → FormatStopped L m e o
    stopped_two j n o e r b =
        let second : Broken L two n b.0 o = subst (λ ws. Broken L ws n b.0 o) as_two b.2 in
        format_stopped L (j + b.0) m e o some fits b.1
        (subst (λ k. Broken L (format_plan L m.size) m k o) (omega (arith, r.0)) (broken_then L one (two ++ three) b.0 m n o r.1 (broken_first L two three b.0 n o second)))

    pub stopped_three : (i j : ℕ) (n o u : Meaning) (e : StackFault) → (i ≡ 0 + length one) × Ran L one m n → (j ≡ i + length filling) × Ran L filling n o → (k : ℕ) × Refusal 1 Board (j + k) e × Broken L three o k u → FormatStopped L m e u
    stopped_three i j n o u e r s b =
        let second : Ran L two n o = subst (λ ws. Ran L ws n o) as_two s.1 in
        format_stopped L (j + b.0) m e u some fits b.1
        (subst (λ k. Broken L (format_plan L m.size) m k u) (omega (arith, r.0, s.0, ap length as_two)) (broken_then L one (two ++ three) (length two + b.0) m n u r.1 (broken_then L two three b.0 n o u second b.2)))

    pub whole_three : (i j k : ℕ) (n o u : Meaning) → (i ≡ 0 + length one) × Ran L one m n → (j ≡ i + length filling) × Ran L filling n o → (k ≡ j + length three) × Ran L three o u → Formatted L m k u
    whole_three i j k n o u r s t =
        formatted L m k u some fits
        (omega (arith, r.0, s.0, t.0, ap length as_two, length-append one (two ++ three), length-append two three))
        (ran_join L one (two ++ three) m n u r.1 (ran_join L two three n o u (subst (λ ws. Ran L ws n o) as_two s.1) t.1))

    pub last_round : (i j : ℕ) (n o u : Meaning) (r : Result ℕ StackFault) → (i ≡ 0 + length one) × Ran L one m n → (j ≡ i + length filling) × Ran L filling n o → Counted L j three o r u → FormatCarried L m r u
    last_round i j n o u (Ok k) r s t = whole_three i j k n o u r s t
    last_round i j n o u (Err e) r s t = stopped_three i j n o u e r s t
