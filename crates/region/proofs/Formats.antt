-- A format, whole and cut off in each of its rounds.
use Rattle.std.proofs.Common.{◌≡◌, ℕ, ◌+◌, ◌-◌, ◌<◌, true, ◌⊎◌, List, [], ◌∷◌, ◌++◌, length, get_or, take, None, Option, sym, refl, ap, ◌∙◌, subst, inl, inr, ⊎_elim, arith}
use Rattle.std.proofs.lemmas.Bool.{cases_eq, ne_eqb}
use Rattle.std.proofs.lemmas.List.{take_all, length-append}
use Rattle.model.specs.Places.{settled, present}
use Rattle.model.specs.Writes.{Meaning, bytes, Write, Cut, Ran}
use Rattle.model.specs.Rounds.{round}
use Rattle.model.proofs.Places.{length-bytes, byte_at, cut_supplies}
use Rattle.model.proofs.Lists.{ran_size, ran_first, ran_second, ran_split}
use Rattle.model.proofs.Rounds.{round_outside, round_old_or_new, round_lasts}
use Rattle.region.specs.Numbers.{spelled}
use Rattle.layout.specs.Layout.{version, version_at, size_at, size_size, frame_size}
use Rattle.region.specs.Frames.{Laid, RegionLaid, SizeAllowed, Stands}
use Rattle.region.specs.Writing.{frame_bytes}
use Rattle.region.specs.Plans.{bottom, blank, fresh_bytes, fill, finish}
use Rattle.region.specs.Cuts.{Finds, IsAsBefore, Blank}
use Rattle.region.specs.Laws.{FormatCut, FormatLasts}
use Rattle.region.proofs.Numbers.{length-spelled}
use Rattle.region.proofs.Frames.{region_zip, region_inside}
use Rattle.region.proofs.Reading.{size_test}
use Rattle.region.proofs.Writing.{region_written, laid_join}
use Rattle.region.proofs.Changes.{found_now, same_byte}

-- place 0 holds 0
blank_found : (o : Meaning) → SizeAllowed o.size → o.at version_at ≡ settled 0 → Blank o
blank_found o fits e =
    let n : length (bytes o) ≡ o.size = length-bytes o in
    let z : get_or (bytes o) version_at 0 ≡ 0 = byte_at o version_at (omega (arith, fits.0)) ∙ ap present e in
    record {
      zero_byte = e;
      refused = rw (size_test (length (bytes o)) (omega (arith, fits.0, n)) (omega (arith, fits.1, n)), ne_eqb (get_or (bytes o) version_at 0) version (λ f. omega (arith, z, f))) refl;
    }

-- what was settled still is
before_found : (m o : Meaning) → o.size ≡ m.size → ((q a : ℕ) → q < m.size → m.at q ≡ settled a → o.at q ≡ settled a) → IsAsBefore m o
before_found m o same h =
    record {
      places = h;
      frames = λ fs s.
          found_now o fs
          (record {
            stands = subst (λ k. Stands k fs) (sym same) s.stands;
            laid =
                subst (λ k. RegionLaid (λ q b. o.at q ≡ settled b) k fs) (sym same)
                (region_zip (λ q b lt e. h q b lt e) m.size fs (region_inside m.size fs s.stands) s.laid);
          });
    }

-- the bottom alone stands in every region
bottom_stands : (size : ℕ) → SizeAllowed size → Stands size (bottom ∷ [])
bottom_stands size fits =
    record {
      size_allowed = fits;
      some = omega arith;
      few = omega arith;
      row = (record { first = refl; ends = omega (arith, fits.0); rule = refl; kind = omega arith; args = tt; progress = omega arith; answer = tt }, tt);
    }

pub length-fresh_bytes : (size : ℕ) → length (fresh_bytes size) ≡ size_size + frame_size 0
length-fresh_bytes size = length-append (spelled size_size size) (frame_bytes bottom true) ∙ ap (λ n. n + frame_size 0) (length-spelled size_size size)

-- the version before the bytes of round two
empty_found : (o : Meaning) → SizeAllowed o.size → o.at version_at ≡ settled version → Laid (λ q b. o.at q ≡ settled b) size_at (fresh_bytes o.size) → Finds o (bottom ∷ [])
empty_found o fits e h =
    found_now o (bottom ∷ [])
    (record {
      stands = bottom_stands o.size fits;
      laid =
          region_written (λ q b. o.at q ≡ settled b) o.size (bottom ∷ []) [] (bottom_stands o.size fits)
          (laid_join (λ q b. o.at q ≡ settled b) version_at size_at version (fresh_bytes o.size) refl e h);
    })

module _ (L : ℕ) (m : Meaning) (some : 0 < L) (fits : SizeAllowed m.size) where
  first_inside : (n : Meaning) → n.size ≡ m.size → version_at < n.size
  first_inside n same = omega (arith, fits.0, same)

  still_allowed : (n : Meaning) → n.size ≡ m.size → SizeAllowed n.size
  still_allowed n same = subst SizeAllowed (sym same) fits

  -- a round of one byte at place 0 leaves the old byte or the new one
  version_cut : (k a b : ℕ) (n o u : Meaning) (t : Option ℕ) → n.size ≡ m.size → n.at version_at ≡ settled a → Ran L (take k (round L version_at (b ∷ []))) n o → Cut t o u
      → (u.at version_at ≡ settled a) ⊎ (u.at version_at ≡ settled b)
  version_cut k a b n o u t same e r cut = round_old_or_new L version_at (b ∷ []) k 0 a n o u t (omega arith) (first_inside n same) e r cut

  version_lasts : (b : ℕ) (n o : Meaning) → Ran L (round L version_at (b ∷ [])) n o → o.at version_at ≡ settled b
  version_lasts b n o r = round_lasts L version_at (b ∷ []) 0 n o some (omega arith) r

  -- and keeps what is settled elsewhere
  others_keep : (k b : ℕ) (n o u : Meaning) (t : Option ℕ) → Ran L (take k (round L version_at (b ∷ []))) n o
      → (q a : ℕ) → q < n.size → (q ≡ version_at → ⊥) → n.at q ≡ settled a → (o.at q ≡ settled a) × (Cut t o u → u.at q ≡ settled a)
  others_keep k b n o u t r q a lt ne e = round_outside L version_at (b ∷ []) k q a n o u t lt (λ low high. ne (omega arith)) e r

  size_of : (k : ℕ) (ws : List Write) (n o u : Meaning) (t : Option ℕ) → n.size ≡ m.size → Ran L (take k ws) n o → Cut t o u → u.size ≡ m.size
  size_of k ws n o u t same r cut = (cut_supplies o u t cut).0 ∙ (ran_size L (take k ws) n o r ∙ same)

  -- round one
  one_found : (k a : ℕ) (n o : Meaning) (t : Option ℕ) → m.at version_at ≡ settled a → Ran L (take k (blank L)) m n → Cut t n o → IsAsBefore m o ⊎ Blank o
  one_found k a n o t e r cut =
      ⊎_elim
      (λ f. inl (before_found m o (size_of k (blank L) m n o t refl r cut) (λ q b lt g.
      ⊎_elim
      (λ z. ap o.at z ∙ (f ∙ ap settled (same_byte (sym e ∙ (ap m.at (sym z) ∙ g)))))
      (λ ne. (others_keep k 0 m n o t r q b lt ne g).1 cut)
      (cases_eq q version_at))))
      (λ f. inr (blank_found o (still_allowed o (size_of k (blank L) m n o t refl r cut)) f))
      (version_cut k a 0 m n o t refl e r cut)

  -- round two leaves place 0 alone
  two_keeps : (k : ℕ) (n o u : Meaning) (t : Option ℕ) → n.size ≡ m.size → n.at version_at ≡ settled 0 → Ran L (take k (fill L m.size)) n o
      → (o.at version_at ≡ settled 0) × (Cut t o u → u.at version_at ≡ settled 0)
  two_keeps k n o u t same e r = round_outside L size_at (fresh_bytes m.size) k version_at 0 n o u t (first_inside n same) (λ low high. omega arith) e r

  two_found : (k : ℕ) (n o u : Meaning) (t : Option ℕ) → n.size ≡ m.size → n.at version_at ≡ settled 0 → Ran L (take k (fill L m.size)) n o → Cut t o u → Blank u
  two_found k n o u t same e r cut = blank_found u (still_allowed u (size_of k (fill L m.size) n o u t same r cut)) ((two_keeps k n o u t same e r).1 cut)

  abbrev Filled : Meaning → Type 0
  Filled n = Laid (λ q b. n.at q ≡ settled b) size_at (fresh_bytes m.size)

  two_lasts : (n o : Meaning) → n.size ≡ m.size → n.at version_at ≡ settled 0 → Ran L (fill L m.size) n o → (o.size ≡ m.size) × (o.at version_at ≡ settled 0) × Filled o
  two_lasts n o same e r =
      let ws = fill L m.size in
      let whole : Ran L (take (length ws) ws) n o = subst (λ vs. Ran L vs n o) (sym (take_all (length ws) ws (omega arith))) r in
      (ran_size L ws n o r ∙ same, (two_keeps (length ws) n o o None same e whole).0, λ i lt. round_lasts L size_at (fresh_bytes m.size) i n o some lt r)

  -- round three
  filled_inside : (i : ℕ) → i < length (fresh_bytes m.size) → size_at + i < m.size
  filled_inside i lt = omega (arith, lt, length-fresh_bytes m.size, fits.0)

  becomes_empty : (n : Meaning) → n.size ≡ m.size → n.at version_at ≡ settled version → Filled n → Finds n (bottom ∷ [])
  becomes_empty n same e h = empty_found n (still_allowed n same) e (subst (λ k. Laid (λ q b. n.at q ≡ settled b) size_at (fresh_bytes k)) (sym same) h)

  three_found : (k : ℕ) (n o u : Meaning) (t : Option ℕ) → n.size ≡ m.size → n.at version_at ≡ settled 0 → Filled n → Ran L (take k (finish L)) n o → Cut t o u → Blank u ⊎ Finds u (bottom ∷ [])
  three_found k n o u t same e h r cut =
      let sized : u.size ≡ m.size = size_of k (finish L) n o u t same r cut in
      ⊎_elim
      (λ f. inl (blank_found u (still_allowed u sized) f))
      (λ f. inr (becomes_empty u sized f
      (λ i lt. (others_keep k version n o u t r (size_at + i) (get_or (fresh_bytes m.size) i 0) (omega (arith, filled_inside i lt, same)) (λ z. omega arith) (h i lt)).1 cut)))
      (version_cut k 0 version n o u t same e r cut)

  three_lasts : (n o : Meaning) → n.size ≡ m.size → Filled n → Ran L (finish L) n o → Finds o (bottom ∷ [])
  three_lasts n o same h r =
      let ws = finish L in
      let whole : Ran L (take (length ws) ws) n o = subst (λ vs. Ran L vs n o) (sym (take_all (length ws) ws (omega arith))) r in
      becomes_empty o (ran_size L ws n o r ∙ same) (version_lasts version n o r)
      (λ i lt. (others_keep (length ws) version n o o None whole (size_at + i) (get_or (fresh_bytes m.size) i 0) (omega (arith, filled_inside i lt, same)) (λ z. omega arith) (h i lt)).0)

pub format_cut : FormatCut
format_cut L k a m n o t some fits e r cut =
    record {
      round_one = λ le. one_found L m some fits k a n o t e (ran_first L k (blank L) later m n le r) cut;
      round_two = λ low high.
          let b = ran_second L k (blank L) later m n low r in
          two_found L m some fits (k - length (blank L)) b.0 n o t (ran_size L (blank L) m b.0 b.1) (version_lasts L m some fits 0 m b.0 b.1)
          (ran_first L (k - length (blank L)) (fill L m.size) (finish L) b.0 n (omega arith) b.2) cut;
      round_three = λ low.
          let b = ran_second L k (blank L) later m n (omega arith) r in
          let d = ran_second L (k - length (blank L)) (fill L m.size) (finish L) b.0 n (omega arith) b.2 in
          let f = two_lasts L m some fits b.0 d.0 (ran_size L (blank L) m b.0 b.1) (version_lasts L m some fits 0 m b.0 b.1) d.1 in
          three_found L m some fits (k - length (blank L) - length (fill L m.size)) d.0 n o t f.0 f.1 f.2 d.2 cut;
    }
  where
    later : List Write
    later = fill L m.size ++ finish L

pub format_lasts : FormatLasts
format_lasts L m n some fits r =
    let b = ran_split L (blank L) (fill L m.size ++ finish L) m n r in
    let d = ran_split L (fill L m.size) (finish L) b.0 n b.2 in
    let f = two_lasts L m some fits b.0 d.0 (ran_size L (blank L) m b.0 b.1) (version_lasts L m some fits 0 m b.0 b.1) d.1 in
    three_lasts L m some fits d.0 n f.0 f.2 d.2
