-- The record through its update and a power cut, by the laws of boards.
use Rattle.std.proofs.Common.{◌≡◌, ℕ, ◌+◌, ◌<◌, ◌≤◌, List, [], ◌∷◌, length, get_or, take, Some, None, Ok, Err, Option, Result, MatchResult, sym, refl, ap, ◌∙◌, subst, inl, inr, ⊎_elim, arith}
use native.Mathlib.Nat.{min-eq_left, min-eq_right}
use Rattle.std.proofs.lemmas.List.{take_all}
use Rattle.model.specs.Places.{present}
use Rattle.model.specs.Writes.{Meaning, Write, bytes, Cut, Ran, Broken}
use Rattle.model.specs.Rounds.{round}
use Rattle.model.specs.Laws.{Spends}
use Rattle.model.proofs.Places.{byte_at, settled_survives}
use Rattle.model.proofs.Lists.{ran_size, ran_spends}
use Rattle.model.proofs.Rounds.{round_lasts, round_old_or_new}
use Rattle.board.specs.declared.rounds.Stopped.{Stopped}
use Rattle.board.specs.Rounds.{Round}
use Rattle.region.specs.Numbers.{part}
use Rattle.region.proofs.Numbers.{length-part, get_or-part}
use Rattle.survey.specs.Record.{record_at, record_size, record_end, old_record, new_record, Prepared, carries, Updated, Shown, Found, OldOrNew}

-- a round without limit on a board that is long enough is carried out whole
unlimited : (L p : ℕ) (bs : List ℕ) (m n : Meaning) (r : Result ℕ Stopped) → m.supply ≡ None → p + length bs ≤ m.size → Round L p bs m r n → Ran L (round L p bs) m n
unlimited L p bs m n (Ok k) free long w = w.ran
unlimited L p bs m n (Err s) free long (inl c) = cc (free, c.broken.supply)
unlimited L p [] m n (Err s) free long (inr t) = absurd (t.outside tt)
unlimited L p (b ∷ bs) m n (Err s) free long (inr t) = absurd (t.outside long)

-- a round keeps the number of places, whatever it answers
pub round_size : (L p : ℕ) (bs : List ℕ) (m n : Meaning) (r : Result ℕ Stopped) → Round L p bs m r n → n.size ≡ m.size
round_size L p bs m n (Ok k) w = ran_size L _ m n w.ran
round_size L p bs m n (Err s) (inl c) = ran_size L _ m n c.broken.ran
round_size L p bs m n (Err s) (inr t) = ap (λ x. x.size) t.untouched

pub prepared : (L p : ℕ) (bs : List ℕ) (s : Option ℕ) (l m n o : Meaning) (r : Result ℕ Stopped) → 1 ≤ L → p + length bs ≤ l.size → Cut None l m → Round L p bs m r n → Cut s n o → Prepared p bs s o
prepared L p bs s l m n o r some long first round second =
    let kept = round_size L p bs m n r round in
    let ran = unlimited L p bs m n r first.supply (omega arith) round in
    record {
      room = omega arith;
      supply = second.supply;
      places = λ k lt. settled_survives (p + k) _ n o s (omega arith) (round_lasts L p bs k m n some lt ran) second;
    }

-- k calls of the list, as many as the supply s carries, were carried out
pub record CarriedOut (L : ℕ) (ws : List Write) (s : Option ℕ) (k : ℕ) (m n : Meaning) : Type 0 where
  pub count : k ≡ carries ws s
  pub ran : Ran L (take k ws) m n

-- how many calls were carried out of a list: all of them, or as many as the supply had
pub ran_carries : (L : ℕ) (ws : List Write) (s : Option ℕ) (m n : Meaning) → m.supply ≡ s → Ran L ws m n → length ws ≡ carries ws s
ran_carries L ws s m n e r = spent s (subst (λ t. Spends (length ws) t n.supply) e (ran_spends L ws m n r).1)
  where
    spent : (s : Option ℕ) → Spends (length ws) s n.supply → length ws ≡ carries ws s
    spent None h = refl
    spent (Some s) h = sym (min-eq_right h.0)

pub broken_carries : (ws : List Write) (k : ℕ) (s : Option ℕ) → s ≡ Some k → k < length ws → k ≡ carries ws s
broken_carries ws k s e lt = sym (ap (carries ws) e ∙ min-eq_left (omega arith))

pub all_carried : (L : ℕ) (ws : List Write) (s : Option ℕ) (k : ℕ) (m n : Meaning) → m.supply ≡ s → k ≡ length ws → Ran L ws m n → CarriedOut L ws s k m n
all_carried L ws s k m n e count r =
    record {
      count = count ∙ ran_carries L ws s m n e r;
      ran = subst (λ vs. Ran L vs m n) (sym (take_all k ws (omega (arith, count)))) r;
    }

pub some_carried : (L : ℕ) (ws : List Write) (s : Option ℕ) (j k : ℕ) (m n : Meaning) → m.supply ≡ s → k ≡ j → Broken L ws m j n → CarriedOut L ws s k m n
some_carried L ws s j k m n e same b =
    record {
      count = same ∙ broken_carries ws j s (sym e ∙ b.supply) b.short;
      ran = subst (λ i. Ran L (take i ws) m n) (sym same) b.ran;
    }

-- the round that writes the new record over the old one, whatever it answers
pub updated : (L k : ℕ) (s : Option ℕ) (m n : Meaning) (r : Result ℕ Stopped) → Prepared record_at old_record s m → Round L record_at new_record m r n → MatchResult r (λ j. k ≡ j) (λ t. k ≡ t.carried) → Updated L s k n
updated L k s m n r p w e = record { count = (out r w e).count; start = m; old = p; ran = (out r w e).ran }
  where
    out : (r : Result ℕ Stopped) → Round L record_at new_record m r n → MatchResult r (λ j. k ≡ j) (λ t. k ≡ t.carried) → CarriedOut L (round L record_at new_record) s k m n
    out (Ok j) w e = all_carried L _ s k m n p.supply (e ∙ w.count) w.ran
    out (Err t) (inl c) e = some_carried L _ s _ k m n p.supply e c.broken
    out (Err t) (inr l) e = absurd (l.outside p.room)

-- after a power cut every byte of the record is old or new
pub found_either : (L : ℕ) (s : Option ℕ) (r : List ℕ) (n : Meaning) → Found L s r n → OldOrNew r
found_either L s r n f k lt =
    let u = f.updated in
    ⊎_elim (λ e. inl (f.shown.bytes k lt ∙ ap present e)) (λ e. inr (f.shown.bytes k lt ∙ ap present e))
    (round_old_or_new L record_at new_record f.carried k (get_or old_record k 0) u.start f.before n None lt (omega (arith, u.old.room)) (u.old.places k lt) u.ran f.cut)

pub updated_size : (L j : ℕ) (s : Option ℕ) (m : Meaning) → Updated L s j m → record_end ≤ m.size
updated_size L j s m u = let kept = ran_size L _ u.start m u.ran in omega arith

pub found_size : (L : ℕ) (s : Option ℕ) (r : List ℕ) (n : Meaning) → Found L s r n → record_end ≤ n.size
found_size L s r n f = let long = updated_size L f.carried s f.before f.updated in omega arith

-- the bytes that lie where the record is
pub shown : (m : Meaning) (r : List ℕ) → record_end ≤ m.size → r ≡ part (bytes m) record_at record_size → Shown m r
shown m r long e =
    record {
      size = ap length e ∙ length-part (bytes m) record_at record_size;
      bytes = λ k lt. ap (λ xs. get_or xs k 0) e ∙ (get_or-part (bytes m) record_at record_size k lt ∙ byte_at m (record_at + k) (omega arith));
    }
