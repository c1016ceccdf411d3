-- How far a list of writing calls has come, from what one call answers.
use Rattle.std.proofs.Common.{◌≡◌, ℕ, zero, suc, ◌+◌, ◌-◌, ◌*◌, ◌/◌, ◌<◌, ◌≤◌, List, [], ◌∷◌, ◌++◌, length, take, Some, Ok, Err, Result, MatchResult, sym, refl, ap, ◌∙◌, subst, inl, inr, mul-le-mul_right, div-mul-le_self, arith}
use Rattle.std.proofs.lemmas.List.{length-append, take_all}
use Rattle.model.specs.Writes.{Meaning, bytes, Write, settle, Within, Granted, Ran, Broken}
use Rattle.model.specs.Rounds.{stores, posts, lines, stores_and_posts, round, overwritten}
use Rattle.model.proofs.Lists.{ran_broken, ran_join, broken_first, broken_then, broken_out}
use Rattle.model.proofs.Rounds.{length-stores, round_parts, round_bytes, line_rises, lines_few}
use Rattle.model.specs.declared.faults.BoardFault.{BoardFault}
use Rattle.board.specs.declared.rounds.Stopped.{Stopped}
use Rattle.model.specs.Faults.{Fault}
use Rattle.model.specs.Calls.{Refused, Wrote}
use Rattle.board.specs.Rounds.{Carried, Fits, Whole, CutShort}

-- a call on the board is refused only for want of power
pub refused_power : (L : ℕ) (w : Write) (m : Meaning) (e : BoardFault) → Within L w m.size → Refused L w m e → (m.supply ≡ Some 0) × Fault 1 0 e
refused_power L w m e on (inl r) = absurd (r.0 on)
refused_power L w m e on (inr r) = (r.1, r.2)

-- the i-th call of the list is refused
pub stops : (L : ℕ) (ws : List Write) (i : ℕ) (w : Write) (m n o : Meaning) (e : BoardFault) → i < length ws → Ran L (take i ws) m n → Within L w n.size → Refused L w n e × (o ≡ n) → Fault 1 0 e × Broken L ws m i o
stops L ws i w m n o e lt r on (why, same) =
    let p = refused_power L w n e on why in
    (p.1, ran_broken L ws i m o lt (subst (λ x. Ran L (take i ws) m x) (sym same) r) (ap (λ x. x.supply) same ∙ p.0))

-- that call is answered with as many calls as were carried out before it
pub stops_with : (L : ℕ) (ws : List Write) (i : ℕ) (w : Write) (m n o : Meaning) (r : Result (Unit {0}) BoardFault) (q : Result ℕ Stopped) → i < length ws → Ran L (take i ws) m n → Within L w n.size → Wrote L w n r o
    → (f : BoardFault) × (r ≡ Err f) × (q ≡ Err (record { carried = i; fault = f })) → Carried L ws m q o
stops_with L ws i w m n o r q lt ran on wrote (f, e, a) =
    subst (λ x. Carried L ws m x o) (sym a) (stops L ws i w m n o f lt ran on (subst (λ x. Wrote L w n x o) e wrote))

pub granted_by : (L : ℕ) (w : Write) (m n : Meaning) (r : Result (Unit {0}) BoardFault) → Wrote L w m r n → r ≡ Ok tt → Granted L w m n
granted_by L w m n r wrote e = subst (λ x. Wrote L w m x n) e wrote

-- the lines of n places from p on, as the code counts them at a width w
pub record Reached (L p n w : ℕ) : Type 0 where
  pub first : p / w ≡ p / L
  pub ordered : p / w ≤ (p + (n - 1)) / w + 1
  pub count : (p + (n - 1)) / w + 1 - p / w ≡ lines L p n
  pub few : lines L p n ≤ n
  pub on_board : (l : ℕ) → l < (p + (n - 1)) / w + 1 → l * L < p + n

reached_at : (L p n : ℕ) → 1 ≤ L → Reached L p (suc n) L
reached_at L p n some =
    let back : suc n - 1 ≡ n = omega arith in
    let end : (p + (suc n - 1)) / L ≡ (p + n) / L = ap (λ k. (p + k) / L) back in
    let mono = line_rises L p (p + n) some (omega arith) in
    record {
      first = refl;
      ordered = omega arith;
      count = ap (λ k. k + 1 - p / L) end;
      few = lines_few L p (suc n) some;
      on_board = λ l lt. let le : l ≤ (p + n) / L = omega arith in omega (arith, mul-le-mul_right L le, div-mul-le_self (p + n) L);
    }

pub reached : (L p n w : ℕ) → 1 ≤ L → 0 < n → w ≡ L → Reached L p n w
reached L p zero w some lt e = absurd (omega arith)
reached L p (suc n) w some lt e = subst (Reached L p (suc n)) (sym e) (reached_at L p n some)

-- one list after another
pub carried_err : (L : ℕ) (ws : List Write) (m n : Meaning) (r : Result ℕ Stopped) (s : Stopped) → Carried L ws m r n → r ≡ Err s → Fault 1 0 s.fault × Broken L ws m s.carried n
carried_err L ws m n r s h e = subst (λ x. Carried L ws m x n) e h

pub carried_ok : (L : ℕ) (ws : List Write) (m n : Meaning) (r : Result ℕ Stopped) (k : ℕ) → Carried L ws m r n → r ≡ Ok k → (k ≡ length ws) × Ran L ws m n
carried_ok L ws m n r k h e = subst (λ x. Carried L ws m x n) e h

carried_first : (L : ℕ) (us vs : List Write) (m n : Meaning) (s : Stopped) → Fault 1 0 s.fault × Broken L us m s.carried n → Fault 1 0 s.fault × Broken L (us ++ vs) m s.carried n
carried_first L us vs m n s h = (h.0, broken_first L us vs s.carried m n h.1)

carried_then : (L : ℕ) (us vs : List Write) (j k : ℕ) (m n o : Meaning) (f : BoardFault) → (j ≡ length us) × Ran L us m n → Fault 1 0 f × Broken L vs n k o → Fault 1 0 f × Broken L (us ++ vs) m (j + k) o
carried_then L us vs j k m n o f h b =
    (b.0, subst (λ i. Broken L (us ++ vs) m (i + k) o) (sym h.0) (broken_then L us vs k m n o h.1 b.1))

-- the first is, and the second is not
pub carried_more : (L : ℕ) (us vs : List Write) (j : ℕ) (m n o : Meaning) (r q : Result ℕ Stopped) → (j ≡ length us) × Ran L us m n → Carried L vs n r o → (s : Stopped) × (r ≡ Err s) × (q ≡ Err (record { carried = j + s.carried; fault = s.fault }))
    → Carried L (us ++ vs) m q o
carried_more L us vs j m n o r q h i (s, e, f) =
    subst (λ x. Carried L (us ++ vs) m x o) (sym f) (carried_then L us vs j s.carried m n o s.fault h (carried_err L vs n o r s i e))

-- both are
pub carried_both : (L : ℕ) (us vs : List Write) (j k : ℕ) (m n o : Meaning) → (j ≡ length us) × Ran L us m n → (k ≡ length vs) × Ran L vs n o → (j + k ≡ length (us ++ vs)) × Ran L (us ++ vs) m o
carried_both L us vs j k m n o h i = (omega (arith, length-append us vs), ran_join L us vs m n o h.1 i.1)

-- without power a settle is refused, and changes nothing
settle_out : (L : ℕ) (n o : Meaning) (r : Result (Unit {0}) BoardFault) → n.supply ≡ Some 0 → Wrote L settle n r o → o ≡ n
settle_out L n o (Ok u) e g = absurd (g.powered e)
settle_out L n o (Err f) e g = g.1

module _ (L p : ℕ) (bs : List ℕ) (m : Meaning) (some : 0 < length bs) (on : p + length bs ≤ m.size) where
  fitting : (xs : List ℕ) → xs ≡ bs → Fits p xs m.size
  fitting [] e = tt
  fitting (x ∷ xs) e = subst (λ ys. p + length ys ≤ m.size) (sym e) on

  whole : (k : ℕ) (n : Meaning) → (k ≡ length (round L p bs)) × Ran L (round L p bs) m n → Whole L p bs m k n
  whole k n (count, ran) =
      let r : Ran L (take k (round L p bs)) m n = subst (λ ws. Ran L ws m n) (sym (take_all k (round L p bs) (omega arith))) ran in
      let long : length bs ≤ k = omega (arith, ap length (sym (round_parts L p bs some)), length-append (stores_and_posts L p bs) (settle ∷ []), length-append (stores p bs) (posts (p / L) (lines L p (length bs))), length-stores p bs) in
      record { fits = fitting bs refl; count = count; ran = ran; present_bytes = round_bytes L p bs k m n r ∙ ap (overwritten (bytes m) p) (take_all k bs long) }

  short : (s : Stopped) (n : Meaning) → Fault 1 0 s.fault × Broken L (round L p bs) m s.carried n → CutShort L p bs m s n
  short s n (fault, broken) =
      record { fits = fitting bs refl; fault = fault; broken = broken; present_bytes = round_bytes L p bs s.carried m n broken.ran }

  -- what `write_fitting` ensures of an answer
  abbrev Written : Result ℕ Stopped → Meaning → Type 0
  Written q o = MatchResult q (λ k. Whole L p bs m k o) (λ s. CutShort L p bs m s o)

  -- the stores and posts are refused, and the settle with them
  pub written_short : (n o : Meaning) (w q : Result ℕ Stopped) (r : Result (Unit {0}) BoardFault) → Carried L (stores_and_posts L p bs) m w n → Wrote L settle n r o → (s : Stopped) × (w ≡ Err s) × (q ≡ Err s) → Written q o
  written_short n o w q r written wrote (s, e, a) =
      let h = carried_err L (stores_and_posts L p bs) m n w s written e in
      let same = settle_out L n o r (broken_out L (stores_and_posts L p bs) s.carried m n h.1) wrote in
      let all = carried_first L (stores_and_posts L p bs) (settle ∷ []) m n s h in
      let cut = short s o (all.0, subst (λ x. Broken L (round L p bs) m s.carried x) (sym same) (subst (λ ws. Broken L ws m s.carried n) (round_parts L p bs some) all.1)) in
      subst (λ x. Written x o) (sym a) cut

  -- only the settle is refused
  pub settled_short : (k : ℕ) (n o : Meaning) (r : Result (Unit {0}) BoardFault) (q : Result ℕ Stopped) → (k ≡ length (stores_and_posts L p bs)) × Ran L (stores_and_posts L p bs) m n → Wrote L settle n r o → (f : BoardFault) × (r ≡ Err f) × (q ≡ Err (record { carried = k; fault = f }))
      → Written q o
  settled_short k n o r q h wrote (f, e, a) =
      let last = stops L (settle ∷ []) 0 settle n n o f (omega arith) refl tt (subst (λ x. Wrote L settle n x o) e wrote) in
      let all = carried_then L (stores_and_posts L p bs) (settle ∷ []) k 0 m n o f h last in
      let same : k + 0 ≡ k = omega arith in
      let cut = short (record { carried = k; fault = f }) o (all.0, subst (λ ws. Broken L ws m k o) (round_parts L p bs some) (subst (λ i. Broken L (stores_and_posts L p bs ++ (settle ∷ [])) m i o) same all.1)) in
      subst (λ x. Written x o) (sym a) cut

  -- all is granted
  pub settled_whole : (k : ℕ) (n o : Meaning) (r : Result (Unit {0}) BoardFault) → (k ≡ length (stores_and_posts L p bs)) × Ran L (stores_and_posts L p bs) m n → Wrote L settle n r o → r ≡ Ok tt → Whole L p bs m (k + 1) o
  settled_whole k n o r h wrote e =
      let all = carried_both L (stores_and_posts L p bs) (settle ∷ []) k 1 m n o h (refl, (o, granted_by L settle n o r wrote e, refl)) in
      whole (k + 1) o (subst (λ ws. (k + 1 ≡ length ws) × Ran L ws m o) (round_parts L p bs some) all)

-- no bytes
pub whole_none : (L p : ℕ) (bs : List ℕ) (m : Meaning) → length bs ≡ 0 → Whole L p bs m 0 m
unfolding Rattle.model.specs.Rounds.round
whole_none L p [] m e = record { fits = tt; count = refl; ran = refl; present_bytes = refl }
whole_none L p (b ∷ bs) m e = absurd (omega arith)
