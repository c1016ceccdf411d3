-- Lists of granted calls: how they part and join, and a place, the power and the bytes through them.
use Rattle.std.proofs.Common.{◌≡◌, ℕ, zero, suc, ◌+◌, ◌-◌, ◌/◌, ◌<◌, ◌≤◌, List, [], ◌∷◌, ◌++◌, length, get_or, take, Some, None, Option, sym, refl, ap, ◌∙◌, subst, inl, inr, ⊎_elim, arith}
use Rattle.std.proofs.lemmas.Bool.{cases_lt}
use Rattle.std.proofs.Math.Seq.{take-append-add}
use Rattle.std.proofs.lemmas.List.{take_more, take_all, length-take-le, length-append, take-append-le}
use Rattle.model.specs.Places.{Place, settled}
use Rattle.model.specs.Writes.{Meaning, bytes, Write, store, post, settle, spent, Granted, Ran, Broken, Spared, SparedLine, bytes_after}
use Rattle.model.specs.Laws.{Once, Spends, StoredLasts, CutOldOrNew, RanBytes, RanSpends}
use Rattle.model.proofs.Places.{Steady, holds, Rests, rests_steady, Shows, shows_steady, Ready, Either, either_steady, store_shows, store_either, post_ready, stays_ready, settle_rests, cut_either, bytes_follow}

-- parts of a list
pub ran_split : (L : ℕ) (us vs : List Write) (m o : Meaning) → Ran L (us ++ vs) m o → (n : Meaning) × Ran L us m n × Ran L vs n o
ran_split L [] vs m o r = (m, refl, r)
ran_split L (u ∷ us) vs m o r = let s = ran_split L us vs r.0 o r.2 in (s.0, (r.0, r.1, s.1), s.2)

pub ran_join : (L : ℕ) (us vs : List Write) (m n o : Meaning) → Ran L us m n → Ran L vs n o → Ran L (us ++ vs) m o
ran_join L [] vs m n o e s = subst (λ x. Ran L vs x o) e s
ran_join L (u ∷ us) vs m n o r s = (r.0, r.1, ran_join L us vs r.0 n o r.2 s)

pub spared_take : (k q : ℕ) (ws : List Write) → Spared q ws → Spared q (take k ws)
spared_take zero q ws h = tt
spared_take (suc k) q [] h = tt
spared_take (suc k) q (w ∷ ws) h = (h.0, spared_take k q ws h.1)

pub spared_append : (q : ℕ) (us vs : List Write) → Spared q us → Spared q vs → Spared q (us ++ vs)
spared_append q [] vs h k = k
spared_append q (u ∷ us) vs h k = (h.0, spared_append q us vs h.1 k)

pub once_take : (k q b : ℕ) (ws : List Write) → Once q b ws → Once q b (take k ws)
once_take zero q b ws h = tt
once_take (suc k) q b [] h = tt
once_take (suc k) q b (w ∷ ws) (inl h) = inl (h.0, once_take k q b ws h.1)
once_take (suc k) q b (w ∷ ws) (inr h) = inr (h.0, spared_take k q ws h.1)

pub once_before : (q b : ℕ) (us vs : List Write) → Once q b us → Spared q vs → Once q b (us ++ vs)
once_before q b [] vs h k = spared_once vs k
  where
    spared_once : (ws : List Write) → Spared q ws → Once q b ws
    spared_once [] s = tt
    spared_once (w ∷ ws) s = inl (s.0, spared_once ws s.1)
once_before q b (u ∷ us) vs (inl h) k = inl (h.0, once_before q b us vs h.1 k)
once_before q b (u ∷ us) vs (inr h) k = inr (h.0, spared_append q us vs h.1 k)

-- the power
spends_none : (s : Option ℕ) → Spends 0 s s
spends_none None = refl
spends_none (Some s) = let e : s ≡ s - 0 = omega arith in (omega arith, ap Some e)

spends_next : (k : ℕ) (s t u : Option ℕ) → (s ≡ Some 0 → ⊥) → t ≡ spent s → Spends k t u → Spends (suc k) s u
spends_next k None t u some e h = subst (λ x. Spends k x u) e h
spends_next k (Some s) t u some e h =
    let lt : 0 < s = ⊎_elim (λ l. l) (λ l. let z : s ≡ 0 = omega arith in absurd (some (ap Some z))) (cases_lt 0 s) in
    let b : Spends k (Some (s - 1)) u = subst (λ x. Spends k x u) e h in
    let d : s - 1 - k ≡ s - suc k = omega arith in
    (omega (arith, b.0), b.1 ∙ ap Some d)

pub ran_spends : RanSpends
ran_spends L [] m n e = (ap (λ x. x.size) e, subst (λ x. Spends 0 m.supply x.supply) (sym e) (spends_none m.supply))
ran_spends L (w ∷ ws) m n r =
    let rest = ran_spends L ws r.0 n r.2 in
    (rest.0 ∙ r.1.size, spends_next (length ws) m.supply r.0.supply n.supply r.1.powered r.1.supply rest.1)

pub ran_size : (L : ℕ) (ws : List Write) (m n : Meaning) → Ran L ws m n → n.size ≡ m.size
ran_size L ws m n r = (ran_spends L ws m n r).0

still : (L q : ℕ) (w : Write) (m n : Meaning) → Granted L w m n → q < m.size → q < n.size
still L q w m n g lt = subst (λ s. q < s) (sym g.size) lt

-- a place
pub ran_holds : (P : Place → Type 0) → Steady P → (L q : ℕ) (ws : List Write) (m n : Meaning) → Ran L ws m n → q < m.size → Spared q ws → P (m.at q) → P (n.at q)
ran_holds P s L q [] m n e lt sp h = subst (λ x. P (x.at q)) (sym e) h
ran_holds P s L q (w ∷ ws) m n r lt sp h =
    ran_holds P s L q ws r.0 n r.2 (still L q w m r.0 r.1 lt) sp.1 (holds P s L q w m r.0 r.1 lt sp.0 h)

pub ran_ready : (L q b : ℕ) (ws : List Write) (m n : Meaning) → Ran L ws m n → q < m.size → SparedLine L q ws → Ready b (m.at q) → Ready b (n.at q)
ran_ready L q b [] m n e lt sp h = subst (λ x. Ready b (x.at q)) (sym e) h
ran_ready L q b (w ∷ ws) m n r lt sp h =
    ran_ready L q b ws r.0 n r.2 (still L q w m r.0 r.1 lt) sp.1 (stays_ready L q b w m r.0 r.1 lt sp.0 h)

ran_either : (L q a b : ℕ) (ws : List Write) (m n : Meaning) → q < m.size → Once q b ws → m.at q ≡ settled a → Ran L ws m n → Either a b (n.at q)
ran_either L q a b [] m n lt h e r = subst (λ x. Either a b (x.at q)) (sym r) (subst (Either a b) (sym e) (inl refl))
ran_either L q a b (w ∷ ws) m n lt (inl h) e r =
    ran_either L q a b ws r.0 n (still L q w m r.0 r.1 lt) h.1 (holds (Rests a) (rests_steady a) L q w m r.0 r.1 lt h.0 e) r.2
ran_either L q a b (w ∷ ws) m n lt (inr h) e r =
    ran_holds (Either a b) (either_steady a b) L q ws r.0 n r.2 (still L q w m r.0 r.1 lt) h.1
    (store_either L q a b m r.0 (subst (λ x. Granted L x m r.0) h.0 r.1) e)

pub cut_old_or_new : CutOldOrNew
cut_old_or_new L q a b ws m n o s lt once e r c =
    cut_either q a b n o s (subst (λ z. q < z) (sym (ran_size L ws m n r)) lt) (ran_either L q a b ws m n lt once e r) c

pub stored_lasts : StoredLasts
stored_lasts L p b us vs m n before after r =
    let lt = still L p (store p b) m r.0 r.1 r.1.within in
    let u = ran_split L us (post (p / L) ∷ (vs ++ (settle ∷ []))) r.0 n r.2 in
    let lt' = subst (λ z. p < z) (sym (ran_size L us r.0 u.0 u.1)) lt in
    let shows = ran_holds (Shows b) (shows_steady b) L p us r.0 u.0 u.1 lt before (store_shows L p b m r.0 r.1) in
    let q = u.2 in
    let lt'' = still L p (post (p / L)) u.0 q.0 q.1 lt' in
    let v = ran_split L vs (settle ∷ []) q.0 n q.2 in
    let ready = ran_ready L p b vs q.0 v.0 v.1 lt'' after (post_ready L p b u.0 q.0 q.1 lt' shows) in
    let last = settle_rests L p b v.0 v.2.0 v.2.1 (subst (λ z. p < z) (sym (ran_size L vs q.0 v.0 v.1)) lt'') ready in
    subst (λ x. x.at p ≡ settled b) (sym v.2.2) last

-- the present bytes
pub ran_bytes : RanBytes
ran_bytes L [] m n e = ap bytes e
ran_bytes L (w ∷ ws) m n r = ran_bytes L ws r.0 n r.2 ∙ ap (bytes_after ws) (bytes_follow L w m r.0 r.1)

-- how far a list has come: one call more, and the end of the power
pub ran_next : (L : ℕ) (ws : List Write) (i : ℕ) (w : Write) (m n o : Meaning) → i < length ws → get_or ws i settle ≡ w → Ran L (take i ws) m n → Granted L w n o → Ran L (take (i + 1) ws) m o
ran_next L ws i w m n o lt e r g =
    let longer : take (i + 1) ws ≡ take i ws ++ (w ∷ []) = take_more ws i settle lt ∙ ap (λ v. take i ws ++ (v ∷ [])) e in
    subst (λ vs. Ran L vs m o) (sym longer) (ran_join L (take i ws) (w ∷ []) m n o r (o, g, refl))

spends_back : (k j : ℕ) (s : Option ℕ) → Spends k s (Some j) → s ≡ Some (k + j)
spends_back k j None e = let z : ◌≡◌ {A = ℕ} 0 1 = cc in absurd (omega arith)
spends_back k j (Some s) h =
    let d : j ≡ s - k = cc in
    let e : s ≡ k + j = omega (arith, h.0) in ap Some e

-- the supply at the start, from what is left of it
pub ran_back : (L : ℕ) (ws : List Write) (j : ℕ) (m n : Meaning) → Ran L ws m n → n.supply ≡ Some j → m.supply ≡ Some (length ws + j)
ran_back L ws j m n r e = spends_back (length ws) j m.supply (subst (Spends (length ws) m.supply) e (ran_spends L ws m n r).1)

pub ran_broken : (L : ℕ) (ws : List Write) (i : ℕ) (m n : Meaning) → i < length ws → Ran L (take i ws) m n → n.supply ≡ Some 0 → Broken L ws m i n
ran_broken L ws i m n lt r e =
    let long : length (take i ws) + 0 ≡ i = omega (arith, length-take-le i ws (omega arith)) in
    record { short = lt; supply = ran_back L (take i ws) 0 m n r e ∙ ap Some long; ran = r }

pub broken_first : (L : ℕ) (us vs : List Write) (k : ℕ) (m n : Meaning) → Broken L us m k n → Broken L (us ++ vs) m k n
broken_first L us vs k m n b =
    record {
      short = omega (arith, length-append us vs, b.short);
      supply = b.supply;
      ran = subst (λ ws. Ran L ws m n) (sym (take-append-le k us vs (omega (arith, b.short)))) b.ran;
    }

-- a list of two parts, cut off in the first or in the second
pub ran_first : (L k : ℕ) (us vs : List Write) (m o : Meaning) → k ≤ length us → Ran L (take k (us ++ vs)) m o → Ran L (take k us) m o
ran_first L k us vs m o le r = subst (λ ws. Ran L ws m o) (take-append-le k us vs le) r

pub ran_second : (L k : ℕ) (us vs : List Write) (m o : Meaning) → length us ≤ k → Ran L (take k (us ++ vs)) m o → (n : Meaning) × Ran L us m n × Ran L (take (k - length us) vs) n o
ran_second L k us vs m o le r =
    let e : k ≡ length us + (k - length us) = omega arith in
    ran_split L us (take (k - length us) vs) m o (subst (λ ws. Ran L ws m o) (ap (λ i. take i (us ++ vs)) e ∙ take-append-add us vs (k - length us)) r)

pub broken_then : (L : ℕ) (us vs : List Write) (k : ℕ) (m n o : Meaning) → Ran L us m n → Broken L vs n k o → Broken L (us ++ vs) m (length us + k) o
broken_then L us vs k m n o r b =
    record {
      short = omega (arith, length-append us vs, b.short);
      supply = ran_back L us k m n r b.supply;
      ran = subst (λ ws. Ran L ws m o) (sym (take-append-add us vs k)) (ran_join L us (take k vs) m n o r b.ran);
    }

pub ran_all : (L : ℕ) (ws : List Write) (i : ℕ) (m n : Meaning) → length ws ≤ i → Ran L (take i ws) m n → Ran L ws m n
ran_all L ws i m n le r = subst (λ vs. Ran L vs m n) (take_all i ws le) r

pub ran_at : (L : ℕ) (ws : List Write) (i j : ℕ) (m n : Meaning) → i ≡ j → Ran L (take i ws) m n → Ran L (take j ws) m n
ran_at L ws i j m n e r = subst (λ k. Ran L (take k ws) m n) e r

-- a list that power ended leaves none
pub broken_out : (L : ℕ) (ws : List Write) (k : ℕ) (m n : Meaning) → Broken L ws m k n → n.supply ≡ Some 0
broken_out L ws k m n b =
    let h : Spends (length (take k ws)) (Some k) n.supply = subst (λ s. Spends (length (take k ws)) s n.supply) b.supply (ran_spends L (take k ws) m n b.ran).1 in
    let none : k - length (take k ws) ≡ 0 = omega (arith, length-take-le k ws (omega (arith, b.short))) in
    h.1 ∙ ap Some none
