-- A round of writing, whole and cut off after any number of calls.
use Rattle.std.proofs.Common.{◌≡◌, ℕ, zero, suc, ◌+◌, ◌-◌, ◌*◌, ◌/◌, ◌<◌, ◌≤◌, ◌⊎◌, List, [], ◌∷◌, ◌++◌, length, get_or, take, set, sym, refl, ap, ◌∙◌, subst, inl, inr, ⊎_elim, append_assoc, div-lt_iff_lt-mul, le-div_iff_mul-le, le-mul_of_pos_right, div-mul-le_self, mul-div_cancel, arith}
use native.Mathlib.Nat.{add-mul-div_right}
use Rattle.std.proofs.lemmas.Bool.{cases_eq}
use Rattle.std.proofs.lemmas.List.{length-append}
use Rattle.model.specs.Places.{settled}
use Rattle.model.specs.Writes.{Meaning, bytes, Write, store, post, settle, Granted, Ran, Spared, bytes_after}
use Rattle.model.specs.Rounds.{stores, posts, lines, stores_and_posts, round, overwritten}
use Rattle.model.specs.Laws.{Once, Has, Outside, RoundPosts, RoundShort, RoundOutside, RoundOldOrNew, RoundLasts, RoundBytes}
use Rattle.model.proofs.Places.{holds, Rests, rests_steady, Shows, shows_steady, Ready, store_shows, post_ready, stays_ready, settle_rests, settled_survives}
use Rattle.model.proofs.Lists.{ran_split, ran_size, spared_take, spared_append, once_take, once_before, ran_holds, cut_old_or_new, ran_bytes}

-- which places a round stores at
spared_posts : (q l n : ℕ) → Spared q (posts l n)
spared_posts q l zero = tt
spared_posts q l (suc n) = (tt, spared_posts q (suc l) n)

spared_end : (q l n : ℕ) → Spared q (posts l n ++ (settle ∷ []))
spared_end q l n = spared_append q (posts l n) (settle ∷ []) (spared_posts q l n) (tt, tt)

spared_stores : (q p : ℕ) (bs : List ℕ) → Outside p (length bs) q → Spared q (stores p bs)
spared_stores q p [] out = tt
spared_stores q p (b ∷ bs) out = (λ e. out (omega arith) (omega arith), spared_stores q (suc p) bs (λ le lt. out (omega arith) (omega arith)))

pub spared_round : (L q p : ℕ) (bs : List ℕ) → Outside p (length bs) q → Spared q (round L p bs)
unfolding round
spared_round L q p [] out = tt
spared_round L q p (b ∷ bs) out = spared_append q (stores p (b ∷ bs)) _ (spared_stores q p (b ∷ bs) out) (spared_end q (p / L) (lines L p (length (b ∷ bs))))

once_stores : (p i : ℕ) (bs : List ℕ) → i < length bs → Once (p + i) (get_or bs i 0) (stores p bs)
once_stores p i [] lt = absurd (omega arith)
once_stores p zero (b ∷ bs) lt =
    let e : p ≡ p + 0 = omega arith in
    inr (ap (λ q. store q b) e, spared_stores (p + 0) (suc p) bs (λ le _. omega arith))
once_stores p (suc i) (b ∷ bs) lt =
    let e : suc p + i ≡ p + suc i = omega arith in
    inl (λ f. omega arith, subst (λ q. Once q (get_or bs i 0) (stores (suc p) bs)) e (once_stores (suc p) i bs (omega arith)))

pub once_round : (L p i : ℕ) (bs : List ℕ) → i < length bs → Once (p + i) (get_or bs i 0) (round L p bs)
unfolding round
once_round L p i [] lt = absurd (omega arith)
once_round L p i (b ∷ bs) lt = once_before (p + i) (get_or (b ∷ bs) i 0) (stores p (b ∷ bs)) _ (once_stores p i (b ∷ bs) lt) (spared_end (p + i) (p / L) (lines L p (length (b ∷ bs))))

pub round_outside : RoundOutside
round_outside L p bs k q a m n o s lt out e r =
    let stays = ran_holds (Rests a) (rests_steady a) L q (take k (round L p bs)) m n r lt (spared_take k q (round L p bs) (spared_round L q p bs out)) e in
    (stays, λ c. settled_survives q a n o s (subst (λ z. q < z) (sym (ran_size L (take k (round L p bs)) m n r)) lt) stays c)

pub round_old_or_new : RoundOldOrNew
round_old_or_new L p bs k i a m n o s lt within e r c =
    cut_old_or_new L (p + i) a (get_or bs i 0) (take k (round L p bs)) m n o s within (once_take k (p + i) (get_or bs i 0) (round L p bs) (once_round L p i bs lt)) e r c

-- the whole round
within_size : (L q : ℕ) (ws : List Write) (m n : Meaning) → Ran L ws m n → q < m.size → q < n.size
within_size L q ws m n r lt = subst (λ z. q < z) (sym (ran_size L ws m n r)) lt

stores_show : (L p i : ℕ) (bs : List ℕ) (m n : Meaning) → i < length bs → Ran L (stores p bs) m n → (p + i < n.size) × Shows (get_or bs i 0) (n.at (p + i))
stores_show L p i [] m n lt r = absurd (omega arith)
stores_show L p zero (b ∷ bs) m n lt r =
    let e : p ≡ p + 0 = omega arith in
    let on : p < r.0.size = subst (λ z. p < z) (sym r.1.size) r.1.within in
    subst (λ q. (q < n.size) × Shows b (n.at q)) e (
      within_size L p (stores (suc p) bs) r.0 n r.2 on,
      ran_holds (Shows b) (shows_steady b) L p (stores (suc p) bs) r.0 n r.2 on (spared_stores p (suc p) bs (λ le _. omega arith)) (store_shows L p b m r.0 r.1),
    )
stores_show L p (suc i) (b ∷ bs) m n lt r =
    let e : suc p + i ≡ p + suc i = omega arith in
    subst (λ q. (q < n.size) × Shows (get_or bs i 0) (n.at q)) e (stores_show L (suc p) i bs r.0 n (omega arith) r.2)

-- after posts that came by the place's line, a settle
ready_settles : (L q b l n : ℕ) (m o : Meaning) → q < m.size → Ready b (m.at q) → Ran L (posts l n ++ (settle ∷ [])) m o → o.at q ≡ settled b
ready_settles L q b l zero m o lt h r = subst (λ x. x.at q ≡ settled b) (sym r.2) (settle_rests L q b m r.0 r.1 lt h)
ready_settles L q b l (suc n) m o lt h r =
    ready_settles L q b (suc l) n r.0 o (subst (λ z. q < z) (sym r.1.size) lt) (stays_ready L q b (post l) m r.0 r.1 lt tt h) r.2

posts_settle : (L q b l n : ℕ) (m o : Meaning) → q < m.size → l ≤ q / L → q / L < l + n → Shows b (m.at q) → Ran L (posts l n ++ (settle ∷ [])) m o → o.at q ≡ settled b
posts_settle L q b l zero m o lt le up h r = absurd (omega arith)
posts_settle L q b l (suc n) m o lt le up h r =
    let lt' : q < r.0.size = subst (λ z. q < z) (sym r.1.size) lt in
    ⊎_elim
    (λ e. ready_settles L q b (suc l) n r.0 o lt' (post_ready L q b m r.0 (subst (λ x. Granted L (post x) m r.0) e r.1) lt h) r.2)
    (λ ne. posts_settle L q b (suc l) n r.0 o lt' (omega arith) (omega arith)
    (holds (Shows b) (shows_steady b) L q (post l) m r.0 r.1 lt tt h) r.2)
    (cases_eq l (q / L))

-- a later place lies in no earlier line
pub line_rises : (L p q : ℕ) → 0 < L → p ≤ q → p / L ≤ q / L
line_rises L p q some le = let below : p / L * L ≤ q = omega (arith, div-mul-le_self p L) in (le-div_iff_mul-le some).1 below

-- the line of the i-th place lies among the lines of all
line_reached : (L p i n : ℕ) → 0 < L → i < suc n → (p / L ≤ (p + i) / L) × ((p + i) / L < p / L + lines L p (suc n))
line_reached L p i n some lt =
    let low = line_rises L p (p + i) some (omega arith) in
    let high = line_rises L (p + i) (p + n) some (omega arith) in
    (low, omega arith)

pub round_lasts : RoundLasts
unfolding round
round_lasts L p [] i m n some lt r = absurd (omega arith)
round_lasts L p (b ∷ bs) i m n some lt r =
    let count = lines L p (length (b ∷ bs)) in
    let s = ran_split L (stores p (b ∷ bs)) (posts (p / L) count ++ (settle ∷ [])) m n r in
    let shows = stores_show L p i (b ∷ bs) m s.0 lt s.1 in
    let reached = line_reached L p i (length bs) some lt in
    posts_settle L (p + i) (get_or (b ∷ bs) i 0) (p / L) count s.0 n shows.0 reached.0 reached.1 shows.1 s.2

-- the present bytes
end_writes : (k l n : ℕ) (xs : List ℕ) → bytes_after (take k (posts l n ++ (settle ∷ []))) xs ≡ xs
end_writes zero l n xs = refl
end_writes (suc zero) l zero xs = refl
end_writes (suc (suc k)) l zero xs = refl
end_writes (suc k) l (suc n) xs = end_writes k (suc l) n xs

stores_write : (k p : ℕ) (bs : List ℕ) (l n : ℕ) (xs : List ℕ) → bytes_after (take k (stores p bs ++ (posts l n ++ (settle ∷ [])))) xs ≡ overwritten xs p (take k bs)
stores_write zero p bs l n xs = refl
stores_write (suc k) p [] l n xs = end_writes (suc k) l n xs
stores_write (suc k) p (b ∷ bs) l n xs = stores_write k (suc p) bs l n (set xs p b)

round_writes : (L k p : ℕ) (bs xs : List ℕ) → bytes_after (take k (round L p bs)) xs ≡ overwritten xs p (take k bs)
unfolding round
round_writes L zero p bs xs = refl
round_writes L (suc k) p [] xs = refl
round_writes L (suc k) p (b ∷ bs) xs = stores_write (suc k) p (b ∷ bs) (p / L) (lines L p (length (b ∷ bs))) xs

pub round_bytes : RoundBytes
round_bytes L p bs k m n r = ran_bytes L (take k (round L p bs)) m n r ∙ round_writes L k p bs (bytes m)

-- which call of a round comes when
pub length-stores : (p : ℕ) (bs : List ℕ) → length (stores p bs) ≡ length bs
length-stores p [] = refl
length-stores p (b ∷ bs) = ap suc (length-stores (suc p) bs)

pub length-posts : (l n : ℕ) → length (posts l n) ≡ n
length-posts l zero = refl
length-posts l (suc n) = ap suc (length-posts (suc l) n)

pub get_or-stores : (p : ℕ) (bs : List ℕ) (k : ℕ) → k < length bs → get_or (stores p bs) k settle ≡ store (p + k) (get_or bs k 0)
get_or-stores p [] k lt = absurd (omega arith)
get_or-stores p (b ∷ bs) zero lt = let e : p ≡ p + 0 = omega arith in ap (λ q. store q b) e
get_or-stores p (b ∷ bs) (suc k) lt =
    let e : suc p + k ≡ p + suc k = omega arith in get_or-stores (suc p) bs k (omega arith) ∙ ap (λ q. store q (get_or bs k 0)) e

pub get_or-posts : (l n k : ℕ) → k < n → get_or (posts l n) k settle ≡ post (l + k)
get_or-posts l zero k lt = absurd (omega arith)
get_or-posts l (suc n) zero lt = let e : l ≡ l + 0 = omega arith in ap post e
get_or-posts l (suc n) (suc k) lt = let e : suc l + k ≡ l + suc k = omega arith in get_or-posts (suc l) n k (omega arith) ∙ ap post e

-- a round of bytes: its stores and posts, and then its settle
pub round_parts : (L p : ℕ) (bs : List ℕ) → 0 < length bs → stores_and_posts L p bs ++ (settle ∷ []) ≡ round L p bs
unfolding round
round_parts L p [] lt = absurd (omega arith)
round_parts L p (b ∷ bs) lt = append_assoc (stores p (b ∷ bs)) (posts (p / L) (lines L p (length (b ∷ bs)))) (settle ∷ [])

-- at most as many lines as places, and how many calls that makes
pub lines_few : (L p n : ℕ) → 0 < L → lines L p n ≤ n
lines_few L p zero some = omega arith
lines_few L p (suc n) some =
    let wide : n ≤ n * L = le-mul_of_pos_right n some in
    let most : (p + n) / L ≤ p / L + n = subst (λ k. (p + n) / L ≤ k) (add-mul-div_right p n some) (line_rises L (p + n) (p + n * L) some (omega arith)) in
    omega arith

pub round_short : RoundShort
unfolding round
round_short L p [] some = omega arith
round_short L p (b ∷ bs) some =
    let n : ℕ = lines L p (length (b ∷ bs)) in
    omega (
      arith,
      length-append (stores p (b ∷ bs)) (posts (p / L) n ++ (settle ∷ [])),
      length-append (posts (p / L) n) (settle ∷ []),
      length-stores p (b ∷ bs),
      length-posts (p / L) n,
      lines_few L p (length (b ∷ bs)) some,
    )

-- which lines a round posts
has_append : (w : Write) (us vs : List Write) → Has w vs → Has w (us ++ vs)
has_append w [] vs h = h
has_append w (u ∷ us) vs h = inr (has_append w us vs h)

has_split : (w : Write) (us vs : List Write) → Has w (us ++ vs) → Has w us ⊎ Has w vs
has_split w [] vs h = inr h
has_split w (u ∷ us) vs (inl e) = inl (inl e)
has_split w (u ∷ us) vs (inr h) = ⊎_elim (λ x. inl (inr x)) (λ x. inr x) (has_split w us vs h)

has_posts : (k l n : ℕ) (ws : List Write) → l ≤ k → k < l + n → Has (post k) (posts l n ++ ws)
has_posts k l zero ws le lt = absurd (omega arith)
has_posts k l (suc n) ws le lt = ⊎_elim (λ e. inl (ap post e)) (λ ne. inr (has_posts k (suc l) n ws (omega arith) (omega arith))) (cases_eq k l)

posted_line : {k l : ℕ} → post k ≡ post l → k ≡ l
posted_line e = cc

posts_have : (k l n : ℕ) → Has (post k) (posts l n) → (l ≤ k) × (k < l + n)
posts_have k l zero h = absurd h
posts_have k l (suc n) (inl e) = let q : k ≡ l = posted_line e in (omega arith, omega arith)
posts_have k l (suc n) (inr h) = let r = posts_have k (suc l) n h in (omega arith, omega arith)

no_post : (k p : ℕ) (bs : List ℕ) → Has (post k) (stores p bs) → ⊥
no_post k p [] h = h
no_post k p (b ∷ bs) (inl e) = let z : ◌≡◌ {A = ℕ} 0 1 = cc in omega arith
no_post k p (b ∷ bs) (inr h) = no_post k (suc p) bs h

-- a line from the first to the last holds one of the places
line_held : (L p n l : ℕ) → 0 < L → p / L ≤ l → l < p / L + lines L p (suc n) → (i : ℕ) × (i < suc n) × ((p + i) / L ≡ l)
line_held L p n l some low high =
    let rises = line_rises L p (p + n) some (omega arith) in
    let last : l ≤ (p + n) / L = omega arith in
    ⊎_elim
    (λ e. let z : p + 0 ≡ p = omega arith in (0, omega arith, ap (λ q. q / L) z ∙ sym e))
    (λ ne.
    let past : p < l * L = (div-lt_iff_lt-mul some).0 (omega arith) in
    let end : l * L ≤ p + n = (le-div_iff_mul-le some).0 last in
    let place : p + (l * L - p) ≡ l * L = omega arith in
    (l * L - p, omega arith, ap (λ q. q / L) place ∙ mul-div_cancel l some))
    (cases_eq l (p / L))

pub round_posts : RoundPosts
unfolding round
round_posts L p [] some = (λ i lt. absurd (omega arith), λ l h. absurd h)
round_posts L p (b ∷ bs) some =
    let count = lines L p (length (b ∷ bs)) in (
      λ i lt. let r = line_reached L p i (length bs) some lt in has_append (post ((p + i) / L)) (stores p (b ∷ bs)) _ (has_posts ((p + i) / L) (p / L) count (settle ∷ []) r.0 r.1),
      λ l h.
          ⊎_elim
          (λ x. absurd (no_post l p (b ∷ bs) x))
          (λ x. ⊎_elim
          (λ y. let r = posts_have l (p / L) count y in line_held L p (length bs) l some r.0 r.1)
          (λ y. absurd (⊎_elim (λ e. let z : ◌≡◌ {A = ℕ} 0 1 = cc in omega arith) (λ n. n) y))
          (has_split (post l) (posts (p / L) count) (settle ∷ []) x))
          (has_split (post l) (stores p (b ∷ bs)) (posts (p / L) count ++ (settle ∷ [])) h),
    )
