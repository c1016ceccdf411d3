-- One place through granted calls and cuts. Only this file opens the relations of a call.
use Rattle.std.proofs.Common.{◌≡◌, ℕ, ◌/◌, ◌<◌, Bool, true, false, ◌⊎◌, List, length, get_or, set, Some, None, Option, sym, refl, ap, ◌∙◌, subst, inl, inr, ⊎_elim, arith, length-set}
use Rattle.std.proofs.lemmas.Bool.{cases_eq}
use Rattle.std.proofs.lemmas.List.{get_or-set_same, get_or-set_other, ext_get_or}
use Rattle.std.proofs.lemmas.List.FromFn.{length-map-range_with_len, get_or-map-range_with_len}
use Rattle.model.specs.Places.{Place, settled, loose, present, marked, Kept, Stored, AfterSettle, AfterCut}
use Rattle.model.specs.Writes.{Meaning, bytes, Write, store, post, settle, After, Granted, Cut, Spares, SparesLine, rewritten}
use Rattle.model.specs.Laws.{CutSupplies, SettledStays, SettledSurvives, BytesFollow}

-- what no granted call takes from a place, unless it stores there
abbrev pub Steady : (Place → Type 0) → Type 0
Steady P = (x : Place) → P x → ((v : Bool) → P (marked v x)) × P (settled (present x))

kept_holds : (P : Place → Type 0) (x y : Place) → P x → P (settled (present x)) → Kept x y → P y
kept_holds P x y h s (inl e) = subst P (sym e) h
kept_holds P x y h s (inr e) = subst P (sym e) s

present_marked : (v : Bool) (x : Place) → present (marked v x) ≡ present x
present_marked v (settled a) = refl
present_marked v (loose a old posted) = refl

marked_holds : (P : Place → Type 0) → Steady P → (v : Bool) (x y : Place) → P x → Kept (marked v x) y → P y
marked_holds P s v x y h k =
    kept_holds P (marked v x) y ((s x h).0 v) (subst (λ b. P (settled b)) (sym (present_marked v x)) (s x h).1) k

settle_holds : (P : Place → Type 0) → Steady P → (x y : Place) → P x → AfterSettle x y → P y
settle_holds P s (settled a) y h e = subst P (sym e) h
settle_holds P s (loose a old true) y h e = subst P (sym e) (s (loose a old true) h).1
settle_holds P s (loose a old false) y h k = kept_holds P (loose a old false) y h (s (loose a old false) h).1 k

after_holds : (P : Place → Type 0) → Steady P → (L q : ℕ) (w : Write) (x y : Place) → Spares q w → P x → After L w q x y → P y
after_holds P s L q (store p b) x y ne h t =
    ⊎_elim (λ e. marked_holds P s false x y h (t.beside ne e)) (λ n. kept_holds P x y h (s x h).1 (t.apart n)) (cases_eq (q / L) (p / L))
after_holds P s L q (post l) x y u h t =
    ⊎_elim (λ e. marked_holds P s true x y h (t.inside e)) (λ n. kept_holds P x y h (s x h).1 (t.apart n)) (cases_eq (q / L) l)
after_holds P s L q settle x y u h t = settle_holds P s x y h t

pub holds : (P : Place → Type 0) → Steady P → (L q : ℕ) (w : Write) (m n : Meaning) → Granted L w m n → q < m.size → Spares q w → P (m.at q) → P (n.at q)
holds P s L q w m n g lt sp h = after_holds P s L q w (m.at q) (n.at q) sp h (g.places q lt)

-- settled at a
abbrev pub Rests : ℕ → Place → Type 0
Rests a x = x ≡ settled a

pub rests_steady : (a : ℕ) → Steady (Rests a)
rests_steady a x e = (λ v. ap (marked v) e, ap (λ y. settled (present y)) e)

-- b is present
abbrev pub Shows : ℕ → Place → Type 0
Shows b x = present x ≡ b

pub shows_steady : (b : ℕ) → Steady (Shows b)
shows_steady b x e = (λ v. present_marked v x ∙ e, e)

-- b is present and settled, or its line is posted
abbrev pub Ready : ℕ → Place → Type 0
Ready b (settled a) = a ≡ b
Ready b (loose a old true) = a ≡ b
Ready b (loose a old false) = ⊥

-- settled at a; or b was stored over it
abbrev pub Either : ℕ → ℕ → Place → Type 0
Either a b (settled c) = (c ≡ a) ⊎ (c ≡ b)
Either a b (loose c (Some old) posted) = (old ≡ a) × (c ≡ b)
Either a b (loose c None posted) = ⊥

pub either_steady : (a b : ℕ) → Steady (Either a b)
either_steady a b (settled c) h = (λ v. h, h)
either_steady a b (loose c (Some old) posted) h = (λ v. h, inr h.1)
either_steady a b (loose c None posted) h = absurd h

-- a store
stored_shows : (b : ℕ) (x y : Place) → Stored b x y → Shows b y
stored_shows b (settled a) y (inl e) = ap present e
stored_shows b (settled a) y (inr e) = ap present e
stored_shows b (loose a old posted) y (inl e) = ap present e.1
stored_shows b (loose a old posted) y (inr e) = ap present e

pub store_shows : (L p b : ℕ) (m n : Meaning) → Granted L (store p b) m n → Shows b (n.at p)
store_shows L p b m n g = stored_shows b (m.at p) (n.at p) ((g.places p g.within).here refl)

stored_either : (a b : ℕ) (y : Place) → Stored b (settled a) y → Either a b y
stored_either a b y (inl e) = subst (Either a b) (sym e) (refl, refl)
stored_either a b y (inr e) = subst (Either a b) (sym e) (inr refl)

pub store_either : (L p a b : ℕ) (m n : Meaning) → Granted L (store p b) m n → m.at p ≡ settled a → Either a b (n.at p)
store_either L p a b m n g e =
    stored_either a b (n.at p) (subst (λ x. Stored b x (n.at p)) e ((g.places p g.within).here refl))

-- a post of the place's line
ready_shows : (b : ℕ) (x : Place) → Ready b x → Shows b x
ready_shows b (settled a) h = h
ready_shows b (loose a old true) h = h
ready_shows b (loose a old false) h = absurd h

ready_marked : (b : ℕ) (x : Place) → Shows b x → Ready b (marked true x)
ready_marked b (settled a) h = h
ready_marked b (loose a old posted) h = h

posted_ready : (b : ℕ) (x y : Place) → Shows b x → Kept (marked true x) y → Ready b y
posted_ready b x y h k = kept_holds (Ready b) (marked true x) y (ready_marked b x h) (present_marked true x ∙ h) k

pub post_ready : (L q b : ℕ) (m n : Meaning) → Granted L (post (q / L)) m n → q < m.size → Shows b (m.at q) → Ready b (n.at q)
post_ready L q b m n g lt h = posted_ready b (m.at q) (n.at q) h ((g.places q lt).inside refl)

-- calls that store nothing in the place's line keep it posted
kept_ready : (b : ℕ) (x y : Place) → Ready b x → Kept x y → Ready b y
kept_ready b x y h k = kept_holds (Ready b) x y h (ready_shows b x h) k

settle_settles : (b : ℕ) (x y : Place) → Ready b x → AfterSettle x y → Rests b y
settle_settles b (settled a) y h e = e ∙ ap settled h
settle_settles b (loose a old true) y h e = e ∙ ap settled h
settle_settles b (loose a old false) y h k = absurd h

rests_ready : (b : ℕ) (x : Place) → Rests b x → Ready b x
rests_ready b x e = subst (Ready b) (sym e) refl

after_ready : (L q b : ℕ) (w : Write) (x y : Place) → SparesLine L q w → Ready b x → After L w q x y → Ready b y
after_ready L q b (store p c) x y ne h t = kept_ready b x y h (t.apart ne)
after_ready L q b (post l) x y u h t =
    ⊎_elim (λ e. posted_ready b x y (ready_shows b x h) (t.inside e)) (λ n. kept_ready b x y h (t.apart n)) (cases_eq (q / L) l)
after_ready L q b settle x y u h t = rests_ready b y (settle_settles b x y h t)

pub stays_ready : (L q b : ℕ) (w : Write) (m n : Meaning) → Granted L w m n → q < m.size → SparesLine L q w → Ready b (m.at q) → Ready b (n.at q)
stays_ready L q b w m n g lt sp h = after_ready L q b w (m.at q) (n.at q) sp h (g.places q lt)

pub settle_rests : (L q b : ℕ) (m n : Meaning) → Granted L settle m n → q < m.size → Ready b (m.at q) → n.at q ≡ settled b
settle_rests L q b m n g lt h = settle_settles b (m.at q) (n.at q) h (g.places q lt)

-- a power cut
either_after_cut : (a b : ℕ) (x y : Place) → Either a b x → AfterCut x y → (y ≡ settled a) ⊎ (y ≡ settled b)
either_after_cut a b (settled c) y (inl h) f = inl (f ∙ ap settled h)
either_after_cut a b (settled c) y (inr h) f = inr (f ∙ ap settled h)
either_after_cut a b (loose c (Some old) posted) y h (inl f) = inl (f ∙ ap settled h.0)
either_after_cut a b (loose c (Some old) posted) y h (inr f) = inr (f ∙ ap settled h.1)
either_after_cut a b (loose c None posted) y h f = absurd h

pub cut_either : (q a b : ℕ) (m n : Meaning) (s : Option ℕ) → q < m.size → Either a b (m.at q) → Cut s m n → (n.at q ≡ settled a) ⊎ (n.at q ≡ settled b)
cut_either q a b m n s lt h c = either_after_cut a b (m.at q) (n.at q) h (c.places q lt)

-- the laws of one call
pub settled_stays : SettledStays
settled_stays L q a w m n g lt sp e = holds (Rests a) (rests_steady a) L q w m n g lt sp e

pub cut_supplies : CutSupplies
cut_supplies m n s c = (c.size, c.supply)

pub settled_survives : SettledSurvives
settled_survives q a m n s lt e c = subst (λ x. AfterCut x (n.at q)) e (c.places q lt)

-- the present bytes, place by place
pub byte_at : (m : Meaning) (k : ℕ) → k < m.size → get_or (bytes m) k 0 ≡ present (m.at k)
byte_at m k lt = get_or-map-range_with_len (λ j. present (m.at j)) 0 m.size k k 0 lt (omega arith)

pub length-bytes : (m : Meaning) → length (bytes m) ≡ m.size
length-bytes m = length-map-range_with_len (λ j. present (m.at j)) 0 m.size

length-rewritten : (w : Write) (xs : List ℕ) → length (rewritten w xs) ≡ length xs
length-rewritten (store p b) xs = length-set xs p b
length-rewritten (post l) xs = refl
length-rewritten settle xs = refl

rewritten_at : (L : ℕ) (w : Write) (m n : Meaning) → Granted L w m n → (k : ℕ) → k < m.size → present (n.at k) ≡ get_or (rewritten w (bytes m)) k 0
rewritten_at L (store p b) m n g k lt =
    ⊎_elim
    (λ e. subst (λ j. present (n.at j) ≡ get_or (set (bytes m) p b) j 0) (sym e)
    (store_shows L p b m n g ∙ sym (get_or-set_same (bytes m) p b 0 (subst (λ s. p < s) (sym (length-bytes m)) g.within))))
    (λ ne. holds (Shows (present (m.at k))) (shows_steady _) L k (store p b) m n g lt ne refl ∙ sym (byte_at m k lt)
    ∙ sym (get_or-set_other (bytes m) p k b 0 ne))
    (cases_eq k p)
rewritten_at L (post l) m n g k lt = holds (Shows (present (m.at k))) (shows_steady _) L k (post l) m n g lt tt refl ∙ sym (byte_at m k lt)
rewritten_at L settle m n g k lt = holds (Shows (present (m.at k))) (shows_steady _) L k settle m n g lt tt refl ∙ sym (byte_at m k lt)

pub bytes_follow : BytesFollow
bytes_follow L w m n g =
    let long : length (bytes n) ≡ length (rewritten w (bytes m)) = length-bytes n ∙ g.size ∙ sym (length-rewritten w (bytes m) ∙ length-bytes m) in
    ext_get_or 0 (bytes n) (rewritten w (bytes m)) long
    (λ k lt.
    let within : k < m.size = subst (λ s. k < s) (length-bytes n ∙ g.size) lt in
    byte_at n k (subst (λ s. k < s) (length-bytes n) lt) ∙ rewritten_at L w m n g k within)
