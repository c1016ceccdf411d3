-- One change on a board whose header and frames are settled, from the laws of rounds alone.
use Rattle.std.proofs.Common.{◌≡◌, ℕ, ◌+◌, ◌-◌, ◌<◌, ◌⊎◌, List, [], ◌∷◌, length, get_or, take, None, Option, sym, ap, ◌∙◌, subst, inl, inr, ⊎_elim, arith}
use Rattle.std.proofs.lemmas.Bool.{cases_eq, cases_lt}
use Rattle.std.proofs.lemmas.List.{take_all}
use Rattle.model.specs.Places.{settled, present}
use Rattle.model.specs.Writes.{Meaning, bytes, Write, Cut, Ran}
use Rattle.model.specs.Rounds.{round}
use Rattle.model.specs.Laws.{Outside}
use Rattle.model.proofs.Places.{length-bytes, byte_at, settled_survives, cut_supplies}
use Rattle.model.proofs.Lists.{ran_size, ran_first, ran_second, ran_split}
use Rattle.model.proofs.Rounds.{round_outside, round_old_or_new, round_lasts}
use Rattle.plain.specs.Frames.{Change}
use Rattle.layout.specs.Layout.{size_size, frames_at}
use Rattle.region.specs.Frames.{Located, Laid, RegionLaid, Stands}
use Rattle.region.specs.Reading.{Found}
use Rattle.region.specs.Plans.{Plan, writes, plan, after, Allowed}
use Rattle.region.specs.Cuts.{Settled, Finds, MarkerNew}
use Rattle.region.specs.Laws.{SettledFound, OneChange, MarkerMoves, ChangeLasts}
use Rattle.region.proofs.Numbers.{length-spelled}
use Rattle.region.proofs.Frames.{region_zip, region_inside}
use Rattle.region.proofs.Reading.{spelled_read}
use Rattle.region.proofs.Plans.{Local, local, after_stands}

-- settled places are read
pub found_now : (m : Meaning) (fs : List Located) → Settled m fs → Finds m fs
found_now m fs s =
    let n : length (bytes m) ≡ m.size = length-bytes m in
    let found = region_zip (λ q b lt e. byte_at m q lt ∙ ap present e) m.size fs (region_inside m.size fs s.stands) s.laid in
    record {
      settled_frames = s;
      frames =
          spelled_read (bytes m) fs
          (record {
            stands = subst (λ k. Stands k fs) (sym n) s.stands;
            laid = subst (λ k. RegionLaid (Found (bytes m)) k fs) (sym n) found;
          });
    }

pub settled_found : SettledFound
settled_found fs m o t s = (
  found_now m fs s,
  λ cut.
      let same = (cut_supplies m o t cut).0 in
      found_now o fs
      (record {
        stands = subst (λ k. Stands k fs) (sym same) s.stands;
        laid =
            subst (λ k. RegionLaid (λ q b. o.at q ≡ settled b) k fs) (sym same)
            (region_zip (λ q b lt e. settled_survives q b m o t lt e cut) m.size fs (region_inside m.size fs s.stands) s.laid);
      }),
)

-- a plan and the whole region
module _ (size : ℕ) (fs gs : List Located) (pl : Plan) (l : Local size 0 frames_at fs gs pl) where
  pub region_idle : RegionLaid (λ q b. Outside pl.at (length pl.bytes) q) size fs
  region_idle =
      record {
        version_byte = λ low high. omega (arith, l.low);
        size_bytes = λ j lt low high. omega (arith, lt, length-spelled size_size size, l.low);
        frames = l.idle;
      }

  pub region_follows : (P : ℕ → ℕ → Type 0) → Laid P pl.at pl.bytes → P pl.mark pl.byte → RegionLaid (λ q b. (q ≡ pl.mark → ⊥) → P q b) size fs → RegionLaid P size gs
  region_follows P z m h =
      record {
        version_byte = h.version_byte (λ e. omega (arith, l.mark_low));
        size_bytes = λ j lt. h.size_bytes j lt (λ e. omega (arith, lt, length-spelled size_size size, l.mark_low));
        frames = l.follows P z m h.frames;
      }

  -- the marker's place is none of round one
  pub mark_apart : Outside pl.at (length pl.bytes) pl.mark
  mark_apart = l.marked (λ q b. Outside pl.at (length pl.bytes) q) l.idle

pub same_byte : {a b : ℕ} → settled a ≡ settled b → a ≡ b
same_byte e = cc

module _ (L : ℕ) (c : Change) (fs : List Located) (m : Meaning) (some : 0 < L) (s : Settled m fs) (a : Allowed m.size c fs) where
  abbrev pl : Plan
  pl = plan c fs

  l : Local m.size 0 frames_at fs (after c fs) pl
  l = local m.size c fs s.stands a

  abbrev one : List Write
  one = round L pl.at pl.bytes

  abbrev two : List Write
  two = round L pl.mark (pl.byte ∷ [])

  -- the old frames, settled on n
  abbrev Old : Meaning → Type 0
  Old n = RegionLaid (λ q b. n.at q ≡ settled b) m.size fs

  inside : RegionLaid (λ q b. q < m.size) m.size fs
  inside = region_inside m.size fs s.stands

  mark_inside : pl.mark < m.size
  mark_inside = l.marked (λ q b. q < m.size) inside.frames

  mark_old : (n : Meaning) → Old n → n.at pl.mark ≡ settled l.old
  mark_old n h = l.marked (λ q b. n.at q ≡ settled b) h.frames

  -- those places lie on the board
  on_board : (n : Meaning) → Old n → RegionLaid (λ q b. (q < m.size) × (n.at q ≡ settled b)) m.size fs
  on_board n h = region_zip (λ q b lt e. (lt, e)) m.size fs inside h

  -- through the first calls of round one, and a power cut
  one_keeps : (k : ℕ) (n o : Meaning) (t : Option ℕ) → Ran L (take k one) m n → Old n × (Cut t n o → Old o)
  one_keeps k n o t r = (
    region_zip {Q = λ q b. (q < m.size) × (m.at q ≡ settled b)} (λ q b out h. (round_outside L pl.at pl.bytes k q b m n o t h.0 out h.1 r).0) m.size fs idle (on_board m s.laid),
    λ cut. region_zip {Q = λ q b. (q < m.size) × (m.at q ≡ settled b)} (λ q b out h. (round_outside L pl.at pl.bytes k q b m n o t h.0 out h.1 r).1 cut) m.size fs idle (on_board m s.laid),
  )
    where
      idle : RegionLaid (λ q b. Outside pl.at (length pl.bytes) q) m.size fs
      idle = region_idle m.size fs (after c fs) pl l

  -- the whole of round one: its bytes are settled
  abbrev New : Meaning → Type 0
  New n = Laid (λ q b. n.at q ≡ settled b) pl.at pl.bytes

  one_lasts : (n : Meaning) → Ran L one m n → New n
  one_lasts n r i lt = round_lasts L pl.at pl.bytes i m n some lt r

  -- round two, from n to o, stores at the marker's place alone
  module _ (n : Meaning) (sized : n.size ≡ m.size) (old : Old n) (new : New n) where
    off_mark : (q : ℕ) → (q ≡ pl.mark → ⊥) → Outside pl.mark (length (pl.byte ∷ [])) q
    off_mark q ne low high = ne (omega arith)

    elsewhere : (j : ℕ) (o u : Meaning) (t : Option ℕ) → Ran L (take j two) n o
        → (q b : ℕ) → q < m.size → (q ≡ pl.mark → ⊥) → n.at q ≡ settled b → (o.at q ≡ settled b) × (Cut t o u → u.at q ≡ settled b)
    elsewhere j o u t r q b lt ne e = round_outside L pl.mark (pl.byte ∷ []) j q b n o u t (subst (λ k. q < k) (sym sized) lt) (off_mark q ne) e r

    -- on u the places that no round_two store touches are settled as on n
    abbrev Apart : Meaning → Type 0
    Apart u = (q b : ℕ) → q < m.size → (q ≡ pl.mark → ⊥) → n.at q ≡ settled b → u.at q ≡ settled b

    becomes : (u : Meaning) → u.size ≡ m.size → Apart u → u.at pl.mark ≡ settled pl.byte → Finds u (after c fs)
    becomes u same apart e =
        found_now u (after c fs)
        (record {
          stands = subst (λ k. Stands k (after c fs)) (sym same) (after_stands m.size c fs s.stands a);
          laid =
              subst (λ k. RegionLaid (λ q b. u.at q ≡ settled b) k (after c fs)) (sym same)
              (region_follows m.size fs (after c fs) pl l (λ q b. u.at q ≡ settled b)
              (λ i lt. apart (pl.at + i) (get_or pl.bytes i 0) (omega (arith, lt, l.room)) (λ e. mark_apart m.size fs (after c fs) pl l (omega arith) (omega arith)) (new i lt))
              e
              (region_zip {Q = λ q b. (q < m.size) × (n.at q ≡ settled b)} (λ q b x h ne. apart q b h.0 ne h.1) m.size fs inside (on_board n old)));
        })

    stays : (u : Meaning) → u.size ≡ m.size → Apart u → u.at pl.mark ≡ settled l.old → Finds u fs
    stays u same apart e =
        found_now u fs
        (record {
          stands = subst (λ k. Stands k fs) (sym same) s.stands;
          laid =
              subst (λ k. RegionLaid (λ q b. u.at q ≡ settled b) k fs) (sym same)
              (region_zip {Q = λ q b. (q < m.size) × (n.at q ≡ settled b)} (λ q b x h. ⊎_elim (λ at. at_mark q b at h.1) (λ ne. apart q b h.0 ne h.1) (cases_eq q pl.mark)) m.size fs inside (on_board n old));
        })
      where
        at_mark : (q b : ℕ) → q ≡ pl.mark → n.at q ≡ settled b → u.at q ≡ settled b
        at_mark q b at h =
            let byte : l.old ≡ b = same_byte (sym (mark_old n old) ∙ (ap n.at (sym at) ∙ h)) in
            ap u.at at ∙ (e ∙ ap settled byte)

    two_cut : (j : ℕ) (o u : Meaning) (t : Option ℕ) → Ran L (take j two) n o → Cut t o u → ((MarkerNew pl u → ⊥) × Finds u fs) ⊎ (MarkerNew pl u × Finds u (after c fs))
    two_cut j o u t r cut =
        let same : u.size ≡ m.size = (cut_supplies o u t cut).0 ∙ (ran_size L (take j two) n o r ∙ sized) in
        let apart : Apart u = λ q b lt ne e. (elsewhere j o u t r q b lt ne e).1 cut in
        ⊎_elim
        (λ e. inl (λ marked. l.moves (sym (ap present e) ∙ marked), stays u same apart e))
        (λ e. inr (ap present e, becomes u same apart e))
        (subst (λ q. (u.at q ≡ settled l.old) ⊎ (u.at q ≡ settled pl.byte)) here
        (round_old_or_new L pl.mark (pl.byte ∷ []) j 0 l.old n o u t (omega arith) (subst (λ k. pl.mark + 0 < k) (sym sized) (omega (arith, mark_inside))) (ap n.at here ∙ mark_old n old) r cut))
      where
        here : pl.mark + 0 ≡ pl.mark
        here = omega arith

    two_lasts : (o : Meaning) → Ran L two n o → Finds o (after c fs)
    two_lasts o r =
        let here : pl.mark + 0 ≡ pl.mark = omega arith in
        let whole : Ran L (take (length two) two) n o = subst (λ ws. Ran L ws n o) (sym (take_all (length two) two (omega arith))) r in
        becomes o (ran_size L two n o r ∙ sized)
        (λ q b lt ne e. (elsewhere (length two) o o None whole q b lt ne e).0)
        (subst (λ q. o.at q ≡ settled pl.byte) here (round_lasts L pl.mark (pl.byte ∷ []) 0 n o some (omega arith) r))

  -- where round one was cut off
  one_cut : (k : ℕ) (n o : Meaning) (t : Option ℕ) → Ran L (take k one) m n → Cut t n o → (MarkerNew pl o → ⊥) × Finds o fs
  one_cut k n o t r cut =
      let old : Old o = (one_keeps k n o t r).1 cut in
      let same : o.size ≡ m.size = (cut_supplies n o t cut).0 ∙ ran_size L (take k one) m n r in (
        λ marked. l.moves (sym (ap present (mark_old o old)) ∙ marked),
        found_now o fs (record { stands = subst (λ k. Stands k fs) (sym same) s.stands; laid = subst (λ k. RegionLaid (λ q b. o.at q ≡ settled b) k fs) (sym same) old }),
      )

  -- after the whole of round one
  between : (n : Meaning) → Ran L one m n → (n.size ≡ m.size) × Old n × New n
  between n r =
      let whole : Ran L (take (length one) one) m n = subst (λ ws. Ran L ws m n) (sym (take_all (length one) one (omega arith))) r in
      (ran_size L one m n r, (one_keeps (length one) n n None whole).0, one_lasts n r)

  pub cut_found : (k : ℕ) (n o : Meaning) (t : Option ℕ) → Ran L (take k (writes L pl)) m n → Cut t n o → ((MarkerNew pl o → ⊥) × Finds o fs) ⊎ (MarkerNew pl o × Finds o (after c fs))
  cut_found k n o t r cut =
      ⊎_elim
      (λ lt. inl (one_cut k n o t (ran_first L k one two m n (omega arith) r) cut))
      (λ le. let y = ran_second L k one two m n le r in let b = between y.0 y.1 in two_cut y.0 b.0 b.1 b.2 (k - length one) n o t y.2 cut)
      (cases_lt k (length one))

  pub whole_found : (n : Meaning) → Ran L (writes L pl) m n → Finds n (after c fs)
  whole_found n r =
      let y = ran_split L one two m n r in
      let b = between y.0 y.1 in two_lasts y.0 b.0 b.1 b.2 n y.2

  pub not_marked : MarkerNew pl m → ⊥
  not_marked marked = l.moves (sym (ap present (mark_old m s.laid)) ∙ marked)

pub one_change : OneChange
one_change L k c fs m n o t some s a r cut = cut_found L c fs m some s a k n o t r cut

pub change_lasts : ChangeLasts
change_lasts L c fs m n some s a r = whole_found L c fs m some s a n r

pub marker_moves : MarkerMoves
marker_moves c fs m s a = not_marked 1 c fs m (omega arith) s a
