-- What the line board's calls make of its table is what a board may do.
use Rattle.std.proofs.Common.{◌≡◌, ℕ, ◌/◌, ◌<◌, Bool, true, false, cond, eqb, ◌≢◌, List, length, get_or, None, sym, refl, ap, ◌∙◌, subst, inl}
use Rattle.std.proofs.lemmas.Bool.{cond-true, cond-false, eq-eqb, ne_eqb}
use Rattle.std.proofs.lemmas.List.{get_or-set_same, get_or-set_other, length-set, length-map, get_or-map}
use Rattle.model.specs.Places.{marked, Stored, AfterSettle}
use Rattle.model.specs.Writes.{store, post, settle}
use Rattle.board.specs.declared.line.Cell.{Cell}
use Rattle.board.specs.declared.line.Stores.{Stores}
use Rattle.board.specs.declared.line.Stores.TheVariants.{Never, Once, More}
use Rattle.board.specs.Cells.{standing, place_of, blank, settled_at, posting, after_store, store_over, after_settle}
use Rattle.board.specs.Lines.{line_width, with_line, stored_table, posted_table, settled_table, TableAfter}
use Rattle.board.proofs.Sweeps.{length-each, get_or-each}

-- one cell
posting_marks : (st : Stores) (a s : ℕ) (u v : Bool) → standing st a s v ≡ marked v (standing st a s u)
posting_marks Never a s u v = refl
posting_marks Once a s u v = refl
posting_marks More a s u v = refl

storing : (st : Stores) (a s b : ℕ) (u : Bool) → Stored b (standing st a s u) (place_of (store_over st b a s))
storing Never a s b u = inl refl
storing Once a s b u = inl (None, refl)
storing More a s b u = inl (None, refl)

settling : (st : Stores) (a s : ℕ) (u : Bool) → AfterSettle (standing st a s u) (place_of (cond u (settled_at a) (record { present = a; settled = s; stores = st; posted = u })))
settling Never a s true = refl
settling Never a s false = refl
settling Once a s true = refl
settling Once a s false = inl refl
settling More a s true = refl
settling More a s false = inl refl

-- a line with its posting set
line_inside : (v : Bool) (l : ℕ) (cs : List Cell) (k : ℕ) → k < length cs → k / line_width ≡ l → place_of (get_or (with_line v l cs) k blank) ≡ marked v (place_of (get_or cs k blank))
line_inside v l cs k lt e =
    let c = get_or cs k blank in
    ap place_of (get_or-each (λ j x. cond (eqb (j / line_width) l) (posting v x) x) cs k lt ∙ cond-true _ _ _ (eq-eqb (k / line_width) l e))
    ∙ posting_marks c.stores c.present c.settled c.posted v

line_apart : (v : Bool) (l : ℕ) (cs : List Cell) (k : ℕ) → k < length cs → (k / line_width ≡ l → ⊥) → place_of (get_or (with_line v l cs) k blank) ≡ place_of (get_or cs k blank)
line_apart v l cs k lt ne =
    ap place_of (get_or-each (λ j x. cond (eqb (j / line_width) l) (posting v x) x) cs k lt ∙ cond-false _ _ _ (ne_eqb (k / line_width) l ne))

length-with_line : (v : Bool) (l : ℕ) (cs : List Cell) → length (with_line v l cs) ≡ length cs
length-with_line v l cs = length-each (λ j x. cond (eqb (j / line_width) l) (posting v x) x) 0 cs

-- the calls
pub stored_may : (p b : ℕ) (cs : List Cell) → p < length cs → TableAfter (store p b) cs (stored_table p b cs)
stored_may p b cs lt =
    let line = with_line false (p / line_width) cs in
    let c = get_or cs p blank in
    let other : (k : ℕ) → k ≢ p → place_of (get_or (stored_table p b cs) k blank) ≡ place_of (get_or line k blank) =
    λ k ne. ap place_of (get_or-set_other line p k (after_store b c) blank ne) in
    let here : place_of (get_or (stored_table p b cs) p blank) ≡ place_of (after_store b c) =
    ap place_of (get_or-set_same line p (after_store b c) blank (subst (λ n. p < n) (sym (length-with_line false (p / line_width) cs)) lt)) in
    record {
      size = length-set line p (after_store b c) ∙ length-with_line false (p / line_width) cs;
      places = λ k h.
          record {
            here = λ e. subst (λ j. Stored b (place_of (get_or cs j blank)) (place_of (get_or (stored_table p b cs) j blank))) (sym e)
                (subst (λ y. Stored b (place_of c) y) (sym here) (storing c.stores c.present c.settled b c.posted));
            beside = λ ne e. inl (other k ne ∙ line_inside false (p / line_width) cs k h e);
            apart = λ ne. inl (other k (λ e. ne (ap (λ j. j / line_width) e)) ∙ line_apart false (p / line_width) cs k h ne);
          };
    }

pub posted_may : (l : ℕ) (cs : List Cell) → TableAfter (post l) cs (posted_table l cs)
posted_may l cs =
    record {
      size = length-with_line true l cs;
      places = λ k h. record { inside = λ e. inl (line_inside true l cs k h e); apart = λ ne. inl (line_apart true l cs k h ne) };
    }

pub settled_may : (cs : List Cell) → TableAfter settle cs (settled_table cs)
settled_may cs =
    record {
      size = length-map cs after_settle;
      places = λ k h.
          let c = get_or cs k blank in
          subst (λ y. AfterSettle (place_of c) (place_of y)) (sym (get_or-map after_settle cs k blank blank h)) (settling c.stores c.present c.settled c.posted);
    }
