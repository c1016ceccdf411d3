-- A loop that changes each cell of a table.
use Rattle.std.proofs.Common.{◌≡◌, ℕ, zero, suc, ◌+◌, ◌-◌, ◌*◌, ◌/◌, ◌<◌, ◌≤◌, min, cond, eqb, List, [], ◌∷◌, ◌++◌, map, length, get_or, take, drop, sym, refl, ap, ◌∙◌, subst, ⊎_elim, arith}
use Rattle.std.proofs.lemmas.Bool.{cases_eq, cases_lt, cond-true, cond-false, eq-eqb, ne_eqb}
use Rattle.std.proofs.lemmas.List.{length-append, length-take-le, length-drop, get_or-take, get_or-drop, get_or_append_left, get_or-append_right, ext_get_or}
use borrow.Rule.Slice.PartMut.{put_mid}
use Rattle.board.specs.declared.line.Cell.{Cell}
use Rattle.board.specs.Cells.{blank}
use Rattle.board.specs.Lines.{line_width, ChangedBy, each}

-- the cells before i are changed as R says, the others stand as they stood
pub record Swept (R : ℕ → Cell → Cell → Type 0) (i : ℕ) (xs ys : List Cell) : Type 0 where
  pub long : length ys ≡ length xs
  pub done : (k : ℕ) → k < i → R k (get_or xs k blank) (get_or ys k blank)
  pub ahead : (k : ℕ) → i ≤ k → get_or ys k blank ≡ get_or xs k blank

pub length-each : (f : ℕ → Cell → Cell) (k : ℕ) (xs : List Cell) → length (each f k xs) ≡ length xs
length-each f k [] = refl
length-each f k (x ∷ xs) = ap suc (length-each f (suc k) xs)

get_or-each_from : (f : ℕ → Cell → Cell) (j : ℕ) (xs : List Cell) (k : ℕ) → k < length xs → get_or (each f j xs) k blank ≡ f (j + k) (get_or xs k blank)
get_or-each_from f j [] k lt = absurd (omega arith)
get_or-each_from f j (x ∷ xs) zero lt = let e : j ≡ j + 0 = omega arith in ap (λ i. f i x) e
get_or-each_from f j (x ∷ xs) (suc k) lt =
    let e : suc j + k ≡ j + suc k = omega arith in get_or-each_from f (suc j) xs k (omega arith) ∙ ap (λ i. f i (get_or xs k blank)) e

pub get_or-each : (f : ℕ → Cell → Cell) (xs : List Cell) (k : ℕ) → k < length xs → get_or (each f 0 xs) k blank ≡ f k (get_or xs k blank)
get_or-each f xs k lt = let e : 0 + k ≡ k = omega arith in get_or-each_from f 0 xs k lt ∙ ap (λ i. f i (get_or xs k blank)) e

-- a table whose cells are those of `each`
same_each : (f : ℕ → Cell → Cell) (xs ys : List Cell) → length ys ≡ length xs → ((k : ℕ) → k < length xs → get_or ys k blank ≡ f k (get_or xs k blank)) → ys ≡ each f 0 xs
same_each f xs ys long at =
    ext_get_or blank ys (each f 0 xs) (long ∙ sym (length-each f 0 xs))
    (λ k lt. let lt' : k < length xs = subst (λ n. k < n) long lt in at k lt' ∙ sym (get_or-each f xs k lt'))

-- a table whose cells are changed as f says
pub changed_each : (f : ℕ → Cell → Cell) (R : ℕ → Cell → Cell → Type 0) (xs ys : List Cell) → ((k : ℕ) (x y : Cell) → R k x y → y ≡ f k x) → ChangedBy R xs ys → ys ≡ each f 0 xs
changed_each f R xs ys by s = same_each f xs ys s.size (λ k lt. by k (get_or xs k blank) (get_or ys k blank) (s.places k lt))

pub each_map : (g : Cell → Cell) (k : ℕ) (xs : List Cell) → each (λ _ c. g c) k xs ≡ map g xs
each_map g k [] = refl
each_map g k (x ∷ xs) = ap (λ ys. g x ∷ ys) (each_map g (suc k) xs)

-- n cells from a on are changed as f says, and stand in their place again
module _ (f : Cell → Cell) (R : ℕ → Cell → Cell → Type 0) (by : (k : ℕ) (x y : Cell) → R k x y → y ≡ f x) (a n : ℕ) (xs ys : List Cell) (fits : a + n ≤ length xs) (s : ChangedBy R (take n (drop a xs)) ys) where
  many : length (take n (drop a xs)) ≡ n
  many = length-take-le n (drop a xs) (omega (arith, length-drop a xs))

  before : length (take a xs) ≡ a
  before = length-take-le a xs (omega arith)

  part_size : length (put_mid a n xs ys) ≡ length xs
  part_size = omega (arith, before, many, s.size, length-append (take a xs) (ys ++ drop n (drop a xs)), length-append ys (drop n (drop a xs)), length-drop n (drop a xs), length-drop a xs)

  part_below : (k : ℕ) → k < a → get_or (put_mid a n xs ys) k blank ≡ get_or xs k blank
  part_below k lt = get_or_append_left (take a xs) _ blank k (omega (arith, before)) ∙ get_or-take a xs k blank lt

  part_inside : (k : ℕ) → a ≤ k → k < a + n → get_or (put_mid a n xs ys) k blank ≡ f (get_or xs k blank)
  part_inside k le lt =
      let back : a + (k - a) ≡ k = omega arith in
      get_or-append_right (take a xs) _ a k blank before le
      ∙ get_or_append_left ys _ blank (k - a) (omega (arith, many, s.size))
      ∙ by (k - a) _ _ (s.places (k - a) (omega (arith, many)))
      ∙ ap f (get_or-take n (drop a xs) (k - a) blank (omega arith) ∙ get_or-drop a xs (k - a) blank ∙ ap (λ i. get_or xs i blank) back)

  part_above : (k : ℕ) → a + n ≤ k → get_or (put_mid a n xs ys) k blank ≡ get_or xs k blank
  part_above k le =
      let back : a + (n + (k - a - n)) ≡ k = omega arith in
      get_or-append_right (take a xs) _ a k blank before (omega arith)
      ∙ get_or-append_right ys _ n (k - a) blank (s.size ∙ many) (omega arith)
      ∙ get_or-drop n (drop a xs) (k - a - n) blank
      ∙ get_or-drop a xs (n + (k - a - n)) blank
      ∙ ap (λ i. get_or xs i blank) back

  -- the n cells are those of line l
  pub part_line : (l : ℕ) → a ≡ l * line_width → n ≡ min line_width (length xs - a) → put_mid a n xs ys ≡ each (λ k c. cond (eqb (k / line_width) l) (f c) c) 0 xs
  part_line l first count =
      same_each (λ k c. cond (eqb (k / line_width) l) (f c) c) xs (put_mid a n xs ys) part_size
      (λ k lt.
      ⊎_elim
      (λ e. part_inside k (omega arith) (omega arith) ∙ sym (cond-true _ _ _ (eq-eqb (k / line_width) l e)))
      (λ ne. ⊎_elim (λ b. part_below k b) (λ b. part_above k (omega arith)) (cases_lt k a) ∙ sym (cond-false _ _ _ (ne_eqb (k / line_width) l ne)))
      (cases_eq (k / line_width) l))
