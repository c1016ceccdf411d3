-- What is done at the end of a list.
use Rattle.std.proofs.Common.{◌≡◌, ℕ, zero, suc, ◌-◌, ◌<◌, ◌≤◌, List, [], ◌∷◌, map, length, get_or, take, set, refl, ap, arith}
use Rattle.plain.specs.Frames.{with_top, without_top}

-- the last item replaced by one that f maps to what g makes of it
map_set_last : {A B : Type 0} (f : A → B) (g : B → B) (xs : List A) (n : ℕ) (d z : A) → suc n ≡ length xs → f z ≡ g (f (get_or xs n d)) → map f (set xs n z) ≡ with_top g (map f xs)
map_set_last f g [] n d z l e = absurd (omega arith)
map_set_last f g (x ∷ []) zero d z l e = ap (λ y. y ∷ []) e
map_set_last f g (x ∷ []) (suc n) d z l e = absurd (omega arith)
map_set_last f g (x ∷ y ∷ ys) zero d z l e = absurd (omega arith)
map_set_last f g (x ∷ y ∷ ys) (suc n) d z l e = ap (λ zs. f x ∷ zs) (map_set_last f g (y ∷ ys) n d z (omega arith) e)

-- the same, as the code counts: n items, at least one
pub map_set_top : {A B : Type 0} (f : A → B) (g : B → B) (xs : List A) (n : ℕ) (d z : A) → 0 < n → n ≡ length xs → f z ≡ g (f (get_or xs (n - 1) d)) → map f (set xs (n - 1) z) ≡ with_top g (map f xs)
map_set_top f g xs n d z some l e = map_set_last f g xs (n - 1) d z (omega arith) e

pub map_none : {A B : Type 0} (f : A → B) (g : B → B) (xs : List A) (n : ℕ) → n ≤ 0 → n ≡ length xs → map f xs ≡ with_top g (map f xs)
map_none f g [] n l e = refl
map_none f g (x ∷ xs) n l e = absurd (omega arith)

pub map_take : {A B : Type 0} (f : A → B) (xs : List A) (n : ℕ) → length xs ≡ suc n → map f (take n xs) ≡ without_top (map f xs)
map_take f [] n l = absurd (omega arith)
map_take f (x ∷ []) zero l = refl
map_take f (x ∷ []) (suc n) l = absurd (omega arith)
map_take f (x ∷ y ∷ ys) zero l = absurd (omega arith)
map_take f (x ∷ y ∷ ys) (suc n) l = ap (λ zs. f x ∷ zs) (map_take f (y ∷ ys) n (omega arith))

-- what is left of a list whose end is taken off, if it has one
pub map_shorter : {A B : Type 0} (f : A → B) (xs : List A) (n : ℕ) → n ≡ length xs → map f (take (n - 1) xs) ≡ without_top (map f xs)
map_shorter f [] n l = ap (λ k. map f (take k [])) (the_zero n l)
  where
    the_zero : (n : ℕ) → n ≡ 0 → n - 1 ≡ 0
    the_zero n e = omega arith
map_shorter f (x ∷ xs) n l = map_take f (x ∷ xs) (n - 1) (omega arith)
