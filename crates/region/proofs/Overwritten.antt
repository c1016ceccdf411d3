-- Bytes that are overwritten, place by place and as a list.
use Rattle.std.proofs.Common.{◌≡◌, ℕ, zero, suc, ◌+◌, ◌<◌, ◌≤◌, List, [], ◌∷◌, length, get_or, set, refl, ap, ◌∙◌, arith, length-set}
use Rattle.std.proofs.lemmas.List.{get_or-set_same, get_or-set_other}
use Rattle.model.specs.Rounds.{overwritten}
use Rattle.model.specs.Laws.{Outside}

pub over_length : (xs : List ℕ) (p : ℕ) (bs : List ℕ) → length (overwritten xs p bs) ≡ length xs
over_length xs p [] = refl
over_length xs p (b ∷ bs) = over_length (set xs p b) (suc p) bs ∙ length-set xs p b

pub over_outside : (xs : List ℕ) (p : ℕ) (bs : List ℕ) (q : ℕ) → Outside p (length bs) q → get_or (overwritten xs p bs) q 0 ≡ get_or xs q 0
over_outside xs p [] q out = refl
over_outside xs p (b ∷ bs) q out =
    over_outside (set xs p b) (suc p) bs q (λ low high. out (omega arith) (omega arith)) ∙ get_or-set_other xs p q b 0 (λ e. out (omega arith) (omega arith))

pub over_inside : (xs : List ℕ) (p : ℕ) (bs : List ℕ) (i : ℕ) → i < length bs → p + length bs ≤ length xs → get_or (overwritten xs p bs) (p + i) 0 ≡ get_or bs i 0
over_inside xs p [] i lt le = absurd (omega arith)
over_inside xs p (b ∷ bs) zero lt le =
    let e : p + 0 ≡ p = omega arith in
    ap (λ q. get_or (overwritten (set xs p b) (suc p) bs) q 0) e ∙ (over_outside (set xs p b) (suc p) bs p (λ low high. omega arith) ∙ get_or-set_same xs p b 0 (omega arith))
over_inside xs p (b ∷ bs) (suc i) lt le =
    let e : p + suc i ≡ suc p + i = omega arith in
    ap (λ q. get_or (overwritten (set xs p b) (suc p) bs) q 0) e ∙ over_inside (set xs p b) (suc p) bs i (omega arith) (omega (arith, length-set xs p b))
