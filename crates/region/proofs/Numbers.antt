-- Numbers as bytes: reading back what was spelled, and spelling what was read.
use Rattle.std.proofs.Common.{◌≡◌, ℕ, zero, suc, ◌+◌, ◌*◌, ◌/◌, ◌%◌, ◌^◌, ◌<◌, ◌≤◌, List, [], ◌∷◌, length, get_or, sym, refl, ap, ◌∙◌, subst, mul-le-mul_right, mod-lt, mul_assoc, mul_comm, add-mul, pow-suc, div-add-mod', arith}
use native.Mathlib.Nat.{pow-zero, div-eq_of_lt, div-div-eq-div-mul}
use Rattle.std.proofs.lemmas.List.{ext_get_or}
use Rattle.std.proofs.lemmas.Nat.{div-mul-add}
use Rattle.region.specs.Numbers.{number, spelled, part, Bytes}

pub length-spelled : (k v : ℕ) → length (spelled k v) ≡ k
length-spelled zero v = refl
length-spelled (suc k) v = ap suc (length-spelled k v)

-- what is spelled, and what is left of v above it
spelled_rest : (k v : ℕ) → number (spelled k v) + v / 256 ^ k * 256 ^ k ≡ v
spelled_rest zero v = let e : 256 ^ zero ≡ 1 = pow-zero 256 in ap (λ P. 0 + v / P * P) e ∙ omega arith
spelled_rest (suc k) v =
    let P : ℕ = 256 ^ k in
    let q : ℕ = v / P in
    let long : 256 ^ length (spelled k v) ≡ P = ap (λ n. 256 ^ n) (length-spelled k v) in
    let first : q % 256 * 256 ^ length (spelled k v) ≡ q % 256 * P = ap (λ x. q % 256 * x) long in
    let top : v / 256 ^ suc k * 256 ^ suc k ≡ q / 256 * (P * 256) = ap (λ x. v / x * x) (pow-suc 256 k) ∙ ap (λ x. x * (P * 256)) (sym (div-div-eq-div-mul v P 256)) in
    let parts : q * P ≡ q / 256 * 256 * P + q % 256 * P = ap (λ x. x * P) (sym (div-add-mod' q 256)) ∙ add-mul (q / 256 * 256) (q % 256) P in
    let turned : q / 256 * 256 * P ≡ q / 256 * (P * 256) = mul_assoc (q / 256) 256 P ∙ ap (λ x. q / 256 * x) (mul_comm 256 P) in
    omega (arith, spelled_rest k v, first, top, parts, turned)

pub number-spelled : (k v : ℕ) → v < 256 ^ k → number (spelled k v) ≡ v
number-spelled k v lt =
    let none : v / 256 ^ k * 256 ^ k ≡ 0 * 256 ^ k = ap (λ x. x * 256 ^ k) (div-eq_of_lt lt) in
    omega (arith, spelled_rest k v, none)

pub number_below : (bs : List ℕ) → Bytes bs → number bs < 256 ^ length bs
number_below [] h = let e : 256 ^ zero ≡ 1 = pow-zero 256 in omega (arith, e)
number_below (b ∷ bs) h =
    let P : ℕ = 256 ^ length bs in
    let most : (b + 1) * P ≤ 256 * P = mul-le-mul_right P (omega (arith, h.0)) in
    let one : (b + 1) * P ≡ b * P + 1 * P = add-mul b 1 P in
    omega (arith, number_below bs h.1, most, one, pow-suc 256 (length bs), mul_comm P 256)

-- lists of bytes of one length that spell the same number are the same
number_same : (us bs : List ℕ) → Bytes us → Bytes bs → length us ≡ length bs → number us ≡ number bs → us ≡ bs
number_same [] [] h k l e = refl
number_same [] (b ∷ bs) h k l e = absurd (omega arith)
number_same (a ∷ us) [] h k l e = absurd (omega arith)
number_same (a ∷ us) (b ∷ bs) h k l e =
    let P : ℕ = 256 ^ length bs in
    let short : length us ≡ length bs = omega arith in
    let long : 256 ^ length us ≡ P = ap (λ n. 256 ^ n) short in
    let same : a * P + number us ≡ b * P + number bs = sym (ap (λ x. a * x + number us) long) ∙ e in
    let below : number us < P = subst (λ x. number us < x) long (number_below us h.1) in
    let heads : a ≡ b = sym (div-mul-add a P (number us) below) ∙ ap (λ x. x / P) same ∙ div-mul-add b P (number bs) (number_below bs k.1) in
    let products : a * P ≡ b * P = ap (λ x. x * P) heads in
    cc (heads, number_same us bs h.1 k.1 short (omega arith))

pub Bytes-spelled : (k v : ℕ) → Bytes (spelled k v)
Bytes-spelled zero v = tt
Bytes-spelled (suc k) v = (mod-lt (v / 256 ^ k) (omega arith), Bytes-spelled k v)

pub spelled-number : (k : ℕ) (bs : List ℕ) → Bytes bs → length bs ≡ k → spelled k (number bs) ≡ bs
spelled-number k bs h l =
    number_same (spelled k (number bs)) bs (Bytes-spelled k (number bs)) h (length-spelled k (number bs) ∙ sym l)
    (number-spelled k (number bs) (subst (λ n. number bs < 256 ^ n) l (number_below bs h)))

pub length-part : (bs : List ℕ) (p k : ℕ) → length (part bs p k) ≡ k
length-part bs p zero = refl
length-part bs p (suc k) = ap suc (length-part bs (suc p) k)

pub get_or-part : (bs : List ℕ) (p k i : ℕ) → i < k → get_or (part bs p k) i 0 ≡ get_or bs (p + i) 0
get_or-part bs p zero i lt = absurd (omega arith)
get_or-part bs p (suc k) zero lt = let e : p ≡ p + 0 = omega arith in ap (λ q. get_or bs q 0) e
get_or-part bs p (suc k) (suc i) lt = let e : suc p + i ≡ p + suc i = omega arith in get_or-part bs (suc p) k i (omega arith) ∙ ap (λ q. get_or bs q 0) e

pub Bytes-get_or : (bs : List ℕ) (i : ℕ) → Bytes bs → get_or bs i 0 < 256
Bytes-get_or [] i h = omega arith
Bytes-get_or (b ∷ bs) zero h = h.0
Bytes-get_or (b ∷ bs) (suc i) h = Bytes-get_or bs i h.1

pub Bytes-part : (bs : List ℕ) (p k : ℕ) → Bytes bs → Bytes (part bs p k)
Bytes-part bs p zero h = tt
Bytes-part bs p (suc k) h = (Bytes-get_or bs p h, Bytes-part bs (suc p) k h)

-- a list of the k bytes from p on
pub part_by : (bs cs : List ℕ) (p k : ℕ) → length cs ≡ k → ((i : ℕ) → i < k → get_or cs i 0 ≡ get_or bs (p + i) 0) → cs ≡ part bs p k
part_by bs cs p k l h =
    ext_get_or 0 cs (part bs p k) (l ∙ sym (length-part bs p k)) (λ i lt. let lt2 : i < k = omega (arith, lt, l) in h i lt2 ∙ sym (get_or-part bs p k i lt2))
