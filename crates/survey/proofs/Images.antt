-- Images of the record that lie between two.
use Rattle.std.proofs.Common.{◌≡◌, ℕ, List, length, get_or, sym, refl, ap, ◌∙◌, inl, inr, ⊎_elim, arith}
use Rattle.std.proofs.lemmas.List.{ext_get_or}
use Rattle.survey.specs.Record.{record_size, Sure}

pub sure_from : (low high whole : List ℕ) → length whole ≡ record_size → low ≡ whole → high ≡ whole → Sure low high whole
sure_from low high whole size e f image b =
    ext_get_or 0 image whole (b.size ∙ sym size)
    (λ k lt.
    ⊎_elim (λ h. h ∙ ap (λ r. get_or r k 0) e) (λ h. h ∙ ap (λ r. get_or r k 0) f) (b.bytes k (omega (arith, b.size))))

pub sure_low : (low high whole : List ℕ) → length low ≡ record_size → Sure low high whole → low ≡ whole
sure_low low high whole size s = s low (record { size = size; bytes = λ k lt. inl refl })

pub sure_high : (low high whole : List ℕ) → length high ≡ record_size → Sure low high whole → high ≡ whole
sure_high low high whole size s = s high (record { size = size; bytes = λ k lt. inr refl })
