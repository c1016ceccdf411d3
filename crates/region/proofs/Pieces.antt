-- Bytes put together piece by piece.
use Rattle.std.proofs.Common.{◌≡◌, ℕ, List, ◌++◌, ap, ◌∙◌, append_assoc}

-- one piece more
pub grown : {w v p us vs : List ℕ} → w ≡ v ++ p → v ≡ us → p ≡ vs → w ≡ us ++ vs
grown g e f = g ∙ (λ j. e j ++ f j)

-- the pieces of a frame
pub frame_pieces : (a b c d e : List ℕ) → ((((a ++ b) ++ c) ++ d) ++ d) ++ e ≡ a ++ (b ++ (c ++ ((d ++ d) ++ e)))
frame_pieces a b c d e =
    ap (λ x. x ++ e) (append_assoc ((a ++ b) ++ c) d d)
    ∙ (append_assoc ((a ++ b) ++ c) (d ++ d) e ∙ (append_assoc (a ++ b) c ((d ++ d) ++ e) ∙ append_assoc a b (c ++ ((d ++ d) ++ e))))
