-- What is written piece by piece.
use Rattle.std.proofs.Common.{◌≡◌, ◌∙◌, ◌++◌, ℕ, List, [], ◌∷◌, ap, sym, append_assoc}
use Rattle.pt_drill.specs.Summary.{summary_of}

-- the first piece and a number
pub first : (start piece number new : List ℕ) → new ≡ start ++ piece ++ number → new ≡ start ++ (piece ++ number)
first start piece number new e = e ∙ append_assoc start piece number

-- one more piece
pub piece_more : (start front piece old new : List ℕ) → old ≡ start ++ front → new ≡ old ++ piece → new ≡ start ++ (front ++ piece)
piece_more start front piece old new before e = e ∙ ap (λ (l : List ℕ). l ++ piece) before ∙ append_assoc start front piece

-- one more piece and a number
pub number_more : (start front piece number old new : List ℕ) → old ≡ start ++ front → new ≡ old ++ piece ++ number → new ≡ start ++ (front ++ piece ++ number)
number_more start front piece number old new before e =
    e ∙ ap (λ (l : List ℕ). l ++ piece ++ number) before ∙ ap (λ (l : List ℕ). l ++ number) (append_assoc start front piece) ∙ append_assoc start (front ++ piece) number

-- the last piece, with the end of its line
pub line_ends : (start front piece old new : List ℕ) → old ≡ start ++ front → new ≡ old ++ (piece ++ 10 ∷ []) → new ≡ start ++ ((front ++ piece) ++ 10 ∷ [])
line_ends start front piece old new before e =
    piece_more start front (piece ++ 10 ∷ []) old new before e ∙ ap (λ (l : List ℕ). start ++ l) (sym (append_assoc front piece (10 ∷ [])))

-- the five lines of questions, as they are written
pub asked : (a n b end p q d k o : List ℕ)
    → ((((a ++ n) ++ (b ++ (end ++ (p ++ q)))) ++ n) ++ (d ++ (end ++ (k ++ o)))) ≡ ((((((a ++ n) ++ b) ++ end) ++ p) ++ (((q ++ n) ++ d) ++ end)) ++ k) ++ o
asked a n b end p q d k o = simp append_assoc

-- the numbers of the line that sums up
pub summed : (start new : List ℕ) (seed size sat unsat states x y z : ℕ) → start ≡ [] → sat ≡ x → unsat ≡ y → states ≡ z → new ≡ start ++ summary_of seed size sat unsat states → new ≡ summary_of seed size x y z
summed start new seed size sat unsat states x y z none first second third is =
    is ∙ ap (λ (l : List ℕ). l ++ summary_of seed size sat unsat states) none
    ∙ ap (λ (n : ℕ). summary_of seed size n unsat states) first
    ∙ ap (λ (n : ℕ). summary_of seed size x n states) second
    ∙ ap (λ (n : ℕ). summary_of seed size x y n) third
