-- Dropping a track.
use Rattle.std.specs.Prelude.{◌≡◌, ◌↔◌, ℕ, suc, ◌+◌, ◌*◌, ◌/◌, ◌%◌, ◌^◌, ◌≤◌, List, [], ◌∷◌, ◌++◌, map, replicate, insert, ℤ, IsTrue}
use Rattle.pt_sets.specs.Words.{IsLetter, AreLetters, value}
use Rattle.pt_sets.specs.Sets.{VectorSet}
use Rattle.pt_sets.specs.Languages.{Language, KeepsSignExtension, SetOf}

-- the vectors to which some integer can be added in track k
abbrev pub projected : ℕ → VectorSet → VectorSet
projected k X z = (x : ℤ) × X (insert z k x)

-- the letter whose digits are those of a without track k
abbrev pub without : ℕ → ℕ → ℕ
without k a = a / 2 ^ suc k * 2 ^ k + a % 2 ^ k

abbrev pub without_all : ℕ → List ℕ → List ℕ
without_all k w = map (without k) w

-- the letter with the digit d put in at track k of b
abbrev pub with_digit : ℕ → ℕ → ℕ → ℕ
with_digit k d b = b / 2 ^ k * 2 ^ suc k + (d * 2 ^ k + b % 2 ^ k)

-- Sign closure: without track k some accepted word is the letters w and the sign s of the other n tracks, where the sign
-- may be repeated, since the integer in track k can need more digits than the others.
abbrev pub AcceptsWithout : ℕ → ℕ → Language → List ℕ → ℕ → Type 0
AcceptsWithout n k X w s =
    (p : List ℕ) × (q m : ℕ) × AreLetters (suc n) p × IsLetter (suc n) q × (without_all k p ≡ w ++ replicate m s) × (without k q ≡ s) × IsTrue (X p q)

-- By sign closure a word is accepted without track k exactly where its vector is in the projection.
abbrev pub SignClosureIsProjection : Type 0
SignClosureIsProjection =
    (n k : ℕ) (X : Language) (w : List ℕ) (s : ℕ) → k ≤ n → KeepsSignExtension (suc n) X → AreLetters n w → IsLetter n s →
    AcceptsWithout n k X w s ↔ projected k (SetOf (suc n) X) (value n (w ++ s ∷ []))
