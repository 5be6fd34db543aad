-- Sets of numbers as bits, 64 a word.
use Rattle.std.specs.Prelude.{◌≡◌, ℕ, ◌*◌, ◌/◌, ◌%◌, ◌≤◌, List, length, slice_index}
use Rattle.std.specs.Int.{bit_at}

-- the bit of x
unfoldable pub bit_of : List ℕ → ℕ → ℕ
bit_of words x = bit_at (slice_index words (x / 64)) (x % 64)

abbrev pub HasBit : List ℕ → ℕ → Type 0
HasBit words x = bit_of words x ≡ 1

-- words for n numbers, with none in the set
pub record IsClear (n : ℕ) (words : List ℕ) : Type 0 where
  pub room : n ≤ 64 * length words
  pub few : length words ≤ 1024
  pub none : (x : ℕ) → bit_of words x ≡ 0
