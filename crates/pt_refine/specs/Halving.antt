-- Partition refinement by the smaller half (Hopcroft 1971).
use Rattle.std.specs.Prelude.{◌≡◌, ◌≢◌, ℕ, ◌^◌, ◌<◌, ◌≤◌, ◌⊎◌, ◌↔◌, List, slice_index}
use Rattle.std.specs.List.{Contains}
use Rattle.pt_sets.specs.Automata.{Automaton, next_of}
use Rattle.pt_refine.specs.Refining.{SameOutputs, ToldBy}

-- states of one class have equal outputs, and states of two are told apart
pub record Refines (a : Automaton) (class : ℕ → ℕ) : Type 0 where
  pub alike : (q r : ℕ) → q < a.states → r < a.states → class q ≡ class r → SameOutputs a (2 ^ a.tracks) q r
  pub apart : (q r : ℕ) → q < a.states → r < a.states → class q ≢ class r → ToldBy a q r

-- where successors of one class lie in two, one of the two is yet to split others: its number is `at` or more
pub record Pends (n k : ℕ) (next : ℕ → ℕ → ℕ) (class : ℕ → ℕ) (at : ℕ) : Type 0 where
  pub pending : (q r l : ℕ) → q < n → r < n → l < k → class q ≡ class r → class (next q l) ≢ class (next r l) →
      (at ≤ class (next q l)) ⊎ (at ≤ class (next r l))

-- just one of two states was in a class
abbrev pub JustOne : (ℕ → ℕ) → ℕ → ℕ → ℕ → Type 0
JustOne was at x y = ((was x ≡ at) × (was y ≢ at)) ⊎ ((was x ≢ at) × (was y ≡ at))

-- the same while class `at`, as it was, splits others by the letters from `from` on
pub record Owes (n k : ℕ) (next : ℕ → ℕ → ℕ) (was class : ℕ → ℕ) (at from : ℕ) : Type 0 where
  pub owed : (q r l : ℕ) → q < n → r < n → l < k → class q ≡ class r → class (next q l) ≢ class (next r l) →
      (at < class (next q l)) ⊎ ((at < class (next r l)) ⊎ ((from ≤ l) × JustOne was at (next q l) (next r l)))

-- each of `count` classes is split into its states with a property and the others, and one of the two keeps the number
pub record SplitsBy (n count : ℕ) (In : ℕ → Type 0) (class class' : ℕ → ℕ) : Type 0 where
  pub finer : (q r : ℕ) → q < n → r < n → class' q ≡ class' r → (class q ≡ class r) × (In q ↔ In r)
  pub same : (q r : ℕ) → q < n → r < n → class q ≡ class r → (In q ↔ In r) → class' q ≡ class' r
  pub numbers : (q : ℕ) → q < n → (class' q ≡ class q) ⊎ (count ≤ class' q)

-- class c is split into its marked states and the others, and then has no marks
pub record CutsAt (n count c : ℕ) (class class' : ℕ → ℕ) (Marked Marked' : ℕ → Type 0) : Type 0 where
  pub splits : SplitsBy n count (λ q. (class q ≡ c) × Marked q) class class'
  pub stays : (q : ℕ) → q < n → class q ≢ c → class' q ≡ class q
  pub done : (q : ℕ) → q < n → class q ≡ c → ¬ Marked' q
  pub others : (q : ℕ) → q < n → class q ≢ c → Marked' q ↔ Marked q

-- The states in the order of their classes: class c has those at places starts c to ends c, of which the first ones, up
-- to marked c, are marked.
pub record IsLayout (n count : ℕ) (order place class starts ends marked : ℕ → ℕ) : Type 0 where
  pub order_in : (i : ℕ) → i < n → order i < n
  pub place_in : (q : ℕ) → q < n → place q < n
  pub there : (q : ℕ) → q < n → order (place q) ≡ q
  pub back : (i : ℕ) → i < n → place (order i) ≡ i
  pub class_in : (q : ℕ) → q < n → class q < count
  pub within : (q : ℕ) → q < n → (starts (class q) ≤ place q) × (place q < ends (class q))
  pub members : (c i : ℕ) → c < count → starts c ≤ i → i < ends c → (i < n) × (class (order i) ≡ c)
  pub some : (c : ℕ) → c < count → starts c < ends c
  pub marks : (c : ℕ) → c < count → (starts c ≤ marked c) × (marked c ≤ ends c)
