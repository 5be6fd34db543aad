-- Words that end in no repeated sign, in order.
use Rattle.std.specs.Prelude.{◌≡◌, ◌≢◌, ◌⊎◌, ℕ, ℤ, ◌+◌, ◌<◌, ◌≤◌, List, Vec, [], ◌∷◌, Bool, true, false, Option, None, Some, length, reverse, IsTrue, slice_index_or}
use Rattle.std.specs.declared.alloc.Global.{Global}
use Rattle.std.specs.List.{AllByRecursion}
use Rattle.pt_sets.specs.Words.{IsLetter, IsWord, value}
use Rattle.pt_sets.specs.Automata.{Automaton, next_of, output_of}
use Rattle.pt_base.specs.Elements.{ContainsByRecursion, PairsByRecursion}
use Rattle.pt_sets.specs.Shortlex.{IsLexBefore, IsShortlexBefore}

-- an accepted word from a state, the letter before it among the letters that its sign may not repeat
abbrev pub IsFreshFrom : Automaton → Option ℕ → ℕ → List ℕ → Type 0
IsFreshFrom a before q [] = ⊥
IsFreshFrom a before q (s ∷ []) = IsLetter a.tracks s × (before ≢ Some s) × IsTrue (output_of a q s)
IsFreshFrom a before q (l ∷ m ∷ w) = IsLetter a.tracks l × IsFreshFrom a (Some l) (next_of a q l) (m ∷ w)

-- an accepted word from a state
abbrev pub IsAcceptedFrom : Automaton → ℕ → List ℕ → Type 0
IsAcceptedFrom a q [] = ⊥
IsAcceptedFrom a q (s ∷ []) = IsLetter a.tracks s × IsTrue (output_of a q s)
IsAcceptedFrom a q (l ∷ m ∷ w) = IsLetter a.tracks l × IsAcceptedFrom a (next_of a q l) (m ∷ w)

abbrev pub FirstAtLeast : ℕ → List ℕ → Type 0
FirstAtLeast low [] = ⊥
FirstAtLeast low (l ∷ w) = low ≤ l

-- the least fresh word of n letters whose first letter is at least so great
pub record IsLeastFrom (a : Automaton) (before : Option ℕ) (q n low : ℕ) (w : List ℕ) : Type 0 where
  pub fresh : IsFreshFrom a before q w
  pub count : length w ≡ n
  pub first : FirstAtLeast low w
  pub least : (y : List ℕ) → IsFreshFrom a before q y → length y ≡ n → FirstAtLeast low y → (y ≡ w) ⊎ IsLexBefore w y

abbrev pub HasNoneFrom : Automaton → Option ℕ → ℕ → ℕ → ℕ → Type 0
HasNoneFrom a before q n low = (y : List ℕ) → IsFreshFrom a before q y → length y ≡ n → FirstAtLeast low y → ⊥

-- the least fresh word after a word of as many letters
pub record IsLeastAfter (a : Automaton) (before : Option ℕ) (q : ℕ) (bound w : List ℕ) : Type 0 where
  pub fresh : IsFreshFrom a before q w
  pub count : length w ≡ length bound
  pub after : IsLexBefore bound w
  pub least : (y : List ℕ) → IsFreshFrom a before q y → length y ≡ length bound → IsLexBefore bound y → (y ≡ w) ⊎ IsLexBefore w y

abbrev pub HasNoneAfter : Automaton → Option ℕ → ℕ → List ℕ → Type 0
HasNoneAfter a before q bound = (y : List ℕ) → IsFreshFrom a before q y → length y ≡ length bound → IsLexBefore bound y → ⊥

-- the mark of each state with an accepted word of n letters
pub record IsRow (a : Automaton) (n : ℕ) (row : List Bool) : Type 0 where
  pub count : length row ≡ a.states
  pub marked : (q : ℕ) (w : List ℕ) → q < a.states → IsAcceptedFrom a q w → length w ≡ n → slice_index_or row q false ≡ true

-- row i is that of words of i + 1 letters
abbrev pub AreRows : Automaton → List (Vec Bool Global) → Type 0
AreRows a rows = (i : ℕ) (v : Vec Bool Global) → i < length rows → slice_index_or rows i v ≡ v → IsRow a (i + 1) v.items

-- lists of letters as words
abbrev pub words_of : List (Vec ℕ Global) → List (List ℕ)
words_of [] = []
words_of (v ∷ vs) = v.items ∷ words_of vs

-- The found words are fresh, in order, and of at most n letters; all with fewer letters are found, and those of n letters
-- that are not come after them.
pub record IsListed (a : Automaton) (q n : ℕ) (found : List (List ℕ)) : Type 0 where
  pub fresh : AllByRecursion (IsFreshFrom a None q) found
  pub short : AllByRecursion (λ x. length x ≤ n) found
  pub order : PairsByRecursion IsShortlexBefore found
  pub shorter : (y : List ℕ) → IsFreshFrom a None q y → length y < n → ContainsByRecursion y found
  pub rest : (y : List ℕ) → IsFreshFrom a None q y → length y ≡ n → ContainsByRecursion y found ⊎ AllByRecursion (λ x. IsShortlexBefore x y) found

-- w is the least fresh word of n letters after those found
pub record IsNextWord (a : Automaton) (q n : ℕ) (found : List (List ℕ)) (w : List ℕ) : Type 0 where
  pub fresh : IsFreshFrom a None q w
  pub count : length w ≡ n
  pub after : AllByRecursion (λ x. IsShortlexBefore x w) found
  pub least : (y : List ℕ) → IsFreshFrom a None q y → length y ≡ n → AllByRecursion (λ x. IsShortlexBefore x y) found → (y ≡ w) ⊎ IsLexBefore w y

abbrev pub HasNoNextWord : Automaton → ℕ → ℕ → List (List ℕ) → Type 0
HasNoNextWord a q n found = (y : List ℕ) → IsFreshFrom a None q y → length y ≡ n → AllByRecursion (λ x. IsShortlexBefore x y) found → ⊥

-- all fresh words of at most n letters are found
abbrev pub FoundAll : Automaton → ℕ → ℕ → List (List ℕ) → Type 0
FoundAll a q n found = (y : List ℕ) → IsFreshFrom a None q y → length y ≤ n → ContainsByRecursion y found

-- m is the least number of letters, more than 128, of a fresh word
pub record IsLeastWide (a : Automaton) (q m : ℕ) : Type 0 where
  pub wide : 128 < m
  pub some : (y : List ℕ) × IsFreshFrom a None q y × (length y ≡ m)
  pub least : (y : List ℕ) → IsFreshFrom a None q y → 128 < length y → m ≤ length y

abbrev pub HasNoWide : Automaton → ℕ → Type 0
HasNoWide a q = (y : List ℕ) → IsFreshFrom a None q y → 128 < length y → ⊥

-- the values of words
abbrev pub values_of : ℕ → List (List ℕ) → List (List ℤ)
values_of t [] = []
values_of t (w ∷ ws) = value t w ∷ values_of t ws

-- words of at most 128 letters
abbrev pub AreShortWords : ℕ → List (List ℕ) → Type 0
AreShortWords t ws = AllByRecursion (λ w. IsWord t w × (length w ≤ 128)) ws

-- the first words are found
pub record AreFirstWords (a : Automaton) (q k : ℕ) (found : List (List ℕ)) : Type 0 where
  pub listed : (n : ℕ) × IsListed a q n found × (n ≤ 128)
  pub few : length found ≤ k
  pub all : length found < k → FoundAll a q 128 found

-- the same word the other way round, if there is one
abbrev pub IsReversed : Option (Vec ℕ Global) → Option (Vec ℕ Global) → Type 0
IsReversed None None = Unit {0}
IsReversed None (Some w) = ⊥
IsReversed (Some v) None = ⊥
IsReversed (Some v) (Some w) = w.items ≡ reverse v.items
