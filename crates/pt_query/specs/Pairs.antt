-- Pairs of states of two automata to which the same letters lead.
use Rattle.std.specs.Prelude.{◌≡◌, ◌≢◌, ℕ, ◌+◌, ◌<◌, List, [], ◌∷◌, length, Some, slice_get, IsTrue}
use Rattle.std.specs.List.{AllByRecursion}
use Rattle.pt_base.specs.Elements.{PairsByRecursion}
use Rattle.pt_sets.specs.Words.{IsLetter}
use Rattle.pt_sets.specs.Automata.{Automaton, next_of, output_of, run}
use Rattle.pt_sets.specs.Numbering.{IsReached}
use Rattle.pt_handles.specs.declared.fault.TableFault.{TableFault}
use Rattle.pt_handles.specs.declared.fault.TableFault.TheVariants.{States, NoMemory}
use Rattle.pt_query.specs.declared.inclusion.Pair.{Pair}
use Rattle.pt_query.specs.Walks.{Before}

-- the pair after a letter
abbrev pub pair_after : Automaton → Automaton → Pair → ℕ → Pair
pair_after a b p l = record { first = next_of a p.first l; second = next_of b p.second l }

-- the letters w lead from the start to p
abbrev pub LeadsTo : Automaton → Automaton → Pair → List ℕ → Pair → Type 0
LeadsTo a b start w p = (run (next_of a) (output_of a) start.first w ≡ p.first) × (run (next_of b) (output_of b) start.second w ≡ p.second)

-- some letters lead from the start to the pair
abbrev pub IsPair : Automaton → Automaton → Pair → Pair → Type 0
IsPair a b start p = IsReached a.tracks (LeadsTo a b start) p

-- the pair in front
abbrev pub front_of : List Pair → Pair
front_of [] = record { first = 0; second = 0 }
front_of (p ∷ pairs) = p

-- pairs to which letters lead, each once and the start first; for all pairs of a place and a letter before i, l the pair
-- after the letter is there
pub record ArePairs (a b : Automaton) (start : Pair) (pairs : List Pair) (i l : ℕ) : Type 0 where
  pub some : 0 < length pairs
  pub begins : front_of pairs ≡ start
  pub distinct : PairsByRecursion ◌≢◌ pairs
  pub reached : AllByRecursion (IsPair a b start) pairs
  pub within : AllByRecursion (λ p. (p.first < a.states) × (p.second < b.states)) pairs
  pub closed : (j m : ℕ) (p : Pair) → slice_get pairs j ≡ Some p → IsLetter a.tracks m → Before j m i l → (k : ℕ) × (slice_get pairs k ≡ Some (pair_after a b p m))

-- the pairs are as many as the bound, and p is none of them
abbrev pub HasNoRoom : List Pair → Pair → ℕ → TableFault → Type 0
HasNoRoom pairs p B (States bound) = (bound ≡ B) × (length pairs ≡ B) × AllByRecursion (λ q. q ≢ p) pairs
HasNoRoom pairs p B NoMemory = Unit {0}

-- letters lead to more pairs than the bound
abbrev pub AreTooMany : Automaton → Automaton → Pair → ℕ → TableFault → Type 0
AreTooMany a b start B (States bound) = (bound ≡ B) × ((ps : List Pair) × (length ps ≡ B + 1) × PairsByRecursion ◌≢◌ ps × AllByRecursion (IsPair a b start) ps)
AreTooMany a b start B NoMemory = Unit {0}

-- the first state of the pair has an output only where the second has
abbrev pub IsIncluded : Automaton → Automaton → Pair → Type 0
IsIncluded a b p = (s : ℕ) → IsLetter a.tracks s → IsTrue (output_of a p.first s) → IsTrue (output_of b p.second s)
