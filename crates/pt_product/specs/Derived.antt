-- Automata that are made state by state of another: of the complement, and of a widened set.
use Rattle.std.specs.Prelude.{◌≡◌, ℕ, ◌*◌, ◌<◌, ◌^◌, ◌/◌, ◌%◌, List, Bool, false, not, map, length, slice_index, slice_index_or}
use Rattle.pt_sets.specs.Sets.{VectorSet}
use Rattle.pt_sets.specs.Costs.{restricted}
use Rattle.pt_sets.specs.Automata.{Automaton, next_of, output_of}

-- the vectors that are not in X
abbrev pub outside : VectorSet → VectorSet
outside X z = ¬ X z

-- the automaton with each output turned
abbrev pub turned : Automaton → Automaton
turned a = record a { outputs = map not a.outputs }

-- the first n cells over t tracks, which are those of the automaton at the restricted letters
pub record AreWideCells (a : Automaton) (m : List ℕ) (t n : ℕ) (outputs : List Bool) (edges : List ℕ) : Type 0 where
  pub output_count : length outputs ≡ n
  pub edge_count : length edges ≡ n
  pub output_cell : (i : ℕ) → i < n → slice_index_or outputs i false ≡ output_of a (i / 2 ^ t) (restricted m (i % 2 ^ t))
  pub edge_cell : (i : ℕ) → i < n → slice_index edges i ≡ next_of a (i / 2 ^ t) (restricted m (i % 2 ^ t))

-- r has the states of a, and reads letters of t tracks, of which only the tracks of the map count
pub record IsWide (a : Automaton) (m : List ℕ) (t : ℕ) (r : Automaton) : Type 0 where
  pub tracks : r.tracks ≡ t
  pub states : r.states ≡ a.states
  pub cells : AreWideCells a m t (a.states * 2 ^ t) r.outputs r.edges
