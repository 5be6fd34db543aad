-- The search over pairs of residuals.
use Rattle.std.specs.Prelude.{◌≡◌, ◌≢◌, ℕ, ◌<◌, ◌≤◌, List, [], Bool, length, slice_index, ◌^◌}
use Rattle.std.specs.List.{AllByRecursion}
use Rattle.pt_sets.specs.Words.{IsLetter}
use Rattle.pt_sets.specs.Sets.{VectorSet}
use Rattle.pt_sets.specs.Languages.{Language}
use Rattle.pt_sets.specs.Automata.{Automaton, IsAutomaton, IsReduced, SetOfState, next_of, output_of, language_of, run}
use Rattle.pt_sets.specs.Costs.{restricted, SamePair}
use Rattle.pt_sets.specs.Restricting.{IsTrackMap, restricted_all, widened, widened_language}
use Rattle.pt_sets.specs.Numbering.{Numbering}
use Rattle.pt_handles.specs.declared.handle.Handle.{Handle}
use Rattle.pt_handles.specs.declared.fault.TableFault.{TableFault}
use Rattle.pt_handles.specs.declared.fault.TableFault.TheVariants.{States, NoMemory}
use Rattle.pt_formula.specs.declared.Op.{Op}
use Rattle.pt_product.specs.declared.pair.Pair.{Pair}
use Rattle.pt_product.specs.Operations.{combined_language}

-- the letters of t tracks, each restricted to the tracks of a map
pub record AreRestrictions (m : List ℕ) (t : ℕ) (letters : List ℕ) : Type 0 where
  pub count : length letters ≡ 2 ^ t
  pub letter : (l : ℕ) → IsLetter t l → slice_index letters l ≡ restricted m l

-- a handle whose tracks are some of the tracks of a result, by a map
pub record OneSide : Type 0 where
  pub handle : Handle
  pub map : List ℕ
  pub tracks : ℕ

-- a state of an automaton whose tracks are some of the t tracks of a result, by a map
pub record OneFactor : Type 0 where
  pub table : Automaton
  pub start : ℕ
  pub map : List ℕ
  pub tracks : ℕ

-- no two states of it have equal sets
pub record IsFactor (f : OneFactor) : Type 0 where
  pub valid : IsAutomaton f.table
  pub reduced : IsReduced f.table
  pub start : f.start < f.table.states
  pub map : IsTrackMap f.table.tracks f.tracks f.map

-- two factors over the tracks of a result
pub record Task : Type 0 where
  pub op : Op
  pub a : OneFactor
  pub b : OneFactor

pub record IsTask (k : Task) : Type 0 where
  pub a : IsFactor k.a
  pub b : IsFactor k.b
  pub same : k.b.tracks ≡ k.a.tracks
  pub tracks : k.a.tracks ≤ 10

abbrev pub task : Op → OneFactor → OneFactor → Task
task op a b = record { op = op; a = a; b = b }

-- the state of a factor behind a list of letters of the result
abbrev pub state_behind : OneFactor → List ℕ → ℕ
state_behind f w = run (next_of f.table) (output_of f.table) f.start (restricted_all f.map w)

-- the language of a state of a factor over the tracks of the result
abbrev pub wide_language : OneFactor → ℕ → Language
wide_language f q = widened_language f.map (language_of f.table q)

-- the set of a factor over the tracks of the result
abbrev pub WideSet : OneFactor → VectorSet
WideSet f = widened f.map (SetOfState f.table f.start)

-- the language of a pair over the tracks of the result
abbrev pub pair_language : Task → Pair → Language
pair_language k p = combined_language k.op (wide_language k.a p.a) (wide_language k.b p.b)

-- two lists of letters lead to equal pairs of residuals of the two sets over the tracks of the result
abbrev pub same_pair : Task → List ℕ → List ℕ → Type 0
same_pair k = SamePair k.a.tracks (WideSet k.a) (WideSet k.b)

-- p has the states behind w
pub record StandsFor (k : Task) (w : List ℕ) (p : Pair) : Type 0 where
  pub a : state_behind k.a w ≡ p.a
  pub b : state_behind k.b w ≡ p.b

-- q has the successors of p by a letter of the result
pub record IsStep (k : Task) (p : Pair) (l : ℕ) (q : Pair) : Type 0 where
  pub a : next_of k.a.table p.a (restricted k.a.map l) ≡ q.a
  pub b : next_of k.b.table p.b (restricted k.b.map l) ≡ q.b

-- the output of a pair at a sign
abbrev pub ShowsPair : Task → Pair → ℕ → Bool → Type 0
ShowsPair k p s b = b ≡ pair_language k p [] s

-- the numbered pairs, with outputs and successors of the first n cells
abbrev pub PairNumbering : Task → List Pair → List Bool → List ℕ → ℕ → Type 0
PairNumbering k pairs outputs edges n = Numbering k.a.tracks (record { a = k.a.start; b = k.b.start }) (StandsFor k) (IsStep k) (ShowsPair k) pairs outputs edges n

-- the pairs are as many as the bound, and p is none of them
abbrev pub IsFull : List Pair → Pair → ℕ → TableFault → Type 0
IsFull pairs p B (States bound) = (bound ≡ B) × (length pairs ≡ B) × AllByRecursion (λ q. q ≢ p) pairs
IsFull pairs p B NoMemory = Unit {0}
