-- What the parts of one node's work give.
use Rattle.std.specs.Prelude.{◌≡◌, ℕ, ◌≤◌, List, length, map, Bool, true, false}
use Rattle.pt_sets.specs.Sets.{SameSet}
use Rattle.pt_sets.specs.Automata.{Automaton, SetOfState}
use Rattle.pt_sets.specs.Costs.{CostWithin, SameResidual}
use Rattle.pt_handles.specs.declared.fault.TableFault.{TableFault}
use Rattle.pt_handles.specs.Refusing.{StatesOnlyAbove}
use Rattle.pt_atoms.specs.declared.Normal.{Normal}
use Rattle.pt_atoms.specs.Atoms.{NormalSet}
use Rattle.pt_formula.specs.Truth.{Tree, True, False, Solutions, free_variables}
use Rattle.pt_formula.specs.Costs.{SameValue, TreeCostWithin, track_of}

-- The automaton has the solutions of a tree over its free variables at state 0, and few states; the cost of the tree is
-- within the bound, and so is the number of residuals.
pub record IsTableOf (t : Tree) (bound : ℕ) (table : Automaton) : Type 0 where
  pub tracks : table.tracks ≡ length (free_variables t)
  pub few : table.states ≤ bound
  pub set : SameSet (length (free_variables t)) (SetOfState table 0) (Solutions t)
  pub within : TreeCostWithin t bound
  pub residuals : CostWithin (SameResidual (length (free_variables t)) (Solutions t)) (length (free_variables t)) bound

-- there is no automaton only where the cost of the tree is over the bound
abbrev pub RefusesTree : Tree → ℕ → TableFault → Type 0
RefusesTree t bound = StatesOnlyAbove (SameValue t) (length (free_variables t)) bound

-- the track of each of the variables
abbrev pub tracks_of : List ℕ → List ℕ → List ℕ
tracks_of inner outer = map (λ v. track_of v outer) inner

-- there is no automaton only where the residuals of the form are more than the bound
abbrev pub RefusesForm : Normal → ℕ → TableFault → Type 0
RefusesForm n bound = StatesOnlyAbove (SameResidual (length n.coefficients) (NormalSet n)) (length n.coefficients) bound

abbrev pub truth_tree : Bool → Tree
truth_tree true = True
truth_tree false = False
