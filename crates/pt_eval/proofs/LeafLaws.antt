-- Automata of leaves: of True, False and atoms, by their normal forms.
use Rattle.std.proofs.Common.{◌≡◌, inl, inr, ℕ, ◌≤◌, arith, true, false, Bool, List, [], length, map, refl, ap, sym, subst, ◌∙◌, Result, Ok, Err}
use Rattle.std.specs.Prelude.{ℤ, pos, IfOk, IfErr}
use Rattle.std.proofs.lemmas.Bool.{cases_lt}
use Rattle.std.proofs.lemmas.List.{length-map}
use Rattle.pt_sets.specs.Sets.{SameSet}
use Rattle.pt_sets.specs.Automata.{Automaton, SetOfState, IsReduced}
use Rattle.pt_sets.specs.Costs.{CostWithin, SameResidual}
use Rattle.pt_sets.proofs.Counting.{SameSet-sym, SameSet-trans, residual-equivalence}
use Rattle.pt_handles.specs.declared.fault.TableFault.{TableFault}
use Rattle.pt_handles.specs.Refusing.{StatesOnlyAbove}
use Rattle.pt_atoms.specs.declared.Normal.{Normal}
use Rattle.pt_atoms.specs.declared.NormalKind.TheVariants.{Always}
use Rattle.pt_atoms.specs.declared.Kind.{Kind}
use Rattle.pt_atoms.specs.Atoms.{NormalSet, AtomSet}
use Rattle.pt_formula.specs.Forms.{Monomial}
use Rattle.pt_atoms.specs.Tables.{IsAtomTable, ResidualsWithin, ResidualsAre}
use Rattle.pt_formula.specs.Truth.{Tree, Atom, Solutions, free_variables}
use Rattle.pt_formula.specs.Costs.{SameValue}
use Rattle.pt_eval.specs.Parts.{IsTableOf, RefusesTree, RefusesForm, truth_tree}
use Rattle.pt_eval.proofs.CostLaws.{within-moved, states-moved, residual-moved, residuals-moved, number-within}

pub few-states : (n : Normal) (states B : ℕ) → ResidualsAre n states → ResidualsWithin n B → states ≤ B
few-states n states B is within = number-within (SameResidual (length n.coefficients) (NormalSet n)) (length n.coefficients) states B (residual-equivalence (length n.coefficients) (NormalSet n)) is within

-- the table of an atom has each residual once
pub reduced-atom : (n : Normal) (a : Automaton) → IsAtomTable n a → IsReduced a
reduced-atom n a is q r below-q below-r same = elim (cases_lt q r) [
  | inl less ↦ absurd (is.once q r less below-r same)
  | inr no-less ↦ elim (cases_lt r q) [
    | inl more ↦ absurd (is.once r q more below-q (SameSet-sym a.tracks (SetOfState a q) (SetOfState a r) same))
    | inr no-more ↦ omega (arith, no-less, no-more)
  ]
]

-- at a leaf equal values are equal residuals
abbrev pub IsLeaf : Tree → Type 0
IsLeaf t = ((v w : List ℕ) → SameResidual (length (free_variables t)) (Solutions t) v w → SameValue t v w)
    × ((v w : List ℕ) → SameValue t v w → SameResidual (length (free_variables t)) (Solutions t) v w)

module _ (t : Tree) (n : Normal) (leaf : IsLeaf t) (tracks : length n.coefficients ≡ length (free_variables t)) (same : SameSet (length (free_variables t)) (NormalSet n) (Solutions t)) (B : ℕ) where
  pub leaf-table : (a : Automaton) → IsAtomTable n a → a.states ≤ B → ResidualsWithin n B → IsTableOf t B a
  leaf-table a is few within =
      let size : a.tracks ≡ length (free_variables t) = is.tracks ∙ tracks in
      let start : SameSet (length (free_variables t)) (SetOfState a 0) (NormalSet n) = subst (λ (j : ℕ). SameSet j (SetOfState a 0) (NormalSet n)) size is.start in
      let there : CostWithin (SameResidual (length (free_variables t)) (NormalSet n)) (length (free_variables t)) B = subst (λ (j : ℕ). CostWithin (SameResidual j (NormalSet n)) j B) tracks within in
      let residuals = residuals-moved (length (free_variables t)) B (NormalSet n) (Solutions t) same there in
      record {
        tracks = size;
        few = few;
        set = SameSet-trans (length (free_variables t)) (SetOfState a 0) (NormalSet n) (Solutions t) start same;
        within = within-moved (SameResidual (length (free_variables t)) (Solutions t)) (SameValue t) (length (free_variables t)) (λ v w hv hw h. leaf.0 v w h) B residuals;
        residuals = residuals;
      }

  pub leaf-refused : (fault : TableFault) → RefusesForm n B fault → RefusesTree t B fault
  leaf-refused fault refused =
      let there : StatesOnlyAbove (SameResidual (length (free_variables t)) (NormalSet n)) (length (free_variables t)) B fault = subst (λ (i : ℕ). StatesOnlyAbove (SameResidual i (NormalSet n)) i B fault) tracks refused in
      states-moved (SameResidual (length (free_variables t)) (NormalSet n)) (SameValue t) (length (free_variables t))
      (λ v w hv hw h. residual-moved (length (free_variables t)) (Solutions t) (NormalSet n) (SameSet-sym (length (free_variables t)) (NormalSet n) (Solutions t) same) v w (leaf.1 v w h)) B fault there

abbrev pub truth_form : Bool → Normal
truth_form b = record { kind = Always b; coefficients = []; constant = pos 0 }

pub truth-leaf : (b : Bool) → IsLeaf (truth_tree b)
truth-leaf true = (λ v w h. h, λ v w h. h)
truth-leaf false = (λ v w h. h, λ v w h. h)

pub truth-tracks : (b : Bool) → 0 ≡ length (free_variables (truth_tree b))
truth-tracks true = refl
truth-tracks false = refl

pub truth-set : (b : Bool) → SameSet (length (free_variables (truth_tree b))) (NormalSet (truth_form b)) (Solutions (truth_tree b))
truth-set true = record { agrees = λ z count. (λ h. (count, tt), λ h. refl) }
truth-set false = record { agrees = λ z count. (λ h. absurd (let bad : false ≡ true = h in cc), λ h. absurd h.1) }

-- the normal form of an atom has the solutions over the variables of its terms
pub atom-same : (kind : Kind) (terms : List Monomial) (constant : ℤ) (cs : List ℤ) (n : Normal) → cs ≡ map (λ t. t.1) terms → length n.coefficients ≡ length cs →
    SameSet (length cs) (NormalSet n) (AtomSet (record { kind = kind; coefficients = cs; constant = constant })) →
    SameSet (length terms) (Solutions (Atom kind terms constant)) (AtomSet (record { kind = kind; coefficients = map (λ t. t.1) terms; constant = constant })) →
    (length n.coefficients ≡ length (free_variables (Atom kind terms constant))) × SameSet (length (free_variables (Atom kind terms constant))) (NormalSet n) (Solutions (Atom kind terms constant))
atom-same kind terms constant cs n is tracks form law =
    let count : length cs ≡ length terms = ap length is ∙ length-map terms (λ (t : Monomial). t.1) in
    let variables : length terms ≡ length (free_variables (Atom kind terms constant)) = sym (length-map terms (λ (t : Monomial). t.0)) in
    let there : SameSet (length terms) (NormalSet n) (AtomSet (record { kind = kind; coefficients = cs; constant = constant })) = subst (λ (j : ℕ). SameSet j (NormalSet n) (AtomSet (record { kind = kind; coefficients = cs; constant = constant }))) count form in
    let set : SameSet (length terms) (NormalSet n) (AtomSet (record { kind = kind; coefficients = map (λ t. t.1) terms; constant = constant })) =
    subst (λ (ds : List ℤ). SameSet (length terms) (NormalSet n) (AtomSet (record { kind = kind; coefficients = ds; constant = constant }))) is there in
    let both = SameSet-trans (length terms) (NormalSet n) (AtomSet (record { kind = kind; coefficients = map (λ t. t.1) terms; constant = constant })) (Solutions (Atom kind terms constant)) set
    (SameSet-sym (length terms) (Solutions (Atom kind terms constant)) (AtomSet (record { kind = kind; coefficients = map (λ t. t.1) terms; constant = constant })) law) in
    (tracks ∙ count ∙ variables, subst (λ (j : ℕ). SameSet j (NormalSet n) (Solutions (Atom kind terms constant))) variables both)

-- the answers of a call that makes the automaton of a form
pub leaf-ok : (t : Tree) (n : Normal) (leaf : IsLeaf t) (tracks : length n.coefficients ≡ length (free_variables t)) (same : SameSet (length (free_variables t)) (NormalSet n) (Solutions t)) (B : ℕ) (r : Result Automaton TableFault) →
    IfOk r (λ a. IsAtomTable n a) → IfOk r (λ a. a.states ≤ B) → IfOk r (λ a. ResidualsWithin n B) → IfOk r (λ a. IsTableOf t B a)
leaf-ok t n leaf tracks same B (Ok a) table few within = leaf-table t n leaf tracks same B a table few within
leaf-ok t n leaf tracks same B (Err fault) table few within = tt

pub leaf-err : (t : Tree) (n : Normal) (leaf : IsLeaf t) (tracks : length n.coefficients ≡ length (free_variables t)) (same : SameSet (length (free_variables t)) (NormalSet n) (Solutions t)) (B : ℕ) (r : Result Automaton TableFault) →
    IfErr r (RefusesForm n B) → IfErr r (RefusesTree t B)
leaf-err t n leaf tracks same B (Ok a) refused = tt
leaf-err t n leaf tracks same B (Err fault) refused = leaf-refused t n leaf tracks same B fault refused
