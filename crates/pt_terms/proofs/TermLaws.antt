-- Whole formulas, and terms on the way to them.
use Rattle.std.proofs.Common.{◌≡◌, inl, inr, ℕ, ◌<◌, List, [], ◌∷◌, ◌++◌, length, sym, ap, subst, ◌∙◌, arith}
use Rattle.std.specs.Prelude.{⊤}
use Rattle.std.specs.List.{AllByRecursion}
use Rattle.pt_base.specs.Elements.{ContainsByRecursion}
use Rattle.pt_formula.specs.Formulas.{node_at, children, entry_node, node_tree, tree_of, variables_of, IsFormula}
use Rattle.pt_terms.specs.Terms.{term}
use Rattle.pt_terms.specs.Free.{Nodes, IsWhole, Outside, AreTermsOver}
use Rattle.pt_terms.proofs.FreeNodes.{within-or-none}
use Rattle.pt_terms.proofs.FreeWholeTerms.{good-term-within}

-- the laws of formulas, of one whole formula
abbrev Fronts : Type 0
Fronts = (f more : Nodes) (i : ℕ) → IsFormula (f ++ more) → i < length f → variables_of (f ++ more) i ≡ variables_of f i

abbrev Trees : Type 0
Trees = (f : Nodes) (i : ℕ) → IsFormula f → tree_of f i ≡ node_tree (tree_of f) (node_at f i)

pub whole-formula : Fronts → Trees → (F : Nodes) → IsFormula F → IsWhole F
whole-formula fronts trees F h = record {
  fronts = λ f more i e lt. ap (λ (g : Nodes). variables_of g i) e ∙ fronts f more i (subst IsFormula e h) lt;
  trees = λ i. trees F i h;
  earlier = λ i c k. elim (within-or-none F i) [
    | inl lt ↦ member (λ d. d < i) (children (node_at F i)) (h.each i lt).earlier c k
    | inr none ↦ absurd (subst (λ n. ContainsByRecursion c (children n)) (ap entry_node none) k)
  ];
}
  where
    member : (P : ℕ → Type 0) (us : List ℕ) → AllByRecursion P us → (u : ℕ) → ContainsByRecursion u us → P u
    member P [] h u c = absurd c
    member P (x ∷ us) h u c = elim c [ inl e ↦ subst P (sym e) h.0 | inr k ↦ member P us h.1 u k ]

-- terms are over the variables of the names that they see
pub terms-over : (F : Nodes) → IsWhole F → AreTermsOver F
unfolding term
terms-over F whole env e w w' m step = (
  (good-term-within F whole 257 (λ v. ⊤) (λ v. ⊤) env e w w' m step).0,
  λ vs low high names front le binds. (good-term-within F whole 257 (λ v. ContainsByRecursion v vs) (Outside low high) env e w w' m step).1 names front (λ v from below. inr (omega (arith, le, from))) binds,
)
