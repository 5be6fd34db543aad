-- A formula whose atoms are sorted asks variables of sort Bool for their oddness alone.
use Rattle.std.proofs.Common.{◌≡◌, inl, inr, ℕ, zero, suc, List, [], ◌∷◌, refl, ap, ◌∙◌, false, ◌||◌}
use Rattle.std.specs.List.{list_any}
use Rattle.pt_formula.specs.declared.node.Node.{Node}
use Rattle.pt_formula.specs.declared.node.Node.TheVariants as node
use Rattle.pt_formula.specs.Forms.{Monomial}
use Rattle.pt_formula.specs.Formulas.{node_at, node_tree, tree_below}
use Rattle.pt_formula.specs.Oddness.{AsksOddness}
use Rattle.pt_formula.specs.Truth.{Tree}
use Rattle.pt_terms.specs.declared.meaning.Sort.{Sort}
use Rattle.pt_terms.specs.Free.{Nodes}
use Rattle.pt_terms.specs.Sorts.{AreIntegers, IsSorted, AreSorted, is_truth, is_truth_sort}

no-truth : (given : List Sort) (ts : List Monomial) → AreIntegers given ts → list_any (λ (t : Monomial). is_truth given t.0) ts ≡ false
no-truth given [] h = refl
no-truth given (t ∷ ts) h =
    ap (λ b. b || list_any (λ (u : Monomial). is_truth given u.0) ts) (ap is_truth_sort h.0)
    ∙ no-truth given ts h.1

asks-node : (given : List Sort) (t : ℕ → Tree) (n : Node) → IsSorted given n → ((i : ℕ) → AsksOddness (is_truth given) (t i)) → AsksOddness (is_truth given) (node_tree t n)
asks-node given t node.True s h = tt
asks-node given t node.False s h = tt
asks-node given t (node.Atom kind ts c) (inl s) h = inl (no-truth given ts s)
asks-node given t (node.Atom kind ts c) (inr s) h = inr (s.0, ap (node_tree t) s.2)
asks-node given t (node.Not a) s h = h a
asks-node given t (node.And a b) s h = (h a, h b)
asks-node given t (node.Or a b) s h = (h a, h b)
asks-node given t (node.Iff a b) s h = (h a, h b)
asks-node given t (node.Xor a b) s h = (h a, h b)
asks-node given t (node.Exists v a) s h = h a

pub asks-tree : (f : Nodes) (given : List Sort) → AreSorted f given → (n i : ℕ) → AsksOddness (is_truth given) (tree_below n f i)
asks-tree f given s zero i = tt
asks-tree f given s (suc n) i = asks-node given (tree_below n f) (node_at f i) (s i) (asks-tree f given s n)
