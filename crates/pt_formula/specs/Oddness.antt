-- Formulas that ask of some variables only whether they are odd: such a variable stands for a truth value.
use Rattle.std.specs.Prelude.{ℕ, ◌≡◌, ◌⊎◌, ◌%◌, ◌==◌, Bool, true, false, not, List, [], ◌∷◌, ℤ, pos, unsigned_abs, ⊤}
use Rattle.std.specs.List.{AllByRecursion, list_any}
use Rattle.pt_atoms.specs.declared.Kind.TheVariants.{Mod}
use Rattle.pt_formula.specs.Truth.{Tree, True, False, Atom, Not, And, Or, Iff, Xor, Exists, valuation}

abbrev pub is_odd : ℤ → Bool
is_odd z = unsigned_abs z % 2 == 1

-- that variable v is odd
abbrev pub truth_tree : ℕ → Tree
truth_tree v = Atom (Mod 2) ((v, pos 1) ∷ []) (pos 1)

-- each atom is the oddness of a variable, or has no variable of which is_truth holds
abbrev pub AsksOddness : (ℕ → Bool) → Tree → Type 0
AsksOddness is_truth True = ⊤
AsksOddness is_truth False = ⊤
AsksOddness is_truth (Atom kind terms constant) =
    (list_any (λ t. is_truth t.0) terms ≡ false) ⊎ ((v : ℕ) × (Atom kind terms constant ≡ truth_tree v))
AsksOddness is_truth (Not a) = AsksOddness is_truth a
AsksOddness is_truth (And a b) = AsksOddness is_truth a × AsksOddness is_truth b
AsksOddness is_truth (Or a b) = AsksOddness is_truth a × AsksOddness is_truth b
AsksOddness is_truth (Iff a b) = AsksOddness is_truth a × AsksOddness is_truth b
AsksOddness is_truth (Xor a b) = AsksOddness is_truth a × AsksOddness is_truth b
AsksOddness is_truth (Exists v a) = AsksOddness is_truth a

-- both are odd or both are even where only truth counts, else they are equal
abbrev pub Agree : Bool → ℤ → ℤ → Type 0
Agree true x y = is_odd x ≡ is_odd y
Agree false x y = x ≡ y

-- the values of all variables agree
abbrev pub AgreeUpToOddness : (ℕ → Bool) → (ℕ → ℤ) → (ℕ → ℤ) → Type 0
AgreeUpToOddness is_truth f g = (v : ℕ) → Agree (is_truth v) (f v) (g v)

-- the values of these variables agree
abbrev pub AgreeUpToOddnessAt : (ℕ → Bool) → List ℕ → (ℕ → ℤ) → (ℕ → ℤ) → Type 0
AgreeUpToOddnessAt is_truth vs f g = AllByRecursion (λ v. Agree (is_truth v) (f v) (g v)) vs
