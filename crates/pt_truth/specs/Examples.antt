-- A formula at which tests cite the laws.
use Rattle.std.specs.Prelude.{pos, negsuc, [], ◌∷◌}
use Rattle.pt_atoms.specs.declared.Kind.TheVariants.{Eq}
use Rattle.pt_formula.specs.Truth.{Tree, Exists, Atom}

-- variable 0 is twice variable 1
abbrev pub doubled : Tree
doubled = Atom Eq ((0, pos 1) ∷ (1, negsuc 1) ∷ []) (pos 0)

-- variable 0 is even
abbrev pub even : Tree
even = Exists 1 doubled
