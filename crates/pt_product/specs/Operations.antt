-- Boolean operations on answers, on facts and on sets.
use Rattle.std.specs.Prelude.{Bool, true, false, not, ◌&&◌, ◌||◌, ◌⊎◌, ◌↔◌}
use Rattle.pt_sets.specs.Sets.{VectorSet}
use Rattle.pt_sets.specs.Languages.{Language}
use Rattle.pt_formula.specs.declared.Op.{Op}
use Rattle.pt_formula.specs.declared.Op.TheVariants.{And, Or, Iff, Xor}

abbrev pub truth : Op → Bool → Bool → Bool
truth And a b = a && b
truth Or a b = a || b
truth Iff true b = b
truth Iff false b = not b
truth Xor true b = not b
truth Xor false b = b

-- the operation holds of two facts
abbrev pub Connects : Op → Type 0 → Type 0 → Type 0
Connects And A B = A × B
Connects Or A B = A ⊎ B
Connects Iff A B = A ↔ B
Connects Xor A B = (A × (¬ B)) ⊎ ((¬ A) × B)

-- the vectors for which the operation holds of membership in X and in Y
abbrev pub combined : Op → VectorSet → VectorSet → VectorSet
combined op X Y z = Connects op (X z) (Y z)

abbrev pub combined_language : Op → Language → Language → Language
combined_language op X Y w s = truth op (X w s) (Y w s)
