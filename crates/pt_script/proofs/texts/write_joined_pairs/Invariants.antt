use Rattle.std.proofs.Common.{◌≡◌, ◌++◌, ◌∷◌, flat_map, take}
use Rattle.pt_formula.specs.Truth.{valuation}
use Rattle.pt_script.specs.Texts.{value_pair}
use Rattle.pt_script.proofs.texts.write_joined_pairs.Given as goal

abbrev pub invariant-loop-constant : goal.invariant-loop-constant
invariant-loop-constant l = l.out.items ≡ l.initial.out.items ++ flat_map (λ c. 32 ∷ value_pair (valuation l.variables l.values) c) (take l.constant-index l.rest)
