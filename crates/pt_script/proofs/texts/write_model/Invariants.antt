use Rattle.std.proofs.Common.{◌≡◌, ◌++◌, flat_map, take}
use Rattle.pt_formula.specs.Truth.{valuation}
use Rattle.pt_script.specs.Texts.{model_line}
use Rattle.pt_script.proofs.texts.write_model.Given as goal

abbrev pub invariant-loop-constant : goal.invariant-loop-constant
invariant-loop-constant l = l.out.items ≡ l.initial.out.items ++ flat_map (model_line (valuation l.variables l.values)) (take l.constant-index l.constants)
