use Rattle.std.proofs.Common.{◌≡◌, ◌++◌, ◌∷◌, flat_map, take}
use Rattle.pt_script.specs.Texts.{integer}
use Rattle.pt_script.proofs.texts.write_joined_integers.Given as goal

abbrev pub invariant-loop-x : goal.invariant-loop-x
invariant-loop-x l = l.out.items ≡ l.initial.out.items ++ flat_map (λ x. 32 ∷ integer x) (take l.x-index l.rest)
