use Rattle.std.proofs.Common.{◌≡◌, ◌++◌, ◌∷◌, ℤ, Vec, flat_map, map, take}
use Rattle.std.specs.declared.alloc.Global.{Global}
use Rattle.pt_script.specs.Texts.{integer, list}
use Rattle.pt_script.proofs.texts.write_joined_vectors.Given as goal

abbrev pub invariant-loop-z : goal.invariant-loop-z
invariant-loop-z l = l.out.items ≡ l.initial.out.items ++ flat_map (λ (v : Vec ℤ Global). 32 ∷ list (map integer v.items)) (take l.z-index l.rest)
