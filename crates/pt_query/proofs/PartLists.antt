-- Parts as lists.
use Rattle.std.proofs.Common.{◌≡◌, ℕ, zero, suc, ◌<◌, List, [], ◌∷◌, length, get_or, refl, ap, arith}
use Rattle.std.specs.Prelude.{slice_index_or}
use Rattle.std.specs.Global.{Vec}
use Rattle.pt_scc.specs.Components.{lists_of}

pub part-items : (parts : List (Vec ℕ)) (i : ℕ) (d : Vec ℕ) → i < length parts → slice_index_or (lists_of parts) i [] ≡ (get_or parts i d).items
part-items [] i d h = absurd (omega arith)
part-items (p ∷ parts) zero d h = refl
part-items (p ∷ parts) (suc i) d h = part-items parts i d (omega arith)

pub length-lists : (parts : List (Vec ℕ)) → length (lists_of parts) ≡ length parts
length-lists [] = refl
length-lists (p ∷ parts) = ap suc (length-lists parts)
