use Rattle.std.proofs.Common.{◌≡◌, ◌⊎◌, inl, inr, ℕ, length, map}
use Rattle.std.proofs.lemmas.List.{length-map}
use Rattle.std.specs.Prelude.{ℤ, ◌↔◌}
use Rattle.pt_formula.specs.Truth.{Tree, Holds, free_variables, valuation}
use Rattle.pt_truth.proofs.Enumerating.{all_own}
use Rattle.pt_truth.proofs.Trees.{tree_regular, read_back}
use Rattle.pt_truth.proofs.laws.truth_is_decided.Goals as goal

pub returns : goal.returns
returns c t values =
    let vs = free_variables t in
    let same = c.truth_depends_on_free_variables_alone.ensures t (valuation vs (map values vs)) values (all_own (λ u. valuation vs (map values vs) u ≡ values u) vs (read_back values vs)) in
    elim ((tree_regular t vs).decided (map values vs) (length-map vs values)) [
      | inl holds ↦ inl (same.0 holds)
      | inr fails ↦ inr (λ h. fails (same.1 h))
    ]
