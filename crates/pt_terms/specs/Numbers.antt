-- How many variable numbers a step of elaboration gives out.
use Rattle.std.specs.Prelude.{◌≡◌, ◌≤◌, ◌+◌, ℕ, zero, suc, length, Ok}
use Rattle.pt_terms.specs.Elaboration.{Work, Elab}

abbrev pub AddsAtMost : {A : Type 0} → ℕ → Elab A → Type 0
AddsAtMost {A} n m = (w w' : Work) (a : A) → m w ≡ Ok (a, w') → length w'.given ≤ length w.given + n

-- how deep the size of a term has to look, whose lists are less than d deep: a term in a `let` is two lists further in
abbrev pub looks : ℕ → ℕ
looks zero = 0
looks (suc d) = suc (suc (suc (looks d)))
