-- A step of a family, as it is computed.
use Rattle.std.proofs.Common.{◌≡◌, ◌↔◌, inl, inr, ℕ, zero, suc, ◌<◌, List, [], ◌∷◌, lit<, ap, sym, ◌∙◌, subst, arith}
use Rattle.std.specs.List.{flat_map}
use Rattle.pt_sets.specs.Automata.{Automaton, next_of}
use Rattle.pt_base.specs.Elements.{ContainsByRecursion, PairsByRecursion}
use Rattle.pt_project.specs.Projecting.{with_digit}
use Rattle.pt_project.specs.Families.{IsStepFamily, IsSuccessor}
use Rattle.pt_project.proofs.Orders.{in-successors, first-in, second-in}

-- the successors in a list that was put in order
pub listed-successors : (a : Automaton) (l m : ℕ) (F next G : List ℕ) → next ≡ flat_map (λ x. next_of a x l ∷ next_of a x m ∷ []) F → ((x : ℕ) → ContainsByRecursion x next → ContainsByRecursion x G) → ((x : ℕ) → ContainsByRecursion x G → ContainsByRecursion x next) →
    (y : ℕ) → ContainsByRecursion y G ↔ IsSuccessor a l m F y
listed-successors a l m F next G all kept others y = (
  λ in_g. in-successors (λ z. next_of a z l) (λ z. next_of a z m) y F (subst (λ (zs : List ℕ). ContainsByRecursion y zs) all (others y in_g)),
  λ (x, in_f, is).
      let behind : ContainsByRecursion y (flat_map (λ z. next_of a z l ∷ next_of a z m ∷ []) F) =
      elim is [
        | inl first ↦ subst (λ (z : ℕ). ContainsByRecursion z (flat_map (λ z. next_of a z l ∷ next_of a z m ∷ []) F)) first (first-in (λ z. next_of a z l) (λ z. next_of a z m) x F in_f)
        | inr second ↦ subst (λ (z : ℕ). ContainsByRecursion z (flat_map (λ z. next_of a z l ∷ next_of a z m ∷ []) F)) second (second-in (λ z. next_of a z l) (λ z. next_of a z m) x F in_f)
      ] in
      kept y (subst (λ (zs : List ℕ). ContainsByRecursion y zs) (sym all) behind),
)

-- the successors by both letters that are b without the track are the step by b
pub step-of : (a : Automaton) (k : ℕ) (F : List ℕ) (b l m : ℕ) (G : List ℕ) → l ≡ with_digit k 0 b → m ≡ with_digit k 1 b → PairsByRecursion ◌<◌ G → ((y : ℕ) → ContainsByRecursion y G ↔ IsSuccessor a l m F y) → IsStepFamily a k F b G
step-of a k F b l m G zero_is one_is increasing members = record {
  increasing = increasing;
  sound = λ y in_g.
      let (x, in_f, is) = (members y).0 in_g in
      elim is [
        | inl first ↦ (x, 0, in_f, lit< tt, ap (next_of a x) (sym zero_is) ∙ first)
        | inr second ↦ (x, 1, in_f, lit< tt, ap (next_of a x) (sym one_is) ∙ second)
      ];
  complete = λ x d in_f digit. both d digit x in_f;
}
  where
    both : (d : ℕ) → d < 2 → (x : ℕ) → ContainsByRecursion x F → ContainsByRecursion (next_of a x (with_digit k d b)) G
    both zero digit x in_f = (members (next_of a x (with_digit k 0 b))).1 (x, in_f, inl (ap (next_of a x) zero_is))
    both (suc zero) digit x in_f = (members (next_of a x (with_digit k 1 b))).1 (x, in_f, inr (ap (next_of a x) one_is))
    both (suc (suc d)) digit x in_f = absurd (omega arith)
