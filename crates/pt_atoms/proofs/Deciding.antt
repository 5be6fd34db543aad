-- The tests that derives write for kinds and parameters decide equality.
use Rattle.std.proofs.Common.{◌≡◌, true, false, Decides, refl, ap, arith}
use Rattle.std.proofs.lemmas.Bool.Decides.{Decides-and, Decides-like, Decides-eqb, Decides-int_eq}
use Rattle.pt_atoms.specs.declared.NormalKind.{NormalKind}
use Rattle.pt_atoms.specs.declared.NormalKind.TheVariants.{Always, Eq, Le, Mod}
use Rattle.pt_atoms.specs.declared.parameter.Parameter.{Parameter}
use Rattle.pt_atoms.specs.contracts.NormalKindPartialEq.TheImpl as kind
use Rattle.pt_atoms.specs.contracts.parameter.ParameterPartialEq.TheImpl as parameter

kinds_decide : (k l : NormalKind) → Decides (kind.ghosts.eq k l) (k ≡ l)
kinds_decide (Always true) (Always true) = (λ _. refl, λ _. refl)
kinds_decide (Always false) (Always false) = (λ _. refl, λ _. refl)
kinds_decide Eq Eq = (λ _. refl, λ _. refl)
kinds_decide Le Le = (λ _. refl, λ _. refl)
kinds_decide (Mod m) (Mod n) = Decides-like _ (λ e. ap Mod e) (λ e. cc) (Decides-eqb m n)
kinds_decide k l = (λ e. absurd (grind (arith, e)), λ e. absurd (grind (arith, e)))

pub parameters_decide : (p q : Parameter) → Decides (parameter.ghosts.eq p q) (p ≡ q)
parameters_decide p q =
    Decides-like _ (λ e. λ i. record { kind = e.0 i; constant = e.1 i }) (λ e. (ap (λ x. x.kind) e, ap (λ x. x.constant) e))
    (Decides-and _ _ (kinds_decide p.kind q.kind) (Decides-int_eq p.constant q.constant))
