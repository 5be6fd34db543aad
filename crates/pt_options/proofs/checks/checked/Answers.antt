use Rattle.std.proofs.Common.{subst, sym, Option, List, ℕ}
use Rattle.pt_options.specs.Values.{IsNumberOr}
use Rattle.pt_options.proofs.checks.checked.Goals as goal

pub returns-in_default-number_or : goal.returns-in_default-number_or
returns-in_default-number_or c =
    λ o h. c.in_default-number_or.ensures o.workers (subst (λ (v : Option (List ℕ)). IsNumberOr v 1 16 1 o.workers) (sym c.get_str-2.ensures) h.workers)

pub returns-in_default-number_or-2 : goal.returns-in_default-number_or-2
returns-in_default-number_or-2 c =
    λ o h. c.in_default-number_or-2.ensures o.states (subst (λ (v : Option (List ℕ)). IsNumberOr v 1 65536 16384 o.states) (sym c.get_str-3.ensures) h.states)
