-- The forms that one normal form leads to, told apart by their kind and constant.
use Rattle.std.specs.Prelude.{ℕ, ◌/◌, ◌%◌, ◌==◌, if◌then◌else◌, true, false, List, length, map, replicate, ℤ, pos, ◌-ℤ◌}
use Rattle.pt_atoms.specs.Atoms.{residue, half, half_modulo, is_even, sum_at}
use Rattle.pt_atoms.specs.declared.NormalKind.{NormalKind}
use Rattle.pt_atoms.specs.declared.NormalKind.TheVariants.{Always, Eq, Le, Mod}
use Rattle.pt_atoms.specs.declared.Normal.{Normal}
use Rattle.pt_atoms.specs.declared.parameter.Parameter.{Parameter}

-- the coefficients cs of the first form, as the forms of a kind have them
abbrev pub coefficients_at : NormalKind → List ℤ → List ℤ
coefficients_at (Always b) cs = replicate (length cs) (pos 0)
coefficients_at Eq cs = cs
coefficients_at Le cs = cs
coefficients_at (Mod m) cs = map (residue m) cs

-- the form with a parameter
abbrev pub form_at : List ℤ → Parameter → Normal
form_at cs p = record { kind = p.kind; coefficients = coefficients_at p.kind cs; constant = p.constant }

abbrev pub parameter_of : Normal → Parameter
parameter_of n = record { kind = n.kind; constant = n.constant }

-- the parameter of the residual, r the constant less the sum at the letter's digits
abbrev pub next_parameter : NormalKind → ℤ → Parameter
next_parameter (Always b) r = record { kind = Always b; constant = pos 0 }
next_parameter Eq r = if is_even r then record { kind = Eq; constant = half r } else record { kind = Always false; constant = pos 0 }
next_parameter Le r = record { kind = Le; constant = half r }
next_parameter (Mod m) r =
    if m % 2 == 1 then record { kind = Mod m; constant = half_modulo m r }
    else if is_even r then
    if m / 2 == 1 then record { kind = Always true; constant = pos 0 } else record { kind = Mod (m / 2); constant = residue (m / 2) (half r) }
    else record { kind = Always false; constant = pos 0 }

-- the parameter after a letter
abbrev pub parameter_after : List ℤ → Parameter → ℕ → Parameter
parameter_after cs p d = next_parameter p.kind (p.constant -ℤ sum_at (coefficients_at p.kind cs) d)
