use native.Mathlib.Nat.{pos_of_dvd_of_pos}
use Rattle.pt_atoms.proofs.form.congruence_form.Goals as goal

pub reduced_congruence-requires : goal.reduced_congruence-requires
reduced_congruence-requires c = pos_of_dvd_of_pos c.gcd_of-g.ensures.gcd.divides.0 c.requires.above
