use mir.Syntax.{w128}
use Rattle.std.proofs.Common.{◌≡◌, ap, ◌∙◌, to_z, of_z, ◌-ℤ◌, arith}
use Rattle.std.proofs.lemmas.Int.{ints}
use Rattle.pt_atoms.specs.Atoms.{residue}
use Rattle.pt_atoms.proofs.Residues.{congruent_test}
use Rattle.pt_atoms.proofs.residuals.are_congruent.Goals as goal

pub returns : goal.returns
returns c =
    let difference : to_z w128 (of_z w128 (to_z w128 (of_z w128 c.args.a) -ℤ to_z w128 (of_z w128 c.args.b))) ≡ c.args.a -ℤ c.args.b = omega (arith, ints) in
    congruent_test c.args.m c.wide_residue_of.result c.args.a c.args.b c.requires.modulus (c.wide_residue_of.ensures.value ∙ ap (residue c.args.m) difference)
