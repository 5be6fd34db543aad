use mir.Syntax.{w128}
use Rattle.std.proofs.Common.{◌≡◌, ap, ◌∙◌, pos}
use Rattle.std.proofs.lemmas.Int.{to_z-of_z}
use Rattle.pt_atoms.specs.Atoms.{residue}
use Rattle.pt_atoms.proofs.Halving.{half_of_even_rest, half_of_odd_rest}
use Rattle.pt_atoms.proofs.numbers.half_modulo_of.Goals as goal

pub returns-then-rest-eq0 : goal.returns-then-rest-eq0
returns-then-rest-eq0 c =
    let value : pos c.wide_residue_of-rest.result ≡ residue c.args.m c.args.r = c.wide_residue_of-rest.ensures.value ∙ ap (residue c.args.m) (to_z-of_z w128 c.args.r c.ranges.r) in
    half_of_even_rest c.args.m c.wide_residue_of-rest.result c.args.r c.requires.odd c.wide_residue_of-rest.ensures.below value c.if-rest-eq0.true

pub returns-else-rest-eq0 : goal.returns-else-rest-eq0
returns-else-rest-eq0 c =
    let value : pos c.wide_residue_of-rest.result ≡ residue c.args.m c.args.r = c.wide_residue_of-rest.ensures.value ∙ ap (residue c.args.m) (to_z-of_z w128 c.args.r c.ranges.r) in
    half_of_odd_rest c.args.m c.wide_residue_of-rest.result c.args.r c.requires.odd c.wide_residue_of-rest.ensures.below value c.if-rest-eq0.false
