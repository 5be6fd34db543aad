use Rattle.std.proofs.Common.{rules, ◌≡◌, ◌<◌, length, map, ap, sym, subst, ◌∙◌, to_z, of_z, w64}
use Rattle.std.specs.Prelude.{Ok, pos, ◌-ℤ◌, FitsSigned}
use Rattle.std.proofs.lemmas.Int.{to_z-of_z}
use Rattle.pt_formula.specs.declared.node.Node.TheVariants as node
use Rattle.pt_formula.specs.Formulas.{node_at}
use Rattle.pt_terms.specs.Elaboration.{constant_form}
use Rattle.pt_terms.specs.Theory.{substituted, atom, new_constant}
use Rattle.pt_terms.specs.Copies.{IsNodeBelow, copied_node, new_number}
use Rattle.pt_terms.specs.Sorts.{AreIntegers, IsSorted}
use Rattle.pt_terms.proofs.SymbolTerms.{gives_same}
use Rattle.pt_terms.proofs.IntegerCopies.{integers-first, integer-copied}
use Rattle.pt_terms.proofs.elaborator.Elaborator.copy_node.Goals as goal

pub returns-in_ok-g-in-Int-clause-gives : goal.returns-in_ok-g-in-Int-clause-gives
returns-in_ok-g-in-Int-clause-gives c =
    let range = subst (IsNodeBelow c.args.self.now.given c.args.i) c.in-Atom.is c.node.ensures.range in
    let same : c.as_slice.result.now ≡ c.in-Atom.terms = c.as_slice.ensures in
    let some : 0 < length c.as_slice.result.now = subst (λ ts. 0 < length ts) (sym same) range.0.0 in
    let sorted : IsSorted c.args.self.now.given (node.Atom c.in-Atom.kind c.as_slice.result.now c.in-Atom.constant) = subst (λ ts. IsSorted c.args.self.now.given (node.Atom c.in-Atom.kind ts c.in-Atom.constant)) (sym same) range.1 in
    let ints : AreIntegers c.args.self.now.given c.in-Atom.terms = subst (AreIntegers c.args.self.now.given) same (integers-first c.args.self.now.given c.in-Atom.kind c.as_slice.result.now c.in-Atom.constant _ some c.in-Int.ensures sorted) in
    let from-zero : substituted c.args.at (map (λ r. (r.0, r.1.now)) c.args.replacements.now) (constant_form (pos 0)) c.as_slice-in-Int.result.now c.args.self.now ≡ Ok (c.in_ok-g-in-Int.g, c.args.self.now) =
    subst (λ z. substituted c.args.at (map (λ r. (r.0, r.1.now)) c.args.replacements.now) z c.as_slice-in-Int.result.now c.args.self.now ≡ Ok (c.in_ok-g-in-Int.g, c.args.self.now)) c.form_of_number-zero.ensures c.in_ok-g-in-Int.ensures.gives in
    let ok : substituted c.args.at (map (λ r. (r.0, r.1.now)) c.args.replacements.now) (constant_form (pos 0)) c.in-Atom.terms c.args.self.now ≡ Ok (c.in_ok-g-in-Int.g, c.args.self.now) =
    subst (λ ts. substituted c.args.at (map (λ r. (r.0, r.1.now)) c.args.replacements.now) (constant_form (pos 0)) ts c.args.self.now ≡ Ok (c.in_ok-g-in-Int.g, c.args.self.now)) c.as_slice-in-Int.ensures from-zero in
    let fits : FitsSigned w64 c.in-Atom.constant = search rules in
    let number : to_z w64 (of_z w64 c.in-Atom.constant) ≡ c.in-Atom.constant = to_z-of_z w64 c.in-Atom.constant fits in
    gives_same (λ i. i) c.copy_atom.result c.args.self.now c.copy_atom.new.self
    (copied_node c.args.at (map (λ r. (r.0, r.1.now)) c.args.replacements.now) (new_number c.args.numbers.now) (node_at c.args.self.now.formula c.args.i))
    (atom c.args.at c.in-Atom.kind c.in_ok-g-in-Int.g.terms (new_constant c.in-Atom.kind (to_z w64 (of_z w64 c.in-Atom.constant) -ℤ c.in_ok-g-in-Int.g.constant)))
    (ap (λ n. copied_node c.args.at (map (λ r. (r.0, r.1.now)) c.args.replacements.now) (new_number c.args.numbers.now) n c.args.self.now) (sym c.node.ensures.is ∙ c.in-Atom.is)
    ∙ integer-copied c.args.at (map (λ r. (r.0, r.1.now)) c.args.replacements.now) (new_number c.args.numbers.now) c.in-Atom.kind c.in-Atom.terms c.in-Atom.constant c.in_ok-g-in-Int.g c.args.self.now c.requires.replacements ints ok
    ∙ ap (λ k. atom c.args.at c.in-Atom.kind c.in_ok-g-in-Int.g.terms (new_constant c.in-Atom.kind (k -ℤ c.in_ok-g-in-Int.g.constant)) c.args.self.now) (sym number))
    c.copy_atom.ensures.gives
