use Rattle.std.proofs.Common.{ℤ, List, length, subst}
use Rattle.pt_atoms.specs.Parameters.{coefficients_at}
use Rattle.pt_atoms.specs.Searches.{AreSums, IsRowOfOutputs}
use Rattle.pt_atoms.proofs.LoopSteps.{on_ok_by}
use Rattle.pt_atoms.proofs.Searching.{parameter_modulus, parameter_constant}
use Rattle.pt_atoms.proofs.Stepping.{parameter_at, search_step}
use Rattle.pt_atoms.proofs.search.add_row.Goals as goal

pub refresh-requires-clause-modulus : goal.refresh-requires-clause-modulus
refresh-requires-clause-modulus c =
    parameter_modulus c.args.normal.now c.index-parameter.result.now c.requires.normal_form (parameter_at c.args.normal.now c.args.search.now.found.keys c.args.q c.index-parameter.result.now c.requires.done.reached c.index-parameter.ensures)

pub add_outputs-requires-clause-modulus : goal.add_outputs-requires-clause-modulus
add_outputs-requires-clause-modulus c =
    parameter_modulus c.args.normal.now c.index-parameter.result.now c.requires.normal_form (parameter_at c.args.normal.now c.args.search.now.found.keys c.args.q c.index-parameter.result.now c.requires.done.reached c.index-parameter.ensures)

pub add_outputs-requires-clause-constant : goal.add_outputs-requires-clause-constant
add_outputs-requires-clause-constant c =
    parameter_constant c.args.normal.now c.index-parameter.result.now c.requires.normal_form (parameter_at c.args.normal.now c.args.search.now.found.keys c.args.q c.index-parameter.result.now c.requires.done.reached c.index-parameter.ensures)

pub add_edges-requires-clause-parameter : goal.add_edges-requires-clause-parameter
add_edges-requires-clause-parameter c = parameter_at c.args.normal.now c.args.search.now.found.keys c.args.q c.index-parameter.result.now c.requires.done.reached c.index-parameter.ensures

pub add_edges-requires-clause-modulus : goal.add_edges-requires-clause-modulus
add_edges-requires-clause-modulus c =
    parameter_modulus c.args.normal.now c.index-parameter.result.now c.requires.normal_form (parameter_at c.args.normal.now c.args.search.now.found.keys c.args.q c.index-parameter.result.now c.requires.done.reached c.index-parameter.ensures)

pub add_edges-requires-clause-constant : goal.add_edges-requires-clause-constant
add_edges-requires-clause-constant c =
    parameter_constant c.args.normal.now c.index-parameter.result.now c.requires.normal_form (parameter_at c.args.normal.now c.args.search.now.found.keys c.args.q c.index-parameter.result.now c.requires.done.reached c.index-parameter.ensures)

pub returns-clause-done : goal.returns-clause-done
returns-clause-done c =
    let n = c.args.normal.now in
    let p = c.index-parameter.result.now in
    let old = c.args.search.now in
    let sums = c.refresh.new.sums.values.items in
    let kept : AreSums (coefficients_at p.kind n.coefficients) sums =
    subst (λ (cs : List ℤ). AreSums (coefficients_at p.kind cs) sums) c.as_slice-coefficients.ensures c.in_ok-refresh.ensures.sums in
    let outputs : IsRowOfOutputs p sums old.outputs.items c.add_outputs.new.outputs.items (length sums) =
    subst (λ (s : List ℤ). IsRowOfOutputs p s old.outputs.items c.add_outputs.new.outputs.items (length s)) c.as_slice-sums.ensures.value c.in_ok-add_outputs.ensures in
    on_ok_by c.add_edges.result c.add_edges.ensures.reached c.add_edges.ensures.room c.add_edges.ensures.row
    (λ reached room row.
    search_step n c.args.bound c.args.q p old.found.keys c.add_edges.new.found.keys sums old.edges.items c.add_edges.new.edges.items old.outputs.items c.add_outputs.new.outputs.items c.requires.normal_form c.index-parameter.ensures kept c.requires.done reached room row outputs)
