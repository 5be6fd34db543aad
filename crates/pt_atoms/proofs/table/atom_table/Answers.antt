use Rattle.std.proofs.Common.{◌≡◌, ◌∙◌, ◌≤◌, ℕ, length, ap, subst, sym, arith}
use Rattle.pt_sets.specs.Automata.{Automaton, IsAutomaton}
use Rattle.pt_sets.specs.Costs.{SameResidual}
use Rattle.pt_sets.proofs.Counting.{is-within, within-monotone}
use Rattle.pt_atoms.specs.Atoms.{NormalSet}
use Rattle.pt_atoms.specs.Tables.{IsAtomTable, ResidualsAre}
use Rattle.pt_atoms.proofs.Accepting.{automaton_of, is_automaton, is_atom_table, states_are}
use Rattle.pt_atoms.proofs.table.atom_table.Goals as goal

pub from_parts-requires : goal.from_parts-requires
from_parts-requires c =
    let n = c.args.normal.now in
    let ps = c.in-Ok.done.found.keys in
    let edges = c.in-Ok.done.edges.items in
    let outputs = c.in-Ok.done.outputs.items in
    let tracks = ap length c.as_slice.ensures in
    let states : c.len-states.result ≡ length ps = c.len-states.ensures.len in
    let same : record { tracks = length c.as_slice.result.now; states = c.len-states.result; outputs = outputs; edges = edges } ≡ automaton_of n ps edges outputs =
    λ i. record { tracks = tracks i; states = states i; outputs = outputs; edges = edges } in
    let most = c.requires.most in
    subst (λ (a : Automaton). IsAutomaton a) (sym same) (is_automaton n c.args.bound ps edges outputs c.requires.normal_form c.in-Ok.ensures.done (omega (arith, most)))

pub returns-clause-table : goal.returns-clause-table
returns-clause-table c =
    let n = c.args.normal.now in
    let ps = c.in-Ok.done.found.keys in
    let edges = c.in-Ok.done.edges.items in
    let outputs = c.in-Ok.done.outputs.items in
    let tracks = ap length c.as_slice.ensures in
    let states : c.len-states.result ≡ length ps = c.len-states.ensures.len in
    let same : record { tracks = length c.as_slice.result.now; states = c.len-states.result; outputs = outputs; edges = edges } ≡ automaton_of n ps edges outputs =
    λ i. record { tracks = tracks i; states = states i; outputs = outputs; edges = edges } in
    subst (λ (a : Automaton). IsAtomTable n a) (sym (c.from_parts.ensures ∙ same)) (is_atom_table n c.args.bound ps edges outputs c.requires.normal_form c.in-Ok.ensures.done)

pub returns-clause-states : goal.returns-clause-states
returns-clause-states c =
    let n = c.args.normal.now in
    let ps = c.in-Ok.done.found.keys in
    let states : c.len-states.result ≡ length ps = c.len-states.ensures.len in
    let same : c.from_parts.result.states ≡ length ps = ap (λ a. a.states) c.from_parts.ensures ∙ states in
    subst (λ (k : ℕ). ResidualsAre n k) (sym same) (states_are n c.args.bound ps c.in-Ok.done.edges.items c.in-Ok.done.outputs.items c.requires.normal_form c.in-Ok.ensures.done)

pub returns-clause-within : goal.returns-clause-within
returns-clause-within c =
    let n = c.args.normal.now in
    let t = length n.coefficients in
    let ps = c.in-Ok.done.found.keys in
    let are = states_are n c.args.bound ps c.in-Ok.done.edges.items c.in-Ok.done.outputs.items c.requires.normal_form c.in-Ok.ensures.done in
    let room : length ps ≤ c.args.bound = c.in-Ok.ensures.done.room in
    within-monotone (SameResidual t (NormalSet n)) t (length ps) c.args.bound room (is-within (SameResidual t (NormalSet n)) t (length ps) are)
