use Rattle.std.proofs.Common.{◌≡◌, ℕ, suc, ◌-◌, ◌≤◌, length, ap, sym, ◌∙◌, subst, arith}
use Rattle.std.proofs.lemmas.Result.{err_from_is_err_and}
use Rattle.pt_sets.specs.Sets.{SameSet}
use Rattle.pt_sets.specs.Automata.{Automaton, IsAutomaton, SetOfState}
use Rattle.pt_sets.specs.Costs.{RestrictsBy, SameFamily, CostIs, CostWithin}
use Rattle.pt_sets.proofs.Counting.{is-within, within-monotone}
use Rattle.pt_handles.specs.Handles.{SetOfHandle}
use Rattle.pt_handles.specs.Refusing.{StatesOnlyAbove}
use Rattle.pt_project.specs.Projecting.{projected, without}
use Rattle.pt_project.specs.Families.{same_family}
use Rattle.pt_project.proofs.FinishedFamilies.{families-cost, families-set, families-automaton}
use Rattle.pt_project.proofs.Transfers.{refusal-moved}
use Rattle.pt_project.proofs.projecting.exists_table.Goals as goal

pub returns-in_err-search-clause-above : goal.returns-in_err-search-clause-above
returns-in_err-search-clause-above g c =
    let n = c.args.a.tracks - 1 in
    let X = SetOfHandle (g.P.Codes.lists c.args.pass.now) c.args.a in
    let e = c.in_ok-table.ensures in
    let size : c.args.a.tracks ≡ suc n = omega arith in
    let tracks : c.in_ok-table.table.tracks ≡ suc n = e.tracks ∙ size in
    let short : c.args.track ≤ n = omega arith in
    let same : SameSet (suc n) (SetOfState c.in_ok-table.table c.in_ok-table.start) X = subst (λ (t : ℕ). SameSet t (SetOfState c.in_ok-table.table c.in_ok-table.start) X) size e.set in
    let from = err_from_is_err_and c.from_residual-in_err-search.result c.from_residual-in_err-search.ensures.1 in
    let fault = c.in_err-search.field-0.0 in
    rw (from.1, from.2)
    (subst (λ (t : ℕ). StatesOnlyAbove (SameFamily (RestrictsBy t (without c.args.track)) t X) n c.args.bound fault) (sym size) (refusal-moved n c.args.track (SetOfState c.in_ok-table.table c.in_ok-table.start) X same c.args.bound fault c.in_err-search.ensures.above))

pub from_parts-requires : goal.from_parts-requires
from_parts-requires g c =
    let n = c.args.a.tracks - 1 in
    let X = SetOfHandle (g.P.Codes.lists c.args.pass.now) c.args.a in
    let e = c.in_ok-table.ensures in
    let size : c.args.a.tracks ≡ suc n = omega arith in
    let tracks : c.in_ok-table.table.tracks ≡ suc n = e.tracks ∙ size in
    let short : c.args.track ≤ n = omega arith in
    let same : SameSet (suc n) (SetOfState c.in_ok-table.table c.in_ok-table.start) X = subst (λ (t : ℕ). SameSet t (SetOfState c.in_ok-table.table c.in_ok-table.start) X) size e.set in
    let search = c.in_ok-search.search in
    let done = c.in_ok-search.ensures.done in
    let at : ℕ → Automaton = λ m. record { tracks = n; states = m; outputs = search.outputs.items; edges = search.edges.items } in
    let few : length search.families ≤ 65536 = omega (arith, done.room) in
    subst (λ (m : ℕ). IsAutomaton (at m)) (sym c.len-states.ensures) (families-automaton c.in_ok-table.table c.in_ok-table.start n c.args.track X e.valid tracks e.in_range short same search.families search.outputs.items search.edges.items done.cells few)

pub returns-clause-set : goal.returns-clause-set
returns-clause-set g c =
    let n = c.args.a.tracks - 1 in
    let X = SetOfHandle (g.P.Codes.lists c.args.pass.now) c.args.a in
    let e = c.in_ok-table.ensures in
    let size : c.args.a.tracks ≡ suc n = omega arith in
    let tracks : c.in_ok-table.table.tracks ≡ suc n = e.tracks ∙ size in
    let short : c.args.track ≤ n = omega arith in
    let same : SameSet (suc n) (SetOfState c.in_ok-table.table c.in_ok-table.start) X = subst (λ (t : ℕ). SameSet t (SetOfState c.in_ok-table.table c.in_ok-table.start) X) size e.set in
    let search = c.in_ok-search.search in
    let done = c.in_ok-search.ensures.done in
    let at : ℕ → Automaton = λ m. record { tracks = n; states = m; outputs = search.outputs.items; edges = search.edges.items } in
    let value = c.from_parts.ensures ∙ ap at c.len-states.ensures in
    subst (λ (t : Automaton). SameSet n (SetOfState t 0) (projected c.args.track X)) (sym value) (families-set c.in_ok-table.table c.in_ok-table.start n c.args.track X e.valid tracks e.in_range short same search.families search.outputs.items search.edges.items done.cells)

pub returns-clause-cost : goal.returns-clause-cost
returns-clause-cost g c =
    let n = c.args.a.tracks - 1 in
    let X = SetOfHandle (g.P.Codes.lists c.args.pass.now) c.args.a in
    let e = c.in_ok-table.ensures in
    let size : c.args.a.tracks ≡ suc n = omega arith in
    let tracks : c.in_ok-table.table.tracks ≡ suc n = e.tracks ∙ size in
    let short : c.args.track ≤ n = omega arith in
    let same : SameSet (suc n) (SetOfState c.in_ok-table.table c.in_ok-table.start) X = subst (λ (t : ℕ). SameSet t (SetOfState c.in_ok-table.table c.in_ok-table.start) X) size e.set in
    let search = c.in_ok-search.search in
    let done = c.in_ok-search.ensures.done in
    let at : ℕ → Automaton = λ m. record { tracks = n; states = m; outputs = search.outputs.items; edges = search.edges.items } in
    let value = c.from_parts.ensures ∙ ap at c.len-states.ensures in
    let cost = families-cost c.in_ok-table.table c.in_ok-table.start n c.args.track X e.valid tracks e.in_range short same search.families search.outputs.items search.edges.items done.cells e.reduced in
    subst (λ (t : Automaton). CostIs (SameFamily (RestrictsBy c.args.a.tracks (without c.args.track)) c.args.a.tracks X) n t.states) (sym value)
    (subst (λ (t : ℕ). CostIs (SameFamily (RestrictsBy t (without c.args.track)) t X) n (length search.families)) (sym size) cost)

pub returns-clause-within : goal.returns-clause-within
returns-clause-within g c =
    let n = c.args.a.tracks - 1 in
    let X = SetOfHandle (g.P.Codes.lists c.args.pass.now) c.args.a in
    let e = c.in_ok-table.ensures in
    let size : c.args.a.tracks ≡ suc n = omega arith in
    let tracks : c.in_ok-table.table.tracks ≡ suc n = e.tracks ∙ size in
    let short : c.args.track ≤ n = omega arith in
    let same : SameSet (suc n) (SetOfState c.in_ok-table.table c.in_ok-table.start) X = subst (λ (t : ℕ). SameSet t (SetOfState c.in_ok-table.table c.in_ok-table.start) X) size e.set in
    let search = c.in_ok-search.search in
    let done = c.in_ok-search.ensures.done in
    let at : ℕ → Automaton = λ m. record { tracks = n; states = m; outputs = search.outputs.items; edges = search.edges.items } in
    let family = same_family n c.args.track X in
    let cost = families-cost c.in_ok-table.table c.in_ok-table.start n c.args.track X e.valid tracks e.in_range short same search.families search.outputs.items search.edges.items done.cells e.reduced in
    subst (λ (t : ℕ). CostWithin (SameFamily (RestrictsBy t (without c.args.track)) t X) n c.args.bound) (sym size) (within-monotone family n (length search.families) c.args.bound done.room (is-within family n (length search.families) cost))
