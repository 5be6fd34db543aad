use Rattle.std.proofs.Common.{◌≡◌, ◌≤◌, ℕ, ap, subst, sym, ◌∙◌}
use Rattle.std.proofs.lemmas.Result.{err_from_is_err_and}
use Rattle.pt_sets.specs.Sets.{SameSet}
use Rattle.pt_sets.specs.Automata.{Automaton, IsAutomaton, SetOfState}
use Rattle.pt_sets.specs.Costs.{SamePair, CostIs}
use Rattle.pt_sets.specs.Restricting.{widened}
use Rattle.pt_handles.specs.Handles.{SetOfHandle}
use Rattle.pt_handles.specs.Refusing.{StatesOnlyAbove}
use Rattle.pt_product.specs.Operations.{combined}
use Rattle.pt_product.specs.Pairs.{WideSet, task, IsTask}
use Rattle.pt_product.proofs.Combined.{made, made-automaton, made-set, made-cost, made-within}
use Rattle.pt_product.proofs.Transfers.{refusal-moved}
use Rattle.pt_product.proofs.combining.combine_table.Goals as goal

pub search_pairs-requires-clause-task : goal.search_pairs-requires-clause-task
search_pairs-requires-clause-task g c = record {
  a = c.in_ok-first.ensures.factor;
  b = c.in_ok-second.ensures.factor;
  same = c.in_ok-second.ensures.tracks ∙ sym c.in_ok-first.ensures.tracks;
  tracks = subst (λ (n : ℕ). n ≤ 10) (sym c.in_ok-first.ensures.tracks) c.requires.tracks;
}

pub returns-in_err-search-clause-above : goal.returns-in_err-search-clause-above
returns-in_err-search-clause-above g c =
    let t = c.args.tracks in
    let A = widened c.args.map_a.now (SetOfHandle (g.P.Codes.lists c.args.pass.now) c.args.a) in
    let B = widened c.args.map_b.now (SetOfHandle (g.P.Codes.lists c.args.pass.now) c.args.b) in
    let over_a = WideSet c.in_ok-first.first in
    let over_b = WideSet c.in_ok-second.second in
    let from = err_from_is_err_and c.from_residual-in_err-search.result c.from_residual-in_err-search.ensures.1 in
    let fault = c.in_err-search.field-0.0 in
    let above : StatesOnlyAbove (SamePair t over_a over_b) t c.args.bound fault = subst (λ (n : ℕ). StatesOnlyAbove (SamePair n over_a over_b) n c.args.bound fault) c.in_ok-first.ensures.tracks c.in_err-search.ensures.above in
    rw (from.1, from.2) (refusal-moved t over_a over_b A B c.in_ok-first.ensures.set c.in_ok-second.ensures.set c.args.bound fault above)

pub from_parts-requires : goal.from_parts-requires
from_parts-requires g c =
    let k = task c.args.op c.in_ok-first.first c.in_ok-second.second in
    let is : IsTask k = record {
      a = c.in_ok-first.ensures.factor;
      b = c.in_ok-second.ensures.factor;
      same = c.in_ok-second.ensures.tracks ∙ sym c.in_ok-first.ensures.tracks;
      tracks = subst (λ (n : ℕ). n ≤ 10) (sym c.in_ok-first.ensures.tracks) c.requires.tracks;
    } in
    let search = c.in_ok-search.search in
    let at : ℕ → Automaton = λ n. record { tracks = c.args.tracks; states = n; outputs = search.outputs.items; edges = search.edges.items } in
    subst (λ (n : ℕ). IsAutomaton (at n)) (sym c.len-states.ensures.len) (made-automaton k is c.args.tracks c.args.bound c.in_ok-first.ensures.tracks c.requires.few search c.in_ok-search.ensures.done)

pub returns-clause-set : goal.returns-clause-set
returns-clause-set g c =
    let k = task c.args.op c.in_ok-first.first c.in_ok-second.second in
    let is : IsTask k = record {
      a = c.in_ok-first.ensures.factor;
      b = c.in_ok-second.ensures.factor;
      same = c.in_ok-second.ensures.tracks ∙ sym c.in_ok-first.ensures.tracks;
      tracks = subst (λ (n : ℕ). n ≤ 10) (sym c.in_ok-first.ensures.tracks) c.requires.tracks;
    } in
    let search = c.in_ok-search.search in
    let A = widened c.args.map_a.now (SetOfHandle (g.P.Codes.lists c.args.pass.now) c.args.a) in
    let B = widened c.args.map_b.now (SetOfHandle (g.P.Codes.lists c.args.pass.now) c.args.b) in
    let at : ℕ → Automaton = λ n. record { tracks = c.args.tracks; states = n; outputs = search.outputs.items; edges = search.edges.items } in
    let value = c.from_parts.ensures ∙ ap at c.len-states.ensures.len in
    subst (λ (t : Automaton). SameSet c.args.tracks (SetOfState t 0) (combined c.args.op A B)) (sym value)
    (made-set k is c.args.tracks c.args.bound c.in_ok-first.ensures.tracks c.requires.few search c.in_ok-search.ensures.done A B c.in_ok-first.ensures.set c.in_ok-second.ensures.set)

pub returns-clause-cost : goal.returns-clause-cost
returns-clause-cost g c =
    let k = task c.args.op c.in_ok-first.first c.in_ok-second.second in
    let is : IsTask k = record {
      a = c.in_ok-first.ensures.factor;
      b = c.in_ok-second.ensures.factor;
      same = c.in_ok-second.ensures.tracks ∙ sym c.in_ok-first.ensures.tracks;
      tracks = subst (λ (n : ℕ). n ≤ 10) (sym c.in_ok-first.ensures.tracks) c.requires.tracks;
    } in
    let search = c.in_ok-search.search in
    let A = widened c.args.map_a.now (SetOfHandle (g.P.Codes.lists c.args.pass.now) c.args.a) in
    let B = widened c.args.map_b.now (SetOfHandle (g.P.Codes.lists c.args.pass.now) c.args.b) in
    let at : ℕ → Automaton = λ n. record { tracks = c.args.tracks; states = n; outputs = search.outputs.items; edges = search.edges.items } in
    let value = c.from_parts.ensures ∙ ap at c.len-states.ensures.len in
    subst (λ (t : Automaton). CostIs (SamePair c.args.tracks A B) c.args.tracks t.states) (sym value)
    (made-cost k is c.args.tracks c.args.bound c.in_ok-first.ensures.tracks c.requires.few search c.in_ok-search.ensures.done A B c.in_ok-first.ensures.set c.in_ok-second.ensures.set)

pub returns-clause-within : goal.returns-clause-within
returns-clause-within g c =
    let k = task c.args.op c.in_ok-first.first c.in_ok-second.second in
    let is : IsTask k = record {
      a = c.in_ok-first.ensures.factor;
      b = c.in_ok-second.ensures.factor;
      same = c.in_ok-second.ensures.tracks ∙ sym c.in_ok-first.ensures.tracks;
      tracks = subst (λ (n : ℕ). n ≤ 10) (sym c.in_ok-first.ensures.tracks) c.requires.tracks;
    } in
    let A = widened c.args.map_a.now (SetOfHandle (g.P.Codes.lists c.args.pass.now) c.args.a) in
    let B = widened c.args.map_b.now (SetOfHandle (g.P.Codes.lists c.args.pass.now) c.args.b) in
    made-within k is c.args.tracks c.args.bound c.in_ok-first.ensures.tracks c.requires.few c.in_ok-search.search c.in_ok-search.ensures.done A B c.in_ok-first.ensures.set c.in_ok-second.ensures.set
