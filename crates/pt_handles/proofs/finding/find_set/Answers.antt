use Rattle.std.proofs.Common.{◌≡◌, ℕ, arith, ap, sym, ◌∙◌, subst}
use Rattle.pt_sets.specs.Sets.{SameSet}
use Rattle.pt_sets.specs.Automata.{Automaton, SetOfState}
use Rattle.pt_handles.proofs.Adopted.{ok-same}
use Rattle.pt_handles.proofs.Absent.{stop-same}
use Rattle.pt_handles.proofs.finding.find_set.Goals as goal

pub returns-clause-ok : goal.returns-clause-ok
returns-clause-ok g c =
    let table = c.args.table.now in
    let start = c.args.start in
    let is = c.in_ok-reduced.ensures.reduction in
    let tracks : c.table.result.now.tracks ≡ table.tracks = ap (λ (a : Automaton). a.tracks) c.table.ensures ∙ is.tracks in
    let same : SameSet table.tracks (SetOfState c.table.result.now c.class-class.result) (SetOfState table start) =
    subst (λ (a : Automaton). SameSet table.tracks (SetOfState a c.class-class.result) (SetOfState table start)) (sym c.table.ensures)
    (subst (λ (q : ℕ). SameSet table.tracks (SetOfState c.in_ok-reduced.reduced.table q) (SetOfState table start)) (sym c.class-class.ensures) (is.sets start c.requires.start)) in
    let lists = g.P.Codes.lists c.args.pass.now in
    ok-same g.P.Codes.home lists table.tracks c.table.result.now.tracks (SetOfState c.table.result.now c.class-class.result) (SetOfState table start) tracks same c.find_reduced.result c.find_reduced.ensures.ok

pub returns-clause-err : goal.returns-clause-err
returns-clause-err g c =
    let table = c.args.table.now in
    let start = c.args.start in
    let is = c.in_ok-reduced.ensures.reduction in
    let tracks : c.table.result.now.tracks ≡ table.tracks = ap (λ (a : Automaton). a.tracks) c.table.ensures ∙ is.tracks in
    let same : SameSet table.tracks (SetOfState c.table.result.now c.class-class.result) (SetOfState table start) =
    subst (λ (a : Automaton). SameSet table.tracks (SetOfState a c.class-class.result) (SetOfState table start)) (sym c.table.ensures)
    (subst (λ (q : ℕ). SameSet table.tracks (SetOfState c.in_ok-reduced.reduced.table q) (SetOfState table start)) (sym c.class-class.ensures) (is.sets start c.requires.start)) in
    let lists = g.P.Codes.lists c.args.pass.now in
    stop-same g.P.Codes.home lists table.tracks c.table.result.now.tracks (SetOfState c.table.result.now c.class-class.result) (SetOfState table start) tracks same c.find_reduced.result c.find_reduced.ensures.err
