use Rattle.std.proofs.Common.{◌≡◌, ℕ, arith, ap, sym, ◌∙◌, subst}
use Rattle.pt_sets.specs.Sets.{SameSet}
use Rattle.pt_sets.specs.Automata.{Automaton, SetOfState}
use Rattle.pt_handles.proofs.Adopted.{reduction-short, ok-same, err-same}
use Rattle.pt_handles.proofs.adoption.adopt.Goals as goal

pub returns-clause-ok : goal.returns-clause-ok
returns-clause-ok g c =
    let table = c.args.table.now in
    let start = c.args.start in
    let is = c.in-Ok.ensures.reduction in
    let tracks : c.table.result.now.tracks ≡ table.tracks = ap (λ (a : Automaton). a.tracks) c.table.ensures ∙ is.tracks in
    let same : SameSet table.tracks (SetOfState c.table.result.now c.class-class.result) (SetOfState table start) =
    subst (λ (a : Automaton). SameSet table.tracks (SetOfState a c.class-class.result) (SetOfState table start)) (sym c.table.ensures)
    (subst (λ (q : ℕ). SameSet table.tracks (SetOfState c.in-Ok.reduced.table q) (SetOfState table start)) (sym c.class-class.ensures) (is.sets start c.requires.start)) in
    let lists = g.I.Pass.Codes.lists c.adopt_reduced.new.pass in
    ok-same g.I.Pass.Codes.home lists table.tracks c.table.result.now.tracks (SetOfState c.table.result.now c.class-class.result) (SetOfState table start) tracks same c.adopt_reduced.result c.adopt_reduced.ensures.ok

pub returns-clause-full : goal.returns-clause-full
returns-clause-full g c =
    let table = c.args.table.now in
    let start = c.args.start in
    let is = c.in-Ok.ensures.reduction in
    let tracks : c.table.result.now.tracks ≡ table.tracks = ap (λ (a : Automaton). a.tracks) c.table.ensures ∙ is.tracks in
    let same : SameSet table.tracks (SetOfState c.table.result.now c.class-class.result) (SetOfState table start) =
    subst (λ (a : Automaton). SameSet table.tracks (SetOfState a c.class-class.result) (SetOfState table start)) (sym c.table.ensures)
    (subst (λ (q : ℕ). SameSet table.tracks (SetOfState c.in-Ok.reduced.table q) (SetOfState table start)) (sym c.class-class.ensures) (is.sets start c.requires.start)) in
    let lists = g.I.Pass.Codes.lists c.adopt_reduced.new.pass in
    err-same g.I.Pass.Codes.home lists table.tracks c.table.result.now.tracks (SetOfState c.table.result.now c.class-class.result) (SetOfState table start) tracks same (g.I.Interner.limit_of c.args.store.now) c.adopt_reduced.result c.adopt_reduced.ensures.full

pub returns-clause-offers : goal.returns-clause-offers
returns-clause-offers g c =
    let few = reduction-short c.args.table.now c.in-Ok.reduced c.in-Ok.ensures.reduction in
    let same : c.table.result.now.states ≡ c.in-Ok.reduced.table.states = ap (λ (a : Automaton). a.states) c.table.ensures in
    let more = c.adopt_reduced.ensures.offers in
    omega (arith, few, same, more)
