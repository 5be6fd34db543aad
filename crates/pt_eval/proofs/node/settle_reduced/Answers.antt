use Rattle.std.proofs.Common.{ℕ, ◌≡◌, refl, subst, Result}
use Rattle.std.specs.Prelude.{IfOk}
use Rattle.pt_sets.specs.Automata.{Automaton, SetOfState}
use Rattle.pt_handles.specs.declared.fault.TableFault.{TableFault}
use Rattle.pt_formula.specs.Formulas.{tree_of}
use Rattle.pt_eval.specs.Parts.{IsTableOf}
use Rattle.pt_eval.proofs.OutcomeLaws.{cheap-node, full-where, table-evaluated}
use Rattle.pt_eval.proofs.node.settle_reduced.Goals as goal

pub returns-in-Ok-adopt_reduced-clause-ok : goal.returns-in-Ok-adopt_reduced-clause-ok
returns-in-Ok-adopt_reduced-clause-ok g c =
    let f = c.args.formula.now in
    let t : IsTableOf (tree_of c.args.formula.now c.args.id) c.args.bound c.in-Ok.table = subst (λ (r : Result Automaton TableFault). IfOk r (λ table. IsTableOf (tree_of c.args.formula.now c.args.id) c.args.bound table)) c.in-Ok.is c.requires.ok in
    (table-evaluated g.I.Pass.Codes.home (g.I.Pass.Codes.lists c.adopt_reduced.new.pass) f c.args.bound c.args.id c.in-Ok.table.tracks (SetOfState c.in-Ok.table 0) c.in-Ok-adopt_reduced.handle c.requires.below t.within t.residuals t.tracks t.set c.in-Ok-adopt_reduced.ensures.ok, tt)

pub returns-in-Ok-clause-err : goal.returns-in-Ok-clause-err
returns-in-Ok-clause-err g c =
    let f = c.args.formula.now in
    let t : IsTableOf (tree_of c.args.formula.now c.args.id) c.args.bound c.in-Ok.table = subst (λ (r : Result Automaton TableFault). IfOk r (λ table. IsTableOf (tree_of c.args.formula.now c.args.id) c.args.bound table)) c.in-Ok.is c.requires.ok in
    full-where (λ (i : ℕ). c.args.id ≡ i) f c.args.bound c.args.id refl (cheap-node f c.args.bound c.args.id c.requires.below t.within) g.I.Pass.Codes.home (g.I.Interner.limit_of c.args.store.now) (g.I.Pass.Codes.lists c.adopt_reduced.new.pass)
    c.in-Ok.table.tracks (SetOfState c.in-Ok.table 0) t.tracks t.set c.in-Err.fault c.in-Err.ensures.full
