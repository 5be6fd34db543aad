use Rattle.std.proofs.Common.{◌≡◌, ◌+◌, List, [], ◌∷◌, ◌++◌, drop, subst, sym}
use Rattle.pt_terms.specs.declared.meaning.Constant.{Constant}
use Rattle.pt_terms.specs.Elaboration.{Work, each, give, ◌>>=◌}
use Rattle.pt_grammar.specs.Exprs.{symbol_of, items_of, items_or_none}
use Rattle.pt_read.specs.Commands.{constant_of}
use Rattle.pt_read.proofs.Steps.{each_start, each_fails, each_goes, each_done}
use Rattle.pt_read.proofs.context.Context.constants.Goals as goal

pub loop-e-init : goal.loop-e-init
loop-e-init c = λ (w : Work). each_start (λ e. constant_of c.args.self.now e (symbol_of e)) c.items_in-es.result.now _ c.new-found.result.items w c.new-found.ensures.items c.items_in-es.ensures

pub returns-in-Err : goal.returns-in-Err
returns-in-Err c = λ (w : Work). each_fails (λ e. constant_of c.args.self.now e (symbol_of e)) c.items_in-es.result.now c.loop-e.e-index c.e-item.result c.loop-e.found.items w _ c.loop-e-test.true c.e-item.is (c.loop-e.invariant w) c.in-Err.refusal (c.in-Err.ensures w)

pub loop-e-preserved : goal.loop-e-preserved
loop-e-preserved c = λ (w : Work).
    let pushed : c.push.new.self.items ≡ c.loop-e.found.items ++ c.in-Ok.c ∷ [] = c.in_ok-push-in-Ok.ensures.items in
    subst (λ (found : List Constant). (each (λ e. constant_of c.args.self.now e (symbol_of e)) (drop (c.loop-e.e-index + 1) c.items_in-es.result.now) >>= λ cs. give (found ++ cs)) w ≡ each (λ e. constant_of c.args.self.now e (symbol_of e)) (items_or_none (items_of c.args.list.now)) w) (sym pushed)
    (each_goes (λ e. constant_of c.args.self.now e (symbol_of e)) c.items_in-es.result.now c.loop-e.e-index c.e-item.result c.loop-e.found.items w _ c.loop-e-test.true c.e-item.is (c.loop-e.invariant w) c.in-Ok.c w (c.in-Ok.ensures w))

pub returns : goal.returns
returns c = λ (w : Work). rw c.new.ensures (each_done (λ e. constant_of c.args.self.now e (symbol_of e)) c.items_in-es.result.now c.loop-e.e-index c.loop-e.found.items w _ c.loop-e-test.false (c.loop-e.invariant w))
