use Rattle.pt_terms.specs.Theory.{different}
use Rattle.pt_terms.proofs.Pairs.{row_fails, row_goes}
use Rattle.pt_terms.proofs.Ranges.{form_more, forms_more}
use Rattle.pt_terms.proofs.BelowLemmas.{grows_trans}
use Rattle.pt_terms.proofs.elaborator.Elaborator.different_from_all.Goals as goal

pub returns-in-Err-clause-gives : goal.returns-in-Err-clause-gives
returns-in-Err-clause-gives c = row_fails (λ f. f.now) (different c.args.at) c.args.at c.loop-f.so_far c.args.first.now c.args.rest.now c.loop-f.f-index c.f-item.result c.loop-f.self _ c.loop-f-test.true c.f-item.is c.loop-f.invariant.told _ c.in-Err.ensures.gives

pub loop-f-preserved : goal.loop-f-preserved
loop-f-preserved c = record {
  told = row_goes (λ f. f.now) (different c.args.at) c.args.at c.loop-f.so_far c.args.first.now c.args.rest.now c.loop-f.f-index c.f-item.result c.loop-f.self _ c.loop-f-test.true c.f-item.is c.loop-f.invariant.told _ _ c.in-Ok.ensures.gives;
  range = c.in-Ok.ensures.range;
  first = form_more c.loop-f.self c.different_next.new.self c.args.first.now c.in-Ok.ensures.grows c.loop-f.invariant.first;
  rest = forms_more c.loop-f.self c.different_next.new.self (λ f. f.now) c.args.rest.now c.in-Ok.ensures.grows c.loop-f.invariant.rest;
  grows = grows_trans c.args.self.now c.loop-f.self c.different_next.new.self c.loop-f.invariant.grows c.in-Ok.ensures.grows;
}
