use Rattle.std.proofs.Common.{map}
use Rattle.pt_formula.specs.declared.form.Form.{Form}
use Rattle.pt_terms.specs.Theory.{compare, neighbours}
use Rattle.pt_terms.specs.Sound.{IsFormOver}
use Rattle.pt_terms.proofs.Pairs.{neighbour_fails, neighbour_goes}
use Rattle.pt_terms.proofs.Chaining.{conjunction_run}
use Rattle.pt_terms.proofs.Ranges.{forms_more, All-item}
use Rattle.pt_terms.proofs.BelowLemmas.{grows_same, grows_trans}
use Rattle.pt_terms.proofs.elaborator.Elaborator.compare_neighbours.Goals as goal

pub loop-f-init : goal.loop-f-init
loop-f-init c = record {
  told = conjunction_run {A = Form × Form} (compare c.args.at c.args.relation) c.args.at (neighbours c.args.first.now (map (λ f. f.now) c.args.rest.now)) c.args.self.now;
  range = tt {0};
  before = c.requires.first;
  rest = c.requires.rest;
  grows = grows_same c.args.self.now;
}

pub returns-in-Err-clause-gives : goal.returns-in-Err-clause-gives
returns-in-Err-clause-gives c = neighbour_fails (λ f. f.now) (compare c.args.at c.args.relation) c.args.at c.loop-f.so_far c.loop-f.before.now c.args.rest.now c.loop-f.f-index c.f-item.result c.loop-f.self _ c.loop-f-test.true c.f-item.is c.loop-f.invariant.told _ c.in-Err.ensures.gives

pub loop-f-preserved : goal.loop-f-preserved
loop-f-preserved c =
    let rest = forms_more c.loop-f.self c.compare_next.new.self (λ f. f.now) c.args.rest.now c.in-Ok.ensures.grows c.loop-f.invariant.rest in
    record {
      told = neighbour_goes (λ f. f.now) (compare c.args.at c.args.relation) c.args.at c.loop-f.so_far c.loop-f.before.now c.args.rest.now c.loop-f.f-index c.f-item.result c.loop-f.self _ c.loop-f-test.true c.f-item.is c.loop-f.invariant.told _ _ c.in-Ok.ensures.gives;
      range = c.in-Ok.ensures.range;
      before = All-item (λ f. IsFormOver c.compare_next.new.self.given f.now) c.args.rest.now c.loop-f.f-index c.f-item.result c.loop-f-test.true c.f-item.is rest;
      rest = rest;
      grows = grows_trans c.args.self.now c.loop-f.self c.compare_next.new.self c.loop-f.invariant.grows c.in-Ok.ensures.grows;
    }
