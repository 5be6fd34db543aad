use Rattle.pt_fresh.specs.Pairs.{compare}
use Rattle.pt_fresh.proofs.StepLaws.{ok-of}
use Rattle.pt_fresh.proofs.pairs.compare.Goals as goal

pub returns-clause-holds : goal.returns-clause-holds
returns-clause-holds c =
    let f = c.args.formula.now in
    let g = c.compare_nodes.new.formula in
    ok-of _ (compare c.args.at c.args.relation c.args.a.now c.args.b.now) f g c.compare_nodes.result c.compare_nodes.ensures.makes
    (λ i e. (c.nodes_compare_values.ensures.compare f g c.args.at c.args.relation c.args.a.now c.args.b.now i c.is_formula.ensures c.requires.a.terms c.requires.b.terms e).holds)
