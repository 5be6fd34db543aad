use Rattle.pt_sets.specs.Costs.{SamePair}
use Rattle.pt_sets.specs.Restricting.{widened}
use Rattle.pt_sets.proofs.Counting.{costs-exclude, pair-equivalence}
use Rattle.pt_handles.specs.Handles.{SetOfHandle}
use Rattle.pt_product.proofs.laws.pair_costs_exclude_each_other.Goals as goal

pub returns : goal.returns
returns g c a b map_a map_b tracks B above within =
    let over_a = widened map_a (SetOfHandle (g.P.Codes.lists c.args.pass.now) a) in
    let over_b = widened map_b (SetOfHandle (g.P.Codes.lists c.args.pass.now) b) in
    costs-exclude (SamePair tracks over_a over_b) tracks (pair-equivalence tracks over_a over_b) B above within
