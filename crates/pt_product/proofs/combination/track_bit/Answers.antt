use Rattle.pt_product.proofs.TrackSets.{power_bound}
use Rattle.pt_product.proofs.combination.track_bit.Goals as goal

pub returns-clause-bound : goal.returns-clause-bound
returns-clause-bound c = power_bound c.args.track c.requires
