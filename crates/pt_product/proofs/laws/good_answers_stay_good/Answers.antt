use Rattle.pt_product.proofs.Cached.{good-longer}
use Rattle.pt_product.proofs.laws.good_answers_stay_good.Goals as goal

pub returns : goal.returns
returns c home old new entries longer good = good-longer c.longer_lists_know.ensures home old new longer entries good
