use Rattle.pt_shards.proofs.Agreeing.{Begins-Agree, Begins-trans, Agree-Begins}
use Rattle.pt_shards.proofs.laws.agreeing_lists_begin_one_another.Goals as goal

pub returns-clause-shorter : goal.returns-clause-shorter
returns-clause-shorter c = Begins-Agree

pub returns-clause-agree : goal.returns-clause-agree
returns-clause-agree c = Agree-Begins

pub returns-clause-longer : goal.returns-clause-longer
returns-clause-longer c = Begins-trans
