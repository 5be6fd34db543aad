use Rattle.pt_handles.specs.Handles.{SetOfHandle}
use Rattle.pt_query.proofs.Alike.{compares-alike}
use Rattle.pt_query.proofs.laws.comparisons_tell_of_sets_alone.Goals as goal

pub returns : goal.returns
returns g c lists a b t = compares-alike t (SetOfHandle lists a) (SetOfHandle lists b) (g.X.TestsVectors.contains c.args.x.now) (g.Y.TestsVectors.contains c.args.y.now)
