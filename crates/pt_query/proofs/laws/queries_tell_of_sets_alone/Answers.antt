use Rattle.pt_handles.specs.Handles.{SetOfHandle}
use Rattle.pt_query.proofs.Alike.{tells-alike}
use Rattle.pt_query.proofs.laws.queries_tell_of_sets_alone.Goals as goal

pub returns : goal.returns
returns g c lists a t = tells-alike t (SetOfHandle lists a) (g.X.TestsVectors.contains c.args.x.now)
