use Rattle.std.proofs.Common.{arith}
use Rattle.pt_query.proofs.Tracks.{few-letters}
use Rattle.pt_query.proofs.digits.letters.Goals as goal

pub returns-clause-few : goal.returns-clause-few
returns-clause-few c = let few = few-letters c.args.tracks c.requires in omega (arith, few)
