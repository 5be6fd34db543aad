use Rattle.pt_handles.proofs.Decided.{found-one}
use Rattle.pt_handles.proofs.knowing.find_handle.Goals as goal

pub returns-in-Ok-find_set-clause-one : goal.returns-in-Ok-find_set-clause-one
returns-in-Ok-find_set-clause-one g c = λ known.
    found-one g.P.Codes.home (g.P.Codes.lists c.args.pass.now) c.args.handle c.in-Ok.table c.in-Ok.ensures.ok c.in-Ok-find_set.found c.in-Ok-find_set.ensures.ok known
