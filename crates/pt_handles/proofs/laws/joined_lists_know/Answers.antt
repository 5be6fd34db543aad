use Rattle.pt_handles.proofs.Lasting.{joined_lists_know, joined_sets_are_one_handle}
use Rattle.pt_handles.proofs.laws.joined_lists_know.Goals as goal

pub returns-clause-known : goal.returns-clause-known
returns-clause-known c = joined_lists_know

pub returns-clause-one : goal.returns-clause-one
returns-clause-one c = joined_sets_are_one_handle
