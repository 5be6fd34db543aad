use Rattle.pt_handles.specs.Handles.{SetOfHandle}
use Rattle.pt_formula.specs.Truth.{Solutions}
use Rattle.pt_eval.proofs.TrackLaws.{tracks-are-maps}
use Rattle.pt_eval.proofs.BinaryLaws.{own-solutions, widened-values}
use Rattle.pt_eval.proofs.CostLaws.{handle-residuals}
use Rattle.pt_eval.proofs.laws.handles_of_solutions_are_widened_by_tracks.Goals as goal

pub returns-clause-own : goal.returns-clause-own
returns-clause-own c = own-solutions c.widening_puts_no_condition_on_added_variables.ensures.holds

pub returns-clause-maps : goal.returns-clause-maps
returns-clause-maps c = tracks-are-maps

pub returns-clause-widen : goal.returns-clause-widen
returns-clause-widen c lists h inner outer t = widened-values inner outer (SetOfHandle lists h) (Solutions t)

pub returns-clause-few : goal.returns-clause-few
returns-clause-few c = handle-residuals
