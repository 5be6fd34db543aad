use Rattle.pt_project.proofs.Projected.{sign-closure}
use Rattle.pt_project.proofs.Closures.{closing-projection}
use Rattle.pt_project.proofs.laws.sign_closures_are_projections.Goals as goal

pub returns-clause-words : goal.returns-clause-words
returns-clause-words c = sign-closure

pub returns-clause-signs : goal.returns-clause-signs
returns-clause-signs c = closing-projection
