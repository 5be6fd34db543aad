use Rattle.std.proofs.Common.{ap}
use Rattle.pt_formula.specs.Truth.{free_variables}
use Rattle.pt_formula.specs.Formulas.{entry_position}
use Rattle.pt_formula.proofs.TreeLaws.{slice_get-append, node_at-append, tree-append}
use Rattle.pt_formula.proofs.EntryLaws.{earlier_children, earlier_in_front}
use Rattle.pt_formula.proofs.laws.appended_nodes_change_no_earlier_one.Goals as goal

pub returns-clause-node : goal.returns-clause-node
returns-clause-node c = node_at-append

pub returns-clause-position : goal.returns-clause-position
returns-clause-position c = λ f more i lt. ap entry_position (slice_get-append f more i lt)

pub returns-clause-tree : goal.returns-clause-tree
returns-clause-tree c = λ f more i h lt. tree-append f more (earlier_children f h) i lt

pub returns-clause-variables : goal.returns-clause-variables
returns-clause-variables c = λ f more i h lt. ap free_variables (tree-append f more (earlier_children f h) i lt)

pub returns-clause-front : goal.returns-clause-front
returns-clause-front c = λ f more i h lt. ap free_variables (tree-append f more (earlier_in_front f more h) i lt)
