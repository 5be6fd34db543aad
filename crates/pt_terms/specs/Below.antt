-- What a node binds.
use Rattle.std.specs.Prelude.{ℕ, ◌<◌, ⊤}
use Rattle.pt_formula.specs.declared.node.Node.{Node}
use Rattle.pt_formula.specs.declared.node.Node.TheVariants.{Exists}

abbrev pub BindsBelow : ℕ → Node → Type 0
BindsBelow given (Exists v a) = v < given
BindsBelow given _ = ⊤
