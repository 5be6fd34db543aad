-- How much stands in nested lists: a leaf counts one, and a list one more than what stands in it. Only lists less than n
-- deep are opened; a deeper one counts one.
use Rattle.std.specs.Prelude.{ℕ, zero, suc, ◌+◌, List, sum_by}
use Rattle.pt_syntax.specs.declared.sexpr.SExpr.{SExpr, out-SExpr}
use Rattle.pt_syntax.specs.declared.sexpr.SExpr.TheOpen as layer
use Rattle.pt_syntax.specs.declared.sexpr.SExpr.TheOpen.{SExpr-F}
use Rattle.pt_syntax.specs.Lists.{Script, Done, Stops, Command}

abbrev pub layer_size : (SExpr → ℕ) → SExpr-F SExpr → ℕ
layer_size size (layer.Leaf leaf p) = 1
layer_size size (layer.List items p) = 1 + sum_by size items

abbrev pub size_within : ℕ → SExpr → ℕ
size_within zero e = 1
size_within (suc n) e = layer_size (size_within n) (out-SExpr e)

-- all that stands in the commands of a script, each of them a list
abbrev pub script_size : ℕ → Script → ℕ
script_size n Done = 0
script_size n (Stops e) = 0
script_size n (Command p items rest) = 1 + sum_by (size_within n) items + script_size n rest
