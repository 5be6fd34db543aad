-- How many variable numbers the commands that are left give out at most: one for each leaf and each list that stands in them.
use Rattle.std.specs.Prelude.{ℕ}
use Rattle.pt_syntax.specs.Lists.{Script}
use Rattle.pt_syntax.specs.Sizes.{script_size}
use Rattle.pt_terms.specs.Numbers.{looks}

abbrev pub numbers_in : Script → ℕ
numbers_in = script_size (looks 257)
