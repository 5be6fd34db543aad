use Rattle.std.proofs.Common.{◌≡◌, ◌++◌, take, drop}
use Rattle.std.specs.Prelude.{true, option_map}
use Rattle.pt_syntax.specs.Lexemes.{literal_rest}
use Rattle.pt_syntax.proofs.front.literal_len.Given as goal

-- what was passed, in front of what is left of the literal from here
abbrev pub invariant-loop-i : goal.invariant-loop-i
invariant-loop-i l = option_map (λ rest. take l.i l.behind ++ rest) (literal_rest l.is_inside (drop l.i l.behind)) ≡ literal_rest true l.behind
