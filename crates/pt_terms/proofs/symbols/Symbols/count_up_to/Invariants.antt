use Rattle.std.proofs.Common.{◌≡◌, ◌≤◌, length, filter, take}
use Rattle.pt_terms.specs.Symbols.{shown}
use Rattle.pt_terms.proofs.SymbolLemmas.{is_up_to}
use Rattle.pt_terms.proofs.symbols.Symbols.count_up_to.Given as goal

-- the names from here on are of higher levels
abbrev pub invariant-loop-kept : goal.invariant-loop-kept
invariant-loop-kept l = record {
  front : filter (is_up_to l.level) (shown l.self-inside) ≡ filter (is_up_to l.level) (take l.kept (shown l.self-inside));
  within : l.kept ≤ length (shown l.self-inside);
}

abbrev pub decreases-loop-kept : goal.decreases-loop-kept
decreases-loop-kept l = l.kept
