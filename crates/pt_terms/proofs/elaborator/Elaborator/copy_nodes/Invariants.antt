use Rattle.std.proofs.Common.{◌≡◌, ◌<◌, [], drop, map, length, All}
use Rattle.pt_terms.specs.Copies.{numbered}
use Rattle.pt_terms.specs.Gives.{Grows}
use Rattle.pt_terms.specs.Sound.{AreReplacing}
use Rattle.pt_terms.proofs.elaborator.Elaborator.copy_nodes.Given as goal

-- the marks that are left, after the new numbers so far, give what all give
abbrev pub invariant-loop-i : goal.invariant-loop-i
invariant-loop-i l = record {
  told : numbered l.at (map (λ r. (r.0, r.1.now)) l.replacements) l.fn.self.formula l.numbers.items (drop l.i l.marks) l.self
      ≡ numbered l.fn.at (map (λ r. (r.0, r.1.now)) l.fn.replacements) l.fn.self.formula [] l.fn.marks l.fn.self;
  size : length l.numbers.items ≡ l.i;
  range : All (λ j. j < length l.self.formula) l.numbers.items;
  replacements : AreReplacing l.self (map (λ r. (r.0, r.1.now)) l.replacements);
  grows : Grows l.fn.self l.self;
}
