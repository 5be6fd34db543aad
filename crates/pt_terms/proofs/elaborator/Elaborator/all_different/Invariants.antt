use Rattle.std.proofs.Common.{◌≡◌, ◌<◌, All, IfSome, drop, map, length}
use Rattle.pt_terms.specs.Elaboration.{◌>>=◌}
use Rattle.pt_terms.specs.Theory.{different, conjunction, later_pairs}
use Rattle.pt_terms.specs.Chains.{run, close}
use Rattle.pt_terms.specs.Gives.{Grows}
use Rattle.pt_terms.specs.Sound.{IsFormOver}
use Rattle.pt_terms.proofs.elaborator.Elaborator.all_different.Given as goal

-- the pairs that are left, after the node so far, give what all pairs give
abbrev pub invariant-loop-i : goal.invariant-loop-i
invariant-loop-i l = record {
  told : (run (different l.at) l.at l.so_far (later_pairs (map (λ f. f.now) (drop l.i l.forms))) >>= close l.at) l.self
      ≡ conjunction (different l.fn.at) l.fn.at (later_pairs (map (λ f. f.now) l.fn.forms)) l.fn.self;
  range : IfSome l.so_far (λ i. i < length l.self.formula);
  forms : All (λ f. IsFormOver l.self.given f.now) l.forms;
  grows : Grows l.fn.self l.self;
}
