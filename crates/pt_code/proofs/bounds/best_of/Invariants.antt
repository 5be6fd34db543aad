use Rattle.std.proofs.Common.{◌≡◌, ◌<◌, ◌⊎◌}
use Rattle.pt_code.specs.Bounding.{IsBySome}
use Rattle.pt_code.proofs.bounds.best_of.Given as goal

abbrev pub invariant-loop-place : goal.invariant-loop-place
invariant-loop-place l = (l.best ≡ l.fn.own) ⊎ ((l.best.offset < l.fn.own.offset) × (l.best.offset < 65536 → IsBySome l.bounds l.row l.place l.width l.best))
