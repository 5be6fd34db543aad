use Rattle.std.proofs.Common.{refl, arith, codes}
use Rattle.pt_options.proofs.Starts.{sets}
use Rattle.pt_options.proofs.shape.start_of.Goals as goal

pub returns-then-is_set : goal.returns-then-is_set
returns-then-is_set c = sets (codes "mode") _ c.args.word.now (0, omega arith, refl) refl (c.is_set.ensures.0 c.if-is_set.true)

pub returns-then-is_set-2 : goal.returns-then-is_set-2
returns-then-is_set-2 c = sets (codes "workers") _ c.args.word.now (1, omega arith, refl) refl (c.is_set-2.ensures.0 c.if-is_set-2.true)

pub returns-then-is_set-3 : goal.returns-then-is_set-3
returns-then-is_set-3 c = sets (codes "states") _ c.args.word.now (2, omega arith, refl) refl (c.is_set-3.ensures.0 c.if-is_set-3.true)

pub returns-then-is_set-4 : goal.returns-then-is_set-4
returns-then-is_set-4 c = sets (codes "seed") _ c.args.word.now (3, omega arith, refl) refl (c.is_set-4.ensures.0 c.if-is_set-4.true)

pub returns-then-is_set-5 : goal.returns-then-is_set-5
returns-then-is_set-5 c = sets (codes "size") _ c.args.word.now (4, omega arith, refl) refl (c.is_set-5.ensures.0 c.if-is_set-5.true)
