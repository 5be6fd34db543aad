use Rattle.std.proofs.Common.{rules, arith, ◌≡◌, ℕ, ◌<◌, List, length, get_or, ap, ◌∙◌, subst}
use Rattle.std.specs.List.{Contains}
use Rattle.pt_refine.specs.Halving.{SplitsBy}
use Rattle.pt_refine.specs.Partitions.{IsMarked}
use Rattle.pt_refine.proofs.Cutting.{splits-same}
use Rattle.pt_refine.proofs.partition.Partition.split.Goals as goal

pub cut_all-requires-clause-classes : goal.cut_all-requires-clause-classes
cut_all-requires-clause-classes c = λ d inside.
    let marks = c.in_ok-mark_all.ensures.marks in
    let at : Contains c.mark_all.new.touched.items d = subst (λ (xs : List ℕ). Contains xs d) c.deref.ensures.value inside in
    let lt = marks.within d at in
    let size = ap length marks.keeps.starts in
    omega arith

pub returns-clause-splits : goal.returns-clause-splits
returns-clause-splits c =
    let p = c.args.self.now in
    let mid = c.mark_all.new.self in
    let new = c.cut_all.new.self in
    let marks = c.in_ok-mark_all.ensures.marks in
    let starts = subst (λ (xs : List ℕ). SplitsBy (length mid.class.items) (length xs) (IsMarked mid) (λ q. get_or mid.class.items q 0) (λ q. get_or new.class.items q 0)) marks.keeps.starts c.in_ok-cut_all.ensures.splits in
    let splits = subst (λ (xs : List ℕ). SplitsBy (length xs) (length p.starts.items) (IsMarked mid) (λ q. get_or xs q 0) (λ q. get_or new.class.items q 0)) marks.keeps.class starts in
    splits-same splits marks.marked
