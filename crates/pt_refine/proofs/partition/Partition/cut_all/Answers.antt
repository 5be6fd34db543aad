use Rattle.std.proofs.Common.{rules, arith, ◌≡◌, ℕ, ◌<◌, ◌≤◌, length, get_or, refl, ◌∙◌}
use Rattle.std.proofs.lemmas.List.Elements.{Contains-get_or}
use Rattle.pt_refine.specs.Partitions.{IsMarked}
use Rattle.pt_refine.proofs.Cutting.{IsBefore, cut-none, cut-more, cut-all, cut-unmarked, before-all}
use Rattle.pt_refine.proofs.partition.Partition.cut_all.Goals as goal

pub loop-class-init : goal.loop-class-init
loop-class-init c = record {
  partition = c.requires.partition;
  size = refl;
  grows = omega arith;
  cut = cut-none (length c.args.self.now.class.items) (length c.args.self.now.starts.items) c.args.classes.now (λ q. get_or c.args.self.now.class.items q 0) (IsMarked c.args.self.now);
}

pub cut-requires-clause-class : goal.cut-requires-clause-class
cut-requires-clause-class c =
    let xs = c.args.classes.now in
    let i = c.loop-class.class-index in
    let lt = c.requires.classes (get_or xs i 0) (Contains-get_or xs i 0 c.loop-class-test.true) in
    let grows = c.loop-class.invariant.grows in
    omega arith

pub loop-class-preserved : goal.loop-class-preserved
loop-class-preserved c =
    let was = c.loop-class.invariant in
    let made = c.in_ok-cut.ensures in
    record {
      partition = made.partition;
      size = made.cuts.size ∙ was.size;
      grows = let first = was.grows in let then = made.cuts.grows in omega arith;
      cut = cut-more was.cut (length c.loop-class.self.starts.items) was.grows (rw was.size at made.cuts.cuts);
    }

pub returns-clause-unmarked : goal.returns-clause-unmarked
returns-clause-unmarked c =
    let was = c.loop-class.invariant in
    let xs = c.args.classes.now in
    let class = λ (q : ℕ). get_or c.args.self.now.class.items q 0 in
    let all : c.loop-class.class-index ≡ length xs = search rules in
    let listed : (q : ℕ) → q < length c.args.self.now.class.items → IsMarked c.args.self.now q → IsBefore xs c.loop-class.class-index (class q) =
    λ q q_in is. (before-all xs c.loop-class.class-index (class q) all).1 (c.requires.all q q_in is) in
    λ q q_in. let size = was.size in cut-unmarked was.cut listed q (omega arith)

pub returns-clause-splits : goal.returns-clause-splits
returns-clause-splits c =
    let was = c.loop-class.invariant in
    let xs = c.args.classes.now in
    let class = λ (q : ℕ). get_or c.args.self.now.class.items q 0 in
    let all : c.loop-class.class-index ≡ length xs = search rules in
    let listed : (q : ℕ) → q < length c.args.self.now.class.items → IsMarked c.args.self.now q → IsBefore xs c.loop-class.class-index (class q) =
    λ q q_in is. (before-all xs c.loop-class.class-index (class q) all).1 (c.requires.all q q_in is) in
    cut-all was.cut listed
