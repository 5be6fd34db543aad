use Rattle.std.proofs.Common.{rules, arith, ◌≡◌, ℕ, ◌<◌, ◌≤◌, ◌↔◌, List, length, get_or, sym, ap, ◌∙◌, subst}
use Rattle.std.specs.Global.{Vec}
use Rattle.std.specs.List.{Contains}
use Rattle.pt_refine.specs.Halving.{SplitsBy}
use Rattle.pt_refine.specs.Dealing.{row_of}
use Rattle.pt_refine.proofs.Rows.{row-get}
use Rattle.pt_refine.proofs.HalvingSteps.{split-none, split-more, split-all}
use Rattle.pt_refine.proofs.halves.partition_of.Goals as goal

pub loop-class-init : goal.loop-class-init
loop-class-init c =
    let len = c.args.classes.now.numbers.ok.0 in
    let is = c.len.ensures in
    let made = c.in_ok-partition.ensures in
    let size : length c.in_ok-partition.partition.class.items ≡ length c.args.classes.now.numbers.items = let e = made.size in omega arith in
    record {
      partition = made.partition;
      unmarked = made.unmarked;
      size = size;
      split = split-none (length c.args.classes.now.numbers.items) (λ q. get_or c.args.classes.now.numbers.items q 0) (λ q. get_or c.in_ok-partition.partition.class.items q 0)
          (λ q q_in. made.one q (let e = made.size in omega arith));
    }

pub split-requires-clause-row : goal.split-requires-clause-row
split-requires-clause-row c = λ q inside.
    let rows = c.in_ok-rows.rows.items in
    let d = c.loop-class.class in
    let d_in : d < length rows = search rules in
    let row_is : c.deref.result.now ≡ row_of rows d = c.deref.ensures.value ∙ ap (λ (v : Vec ℕ). v.items) c.index.ensures ∙ sym (row-get rows d c.index.result.now d_in) in
    let at = c.in_ok-rows.ensures.rows.sound q d (subst (λ (xs : List ℕ). Contains xs q) row_is inside) in
    let lt = at.0 in
    let size = c.loop-class.invariant.size in
    omega arith

pub loop-class-preserved : goal.loop-class-preserved
loop-class-preserved c =
    let was = c.loop-class.invariant in
    let made = c.in_ok-split.ensures in
    let numbers = c.args.classes.now.numbers.items in
    let rows = c.in_ok-rows.rows.items in
    let d = c.loop-class.class in
    let d_in : d < length rows = search rules in
    let row_is : c.deref.result.now ≡ row_of rows d = c.deref.ensures.value ∙ ap (λ (v : Vec ℕ). v.items) c.index.ensures ∙ sym (row-get rows d c.index.result.now d_in) in
    let row : (q : ℕ) → q < length numbers → Contains c.deref.result.now q ↔ (get_or numbers q 0 ≡ d) = λ q q_in. (
      λ inside. (c.in_ok-rows.ensures.rows.sound q d (subst (λ (xs : List ℕ). Contains xs q) row_is inside)).1,
      λ is. subst (λ (xs : List ℕ). Contains xs q) (sym row_is) (subst (λ (x : ℕ). Contains (row_of rows x) q) is (c.in_ok-rows.ensures.rows.complete q q_in)),
    ) in
    let splits = subst (λ (n : ℕ). SplitsBy n (length c.loop-class.partition.starts.items) (Contains c.deref.result.now) (λ q. get_or c.loop-class.partition.class.items q 0) (λ q. get_or c.split.new.self.class.items q 0)) was.size made.splits in
    record {
      partition = made.partition;
      unmarked = made.unmarked;
      size = made.size ∙ was.size;
      split = split-more was.split splits row;
    }

pub returns-clause-classes : goal.returns-clause-classes
returns-clause-classes c =
    let numbers = c.args.classes.now.numbers.items in
    let all : c.args.classes.now.count ≤ c.loop-class.class = search rules in
    split-all c.loop-class.invariant.split (λ q q_in. let lt = c.requires.classes.below q q_in in omega arith)
