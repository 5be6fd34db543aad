use Rattle.std.proofs.Common.{rules, arith, ◌≡◌, ℕ, ◌<◌, ◌≤◌, ◌↔◌, length, get_or, sym, ◌∙◌, subst}
use Rattle.pt_sets.specs.Automata.{next_of}
use Rattle.pt_refine.specs.Halving.{IsLayout}
use Rattle.pt_refine.specs.Refining.{IsStable}
use Rattle.pt_refine.proofs.Layouts.{layout-count}
use Rattle.pt_refine.proofs.HalvingSteps.{pends-first, refines-from, stable-at}
use Rattle.pt_refine.proofs.halves.stable_classes.Goals as goal

pub partition_of-requires-clause-some : goal.partition_of-requires-clause-some
partition_of-requires-clause-some g c =
    let size = c.in_ok-first.ensures.classes.numbering.size in
    let some = c.letters-letters.ensures.valid.some_state in
    omega arith

pub partition_of-requires-clause-few : goal.partition_of-requires-clause-few
partition_of-requires-clause-few g c =
    let size = c.in_ok-first.ensures.classes.numbering.size in
    let few = c.letters-letters.ensures.valid.few_states in
    omega arith

pub loop-class-init : goal.loop-class-init
loop-class-init g c =
    let a = c.args.table.now in
    let first = c.in_ok-first.ensures.classes in
    let made = c.in_ok-partition.ensures in
    let class = c.in_ok-partition.partition.class.items in
    let numbers = c.in_ok-first.first.numbers.items in
    let same : (q r : ℕ) → q < a.states → r < a.states → (get_or class q 0 ≡ get_or class r 0) ↔ (get_or numbers q 0 ≡ get_or numbers r 0) = rw first.numbering.size at made.classes in
    record {
      partition = made.partition;
      unmarked = made.unmarked;
      size = made.size ∙ first.numbering.size;
      refines = refines-from class first same;
      pends = pends-first _ _ _ _;
      rows = c.in_ok-rows.ensures.count ∙ c.letters-letters.ensures.letters;
    }

pub loop-class-smaller : goal.loop-class-smaller
loop-class-smaller g c =
    let was = c.loop-class.invariant in
    let few = layout-count was.partition.layout in
    let size = was.size in
    let is = c.count.ensures in
    let lt = c.loop-class-test.true in
    omega arith

pub returns : goal.returns
returns g c =
    let a = c.args.table.now in
    let was = c.loop-class.invariant in
    let p = c.loop-class.partition in
    let all : length p.starts.items ≤ c.loop-class.class = let is = c.count.ensures in let ge = c.loop-class-test.false in omega arith in
    let lay : IsLayout a.states (length p.starts.items) (λ i. get_or p.order.items i 0) (λ q. get_or p.place.items q 0) (λ q. get_or p.class.items q 0) (λ d. get_or p.starts.items d 0) (λ d. get_or p.ends.items d 0) (λ d. get_or p.marked.items d 0) =
    rw was.size at was.partition.layout in
    let made = stable-at p.class.items (length p.starts.items) c.loop-class.class c.letters-letters.ensures.valid was.size lay was.refines was.pends all in
    rw (c.into_classes.ensures.numbers, c.into_classes.ensures.count) made
