use Rattle.std.proofs.Common.{◌≡◌, ℕ, List, [], ◌∷◌, length, reverse, heap_items, ap, sym, subst, ◌∙◌, arith}
use Rattle.std.proofs.lemmas.List.{reverse-append}
use Rattle.std.proofs.lemmas.List.Sorted.{le_from_greatest}
use Rattle.pt_formula.specs.Formulas.{children, node_at}
use Rattle.pt_eval.specs.Levels.{IsPushed, AreReached}
use Rattle.pt_eval.proofs.ReachLaws.{IsSearch, search-begins, search-skips, search-visits, search-ends}
use Rattle.pt_eval.proofs.reaching.reached.Goals as goal

pub loop-node-init : goal.loop-node-init
loop-node-init c =
    let waiting = heap_items c.push_all.new.waiting in
    let pushed : IsPushed c.args.roots.now [] (heap_items c.push_all.new.waiting) = subst (λ (xs : List ℕ). IsPushed c.args.roots.now xs (heap_items c.push_all.new.waiting)) c.new-waiting.ensures.items c.in_ok-push_all.ensures.pushed in
    record {
      order = c.in_ok-push_all.ensures.order;
      so_far = subst (λ (n : ℕ). IsSearch c.args.formula.now c.args.roots.now n (heap_items c.push_all.new.waiting) (reverse c.new-nodes.result.items)) (sym c.len-end.ensures.count)
          (subst (λ (xs : List ℕ). IsSearch c.args.formula.now c.args.roots.now (length c.args.formula.now) (heap_items c.push_all.new.waiting) (reverse xs)) (sym c.new-nodes.ensures.items)
          (search-begins c.args.formula.now c.args.roots.now waiting c.requires pushed));
    }

pub loop-node-preserved-then-node-end : goal.loop-node-preserved-then-node-end
loop-node-preserved-then-node-end c =
    let f = c.args.formula.now in
    let node = c.in-Some.node in
    let rest = heap_items c.pop.new.self in
    let order = c.loop-node.invariant.order in
    let pushed : IsPushed (children (node_at c.args.formula.now c.in-Some.node)) (heap_items c.pop.new.self) (heap_items c.push_children.new.waiting) =
    subst (λ (cs : List ℕ). IsPushed cs (heap_items c.pop.new.self) (heap_items c.push_children.new.waiting)) (c.children_of.ensures ∙ ap children c.node.ensures) c.in_ok-push_children.ensures.pushed in
    let nodes : reverse c.push.new.self.items ≡ c.in-Some.node ∷ reverse c.loop-node.nodes.items = ap reverse c.in_ok-push.ensures.items ∙ reverse-append c.loop-node.nodes.items (c.in-Some.node ∷ []) in
    record {
      order = c.in_ok-push_children.ensures.order;
      so_far = subst (λ (xs : List ℕ). IsSearch c.args.formula.now c.args.roots.now c.in-Some.node (heap_items c.push_children.new.waiting) xs) (sym nodes)
          (search-visits f c.args.roots.now c.loop-node.end node (heap_items c.loop-node.waiting) rest (reverse c.loop-node.nodes.items) c.in-Some.ensures.permutation c.loop-node.invariant.so_far
          (heap_items c.push_children.new.waiting) c.len-end.ensures.formula c.if-node-end.true (le_from_greatest node rest (c.in-Some.ensures.below_top order)) pushed);
    }

pub loop-node-preserved : goal.loop-node-preserved
loop-node-preserved c = record {
  order = (c.in-Some.ensures.heap_order c.loop-node.invariant.order).0;
  so_far = search-skips c.args.formula.now c.args.roots.now c.loop-node.end c.in-Some.node (heap_items c.loop-node.waiting) (heap_items c.pop.new.self) (reverse c.loop-node.nodes.items) c.in-Some.ensures.permutation c.loop-node.invariant.so_far c.if-node-end.false;
}

pub returns : goal.returns
returns c =
    let none : length (heap_items c.loop-node.waiting) ≡ 0 = omega (arith, c.in_default.ensures.none, c.loop-node.waiting.data.ok.0) in
    subst (λ (xs : List ℕ). AreReached c.args.formula.now c.args.roots.now xs) (sym c.reverse.ensures.items)
    (search-ends c.args.formula.now c.args.roots.now c.loop-node.end (heap_items c.loop-node.waiting) (reverse c.loop-node.nodes.items) none c.loop-node.invariant.so_far)
