use Rattle.std.proofs.Common.{◌≡◌, ◌≢◌, ◌<◌, ◌≤◌, ◌++◌, ℕ, List, [], ◌∷◌, length, take, nat_eq, Some, sym, ap, subst, ◌∙◌}
use Rattle.std.specs.Prelude.{slice_index}
use Rattle.std.specs.HashMap.{get}
use Rattle.std.proofs.lemmas.List.{take_all}
use Rattle.pt_eval.specs.Levels.{level_of, row_of}
use Rattle.pt_eval.proofs.ReachLaws.{contains-at, take-next}
use Rattle.pt_eval.proofs.LevelLaws.{IsPlanning, front-less, children-known, level-near, planning-goes-on, planning-ends, get-apart}
use Rattle.pt_eval.proofs.levels.level_rows.Goals as goal

pub level-own-requires-clause-inside : goal.level-own-requires-clause-inside
level-own-requires-clause-inside c = c.requires.within (slice_index c.args.nodes.now c.loop-node.node-index) (contains-at c.args.nodes.now c.loop-node.node-index c.loop-node-test.true)

pub level-own-requires-clause-children : goal.level-own-requires-clause-children
level-own-requires-clause-children c = children-known c.args.formula.now c.is_formula.ensures c.args.nodes.now c.loop-node.node-index (get nat_eq c.loop-node.levels) c.loop-node.rows.items c.requires c.loop-node-test.true c.loop-node.invariant

pub make_row-requires : goal.make_row-requires
make_row-requires c =
    let near = level-near c.args.formula.now c.is_formula.ensures c.args.nodes.now c.loop-node.node-index (get nat_eq c.loop-node.levels) c.loop-node.rows.items c.requires c.loop-node-test.true c.loop-node.invariant in
    subst (λ (n : ℕ). n ≤ length c.loop-node.rows.items) (sym c.level-own.ensures) near

pub loop-node-preserved : goal.loop-node-preserved
loop-node-preserved c =
    let f = c.args.formula.now in
    let nodes = c.args.nodes.now in
    let k = c.loop-node.node-index in
    let n = slice_index nodes k in
    let own : c.level-own.result ≡ level_of c.args.formula.now (slice_index c.args.nodes.now c.loop-node.node-index) = c.level-own.ensures in
    subst (λ (xs : List ℕ). IsPlanning c.args.formula.now xs (get nat_eq c.insert.new.self) c.add_node.new.rows.items) (sym (take-next nodes k c.loop-node-test.true))
    (planning-goes-on f (take k nodes) n (get nat_eq c.loop-node.levels) (get nat_eq c.insert.new.self) c.loop-node.rows.items c.make_row.new.rows.items c.add_node.new.rows.items c.loop-node.invariant
    (λ i found. front-less nodes k i c.loop-node-test.true c.requires.increasing found)
    (c.in_ok-insert.ensures.updates.1 ∙ ap Some own)
    (λ i apart. c.in_ok-insert.ensures.updates.2 i (get-apart n i apart))
    (subst (λ (l : ℕ). l < length c.make_row.new.rows.items) own c.in_ok-make_row.ensures.made) c.in_ok-make_row.ensures.longer c.in_ok-make_row.ensures.same c.in_ok-make_row.ensures.total c.add_node.ensures.count
    (subst (λ (l : ℕ). row_of c.add_node.new.rows.items l ≡ row_of c.make_row.new.rows.items l ++ slice_index c.args.nodes.now c.loop-node.node-index ∷ []) own c.in_ok-add_node.ensures.added)
    (subst (λ (l : ℕ). (y : ℕ) → y ≢ l → row_of c.add_node.new.rows.items y ≡ row_of c.make_row.new.rows.items y) own c.in_ok-add_node.ensures.others) c.in_ok-add_node.ensures.total)

pub returns : goal.returns
returns c =
    let all = take_all c.loop-node.node-index c.args.nodes.now c.loop-node-test.false in
    planning-ends c.args.formula.now c.args.nodes.now (get nat_eq c.loop-node.levels) c.loop-node.rows.items (subst (λ (xs : List ℕ). IsPlanning c.args.formula.now xs (get nat_eq c.loop-node.levels) c.loop-node.rows.items) all c.loop-node.invariant)
