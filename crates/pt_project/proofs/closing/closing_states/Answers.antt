use Rattle.std.proofs.Common.{◌≡◌, ℕ, ◌<◌, List, Bool, [], length, subst, sym, ap, ◌∙◌, arith}
use Rattle.std.specs.Global.{Vec}
use Rattle.pt_base.specs.Elements.{ContainsByRecursion}
use Rattle.pt_project.specs.Closing.{row_of, IsMarked}
use Rattle.pt_project.proofs.Rows.{row-get, in-append-end, no-items}
use Rattle.pt_project.proofs.Marks.{IsClosing, closing-starts, closing-steps, closing-ends}
use Rattle.pt_project.proofs.closing.closing_states.Goals as goal

pub loop-state-init : goal.loop-state-init
loop-state-init c =
    let marks = c.in_ok-marks.marks.items in
    let seen = c.deref.ensures.value in
    let count : length marks ≡ c.args.table.now.states = sym c.in_ok-marks.marks.ok.0 ∙ c.in_ok-marks.ensures.length in
    closing-starts c.args.table.now c.args.zero c.args.one marks c.in_ok-open.open.items count c.in_ok-marks.ensures.marks
    (subst (λ (bs : List Bool). (x : ℕ) → IsMarked bs x → ContainsByRecursion x c.in_ok-open.open.items) seen c.in_ok-open.ensures.all)
    (subst (λ (bs : List Bool). (x : ℕ) → ContainsByRecursion x c.in_ok-open.open.items → (x < length bs) × IsMarked bs x) seen c.in_ok-open.ensures.within)

pub index-requires : goal.index-requires
index-requires c =
    let at = c.loop-state.invariant.within c.in-Some.state (subst (λ (xs : List ℕ). ContainsByRecursion c.in-Some.state xs) (sym c.in-Some.ensures.items) (in-append-end c.in-Some.state c.pop.new.self.items)) in
    omega (arith, at.0, c.in_ok-sources.ensures.count, c.in_ok-sources.sources.ok.0)

pub mark_all-requires : goal.mark_all-requires
mark_all-requires c x inside =
    let lists = c.in_ok-sources.sources.items in
    let at = c.loop-state.invariant.within c.in-Some.state (subst (λ (xs : List ℕ). ContainsByRecursion c.in-Some.state xs) (sym c.in-Some.ensures.items) (in-append-end c.in-Some.state c.pop.new.self.items)) in
    let within : c.in-Some.state < length lists = omega (arith, at.0, c.in_ok-sources.ensures.count) in
    let is : c.as_slice.result.now ≡ row_of lists c.in-Some.state = c.as_slice.ensures.value ∙ ap (λ (v : Vec ℕ). v.items) c.index.ensures ∙ sym (row-get lists c.in-Some.state c.index.result.now within) in
    let below = (c.in_ok-sources.ensures.sources.sound c.in-Some.state x (subst (λ (xs : List ℕ). ContainsByRecursion x xs) is inside)).0 in
    omega (arith, below, c.loop-state.invariant.count)

pub loop-state-preserved : goal.loop-state-preserved
loop-state-preserved c =
    let lists = c.in_ok-sources.sources.items in
    let at = c.loop-state.invariant.within c.in-Some.state (subst (λ (xs : List ℕ). ContainsByRecursion c.in-Some.state xs) (sym c.in-Some.ensures.items) (in-append-end c.in-Some.state c.pop.new.self.items)) in
    let within : c.in-Some.state < length lists = omega (arith, at.0, c.in_ok-sources.ensures.count) in
    let is : c.as_slice.result.now ≡ row_of lists c.in-Some.state = c.as_slice.ensures.value ∙ ap (λ (v : Vec ℕ). v.items) c.index.ensures ∙ sym (row-get lists c.in-Some.state c.index.result.now within) in
    closing-steps c.args.table.now c.args.zero c.args.one c.in-Some.state lists c.as_slice.result.now c.loop-state.marks.items c.mark_all.new.marks.items c.loop-state.open.items c.pop.new.self.items c.mark_all.new.open.items
    c.in_ok-sources.ensures.sources is c.in-Some.ensures.items c.loop-state.invariant c.in_ok-mark_all.ensures

pub returns-clause-marks : goal.returns-clause-marks
returns-clause-marks c =
    let rules = c.is_automaton.ensures in
    let size = c.in_default.ensures.cases.0 in
    let none : c.loop-state.open.items ≡ [] = no-items c.loop-state.open.items (omega (arith, size, c.loop-state.open.ok.0)) in
    closing-ends c.args.table.now c.args.zero c.args.one c.loop-state.marks.items (subst (λ (xs : List ℕ). IsClosing c.args.table.now c.args.zero c.args.one c.loop-state.marks.items xs) none c.loop-state.invariant)
    (λ x inside. (rules.closed x c.args.zero inside c.requires.zero, rules.closed x c.args.one inside c.requires.one))
