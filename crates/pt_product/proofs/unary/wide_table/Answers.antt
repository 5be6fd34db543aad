use Rattle.std.proofs.Common.{◌≡◌, ℕ, ◌+◌, ◌*◌, ◌^◌, ◌/◌, ◌%◌, ◌∷◌, [], ◌++◌, List, Bool, ap, sym, ◌∙◌, subst, arith}
use Rattle.pt_sets.specs.Automata.{IsAutomaton, next_of, output_of}
use Rattle.pt_sets.specs.Costs.{restricted}
use Rattle.pt_sets.specs.Restricting.{IsTrackMap}
use Rattle.pt_product.specs.Derived.{AreWideCells}
use Rattle.pt_product.proofs.Wide.{wide-more, wide-automaton}
use Rattle.pt_product.proofs.unary.wide_table.Goals as goal

pub loop-cell-preserved : goal.loop-cell-preserved
loop-cell-preserved c =
    let a = c.args.table.now in
    let m = c.args.side.now.map in
    let t = c.args.side.now.tracks in
    let n = c.loop-cell.cell in
    let width : c.letters-letters.result ≡ 2 ^ t = c.letters-letters.ensures in
    let letter : c.restricted-letter.result ≡ restricted m (n % 2 ^ t) = c.restricted-letter.ensures.value ∙ ap (λ (w : ℕ). restricted m (n % w)) width in
    let output : c.output.result ≡ output_of a (n / 2 ^ t) (restricted m (n % 2 ^ t)) =
    c.output.ensures ∙ ap (λ (w : ℕ). output_of a (n / w) c.restricted-letter.result) width ∙ ap (output_of a (n / 2 ^ t)) letter in
    let edge : c.next.result ≡ next_of a (n / 2 ^ t) (restricted m (n % 2 ^ t)) =
    c.next.ensures ∙ ap (λ (w : ℕ). next_of a (n / w) c.restricted-letter.result) width ∙ ap (next_of a (n / 2 ^ t)) letter in
    let more = wide-more a m t n c.loop-cell.outputs.items c.loop-cell.edges.items c.output.result c.next.result output edge c.loop-cell.invariant.cells in
    record {
      cells =
          subst (λ (es : List ℕ). AreWideCells a m t (n + 1) c.push.new.self.items es) (sym c.in_ok-push-2.ensures.items)
          (subst (λ (os : List Bool). AreWideCells a m t (n + 1) os (c.loop-cell.edges.items ++ c.next.result ∷ [])) (sym c.in_ok-push.ensures.items) more);
    }

pub from_parts-requires : goal.from_parts-requires
from_parts-requires c =
    let a = c.args.table.now in
    let m = c.args.side.now.map in
    let t = c.args.side.now.tracks in
    let outputs = c.loop-cell.outputs.items in
    let edges = c.loop-cell.edges.items in
    let end : c.loop-cell.cell ≡ c.states.result * c.letters-letters.result = omega (arith, c.loop-cell.auto.cell-end, c.loop-cell-test.false) in
    let all : c.loop-cell.cell ≡ a.states * 2 ^ t = end ∙ ap (λ (s : ℕ). s * c.letters-letters.result) c.states.ensures.states ∙ ap (λ (w : ℕ). a.states * w) c.letters-letters.ensures in
    let cells = subst (λ (n : ℕ). AreWideCells a m t n outputs edges) all c.loop-cell.invariant.cells in
    let fits : IsTrackMap a.tracks t m = subst (λ (k : ℕ). IsTrackMap k t m) (sym c.requires.tracks) c.tracks.ensures.fits in
    let is = wide-automaton a m t c.states.ensures.valid fits outputs edges cells c.requires.few in
    subst (λ (s : ℕ). IsAutomaton (record { tracks = c.tracks.result; states = s; outputs = outputs; edges = edges })) (sym c.states-2.ensures.states)
    (subst (λ (k : ℕ). IsAutomaton (record { tracks = k; states = a.states; outputs = outputs; edges = edges })) (sym c.tracks.ensures.tracks) is)
