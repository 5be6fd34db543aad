use Rattle.std.proofs.Common.{arith, ◌≡◌, ◌≢◌, ℕ, ◌+◌, ◌-◌, ◌/◌, ◌%◌, ◌^◌, ◌<◌, [], ◌∷◌, ◌++◌, length, get_or, sym, ◌∙◌, subst}
use Rattle.std.proofs.lemmas.List.{get_or_read}
use Rattle.pt_refine.specs.Dealing.{IsLast, row_of}
use Rattle.pt_refine.proofs.Chaining.{deals-more}
use Rattle.pt_refine.proofs.chains.Chains.deal_state.Goals as goal

pub loop-next-preserved : goal.loop-next-preserved
loop-next-preserved c =
    let a = c.args.table.now in
    let was = c.loop-next.invariant in
    let x = c.loop-next.next - 1 in
    let k = 2 ^ a.tracks in
    let some = c.loop-next-test.true in
    let next_is : c.loop-next.next ≡ x + 1 = omega arith in
    let within = was.deals.within in
    let x_in : x < length a.edges = omega arith in
    let x_before : x < length c.args.self.now.before.items = omega (arith, c.requires.chains.before_len) in
    let read : c.index-in-loop-next.result.now ≡ get_or c.args.self.now.before.items x 0 = get_or_read c.args.self.now.before.items x c.index-in-loop-next.result.now x_before c.index-in-loop-next.ensures 0 in
    let last : IsLast (λ i. get_or a.edges i 0) (get_or a.edges x 0) x c.index-in-loop-next.result.now =
    subst (λ (y : ℕ). IsLast (λ i. get_or a.edges i 0) (get_or a.edges x 0) x y) (sym read) (c.requires.chains.links x x_in) in
    let added : row_of c.add.new.rows.items (x % k) ≡ row_of c.loop-next.rows.items (x % k) ++ x / k ∷ [] = rw c.letters-letters.ensures.letters at c.in_ok-add.ensures.added in
    let others : (z : ℕ) → z ≢ x % k → row_of c.add.new.rows.items z ≡ row_of c.loop-next.rows.items z = rw c.letters-letters.ensures.letters at c.in_ok-add.ensures.others in
    record {
      deals = deals-more was.deals x c.index-in-loop-next.result.now c.add.new.rows.items c.letters-letters.ensures.valid next_is last added others;
      count = c.add.ensures.count ∙ was.count;
    }
