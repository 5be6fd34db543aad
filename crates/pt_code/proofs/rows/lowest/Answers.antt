use Rattle.std.proofs.Common.{◌≡◌, ◌≢◌, ℕ, refl, arith, below_more, subst}
use Rattle.std.specs.Ordering.{nat_cmp}
use Rattle.std.specs.Cmp.Lexicographic.{slice_cmp}
use Rattle.std.specs.declared.cmp.Ordering.TheVariants.{Greater}
use Rattle.pt_code.specs.Component.{component}
use Rattle.pt_code.specs.Parts.{row_of}
use Rattle.pt_code.proofs.Comparing.{cmp-itself, cmp-through}
use Rattle.pt_code.proofs.rows.lowest.Goals as goal

pub loop-state-init : goal.loop-state-init
loop-state-init c =
    let p = component c.args.piece.now in
    record {
      within = c.requires.component.some_state;
      least = λ q h over.
          let zero_is : q ≡ 0 = omega arith in
          let same = cmp-itself (row_of p 0) (row_of p 0) refl in
          let over' : slice_cmp nat_cmp (row_of p 0) (row_of p 0) ≡ Greater = subst (λ (n : ℕ). slice_cmp nat_cmp (row_of p 0) (row_of p n) ≡ Greater) zero_is over in
          cc (over', same);
    }

pub loop-state-preserved : goal.loop-state-preserved
loop-state-preserved c =
    let p = component c.args.piece.now in
    let low = c.lower_of-low.result in
    record {
      within = c.lower_of-low.ensures.within;
      least = below_more (λ q. slice_cmp nat_cmp (row_of p low) (row_of p q) ≢ Greater) c.loop-state.state
          (λ q h. cmp-through (row_of p low) (row_of p c.loop-state.low) (row_of p q) c.lower_of-low.ensures.low (c.loop-state.invariant.least q h))
          c.lower_of-low.ensures.state;
    }

pub returns-clause-least : goal.returns-clause-least
returns-clause-least c = λ q h. c.loop-state.invariant.least q (let some = c.requires.component.some_state in omega arith)
