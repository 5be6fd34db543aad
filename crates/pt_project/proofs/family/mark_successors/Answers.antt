use Rattle.std.proofs.Common.{◌↔◌, ℕ, ◌<◌, ◌≤◌, ◌∙◌, List, length, subst, rules}
use Rattle.std.proofs.lemmas.List.{take_all}
use Rattle.pt_sets.specs.Automata.{next_of}
use Rattle.pt_project.specs.Bits.{HasBit}
use Rattle.pt_project.proofs.WordLaws.{IsNext, marks-more}
use Rattle.pt_project.proofs.family.mark_successors.Goals as goal

pub loop-state-preserved : goal.loop-state-preserved
loop-state-preserved c =
    let inside : c.loop-state.state-index < length c.args.family.now = search rules in
    record {
      count = c.set_bit-in-loop-state.ensures.count ∙ c.set_bit.ensures.count ∙ c.loop-state.invariant.count;
      marked =
          marks-more (λ x. next_of c.args.table.now x c.args.zero) (λ x. next_of c.args.table.now x c.args.one) c.args.family.now c.loop-state.state-index c.loop-state.words.items c.set_bit.new.words.items c.set_bit-in-loop-state.new.words.items inside
          (subst (HasBit c.set_bit.new.words.items) c.next.ensures c.set_bit.ensures.here)
          (λ y far. c.set_bit.ensures.others y (λ same. far (same ∙ c.next.ensures)))
          (subst (HasBit c.set_bit-in-loop-state.new.words.items) c.next-in-loop-state.ensures c.set_bit-in-loop-state.ensures.here)
          (λ y far. c.set_bit-in-loop-state.ensures.others y (λ same. far (same ∙ c.next-in-loop-state.ensures)))
          c.loop-state.invariant.marked;
    }

pub returns-clause-marked : goal.returns-clause-marked
returns-clause-marked c =
    let past : length c.args.family.now ≤ c.loop-state.state-index = search rules in
    subst (λ (xs : List ℕ). (y : ℕ) → HasBit c.loop-state.words.items y ↔ IsNext (λ x. next_of c.args.table.now x c.args.zero) (λ x. next_of c.args.table.now x c.args.one) xs y) (take_all c.loop-state.state-index c.args.family.now past) c.loop-state.invariant.marked
