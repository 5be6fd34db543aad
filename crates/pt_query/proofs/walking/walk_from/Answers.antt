use Rattle.std.proofs.Common.{◌<◌, length, arith, rules}
use Rattle.pt_query.proofs.WalkSteps.{walk-short}
use Rattle.pt_query.proofs.walking.walk_from.Goals as goal

pub overflow_add-place : goal.overflow_add-place
overflow_add-place c =
    let w = c.loop-place.walk in
    let short = walk-short c.args.table.now c.args.start w.states.items w.parents.items w.letters.items w.places.items c.loop-place.place 0 c.loop-place.invariant.walked in
    let few = c.is_automaton.ensures.few_states in
    let inside : c.loop-place.place < length w.states.items = search rules in
    omega (arith, short, few, inside)

pub loop-place-smaller : goal.loop-place-smaller
loop-place-smaller c =
    let w = c.loop-place.walk in
    let short = walk-short c.args.table.now c.args.start w.states.items w.parents.items w.letters.items w.places.items c.loop-place.place 0 c.loop-place.invariant.walked in
    let inside : c.loop-place.place < length w.states.items = search rules in
    omega (arith, short, inside)
