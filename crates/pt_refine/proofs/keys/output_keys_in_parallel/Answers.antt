use Rattle.std.proofs.Common.{arith, ◌≡◌, ℕ, ◌+◌, ◌-◌, ◌^◌, ◌<◌, ◌≤◌, ap, ◌∙◌, length, map, get_or, IfOk}
use Rattle.std.specs.List.{range_with_len}
use Rattle.std.proofs.lemmas.List.FromFn.{length-map-range_with_len, get_or-map-range_with_len}
use Rattle.std.proofs.lemmas.Slice.Zip.{AllZip-map}
use Rattle.rayon.specs.Numbers.{nat_range}
use Rattle.rayon.proofs.ListFacts.{IfOk-then}
use Rattle.rayon.proofs.ToStd.{nat_range-All}
use Rattle.pt_sets.specs.Automata.{output_of}
use Rattle.pt_refine.specs.Refining.{binary}
use Rattle.pt_refine.proofs.keys.output_keys_in_parallel.Goals as goal

-- the closure's `requires` at each state
pub collect-requires-clause-ready : goal.collect-requires-clause-ready
collect-requires-clause-ready g c κs within =
    let ends = c.into_par_iter.ensures in
    let a = c.args.table.now in
    let inside = nat_range-All (λ q. (q < a.states) × (c.args.from + c.args.count ≤ 2 ^ a.tracks) × (c.args.count ≤ 64)) 0 c.states-states.result
    (λ q low high. (let is = c.states-states.ensures.states in omega arith, c.requires.signs, c.requires.count)) in
    rw (c.map.ensures.base, c.map.ensures.f, ends.0, ends.1) (λ k d lt. (inside k d lt, λ y p. tt))

-- the list is the key of each state from 0 on
pub returns : goal.returns
returns g c =
    let ends = c.into_par_iter.ensures in
    let a = c.args.table.now in
    let whole : c.states-states.result - 0 ≡ a.states = let is = c.states-states.ensures.states in omega arith in
    let key = λ (q : ℕ). binary (λ i. output_of a q (c.args.from + i)) c.args.count in
    let made : IfOk c.collect.result (λ keys. keys.items ≡ map key (range_with_len 0 a.states)) =
    IfOk-then c.collect.result _ _ c.collect.ensures (λ v h.
    let chain = rw (c.map.ensures.base, c.map.ensures.f) at h.1 in
    let places = chain.1 ∙ (λ i. nat_range (ends.0 i) (ends.1 i)) ∙ ap (range_with_len 0) whole in
    h.2 ∙ AllZip-map key chain.0 h.0 chain.2 ∙ ap (map key) places) in
    record {
      len = IfOk-then c.collect.result _ _ made (λ keys is. ap length is ∙ length-map-range_with_len key 0 a.states);
      keys = IfOk-then c.collect.result _ _ made (λ keys is q lt. ap (λ xs. get_or xs q 0) is ∙ get_or-map-range_with_len key 0 a.states q q 0 lt (omega arith));
    }
