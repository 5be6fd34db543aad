use Rattle.std.proofs.Common.{◌≡◌, length, ap, ◌∙◌, arith}
use Rattle.std.proofs.lemmas.List.FromFn.{length-map-range_with_len}
use Rattle.pt_code.proofs.tests.assert_least.Goals as goal

pub place_of-requires : goal.place_of-requires
place_of-requires g c =
    let (entry, in_range, is_code, is_numbers, first) = c.in_ok-coded.ensures.numbers in
    let size : length c.in_ok-coded.coded.1 ≡ c.args.piece.now.states = ap length is_numbers ∙ length-map-range_with_len _ 0 c.args.piece.now.states in
    omega (arith, size, c.loop-state-test.true)
