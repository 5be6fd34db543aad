use Rattle.std.proofs.Common.{◌≡◌, ℕ, ◌<◌, ◌/◌, ◌%◌, ◌*◌, ◌^◌, length, get_or, ap, bit_or, arith}
use Rattle.std.proofs.lemmas.Grind.{common_steps}
use Rattle.pt_project.proofs.BitLaws.{bit-set, bit-other}
use Rattle.pt_project.proofs.bits.set_bit.Goals as goal

pub returns-clause-here : goal.returns-clause-here
returns-clause-here c =
    let words = c.args.words.now.items in
    let inside : c.args.number / 64 < length words = omega arith in
    let word : c.index_mut.result.now ≡ get_or words (c.args.number / 64) 0 = grind (arith, common_steps) in
    bit-set words c.args.number (bit_or c.index_mut.result.now (1 * 2 ^ (c.args.number % 64) % 2 ^ 64)) inside (ap (λ (n : ℕ). bit_or n (1 * 2 ^ (c.args.number % 64) % 2 ^ 64)) word)

pub returns-clause-others : goal.returns-clause-others
returns-clause-others c =
    let words = c.args.words.now.items in
    let inside : c.args.number / 64 < length words = omega arith in
    let word : c.index_mut.result.now ≡ get_or words (c.args.number / 64) 0 = grind (arith, common_steps) in
    bit-other words c.args.number (bit_or c.index_mut.result.now (1 * 2 ^ (c.args.number % 64) % 2 ^ 64)) inside (ap (λ (n : ℕ). bit_or n (1 * 2 ^ (c.args.number % 64) % 2 ^ 64)) word)
