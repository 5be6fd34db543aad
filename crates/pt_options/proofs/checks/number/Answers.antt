use Rattle.std.proofs.Common.{◌≡◌, arith, rules}
use Rattle.pt_options.proofs.Numbers.{one_written}
use Rattle.pt_options.proofs.checks.number.Goals as goal

pub returns-in_default : goal.returns-in_default
returns-in_default c =
    λ n low high is.
    let same : c.in-Some.n ≡ n = one_written c.args.text.now c.in-Some.n n (search rules) (omega arith) c.in-Some.ensures is in
    omega arith

pub returns-in_default-2 : goal.returns-in_default-2
returns-in_default-2 c =
    λ n low high is.
    let same : c.in-Some.n ≡ n = one_written c.args.text.now c.in-Some.n n (search rules) (omega arith) c.in-Some.ensures is in
    omega arith
