use Rattle.std.proofs.Common.{◌≡◌, refl, true, false}
use Rattle.std.specs.declared.num.ParseIntError.{ParseIntError as Error}
use Rattle.pt_options.proofs.Numbers.{read_number, written_plain, written_read}
use Rattle.pt_options.proofs.checks.number_of.Goals as goal

pub returns-in-Ok : goal.returns-in-Ok
returns-in-Ok c = read_number Error c.args.digits.now c.in-Ok.n c.in-Ok.ensures.value.0 (c.if-is_plain.ensures.0 refl)

pub returns-in_default : goal.returns-in_default
returns-in_default c =
    λ n fits is.
    let plain : false ≡ true = c.if-is_plain.ensures.1 (written_plain c.args.digits.now n fits is) in
    absurd cc

pub returns-in_default-2 : goal.returns-in_default-2
returns-in_default-2 c = λ n fits is. written_read Error c.args.digits.now c.in_default.field-0 n c.in_default.ensures.value.0 fits is
