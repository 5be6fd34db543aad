use Rattle.std.proofs.Common.{List, ℕ, codes}
use Rattle.pt_drill.proofs.Pieces.{first, line_ends, number_more}
use Rattle.pt_drill.proofs.script.write_definition.Goals as goal

pub returns : goal.returns
returns c =
    let start : List ℕ = c.args.out.now.items in
    let one = first start _ _ c.write_number.new.out.items c.in_ok-write_number.ensures in
    let two = number_more start _ _ _ c.write_number.new.out.items c.write_number-2.new.out.items one c.in_ok-write_number-2.ensures in
    let three = number_more start _ _ _ c.write_number-2.new.out.items c.write_number-3.new.out.items two c.in_ok-write_number-3.ensures in
    let four = number_more start _ _ _ c.write_number-3.new.out.items c.write_number-4.new.out.items three c.in_ok-write_number-4.ensures in
    let five = number_more start _ _ _ c.write_number-4.new.out.items c.write_number-5.new.out.items four c.in_ok-write_number-5.ensures in
    let six = number_more start _ _ _ c.write_number-5.new.out.items c.write_number-6.new.out.items five c.in_ok-write_number-6.ensures in
    let seven = number_more start _ _ _ c.write_number-6.new.out.items c.write_number-7.new.out.items six c.in_ok-write_number-7.ensures in
    line_ends start _ (codes ")))") c.write_number-7.new.out.items c.extend_from_slice.new.self.items seven c.in_ok-extend_from_slice.ensures.items
