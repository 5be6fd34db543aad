use Rattle.std.proofs.Common.{List, ℕ, codes}
use Rattle.pt_drill.specs.Summary.{count_of, sum_of}
use Rattle.pt_drill.proofs.Pieces.{first, line_ends, number_more, summed}
use Rattle.pt_drill.proofs.output.summary.Goals as goal

pub returns : goal.returns
returns c =
    let start : List ℕ = c.new-line.result.items in
    let one = first start _ _ c.write_number.new.out.items c.in_ok-write_number.ensures in
    let two = number_more start _ _ _ c.write_number.new.out.items c.write_number-2.new.out.items one c.in_ok-write_number-2.ensures in
    let three = number_more start _ _ _ c.write_number-2.new.out.items c.write_count.new.out.items two c.in_ok-write_count.ensures in
    let four = number_more start _ _ _ c.write_count.new.out.items c.write_count-2.new.out.items three c.in_ok-write_count-2.ensures in
    let five = number_more start _ _ _ c.write_count-2.new.out.items c.write_count-3.new.out.items four c.in_ok-write_count-3.ensures in
    let all = line_ends start _ (codes " states") c.write_count-3.new.out.items c.extend_from_slice.new.self.items five c.in_ok-extend_from_slice.ensures.items in
    summed start c.extend_from_slice.new.self.items c.args.seed c.args.size c.count.result c.count-2.result c.in-Some.states (count_of (codes "sat") c.args.output.now) (count_of (codes "unsat") c.args.output.now) (sum_of c.args.output.now)
    c.new-line.ensures.items c.count.ensures c.count-2.ensures c.in-Some.ensures all
