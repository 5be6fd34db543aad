use Rattle.std.proofs.Common.{rules, arith, ◌+◌, ◌*◌, ◌/◌, ◌%◌, ◌^◌, ◌<◌, ◌≤◌, length, get_or}
use Rattle.pt_refine.proofs.Cells.{row-is, column-is, cell-in, row-in, column-in}
use Rattle.pt_refine.proofs.classes.class_outputs.Goals as goal

pub bounds-outputs-members : goal.bounds-outputs-members
bounds-outputs-members c =
    let k = c.letters-letters.result in
    let members = c.args.members.now in
    let i = c.loop-cell.cell in
    let lt : i < length members * k = search rules in
    let h = cell-in (get_or members (i / k) 0) k (i % k) c.args.table.now.states (c.requires.members (i / k) (row-in i (length members) k lt)) (column-in i (length members) k lt) in
    let shape = c.outputs-outputs.ensures.valid in
    rw (c.outputs-outputs.ensures.value, shape.outputs, ← c.letters-letters.ensures.letters) h

pub returns-clause-rows : goal.returns-clause-rows
returns-clause-rows c = λ d l d_in letter.
    let k = 2 ^ c.args.table.now.tracks in
    let lt : d * k + l < length c.args.members.now * k = cell-in d k l (length c.args.members.now) d_in letter in
    let all : length c.args.members.now * c.letters-letters.result ≤ c.loop-cell.cell = search rules in
    let same = rw c.letters-letters.ensures.letters at all in
    let cell = rw c.letters-letters.ensures.letters at (c.loop-cell.invariant.cells (d * k + l) (omega arith)) in
    rw (row-is d k l letter, column-is d k l letter) at cell
