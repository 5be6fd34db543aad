use Rattle.std.proofs.Common.{rules, arith, ℕ, ◌+◌, ◌*◌, ◌/◌, ◌%◌, ◌^◌, ◌<◌, ◌≤◌, List, length, get_or}
use Rattle.pt_refine.proofs.Cells.{row-is, column-is, cell-in, row-in, column-in}
use Rattle.pt_refine.proofs.classes.class_edges.Goals as goal

-- the cell that is read stands in its row
source-in : (members : List ℕ) (i k n : ℕ) → i < length members * k → ((c : ℕ) → c < length members → get_or members c 0 < n) → get_or members (i / k) 0 * k + i % k < n * k
source-in members i k n lt within = cell-in (get_or members (i / k) 0) k (i % k) n (within (i / k) (row-in i (length members) k lt)) (column-in i (length members) k lt)

pub bounds-edges-members : goal.bounds-edges-members
bounds-edges-members c =
    let k = c.letters-letters.result in
    let lt : c.loop-cell.cell < length c.args.members.now * k = search rules in
    let h = source-in c.args.members.now c.loop-cell.cell k c.args.table.now.states lt c.requires.members in
    let shape = c.edges-edges.ensures.valid in
    rw (c.edges-edges.ensures.value, shape.edges, ← c.letters-letters.ensures.letters) h

pub bounds-numbers-end : goal.bounds-numbers-end
bounds-numbers-end c =
    let k = c.letters-letters.result in
    let members = c.args.members.now in
    let i = c.loop-cell.cell in
    let lt : i < length members * k = search rules in
    let shape = c.edges-edges.ensures.valid in
    let letter : i % k < 2 ^ c.args.table.now.tracks = rw (← c.letters-letters.ensures.letters) (column-in i (length members) k lt) in
    let end = shape.closed (get_or members (i / k) 0) (i % k) (c.requires.members (i / k) (row-in i (length members) k lt)) letter in
    rw (c.edges-edges.ensures.value, c.requires.numbers, c.letters-letters.ensures.letters) (rw c.letters-letters.ensures.letters at end)

pub returns-clause-rows : goal.returns-clause-rows
returns-clause-rows c = λ d l d_in letter.
    let k = 2 ^ c.args.table.now.tracks in
    let lt : d * k + l < length c.args.members.now * k = cell-in d k l (length c.args.members.now) d_in letter in
    let all : length c.args.members.now * c.letters-letters.result ≤ c.loop-cell.cell = search rules in
    let same = rw c.letters-letters.ensures.letters at all in
    let cell = rw c.letters-letters.ensures.letters at (c.loop-cell.invariant.cells (d * k + l) (omega arith)) in
    rw (row-is d k l letter, column-is d k l letter) at cell
