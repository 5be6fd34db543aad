use Rattle.std.proofs.Common.{◌≡◌, ℕ, ◌+◌, ◌*◌, ◌^◌, ◌<◌, false, length, get_or}
use Rattle.pt_sets.specs.Automata.{next_of, output_of}
use Rattle.pt_refine.specs.Refining.{IsStable, AreMembers}
use Rattle.pt_refine.proofs.Stability.{rows-automaton, rows-reduction}
use Rattle.pt_refine.proofs.reduce_by_halves.Goals as goal

pub from_parts-table-requires : goal.from_parts-table-requires
from_parts-table-requires g c =
    let a = c.args.table.now in
    let numbers = c.in_ok-numbers.field-0.numbers.items in
    let count = c.in_ok-numbers.field-0.count in
    let members = c.in_ok-members.members.items in
    let classes : IsStable a numbers count = c.in_ok-numbers.ensures in
    let some : AreMembers numbers members count = rw c.deref.ensures.value at c.in_ok-members.ensures in
    let outputs_len : length c.in_ok-outputs.outputs.items ≡ count * 2 ^ a.tracks = rw (c.deref-2.ensures.value, some.size) at c.in_ok-outputs.ensures.len in
    let edges_len : length c.in_ok-edges.edges.items ≡ count * 2 ^ a.tracks = rw (c.deref-4.ensures.value, some.size) at c.in_ok-edges.ensures.len in
    let output_rows : (d s : ℕ) → d < count → s < 2 ^ a.tracks → get_or c.in_ok-outputs.outputs.items (d * 2 ^ a.tracks + s) false ≡ output_of a (get_or members d 0) s =
    rw (c.deref-2.ensures.value, some.size) at c.in_ok-outputs.ensures.rows in
    let edge_rows : (d l : ℕ) → d < count → l < 2 ^ a.tracks → get_or c.in_ok-edges.edges.items (d * 2 ^ a.tracks + l) 0 ≡ get_or numbers (next_of a (get_or members d 0) l) 0 =
    rw (c.deref-3.ensures.value, c.deref-4.ensures.value, some.size) at c.in_ok-edges.ensures.rows in
    rw c.tracks-tracks.ensures.tracks (rows-automaton a numbers members count c.in_ok-outputs.outputs.items c.in_ok-edges.edges.items c.tracks-tracks.ensures.valid classes some outputs_len edges_len output_rows edge_rows)

pub returns : goal.returns
returns g c =
    let a = c.args.table.now in
    let numbers = c.in_ok-numbers.field-0.numbers.items in
    let count = c.in_ok-numbers.field-0.count in
    let members = c.in_ok-members.members.items in
    let classes : IsStable a numbers count = c.in_ok-numbers.ensures in
    let some : AreMembers numbers members count = rw c.deref.ensures.value at c.in_ok-members.ensures in
    let outputs_len : length c.in_ok-outputs.outputs.items ≡ count * 2 ^ a.tracks = rw (c.deref-2.ensures.value, some.size) at c.in_ok-outputs.ensures.len in
    let edges_len : length c.in_ok-edges.edges.items ≡ count * 2 ^ a.tracks = rw (c.deref-4.ensures.value, some.size) at c.in_ok-edges.ensures.len in
    let output_rows : (d s : ℕ) → d < count → s < 2 ^ a.tracks → get_or c.in_ok-outputs.outputs.items (d * 2 ^ a.tracks + s) false ≡ output_of a (get_or members d 0) s =
    rw (c.deref-2.ensures.value, some.size) at c.in_ok-outputs.ensures.rows in
    let edge_rows : (d l : ℕ) → d < count → l < 2 ^ a.tracks → get_or c.in_ok-edges.edges.items (d * 2 ^ a.tracks + l) 0 ≡ get_or numbers (next_of a (get_or members d 0) l) 0 =
    rw (c.deref-3.ensures.value, c.deref-4.ensures.value, some.size) at c.in_ok-edges.ensures.rows in
    let reduction = rows-reduction a numbers members count c.in_ok-outputs.outputs.items c.in_ok-edges.edges.items c.tracks-tracks.ensures.valid classes some outputs_len edges_len output_rows edge_rows in
    rw (c.from_parts-table.ensures, c.tracks-tracks.ensures.tracks) reduction
