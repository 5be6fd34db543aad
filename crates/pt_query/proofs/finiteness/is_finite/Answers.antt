use Rattle.std.proofs.Common.{ℕ, ◌<◌, List, [], length, sym, subst}
use Rattle.std.specs.Prelude.{slice_index, slice_index_or}
use Rattle.std.specs.Global.{Vec}
use Rattle.pt_sets.specs.Automata.{SetOfState}
use Rattle.pt_scc.specs.Components.{lists_of}
use Rattle.pt_handles.specs.Expansion.{Expands}
use Rattle.pt_handles.specs.Handles.{SetOfHandle}
use Rattle.pt_query.specs.Queries.{IsBounded}
use Rattle.pt_query.specs.Tame.{IsTame}
use Rattle.pt_query.proofs.Bounds.{bounded-same}
use Rattle.pt_query.proofs.PartLists.{length-lists}
use Rattle.pt_query.proofs.FiniteSets.{head-inside, tame-bounded, bounded-tame}
use Rattle.pt_query.proofs.finiteness.is_finite.Goals as goal

pub are_tame-requires-clause-some : goal.are_tame-requires-clause-some
are_tame-requires-clause-some g c =
    let parts = c.in_ok-parts.parts.items in
    subst (λ (ps : List (Vec ℕ)). (i : ℕ) → i < length ps → 0 < length (slice_index_or (lists_of ps) i [])) (sym c.as_slice.ensures.value)
    (λ i h. c.in_ok-parts.ensures.partition.inhabited i (subst (λ (n : ℕ). i < n) (sym (length-lists parts)) h))

pub are_tame-requires-clause-states : goal.are_tame-requires-clause-states
are_tame-requires-clause-states g c =
    let parts = c.in_ok-parts.parts.items in
    let a = c.in_ok-table.table in
    subst (λ (ps : List (Vec ℕ)). (i : ℕ) → i < length ps → slice_index (slice_index_or (lists_of ps) i []) 0 < a.states) (sym c.as_slice.ensures.value)
    (λ i h. head-inside a c.is_automaton.ensures (lists_of parts) c.in_ok-parts.ensures i (subst (λ (n : ℕ). i < n) (sym (length-lists parts)) h))

pub returns : goal.returns
returns g c =
    let parts = c.in_ok-parts.parts.items in
    let a = c.in_ok-table.table in
    let s = c.in_ok-table._start in
    let X = SetOfHandle (g.P.Codes.lists c.args.pass.now) c.args.a in
    let t = c.args.a.tracks in
    let valid = c.is_automaton.ensures in
    let are = c.in_ok-parts.ensures in
    let e = subst (λ (n : ℕ). Expands n X a s) (sym c.in_ok-table.ensures.tracks) c.in_ok-table.ensures in
    let tells = c.are_tame.ensures in
    let P : List (Vec ℕ) → Type 0 = λ ps. ((i : ℕ) → i < length ps → IsTame a (slice_index_or (lists_of ps) i [])) in (
      λ h.
          let all : P parts = subst P c.as_slice.ensures.value (tells.0 h) in
          let whole = tame-bounded a valid (lists_of parts) are (λ i below. all i (subst (λ (n : ℕ). i < n) (length-lists parts) below)) s e.in_range in
          subst (λ (n : ℕ). IsBounded n X) c.in_ok-table.ensures.tracks (bounded-same a.tracks (SetOfState a s) X e.set whole),
      λ bounded.
          let here = subst (λ (n : ℕ). IsBounded n X) (sym c.in_ok-table.ensures.tracks) bounded in
          tells.1 (subst P (sym c.as_slice.ensures.value) (λ i below. bounded-tame a valid (lists_of parts) are X s e here i (subst (λ (n : ℕ). i < n) (sym (length-lists parts)) below))),
    )
