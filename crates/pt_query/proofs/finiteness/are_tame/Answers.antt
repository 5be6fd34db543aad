use Rattle.std.proofs.Common.{◌≡◌, ℕ, ◌<◌, List, [], length, inl, inr, refl, ap, sym, subst, arith, rules, ◌∙◌}
use Rattle.std.specs.Prelude.{slice_index, slice_index_or}
use Rattle.std.specs.Global.{Vec}
use Rattle.std.proofs.lemmas.Bool.{cases_eq}
use Rattle.pt_scc.specs.Components.{lists_of}
use Rattle.pt_query.specs.Tame.{IsTame}
use Rattle.pt_query.proofs.PartLists.{part-items}
use Rattle.pt_query.proofs.finiteness.are_tame.Goals as goal

pub is_tame-requires-clause-some : goal.is_tame-requires-clause-some
is_tame-requires-clause-some c =
    let parts = c.args.parts.now in
    let i = c.loop-i.i in
    let inside : i < length parts = search rules in
    let at : c.as_slice.result.now ≡ slice_index_or (lists_of parts) i [] = c.as_slice.ensures.value ∙ ap (λ (v : Vec ℕ). v.items) c.index-parts-i.is ∙ sym (part-items parts i c.index-parts-i.result inside) in
    subst (λ (p : List ℕ). 0 < length p) (sym at) (c.requires.some i inside)

pub is_tame-requires-clause-state : goal.is_tame-requires-clause-state
is_tame-requires-clause-state c =
    let parts = c.args.parts.now in
    let i = c.loop-i.i in
    let inside : i < length parts = search rules in
    let at : c.as_slice.result.now ≡ slice_index_or (lists_of parts) i [] = c.as_slice.ensures.value ∙ ap (λ (v : Vec ℕ). v.items) c.index-parts-i.is ∙ sym (part-items parts i c.index-parts-i.result inside) in
    subst (λ (p : List ℕ). slice_index p 0 < c.args.table.now.states) (sym at) (c.requires.states i inside)

pub returns-then-not-is_tame : goal.returns-then-not-is_tame
returns-then-not-is_tame c =
    let parts = c.args.parts.now in
    let i = c.loop-i.i in
    let inside : i < length parts = search rules in
    let at : c.as_slice.result.now ≡ slice_index_or (lists_of parts) i [] = c.as_slice.ensures.value ∙ ap (λ (v : Vec ℕ). v.items) c.index-parts-i.is ∙ sym (part-items parts i c.index-parts-i.result inside) in
    let no = c.if-not-is_tame.true in
    (λ h. absurd (cc), λ all. let yes = c.is_tame.ensures.1 (subst (IsTame c.args.table.now) (sym at) (all i inside)) in absurd (cc))

pub loop-i-preserved : goal.loop-i-preserved
loop-i-preserved c j h =
    let parts = c.args.parts.now in
    let i = c.loop-i.i in
    let inside : i < length parts = search rules in
    let at : c.as_slice.result.now ≡ slice_index_or (lists_of parts) i [] = c.as_slice.ensures.value ∙ ap (λ (v : Vec ℕ). v.items) c.index-parts-i.is ∙ sym (part-items parts i c.index-parts-i.result inside) in
    elim (cases_eq j i) [
      | inl same ↦ subst (λ (k : ℕ). IsTame c.args.table.now (slice_index_or (lists_of parts) k [])) (sym same) (subst (IsTame c.args.table.now) at (c.is_tame.ensures.0 c.if-not-is_tame.false))
      | inr other ↦ c.loop-i.invariant j (omega (arith, h, other))
    ]

pub returns : goal.returns
returns c = (λ h. λ i inside. c.loop-i.invariant i (let past = c.loop-i-test.false in let at : i < length c.args.parts.now = inside in search rules), λ all. refl)
