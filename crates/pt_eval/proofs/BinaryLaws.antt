-- Automata of nodes of two children: the combined set over the tracks of the variables.
use Rattle.std.proofs.Common.{◌≡◌, ◌↔◌, inl, inr, ℕ, ◌<◌, ◌≤◌, List, length, map, refl, ap, sym, subst, ◌∙◌, Result, Ok, Err}
use Rattle.std.specs.Prelude.{ℤ, IfOk, IfErr}
use Rattle.std.proofs.lemmas.List.{length-map}
use Rattle.pt_sets.specs.Words.{Vector}
use Rattle.pt_sets.specs.Sets.{SameSet, residual_by}
use Rattle.pt_sets.specs.Automata.{Automaton, SetOfState}
use Rattle.pt_sets.specs.Costs.{CostWithin, SameResidual, SamePair}
use Rattle.pt_sets.specs.Restricting.{IsTrackMap, selected, widened}
use Rattle.pt_sets.proofs.Counting.{SameSet-sym, SameSet-trans}
use Rattle.pt_handles.specs.declared.fault.TableFault.{TableFault}
use Rattle.pt_handles.specs.Refusing.{StatesOnlyAbove}
use Rattle.pt_formula.specs.declared.Op.{Op}
use Rattle.pt_formula.specs.declared.Op.TheVariants as op
use Rattle.pt_formula.specs.Forms.{IsIncreasing}
use Rattle.pt_formula.specs.Truth.{Tree, And, Or, Iff, Xor, Holds, Solutions, Widened, union, free_variables, valuation}
use Rattle.pt_formula.specs.Formulas.{node_tree, op_node}
use Rattle.pt_formula.specs.Costs.{SameValue, track_of}
use Rattle.pt_product.specs.Operations.{Connects, combined}
use Rattle.pt_eval.specs.Parts.{IsTableOf, RefusesTree, tracks_of}
use Rattle.pt_eval.proofs.TrackLaws.{selected-values, all-union, tracks-inside, is-track_map}
use Rattle.pt_eval.proofs.CostLaws.{within-moved, states-moved, residual-moved}

abbrev pub op_tree : Op → Tree → Tree → Tree
op_tree op.And a b = And a b
op_tree op.Or a b = Or a b
op_tree op.Iff a b = Iff a b
op_tree op.Xor a b = Xor a b

pub op-node : (h : ℕ → Tree) (o : Op) (a b : ℕ) → node_tree h (op_node o a b) ≡ op_tree o (h a) (h b)
op-node h op.And a b = refl
op-node h op.Or a b = refl
op-node h op.Iff a b = refl
op-node h op.Xor a b = refl

abbrev pub both_variables : Tree → Tree → List ℕ
both_variables a b = union (free_variables a) (free_variables b)

pub op-variables : (o : Op) (a b : Tree) → free_variables (op_tree o a b) ≡ both_variables a b
op-variables op.And a b = refl
op-variables op.Or a b = refl
op-variables op.Iff a b = refl
op-variables op.Xor a b = refl

-- an operation holds of facts that go together
connects-moved : (o : Op) (A B C D : Type 0) → A ↔ C → B ↔ D → Connects o A B → Connects o C D
connects-moved op.And A B C D f g h = (f.0 h.0, g.0 h.1)
connects-moved op.Or A B C D f g (inl a) = inl (f.0 a)
connects-moved op.Or A B C D f g (inr b) = inr (g.0 b)
connects-moved op.Iff A B C D f g h = (λ c. g.0 (h.0 (f.1 c)), λ d. f.0 (h.1 (g.1 d)))
connects-moved op.Xor A B C D f g (inl h) = inl (f.0 h.0, λ d. h.1 (g.1 d))
connects-moved op.Xor A B C D f g (inr h) = inr ((λ c. h.0 (f.1 c)), g.0 h.1)

turned : (A B : Type 0) → A ↔ B → B ↔ A
turned A B f = (f.1, f.0)

combined-moved : (o : Op) (t : ℕ) (X Y V W : Vector → Type 0) → SameSet t X V → SameSet t Y W → SameSet t (combined o X Y) (combined o V W)
combined-moved o t X Y V W first second = record {
  agrees = λ z count.
      let x = first.agrees z count in
      let y = second.agrees z count in
      (λ h. connects-moved o (X z) (Y z) (V z) (W z) x y h, λ h. connects-moved o (V z) (W z) (X z) (Y z) (turned (X z) (V z) x) (turned (Y z) (W z) y) h);
}

-- equal pairs of residuals combine to equal residuals
pair-combined : (o : Op) (t : ℕ) (X Y : Vector → Type 0) (v w : List ℕ) → SamePair t X Y v w → SameResidual t (combined o X Y) v w
pair-combined o t X Y v w same = combined-moved o t (residual_by X v) (residual_by Y v) (residual_by X w) (residual_by Y w) same.0 same.1

pair-moved : (t : ℕ) (X Y V W : Vector → Type 0) → SameSet t X V → SameSet t Y W → (v w : List ℕ) → SamePair t X Y v w → SamePair t V W v w
pair-moved t X Y V W first second v w h = (residual-moved t X V first v w h.0, residual-moved t Y W second v w h.1)

-- a set over the variables `inner` by tracks is the one by values
pub widened-values : (inner outer : List ℕ) (X Y : Vector → Type 0) → SameSet (length inner) X Y → SameSet (length outer) (widened (tracks_of inner outer) X) (Widened outer inner Y)
widened-values inner outer X Y same = record {
  agrees = λ z count.
      let chosen : selected (tracks_of inner outer) z ≡ map (valuation outer z) inner = selected-values outer z inner count in
      let size : length (map (valuation outer z) inner) ≡ length inner = length-map inner (valuation outer z) in
      let at = same.agrees (map (valuation outer z) inner) size in
      (λ h. (count, at.0 (subst X chosen h)), λ h. subst X (sym chosen) (at.1 h.1));
}

-- the solutions over more variables are the vectors at which the tree holds
abbrev pub WideningLaw : Type 0
WideningLaw = (t : Tree) (outer : List ℕ) (z : List ℤ) → length z ≡ length outer → Widened outer (free_variables t) (Solutions t) z ↔ Holds t (valuation outer z)

-- over its own variables a set of solutions is itself
pub own-solutions : WideningLaw → (t : Tree) → SameSet (length (free_variables t)) (Solutions t) (Widened (free_variables t) (free_variables t) (Solutions t))
own-solutions law t = record {
  agrees = λ z count. (let e = law t (free_variables t) z count in (λ h. e.1 h.1, λ h. (count, e.0 h)));
}

abbrev pub part_of : Tree → Tree → Tree → List ℤ → Type 0
part_of a b part = Widened (both_variables a b) (free_variables part) (Solutions part)

combined-holds : WideningLaw → (o : Op) (a b : Tree) (z : List ℤ) → length z ≡ length (both_variables a b) →
    combined o (part_of a b a) (part_of a b b) z ↔ Connects o (Holds a (valuation (both_variables a b) z)) (Holds b (valuation (both_variables a b) z))
combined-holds law o a b z count =
    let x = law a (both_variables a b) z count in
    let y = law b (both_variables a b) z count in (
      λ h. connects-moved o (part_of a b a z) (part_of a b b z) (Holds a (valuation (both_variables a b) z)) (Holds b (valuation (both_variables a b) z)) x y h,
      λ h. connects-moved o (Holds a (valuation (both_variables a b) z)) (Holds b (valuation (both_variables a b) z)) (part_of a b a z) (part_of a b b z) (x.1, x.0) (y.1, y.0) h,
    )

pub binary-set : WideningLaw → (o : Op) (a b : Tree) → SameSet (length (both_variables a b)) (combined o (part_of a b a) (part_of a b b)) (Solutions (op_tree o a b))
binary-set law op.And a b = record { agrees = λ z count. (let e = combined-holds law op.And a b z count in (λ h. (count, e.0 h), λ h. e.1 h.1)) }
binary-set law op.Or a b = record { agrees = λ z count. (let e = combined-holds law op.Or a b z count in (λ h. (count, e.0 h), λ h. e.1 h.1)) }
binary-set law op.Iff a b = record { agrees = λ z count. (let e = combined-holds law op.Iff a b z count in (λ h. (count, e.0 h), λ h. e.1 h.1)) }
binary-set law op.Xor a b = record { agrees = λ z count. (let e = combined-holds law op.Xor a b z count in (λ h. (count, e.0 h), λ h. e.1 h.1)) }

abbrev pub same_parts : Tree → Tree → List ℕ → List ℕ → Type 0
same_parts a b = SamePair (length (both_variables a b)) (part_of a b a) (part_of a b b)

parts-value : (o : Op) (a b : Tree) (v w : List ℕ) → same_parts a b v w → SameValue (op_tree o a b) v w
parts-value op.And a b v w h = h
parts-value op.Or a b v w h = h
parts-value op.Iff a b v w h = h
parts-value op.Xor a b v w h = h

value-parts : (o : Op) (a b : Tree) (v w : List ℕ) → SameValue (op_tree o a b) v w → same_parts a b v w
value-parts op.And a b v w h = h
value-parts op.Or a b v w h = h
value-parts op.Iff a b v w h = h
value-parts op.Xor a b v w h = h

-- the variables of the parts have tracks
pub part-maps : (a b : Tree) → IsIncreasing (free_variables a) → IsIncreasing (free_variables b) → IsIncreasing (both_variables a b) →
    IsTrackMap (length (free_variables a)) (length (both_variables a b)) (tracks_of (free_variables a) (both_variables a b))
    × IsTrackMap (length (free_variables b)) (length (both_variables a b)) (tracks_of (free_variables b) (both_variables a b))
part-maps a b up_a up_b up =
    let inside = all-union (λ (w : ℕ). track_of w (both_variables a b) < length (both_variables a b)) (free_variables a) (free_variables b) (tracks-inside (both_variables a b)) in
    (is-track_map (free_variables a) (both_variables a b) up_a up inside.0, is-track_map (free_variables b) (both_variables a b) up_b up inside.1)

module _ (law : WideningLaw) (o : Op) (a b : Tree) (X Y : Vector → Type 0) (first : SameSet (length (free_variables a)) X (Solutions a)) (second : SameSet (length (free_variables b)) Y (Solutions b)) (B : ℕ) where
  wide_first : SameSet (length (both_variables a b)) (widened (tracks_of (free_variables a) (both_variables a b)) X) (part_of a b a)
  wide_first = widened-values (free_variables a) (both_variables a b) X (Solutions a) first

  wide_second : SameSet (length (both_variables a b)) (widened (tracks_of (free_variables b) (both_variables a b)) Y) (part_of a b b)
  wide_second = widened-values (free_variables b) (both_variables a b) Y (Solutions b) second

  abbrev wide_x : Vector → Type 0
  wide_x = widened (tracks_of (free_variables a) (both_variables a b)) X

  abbrev wide_y : Vector → Type 0
  wide_y = widened (tracks_of (free_variables b) (both_variables a b)) Y

  -- the automaton of the combined set is that of the node
  pub binary-table : (table : Automaton) → table.tracks ≡ length (both_variables a b) → table.states ≤ B →
      SameSet (length (both_variables a b)) (SetOfState table 0) (combined o (widened (tracks_of (free_variables a) (both_variables a b)) X) (widened (tracks_of (free_variables b) (both_variables a b)) Y)) →
      CostWithin (SamePair (length (both_variables a b)) (widened (tracks_of (free_variables a) (both_variables a b)) X) (widened (tracks_of (free_variables b) (both_variables a b)) Y)) (length (both_variables a b)) B →
      IsTableOf (op_tree o a b) B table
  binary-table table tracks few set within =
      let size : length (both_variables a b) ≡ length (free_variables (op_tree o a b)) = sym (ap length (op-variables o a b)) in
      let sets : SameSet (length (both_variables a b)) (SetOfState table 0) (Solutions (op_tree o a b)) =
      SameSet-trans (length (both_variables a b)) (SetOfState table 0) (combined o wide_x wide_y) (Solutions (op_tree o a b)) set
      (SameSet-trans (length (both_variables a b)) (combined o wide_x wide_y) (combined o (part_of a b a) (part_of a b b)) (Solutions (op_tree o a b)) (combined-moved o (length (both_variables a b)) wide_x wide_y (part_of a b a) (part_of a b b) wide_first wide_second) (binary-set law o a b)) in
      let parts : CostWithin (same_parts a b) (length (both_variables a b)) B =
      within-moved (SamePair (length (both_variables a b)) wide_x wide_y) (same_parts a b) (length (both_variables a b))
      (λ v w hv hw h. pair-moved (length (both_variables a b)) wide_x wide_y (part_of a b a) (part_of a b b) wide_first wide_second v w h) B within in
      let values : CostWithin (SameValue (op_tree o a b)) (length (both_variables a b)) B = within-moved (same_parts a b) (SameValue (op_tree o a b)) (length (both_variables a b)) (λ v w hv hw h. parts-value o a b v w h) B parts in
      let residuals : CostWithin (SameResidual (length (both_variables a b)) (Solutions (op_tree o a b))) (length (both_variables a b)) B =
      within-moved (same_parts a b) (SameResidual (length (both_variables a b)) (Solutions (op_tree o a b))) (length (both_variables a b))
      (λ v w hv hw h. residual-moved (length (both_variables a b)) (combined o (part_of a b a) (part_of a b b)) (Solutions (op_tree o a b)) (binary-set law o a b) v w (pair-combined o (length (both_variables a b)) (part_of a b a) (part_of a b b) v w h)) B parts in
      record {
        tracks = tracks ∙ size;
        few = few;
        set = subst (λ (j : ℕ). SameSet j (SetOfState table 0) (Solutions (op_tree o a b))) size sets;
        within = subst (λ (j : ℕ). CostWithin (SameValue (op_tree o a b)) j B) size values;
        residuals = subst (λ (j : ℕ). CostWithin (SameResidual j (Solutions (op_tree o a b))) j B) size residuals;
      }

  pub binary-refused : (fault : TableFault) →
      StatesOnlyAbove (SamePair (length (both_variables a b)) (widened (tracks_of (free_variables a) (both_variables a b)) X) (widened (tracks_of (free_variables b) (both_variables a b)) Y)) (length (both_variables a b)) B fault →
      RefusesTree (op_tree o a b) B fault
  binary-refused fault refused =
      let size : length (both_variables a b) ≡ length (free_variables (op_tree o a b)) = sym (ap length (op-variables o a b)) in
      let back_first = SameSet-sym (length (both_variables a b)) wide_x (part_of a b a) wide_first in
      let back_second = SameSet-sym (length (both_variables a b)) wide_y (part_of a b b) wide_second in
      let moved : StatesOnlyAbove (SameValue (op_tree o a b)) (length (both_variables a b)) B fault =
      states-moved (SamePair (length (both_variables a b)) wide_x wide_y) (SameValue (op_tree o a b)) (length (both_variables a b))
      (λ v w hv hw h. pair-moved (length (both_variables a b)) (part_of a b a) (part_of a b b) wide_x wide_y back_first back_second v w (value-parts o a b v w h)) B fault refused in
      subst (λ (j : ℕ). StatesOnlyAbove (SameValue (op_tree o a b)) j B fault) size moved

-- the answers of a call that combines two sets over so many tracks by maps
module _ (law : WideningLaw) (o : Op) (a b : Tree) (X Y : Vector → Type 0) (first : SameSet (length (free_variables a)) X (Solutions a)) (second : SameSet (length (free_variables b)) Y (Solutions b)) (B n : ℕ) (ma mb : List ℕ)
    (count : n ≡ length (both_variables a b)) (map_a : ma ≡ tracks_of (free_variables a) (both_variables a b)) (map_b : mb ≡ tracks_of (free_variables b) (both_variables a b)) where
  pub binary-ok : (r : Result Automaton TableFault) → IfOk r (λ table. table.tracks ≡ n) → IfOk r (λ table. table.states ≤ B) →
      IfOk r (λ table. SameSet n (SetOfState table 0) (combined o (widened ma X) (widened mb Y))) → IfOk r (λ table. CostWithin (SamePair n (widened ma X) (widened mb Y)) n B) →
      IfOk r (λ table. IsTableOf (op_tree o a b) B table)
  binary-ok (Ok table) tracks few set within =
      binary-table law o a b X Y first second B table (tracks ∙ count) few
      (subst (λ (m : List ℕ). SameSet (length (both_variables a b)) (SetOfState table 0) (combined o (widened (tracks_of (free_variables a) (both_variables a b)) X) (widened m Y))) map_b
      (subst (λ (m : List ℕ). SameSet (length (both_variables a b)) (SetOfState table 0) (combined o (widened m X) (widened mb Y))) map_a
      (subst (λ (j : ℕ). SameSet j (SetOfState table 0) (combined o (widened ma X) (widened mb Y))) count set)))
      (subst (λ (m : List ℕ). CostWithin (SamePair (length (both_variables a b)) (widened (tracks_of (free_variables a) (both_variables a b)) X) (widened m Y)) (length (both_variables a b)) B) map_b
      (subst (λ (m : List ℕ). CostWithin (SamePair (length (both_variables a b)) (widened m X) (widened mb Y)) (length (both_variables a b)) B) map_a
      (subst (λ (j : ℕ). CostWithin (SamePair j (widened ma X) (widened mb Y)) j B) count within)))
  binary-ok (Err fault) tracks few set within = tt

  pub binary-err : (r : Result Automaton TableFault) → IfErr r (StatesOnlyAbove (SamePair n (widened ma X) (widened mb Y)) n B) → IfErr r (RefusesTree (op_tree o a b) B)
  binary-err (Ok table) refused = tt
  binary-err (Err fault) refused =
      binary-refused law o a b X Y first second B fault
      (subst (λ (m : List ℕ). StatesOnlyAbove (SamePair (length (both_variables a b)) (widened (tracks_of (free_variables a) (both_variables a b)) X) (widened m Y)) (length (both_variables a b)) B fault) map_b
      (subst (λ (m : List ℕ). StatesOnlyAbove (SamePair (length (both_variables a b)) (widened m X) (widened mb Y)) (length (both_variables a b)) B fault) map_a
      (subst (λ (j : ℕ). StatesOnlyAbove (SamePair j (widened ma X) (widened mb Y)) j B fault) count refused)))
