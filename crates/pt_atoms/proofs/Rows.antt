-- Rows of outputs and edges that grow cell by cell.
use Rattle.std.proofs.Common.{ℕ, zero, suc, ◌+◌, ◌<◌, ◌≤◌, ◌≡◌, ◌↔◌, ◌⊎◌, inl, inr, Bool, false, IsTrue, List, [], ◌∷◌, ◌++◌, length, get_or, slice_get, Some, ap, sym, ◌∙◌, refl, subst, arith, append-nil, append_assoc}
use Rattle.std.specs.Prelude.{ℤ, pos, neg_ℤ}
use Rattle.std.proofs.lemmas.List.{length-append}
use Rattle.pt_atoms.specs.Atoms.{Meets}
use Rattle.pt_atoms.specs.Parameters.{parameter_after}
use Rattle.pt_atoms.specs.Searches.{Grows, IsRowOfOutputs, IsRowOfEdges}
use Rattle.pt_atoms.specs.declared.Normal.{Normal}
use Rattle.pt_atoms.specs.declared.parameter.Parameter.{Parameter}

-- a cell of a list with one item more
pub read_push : {X : Type 0} (xs : List X) (y o : X) (d : ℕ) → d < length xs + 1 → ((d < length xs) × (get_or (xs ++ y ∷ []) d o ≡ get_or xs d o)) ⊎ ((d ≡ length xs) × (get_or (xs ++ y ∷ []) d o ≡ y))
read_push [] y o zero h = inr (refl, refl)
read_push [] y o (suc d) h = absurd (omega (arith, h))
read_push (x ∷ xs) y o zero h = inl (omega arith, refl)
read_push (x ∷ xs) y o (suc d) h = elim (read_push xs y o d (omega (arith, h))) [
  | inl p ↦ inl (let e = p.0 in omega (arith, e), p.1)
  | inr p ↦ inr (ap suc p.0, p.1)
]

-- ---- outputs
pub outputs_none : (p : Parameter) (sums : List ℤ) (old : List Bool) → IsRowOfOutputs p sums old old 0
outputs_none p sums old = record { count = omega arith; kept = λ i h. refl; says = λ s h. absurd (omega (arith, h)) }

pub outputs_push : (p : Parameter) (sums : List ℤ) (old mid : List Bool) (k : ℕ) (y : Bool) → IsRowOfOutputs p sums old mid k → IsTrue y ↔ Meets p.kind (neg_ℤ (get_or sums k (pos 0))) p.constant → IsRowOfOutputs p sums old (mid ++ y ∷ []) (k + 1)
outputs_push p sums old mid k y h says =
    let size = h.count in
    let longer = length-append mid (y ∷ []) in
    record {
      count = omega (arith, size, longer);
      kept = λ i l. elim (read_push mid y false i (omega (arith, l, size))) [
        | inl q ↦ q.1 ∙ h.kept i l
        | inr q ↦ let e = q.0 in absurd (omega (arith, e, l, size))
      ];
      says = λ s l. elim (read_push mid y false (length old + s) (omega (arith, l, size))) [
        | inl q ↦ let e = q.0 in subst (λ (b : Bool). IsTrue b ↔ Meets p.kind (neg_ℤ (get_or sums s (pos 0))) p.constant) (sym q.1) (h.says s (omega (arith, e, size)))
        | inr q ↦
            let e = q.0 in
            let last : k ≡ s = omega (arith, e, size) in
            subst (λ (b : Bool). IsTrue b ↔ Meets p.kind (neg_ℤ (get_or sums s (pos 0))) p.constant) (sym q.1)
            (subst (λ (i : ℕ). IsTrue y ↔ Meets p.kind (neg_ℤ (get_or sums i (pos 0))) p.constant) last says)
      ];
    }

-- ---- edges
pub still_at : {X : Type 0} (old new : List X) (q : ℕ) (x : X) → Grows old new → slice_get old q ≡ Some x → slice_get new q ≡ Some x
still_at {X} old new q x g e = subst (λ (xs : List X). slice_get xs q ≡ Some x) (sym g.1) (at_front old g.0 q x e)
  where
    at_front : {X : Type 0} (old more : List X) (q : ℕ) (x : X) → slice_get old q ≡ Some x → slice_get (old ++ more) q ≡ Some x
    at_front [] more q x e = absurd (grind (arith, e))
    at_front (y ∷ old) more zero x e = e
    at_front (y ∷ old) more (suc q) x e = at_front old more q x e

-- a place of the old list has in the new one what it had
pub was_at : {X : Type 0} (old new : List X) (q : ℕ) (x : X) → Grows old new → q < length old → slice_get new q ≡ Some x → slice_get old q ≡ Some x
was_at {X} old new q x g h e = front old g.0 q x h (subst (λ (xs : List X). slice_get xs q ≡ Some x) g.1 e)
  where
    front : {X : Type 0} (old more : List X) (q : ℕ) (x : X) → q < length old → slice_get (old ++ more) q ≡ Some x → slice_get old q ≡ Some x
    front [] more q x h e = absurd (omega (arith, h))
    front (y ∷ old) more zero x h e = e
    front (y ∷ old) more (suc q) x h e = front old more q x (omega (arith, h)) e

pub grows_refl : {X : Type 0} (xs : List X) → Grows xs xs
grows_refl xs = ([], sym (append-nil xs))

pub grows_trans : {X : Type 0} (a b c : List X) → Grows a b → Grows b c → Grows a c
grows_trans a b c g h = (g.0 ++ h.0, h.1 ∙ ap (λ xs. xs ++ h.0) g.1 ∙ append_assoc a g.0 h.0)

pub grows_length : {X : Type 0} (old new : List X) → Grows old new → length old ≤ length new
grows_length old new g = let e = ap length g.1 in let f = length-append old g.0 in omega (arith, e, f)

pub edges_none : (n : Normal) (p : Parameter) (ps : List Parameter) (old : List ℕ) → IsRowOfEdges n p ps ps old old 0
edges_none n p ps old = record { grown = grows_refl ps; count = omega arith; kept = λ i h. refl; leads = λ d h. absurd (omega (arith, h)) }

pub edges_push : (n : Normal) (p : Parameter) (ps qs rs : List Parameter) (old mid : List ℕ) (k i : ℕ) → IsRowOfEdges n p ps qs old mid k → Grows qs rs → slice_get rs i ≡ Some (parameter_after n.coefficients p k) →
    IsRowOfEdges n p ps rs old (mid ++ i ∷ []) (k + 1)
edges_push n p ps qs rs old mid k i h grown next =
    let size = h.count in
    let longer = length-append mid (i ∷ []) in
    record {
      grown = grows_trans ps qs rs h.grown grown;
      count = omega (arith, size, longer);
      kept = λ j l. elim (read_push mid i 0 j (omega (arith, l, size))) [
        | inl q ↦ q.1 ∙ h.kept j l
        | inr q ↦ let e = q.0 in absurd (omega (arith, e, l, size))
      ];
      leads = λ d l. elim (read_push mid i 0 (length old + d) (omega (arith, l, size))) [
        | inl q ↦ let e = q.0 in subst (λ (j : ℕ). slice_get rs j ≡ Some (parameter_after n.coefficients p d)) (sym q.1) (still_at qs rs _ _ grown (h.leads d (omega (arith, e, size))))
        | inr q ↦
            let e = q.0 in
            let last : k ≡ d = omega (arith, e, size) in
            subst (λ (j : ℕ). slice_get rs j ≡ Some (parameter_after n.coefficients p d)) (sym q.1)
            (subst (λ (l : ℕ). slice_get rs i ≡ Some (parameter_after n.coefficients p l)) last next)
      ];
    }
