-- The states of a row are marked, one after another.
use Rattle.std.proofs.Common.{◌≡◌, ◌≢◌, ◌⊎◌, inl, inr, ℕ, ◌+◌, ◌<◌, ◌↔◌, List, [], length, get_or, refl, ap, sym, ◌∙◌, subst, arith}
use Rattle.std.specs.List.{Contains}
use Rattle.std.proofs.lemmas.Bool.{cases_eq}
use Rattle.pt_refine.proofs.Cutting.{IsBefore, before-more, before-last, before-cases}

-- the first k states of a row are marked, and their classes are listed
pub record MarkedTo (n count : ℕ) (row touched : List ℕ) (k : ℕ) (class : ℕ → ℕ) (Marked : ℕ → Type 0) : Type 0 where
  pub marked : (q : ℕ) → q < n → Marked q ↔ IsBefore row k q
  pub within : (c : ℕ) → Contains touched c → c < count
  pub listed : (q : ℕ) → q < n → Marked q → Contains touched (class q)

pub marked-none : (n count : ℕ) (row touched : List ℕ) (class : ℕ → ℕ) (Marked : ℕ → Type 0) → touched ≡ [] → ((q : ℕ) → q < n → ¬ Marked q) → MarkedTo n count row touched 0 class Marked
marked-none n count row touched class Marked empty none = record {
  marked = λ q q_in. (λ is. absurd (none q q_in is), λ at. let lt = at.1 in absurd (omega arith));
  within = λ c inside. let at : Contains [] c = subst (λ (xs : List ℕ). Contains xs c) empty inside in let lt = at.1 in absurd (omega arith);
  listed = λ q q_in is. absurd (none q q_in is);
}

pub marked-more : {n count : ℕ} {row touched : List ℕ} {k : ℕ} {class : ℕ → ℕ} {Marked : ℕ → Type 0} → MarkedTo n count row touched k class Marked → (touched' : List ℕ) (New : ℕ → Type 0) →
    get_or row k 0 < n → class (get_or row k 0) < count → New (get_or row k 0) → ((r : ℕ) → r < n → r ≢ get_or row k 0 → New r ↔ Marked r) →
    ((c : ℕ) → Contains touched c → Contains touched' c) → ((c : ℕ) → Contains touched' c → Contains touched c ⊎ (c ≡ class (get_or row k 0))) →
    Contains touched' (class (get_or row k 0)) ⊎ ((r : ℕ) × (r < n) × (class r ≡ class (get_or row k 0)) × Marked r) → MarkedTo n count row touched' (k + 1) class New
marked-more {n} {count} {row} {touched} {k} {class} {Marked} was touched' New x_in c_in here others kept only listed =
    let x = get_or row k 0 in
    let x_listed : Contains touched' (class x) = elim listed [
      | inl now ↦ now
      | inr other ↦ subst (Contains touched') other.2 (kept (class other.0) (was.listed other.0 other.1 other.3))
    ] in
    record {
      marked = λ q q_in. elim (cases_eq q x) [
        | inl e ↦ (λ is. subst (IsBefore row (k + 1)) (sym e) (before-last row k), λ at. subst New (sym e) here)
        | inr ne ↦ (
          λ is. before-more row k q ((was.marked q q_in).0 ((others q q_in ne).0 is)),
          λ at. elim (before-cases row k q at) [
            | inl before ↦ (others q q_in ne).1 ((was.marked q q_in).1 before)
            | inr last ↦ absurd (ne last)
          ],
        )
      ];
      within = λ c inside. elim (only c inside) [
        | inl before ↦ was.within c before
        | inr e ↦ subst (λ (d : ℕ). d < count) (sym e) c_in
      ];
      listed = λ q q_in is. elim (cases_eq q x) [
        | inl e ↦ subst (λ (r : ℕ). Contains touched' (class r)) (sym e) x_listed
        | inr ne ↦ kept (class q) (was.listed q q_in ((others q q_in ne).0 is))
      ];
    }
