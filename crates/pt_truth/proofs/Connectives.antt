-- Complements, and sets that two sets decide, have finitely many residuals and are decided where these are.
use Rattle.std.proofs.Common.{◌≡◌, ◌⊎◌, inl, inr, ℕ, zero, suc, ◌+◌, ◌*◌, ◌/◌, ◌%◌, ◌<◌, ◌≤◌, List, [], ◌∷◌, ◌++◌, length, refl, ap, sym, ◌∙◌, subst, arith}
use Rattle.std.specs.Prelude.{◌↔◌}
use Rattle.std.proofs.Math.Nat.{mul-le-mul_left, mul_comm}
use Rattle.std.proofs.lemmas.Nat.{div-mul-add, mod-mul-add}
use Rattle.pt_sets.specs.Words.{Vector, AreLetters, doubled_plus, after_digits}
use Rattle.pt_sets.specs.Sets.{SameSet, residual_by}
use Rattle.pt_sets.specs.Costs.{SameResidual, SamePair}
use Rattle.pt_sets.proofs.Digits.{length-after_digits}
use Rattle.pt_truth.proofs.Regular.{IsFinite}

-- a set with finitely many residuals, each vector of which is decided to be in it or not
pub record IsRegular (t : ℕ) (X : Vector → Type 0) : Type 0 where
  pub residuals : IsFinite (SameResidual t X) t
  pub decided : (z : Vector) → length z ≡ t → X z ⊎ (¬ X z)

-- the digits of two lists, one behind the other
pub after_digits-append : (v w : List ℕ) (z : Vector) → after_digits (v ++ w) z ≡ after_digits v (after_digits w z)
after_digits-append [] w z = refl
after_digits-append (a ∷ v) w z = ap (doubled_plus a) (after_digits-append v w z)

-- equal residuals have equal residuals behind equal letters
pub residuals_followed : (t : ℕ) (X : Vector → Type 0) (v w x : List ℕ) → AreLetters t x → SameResidual t X v w → SameResidual t X (v ++ x) (w ++ x)
residuals_followed t X v w x letters same =
    record {
      agrees = λ z count.
          let k = same.agrees (after_digits x z) (length-after_digits x z ∙ count) in
          subst (λ y. X y ↔ X (after_digits (w ++ x) z)) (sym (after_digits-append v x z))
          (subst (λ y. X (after_digits v (after_digits x z)) ↔ X y) (sym (after_digits-append w x z)) k);
    }

pub decided_not : {P : Type 0} → P ⊎ (¬ P) → (¬ P) ⊎ (¬ (¬ P))
decided_not (inl p) = inr (λ k. k p)
decided_not (inr n) = inl n

-- the complement
pub not_regular : (t : ℕ) (X : Vector → Type 0) → IsRegular t X → IsRegular t (λ z. ¬ X z)
not_regular t X regular = record {
  residuals = record {
    count = regular.residuals.count;
    class = regular.residuals.class;
    below = regular.residuals.below;
    of_one = λ v w v_letters w_letters e.
        let same = regular.residuals.of_one v w v_letters w_letters e in
        record { agrees = λ z count. let k = same.agrees z count in (λ n x. n (k.1 x), λ n x. n (k.0 x)) };
    followed = residuals_followed t (λ z. ¬ X z);
  };
  decided = λ z count. decided_not (regular.decided z count);
}

-- ---- pairs

pair_below : (a b m n : ℕ) → a < m → b < n → a * n + b < m * n
pair_below a b m n h k =
    let le : n * suc a ≤ n * m = mul-le-mul_left n h in
    let turned : n * m ≡ m * n = mul_comm n m in
    let other : n * a ≡ a * n = mul_comm n a in
    let more : n * suc a ≡ n * a + n = omega arith in
    omega arith

-- the pair of two values
pub pair_finite : (first second : List ℕ → List ℕ → Type 0) (t : ℕ) → IsFinite first t → IsFinite second t → IsFinite (λ v w. first v w × second v w) t
pair_finite first second t a b = record {
  count = a.count * b.count;
  class = λ w. a.class w * b.count + b.class w;
  below = λ w letters. pair_below (a.class w) (b.class w) a.count b.count (a.below w letters) (b.below w letters);
  of_one = λ v w v_letters w_letters e.
      let ahead : a.class v ≡ a.class w =
      sym (div-mul-add (a.class v) b.count (b.class v) (b.below v v_letters)) ∙ ap (λ x. x / b.count) e ∙ div-mul-add (a.class w) b.count (b.class w) (b.below w w_letters)
      in
      let behind : b.class v ≡ b.class w =
      sym (mod-mul-add (a.class v) b.count (b.class v) (b.below v v_letters)) ∙ ap (λ x. x % b.count) e ∙ mod-mul-add (a.class w) b.count (b.class w) (b.below w w_letters)
      in
      (a.of_one v w v_letters w_letters ahead, b.of_one v w v_letters w_letters behind);
  followed = λ v w x letters same. (a.followed v w x letters same.0, b.followed v w x letters same.1);
}

-- a set Z such that X and Y decide what is in it
pub both_regular : (t : ℕ) (X Y Z : Vector → Type 0) → ((y z : Vector) → (X y ↔ X z) → (Y y ↔ Y z) → Z y → Z z) → ((z : Vector) → X z ⊎ (¬ X z) → Y z ⊎ (¬ Y z) → Z z ⊎ (¬ Z z)) →
    IsRegular t X → IsRegular t Y → IsRegular t Z
both_regular t X Y Z moves decides x y =
    let pair = pair_finite (SameResidual t X) (SameResidual t Y) t x.residuals y.residuals in
    record {
      residuals = record {
        count = pair.count;
        class = pair.class;
        below = pair.below;
        of_one = λ v w v_letters w_letters e.
            let same = pair.of_one v w v_letters w_letters e in
            record {
              agrees = λ z count.
                  let k = same.0.agrees z count in
                  let l = same.1.agrees z count in
                  (moves (after_digits v z) (after_digits w z) k l, moves (after_digits w z) (after_digits v z) (k.1, k.0) (l.1, l.0));
            };
        followed = residuals_followed t Z;
      };
      decided = λ z count. decides z (x.decided z count) (y.decided z count);
    }

-- a set that does not depend on the vector
pub constant_regular : (t : ℕ) (P : Type 0) → P ⊎ (¬ P) → IsRegular t (λ z. P)
constant_regular t P decided = record {
  residuals = record {
    count = 1;
    class = λ w. 0;
    below = λ w letters. omega arith;
    of_one = λ v w v_letters w_letters e. record { agrees = λ z count. (λ p. p, λ p. p) };
    followed = residuals_followed t (λ z. P);
  };
  decided = λ z count. decided;
}
