-- Normal forms that go back to one normal form have equal sets only where they are equal.
use Rattle.std.proofs.Common.{ℕ, zero, suc, ◌+◌, ◌-◌, ◌*◌, ◌^◌, ◌<◌, ◌≤◌, ◌≡◌, ◌↔◌, inl, inr, Bool, true, false, IsTrue, List, [], ◌∷◌, length, map, replicate, ap, sym, ◌∙◌, refl, subst, arith}
use Rattle.std.proofs.lemmas.List.{length-map, length-replicate}
use Rattle.std.proofs.lemmas.Bool.{false≢true, cases_lt}
use Rattle.std.proofs.lemmas.Nat.{pow-add, pow_pos}
use native.Mathlib.Nat.{eq_of_mul-eq-mul_right}
use Rattle.std.proofs.lemmas.Int.{ints}
use Rattle.std.specs.Prelude.{ℤ, pos, negsuc, ◌+ℤ◌, ◌*ℤ◌, neg_ℤ, ◌≤ℤ◌}
use Rattle.std.specs.List.{AllByRecursion}
use Rattle.pt_sets.specs.Words.{Vector}
use Rattle.pt_sets.specs.Sets.{SameSet}
use Rattle.pt_sets.proofs.Counting.{SameSet-sym}
use Rattle.pt_atoms.proofs.Ring.{mul_neg, zero_mul, mul_one}
use Rattle.pt_atoms.proofs.Bezout.{solution}
use Rattle.pt_atoms.proofs.Residues.{congruent_sym, congruent_trans, congruent_by, residue_unique, dot-residues}
use Rattle.pt_atoms.specs.Sums.{dot, Congruent, IsGcdOf}
use Rattle.pt_atoms.specs.Atoms.{IsReduced, Meets, residue}
use Rattle.pt_atoms.specs.Numbers.{IsResidue, IsZero}
use Rattle.pt_atoms.specs.declared.NormalKind.{NormalKind}
use Rattle.pt_atoms.specs.declared.NormalKind.TheVariants.{Always, Eq, Le, Mod}

-- the set of a kind, coefficients and a constant
abbrev pub SetAt : NormalKind → List ℤ → ℤ → Vector → Type 0
SetAt k cs c z = Meets k (dot cs z) c

-- with coefficients that have no common divisor with the modulus, each residue is met
pub solution_modulo : (m : ℕ) (cs : List ℤ) → IsGcdOf 1 (pos m ∷ cs) → (c : ℤ) → (z : List ℤ) × (length z ≡ length cs) × Congruent m (dot cs z) c
solution_modulo m cs h c = from m cs c (solution (pos m ∷ cs) h c)
  where
    from : (m : ℕ) (cs : List ℤ) (c : ℤ) → (z : List ℤ) × (length z ≡ suc (length cs)) × (dot (pos m ∷ cs) z ≡ c) → (z : List ℤ) × (length z ≡ length cs) × Congruent m (dot cs z) c
    from m cs c ([], e, f) = absurd (omega (arith, e))
    from m cs c (x ∷ z, e, f) = (z, omega (arith, e), (neg_ℤ x, let n = mul_neg (pos m) x in omega (arith, ints, f, n)))

-- equations
pub same_equation : (cs : List ℤ) (c d : ℤ) → IsGcdOf 1 cs → SameSet (length cs) (SetAt Eq cs c) (SetAt Eq cs d) → c ≡ d
same_equation cs c d h e = let s = solution cs h c in sym s.2 ∙ (e.agrees s.0 s.1).0 s.2

-- inequalities
pub same_inequality : (cs : List ℤ) (c d : ℤ) → IsGcdOf 1 cs → SameSet (length cs) (SetAt Le cs c) (SetAt Le cs d) → c ≡ d
same_inequality cs c d h e =
    let s = solution cs h c in
    let r = solution cs h d in
    let p : dot cs s.0 ≤ℤ d = (e.agrees s.0 s.1).0 (let f = s.2 in omega (arith, ints, f)) in
    let q : dot cs r.0 ≤ℤ c = (e.agrees r.0 r.1).1 (let f = r.2 in omega (arith, ints, f)) in
    let f = s.2 in
    let g = r.2 in
    omega (arith, ints, f, g, p, q)

-- congruences: the smaller modulus divides the greater one, and the coefficients are congruent by it
pub same_modulus : (m n q : ℕ) (bs cs : List ℤ) (c d : ℤ) → 0 < n → m ≡ n * q → IsGcdOf 1 (pos m ∷ bs) → ((z : List ℤ) → length z ≡ length bs → Congruent n (dot bs z) (dot cs z)) → SameSet (length bs) (SetAt (Mod m) bs c) (SetAt (Mod n) cs d) → (m ≡ n) × Congruent n c d
same_modulus m n q bs cs c d above e gcd like same =
    let y = solution_modulo m bs gcd c in
    let x = solution_modulo m bs gcd (c +ℤ pos n) in
    let y_in : Congruent n (dot cs y.0) d = (same.agrees y.0 y.1).0 y.2 in
    let y_like : Congruent n c (dot cs y.0) = congruent_trans n _ _ _ (congruent_by m n q _ _ e (congruent_sym m _ _ y.2)) (like y.0 y.1) in
    let c_d : Congruent n c d = congruent_trans n _ _ _ y_like y_in in
    let shift : Congruent n (c +ℤ pos n) c = (pos 1, let o = mul_one (pos n) in omega (arith, ints, o)) in
    let x_like : Congruent n (dot cs x.0) (c +ℤ pos n) = congruent_trans n _ _ _ (congruent_sym n _ _ (like x.0 x.1)) (congruent_by m n q _ _ e x.2) in
    let x_in : Congruent m (dot bs x.0) c = (same.agrees x.0 x.1).1 (congruent_trans n _ _ _ x_like (congruent_trans n _ _ _ shift c_d)) in
    let multiple : Congruent m (c +ℤ pos n) c = congruent_trans m _ _ _ (congruent_sym m _ _ x.2) x_in in
    (equal_moduli m n q c above e multiple, c_d)
  where
    most : (m n q : ℕ) (k : ℤ) → 0 < n → m ≡ n * q → pos n ≡ pos m *ℤ k → m ≡ n
    most m n zero k h e f = absurd (let none : m ≡ 0 = omega arith in let g = ap (λ s. pos s *ℤ k) none in let o = zero_mul k in omega (arith, ints, f, g, o))
    most m n (suc q) (pos zero) h e f = absurd (omega (arith, ints, f))
    most m n (suc q) (pos (suc k)) h e f = omega (arith, ints, e, f)
    most m n (suc q) (negsuc k) h e f = absurd (omega (arith, ints, f))

    equal_moduli : (m n q : ℕ) (c : ℤ) → 0 < n → m ≡ n * q → Congruent m (c +ℤ pos n) c → m ≡ n
    equal_moduli m n q c h e f = most m n q f.0 h e (let g = f.1 in omega (arith, ints, g))

-- ---- across kinds, and the whole statement

-- the kind and coefficients of a form that goes back to a form of kind k and coefficients cs
abbrev pub GoesBack : NormalKind → List ℤ → NormalKind → List ℤ → Type 0
GoesBack k cs (Always b) bs = length bs ≡ length cs
GoesBack Eq cs Eq bs = bs ≡ cs
GoesBack Le cs Le bs = bs ≡ cs
GoesBack (Mod m) cs (Mod n) bs = (j : ℕ) × (m ≡ n * 2 ^ j) × (bs ≡ map (residue n) cs)
GoesBack k cs j bs = ⊥

-- a vector of the set, and one that is not in it
pub record Mixed (k : NormalKind) (cs : List ℤ) (c : ℤ) : Type 0 where
  pub inside : List ℤ
  pub inside_length : length inside ≡ length cs
  pub is_inside : SetAt k cs c inside
  pub outside : List ℤ
  pub outside_length : length outside ≡ length cs
  pub is_outside : ¬ SetAt k cs c outside

mixed_equation : (cs : List ℤ) (c : ℤ) → IsGcdOf 1 cs → Mixed Eq cs c
mixed_equation cs c h =
    let s = solution cs h c in
    let r = solution cs h (c +ℤ pos 1) in
    record { inside = s.0; inside_length = s.1; is_inside = s.2; outside = r.0; outside_length = r.1; is_outside = λ e. let f = r.2 in absurd (omega (arith, ints, e, f)) }

mixed_inequality : (cs : List ℤ) (c : ℤ) → IsGcdOf 1 cs → Mixed Le cs c
mixed_inequality cs c h =
    let s = solution cs h c in
    let r = solution cs h (c +ℤ pos 1) in
    record { inside = s.0; inside_length = s.1; is_inside = let f = s.2 in omega (arith, ints, f); outside = r.0; outside_length = r.1; is_outside = λ e. let f = r.2 in absurd (omega (arith, ints, e, f)) }

one_apart : (m : ℕ) (k : ℤ) → 2 ≤ m → pos 1 ≡ pos m *ℤ k → ⊥
one_apart m (pos zero) h e = omega (arith, ints, e)
one_apart m (pos (suc k)) h e = omega (arith, ints, e)
one_apart m (negsuc k) h e = omega (arith, ints, e)

mixed_congruence : (m : ℕ) (cs : List ℤ) (c : ℤ) → 2 ≤ m → IsGcdOf 1 (pos m ∷ cs) → Mixed (Mod m) cs c
mixed_congruence m cs c above h =
    let s = solution_modulo m cs h c in
    let r = solution_modulo m cs h (c +ℤ pos 1) in
    record {
      inside = s.0;
      inside_length = s.1;
      is_inside = s.2;
      outside = r.0;
      outside_length = r.1;
      is_outside = λ e.
          let f = congruent_trans m _ _ _ (congruent_sym m _ _ r.2) e in
          let g = f.1 in
          one_apart m f.0 above (omega (arith, ints, g));
    }

apart : (b : Bool) (k : NormalKind) (t : ℕ) (as' cs : List ℤ) (a c : ℤ) → length cs ≡ t → Mixed k cs c → SameSet t (SetAt (Always b) as' a) (SetAt k cs c) → ⊥
apart true k t as' cs a c e m same = m.is_outside ((same.agrees m.outside (m.outside_length ∙ e)).0 refl)
apart false k t as' cs a c e m same = false≢true ((same.agrees m.inside (m.inside_length ∙ e)).1 m.is_inside)

pub zeros_same : (as' bs : List ℤ) → length as' ≡ length bs → AllByRecursion IsZero as' → AllByRecursion IsZero bs → as' ≡ bs
zeros_same [] [] e h k = refl
zeros_same [] (b ∷ bs) e h k = absurd (omega (arith, e))
zeros_same (a ∷ as') [] e h k = absurd (omega (arith, e))
zeros_same (a ∷ as') (b ∷ bs) e h k =
    let more = zeros_same as' bs (omega (arith, e)) h.1 k.1 in
    let first = h.0 in
    let second = k.0 in
    cc

same_always : (v w : Bool) (X : Type 0) → X → (X → IsTrue v ↔ IsTrue w) → v ≡ w
same_always true true X x h = refl
same_always false false X x h = refl
same_always true false X x h = absurd (false≢true ((h x).0 refl))
same_always false true X x h = absurd (false≢true ((h x).1 refl))

-- the constants of two congruences, where the smaller modulus divides the greater one
same_congruence : (m n d : ℕ) (cs as' bs : List ℤ) (a b : ℤ) → m ≡ n * d → as' ≡ map (residue m) cs → bs ≡ map (residue n) cs → IsReduced (Mod m) as' a → IsReduced (Mod n) bs b → SameSet (length cs) (SetAt (Mod m) as' a) (SetAt (Mod n) bs b) → (Mod m ≡ Mod n) × (as' ≡ bs) × (a ≡ b)
same_congruence m n d cs as' bs a b e f g h l same =
    let size : length as' ≡ length cs = ap length f ∙ length-map cs (residue m) in
    let above : 0 < n = let two = l.0 in omega arith in
    let above_m : 0 < m = let two = h.0 in omega arith in
    let first : (z : List ℤ) → Congruent m (dot cs z) (dot as' z) = λ z. subst (λ (s : List ℤ). Congruent m (dot cs z) (dot s z)) (sym f) (dot-residues m cs z above_m) in
    let second : (z : List ℤ) → Congruent n (dot cs z) (dot bs z) = λ z. subst (λ (s : List ℤ). Congruent n (dot cs z) (dot s z)) (sym g) (dot-residues n cs z above) in
    let like : (z : List ℤ) → length z ≡ length as' → Congruent n (dot as' z) (dot bs z) = λ z o. congruent_trans n _ _ _ (congruent_sym n _ _ (congruent_by m n d _ _ e (first z))) (second z) in
    let same' : SameSet (length as') (SetAt (Mod m) as' a) (SetAt (Mod n) bs b) = record { agrees = λ z o. same.agrees z (o ∙ size) } in
    let r = same_modulus m n d as' bs a b above e h.4 like same' in
    let a_residue : IsResidue n a = subst (λ (s : ℕ). IsResidue s a) r.0 h.3 in
    (ap (λ s. Mod s) r.0, f ∙ ap (λ s. map (residue s) cs) r.0 ∙ sym g, residue_unique n a b a_residue l.3 r.1)

same_congruences : (m n o : ℕ) (x y : ℕ) (cs as' bs : List ℤ) (a b : ℤ) → m ≡ n * 2 ^ x → m ≡ o * 2 ^ y → as' ≡ map (residue n) cs → bs ≡ map (residue o) cs → IsReduced (Mod n) as' a → IsReduced (Mod o) bs b → SameSet (length cs) (SetAt (Mod n) as' a) (SetAt (Mod o) bs b) → (Mod n ≡ Mod o) × (as' ≡ bs) × (a ≡ b)
same_congruences m n o x y cs as' bs a b e e' f g h l same = elim (cases_lt x y) [
  | inl less ↦ same_congruence n o (2 ^ (y - x)) cs as' bs a b (quotient n o x y (sym e ∙ e') (omega arith)) f g h l same
  | inr more ↦
      let r = same_congruence o n (2 ^ (x - y)) cs bs as' b a (quotient o n y x (sym e' ∙ e) more) g f l h (SameSet-sym _ _ _ same) in
      (sym r.0, sym r.1, sym r.2)
]
  where
    quotient : (n o x y : ℕ) → n * 2 ^ x ≡ o * 2 ^ y → x ≤ y → n ≡ o * 2 ^ (y - x)
    quotient n o x y e h =
        let whole : (y - x) + x ≡ y = omega arith in
        let split : 2 ^ y ≡ 2 ^ (y - x) * 2 ^ x = ap (λ k. 2 ^ k) (sym whole) ∙ pow-add 2 (y - x) x in
        eq_of_mul-eq-mul_right (2 ^ x) (pow_pos x) n (o * 2 ^ (y - x)) (e ∙ ap (λ k. o * k) split ∙ sym (mul_assoc' o (2 ^ (y - x)) (2 ^ x)))
      where
        mul_assoc' : (a b c : ℕ) → (a * b) * c ≡ a * (b * c)
        mul_assoc' a b c = omega arith

-- Two forms that go back to one form, with equal sets, are equal.
pub different : (k i j : NormalKind) (cs as' bs : List ℤ) (a b : ℤ) → GoesBack k cs i as' → GoesBack k cs j bs → IsReduced i as' a → IsReduced j bs b → SameSet (length cs) (SetAt i as' a) (SetAt j bs b) → (i ≡ j) × (as' ≡ bs) × (a ≡ b)
different k (Always v) (Always w) cs as' bs a b p q h l same =
    let first = same_always v w ((z : List ℤ) × (length z ≡ length cs)) (replicate (length cs) (pos 0), length-replicate (length cs) (pos 0)) (λ z. same.agrees z.0 z.1) in
    let second = zeros_same as' bs (p ∙ sym q) h.0 l.0 in
    (ap (λ s. Always s) first, second, h.1 ∙ sym l.1)
different Eq (Always v) Eq cs as' bs a b p q h l same = absurd (apart v Eq (length cs) as' bs a b (ap length q) (mixed_equation bs b l) same)
different Eq Eq (Always v) cs as' bs a b p q h l same = absurd (apart v Eq (length cs) bs as' b a (ap length p) (mixed_equation as' a h) (SameSet-sym _ _ _ same))
different Eq Eq Eq cs as' bs a b p q h l same =
    let same' : SameSet (length cs) (SetAt Eq cs a) (SetAt Eq cs b) = subst (λ (s : List ℤ). SameSet (length cs) (SetAt Eq cs a) (SetAt Eq s b)) q (subst (λ (s : List ℤ). SameSet (length cs) (SetAt Eq s a) (SetAt Eq bs b)) p same) in
    (refl, p ∙ sym q, same_equation cs a b (subst (λ (s : List ℤ). IsGcdOf 1 s) p h) same')
different Le (Always v) Le cs as' bs a b p q h l same = absurd (apart v Le (length cs) as' bs a b (ap length q) (mixed_inequality bs b l) same)
different Le Le (Always v) cs as' bs a b p q h l same = absurd (apart v Le (length cs) bs as' b a (ap length p) (mixed_inequality as' a h) (SameSet-sym _ _ _ same))
different Le Le Le cs as' bs a b p q h l same =
    let same' : SameSet (length cs) (SetAt Le cs a) (SetAt Le cs b) = subst (λ (s : List ℤ). SameSet (length cs) (SetAt Le cs a) (SetAt Le s b)) q (subst (λ (s : List ℤ). SameSet (length cs) (SetAt Le s a) (SetAt Le bs b)) p same) in
    (refl, p ∙ sym q, same_inequality cs a b (subst (λ (s : List ℤ). IsGcdOf 1 s) p h) same')
different (Mod m) (Always v) (Mod n) cs as' bs a b p q h l same = absurd (apart v (Mod n) (length cs) as' bs a b (ap length q.2 ∙ length-map cs (residue n)) (mixed_congruence n bs b l.0 l.4) same)
different (Mod m) (Mod n) (Always v) cs as' bs a b p q h l same = absurd (apart v (Mod n) (length cs) bs as' b a (ap length p.2 ∙ length-map cs (residue n)) (mixed_congruence n as' a h.0 h.4) (SameSet-sym _ _ _ same))
different (Mod m) (Mod n) (Mod o) cs as' bs a b p q h l same = same_congruences m n o p.0 q.0 cs as' bs a b p.1 q.1 p.2 q.2 h l same
different k i j cs as' bs a b p q h l same = absurd (grind (arith, p, q))

-- Two forms of one kind that go back to one form have equal coefficients.
pub same_coefficients : (k i : NormalKind) (cs as' bs : List ℤ) (a b : ℤ) → GoesBack k cs i as' → GoesBack k cs i bs → IsReduced i as' a → IsReduced i bs b → as' ≡ bs
same_coefficients k (Always v) cs as' bs a b p q h l = zeros_same as' bs (p ∙ sym q) h.0 l.0
same_coefficients Eq Eq cs as' bs a b p q h l = p ∙ sym q
same_coefficients Le Le cs as' bs a b p q h l = p ∙ sym q
same_coefficients (Mod m) (Mod n) cs as' bs a b p q h l = p.2 ∙ sym q.2
same_coefficients k i cs as' bs a b p q h l = absurd (grind (arith, p, q))
