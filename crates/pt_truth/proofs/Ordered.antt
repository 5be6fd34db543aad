-- A set with a member, each vector of which is decided to be in it or not, has a least member; a regular set has first members.
use Rattle.std.proofs.Common.{◌≡◌, ◌⊎◌, inl, inr, ℕ, zero, suc, ◌+◌, ◌/◌, ◌%◌, ◌^◌, ◌<◌, ◌≤◌, List, [], ◌∷◌, ◌++◌, length, refl, ap, sym, ◌∙◌, subst, arith, length-append}
use Rattle.std.specs.Prelude.{ℤ, pos, ◌+ℤ◌, ◌*ℤ◌, ⊤}
use Rattle.std.specs.List.{AllByRecursion}
use Rattle.std.proofs.lemmas.Int.{ints}
use Rattle.std.proofs.lemmas.Bool.{cases_lt}
use Rattle.pt_base.specs.Elements.{ContainsByRecursion, PairsByRecursion}
use Rattle.pt_sets.specs.Words.{Vector, AreLetters, doubled_plus, value}
use Rattle.pt_sets.specs.Shortlex.{IsShortestWord, ComesBefore, IsLeastMember, IsFirstMembers}
use Rattle.pt_sets.proofs.Ordering.{before-irreflexive, before-transitive, before-total}
use Rattle.pt_sets.proofs.SameValues.{shortest-exists}
use Rattle.pt_sets.proofs.WordValues.{length-value}
use Rattle.pt_truth.proofs.Enumerating.{all_of, all_own, all_map, any_decided, shorter, shorter_has}
use Rattle.pt_truth.proofs.Searching.{numbers, over_numbers}
use Rattle.pt_truth.proofs.Connectives.{IsRegular, not_regular, both_regular, constant_regular}
use Rattle.pt_truth.proofs.Linear.{equal_regular}
use Rattle.pt_truth.proofs.Deciding.{equal_set_regular, some_member}
use Rattle.pt_truth.proofs.Trees.{both_decided}

-- ---- the least member

-- the vector itself, or one that comes before it
abbrev pub IsUpTo : Vector → Vector → Type 0
IsUpTo m y = (y ≡ m) ⊎ ComesBefore m y

up_to_more : (m n y : Vector) → ComesBefore m n → IsUpTo n y → IsUpTo m y
up_to_more m n y h (inl same) = inr (subst (ComesBefore m) (sym same) h)
up_to_more m n y h (inr later) = inr (before-transitive m n y h later)

module _ (t : ℕ) (P : Vector → Type 0) (decided : (z : Vector) → length z ≡ t → P z ⊎ (¬ P z)) where
  -- of a member and the vectors of words that are members the first
  best : (z : Vector) → length z ≡ t → P z → (ws : List (List ℕ)) →
      (m : Vector) × (length m ≡ t) × P m × IsUpTo m z × AllByRecursion (λ w. P (value t w) → IsUpTo m (value t w)) ws
  best z count is_in [] = (z, count, is_in, inl refl, tt)
  best z count is_in (w ∷ ws) =
      let (m, m_count, m_in, least, all) = best z count is_in ws in
      let v = value t w in
      elim (decided v (length-value t w)) [
        | inr out ↦ (m, m_count, m_in, least, ((λ h. absurd (out h)), all))
        | inl member ↦ elim (before-total m v (m_count ∙ sym (length-value t w))) [
          | inl earlier ↦ (m, m_count, m_in, least, ((λ h. inr earlier), all))
          | inr rest ↦ elim rest [
            | inl same ↦ (m, m_count, m_in, least, ((λ h. inl (sym same)), all))
            | inr later ↦ (
              v,
              length-value t w,
              member,
              up_to_more v m z later least,
              ((λ h. inl refl), all_map (λ w. P (value t w) → IsUpTo m (value t w)) (λ u. P (value t u) → IsUpTo v (value t u)) ws (λ u k h. up_to_more v m (value t u) later (k h)) all),
            )
          ]
        ]
      ]

  pub least_member : (z : Vector) → length z ≡ t → P z → (m : Vector) × IsLeastMember t P m
  least_member z count is_in =
      let (w, shortest) = shortest-exists z in
      let n = length w in
      let lists = shorter (numbers (2 ^ t)) (suc n) in
      let (m, m_count, m_in, least, all) = best z count is_in lists in (
        m,
        record {
          components = m_count;
          member = m_in;
          first = λ y y_count y_in.
              let (v, of_y) = shortest-exists y in
              elim (cases_lt n (length v)) [
                | inl long ↦ passed m z y least (w, v, shortest, of_y, inl long)
                | inr short ↦
                    let letters = subst (λ (k : ℕ). AreLetters k v) y_count of_y.word.letters in
                    let among = shorter_has (numbers (2 ^ t)) (suc n) v (over_numbers (2 ^ t) v letters) (omega arith) in
                    let meaning = subst (λ (k : ℕ). value k v ≡ y) y_count of_y.meaning in
                    let found = all_of (λ w. P (value t w) → IsUpTo m (value t w)) v lists among all (subst P (sym meaning) y_in) in
                    subst (IsUpTo m) meaning found
              ];
        },
      )
    where
      passed : (m z y : Vector) → IsUpTo m z → ComesBefore z y → IsUpTo m y
      passed m z y (inl same) h = inr (subst (λ (x : Vector). ComesBefore x y) same h)
      passed m z y (inr earlier) h = inr (before-transitive m z y earlier h)

-- ---- without some vectors

nth : ℕ → Vector → ℤ
nth i [] = pos 0
nth zero (x ∷ z) = x
nth (suc i) (x ∷ z) = nth i z

part : ℕ → ℕ → ℤ
part zero a = pos (a % 2)
part (suc i) a = part i (a / 2)

nth_step : (i a : ℕ) (z : Vector) → i < length z → nth i (doubled_plus a z) ≡ (pos 2 *ℤ nth i z +ℤ part i a)
unfolding nth part
nth_step i a [] h = absurd (omega arith)
nth_step zero a (x ∷ z) h = refl
nth_step (suc i) a (x ∷ z) h = nth_step i (a / 2) z (omega arith)

-- the first n components are those of y
Agree : ℕ → Vector → Vector → Type 0
Agree zero y z = ⊤
Agree (suc n) y z = Agree n y z × (nth n z ≡ nth n y)

agree_regular : (t n : ℕ) (y : Vector) → n ≤ t → IsRegular t (Agree n y)
unfolding Agree
agree_regular t zero y h = constant_regular t ⊤ (inl tt)
agree_regular t (suc n) y h =
    both_regular t (Agree n y) (λ z. nth n z ≡ nth n y) (Agree (suc n) y)
    (λ u z k l both. (k.0 both.0, l.0 both.1))
    (λ z p q. both_decided p q)
    (agree_regular t n y (omega arith))
    (equal_regular t (nth n) (part n) (λ a z count. nth_step n a z (omega arith)) (nth n y))

agree_at : (n i : ℕ) (y z : Vector) → Agree n y z → i < n → nth i z ≡ nth i y
unfolding Agree
agree_at zero i y z h less = absurd (omega arith)
agree_at (suc n) i y z h less = elim (cases_lt i n) [ inl earlier ↦ agree_at n i y z h.0 earlier | inr last ↦ let same : i ≡ n = omega arith in subst (λ (k : ℕ). nth k z ≡ nth k y) (sym same) h.1 ]

extensional : (y z : Vector) → length y ≡ length z → ((i : ℕ) → i < length y → nth i z ≡ nth i y) → z ≡ y
unfolding nth
extensional [] [] count h = refl
extensional [] (x ∷ z) count h = absurd (omega arith)
extensional (x ∷ y) [] count h = absurd (omega arith)
extensional (x ∷ y) (u ∷ z) count h = ap (λ (v : ℤ). v ∷ z) (h 0 (omega arith)) ∙ ap (λ (v : Vector). x ∷ v) (extensional y z (omega arith) (λ i less. h (suc i) (omega arith)))

agree_itself : (n : ℕ) (y : Vector) → Agree n y y
unfolding Agree
agree_itself zero y = tt
agree_itself (suc n) y = (agree_itself n y, refl)

other_regular : (t : ℕ) (y : Vector) → length y ≡ t → IsRegular t (λ z. ¬ (z ≡ y))
other_regular t y count =
    equal_set_regular t (λ z. ¬ Agree t y z) (λ z. ¬ (z ≡ y))
    (record {
      agrees = λ z z_count. (
        λ h same. h (subst (Agree t y) (sym same) (agree_itself t y)),
        λ h agree. h (extensional y z (count ∙ sym z_count) (λ i less. agree_at t i y z agree (omega arith))),
      );
    })
    (not_regular t (Agree t y) (agree_regular t t y (omega arith)))

-- the members that are none of some vectors
abbrev pub Without : (Vector → Type 0) → List Vector → Vector → Type 0
Without X ys z = X z × AllByRecursion (λ y. ¬ (z ≡ y)) ys

without_regular : (t : ℕ) (X : Vector → Type 0) (ys : List Vector) → AllByRecursion (λ y. length y ≡ t) ys → IsRegular t X → IsRegular t (Without X ys)
without_regular t X [] counts regular = both_regular t X X (Without X []) (λ y z k l h. (k.0 h.0, tt)) (λ z p q. both_decided p (inl tt)) regular regular
without_regular t X (y ∷ ys) counts regular =
    both_regular t (Without X ys) (λ z. ¬ (z ≡ y)) (Without X (y ∷ ys))
    (λ u z k l h. let first = k.0 (h.0, h.1.1) in (first.0, (l.0 h.1.0, first.1)))
    (λ z p q. elim (both_decided p q) [ inl both ↦ inl (both.0.0, (both.1, both.0.1)) | inr none ↦ inr (λ h. none ((h.0, h.1.1), h.1.0)) ])
    (without_regular t X ys counts.1 regular)
    (other_regular t y counts.0)

-- ---- first members

-- a vector is among others or is none of them
among_or_none : (y : Vector) (zs : List Vector) → AllByRecursion (λ z. length z ≡ length y) zs → ContainsByRecursion y zs ⊎ AllByRecursion (λ z. ¬ (y ≡ z)) zs
among_or_none y [] counts = inr tt
among_or_none y (z ∷ zs) counts =
    elim (same_or_not y z (sym counts.0)) [
      | inl same ↦ inl (inl same)
      | inr other ↦ elim (among_or_none y zs counts.1) [ inl there ↦ inl (inr there) | inr none ↦ inr (other, none) ]
    ]
  where
    same_or_not : (y z : Vector) → length y ≡ length z → (y ≡ z) ⊎ (¬ (y ≡ z))
    same_or_not y z count =
        elim (before-total y z count) [
          | inl earlier ↦ inr (λ e. before-irreflexive z (subst (λ (x : Vector). ComesBefore x z) e earlier))
          | inr rest ↦ elim rest [ inl same ↦ inl same | inr later ↦ inr (λ e. before-irreflexive z (subst (ComesBefore z) e later)) ]
        ]

not_among : (y : Vector) (zs : List Vector) → AllByRecursion (λ z. ¬ (y ≡ z)) zs → ¬ ContainsByRecursion y zs
not_among y [] none h = h
not_among y (z ∷ zs) none (inl same) = none.0 same
not_among y (z ∷ zs) none (inr there) = not_among y zs none.1 there

all_pushed : {A : Type 0} (P : A → Type 0) (xs : List A) (x : A) → AllByRecursion P xs → P x → AllByRecursion P (xs ++ x ∷ [])
all_pushed P [] x all here = (here, tt)
all_pushed P (y ∷ xs) x all here = (all.0, all_pushed P xs x all.1 here)

pairs_pushed : {A : Type 0} (R : A → A → Type 0) (xs : List A) (x : A) → PairsByRecursion R xs → AllByRecursion (λ y. R y x) xs → PairsByRecursion R (xs ++ x ∷ [])
pairs_pushed R [] x pairs all = (tt, tt)
pairs_pushed R (y ∷ xs) x pairs all = (all_pushed (R y) xs x pairs.0 all.0, pairs_pushed R xs x pairs.1 all.1)

among_pushed : (y : Vector) (zs : List Vector) (z : Vector) → ContainsByRecursion y zs → ContainsByRecursion y (zs ++ z ∷ [])
among_pushed y [] z h = absurd h
among_pushed y (x ∷ zs) z (inl same) = inl same
among_pushed y (x ∷ zs) z (inr there) = inr (among_pushed y zs z there)

last_pushed : (zs : List Vector) (z : Vector) → ContainsByRecursion z (zs ++ z ∷ [])
last_pushed [] z = inl refl
last_pushed (x ∷ zs) z = inr (last_pushed zs z)

module _ (t : ℕ) (X : Vector → Type 0) (regular : IsRegular t X) where
  -- one more first member than some, or there is none
  one_more : (k : ℕ) (zs : List Vector) → IsFirstMembers t X k zs → length zs ≡ k → (ys : List Vector) × IsFirstMembers t X (suc k) ys
  one_more k zs first full =
      let counts = all_map (λ z. (length z ≡ t) × X z) (λ z. length z ≡ t) zs (λ z h. h.0) first.members in
      let rest = without_regular t X zs counts regular in
      elim (some_member t (Without X zs) rest) [
        | inr none ↦ (
          zs,
          record {
            count = omega arith;
            members = first.members;
            order = first.order;
            others = λ y y_count y_in. elim (among_or_none y zs (all_map (λ z. length z ≡ t) (λ z. length z ≡ length y) zs (λ z h. h ∙ sym y_count) counts)) [
              | inl among ↦ inl among
              | inr apart ↦ absurd (none y y_count (y_in, apart))
            ];
          },
        )
        | inl (z, z_count, z_in) ↦
            let (m, least) = least_member t (Without X zs) (rest.decided) z z_count z_in in
            let before : AllByRecursion (λ x. ComesBefore x m) zs =
            elim (first.others m least.components least.member.0) [
              | inl among ↦ absurd (not_among m zs least.member.1 among)
              | inr after ↦ after.1
            ]
            in (
              zs ++ m ∷ [],
              record {
                count = omega (arith, length-append zs (m ∷ []));
                members = all_pushed (λ z. (length z ≡ t) × X z) zs m first.members (least.components, least.member.0);
                order = pairs_pushed ComesBefore zs m first.order before;
                others = λ y y_count y_in. elim (among_or_none y zs (all_map (λ z. length z ≡ t) (λ z. length z ≡ length y) zs (λ z h. h ∙ sym y_count) counts)) [
                  | inl among ↦ inl (among_pushed y zs m among)
                  | inr apart ↦ elim (least.first y y_count (y_in, apart)) [
                    | inl same ↦ inl (subst (λ (x : Vector). ContainsByRecursion x (zs ++ m ∷ [])) (sym same) (last_pushed zs m))
                    | inr later ↦ inr (omega (arith, length-append zs (m ∷ [])), all_pushed (λ x. ComesBefore x y) zs m (all_map (λ x. ComesBefore x m) (λ x. ComesBefore x y) zs (λ x h. before-transitive x m y h later) before) later)
                  ]
                ];
              },
            )
      ]

  pub first_members : (k : ℕ) → (zs : List Vector) × IsFirstMembers t X k zs
  first_members zero = ([], record { count = omega arith; members = tt; order = tt; others = λ y y_count y_in. inr (refl, tt) })
  first_members (suc k) =
      let (zs, first) = first_members k in
      elim (cases_lt (length zs) k) [
        | inr full ↦ one_more k zs first (omega (arith, first.count))
        | inl few ↦ (
          zs,
          record {
            count = omega arith;
            members = first.members;
            order = first.order;
            others = λ y y_count y_in. elim (first.others y y_count y_in) [ inl among ↦ inl among | inr after ↦ absurd (omega (arith, after.0)) ];
          },
        )
      ]
