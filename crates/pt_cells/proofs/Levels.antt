-- Names of cells in segments, each twice as long as the one before.
use Rattle.std.proofs.Common.{◌≡◌, ℕ, zero, suc, ◌+◌, ◌-◌, ◌*◌, ◌^◌, ◌<◌, ◌≤◌, Bool, true, false, cond, nat_lt, List, [], ◌∷◌, length, Option, Some, None, slice_get, refl, ap, sym, ◌∙◌, arith, pow_mono, pow-add, pow-suc, lt_of_not-le, mul-le-mul_left}
use Rattle.std.proofs.lemmas.Bool.Decides.{nat_tests}
use Rattle.pt_cells.specs.Places.{Keeps, Match, known_in, known_name, name_from, cells_in}

-- the place of a position: the highest bit past the first segment's size
module _ (past top : ℕ) (low : 2 ^ top ≤ past) (high : past < 2 * 2 ^ top) where
  pub top_above : 1024 ≤ past → 10 ≤ top
  top_above h = lt_of_not-le (λ (le : top ≤ 9). let p : 2 ^ top ≤ 512 = pow_mono le in omega arith)

  pub top_below : past < 268435456 → top < 28
  top_below h = lt_of_not-le (λ (le : 28 ≤ top). let p : 268435456 ≤ 2 ^ top = pow_mono le in omega arith)

-- the size of a segment fits
pub size_small : (level : ℕ) → level < 18 → 2 ^ level ≤ 131072
size_small level h = let le : level ≤ 17 = omega arith in pow_mono le

-- the size of the segment of a highest bit
pub size_at : (top : ℕ) → 10 ≤ top → 1024 * 2 ^ (top - 10) ≡ 2 ^ top
size_at top h = let e : 10 + (top - 10) ≡ top = omega arith in sym (pow-add 2 10 (top - 10)) ∙ ap (λ (k : ℕ). 2 ^ k) e

-- the segment of a position, and the offset of its cell there
pub place : (past top size : ℕ) → 2 ^ top ≤ past → past < 2 * 2 ^ top → 1024 ≤ past → past < 268435456 → size ≡ 1024 * 2 ^ (top - 10) →
    (top - 10 < 18) × (size ≤ past) × (past - size < 1024 * 2 ^ (top - 10))
place past top size low high first last is =
    let above : 10 ≤ top = top_above past top low high first in
    let below : top < 28 = top_below past top low high last in
    let whole : 1024 * 2 ^ (top - 10) ≡ 2 ^ top = size_at top above in
    (omega (arith, above, below), omega (arith, is, whole, low), omega (arith, is, whole, low, high))

regroup : (a b : ℕ) → a * (b * 2) ≡ a * 2 * b
regroup a b = omega arith

-- the name at an offset of a segment is that at its position
pub name_from-at : (seen : List (ℕ × Option (List ℕ))) (size level offset : ℕ) → level < length seen → offset < size * 2 ^ level →
    name_from size seen (offset + (size * 2 ^ level - size)) ≡ known_name (known_in seen level) offset
name_from-at [] size level offset lt within = absurd (omega arith)
name_from-at (s ∷ rest) size zero offset lt within =
    let at : offset + (size * 2 ^ 0 - size) ≡ offset = omega arith in
    let inside : nat_lt offset size ≡ true = grind (arith, nat_tests, within) in
    ap (λ (p : ℕ). name_from size (s ∷ rest) p) at ∙ ap (λ (b : Bool). cond b (known_name s.1 offset) (name_from (size * 2) rest (offset - size))) inside
name_from-at (s ∷ rest) size (suc level) offset lt within =
    let twice : 2 ^ suc level ≡ 2 ^ level * 2 = pow-suc 2 level in
    let one : 1 ≤ 2 ^ level = pow_mono {i = 0} {j = level} (omega arith) in
    let more : size * 2 ^ suc level ≡ size * 2 * 2 ^ level = ap (λ (k : ℕ). size * k) twice ∙ regroup size (2 ^ level) in
    let least : size * 2 * 1 ≤ size * 2 * 2 ^ level = mul-le-mul_left (size * 2) one in
    let p : ℕ = offset + (size * 2 ^ suc level - size) in
    let past : size ≤ p = omega (arith, more, least) in
    let outside : nat_lt p size ≡ false = grind (arith, nat_tests, past) in
    let later : p - size ≡ offset + (size * 2 * 2 ^ level - size * 2) = omega (arith, more, least) in
    ap (λ (b : Bool). cond b (known_name s.1 p) (name_from (size * 2) rest (p - size))) outside ∙ ap (λ (q : ℕ). name_from (size * 2) rest q) later
    ∙ name_from-at rest (size * 2) level offset (omega arith) (omega (arith, more, within))

-- what is known stays
known_name-keeps : (old new : Option (List ℕ)) → ((names : List ℕ) → old ≡ Some names → new ≡ Some names) → (p n : ℕ) → known_name old p ≡ Some n → known_name new p ≡ Some n
known_name-keeps None new keeps p n h = absurd cc
known_name-keeps (Some names) new keeps p n h = ap (λ (o : Option (List ℕ)). known_name o p) (keeps names refl) ∙ h

cond-keeps : (b : Bool) (x y z w : Option ℕ) (n : ℕ) → (x ≡ Some n → z ≡ Some n) → (y ≡ Some n → w ≡ Some n) → cond b x y ≡ Some n → cond b z w ≡ Some n
cond-keeps true x y z w n first second h = first h
cond-keeps false x y z w n first second h = second h

pub name_from-keeps : (old new : List (ℕ × Option (List ℕ))) → Keeps old new → (size p n : ℕ) → name_from size old p ≡ Some n → name_from size new p ≡ Some n
name_from-keeps [] [] keeps size p n h = h
name_from-keeps [] (t ∷ new) keeps size p n h = elim keeps [ ]
name_from-keeps (s ∷ old) [] keeps size p n h = elim keeps [ ]
name_from-keeps (s ∷ old) (t ∷ new) keeps size p n h =
    cond-keeps (nat_lt p size) (known_name s.1 p) (name_from (size * 2) old (p - size)) (known_name t.1 p) (name_from (size * 2) new (p - size)) n
    (known_name-keeps s.1 t.1 keeps.0 p n) (name_from-keeps old new keeps.1 (size * 2) (p - size) n) h

-- two that know a segment name its cells alike
known_name-match : (one other : Option (List ℕ)) → ((x y : List ℕ) → one ≡ Some x → other ≡ Some y → x ≡ y) → (p m n : ℕ) → known_name one p ≡ Some m → known_name other p ≡ Some n → m ≡ n
known_name-match None other same p m n h k = absurd cc
known_name-match (Some x) None same p m n h k = absurd cc
known_name-match (Some x) (Some y) same p m n h k =
    let e : slice_get x p ≡ slice_get y p = ap (λ (xs : List ℕ). slice_get xs p) (same x y refl refl) in
    let f : Some m ≡ Some n = sym h ∙ e ∙ k in
    cc (f)

cond-match : (b : Bool) (x y z w : Option ℕ) (m n : ℕ) → (x ≡ Some m → z ≡ Some n → m ≡ n) → (y ≡ Some m → w ≡ Some n → m ≡ n) → cond b x y ≡ Some m → cond b z w ≡ Some n → m ≡ n
cond-match true x y z w m n first second h k = first h k
cond-match false x y z w m n first second h k = second h k

pub name_from-match : (one other : List (ℕ × Option (List ℕ))) → Match one other → (size p m n : ℕ) → name_from size one p ≡ Some m → name_from size other p ≡ Some n → m ≡ n
name_from-match [] [] same size p m n h k = absurd cc
name_from-match [] (t ∷ other) same size p m n h k = elim same [ ]
name_from-match (s ∷ one) [] same size p m n h k = elim same [ ]
name_from-match (s ∷ one) (t ∷ other) same size p m n h k =
    cond-match (nat_lt p size) (known_name s.1 p) (name_from (size * 2) one (p - size)) (known_name t.1 p) (name_from (size * 2) other (p - size)) m n
    (known_name-match s.1 t.1 same.0 p m n) (name_from-match one other same.1 (size * 2) (p - size) m n) h k

-- the cells of the first so many segments
pub cells_in-is : (k : ℕ) → cells_in k ≡ 1024 * (2 ^ k - 1)
cells_in-is zero = refl
cells_in-is (suc k) =
    let before = cells_in-is k in
    let twice : 2 ^ suc k ≡ 2 ^ k * 2 = pow-suc 2 k in
    let one : 1 ≤ 2 ^ k = pow_mono {i = 0} {j = k} (omega arith) in
    omega (arith, before, twice, one)
