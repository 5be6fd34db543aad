use Rattle.std.proofs.Common.{rules, arith, ◌≡◌, ◌≢◌, ◌⊎◌, inl, inr, ℕ, ◌+◌, ◌<◌, ◌≤◌, List, [], ◌∷◌, ◌++◌, length, get_or, set, refl, ap, sym, ◌∙◌, subst}
use Rattle.std.proofs.lemmas.List.{get_or_default}
use Rattle.pt_refine.specs.Halving.{IsLayout, CutsAt}
use Rattle.pt_refine.proofs.Layouts.{layout-count}
use Rattle.pt_refine.proofs.Cutting.{cut-layout, cut-cuts, changed-len, changed-last, changed-here, changed-others, sides-of, ends-within}
use Rattle.pt_refine.proofs.partition.Partition.cut.Goals as goal

-- what was read, at the default 0
read-is : (xs : List ℕ) (i x : ℕ) → i < length xs → x ≡ get_or xs i x → get_or xs i 0 ≡ x
read-is xs i x lt is = get_or_default xs i 0 x lt ∙ sym is

pub overflow_cast-number : goal.overflow_cast-number
overflow_cast-number c =
    let some = layout-count c.requires.partition.layout in
    let few = c.requires.partition.few in
    let len = c.args.self.now.starts.ok.0 in
    let is = c.len-number.ensures in
    omega arith

pub renumber-requires-clause-high : goal.renumber-requires-clause-high
renumber-requires-clause-high c =
    let p = c.args.self.now in
    let k = c.args.class in
    let old = c.requires.partition in
    let lay = old.layout in
    let n = length p.class.items in
    let count = length p.starts.items in
    let k_in = c.requires.class in
    let ends_in : k < length p.ends.items = omega (arith, old.ends_len) in
    let marked_in : k < length p.marked.items = omega (arith, old.marked_len) in
    let s_is : get_or p.starts.items k 0 ≡ c.index.result.now = read-is p.starts.items k c.index.result.now k_in c.index.ensures in
    let m_is : get_or p.marked.items k 0 ≡ c.index-2.result.now = read-is p.marked.items k c.index-2.result.now marked_in c.index-2.ensures in
    let e_is : get_or p.ends.items k 0 ≡ c.index-3.result.now = read-is p.ends.items k c.index-3.result.now ends_in c.index-3.ensures in
    let sides = sides-of c.index.result.now c.index-2.result.now c.index-3.result.now (get_or p.starts.items k 0) (get_or p.marked.items k 0) (get_or p.ends.items k 0) c.smaller_first.result.0 c.smaller_first.result.1 s_is m_is e_is c.smaller_first.ensures in
    let top = ends-within lay k k_in in
    let marks = lay.marks k k_in in
    let high : c.smaller_first.result.0.1 ≤ n = let m_high = marks.1 in elim sides [ inl first ↦ let e = first.1 in omega arith | inr second ↦ let e = second.1 in omega arith ] in
    rw c.deref.ensures.value (omega (arith, old.order_len))

pub returns-clause-partition : goal.returns-clause-partition
returns-clause-partition c =
    let p = c.args.self.now in
    let k = c.args.class in
    let old = c.requires.partition in
    let lay = old.layout in
    let n = length p.class.items in
    let count = length p.starts.items in
    let k_in = c.requires.class in
    let ends_in : k < length p.ends.items = omega (arith, old.ends_len) in
    let marked_in : k < length p.marked.items = omega (arith, old.marked_len) in
    let s_is : get_or p.starts.items k 0 ≡ c.index.result.now = read-is p.starts.items k c.index.result.now k_in c.index.ensures in
    let m_is : get_or p.marked.items k 0 ≡ c.index-2.result.now = read-is p.marked.items k c.index-2.result.now marked_in c.index-2.ensures in
    let e_is : get_or p.ends.items k 0 ≡ c.index-3.result.now = read-is p.ends.items k c.index-3.result.now ends_in c.index-3.ensures in
    let sides = sides-of c.index.result.now c.index-2.result.now c.index-3.result.now (get_or p.starts.items k 0) (get_or p.marked.items k 0) (get_or p.ends.items k 0) c.smaller_first.result.0 c.smaller_first.result.1 s_is m_is e_is c.smaller_first.ensures in
    let top = ends-within lay k k_in in
    let marks = lay.marks k k_in in
    let high : c.smaller_first.result.0.1 ≤ n = let m_high = marks.1 in elim sides [ inl first ↦ let e = first.1 in omega arith | inr second ↦ let e = second.1 in omega arith ] in
    let start_ne = c.if-front-start.false in
    let end_ne = c.if-front-end.false in
    let some : get_or p.starts.items k 0 < get_or p.marked.items k 0 = let low = marks.0 in omega arith in
    let more : get_or p.marked.items k 0 < get_or p.ends.items k 0 = let m_high = marks.1 in omega arith in
    let number_is : c.len-number.result ≡ count = let len = p.starts.ok.0 in let is = c.len-number.ensures in omega arith in
    let order_at : (i : ℕ) → get_or c.deref.result.now i 0 ≡ get_or p.order.items i 0 = λ i. ap (λ (xs : List ℕ). get_or xs i 0) c.deref.ensures.value in
    let class' = c.renumber.new.class.items in
    let moved : (q : ℕ) → q < n → c.smaller_first.result.0.0 ≤ get_or p.place.items q 0 → get_or p.place.items q 0 < c.smaller_first.result.0.1 → get_or class' q 0 ≡ count =
    λ q q_in low lt. subst (λ (x : ℕ). get_or class' x 0 ≡ count) (order_at (get_or p.place.items q 0) ∙ lay.there q q_in) (c.renumber.ensures.moved (get_or p.place.items q 0) low lt ∙ number_is) in
    let stays : (q : ℕ) → q < n → (get_or p.place.items q 0 < c.smaller_first.result.0.0) ⊎ (c.smaller_first.result.0.1 ≤ get_or p.place.items q 0) → get_or class' q 0 ≡ get_or p.class.items q 0 =
    λ q q_in out. c.renumber.ensures.stays q (λ i low lt e.
    let back = lay.back i (omega arith) in
    let place_is : get_or p.place.items (get_or p.order.items i 0) 0 ≡ get_or p.place.items q 0 = ap (λ (x : ℕ). get_or p.place.items x 0) (sym (order_at i) ∙ e) in
    elim out [ inl below ↦ omega arith | inr past ↦ omega arith ]) in
    let s0 = c.push.new.self.items in
    let e0 = c.push-2.new.self.items in
    let m0 = c.push-3.new.self.items in
    let a = c.smaller_first.result.0.0 in
    let b = c.smaller_first.result.0.1 in
    let r = c.smaller_first.result.1.0 in
    let t = c.smaller_first.result.1.1 in
    let size = c.renumber.ensures.len in
    let few = old.few in
    let order_len = old.order_len in
    let place_len = old.place_len in
    let starts_len = changed-len p.starts.items s0 a k r count refl c.in_ok-push.ensures.items k_in in
    let ends_len = changed-len p.ends.items e0 b k t count old.ends_len c.in_ok-push-2.ensures.items k_in in
    let marked_len = changed-len p.marked.items m0 a k r count old.marked_len c.in_ok-push-3.ensures.items k_in in
    let made = cut-layout lay k k_in a b r t sides some more (λ q. get_or class' q 0) (λ d. get_or (set s0 k r) d 0) (λ d. get_or (set e0 k t) d 0) (λ d. get_or (set m0 k r) d 0) moved stays
    (changed-last p.starts.items s0 a k r count refl c.in_ok-push.ensures.items k_in) (changed-last p.ends.items e0 b k t count old.ends_len c.in_ok-push-2.ensures.items k_in) (changed-last p.marked.items m0 a k r count old.marked_len c.in_ok-push-3.ensures.items k_in)
    (changed-here p.starts.items s0 a k r count refl c.in_ok-push.ensures.items k_in) (changed-here p.ends.items e0 b k t count old.ends_len c.in_ok-push-2.ensures.items k_in) (changed-here p.marked.items m0 a k r count old.marked_len c.in_ok-push-3.ensures.items k_in)
    (changed-others p.starts.items s0 a k r count refl c.in_ok-push.ensures.items k_in) (changed-others p.ends.items e0 b k t count old.ends_len c.in_ok-push-2.ensures.items k_in) (changed-others p.marked.items m0 a k r count old.marked_len c.in_ok-push-3.ensures.items k_in) in
    let Shape : ℕ → ℕ → Type 0 = λ x y. IsLayout x y (λ i. get_or p.order.items i 0) (λ q. get_or p.place.items q 0) (λ q. get_or class' q 0) (λ d. get_or (set s0 k r) d 0) (λ d. get_or (set e0 k t) d 0) (λ d. get_or (set m0 k r) d 0) in
    record {
      few = omega arith;
      order_len = omega arith;
      place_len = omega arith;
      ends_len = omega arith;
      marked_len = omega arith;
      layout = subst (λ (x : ℕ). Shape x (length (set s0 k r))) (sym size) (subst (λ (y : ℕ). Shape n y) (sym starts_len) made);
    }

pub returns-clause-cuts : goal.returns-clause-cuts
returns-clause-cuts c =
    let p = c.args.self.now in
    let k = c.args.class in
    let old = c.requires.partition in
    let lay = old.layout in
    let n = length p.class.items in
    let count = length p.starts.items in
    let k_in = c.requires.class in
    let ends_in : k < length p.ends.items = omega (arith, old.ends_len) in
    let marked_in : k < length p.marked.items = omega (arith, old.marked_len) in
    let s_is : get_or p.starts.items k 0 ≡ c.index.result.now = read-is p.starts.items k c.index.result.now k_in c.index.ensures in
    let m_is : get_or p.marked.items k 0 ≡ c.index-2.result.now = read-is p.marked.items k c.index-2.result.now marked_in c.index-2.ensures in
    let e_is : get_or p.ends.items k 0 ≡ c.index-3.result.now = read-is p.ends.items k c.index-3.result.now ends_in c.index-3.ensures in
    let sides = sides-of c.index.result.now c.index-2.result.now c.index-3.result.now (get_or p.starts.items k 0) (get_or p.marked.items k 0) (get_or p.ends.items k 0) c.smaller_first.result.0 c.smaller_first.result.1 s_is m_is e_is c.smaller_first.ensures in
    let top = ends-within lay k k_in in
    let marks = lay.marks k k_in in
    let high : c.smaller_first.result.0.1 ≤ n = let m_high = marks.1 in elim sides [ inl first ↦ let e = first.1 in omega arith | inr second ↦ let e = second.1 in omega arith ] in
    let start_ne = c.if-front-start.false in
    let end_ne = c.if-front-end.false in
    let some : get_or p.starts.items k 0 < get_or p.marked.items k 0 = let low = marks.0 in omega arith in
    let more : get_or p.marked.items k 0 < get_or p.ends.items k 0 = let m_high = marks.1 in omega arith in
    let number_is : c.len-number.result ≡ count = let len = p.starts.ok.0 in let is = c.len-number.ensures in omega arith in
    let order_at : (i : ℕ) → get_or c.deref.result.now i 0 ≡ get_or p.order.items i 0 = λ i. ap (λ (xs : List ℕ). get_or xs i 0) c.deref.ensures.value in
    let class' = c.renumber.new.class.items in
    let moved : (q : ℕ) → q < n → c.smaller_first.result.0.0 ≤ get_or p.place.items q 0 → get_or p.place.items q 0 < c.smaller_first.result.0.1 → get_or class' q 0 ≡ count =
    λ q q_in low lt. subst (λ (x : ℕ). get_or class' x 0 ≡ count) (order_at (get_or p.place.items q 0) ∙ lay.there q q_in) (c.renumber.ensures.moved (get_or p.place.items q 0) low lt ∙ number_is) in
    let stays : (q : ℕ) → q < n → (get_or p.place.items q 0 < c.smaller_first.result.0.0) ⊎ (c.smaller_first.result.0.1 ≤ get_or p.place.items q 0) → get_or class' q 0 ≡ get_or p.class.items q 0 =
    λ q q_in out. c.renumber.ensures.stays q (λ i low lt e.
    let back = lay.back i (omega arith) in
    let place_is : get_or p.place.items (get_or p.order.items i 0) 0 ≡ get_or p.place.items q 0 = ap (λ (x : ℕ). get_or p.place.items x 0) (sym (order_at i) ∙ e) in
    elim out [ inl below ↦ omega arith | inr past ↦ omega arith ]) in
    let s0 = c.push.new.self.items in
    let e0 = c.push-2.new.self.items in
    let m0 = c.push-3.new.self.items in
    let a = c.smaller_first.result.0.0 in
    let b = c.smaller_first.result.0.1 in
    let r = c.smaller_first.result.1.0 in
    let t = c.smaller_first.result.1.1 in
    let starts_len = changed-len p.starts.items s0 a k r count refl c.in_ok-push.ensures.items k_in in
    record {
      size = c.renumber.ensures.len;
      grows = omega arith;
      cuts = cut-cuts lay k k_in a b r t sides some more (λ q. get_or class' q 0) (λ d. get_or (set s0 k r) d 0) (λ d. get_or (set e0 k t) d 0) (λ d. get_or (set m0 k r) d 0) moved stays
          (changed-last p.starts.items s0 a k r count refl c.in_ok-push.ensures.items k_in) (changed-last p.ends.items e0 b k t count old.ends_len c.in_ok-push-2.ensures.items k_in) (changed-last p.marked.items m0 a k r count old.marked_len c.in_ok-push-3.ensures.items k_in)
          (changed-here p.starts.items s0 a k r count refl c.in_ok-push.ensures.items k_in) (changed-here p.ends.items e0 b k t count old.ends_len c.in_ok-push-2.ensures.items k_in) (changed-here p.marked.items m0 a k r count old.marked_len c.in_ok-push-3.ensures.items k_in)
          (changed-others p.starts.items s0 a k r count refl c.in_ok-push.ensures.items k_in) (changed-others p.ends.items e0 b k t count old.ends_len c.in_ok-push-2.ensures.items k_in) (changed-others p.marked.items m0 a k r count old.marked_len c.in_ok-push-3.ensures.items k_in);
    }
