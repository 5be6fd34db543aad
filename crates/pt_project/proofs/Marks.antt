-- Marks of states from which two letters lead to an output, and the search over reverse edges that finds them.
use Rattle.std.proofs.Common.{◌≡◌, ◌⊎◌, ◌↔◌, inl, inr, ℕ, ◌+◌, ◌<◌, Bool, true, false, not, List, [], ◌∷◌, ◌++◌, length, set, get_or, refl, ap, sym, ◌∙◌, subst, arith, length-append, get_or-set_other, get_or-set_same}
use Rattle.std.specs.Prelude.{cond}
use Rattle.std.specs.Global.{Vec}
use Rattle.std.specs.List.{count_by}
use Rattle.std.proofs.lemmas.Bool.{cases_eq}
use Rattle.std.proofs.lemmas.List.{length-set}
use Rattle.std.proofs.lemmas.List.Sums.{sum_by-set}
use Rattle.pt_base.specs.Elements.{ContainsByRecursion}
use Rattle.pt_sets.specs.Automata.{Automaton, next_of}
use Rattle.pt_project.specs.Closing.{Leads, Leads.shows, Leads.further, HasOutput, IsMarked, MarksMore, AreSources, row_of}
use Rattle.pt_project.proofs.Orders.{in-append-last}
use Rattle.pt_project.proofs.Rows.{in-append-left, in-append-end}

-- no state is marked
pub marks-same : (marks : List Bool) (open_ : List ℕ) → MarksMore [] marks marks open_ open_
marks-same marks open_ = record {
  count = refl;
  stays = λ x h. h;
  marked = λ x inside. elim inside [ ];
  only = λ x h. inl h;
  opened = λ x h. inl h;
  kept = λ x h. h;
  within = λ x h. inl h;
  work = refl;
}

-- a state that is marked
pub marks-again : (marks : List Bool) (open_ : List ℕ) (i : ℕ) → IsMarked marks i → MarksMore (i ∷ []) marks marks open_ open_
marks-again marks open_ i is = record {
  count = refl;
  stays = λ x h. h;
  marked = λ x inside. elim inside [ inl same ↦ subst (IsMarked marks) (sym same) is | inr none ↦ elim none [ ] ];
  only = λ x h. inl h;
  opened = λ x h. inl h;
  kept = λ x h. h;
  within = λ x h. inl h;
  work = refl;
}

-- a state that is not
module _ (marks : List Bool) (open_ : List ℕ) (i : ℕ) (inside : i < length marks) (unmarked : get_or marks i false ≡ false) where
  kept-mark : (x : ℕ) → IsMarked marks x → IsMarked (set marks i true) x
  kept-mark x h =
      elim (cases_eq x i) [
        | inl same ↦ ap (λ (j : ℕ). get_or (set marks i true) j false) same ∙ get_or-set_same marks i true false inside
        | inr other ↦ get_or-set_other marks i x true false other ∙ h
      ]

  new-mark : (x : ℕ) → IsMarked (set marks i true) x → IsMarked marks x ⊎ (x ≡ i)
  new-mark x h =
      elim (cases_eq x i) [
        | inl same ↦ inr same
        | inr other ↦ inl (sym (get_or-set_other marks i x true false other) ∙ h)
      ]

  less-work : count_by not (set marks i true) + 1 ≡ count_by not marks
  less-work =
      let f : Bool → ℕ = λ b. cond (not b) 1 0 in
      let sums = sum_by-set f marks i true false inside in
      let one : f (get_or marks i false) ≡ 1 = ap f unmarked in
      omega (arith, sums, one)

  pub marks-new : MarksMore (i ∷ []) marks (set marks i true) open_ (open_ ++ i ∷ [])
  marks-new = record {
    count = length-set marks i true;
    stays = kept-mark;
    marked = λ x at. elim at [ inl same ↦ subst (IsMarked (set marks i true)) (sym same) (get_or-set_same marks i true false inside) | inr none ↦ elim none [ ] ];
    only = λ x h. elim (new-mark x h) [ inl before ↦ inl before | inr same ↦ inr (inl same) ];
    opened = λ x h. elim (new-mark x h) [ inl before ↦ inl before | inr same ↦ inr (subst (λ (y : ℕ). ContainsByRecursion y (open_ ++ i ∷ [])) (sym same) (in-append-end i open_)) ];
    kept = λ x h. in-append-left x open_ (i ∷ []) h;
    within = λ x h. elim (in-append-last x i open_ h) [ inl before ↦ inl before | inr same ↦ inr (inl same) ];
    work = (let longer = length-append open_ (i ∷ []) in let less = less-work in omega (arith, longer, less));
  }

-- one more state
pub marks-step : (F : List ℕ) (i : ℕ) (old mid new : List Bool) (first second third : List ℕ) → MarksMore F old mid first second → MarksMore (i ∷ []) mid new second third → MarksMore (F ++ i ∷ []) old new first third
marks-step F i old mid new first second third some one = record {
  count = one.count ∙ some.count;
  stays = λ x h. one.stays x (some.stays x h);
  marked = λ x inside.
      elim (in-append-last x i F inside) [
        | inl earlier ↦ one.stays x (some.marked x earlier)
        | inr same ↦ one.marked x (inl same)
      ];
  only = λ x h.
      elim (one.only x h) [
        | inl before ↦ elim (some.only x before) [ inl old_mark ↦ inl old_mark | inr in_f ↦ inr (in-append-left x F (i ∷ []) in_f) ]
        | inr here ↦ inr (last-in x here)
      ];
  opened = λ x h.
      elim (one.opened x h) [
        | inl before ↦ elim (some.opened x before) [ inl old_mark ↦ inl old_mark | inr in_open ↦ inr (one.kept x in_open) ]
        | inr in_open ↦ inr in_open
      ];
  kept = λ x h. one.kept x (some.kept x h);
  within = λ x h.
      elim (one.within x h) [
        | inl before ↦ elim (some.within x before) [ inl at_first ↦ inl at_first | inr in_f ↦ inr (in-append-left x F (i ∷ []) in_f) ]
        | inr here ↦ inr (last-in x here)
      ];
  work = one.work ∙ some.work;
}
  where
    last-in : (x : ℕ) → ContainsByRecursion x (i ∷ []) → ContainsByRecursion x (F ++ i ∷ [])
    last-in x (inl same) = subst (λ (y : ℕ). ContainsByRecursion y (F ++ i ∷ [])) (sym same) (in-append-end i F)
    last-in x (inr none) = elim none [ ]

-- a search under way: the marked states lead to an output, and those with an edge to a marked one are marked, or it is open
pub record IsClosing (a : Automaton) (l m : ℕ) (marks : List Bool) (open_ : List ℕ) : Type 0 where
  pub count : length marks ≡ a.states
  pub outputs : (x : ℕ) → x < a.states → HasOutput a l m x → IsMarked marks x
  pub sound : (x : ℕ) → x < a.states → IsMarked marks x → Leads a l m x
  pub within : (y : ℕ) → ContainsByRecursion y open_ → (y < a.states) × IsMarked marks y
  pub closed : (x y : ℕ) → x < a.states → (next_of a x l ≡ y) ⊎ (next_of a x m ≡ y) → IsMarked marks y → IsMarked marks x ⊎ ContainsByRecursion y open_

-- the marked states are those with an output, and all are open
pub closing-starts : (a : Automaton) (l m : ℕ) (marks : List Bool) (open_ : List ℕ) → length marks ≡ a.states → ((x : ℕ) → x < a.states → IsMarked marks x ↔ HasOutput a l m x) →
    ((x : ℕ) → IsMarked marks x → ContainsByRecursion x open_) → ((x : ℕ) → ContainsByRecursion x open_ → (x < length marks) × IsMarked marks x) → IsClosing a l m marks open_
closing-starts a l m marks open_ count shown all within = record {
  count = count;
  outputs = λ x inside h. (shown x inside).1 h;
  sound = λ x inside h. shows x ((shown x inside).0 h);
  within = λ y h. let at = within y h in (subst (λ (n : ℕ). y < n) count at.0, at.1);
  closed = λ x y inside edge h. inr (all y h);
}

-- the sources of a state that was open are marked
pub closing-steps : (a : Automaton) (l m y : ℕ) (lists : List (Vec ℕ)) (list : List ℕ) (old new : List Bool) (before rest after : List ℕ) → AreSources a l m a.states lists → list ≡ row_of lists y → before ≡ rest ++ y ∷ [] →
    IsClosing a l m old before → MarksMore list old new rest after → IsClosing a l m new after
closing-steps a l m y lists list old new before rest after are is open_is search more =
    let at_y = search.within y (subst (ContainsByRecursion y) (sym open_is) (in-append-end y rest)) in
    let edge_of : (x : ℕ) → ContainsByRecursion x list → (x < a.states) × ((next_of a x l ≡ y) ⊎ (next_of a x m ≡ y)) = λ x inside. are.sound y x (subst (ContainsByRecursion x) is inside) in
    let leads : (x : ℕ) → ContainsByRecursion x list → Leads a l m x = λ x inside. (let edge = edge_of x inside in further x y edge.1 (search.sound y at_y.0 at_y.1)) in
    record {
      count = more.count ∙ search.count;
      outputs = λ x inside h. more.stays x (search.outputs x inside h);
      sound = λ x inside h. elim (more.only x h) [ inl earlier ↦ search.sound x inside earlier | inr in_list ↦ leads x in_list ];
      within = λ z h.
          elim (more.within z h) [
            | inl in_rest ↦ let at = search.within z (subst (ContainsByRecursion z) (sym open_is) (in-append-left z rest (y ∷ []) in_rest)) in (at.0, more.stays z at.1)
            | inr in_list ↦ ((edge_of z in_list).0, more.marked z in_list)
          ];
      closed = λ x z inside edge h. elim (more.opened z h) [ inl earlier ↦ from-earlier x z inside edge (search.closed x z inside edge earlier) | inr open_z ↦ inr open_z ];
    }
  where
    source : (x : ℕ) → x < a.states → (next_of a x l ≡ y) ⊎ (next_of a x m ≡ y) → ContainsByRecursion x list
    source x inside (inl to) = subst (ContainsByRecursion x) (sym is) (subst (λ (i : ℕ). ContainsByRecursion x (row_of lists i)) to (are.complete x inside).0)
    source x inside (inr to) = subst (ContainsByRecursion x) (sym is) (subst (λ (i : ℕ). ContainsByRecursion x (row_of lists i)) to (are.complete x inside).1)

    from-earlier : (x z : ℕ) → x < a.states → (next_of a x l ≡ z) ⊎ (next_of a x m ≡ z) → IsMarked old x ⊎ ContainsByRecursion z before → IsMarked new x ⊎ ContainsByRecursion z after
    from-earlier x z inside edge (inl marked) = inl (more.stays x marked)
    from-earlier x z inside edge (inr in_open) =
        elim (in-append-last z y rest (subst (ContainsByRecursion z) open_is in_open)) [
          | inl in_rest ↦ inr (more.kept z in_rest)
          | inr same ↦ inl (more.marked x (source x inside (subst (λ (i : ℕ). (next_of a x l ≡ i) ⊎ (next_of a x m ≡ i)) same edge)))
        ]

-- where no state is open, the marked states are those that lead to an output
module _ (a : Automaton) (l m : ℕ) (marks : List Bool) (search : IsClosing a l m marks []) (closed : (x : ℕ) → x < a.states → (next_of a x l < a.states) × (next_of a x m < a.states)) where
  complete : (x : ℕ) → x < a.states → Leads a l m x → IsMarked marks x
  complete z inside (shows x h) = search.outputs x inside h
  complete z inside (further x y (inl is) leads) =
      elim (search.closed x y inside (inl is) (complete y (subst (λ (r : ℕ). r < a.states) is (closed x inside).0) leads)) [ inl marked ↦ marked | inr none ↦ elim none [ ] ]
  complete z inside (further x y (inr is) leads) =
      elim (search.closed x y inside (inr is) (complete y (subst (λ (r : ℕ). r < a.states) is (closed x inside).1) leads)) [ inl marked ↦ marked | inr none ↦ elim none [ ] ]

  pub closing-ends : (x : ℕ) → x < a.states → IsMarked marks x ↔ Leads a l m x
  closing-ends x inside = (search.sound x inside, complete x inside)

-- the states below n that are marked were found
pub record FoundMarked (marks : List Bool) (n : ℕ) (states : List ℕ) : Type 0 where
  pub all : (x : ℕ) → x < n → IsMarked marks x → ContainsByRecursion x states
  pub within : (x : ℕ) → ContainsByRecursion x states → (x < n) × IsMarked marks x

pub found-one : (marks : List Bool) (n : ℕ) (old new : List ℕ) → new ≡ old ++ n ∷ [] → IsMarked marks n → FoundMarked marks n old → FoundMarked marks (n + 1) new
found-one marks n old new is marked found = record {
  all = λ x below h.
      subst (ContainsByRecursion x) (sym is)
      (elim (cases_eq x n) [
        | inl same ↦ subst (λ (y : ℕ). ContainsByRecursion y (old ++ n ∷ [])) (sym same) (in-append-end n old)
        | inr other ↦ in-append-left x old (n ∷ []) (found.all x (omega (arith, other)) h)
      ]);
  within = λ x inside.
      elim (in-append-last x n old (subst (ContainsByRecursion x) is inside)) [
        | inl before ↦ let at = found.within x before in (omega (arith, at.0), at.1)
        | inr same ↦ (omega arith, subst (IsMarked marks) (sym same) marked)
      ];
}

pub found-none : (marks : List Bool) (n : ℕ) (states : List ℕ) → get_or marks n false ≡ false → FoundMarked marks n states → FoundMarked marks (n + 1) states
found-none marks n states unmarked found = record {
  all = λ x below h.
      elim (cases_eq x n) [
        | inl same ↦ absurd (let marked : IsMarked marks n = subst (IsMarked marks) same h in (cc (marked, unmarked)))
        | inr other ↦ found.all x (omega (arith, other)) h
      ];
  within = λ x inside. let at = found.within x inside in (omega (arith, at.0), at.1);
}
