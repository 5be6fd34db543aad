-- One turn of the search: a parameter that is added, or one too many.
use Rattle.std.proofs.Common.{ℕ, ◌+◌, ◌^◌, ◌<◌, ◌≤◌, ◌≡◌, inl, inr, List, [], ◌∷◌, ◌++◌, length, map, get_or, ap, sym, ◌∙◌, refl, subst, arith, append-nil}
use Rattle.std.specs.Prelude.{ℤ, pos, ◌-ℤ◌, ◌*◌, unsigned_abs}
use Rattle.std.proofs.lemmas.List.{length-map, length-append}
use Rattle.pt_sets.specs.Words.{IsLetter}
use Rattle.pt_atoms.proofs.ParameterForms.{form_at-injective, has_modulus, own_form, residual_form_at}
use Rattle.pt_atoms.proofs.Forms.{form_after_is}
use Rattle.pt_atoms.proofs.Reached.{IsReachedForm, reached_push, reached_next, search_above}
use Rattle.pt_atoms.specs.Numbers.{IsConstant}
use Rattle.pt_atoms.specs.Atoms.{IsNormal, HasModulus, sum_at}
use Rattle.pt_atoms.specs.Parameters.{coefficients_at, form_at, next_parameter, parameter_of, parameter_after}
use Rattle.pt_atoms.specs.Tables.{AreReached, IsCause}
use Rattle.pt_atoms.specs.Searches.{HasNot, IsAdded, IsFull, Grows, IsReachedParameter, AreSums}
use Rattle.pt_atoms.specs.declared.Normal.{Normal}
use Rattle.pt_atoms.specs.declared.parameter.Parameter.{Parameter}
use Rattle.pt_atoms.specs.declared.fault.AtomFault.{AtomFault}
use Rattle.pt_atoms.specs.declared.fault.AtomFault.TheVariants.{States, NoMemory}

has_not_form : (n : Normal) (p : Parameter) (ps : List Parameter) → HasNot p ps → HasNot (form_at n.coefficients p) (map (form_at n.coefficients) ps)
has_not_form n p [] h = tt
has_not_form n p (q ∷ ps) h = (λ e. h.0 (form_at-injective n.coefficients q p e), has_not_form n p ps h.1)

map_push : {X Y : Type 0} (f : X → Y) (xs : List X) (y : X) → map f (xs ++ y ∷ []) ≡ map f xs ++ f y ∷ []
map_push f [] y = refl
map_push f (x ∷ xs) y = ap (λ ys. f x ∷ ys) (map_push f xs y)

reached_form : (n : Normal) (p : Parameter) → IsReachedParameter n p → IsReachedForm n (form_at n.coefficients p)
reached_form n p r = record { word = r.word; letters = r.letters; form = r.form }

-- the form of a parameter that is reached is normal, and its constant and modulus are in range
pub parameter_normal : (n : Normal) (p : Parameter) → IsNormal n → IsReachedParameter n p → IsNormal (form_at n.coefficients p)
parameter_normal n p h r = subst (λ (m : Normal). IsNormal m) (sym r.form) (form_after_is n r.word h).normal

pub parameter_tracks : (n : Normal) (p : Parameter) → IsNormal n → IsReachedParameter n p → length (coefficients_at p.kind n.coefficients) ≡ length n.coefficients
parameter_tracks n p h r = ap (λ m. length m.coefficients) r.form ∙ (form_after_is n r.word h).size

pub parameter_modulus : (n : Normal) (p : Parameter) → IsNormal n → IsReachedParameter n p → HasModulus p.kind
parameter_modulus n p h r = let m = parameter_normal n p h r in has_modulus p.kind (coefficients_at p.kind n.coefficients) p.constant m.reduced

pub parameter_constant : (n : Normal) (p : Parameter) → IsNormal n → IsReachedParameter n p → IsConstant p.constant
parameter_constant n p h r = (parameter_normal n p h r).constant

-- the parameter of the form itself is reached, and the one after a letter
pub parameter_start : (n : Normal) → IsNormal n → IsReachedParameter n (parameter_of n)
parameter_start n h = record { word = []; letters = tt; form = own_form n h }

pub parameter_next : (n : Normal) (p : Parameter) (d : ℕ) → IsNormal n → IsReachedParameter n p → IsLetter (length n.coefficients) d → IsReachedParameter n (parameter_after n.coefficients p d)
parameter_next n p d h r l =
    let next = reached_next n (form_at n.coefficients p) d (reached_form n p r) l in
    record { word = next.word; letters = next.letters; form = sym (residual_form_at n.coefficients p d (parameter_modulus n p h r)) ∙ next.form }

-- what an added parameter leaves
pub added_grows : (p : Parameter) (old new : List Parameter) (i : ℕ) → IsAdded p old new i → Grows old new
added_grows p old new i (e, inl f) = ([], f ∙ sym (append-nil old))
added_grows p old new i (e, inr f) = (p ∷ [], f.0)

push_reached : (n : Normal) (p : Parameter) (old : List Parameter) → AreReached n (map (form_at n.coefficients) old) → IsReachedParameter n p → HasNot p old → AreReached n (map (form_at n.coefficients) (old ++ p ∷ []))
push_reached n p old r k h =
    subst (λ (fs : List Normal). AreReached n fs) (sym (map_push (form_at n.coefficients) old p))
    (reached_push n (form_at n.coefficients p) (map (form_at n.coefficients) old) k.word r k.letters k.form (has_not_form n p old h))

pub added_reached : (n : Normal) (p : Parameter) (old new : List Parameter) (i : ℕ) → AreReached n (map (form_at n.coefficients) old) → IsReachedParameter n p → IsAdded p old new i → AreReached n (map (form_at n.coefficients) new)
added_reached n p old new i r k (e, inl f) = subst (λ (ps : List Parameter). AreReached n (map (form_at n.coefficients) ps)) (sym f) r
added_reached n p old new i r k (e, inr f) = subst (λ (ps : List Parameter). AreReached n (map (form_at n.coefficients) ps)) (sym f.0) (push_reached n p old r k f.1)

-- a full list without the parameter: more residuals than the bound
pub full_cause : (n : Normal) (p : Parameter) (ps : List Parameter) (B : ℕ) (e : AtomFault) → IsNormal n → AreReached n (map (form_at n.coefficients) ps) → IsReachedParameter n p → IsFull p ps B e → IsCause n B e
full_cause n p ps B (States b) h r k f = (
  f.0,
  search_above n (map (form_at n.coefficients) (ps ++ p ∷ [])) B h (push_reached n p ps r k f.2)
      (length-map (ps ++ p ∷ []) (form_at n.coefficients) ∙ length-append ps (p ∷ []) ∙ ap (λ x. x + 1) f.1),
)
full_cause n p ps B NoMemory h r k f = tt

-- the step by the constant less a letter's sum gives the parameter after the letter
pub step_is : (n : Normal) (p v : Parameter) (sums : List ℤ) (d : ℕ) (r : ℤ) → IsNormal n → IsReachedParameter n p → AreSums (coefficients_at p.kind n.coefficients) sums → IsLetter (length n.coefficients) d →
    v ≡ next_parameter p.kind r → ((s : ℤ) → get_or sums d (pos 0) ≡ s → unsigned_abs (get_or sums d (pos 0)) ≤ 10 * 2 ^ 63 → unsigned_abs p.constant ≤ 2 ^ 67 → r ≡ p.constant -ℤ s) → v ≡ parameter_after n.coefficients p d
step_is n p v sums d r h k s l e f =
    let tracks = parameter_tracks n p h k in
    let size = s.count ∙ ap (λ t. 2 ^ t) tracks in
    let inside : d < length sums = omega (arith, size, l) in
    e ∙ ap (next_parameter p.kind) (f (sum_at (coefficients_at p.kind n.coefficients) d) (s.values d inside) (s.small d inside) (parameter_constant n p h k))
