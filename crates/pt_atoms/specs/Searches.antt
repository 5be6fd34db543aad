-- Lists of parameters that grow in a search, with the edges and outputs of the states that are done.
use Rattle.std.specs.Prelude.{ℕ, ◌+◌, ◌*◌, ◌^◌, ◌<◌, ◌≤◌, ◌≡◌, ◌⊎◌, ◌↔◌, List, [], ◌∷◌, ◌++◌, length, map, Bool, false, IsTrue, ℤ, pos, neg_ℤ, Some, slice_get, slice_index, slice_index_or, unsigned_abs}
use Rattle.std.specs.List.{AllByRecursion}
use Rattle.pt_sets.specs.Words.{IsLetter, AreLetters, sign_vector}
use Rattle.pt_atoms.specs.Atoms.{NormalSet, Meets, sum_at, form_after}
use Rattle.pt_atoms.specs.Parameters.{form_at, parameter_of, parameter_after}
use Rattle.pt_atoms.specs.Tables.{AreReached}
use Rattle.pt_atoms.specs.declared.Normal.{Normal}
use Rattle.pt_atoms.specs.declared.parameter.Parameter.{Parameter}
use Rattle.pt_atoms.specs.declared.fault.AtomFault.{AtomFault}
use Rattle.pt_atoms.specs.declared.fault.AtomFault.TheVariants.{States, NoMemory}

-- no item of the list is this one
abbrev pub HasNot : {X : Type 0} → X → List X → Type 0
HasNot x xs = AllByRecursion (λ y. ¬ (y ≡ x)) xs

-- the item stands at i in the new list, which is the old one, or the old one with the item that it had not
abbrev pub IsAdded : {X : Type 0} → X → List X → List X → ℕ → Type 0
IsAdded x old new i = (slice_get new i ≡ Some x) × ((new ≡ old) ⊎ ((new ≡ old ++ x ∷ []) × HasNot x old))

-- the list is full and has not the item; or memory is wanting
abbrev pub IsFull : {X : Type 0} → X → List X → ℕ → AtomFault → Type 0
IsFull x xs B (States b) = (b ≡ B) × (length xs ≡ B) × HasNot x xs
IsFull x xs B NoMemory = Unit {0}

-- the new list is the old one with more at its end
abbrev pub Grows : {X : Type 0} → List X → List X → Type 0
Grows {X} old new = (more : List X) × (new ≡ old ++ more)

-- the sums of the coefficients at the digits of all letters
pub record AreSums (cs sums : List ℤ) : Type 0 where
  pub count : length sums ≡ 2 ^ length cs
  pub values : (d : ℕ) → d < length sums → slice_index_or sums d (pos 0) ≡ sum_at cs d
  pub small : (d : ℕ) → d < length sums → unsigned_abs (slice_index_or sums d (pos 0)) ≤ 10 * 2 ^ 63

-- the outputs of a state with the parameter p behind those of earlier states: of its first k signs, whose vectors have the sums with the sign turned
pub record IsRowOfOutputs (p : Parameter) (sums : List ℤ) (old new : List Bool) (k : ℕ) : Type 0 where
  pub count : length new ≡ length old + k
  pub kept : (i : ℕ) → i < length old → slice_index_or new i false ≡ slice_index_or old i false
  pub says : (s : ℕ) → s < k → IsTrue (slice_index_or new (length old + s) false) ↔ Meets p.kind (neg_ℤ (slice_index_or sums s (pos 0))) p.constant

-- the edges of a state with the parameter p behind those of earlier states: of its first k letters, to places in a list that has grown
pub record IsRowOfEdges (n : Normal) (p : Parameter) (ps qs : List Parameter) (old new : List ℕ) (k : ℕ) : Type 0 where
  pub grown : Grows ps qs
  pub count : length new ≡ length old + k
  pub kept : (i : ℕ) → i < length old → slice_index new i ≡ slice_index old i
  pub leads : (d : ℕ) → d < k → slice_get qs (slice_index new (length old + d)) ≡ Some (parameter_after n.coefficients p d)

-- the parameter is that of a form that is reached
pub record IsReachedParameter (n : Normal) (p : Parameter) : Type 0 where
  pub word : List ℕ
  pub letters : AreLetters (length n.coefficients) word
  pub form : form_at n.coefficients p ≡ form_after n word

-- the edges that there are lead to the places of the residuals; those of the parameter at q begin at q * 2 ^ t
abbrev pub AreEdges : Normal → List Parameter → List ℕ → Type 0
AreEdges n ps edges =
    (q d : ℕ) (p : Parameter) → IsLetter (length n.coefficients) d → q * 2 ^ length n.coefficients + d < length edges → slice_get ps q ≡ Some p →
    slice_get ps (slice_index edges (q * 2 ^ length n.coefficients + d)) ≡ Some (parameter_after n.coefficients p d)

-- the outputs that there are say which signs' vectors are in the sets of the forms, laid out likewise
abbrev pub AreOutputs : Normal → List Parameter → List Bool → Type 0
AreOutputs n ps outputs =
    (q s : ℕ) (p : Parameter) → IsLetter (length n.coefficients) s → q * 2 ^ length n.coefficients + s < length outputs → slice_get ps q ≡ Some p →
    IsTrue (slice_index_or outputs (q * 2 ^ length n.coefficients + s) false) ↔ NormalSet (form_at n.coefficients p) (sign_vector (length n.coefficients) s)

-- at most B parameters that the form reaches, each once, its own first, with the edges and outputs of the first q of them
pub record IsSearch (n : Normal) (B q : ℕ) (ps : List Parameter) (edges : List ℕ) (outputs : List Bool) : Type 0 where
  pub reached : AreReached n (map (form_at n.coefficients) ps)
  pub room : length ps ≤ B
  pub start : slice_get ps 0 ≡ Some (parameter_of n)
  pub edge_count : length edges ≡ q * 2 ^ length n.coefficients
  pub edges_lead : AreEdges n ps edges
  pub output_count : length outputs ≡ q * 2 ^ length n.coefficients
  pub outputs_say : AreOutputs n ps outputs
