-- The lists of a partition.
use Rattle.std.specs.Prelude.{◌≡◌, ◌≢◌, ℕ, ◌<◌, ◌≤◌, ◌⊎◌, ◌↔◌, List, length, slice_index}
use Rattle.std.specs.List.{Contains}
use Rattle.pt_refine.specs.declared.partition.Partition.{Partition}
use Rattle.pt_refine.specs.Halving.{IsLayout, CutsAt}

pub record IsPartition (p : Partition) : Type 0 where
  pub few : length p.class.items ≤ 65536
  pub order_len : length p.order.items ≡ length p.class.items
  pub place_len : length p.place.items ≡ length p.class.items
  pub ends_len : length p.ends.items ≡ length p.starts.items
  pub marked_len : length p.marked.items ≡ length p.starts.items
  pub layout : IsLayout (length p.class.items) (length p.starts.items) (slice_index p.order.items) (slice_index p.place.items) (slice_index p.class.items) (slice_index p.starts.items) (slice_index p.ends.items) (slice_index p.marked.items)

-- a state in the marked front of its class
abbrev pub IsMarked : Partition → ℕ → Type 0
IsMarked p q = slice_index p.place.items q < slice_index p.marked.items (slice_index p.class.items q)

-- no state is marked
abbrev pub IsUnmarked : Partition → Type 0
IsUnmarked p = (q : ℕ) → q < length p.class.items → ¬ IsMarked p q

-- the classes stay
pub record KeepsClasses (p p' : Partition) : Type 0 where
  pub class : p'.class.items ≡ p.class.items
  pub starts : p'.starts.items ≡ p.starts.items

-- one more state is marked, and the classes stay
pub record Marks (p p' : Partition) (q : ℕ) : Type 0 where
  pub keeps : KeepsClasses p p'
  pub marked : IsMarked p' q
  pub others : (r : ℕ) → r < length p.class.items → r ≢ q → IsMarked p' r ↔ IsMarked p r

-- class c is split into its marked states and the others, and then has no marks
pub record Cuts (p p' : Partition) (c : ℕ) : Type 0 where
  pub size : length p'.class.items ≡ length p.class.items
  pub grows : length p.starts.items ≤ length p'.starts.items
  pub cuts : CutsAt (length p.class.items) (length p.starts.items) c (slice_index p.class.items) (slice_index p'.class.items) (IsMarked p) (IsMarked p')

-- the class of a state is listed, or has a marked state
pub record Lists (p : Partition) (q : ℕ) (touched touched' : List ℕ) : Type 0 where
  pub kept : (c : ℕ) → Contains touched c → Contains touched' c
  pub only : (c : ℕ) → Contains touched' c → Contains touched c ⊎ (c ≡ slice_index p.class.items q)
  pub listed : Contains touched' (slice_index p.class.items q) ⊎ ((r : ℕ) × (r < length p.class.items) × (slice_index p.class.items r ≡ slice_index p.class.items q) × IsMarked p r)

-- the states of a row are marked, and their classes are listed
pub record MarksRow (p p' : Partition) (row touched : List ℕ) : Type 0 where
  pub keeps : KeepsClasses p p'
  pub marked : (q : ℕ) → q < length p.class.items → IsMarked p' q ↔ Contains row q
  pub within : (c : ℕ) → Contains touched c → c < length p.starts.items
  pub listed : (q : ℕ) → q < length p.class.items → IsMarked p' q → Contains touched (slice_index p.class.items q)
