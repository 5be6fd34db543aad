-- The meaning of the words behind the program's name.
use Rattle.std.specs.Prelude.{ℕ, ◌≤◌, ◌≡◌, ◌≢◌, ◌⊎◌, List, [], ◌∷◌, ◌++◌, codes, decimal}
use Rattle.std.specs.List.{All, AllPairs, Contains}
use Rattle.pt_options.specs.declared.given.Mode.{Mode}
use Rattle.pt_options.specs.declared.given.Mode.TheVariants.{Solve, Drill}
use Rattle.pt_options.specs.declared.given.Options.{Options}

-- the names of the options
abbrev pub names : List (List ℕ)
names = codes "mode" ∷ codes "workers" ∷ codes "states" ∷ codes "seed" ∷ codes "size" ∷ []

-- what a word that names this option begins with: `--name=`
abbrev pub start : List ℕ → List ℕ
start name = codes "--" ++ name ++ codes "="

-- the word is `--name=value`, with this name
abbrev pub HasName : List ℕ → List ℕ → Type 0
HasName word name = (value : List ℕ) × (word ≡ start name ++ value)

-- the word is `--name=value`, with the name of an option and a value that is not empty
abbrev pub IsSetting : List ℕ → Type 0
IsSetting word = (name : List ℕ) × (value : List ℕ) × Contains names name × (value ≢ []) × (word ≡ start name ++ value)

-- each word is such, and no two name the same option
pub record AreSettings (words : List (List ℕ)) : Type 0 where
  pub each : All IsSetting words
  pub once : (name : List ℕ) → Contains names name → AllPairs (λ one two. HasName one name → HasName two name → ⊥) words

-- one of the words gives this option this value
abbrev pub Gives : List (List ℕ) → List ℕ → List ℕ → Type 0
Gives words name value = Contains words (start name ++ value)

-- no word gives this option a value
abbrev pub IsAbsent : List (List ℕ) → List ℕ → Type 0
IsAbsent words name = (value : List ℕ) → ¬ Gives words name value

-- the option has this number, from `least` to `most`, in decimal digits without a leading zero
abbrev pub GivesNumber : List (List ℕ) → List ℕ → ℕ → ℕ → ℕ → Type 0
GivesNumber words name least most n = (least ≤ n) × (n ≤ most) × Gives words name (decimal n)

-- or no word, and this default
abbrev pub GivesNumberOr : List (List ℕ) → List ℕ → ℕ → ℕ → ℕ → ℕ → Type 0
GivesNumberOr words name least most default n = GivesNumber words name least most n ⊎ (IsAbsent words name × (n ≡ default))

-- the mode is solve by default
abbrev pub GivesMode : List (List ℕ) → Mode → Type 0
GivesMode words Solve = Gives words (codes "mode") (codes "solve") ⊎ IsAbsent words (codes "mode")
GivesMode words Drill = Gives words (codes "mode") (codes "drill")

-- mode drill takes a seed and a size, and mode solve neither
abbrev pub GivesDrill : List (List ℕ) → Mode → ℕ → ℕ → Type 0
GivesDrill words Solve seed size = IsAbsent words (codes "seed") × IsAbsent words (codes "size") × (seed ≡ 0) × (size ≡ 0)
GivesDrill words Drill seed size = GivesNumber words (codes "seed") 0 2147483647 seed × GivesNumber words (codes "size") 1 4096 size

-- the words give these options, in any order
pub record GiveOptions (words : List (List ℕ)) (o : Options) : Type 0 where
  pub settings : AreSettings words
  pub mode : GivesMode words o.mode
  pub workers : GivesNumberOr words (codes "workers") 1 16 1 o.workers
  pub states : GivesNumberOr words (codes "states") 1 65536 16384 o.states
  pub drill : GivesDrill words o.mode o.seed o.size

-- the words are the defined ones
abbrev pub AreOptions : List (List ℕ) → Type 0
AreOptions words = (o : Options) × GiveOptions words o
