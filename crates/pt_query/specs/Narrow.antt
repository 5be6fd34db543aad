-- Words that are too long for 128 bits.
use Rattle.std.specs.Prelude.{◌≡◌, ℕ, ◌<◌, List, length}
use Rattle.pt_query.specs.declared.fault.WitnessFault.{WitnessFault}
use Rattle.pt_query.specs.declared.fault.WitnessFault.TheVariants.{Wide, NoMemory}

-- the word has more than 128 letters, as many as are named
abbrev pub IsWideWord : List ℕ → WitnessFault → Type 0
IsWideWord w (Wide letters) = (length w ≡ letters) × (128 < letters)
IsWideWord w NoMemory = Unit {0}
