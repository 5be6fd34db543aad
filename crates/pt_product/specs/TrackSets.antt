-- Maps of tracks as sets of tracks.
use Rattle.std.specs.Prelude.{ℕ, zero, suc, ◌+◌, ◌/◌, ◌%◌, ◌^◌, List, [], ◌∷◌}
use Rattle.std.specs.List.{fold}

-- the set of the tracks of a map as a number: bit i for track i
abbrev pub track_set : List ℕ → ℕ
track_set m = fold (λ set i. set + 2 ^ i) 0 m

-- a track in front, where its bit is set
abbrev pub with_track : ℕ → ℕ → List ℕ → List ℕ
with_track zero i m = m
with_track (suc bit) i m = i ∷ m

-- of n tracks from i on those of a set whose lowest bit is that of track i, in increasing order
abbrev pub tracks_from : ℕ → ℕ → ℕ → List ℕ
tracks_from zero i set = []
tracks_from (suc n) i set = with_track (set % 2) i (tracks_from n (suc i) (set / 2))

-- the map of the tracks below 10 that are in a set
unfoldable pub tracks_in : ℕ → List ℕ
tracks_in set = tracks_from 10 0 set
