-- What a place has of each actor after a step.
use Rattle.std.proofs.Common.{◌≡◌, ℕ, zero, suc, ◌<◌, List, [], ◌∷◌, length, get_or, map, replicate, refl, ap, arith}
use Rattle.csdf_claims.specs.declared.rule.Track.{Track}
use Rattle.csdf_claims.specs.Board.{blank, joined_track, joined_tracks}

abbrev pub fresh : Track → Track
fresh t = record { held = []; finished = []; seen = t.seen }

pub track_of-newcomer : (ts : List Track) (a : ℕ) → get_or (map fresh ts) a blank ≡ fresh (get_or ts a blank)
track_of-newcomer [] a = refl
track_of-newcomer (t ∷ ts) zero = refl
track_of-newcomer (t ∷ ts) (suc a) = track_of-newcomer ts a

pub track_of-opening : (n a : ℕ) → get_or (replicate n blank) a blank ≡ blank
track_of-opening zero a = refl
track_of-opening (suc n) zero = refl
track_of-opening (suc n) (suc a) = track_of-opening n a

pub track_of-joined : (ts us : List Track) (a : ℕ) → a < length ts → length us ≡ length ts
    → get_or (joined_tracks ts us) a blank ≡ joined_track (get_or ts a blank) (get_or us a blank)
track_of-joined [] us a h e = absurd (omega arith)
track_of-joined (t ∷ ts) [] a h e = absurd (omega arith)
track_of-joined (t ∷ ts) (u ∷ us) zero h e = refl
track_of-joined (t ∷ ts) (u ∷ us) (suc a) h e = track_of-joined ts us a (omega arith) (omega arith)

pub length-joined : (ts us : List Track) → length us ≡ length ts → length (joined_tracks ts us) ≡ length ts
length-joined [] us e = e
length-joined (t ∷ ts) [] e = refl
length-joined (t ∷ ts) (u ∷ us) e = ap suc (length-joined ts us (omega arith))
