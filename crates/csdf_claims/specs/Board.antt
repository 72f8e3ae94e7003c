-- The board as plain data: a word for each actor, and what each place knows. Firings count from 0.
-- A word 2k says that the actor is idle at firing k, and 2k + 1 that some place holds it at k.
use Rattle.std.specs.Prelude.{◌≡◌, ◌≢◌, ℕ, ◌+◌, ◌*◌, ◌/◌, ◌%◌, ◌<◌, ◌≤◌, ◌==◌, Bool, true, false, List, [], ◌∷◌, ◌++◌, map, max, length, replicate}
use Rattle.std.specs.Prelude.{slice_index, slice_index_or, slice_set, if◌then◌else◌}
use Rattle.std.specs.List.{range_with_len}
use mathlib.Core.Option.{some}
use lib.ListN.{get_elem?}
use Rattle.csdf_model.specs.declared.limits.TheConstants.{MAX_FIRINGS_PER_ACTOR}
use Rattle.csdf_claims.specs.declared.rule.Track.{Track}
use Rattle.csdf_claims.specs.declared.rule.View.{View}

-- what a place has of an actor with which it had nothing to do
abbrev pub blank : Track
blank = record { held = []; finished = []; seen = 0 }

-- what the place has of actor a
abbrev pub track_of : View → ℕ → Track
track_of v a = slice_index_or v.tracks a blank

abbrev pub one_if : Bool → ℕ
one_if true = 1
one_if false = 0

-- how often x stands in the list
abbrev pub times : ℕ → List ℕ → ℕ
times x [] = 0
times x (y ∷ ys) = one_if (y == x) + times x ys

-- f of each place, added up
abbrev pub total : (View → ℕ) → List View → ℕ
total f [] = 0
total f (v ∷ vs) = f v + total f vs

-- how many claims on firing x of actor a there are, over all places
abbrev pub claims : List View → ℕ → ℕ → ℕ
claims places a x = total (λ v. times x (track_of v a).held) places

-- how often firing x of actor a was finished, over all places
abbrev pub finishes : List View → ℕ → ℕ → ℕ
finishes places a x = total (λ v. times x (track_of v a).finished) places

-- The actor a stands at firing k, and b places hold it: none or one, at k.
-- Each firing below k was finished once, in one place, and no other one was. No place has seen a firing above k
pub record IsLawfulAt (places : List View) (a k b : ℕ) : Type 0 where
  pub held : claims places a k ≡ b
  pub held_elsewhere : (x : ℕ) → x ≢ k → claims places a x ≡ 0
  pub finished : (x : ℕ) → x < k → finishes places a x ≡ 1
  pub unfinished : (x : ℕ) → k ≤ x → finishes places a x ≡ 0
  pub seen : (seat : ℕ) (v : View) → get_elem? places seat ≡ some v → (track_of v a).seen ≤ k

-- the word of actor a. Word 0 belongs to no actor
abbrev pub word_of : List ℕ → ℕ → ℕ
word_of words a = slice_index words (a + 1)

-- The board is lawful: the spare word is 0, and each actor's word says at which firing it stands and whether a place
-- holds it
pub record IsLawful (actors : ℕ) (words : List ℕ) (places : List View) : Type 0 where
  pub count : length words ≡ actors + 1
  pub spare : slice_index words 0 ≡ 0
  pub within : (a : ℕ) → a < actors → word_of words a ≤ 2 * (MAX_FIRINGS_PER_ACTOR + 1)
  pub each : (a : ℕ) → a < actors → IsLawfulAt places a (word_of words a / 2) (word_of words a % 2)

-- the place v is one of the places of this lawful board
pub record SitsAt (v : View) (words : List ℕ) (places : List View) : Type 0 where
  pub lawful : IsLawful (length v.tracks) words places
  pub seat : ℕ
  pub here : get_elem? places seat ≡ some v

-- there is a lawful board with the place v, on which the word of actor a is w
abbrev pub Finds : View → ℕ → ℕ → Type 0
Finds v a w = (words : List ℕ) × (places : List View) × SitsAt v words places × (word_of words a ≡ w)

-- the place holds actor a at firing k
abbrev pub Holds : View → ℕ → ℕ → Type 0
Holds v a k = (track_of v a).held ≡ k ∷ []

-- the place holds actor a
abbrev pub IsHolding : View → ℕ → Type 0
IsHolding v a = (k : ℕ) × Holds v a k

-- the place finished firing x of actor a, or a place did that was joined into it
abbrev pub HasFinished : View → ℕ → ℕ → Type 0
HasFinished v a x = 0 < times x (track_of v a).finished

-- what the place v holds and has finished, w holds and has finished too
abbrev pub KeepsAll : View → View → Type 0
KeepsAll v w = (a k : ℕ) → (Holds v a k → Holds w a k) × (HasFinished v a k → HasFinished w a k)

-- of each actor w holds and has finished what v does, and no more
abbrev pub KeepsJust : View → View → Type 0
KeepsJust v w = (a : ℕ) → ((track_of w a).held ≡ (track_of v a).held) × ((track_of w a).finished ≡ (track_of v a).finished)

-- the place holds and has finished nothing
abbrev pub IsBlank : View → Type 0
IsBlank v = (a k : ℕ) → ¬ Holds v a k × ¬ HasFinished v a k

-- the numbers of the list are 0 to n - 1, each once
abbrev pub AreAllBelow : ℕ → List ℕ → Type 0
AreAllBelow n xs = ((x : ℕ) → x < n → times x xs ≡ 1) × ((x : ℕ) → n ≤ x → times x xs ≡ 0)

-- there is a lawful board with the place v, on which each actor's word is 2n or 2n + 1 for its number n of the list,
-- and the place finished exactly the firings below n
abbrev pub Gathers : View → List ℕ → Type 0
Gathers v totals =
    (words : List ℕ) × (places : List View) × SitsAt v words places
    × ((a : ℕ) → a < length v.tracks
    → (word_of words a / 2 ≡ slice_index totals a) × AreAllBelow (slice_index totals a) (track_of v a).finished)

-- there is a lawful board with the place v, on which the word of actor a is 2n or 2n + 1, and the place finished fewer
-- firings of it than n. Of each lower actor it finished all the firings below the word's
abbrev pub Lacks : View → ℕ → ℕ → Type 0
Lacks v a n =
    (words : List ℕ) × (places : List View) × SitsAt v words places
    × (a < length v.tracks) × (word_of words a / 2 ≡ n) × (length (track_of v a).finished < n)
    × ((b : ℕ) → b < a → AreAllBelow (word_of words b / 2) (track_of v b).finished)

-- on some lawful board that has the place v alone the word of actor a is w
abbrev pub FindsAlone : View → ℕ → ℕ → Type 0
FindsAlone v a w = (words : List ℕ) × IsLawful (length v.tracks) words (v ∷ []) × (word_of words a ≡ w)

-- while the place is alone it finds each actor idle at firing 0, and in no other way
abbrev pub IsNew : View → Type 0
IsNew v = (a : ℕ) → a < length v.tracks → FindsAlone v a 0 × ((w : ℕ) → FindsAlone v a w → w ≡ 0)

-- the word that a claim on firing k leaves where it found w
abbrev pub word_after_claim : ℕ → ℕ → ℕ
word_after_claim k w = if w == 2 * k then 2 * k + 1 else w

-- the view of the first place at a new board
abbrev pub opening_view : ℕ → View
opening_view actors = record { tracks = replicate actors blank; found = 0 }

-- after a look at the word w of actor a
abbrev pub looked : View → ℕ → ℕ → View
looked v a w = record { tracks = slice_set v.tracks a (record (track_of v a) { seen = w / 2 }); found = w }

-- after a claim on firing k of actor a was won
abbrev pub claimed : View → ℕ → ℕ → View
claimed v a k =
    record { tracks = slice_set v.tracks a (record (track_of v a) { held = k ∷ []; seen = k }); found = 2 * k }

-- after the claim on firing k of actor a has ended in its being finished
abbrev pub finished_view : View → ℕ → ℕ → View
finished_view v a k =
    let over : Track = record { held = []; finished = (track_of v a).finished ++ k ∷ []; seen = k + 1 } in
    record v { tracks = slice_set v.tracks a over }

-- after the claim on firing k of actor a has ended in n firings being finished, k and those that follow it
abbrev pub finished_block : View → ℕ → ℕ → ℕ → View
finished_block v a k n =
    let over : Track = record { held = []; finished = (track_of v a).finished ++ range_with_len k n; seen = k + n } in
    record v { tracks = slice_set v.tracks a over }

-- after the claim on actor a was given up
abbrev pub handed_back : View → ℕ → View
handed_back v a = record v { tracks = slice_set v.tracks a (record (track_of v a) { held = [] }) }

-- what a new place takes over from the one beside which it was made: what that one has seen
abbrev pub newcomer_view : View → View
newcomer_view v = record v { tracks = map (λ t. record { held = []; finished = []; seen = t.seen }) v.tracks }

abbrev pub joined_track : Track → Track → Track
joined_track t u = record { held = t.held ++ u.held; finished = t.finished ++ u.finished; seen = max t.seen u.seen }

abbrev pub joined_tracks : List Track → List Track → List Track
joined_tracks [] us = us
joined_tracks (t ∷ ts) [] = t ∷ ts
joined_tracks (t ∷ ts) (u ∷ us) = joined_track t u ∷ joined_tracks ts us

-- two places made one
abbrev pub joined_view : View → View → View
joined_view v w = record v { tracks = joined_tracks v.tracks w.tracks }

-- what is left of a place that was joined into another
abbrev pub spent_view : View
spent_view = record { tracks = []; found = 0 }
