-- What each kind of step on the board tells the place that makes it.
use Rattle.std.specs.Prelude.{◌≡◌, ℕ, ◌+◌, ◌*◌, ◌<◌, ◌==◌, List, length, if◌then◌else◌}
use Rattle.atomic_table.specs.Table.{Step, Me}
use Rattle.csdf_claims.specs.declared.rule.View.{View}
use Rattle.csdf_claims.specs.Board.{Finds, Holds, SitsAt, word_after_claim, looked, claimed, finished_block, handed_back}

-- a place at the table, which has no slots
abbrev pub Seated : Type 0
Seated = Me (Unit {0}) View

abbrev pub Stage : Type 0
Stage = Step (Unit {0})

-- the actor's word was found in a lawful board, and the place has seen it
abbrev pub LookTells : Stage → Seated → ℕ → Seated → Type 0
LookTells step me w me' =
    (a : ℕ) → step.word ≡ a + 1 → a < length me.0.tracks
    → Finds me.0 a w × (me' ≡ (looked me.0 a w, me.1)) × Finds me'.0 a w

-- the claim was won where the word was 2k, and else the word was seen
abbrev pub after_claim : View → ℕ → ℕ → ℕ → View
after_claim v a k w = if w == 2 * k then claimed v a k else looked v a w

abbrev pub ClaimTells : Stage → Seated → ℕ → Seated → Type 0
ClaimTells step me w me' =
    (a k : ℕ) → step.word ≡ a + 1 → a < length me.0.tracks → step.first ≡ 2 * k
    → Finds me.0 a w × (me' ≡ (after_claim me.0 a k w, me.1)) × Finds me'.0 a (word_after_claim k w)

-- the firing that was held is finished, with those that follow it below the new word's
abbrev pub FinishTells : Stage → Seated → ℕ → Seated → Type 0
FinishTells step me w me' =
    (a k n : ℕ) → step.word ≡ a + 1 → a < length me.0.tracks → step.first ≡ 2 * (k + n) → Holds me.0 a k
    → (me' ≡ (finished_block me.0 a k n, me.1)) × Finds me'.0 a (2 * (k + n))

-- the claim is given up, and the actor is idle at the same firing
abbrev pub GiveUpTells : Stage → Seated → ℕ → Seated → Type 0
GiveUpTells step me w me' =
    (a k : ℕ) → step.word ≡ a + 1 → a < length me.0.tracks → Holds me.0 a k
    → (me' ≡ (handed_back me.0 a, me.1)) × Finds me'.0 a (2 * k)

-- the place sits at a lawful board
abbrev pub StandTells : Stage → Seated → ℕ → Seated → Type 0
StandTells step me w me' = (me' ≡ me) × ((words : List ℕ) × (places : List View) × SitsAt me.0 words places)
