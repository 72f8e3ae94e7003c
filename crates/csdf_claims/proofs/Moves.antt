-- Each step of a place keeps the rule of the table, and tells what it is said to tell.
use Rattle.std.proofs.Common.{◌≡◌, ◌≢◌, ℕ, ◌+◌, ◌*◌, ◌/◌, ◌%◌, ◌<◌, ◌≤◌, Bool, true, false, eqb, cond, [], ◌∷◌, ◌++◌, length, set, sym, refl, ap, ◌∙◌, subst}
use Rattle.std.proofs.Common.{arith, eq-eqb, ne_eqb, get_or-set_same, get_or-set_other, length-set}
use mathlib.Core.Logic.{dite}
use mathlib.Core.Option.{none, some}
use native.Mathlib.Decide.{ℕ_discrete, dec_lt}
use Rattle.std.specs.List.{range_with_len}
use lib.ListN.{get_elem?}
use prog.Atomic.{either}
use Rattle.atomic_table.specs.Table.{State, step, stepped, keeps, Allows}
use Rattle.csdf_claims.specs.declared.rule.Track.{Track}
use Rattle.csdf_claims.specs.declared.rule.View.{View}
use Rattle.csdf_claims.specs.Board.{blank, track_of, word_of, IsLawfulAt, IsLawful, Finds, Holds, looked, claimed, finished_block, handed_back}
use Rattle.csdf_claims.specs.Steps.{Seated, LookTells, ClaimTells, FinishTells, GiveUpTells, after_claim}
use Rattle.csdf_claims.proofs.Lawful.{kept, won, ended, given_up, steps}
use Rattle.csdf_claims.proofs.Found.{finds_before, finds_after, found_held}

abbrev pub Board : Type 0
Board = State (Unit {0}) View

abbrev pub Law : ℕ → Board → Type 0
Law actors s = IsLawful actors s.words s.views

pub head_of : {x y : ℕ} → x ∷ [] ≡ y ∷ [] → x ≡ y
head_of e = cc

-- the track at a, and at any other actor, after a change of it
module _ (v : View) (a : ℕ) (t : Track) (found : ℕ) where
  abbrev pub changed : View
  changed = record { tracks = set v.tracks a t; found = found }

  pub track_here : a < length v.tracks → track_of changed a ≡ t
  track_here lt = get_or-set_same v.tracks a t blank lt

  pub track_there : (c : ℕ) → c ≢ a → track_of changed c ≡ track_of v c
  track_there c ne = get_or-set_other v.tracks a c t blank ne

module _ (actors slots id : ℕ) (me : Seated) (a : ℕ) (size : length me.0.tracks ≡ actors) (lt : a < actors) where
  abbrev inside : a < length me.0.tracks
  inside = omega arith

  -- the board after the place took a new track of actor a, the word becoming m
  module _ (s : Board) (L : Law actors s) (at : get_elem? s.views id ≡ some me.0) where
    abbrev w : ℕ
    w = word_of s.words a

    room : a + 1 < length s.words
    room = let n = L.count in omega arith

    looks_lawful : Law actors (stepped s (a + 1) w id me.1 (looked me.0 a w) keeps)
    looks_lawful = let t = track_here me.0 a (record (track_of me.0 a) { seen = w / 2 }) w inside in
        steps actors s.words s.views id me.0 (looked me.0 a w) a w (w / 2) (w % 2) L at lt (L.within a lt) refl refl
        (kept s.views id me.0 (looked me.0 a w) at a (w / 2) (w % 2) (L.each a lt) (ap (λ (z : Track). z.held) t) (ap (λ (z : Track). z.finished) t)
        (let e = ap (λ (z : Track). z.seen) t in omega arith))
        (track_there me.0 a (record (track_of me.0 a) { seen = w / 2 }) w)

    looks_after : Finds (looked me.0 a w) a w
    looks_after = finds_after actors s.words s.views id me.0 (looked me.0 a w) a w looks_lawful at
        (length-set me.0.tracks a (record (track_of me.0 a) { seen = w / 2 }) ∙ size) room

    looks_before : Finds me.0 a w
    looks_before = finds_before actors s.words s.views id me.0 a L at size

    module _ (k : ℕ) (hit : w ≡ 2 * k) (small : k ≤ 16384000) where
      abbrev mine : Track
      mine = record (track_of me.0 a) { held = k ∷ []; seen = k }

      wins_lawful : Law actors (stepped s (a + 1) (2 * k + 1) id me.1 (claimed me.0 a k) keeps)
      wins_lawful =
          let t = track_here me.0 a mine (2 * k) inside in
          let half : w / 2 ≡ k = omega arith in
          let even : w % 2 ≡ 0 = omega arith in
          let old : IsLawfulAt s.views a k 0 = subst (λ (z : ℕ × ℕ). IsLawfulAt s.views a z.0 z.1) (λ i. (half i, even i)) (L.each a lt) in
          steps actors s.words s.views id me.0 (claimed me.0 a k) a (2 * k + 1) k 1 L at lt (omega arith) (omega arith) (omega arith)
          (won s.views id me.0 (claimed me.0 a k) at a k old (ap (λ (z : Track). z.held) t) (ap (λ (z : Track). z.finished) t)
          (let e = ap (λ (z : Track). z.seen) t in omega arith))
          (track_there me.0 a mine (2 * k))

      wins_after : Finds (claimed me.0 a k) a (2 * k + 1)
      wins_after = finds_after actors s.words s.views id me.0 (claimed me.0 a k) a (2 * k + 1) wins_lawful at (length-set me.0.tracks a mine ∙ size) room

    module _ (k : ℕ) (has : Holds me.0 a k) where
      odd : w ≡ 2 * k + 1
      odd = found_held me.0 a w looks_before inside k has

      at_k : IsLawfulAt s.views a k 1
      at_k = let o = odd in let half : w / 2 ≡ k = omega arith in let one : w % 2 ≡ 1 = omega arith in
          subst (λ (z : ℕ × ℕ). IsLawfulAt s.views a z.0 z.1) (λ i. (half i, one i)) (L.each a lt)

      module _ (n : ℕ) (some_firing : 1 ≤ n) (fits : 1 < n → k + n ≤ 16384001) where
        abbrev over : Track
        over = record { held = []; finished = (track_of me.0 a).finished ++ range_with_len k n; seen = k + n }

        -- one firing more fits, since a held word is odd
        ends_within : 2 * (k + n) ≤ 32768002
        ends_within = let o = odd in let most = L.within a lt in
            dite (dec_lt 1 n) (λ several. let h = fits several in omega arith) (λ single. omega arith)

        ends_lawful : Law actors (stepped s (a + 1) (2 * (k + n)) id me.1 (finished_block me.0 a k n) keeps)
        ends_lawful =
            let t = track_here me.0 a over me.0.found inside in
            steps actors s.words s.views id me.0 (finished_block me.0 a k n) a (2 * (k + n)) (k + n) 0 L at lt ends_within (omega arith) (omega arith)
            (ended s.views id me.0 (finished_block me.0 a k n) at a k n some_firing at_k has (ap (λ (z : Track). z.held) t) (ap (λ (z : Track). z.finished) t)
            (let e = ap (λ (z : Track). z.seen) t in omega arith))
            (track_there me.0 a over me.0.found)

        ends_after : Finds (finished_block me.0 a k n) a (2 * (k + n))
        ends_after = finds_after actors s.words s.views id me.0 (finished_block me.0 a k n) a (2 * (k + n)) ends_lawful at
            (length-set me.0.tracks a over ∙ size) room

      abbrev free : Track
      free = record (track_of me.0 a) { held = [] }

      gives_lawful : Law actors (stepped s (a + 1) (2 * k) id me.1 (handed_back me.0 a) keeps)
      gives_lawful =
          let t = track_here me.0 a free me.0.found inside in let o = odd in let most = L.within a lt in let was = at_k.seen id me.0 at in
          steps actors s.words s.views id me.0 (handed_back me.0 a) a (2 * k) k 0 L at lt (omega arith) (omega arith) (omega arith)
          (given_up s.views id me.0 (handed_back me.0 a) at a k at_k has (ap (λ (z : Track). z.held) t) (ap (λ (z : Track). z.finished) t)
          (let e = ap (λ (z : Track). z.seen) t in omega arith))
          (track_there me.0 a free me.0.found)

      gives_after : Finds (handed_back me.0 a) a (2 * k)
      gives_after = finds_after actors s.words s.views id me.0 (handed_back me.0 a) a (2 * k) gives_lawful at (length-set me.0.tracks a free ∙ size) room

  pub looks : Allows (Law actors) slots id me (a + 1) (λ n. n) (LookTells (step slots (a + 1) 0 0 none) me)
  looks s L _ at _ = let w : ℕ = word_of s.words a in (
    looked me.0 a w,
    keeps,
    tt,
    looks_lawful s L at,
    λ b is _. let e : a ≡ b = omega arith in
        let P : ℕ → Type 0 = λ c. Finds me.0 c w × (◌≡◌ {A = Seated} (looked me.0 a w, me.1) (looked me.0 c w, me.1)) × Finds (looked me.0 a w) c w in
        subst P e (looks_before s L at, refl, looks_after s L at),
  )

  pub claims_firing : (k : ℕ) → k ≤ 16384000
      → Allows (Law actors) slots id me (a + 1) (λ n. either (eqb n (2 * k)) (2 * k + 1) n) (ClaimTells (step slots (a + 1) (2 * k) (2 * k + 1) none) me)
  claims_firing k small s L _ at _ = let w : ℕ = word_of s.words a in dite (ℕ_discrete w (2 * k))
      (λ hit. let yes : true ≡ eqb w (2 * k) = sym (eq-eqb w (2 * k) hit) in (
        claimed me.0 a k,
        keeps,
        tt,
        subst (λ (b : Bool). Law actors (stepped s (a + 1) (either b (2 * k + 1) w) id me.1 (claimed me.0 a k) keeps)) yes (wins_lawful s L at k hit small),
        λ c j is _ same. let e : a ≡ c = omega arith in let d : k ≡ j = omega arith in
            let P : ℕ × ℕ → Type 0 = λ z. Finds me.0 z.0 w × (◌≡◌ {A = Seated} (claimed me.0 a k, me.1) (after_claim me.0 z.0 z.1 w, me.1))
            × Finds (claimed me.0 a k) z.0 (cond (eqb w (2 * z.1)) (2 * z.1 + 1) w) in
            subst P (λ i. (e i, d i)) (
              looks_before s L at,
              ap (λ (b : Bool). (cond b (claimed me.0 a k) (looked me.0 a w), me.1)) yes,
              subst (λ (b : Bool). Finds (claimed me.0 a k) a (cond b (2 * k + 1) w)) yes (wins_after s L at k hit small),
            ),
      ))
      (λ miss. let no_hit : false ≡ eqb w (2 * k) = sym (ne_eqb w (2 * k) miss) in (
        looked me.0 a w,
        keeps,
        tt,
        subst (λ (b : Bool). Law actors (stepped s (a + 1) (either b (2 * k + 1) w) id me.1 (looked me.0 a w) keeps)) no_hit (looks_lawful s L at),
        λ c j is _ same. let e : a ≡ c = omega arith in let d : k ≡ j = omega arith in
            let P : ℕ × ℕ → Type 0 = λ z. Finds me.0 z.0 w × (◌≡◌ {A = Seated} (looked me.0 a w, me.1) (after_claim me.0 z.0 z.1 w, me.1))
            × Finds (looked me.0 a w) z.0 (cond (eqb w (2 * z.1)) (2 * z.1 + 1) w) in
            subst P (λ i. (e i, d i)) (
              looks_before s L at,
              ap (λ (b : Bool). (cond b (claimed me.0 a k) (looked me.0 a w), me.1)) no_hit,
              subst (λ (b : Bool). Finds (looked me.0 a w) a (cond b (2 * k + 1) w)) no_hit (looks_after s L at),
            ),
      ))

  pub finishes_firings : (k n : ℕ) → Holds me.0 a k → 1 ≤ n → (1 < n → k + n ≤ 16384001)
      → Allows (Law actors) slots id me (a + 1) (λ _. 2 * (k + n)) (λ _. FinishTells (step slots (a + 1) (2 * (k + n)) 0 none) me (2 * (k + n)))
  finishes_firings k n has some_firing fits s L _ at _ = let u : View = finished_block me.0 a k n in (
    u,
    keeps,
    tt,
    ends_lawful s L at k has n some_firing fits,
    λ c j m is _ same has'. let e : a ≡ c = omega arith in
        let P : ℕ → Type 0 = λ b. (j m : ℕ) → 2 * (k + n) ≡ 2 * (j + m) → Holds me.0 b j
        → (◌≡◌ {A = Seated} (u, me.1) (finished_block me.0 b j m, me.1)) × Finds u b (2 * (j + m)) in
        let base : P a = λ j' m' same' h. let d : k ≡ j' = head_of (sym has ∙ h) in let f : n ≡ m' = omega arith in
        let Q : ℕ × ℕ → Type 0 = λ z. (◌≡◌ {A = Seated} (u, me.1) (finished_block me.0 a z.0 z.1, me.1)) × Finds u a (2 * (z.0 + z.1)) in
        subst Q (λ i. (d i, f i)) (refl, ends_after s L at k has n some_firing fits) in
        subst P e base j m same has',
  )

  pub gives_up : (k : ℕ) → Holds me.0 a k
      → Allows (Law actors) slots id me (a + 1) (λ _. 2 * k) (λ _. GiveUpTells (step slots (a + 1) (2 * k) 0 none) me (2 * k))
  gives_up k has s L _ at _ = (
    handed_back me.0 a,
    keeps,
    tt,
    gives_lawful s L at k has,
    λ c j is _ has'. let e : a ≡ c = omega arith in
        let P : ℕ → Type 0 = λ b. (j : ℕ) → Holds me.0 b j → (◌≡◌ {A = Seated} (handed_back me.0 a, me.1) (handed_back me.0 b, me.1))
        × Finds (handed_back me.0 a) b (2 * j) in
        let base : P a = λ j' h. let d : k ≡ j' = head_of (sym has ∙ h) in
        subst (λ (z : ℕ). (◌≡◌ {A = Seated} (handed_back me.0 a, me.1) (handed_back me.0 a, me.1)) × Finds (handed_back me.0 a) a (2 * z)) d
        (refl, gives_after s L at k has) in
        subst P e base j has',
  )
