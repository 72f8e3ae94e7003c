-- How far an actor's firings have come: those that have begun, read and written.
use Rattle.std.proofs.Common.{◌≡◌, ◌≢◌, ℕ, suc, ◌<◌, ◌≤◌, inl, inr, List, length, get_or, set, ap, sym, subst, ◌∙◌, arith}
use Rattle.std.proofs.lemmas.List.{get_or-set_other, get_or-set_same}
use Rattle.std.proofs.lemmas.Bool.Decides.{eqb_tells}
use Rattle.csdf_core.specs.declared.stage.Stage.{Stage}
use Rattle.csdf_core.specs.declared.stage.Stage.TheVariants.{Idle, Begun, Fetched, Written}
use Rattle.csdf_core.specs.Going.{begun_at}

-- the firings whose tokens are written
abbrev pub put_at : Stage → ℕ → ℕ
put_at Idle n = n
put_at Begun n = n
put_at Fetched n = n
put_at Written n = suc n

-- those whose tokens are read
abbrev pub got_at : Stage → ℕ → ℕ
got_at Idle n = n
got_at Begun n = n
got_at Fetched n = suc n
got_at Written n = suc n

-- a count of each actor, by its stage and its finished firings
abbrev pub tell : (Stage → ℕ → ℕ) → List ℕ → List Stage → ℕ → ℕ
tell f counts stages b = f (get_or stages b Idle) (get_or counts b 0)

abbrev pub put : List ℕ → List Stage → ℕ → ℕ
put counts stages b = tell put_at counts stages b

abbrev pub got : List ℕ → List Stage → ℕ → ℕ
got counts stages b = tell got_at counts stages b

abbrev pub begun : List ℕ → List Stage → ℕ → ℕ
begun counts stages b = tell begun_at counts stages b

pub put_got : (s : Stage) (n : ℕ) → put_at s n ≤ got_at s n
put_got Idle n = omega arith
put_got Begun n = omega arith
put_got Fetched n = omega arith
put_got Written n = omega arith

pub got_begun : (s : Stage) (n : ℕ) → got_at s n ≤ begun_at s n
got_begun Idle n = omega arith
got_begun Begun n = omega arith
got_begun Fetched n = omega arith
got_begun Written n = omega arith

pub put_begun : (s : Stage) (n : ℕ) → put_at s n ≤ begun_at s n
put_begun Idle n = omega arith
put_begun Begun n = omega arith
put_begun Fetched n = omega arith
put_begun Written n = omega arith

pub count_put : (s : Stage) (n : ℕ) → n ≤ put_at s n
count_put Idle n = omega arith
count_put Begun n = omega arith
count_put Fetched n = omega arith
count_put Written n = omega arith

-- after actor a took a new stage
pub staged_same : (f : Stage → ℕ → ℕ) (counts : List ℕ) (stages : List Stage) (a : ℕ) (x : Stage) → a < length stages
    → tell f counts (set stages a x) a ≡ f x (get_or counts a 0)
staged_same f counts stages a x lt = ap (λ s. f s (get_or counts a 0)) (get_or-set_same stages a x Idle lt)

pub staged_other : (f : Stage → ℕ → ℕ) (counts : List ℕ) (stages : List Stage) (a b : ℕ) (x : Stage) → b ≢ a
    → tell f counts (set stages a x) b ≡ tell f counts stages b
staged_other f counts stages a b x ne = ap (λ s. f s (get_or counts b 0)) (get_or-set_other stages a b x Idle ne)

-- a stage at which the count is the same
pub staged_as : (f : Stage → ℕ → ℕ) (counts : List ℕ) (stages : List Stage) (a : ℕ) (x y : Stage) → a < length stages → get_or stages a Idle ≡ y
    → f x (get_or counts a 0) ≡ f y (get_or counts a 0) → (b : ℕ) → tell f counts (set stages a x) b ≡ tell f counts stages b
staged_as f counts stages a x y lt at same b = elim (eqb_tells b a) [
  | inl e ↦ subst (λ (d : ℕ). tell f counts (set stages a x) d ≡ tell f counts stages d) (sym e.1)
      (staged_same f counts stages a x lt ∙ same ∙ ap (λ s. f s (get_or counts a 0)) (sym at))
  | inr e ↦ staged_other f counts stages a b x e.1
]

-- a finish counts what was written before
pub finished_as : (f : Stage → ℕ → ℕ) (counts : List ℕ) (stages : List Stage) (a : ℕ) → a < length counts → a < length stages → get_or stages a Idle ≡ Written
    → ((n : ℕ) → f Idle (suc n) ≡ f Written n) → (b : ℕ) → tell f (set counts a (suc (get_or counts a 0))) (set stages a Idle) b ≡ tell f counts stages b
finished_as f counts stages a ltc lts at same b = elim (eqb_tells b a) [
  | inl e ↦ subst (λ (d : ℕ). tell f (set counts a (suc (get_or counts a 0))) (set stages a Idle) d ≡ tell f counts stages d) (sym e.1)
      (staged_same f (set counts a (suc (get_or counts a 0))) stages a Idle lts
      ∙ ap (f Idle) (get_or-set_same counts a (suc (get_or counts a 0)) 0 ltc)
      ∙ same (get_or counts a 0)
      ∙ ap (λ s. f s (get_or counts a 0)) (sym at))
  | inr e ↦
      staged_other f (set counts a (suc (get_or counts a 0))) stages a b Idle e.1
      ∙ ap (f (get_or stages b Idle)) (get_or-set_other counts a b (suc (get_or counts a 0)) 0 e.1)
]
