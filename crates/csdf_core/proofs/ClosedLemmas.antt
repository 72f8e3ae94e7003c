-- A closed channel has no producer that is to write.
use Rattle.std.proofs.Common.{◌≡◌, ◌≢◌, ℕ, zero, suc, ◌<◌, List, [], ◌∷◌, inl, inr, length, get_or, set, map, ap, ◌∙◌, Bool, true, false}
use Rattle.std.specs.Prelude.{◌==◌, ◌&&◌, not, slice_index}
use Rattle.std.specs.List.{zip, AllByRecursion}
use Rattle.std.proofs.lemmas.Bool.{eq-eqb}
use Rattle.csdf_core.specs.declared.stage.Stage.{Stage}
use Rattle.csdf_core.specs.declared.stage.Stage.TheVariants.{Idle, Begun, Fetched}
use Rattle.csdf_core.specs.Plan.{Channel}
use Rattle.csdf_core.specs.Rows.{is_closed}
use Rattle.csdf_core.proofs.Kept.{stage_set}

-- the producer of a closed channel is not about to write
abbrev pub IsStill : List Stage → Channel × Bool → Type 0
IsStill stages row = row.1 ≡ false → (get_or stages row.0.from Idle ≢ Begun) × (get_or stages row.0.from Idle ≢ Fetched)

abbrev pub AreStill : List Stage → List Channel → List Bool → Type 0
AreStill stages cs os = AllByRecursion (IsStill stages) (zip cs os)

-- the stage of a becomes x, which is no stage before a write, or a has no closed output
still_set : (stages : List Stage) (a : ℕ) (x : Stage) (row : Channel × Bool) → a < length stages
    → (row.0.from ≡ a → row.1 ≡ false → (x ≢ Begun) × (x ≢ Fetched)) → IsStill stages row → IsStill (set stages a x) row
still_set stages a x row lt here old shut = (
  (λ at. elim (stage_set stages a row.0.from x Begun lt at) [ inl e ↦ (here e.0 shut).0 e.1 | inr e ↦ (old shut).0 e.1 ]),
  (λ at. elim (stage_set stages a row.0.from x Fetched lt at) [ inl e ↦ (here e.0 shut).1 e.1 | inr e ↦ (old shut).1 e.1 ]),
)

is_open_out : (b o : Bool) → b ≡ true → (b && not o) ≡ false → o ≡ false → ⊥
is_open_out true false e h f = absurd (cc)
is_open_out true true e h f = absurd (cc)
is_open_out false o e h f = absurd (cc)

pub still_begun : (stages : List Stage) (a : ℕ) (cs : List Channel) (os : List Bool) → a < length stages
    → AllByRecursion (λ (row : Channel × Bool). is_closed a row ≡ false) (zip cs os) → AreStill stages cs os → AreStill (set stages a Begun) cs os
still_begun stages a [] os lt opens old = tt
still_begun stages a (c ∷ cs) [] lt opens old = tt
still_begun stages a (c ∷ cs) (o ∷ os) lt opens old = (
  still_set stages a Begun (c, o) lt (λ e shut. absurd (is_open_out (c.from == a) o (eq-eqb c.from a e) opens.0 shut)) old.0,
  still_begun stages a cs os lt opens.1 old.1,
)

pub still_fetched : (stages : List Stage) (a : ℕ) (cs : List Channel) (os : List Bool) → a < length stages → get_or stages a Idle ≡ Begun
    → AreStill stages cs os → AreStill (set stages a Fetched) cs os
still_fetched stages a [] os lt at old = tt
still_fetched stages a (c ∷ cs) [] lt at old = tt
still_fetched stages a (c ∷ cs) (o ∷ os) lt at old = (
  still_set stages a Fetched (c, o) lt (λ e shut. absurd ((old.0 shut).0 (ap (λ b. get_or stages b Idle) e ∙ at))) old.0,
  still_fetched stages a cs os lt at old.1,
)

pub still_after : (stages : List Stage) (a : ℕ) (x : Stage) (cs : List Channel) (os : List Bool) → a < length stages → x ≢ Begun → x ≢ Fetched
    → AreStill stages cs os → AreStill (set stages a x) cs os
still_after stages a x [] os lt nb nf old = tt
still_after stages a x (c ∷ cs) [] lt nb nf old = tt
still_after stages a x (c ∷ cs) (o ∷ os) lt nb nf old = (still_set stages a x (c, o) lt (λ e shut. (nb, nf)) old.0, still_after stages a x cs os lt nb nf old.1)

pub still_closed : (stages : List Stage) (c : ℕ) (cs : List Channel) (os : List Bool)
    → get_or stages (slice_index (map (λ (channel : Channel). channel.from) cs) c) Idle ≢ Begun
    → get_or stages (slice_index (map (λ (channel : Channel). channel.from) cs) c) Idle ≢ Fetched → AreStill stages cs os → AreStill stages cs (set os c false)
still_closed stages c [] os nb nf old = tt
still_closed stages c (d ∷ cs) [] nb nf old = tt
still_closed stages zero (d ∷ cs) (o ∷ os) nb nf old = ((λ shut. (nb, nf)), old.1)
still_closed stages (suc c) (d ∷ cs) (o ∷ os) nb nf old = (old.0, still_closed stages c cs os nb nf old.1)
