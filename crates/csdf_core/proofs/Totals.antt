-- What an actor's firings write in all.
use Rattle.std.proofs.Common.{◌≡◌, ℕ, ◌+◌, ◌-◌, ◌==◌, ◌%◌, length, suc, List, [], ◌∷◌, refl, ap, ◌∙◌, sym, arith, Bool, true, false}
use Rattle.std.specs.Prelude.{sum_by, slice_index, nat_lt, ◌&&◌, if◌then◌else◌}
use Rattle.std.proofs.lemmas.List.Sums.{sum_by-cons}
use Rattle.csdf_core.specs.Plan.{Channel}
use Rattle.csdf_core.specs.Plan.{Plan}
use Rattle.csdf_model.specs.Rates.{total}
use Rattle.csdf_core.specs.Plan.{gives_of}
use Rattle.csdf_core.specs.Rows.{gift}
use Rattle.csdf_core.specs.Step.{given, is_source}

-- the first n firings of a into one channel
abbrev into : ℕ → ℕ → Channel → ℕ
into a n channel = if channel.from == a then total channel.produce n else 0

one_more : (b : Bool) (t x : ℕ) → (if b then t + x else 0) ≡ (if b then t else 0) + (if b then x else 0)
one_more true t x = refl
one_more false t x = refl

into_suc : (a k : ℕ) (c : Channel) → into a (suc k) c ≡ into a k c + gives_of a k c
into_suc a k c = one_more (c.from == a) (total c.produce k) (slice_index c.produce (k % length c.produce))

given_from : (a k : ℕ) (cs : List Channel) → sum_by (into a (suc k)) cs ≡ sum_by (into a k) cs + gift a k cs
given_from a k [] = refl
given_from a k (c ∷ cs) =
    omega (arith, sum_by-cons (into a (suc k)) c cs, sum_by-cons (into a k) c cs, sum_by-cons (gives_of a k) c cs, given_from a k cs, into_suc a k c)

-- one more firing
pub given-suc : (plan : Plan) (a k : ℕ) → given plan a (suc k) ≡ given plan a k + gift a k plan.channels
unfolding given
given-suc plan a k = given_from a k plan.channels

-- whether a source is dry, by the sums that the core keeps
pub dry_is : (plan : Plan) (a k supply sum gives : ℕ) → is_source plan a ≡ true → supply ≡ slice_index plan.supplies a → sum ≡ given plan a k
    → gives ≡ gift a k plan.channels
    → nat_lt supply (sum + gives) ≡ (is_source plan a && nat_lt (slice_index plan.supplies a) (given plan a (suc k)))
dry_is plan a k supply sum gives src s e g =
    let t : sum + gives ≡ given plan a (suc k) = ap (λ x. x + gives) e ∙ ap (λ x. given plan a k + x) g ∙ sym (given-suc plan a k) in
    rw (src, t, s) refl

-- what the next firing writes
pub gift-given : (plan : Plan) (a k : ℕ) → gift a k plan.channels ≡ given plan a (suc k) - given plan a k
gift-given plan a k = omega (arith, given-suc plan a k)
