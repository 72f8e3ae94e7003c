-- Where an actor keeps its state in a channel to itself, that channel is told.
use Rattle.std.proofs.Common.{◌≡◌, ◌≢◌, ℕ, ◌<◌, length, inl, inr}
use Rattle.std.proofs.lemmas.Bool.Decides.{eqb_tells}
use Rattle.std.specs.List.{AllByRecursion}
use Rattle.csdf_core.specs.declared.feedback.Feedback.{Feedback}
use Rattle.csdf_core.specs.Feedback.{IsFeedback}
use Rattle.csdf_core.specs.Plan.{Channel, Plan, from_at, to_at}
use Rattle.csdf_core.specs.Ports.{inputs_at}
use Rattle.csdf_core.proofs.PhaseLemmas.{of_own}

module _ (plan : Plan) (a : ℕ) (f : Feedback) (is : IsFeedback plan a f) where
  -- some channel goes from the actor to itself
  pub has_loop : AllByRecursion (λ c. from_at plan.channels c ≢ a) (inputs_at plan.channels a) → ⊥
  has_loop none =
      of_own (λ c. from_at plan.channels c ≢ a) (λ (c : Channel). c.to) a plan.channels none f.channel is.keeps.there is.keeps.to_it is.keeps.from_it

  -- and no other
  pub same_loop : (own : ℕ) → own < length plan.channels → from_at plan.channels own ≡ a → to_at plan.channels own ≡ a → own ≡ f.channel
  same_loop own there from_it to_it = elim (eqb_tells own f.channel) [
    | inl e ↦ e.1
    | inr e ↦
        absurd (of_own (λ c. c ≢ f.channel → from_at plan.channels c ≢ a) (λ (c : Channel). c.to) a plan.channels is.keeps.alone own there to_it e.1 from_it)
  ]
