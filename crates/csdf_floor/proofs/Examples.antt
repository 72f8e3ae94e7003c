-- The sequential run and an honest journal, computed on worked examples.
use Rattle.std.proofs.Common.{◌≡◌, ℕ, zero, suc, ◌<◌, ◌⊎◌, inl, inr, List, [], ◌∷◌, true, false, Some, None, refl, arith}
use Rattle.std.specs.Prelude.{pos}
use Rattle.csdf_model.specs.declared.parts.Kernel.TheVariants as kernel
use Rattle.csdf_kernel.specs.Value.{value_of, places, clamp}
use Rattle.csdf_core.specs.Moves.{Move}
use Rattle.csdf_core.specs.Moves.{Begin, Read, Write, Finish, Close}
use Rattle.csdf_core.specs.State.{State, Present, present, opening}
use Rattle.csdf_core.specs.Rows.{is_short, is_full, first}
use Rattle.csdf_core.specs.Step.{count, given, replies_of, is_dry}
use Rattle.csdf_floor.specs.Journal.{Program, value, IsHonest, sink_tokens}
use Rattle.csdf_core.specs.Going.{CanGo}
use Rattle.csdf_floor.specs.Sequential.{IsStuck, fired, IsSequential, sequential_sink}

-- a source that gives 2 and 1 tokens in turn, a sum of three, and a sink; the file ends before the second sum
sums : Program
sums = record {
  plan = record {
    sources = true ∷ false ∷ false ∷ [];
    channels = record { from = 0; to = 1; produce = 2 ∷ 1 ∷ []; consume = 3 ∷ []; initial = []; capacity = 3 } ∷ record {
      from = 1;
      to = 2;
      produce = 1 ∷ [];
      consume = 1 ∷ [];
      initial = [];
      capacity = 1;
    } ∷ [];
    limits = 4 ∷ 2 ∷ 2 ∷ [];
    supplies = 5 ∷ 0 ∷ 0 ∷ [];
    firings = None;
    cells = 4;
  };
  kernels = kernel.Source ∷ kernel.Sum ∷ kernel.Sink ∷ [];
  feeds = (pos 1 ∷ pos 2 ∷ pos 3 ∷ pos 4 ∷ pos 5 ∷ []) ∷ [] ∷ [] ∷ [];
}

sums_out : sequential_sink sums 2 (0 ∷ 0 ∷ 1 ∷ 0 ∷ 2 ∷ []) ≡ pos 6 ∷ []
unfolding sums value value_of given places clamp
sums_out = refl

-- an honest journal of it, of a run by two: the second firing of the source begins before the sink has read
journal : List Move
journal =
    Begin 0 ∷ Read 0 ∷ Write 0 (pos 1 ∷ pos 2 ∷ []) ∷ Finish 0
    ∷ Begin 0 ∷ Read 0 ∷ Write 0 (pos 3 ∷ []) ∷ Finish 0
    ∷ Begin 1 ∷ Read 1 ∷ Begin 0 ∷ Read 0 ∷ Write 0 (pos 4 ∷ pos 5 ∷ []) ∷ Finish 0 ∷ Close 0
    ∷ Write 1 (pos 6 ∷ []) ∷ Finish 1 ∷ Begin 2 ∷ Read 2 ∷ Write 2 [] ∷ Finish 2 ∷ []

honest : IsHonest sums journal
unfolding sums journal value value_of given places clamp
honest = (
  record { accepted = refl; just = tt },
  (
    record { accepted = refl; just = tt },
    (
      record { accepted = refl; just = refl },
      (
        record { accepted = refl; just = tt },
        (
          record { accepted = refl; just = tt },
          (
            record { accepted = refl; just = tt },
            (
              record { accepted = refl; just = refl },
              (
                record { accepted = refl; just = tt },
                (
                  record { accepted = refl; just = tt },
                  (
                    record { accepted = refl; just = tt },
                    (
                      record { accepted = refl; just = tt },
                      (
                        record { accepted = refl; just = tt },
                        (
                          record { accepted = refl; just = refl },
                          (
                            record { accepted = refl; just = tt },
                            (
                              record { accepted = refl; just = (refl, refl) },
                              (
                                record { accepted = refl; just = refl },
                                (
                                  record { accepted = refl; just = tt },
                                  (
                                    record { accepted = refl; just = tt },
                                    (
                                      record { accepted = refl; just = tt },
                                      (record { accepted = refl; just = refl }, (record { accepted = refl; just = tt }, tt)),
                                    ),
                                  ),
                                ),
                              ),
                            ),
                          ),
                        ),
                      ),
                    ),
                  ),
                ),
              ),
            ),
          ),
        ),
      ),
    ),
  ),
)

journal_out : sink_tokens 2 journal (replies_of sums.plan (opening sums.plan) journal) ≡ pos 6 ∷ []
unfolding sums journal given
journal_out = refl

-- its sequential run: the source fires as long as it can, then the sum, and the sink once the source's file is used up
none_below : (p : Present) (b : ℕ) → b < 0 → CanGo sums.plan p b → ⊥
none_below p b lt can = absurd (omega arith)

is_short_of : (p : Present) (a : ℕ) → first (is_short a (count p a)) sums.plan.channels p.tokens ≡ Some 0
    ⊎ first (is_short a (count p a)) sums.plan.channels p.tokens ≡ Some 1 → CanGo sums.plan p a → ⊥
is_short_of p a (inl e) can = let h = can.not_short in absurd (cc)
is_short_of p a (inr e) can = let h = can.not_short in absurd (cc)

is_full_now : (p : Present) (a : ℕ) → first (is_full a (count p a)) sums.plan.channels p.tokens ≡ Some 0 → CanGo sums.plan p a → ⊥
is_full_now p a e can = let h = can.not_full in absurd (cc)

is_dry_now : (p : Present) (a : ℕ) → is_dry sums.plan p a ≡ true → CanGo sums.plan p a → ⊥
is_dry_now p a e can = let h = can.not_dry in absurd (cc)

one : State
one = fired sums (opening sums.plan) 0

two : State
two = fired sums one 0

three : State
three = fired sums two 1

four : State
four = fired sums three 0

five : State
five = fired sums four 2

below_one : (b : ℕ) → b < 1 → CanGo sums.plan (present two) b → ⊥
unfolding sums value value_of given places clamp one two
below_one zero lt = is_full_now (present two) 0 refl
below_one (suc b) lt = λ can. absurd (omega arith)

below_two : (b : ℕ) → b < 2 → CanGo sums.plan (present four) b → ⊥
unfolding sums value value_of given places clamp one two three four
below_two zero lt = is_dry_now (present four) 0 refl
below_two (suc zero) lt = is_short_of (present four) 1 (inl refl)
below_two (suc (suc b)) lt = λ can. absurd (omega arith)

stuck : IsStuck sums.plan (present five)
unfolding sums value value_of given places clamp one two three four five
stuck zero = is_dry_now (present five) 0 refl
stuck (suc zero) = is_short_of (present five) 1 (inl refl)
stuck (suc (suc zero)) = is_short_of (present five) 2 (inr refl)
stuck (suc (suc (suc b))) = λ can. let h = can.exists in absurd (omega arith)

sequential : IsSequential sums (0 ∷ 0 ∷ 1 ∷ 0 ∷ 2 ∷ [])
unfolding sums value value_of given places clamp one two three four five
sequential = (
  record {
    can_go = record { exists = omega arith; idle = refl; not_spent = refl; not_dry = refl; not_short = refl; not_full = refl };
    lowest = none_below (present (opening sums.plan));
  },
  (
    record {
      can_go = record { exists = omega arith; idle = refl; not_spent = refl; not_dry = refl; not_short = refl; not_full = refl };
      lowest = none_below (present (fired sums (opening sums.plan) 0));
    },
    (
      record { can_go = record { exists = omega arith; idle = refl; not_spent = refl; not_dry = refl; not_short = refl; not_full = refl }; lowest = below_one },
      (
        record {
          can_go = record { exists = omega arith; idle = refl; not_spent = refl; not_dry = refl; not_short = refl; not_full = refl };
          lowest = none_below (present (fired sums (fired sums (fired sums (opening sums.plan) 0) 0) 1));
        },
        (
          record {
            can_go = record { exists = omega arith; idle = refl; not_spent = refl; not_dry = refl; not_short = refl; not_full = refl };
            lowest = below_two;
          },
          stuck,
        ),
      ),
    ),
  ),
)

-- a journal that isn't honest: other tokens than the file's
forged : IsHonest sums (Begin 0 ∷ Read 0 ∷ Write 0 (pos 1 ∷ pos 1 ∷ []) ∷ []) → ⊥
unfolding sums value value_of given places clamp
forged h = let e : pos 1 ∷ pos 1 ∷ [] ≡ pos 1 ∷ pos 2 ∷ [] = h.1.1.0.just in absurd (cc)

-- one that closes a channel whose producer has a firing left
hasty : IsHonest sums (Close 0 ∷ []) → ⊥
unfolding sums given
hasty h = let e : false ≡ true = h.0.just.1 in absurd (cc)
