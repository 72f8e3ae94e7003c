-- What every core keeps is kept by each accepted move.
use Rattle.std.proofs.Common.{◌≡◌, ◌≢◌, ℕ, ◌+◌, ◌<◌, List, [], ◌∷◌, ◌⊎◌, inl, inr, length, get_or, set, refl, subst, ◌∙◌, sym, arith, Bool, true, false, Option}
use Rattle.std.proofs.Common.{Some, None, cond}
use Rattle.std.specs.Prelude.{ℤ, not, ◌||◌, slice_index, option_map}
use Rattle.std.specs.List.{zip, AllByRecursion, position_from}
use Rattle.std.proofs.lemmas.List.{get_or-set_other, get_or-set_same}
use Rattle.std.proofs.lemmas.Bool.{ltb-true, eqb-true}
use Rattle.std.proofs.lemmas.Bool.Decides.{eqb_tells, nat_tests}
use Rattle.csdf_core.specs.Plan.{Plan}
use Rattle.csdf_core.specs.declared.stage.Stage.{Stage}
use Rattle.csdf_core.specs.declared.stage.Stage.TheVariants.{Idle, Begun, Fetched, Written}
use Rattle.csdf_core.specs.Moves.{Begin, Read, Finish, Close}
use Rattle.csdf_core.specs.declared.refusal.Refusal.{Refusal}
use Rattle.csdf_core.specs.declared.refusal.Refusal.TheVariants.{Unknown, Busy, Spent, Closed, Dry, Short, Full, Stopped, NoCells, NotBegun, NotRead}
use Rattle.csdf_core.specs.declared.refusal.Refusal.TheVariants.{NotWritten, WrongCount}
use Rattle.csdf_core.specs.Plan.{Channel}
use Rattle.csdf_core.specs.Rows.{Row, first, is_closed, is_short, is_full, gift}
use Rattle.csdf_core.specs.State.{Present}
use Rattle.csdf_core.specs.Step.{count, stage, is_stage, is_open, producer, is_spent, is_dry, is_stopped, lacks_cells, refusal, first_of, when, begin_table}
use Rattle.csdf_core.specs.Step.{read_table, write_table, finish_table, close_table}
use Rattle.csdf_core.proofs.Totals.{gift-given}

-- a table that refuses nothing
all_none : (table : List (Option Refusal)) → first_of table ≡ None → AllByRecursion (λ (o : Option Refusal). o ≡ None) table
all_none [] e = tt
all_none (None ∷ table) e = (refl, all_none table e)
all_none (Some r ∷ table) e = absurd (cc)

pub when_none : (b : Bool) (r : Refusal) → when b r ≡ None → b ≡ false
when_none true r e = absurd (cc)
when_none false r e = refl

pub not_false : (b : Bool) → not b ≡ false → b ≡ true
not_false true e = refl
not_false false e = sym e

not_chosen : (b : Bool) (i : ℕ) (o : Option ℕ) → cond b (Some i) o ≡ None → (b ≡ false) × (o ≡ None)
not_chosen true i o e = absurd (cc)
not_chosen false i o e = (refl, e)

pub position_none : {X : Type 0} (test : X → Bool) (i : ℕ) (xs : List X) → position_from test i xs ≡ None → AllByRecursion (λ x. test x ≡ false) xs
position_none test i [] e = tt
position_none test i (x ∷ xs) e =
    let parts = not_chosen (test x) i (position_from test (i + 1) xs) e in
    (parts.0, position_none test (i + 1) xs parts.1)

pub map_none : (f : ℕ → Refusal) (o : Option ℕ) → option_map f o ≡ None → o ≡ None
map_none f None e = refl
map_none f (Some n) e = absurd (cc)

pub is_stage_true : (s t : Stage) → is_stage s t ≡ true → s ≡ t
is_stage_true Idle Idle e = refl
is_stage_true Begun Begun e = refl
is_stage_true Fetched Fetched e = refl
is_stage_true Written Written e = refl
is_stage_true Idle Begun e = absurd (cc)
is_stage_true Idle Fetched e = absurd (cc)
is_stage_true Idle Written e = absurd (cc)
is_stage_true Begun Idle e = absurd (cc)
is_stage_true Begun Fetched e = absurd (cc)
is_stage_true Begun Written e = absurd (cc)
is_stage_true Fetched Idle e = absurd (cc)
is_stage_true Fetched Begun e = absurd (cc)
is_stage_true Fetched Written e = absurd (cc)
is_stage_true Written Idle e = absurd (cc)
is_stage_true Written Begun e = absurd (cc)
is_stage_true Written Fetched e = absurd (cc)

-- what an accepted begin says
pub record Begins (plan : Plan) (p : Present) (a : ℕ) : Type 0 where
  pub there : a < length plan.sources
  pub idle : stage p a ≡ Idle
  pub not_spent : is_spent plan p a ≡ false
  pub below : count p a < slice_index plan.limits a
  pub opens : AllByRecursion (λ (row : Channel × Bool). is_closed a row ≡ false) (zip plan.channels p.opens)
  pub enough : AllByRecursion (λ (row : Row). is_short a (count p a) row ≡ false) (zip plan.channels p.tokens)
  pub room : AllByRecursion (λ (row : Row). is_full a (count p a) row ≡ false) (zip plan.channels p.tokens)
  pub not_short : first (is_short a (count p a)) plan.channels p.tokens ≡ None
  pub not_full : first (is_full a (count p a)) plan.channels p.tokens ≡ None
  pub not_dry : is_dry plan p a ≡ false
  pub not_stopped : is_stopped plan p ≡ false
  pub cells : lacks_cells plan p a ≡ false

pub begins : (plan : Plan) (p : Present) (a : ℕ) → refusal plan p (Begin a) ≡ None → Begins plan p a
begins plan p a e =
    let rows = all_none (begin_table plan p a) e in
    record {
      there = ltb-true _ _ (not_false _ (when_none _ Unknown rows.0));
      idle = is_stage_true _ _ (not_false _ (when_none _ Busy rows.1.0));
      not_spent = when_none _ Spent rows.1.1.0;
      below = let h = when_none _ Spent rows.1.1.0 in grind (arith, nat_tests);
      opens = position_none _ 0 _ (map_none Closed _ rows.1.1.1.0);
      enough = position_none _ 0 _ (map_none Short _ rows.1.1.1.1.1.0);
      room = position_none _ 0 _ (map_none Full _ rows.1.1.1.1.1.1.0);
      not_short = map_none Short _ rows.1.1.1.1.1.0;
      not_full = map_none Full _ rows.1.1.1.1.1.1.0;
      not_dry = when_none _ Dry rows.1.1.1.1.0;
      not_stopped = when_none _ Stopped rows.1.1.1.1.1.1.1.0;
      cells = when_none _ NoCells rows.1.1.1.1.1.1.1.1.0;
    }

-- what the other accepted moves say
pub record AtWork (plan : Plan) (p : Present) (a : ℕ) (x : Stage) : Type 0 where
  pub there : a < length plan.sources
  pub at : stage p a ≡ x

pub reads : (plan : Plan) (p : Present) (a : ℕ) → refusal plan p (Read a) ≡ None → AtWork plan p a Begun
reads plan p a e =
    let rows = all_none (read_table plan p a) e in
    record { there = ltb-true _ _ (not_false _ (when_none _ Unknown rows.0)); at = is_stage_true _ _ (not_false _ (when_none _ NotBegun rows.1.0)) }

pub writes : (plan : Plan) (p : Present) (a : ℕ) (v : List ℤ) → first_of (write_table plan p a v) ≡ None → AtWork plan p a Fetched
    × (length v ≡ gift a (count p a) plan.channels)
writes plan p a v e =
    let rows = all_none (write_table plan p a v) e in (
      record { there = ltb-true _ _ (not_false _ (when_none _ Unknown rows.0)); at = is_stage_true _ _ (not_false _ (when_none _ NotRead rows.1.0)) },
      eqb-true _ _ (not_false _ (when_none _ WrongCount rows.1.1.0)) ∙ sym (gift-given plan a (count p a)),
    )

pub finishes : (plan : Plan) (p : Present) (a : ℕ) → refusal plan p (Finish a) ≡ None → AtWork plan p a Written
finishes plan p a e =
    let rows = all_none (finish_table plan p a) e in
    record { there = ltb-true _ _ (not_false _ (when_none _ Unknown rows.0)); at = is_stage_true _ _ (not_false _ (when_none _ NotWritten rows.1.0)) }

-- what an accepted close says
pub record Closes (plan : Plan) (p : Present) (c : ℕ) : Type 0 where
  pub there : c < length plan.channels
  pub was_open : is_open p c ≡ true
  pub not_begun : stage p (producer plan c) ≢ Begun
  pub not_fetched : stage p (producer plan c) ≢ Fetched

either_false : (b c : Bool) → (b || c) ≡ false → (b ≡ false) × (c ≡ false)
either_false true c e = absurd (cc)
either_false false c e = (refl, e)

not_stage : (s t : Stage) → is_stage s t ≡ false → is_stage t t ≡ true → s ≢ t
not_stage s t off same e = let bad : is_stage t t ≡ false = subst (λ x. is_stage x t ≡ false) e off in absurd (cc)

pub closes : (plan : Plan) (p : Present) (c : ℕ) → refusal plan p (Close c) ≡ None → Closes plan p c
closes plan p c e =
    let rows = all_none (close_table plan p c) e in
    let busy = either_false _ _ (when_none _ Busy rows.1.1.0) in
    record {
      there = ltb-true _ _ (not_false _ (when_none _ Unknown rows.0));
      was_open = not_false _ (when_none _ (Closed c) rows.1.0);
      not_begun = not_stage _ Begun busy.0 refl;
      not_fetched = not_stage _ Fetched busy.1 refl;
    }

-- the stage of b after that of a became x
pub stage_set : (ss : List Stage) (a b : ℕ) (x y : Stage) → a < length ss → get_or (set ss a x) b Idle ≡ y
    → ((b ≡ a) × (x ≡ y)) ⊎ ((b ≢ a) × (get_or ss b Idle ≡ y))
stage_set ss a b x y lt e = elim (eqb_tells b a) [
  | inl h ↦ inl (h.1, let j : get_or (set ss a x) b Idle ≡ x = rw h.1 (get_or-set_same ss a x Idle lt) in cc)
  | inr h ↦ inr (h.1, sym (get_or-set_other ss a b x Idle h.1) ∙ e)
]
