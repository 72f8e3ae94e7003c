use Rattle.std.proofs.Common.{refl}
use Rattle.csdf_floor.proofs.ending.ending_of.Goals as goal

pub returns-then-is_some_refused : goal.returns-then-is_some_refused
returns-then-is_some_refused c = (λ all. (let no = c.if-are_all_spent.ensures.1 all in absurd (cc)), c.if-is_some_refused.ensures.0 refl)

pub returns-then-are_all_spent : goal.returns-then-are_all_spent
returns-then-are_all_spent c = c.if-are_all_spent.ensures.0 refl

pub returns-then-is_some_refused-2 : goal.returns-then-is_some_refused-2
returns-then-is_some_refused-2 c = (λ all. (let no = c.if-are_all_spent.ensures.1 all in absurd (cc)), c.if-is_some_refused-2.ensures.0 refl)

pub returns-else-is_some_refused-2 : goal.returns-else-is_some_refused-2
returns-else-is_some_refused-2 c = (
  λ all. (let no = c.if-are_all_spent.ensures.1 all in absurd (cc)),
  λ some. (let no = c.if-is_some_refused.ensures.1 some in absurd (cc)),
  λ some. (let no = c.if-is_some_refused-2.ensures.1 some in absurd (cc)),
)
