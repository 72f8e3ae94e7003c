use Rattle.std.proofs.lemmas.Grind.{common_steps}
use Rattle.std.proofs.Common.{◌≡◌, ℕ, ◌<◌, ◌*◌, ◌-◌, ◌∙◌, [], ap, length, sym, arith, rules}
use Rattle.std.proofs.lemmas.Bool.{false≢true}
use Rattle.csdf_floor.proofs.Drafted.{values_alone}
use Rattle.csdf_floor.proofs.draft.Draft.evaluate.Goals as goal

pub invariant_of-self : goal.invariant_of-self
invariant_of-self c = (c.self.invariant.0, λ e. absurd (false≢true e))

pub invariant_of-self-in_err-eval_block : goal.invariant_of-self-in_err-eval_block
invariant_of-self-in_err-eval_block c = (c.self.invariant.0, λ e. absurd (false≢true e))

pub invariant_of-self-2 : goal.invariant_of-self-2
invariant_of-self-2 c =
    let none : c.self.inside.state.items ≡ [] = grind (arith, common_steps) in (
      c.self.invariant.0,
      λ _. (rw (c.as_slice.ensures, c.as_slice-2.ensures.value) at c.in_ok-eval_block.ensures.values)
          ∙ sym (values_alone c.self.inside.kernel c.self.inside.counts.items c.self.inside.is_first c.self.inside.need c.self.inside.before c.self.inside.firings
          c.self.inside.state.items c.self.inside.inputs.items none),
    )

pub eval_block-requires-clause-whole : goal.eval_block-requires-clause-whole
eval_block-requires-clause-whole c =
    let some : 0 < c.self.inside.firings = omega (arith, c.if-firings-eq0.false) in
    let none : length c.self.inside.state.items ≡ 0 = grind (arith, common_steps) in
    let whole = (c.self.invariant.0 some).whole in
    let same : c.self.inside.firings * (c.self.inside.need - length c.self.inside.state.items) ≡ c.self.inside.firings * c.self.inside.need =
    ap (λ (i : ℕ). c.self.inside.firings * i) (omega (arith, none)) in
    rw c.as_slice-2.ensures.value (omega (arith, whole, same))

pub returns-clause-made : goal.returns-clause-made
returns-clause-made c = search rules
