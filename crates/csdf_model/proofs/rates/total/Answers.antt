use Rattle.std.proofs.Common.{◌≡◌, ◌<◌, ◌+◌, ◌*◌, ◌/◌, ◌%◌, ◌^◌, [], length, take, sum, sym, ap, ◌∙◌, arith}
use Rattle.std.proofs.lemmas.Bool.{eqb-true, eqb-false}
use Rattle.std.proofs.lemmas.List.{length-take-le, nil_from_length}
use Rattle.csdf_model.specs.Rates.{total}
use Rattle.csdf_model.proofs.RateLemmas.{total_front, total_none, total_split, split_within}
use Rattle.csdf_model.proofs.rates.total.Goals as goal

pub returns-then-firings-rates : goal.returns-then-firings-rates
returns-then-firings-rates c = c.sum_of.ensures.value ∙ sym (total_front c.args.rates.now c.args.firings c.if-firings-rates.true)

pub returns-then-is_empty : goal.returns-then-is_empty
returns-then-is_empty c =
    let none : c.args.rates.now ≡ [] = nil_from_length c.args.rates.now (eqb-true (length c.args.rates.now) 0 (sym c.is_empty.ensures ∙ c.if-is_empty.true)) in
    sym (ap (λ rates. total rates c.args.firings) none ∙ total_none c.args.firings)

pub overflow_mul-result : goal.overflow_mul-result
overflow_mul-result c =
    let fits : c.sum_of-2.result * (c.args.firings / length c.args.rates.now) + 0 < 2 ^ 64 =
    split_within c.args.firings (length c.args.rates.now) c.sum_of-2.result 0 (omega arith) c.sum_of-2.ensures.within (omega arith) in
    omega arith

pub overflow_add-result : goal.overflow_add-result
overflow_add-result c =
    let nonzero : length c.args.rates.now ≡ 0 → ⊥ = eqb-false (length c.args.rates.now) 0 (sym c.is_empty.ensures ∙ c.if-is_empty.false) in
    let some : 0 < length c.args.rates.now = omega (arith, nonzero) in
    let len : length (take (c.args.firings % length c.args.rates.now) c.args.rates.now) ≡ c.args.firings % length c.args.rates.now =
    length-take-le _ c.args.rates.now (omega arith) in
    let fits : c.sum_of-2.result * (c.args.firings / length c.args.rates.now) + c.sum_of-3.result < 2 ^ 64 =
    split_within c.args.firings (length c.args.rates.now) c.sum_of-2.result c.sum_of-3.result (omega arith) c.sum_of-2.ensures.within (omega arith) in
    omega arith

pub returns : goal.returns
returns c =
    let nonzero : length c.args.rates.now ≡ 0 → ⊥ = eqb-false (length c.args.rates.now) 0 (sym c.is_empty.ensures ∙ c.if-is_empty.false) in
    let some : 0 < length c.args.rates.now = omega (arith, nonzero) in
    let whole : total c.args.rates.now c.args.firings ≡ sum c.args.rates.now * (c.args.firings / length c.args.rates.now)
    + sum (take (c.args.firings % length c.args.rates.now) c.args.rates.now) = total_split c.args.rates.now c.args.firings some in
    rw (c.sum_of-2.ensures.value, c.sum_of-3.ensures.value) (sym whole)
