use Rattle.std.proofs.lemmas.Grind.{common_steps}
use Rattle.std.proofs.Common.{rules, ◌≡◌, ℕ, ◌<◌, ◌+◌, ◌∷◌, [], suc, List, length, get_or, drop, ap, sym, subst, ◌∙◌, arith, drop-cons}
use Rattle.std.specs.Prelude.{ℤ, IfSome, slice_get}
use Rattle.std.specs.Global.{Vec}
use Rattle.std.specs.Vec.Iter.{into_iter_items}
use Rattle.csdf_model.specs.Holding.{HasAsMany, HaveAsMany}
use Rattle.csdf_analysis.specs.Acceptance.{Accepted}
use Rattle.csdf_analysis.specs.Continued.{accepted_beginning, beginning_from, lists_in}
use Rattle.csdf_analysis.proofs.ContinuedLemmas.{beginning_all, many_still, many_at, many_length, nothing, rest_of}
use Rattle.csdf_analysis.proofs.accepted.Accepted.going_on.Goals as goal
use Rattle.csdf_analysis.proofs.accepted.Accepted.going_on.Goals.{In-Some}

module _ (c : In-Some) where
  abbrev vs : List (List ℤ)
  vs = lists_in c.args.left.items

  abbrev n : ℕ
  n = c.loop-tokens.channel

  parts : into_iter_items c.loop-tokens.tokens-iterator ≡ c.in-Some.tokens ∷ into_iter_items c.next.new.self
  parts = search rules

  less : n < length vs
  less = let count = c.loop-tokens.invariant.count in let one = ap (λ (xs : List (Vec ℤ)). length xs) parts in omega arith

  both : c.in-Some.tokens.items ∷ lists_in (into_iter_items c.next.new.self) ≡ get_or vs n [] ∷ drop (suc n) vs
  both = sym (ap (λ (xs : List (Vec ℤ)). lists_in xs) parts) ∙ c.loop-tokens.invariant.rest ∙ drop-cons vs n [] less

  here : c.in-Some.tokens.items ≡ get_or vs n []
  here = ap (λ (xs : List (List ℤ)). get_or xs 0 []) both

  rest : lists_in (into_iter_items c.next.new.self) ≡ drop (suc n) vs
  rest = ap (λ (xs : List (List ℤ)). rest_of xs) both

  many : IfSome (slice_get c.loop-tokens.next.graph.channels n) (λ d. HasAsMany d c.in-Some.tokens.items)
  many = subst (λ (v : List ℤ). IfSome (slice_get c.loop-tokens.next.graph.channels n) (λ d. HasAsMany d v)) (sym here)
      (many_at n c.loop-tokens.next.graph.channels vs c.loop-tokens.invariant.many)

  each : length vs ≡ length c.loop-tokens.next.graph.channels
  each = many_length c.loop-tokens.next.graph.channels vs c.loop-tokens.invariant.many

pub begin_with-requires-clause-exists : goal.begin_with-requires-clause-exists
begin_with-requires-clause-exists c =
    let at : In-Some = (goal.at.begin_with-requires-clause-exists c).In-Some in
    let l = less at in
    let e = each at in
    omega arith

pub begin_with-requires-clause-as_many : goal.begin_with-requires-clause-as_many
begin_with-requires-clause-as_many c = many (goal.at.begin_with-requires-clause-as_many c).In-Some

pub overflow_add-channel : goal.overflow_add-channel
overflow_add-channel c =
    let at : In-Some = (goal.at.overflow_add-channel c).In-Some in
    let l = less at in
    let e = each at in
    let few = c.loop-tokens.invariant.ok.well_formed.fitting.few_channels in
    omega arith

pub loop-tokens-preserved : goal.loop-tokens-preserved
loop-tokens-preserved c =
    let at : In-Some = (goal.at.loop-tokens-preserved c).In-Some in
    let inv = c.loop-tokens.invariant in
    let new : c.begin_with.new.self ≡ accepted_beginning (n at) (get_or (vs at) (n at) []) c.loop-tokens.next =
    c.begin_with.ensures.value ∙ ap (λ (v : List ℤ). accepted_beginning (n at) v c.loop-tokens.next) (here at) in
    let next : c.loop-tokens.channel + 1 ≡ suc c.loop-tokens.channel = omega arith in
    record {
      goes = ap (λ m. beginning_from m (lists_in (into_iter_items c.next.new.self)) c.begin_with.new.self) next
          ∙ ap (λ (ts : List (List ℤ)). beginning_from (suc (n at)) ts c.begin_with.new.self) (rest at)
          ∙ ap (beginning_from (suc (n at)) (drop (suc (n at)) (vs at))) new
          ∙ sym (ap (λ (ts : List (List ℤ)). beginning_from (n at) ts c.loop-tokens.next)
          (inv.rest ∙ drop-cons (vs at) (n at) [] (less at)))
          ∙ inv.goes;
      rest = rest at ∙ ap (λ m. drop m (vs at)) (sym next);
      count = (let one = ap (λ (xs : List (Vec ℤ)). length xs) (parts at) in let was = inv.count in omega arith);
      many = subst (λ (a : Accepted). HaveAsMany (vs at) a.graph.channels) (sym new)
          (many_still (n at) c.loop-tokens.next.graph.channels (vs at) inv.many);
      ok = c.begin_with.ensures.accepted;
    }

pub returns-clause-value : goal.returns-clause-value
returns-clause-value c =
    let vs : List (List ℤ) = lists_in c.args.left.items in
    let none : into_iter_items c.loop-tokens.tokens-iterator ≡ [] = nothing (into_iter_items c.loop-tokens.tokens-iterator) (search rules) in
    sym (ap (λ (xs : List (Vec ℤ)). beginning_from c.loop-tokens.channel (lists_in xs) c.loop-tokens.next) none)
    ∙ c.loop-tokens.invariant.goes
    ∙ beginning_all c.args.self vs c.requires

pub returns-clause-accepted : goal.returns-clause-accepted
returns-clause-accepted c = c.loop-tokens.invariant.ok
