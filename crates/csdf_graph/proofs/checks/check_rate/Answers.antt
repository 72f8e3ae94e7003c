use Rattle.std.proofs.Common.{◌==◌, not, sym, ◌∙◌, rules, tests}
use Rattle.std.proofs.lemmas.Iterator.{YieldsList-from_slice}
use Rattle.std.proofs.lemmas.Iterator.Search.{any_from_yields_List}
use Rattle.csdf_graph.proofs.CheckLemmas.{some_rate}
use Rattle.csdf_graph.proofs.checks.check_rate.Goals as goal

pub returns-then-any : goal.returns-then-any
returns-then-any c = sym c.if-any.true ∙ any_from_yields_List (λ x. not (x == 0)) _ _ _ c.any.ensures.ran (YieldsList-from_slice c.args.rates.now cc)
    (λ x b q k. search (rules, tests)) ∙ some_rate c.args.rates.now

pub returns : goal.returns
returns c = sym c.if-any.false ∙ any_from_yields_List (λ x. not (x == 0)) _ _ _ c.any.ensures.ran (YieldsList-from_slice c.args.rates.now cc)
    (λ x b q k. search (rules, tests)) ∙ some_rate c.args.rates.now
