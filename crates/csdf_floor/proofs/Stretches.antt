-- One segment more.
use Rattle.std.proofs.Common.{◌≡◌, ℕ, List, [], ◌∷◌, ◌++◌, ◌*◌, None, get_or, map, refl, ap, arith, sym, ◌∙◌}
use Rattle.std.specs.Prelude.{ℤ, sum_by}
use Rattle.std.proofs.lemmas.List.{append_assoc}
use Rattle.csdf_analysis.specs.Acceptance.{Accepted}
use Rattle.std.specs.List.{zip, AllZip}
use Rattle.std.proofs.lemmas.List.Sums.{sum_by-cons}
use Rattle.csdf_model.specs.Graph as graph
use Rattle.csdf_model.specs.Holding.{HasAsMany, HaveAsMany, channels_holding, with_initial}
use Rattle.csdf_analysis.specs.Continued.{continued}
use Rattle.csdf_core.specs.Planned.{with_capacity}
use Rattle.csdf_core.specs.Step.{given}
use Rattle.csdf_floor.specs.Journal.{program_for}
use Rattle.csdf_floor.proofs.JoinedStreams.{given_by}
use Rattle.csdf_floor.specs.Continuing.{AreExact, AskAsAtFirst, left_by, sink_in, GoesOnBySegments, at_last, sink_in_all, beyond}
use Rattle.csdf_floor.proofs.Continuing.{leaves_as_found}

pub goes_on_by_segments : GoesOnBySegments
goes_on_by_segments a [] ok is = record {
  accepted = ok;
  capacities = refl;
  cells = refl;
  continued = λ g played. played;
  whole = λ g whole. (whole, tt);
  goes = λ g. refl;
  sinks = λ g next t. refl;
}
goes_on_by_segments a (first ∷ past) ok is =
    let found = leaves_as_found a first ok is.0 in
    let rest = goes_on_by_segments (beyond a first) past found.accepted is.1 in
    record {
      accepted = rest.accepted;
      capacities = rest.capacities ∙ found.capacities;
      cells = rest.cells ∙ found.cells;
      continued = λ g played. (is.0, rest.continued g played);
      whole = λ g whole. (is.0, rest.whole g whole);
      goes = rest.goes;
      sinks = λ g next t.
          ap (λ (z : List ℤ). sink_in a t first ++ z) (rest.sinks g next t)
          ∙ sym (append_assoc (sink_in a t first) (sink_in_all (beyond a first) t past g)
          (sink_in (beyond (at_last (beyond a first) past) g) t next));
    }

-- ---- what is asked of the files

given_held : (i k : ℕ) (gs : List graph.Channel) (ts : List (List ℤ)) (caps : List ℕ) → AllZip HasAsMany gs ts
    → sum_by (given_by i k) (map with_capacity (zip (channels_holding ts gs) caps)) ≡ sum_by (given_by i k) (map with_capacity (zip gs caps))
given_held i k [] [] caps many = refl
given_held i k [] (t ∷ ts) caps many = absurd many
given_held i k (c ∷ gs) [] caps many = absurd many
given_held i k (c ∷ gs) (t ∷ ts) [] many = refl
given_held i k (c ∷ gs) (t ∷ ts) (b ∷ caps) many =
    let rest = given_held i k gs ts caps many.1 in
    let one = sum_by-cons (given_by i k) (with_capacity (with_initial (c, t), b)) (map with_capacity (zip (channels_holding ts gs) caps)) in
    let two = sum_by-cons (given_by i k) (with_capacity (c, b)) (map with_capacity (zip gs caps)) in
    omega arith

given_on : (a : Accepted) (ts : List (List ℤ)) (feeds : List (List ℤ)) (periods i k : ℕ) → HaveAsMany ts a.graph.channels
    → given (program_for (continued ts a) feeds periods None).plan i k ≡ given (program_for a feeds periods None).plan i k
unfolding given
given_on a ts feeds periods i k many = given_held i k a.graph.channels ts a.capacities many

exact_on : (a : Accepted) (ts : List (List ℤ)) (feeds : List (List ℤ)) (periods : ℕ) → HaveAsMany ts a.graph.channels → AreExact a feeds periods
    → AreExact (continued ts a) feeds periods
exact_on a ts feeds periods many exact i source = exact i source ∙ sym (given_on a ts feeds periods i (periods * get_or a.q i 0) many)

pub ask_as_at_first : AskAsAtFirst
ask_as_at_first a [] ok is = record { exact = λ feeds periods exact. exact; fed = λ feeds fed. fed; few_firings = λ periods few. few }
ask_as_at_first a (g ∷ past) ok is =
    let found = leaves_as_found a g ok is.0 in
    let rest = ask_as_at_first (beyond a g) past found.accepted is.1 in
    record {
      exact = λ feeds periods exact. rest.exact feeds periods (exact_on a (left_by a g) feeds periods found.as_many exact);
      fed = λ feeds fed. rest.fed feeds (record { each_actor = fed.each_actor; short = fed.short; only_sources = fed.only_sources });
      few_firings = λ periods few. rest.few_firings periods few;
    }
