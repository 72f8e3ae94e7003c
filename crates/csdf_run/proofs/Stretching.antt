-- A stream goes on by a segment.
use Rattle.std.proofs.Common.{◌≡◌, ℕ, Bool, true, false, inl, inr, List, [], ◌∷◌, ◌++◌, length, map, refl, ap, sym, subst, ◌∙◌, None}
use Rattle.std.specs.Prelude.{ℤ, ◌⊎◌, ◌↔◌}
use Rattle.std.specs.Global.{Vec}
use Rattle.std.specs.List.{zip}
use Rattle.csdf_analysis.specs.Acceptance.{Accepted, IsAccepted}
use Rattle.csdf_analysis.specs.Continued.{continued}
use Rattle.csdf_model.specs.Holding.{HaveAsMany}
use Rattle.csdf_core.specs.Plan.{Plan}
use Rattle.csdf_core.specs.State.{Present, present}
use Rattle.csdf_floor.specs.declared.ending.Ending.{Ending}
use Rattle.csdf_floor.specs.declared.ending.Ending.TheVariants.{Complete, Stopped, Starved, Dry}
use Rattle.csdf_floor.specs.declared.outcome.ChannelReport.{ChannelReport}
use Rattle.csdf_floor.specs.declared.outcome.Outcome.{Outcome}
use Rattle.csdf_floor.specs.Continuing.{AreExact, IsAsOne, IsPlayed, IsWhole, Segment, beyond, end_of, program_of, segment_in}
use Rattle.csdf_floor.specs.Endings.{IsEnding}
use Rattle.csdf_floor.specs.Journal.{state_of}
use Rattle.csdf_floor.specs.Laws.{AllSpent, IsExhausted, IsFree}
use Rattle.csdf_floor.specs.Outcome.{IsOutcome, journal_in, report_on}
use Rattle.csdf_floor.specs.Work.{Work, feeds_in, program}
use Rattle.csdf_floor.proofs.Continuing.{leaves_as_found, segments_are_one_run}
use Rattle.csdf_floor.proofs.Lefts.{complete_is_whole}
use Rattle.csdf_floor.proofs.Quiet.{quiet_is_exhausted}
use Rattle.csdf_floor.proofs.Stretches.{goes_on_by_segments}
use Rattle.csdf_run.specs.declared.stream.Part.{Part}
use Rattle.csdf_run.specs.declared.totals.ChannelTotal.{ChannelTotal}
use Rattle.csdf_run.specs.Totals.{totals_of, with_report}
use Rattle.csdf_run.proofs.Totalling.{totals_more}
use Rattle.csdf_run.specs.Streaming.{IsAfter, IsStretch, StandsAfter, StreamView}
use Rattle.csdf_run.specs.Texts.{work_for}

-- the channels hold as many tokens as they began with
pub many_left : (w : Work) (o : Outcome) → IsAccepted w.accepted → length w.feeds ≡ length w.accepted.graph.actors
    → AreExact w.accepted w.feeds w.periods → IsOutcome w o → o.ending ≡ Complete → HaveAsMany (feeds_in o.left.items) w.accepted.graph.channels
many_left w o ok each exact is complete =
    subst (λ (ts : List (List ℤ)). HaveAsMany ts w.accepted.graph.channels) (sym is.left)
    (leaves_as_found w.accepted (segment_in w o) ok (complete_is_whole w o each exact is complete)).as_many

free_end : (plan : Plan) (p : Present) (e : Ending) → IsEnding plan p e → (e ≡ Complete) ⊎ (e ≡ Dry) → AllSpent plan p ⊎ IsFree plan p
free_end plan p Complete is free = inl is
free_end plan p Dry is free = inr (λ a lt. ((λ e. is.1 (a, lt, e)), (λ e. is.2 (a, lt, e))))
free_end plan p Stopped is (inl e) = absurd (cc)
free_end plan p Stopped is (inr e) = absurd (cc)
free_end plan p Starved is (inl e) = absurd (cc)
free_end plan p Starved is (inr e) = absurd (cc)

-- a stream that isn't over went on
went_on : (a : Accepted) (o : Outcome) (e : Ending) (is_exact : Bool) (new : StreamView) → o.ending ≡ e → IsAfter a o is_exact new → new.is_over ≡ false
    → (is_exact ≡ true) × (o.ending ≡ Complete)
went_on a o e false new is after goes = absurd (let shut = (after.inexact refl).1 in cc)
went_on a o Complete true new is after goes = (refl, is)
went_on a o Dry true new is after goes = absurd (let shut = (after.incomplete (λ c. (let e : Dry ≡ Complete = sym is ∙ c in absurd cc))).1 in cc)
went_on a o Stopped true new is after goes = absurd (let shut = (after.incomplete (λ c. (let e : Stopped ≡ Complete = sym is ∙ c in absurd cc))).1 in cc)
went_on a o Starved true new is after goes = absurd (let shut = (after.incomplete (λ c. (let e : Starved ≡ Complete = sym is ∙ c in absurd cc))).1 in cc)

-- one that is over stands where it stood
stood : (a : Accepted) (o : Outcome) (e : Ending) (is_exact : Bool) (new : StreamView) → o.ending ≡ e → IsAfter a o is_exact new → new.is_over ≡ true
    → new.accepted ≡ a
stood a o e false new is after shut = (after.inexact refl).0
stood a o Complete true new is after shut = absurd (let goes = (after.goes_on refl is).1 in cc)
stood a o Dry true new is after shut = (after.incomplete (λ c. (let e : Dry ≡ Complete = sym is ∙ c in absurd cc))).0
stood a o Stopped true new is after shut = (after.incomplete (λ c. (let e : Stopped ≡ Complete = sym is ∙ c in absurd cc))).0
stood a o Starved true new is after shut = (after.incomplete (λ c. (let e : Starved ≡ Complete = sym is ∙ c in absurd cc))).0

pub stretch_of : (old new : StreamView) (feeds : List (List ℤ)) (periods : ℕ) (is_exact : Bool) (o : Outcome) (part : Part)
    → IsAccepted old.accepted → length feeds ≡ length old.accepted.graph.actors → (is_exact ≡ true) ↔ AreExact old.accepted feeds periods
    → IsOutcome (work_for old.accepted feeds periods None) o → IsAfter old.accepted o is_exact new
    → new.totals ≡ map with_report (zip old.totals o.report.items)
    → part.ending ≡ o.ending → part.sinks ≡ o.sinks → part.report ≡ o.report → IsStretch old feeds periods new part
stretch_of old new feeds periods is_exact o part ok each exact is after told ending sinks report =
    let w : Work = work_for old.accepted feeds periods None in
    let g : Segment = segment_in w o in
    let played : IsPlayed old.accepted g = record { honest = is.honest; each_actor = each } in
    let ended : IsEnding (program w).plan (present (state_of (program w) (journal_in o))) part.ending =
    subst (λ (e : Ending). IsEnding (program w).plan (present (state_of (program w) (journal_in o))) e) (sym ending) is.ending in
    let totals : (first : Accepted) (past : List Segment) → StandsAfter first past old → new.totals ≡ totals_of first (past ++ g ∷ []) =
    λ first past stands.
    (let next = goes_on_by_segments first past stands.accepted stands.whole in
    told
    ∙ ap (λ (ts : List ChannelTotal). map with_report (zip ts o.report.items)) stands.totals
    ∙ ap (λ (rs : List ChannelReport). map with_report (zip (totals_of first past) rs)) is.report
    ∙ ap (λ (a : Accepted). map with_report (zip (totals_of first past) (report_on (program_of a g) g.journal))) stands.here
    ∙ totals_more first past g stands.accepted stands.whole next.accepted) in
    record {
      segment = g;
      told = record {
        feeds = refl;
        periods = refl;
        firings = refl;
        played = played;
        sinks = ap (λ (v : Vec (Vec ℤ)). feeds_in v.items) sinks ∙ is.sinks;
        report = ap (λ (v : Vec ChannelReport). v.items) report ∙ is.report;
        ending = ended;
      };
      run = λ first past actors stands sequential.
          (let next = goes_on_by_segments first past stands.accepted stands.whole in
          let one : IsAsOne first past g actors =
          segments_are_one_run first past g actors stands.accepted
          (next.continued g (subst (λ (a : Accepted). IsPlayed a g) stands.here played)) sequential in
          record {
            as_one = one;
            ends = λ why. one.ends
                (subst (λ (a : Accepted). IsExhausted (program_of a g).plan (present (end_of a g))) stands.here
                (quiet_is_exhausted (program w) (journal_in o) is.honest is.settled.quiet
                (free_end (program w).plan (present (state_of (program w) (journal_in o))) part.ending ended why)));
          });
      goes_on = λ just complete. (after.goes_on (exact.1 just) (sym ending ∙ complete)).1;
      stands = λ goes first past stands.
          (let went = went_on old.accepted o o.ending is_exact new refl after goes in
          let whole : IsWhole old.accepted g = complete_is_whole w o each (exact.0 went.0) is went.1 in
          let next = goes_on_by_segments first past stands.accepted stands.whole in
          record {
            accepted = stands.accepted;
            whole = next.whole g (subst (λ (a : Accepted). IsWhole a g) stands.here whole);
            here = (after.goes_on went.0 went.1).0
                ∙ ap (λ (ts : List (List ℤ)). continued ts old.accepted) is.left
                ∙ ap (λ (a : Accepted). beyond a g) stands.here
                ∙ sym (next.goes g);
            totals = totals first past stands;
          });
      totals = totals;
      over = λ shut. stood old.accepted o o.ending is_exact new refl after shut;
    }
