-- The totals of a stream's channels go on by a segment.
use Rattle.std.proofs.Common.{◌≡◌, ℕ, zero, suc, ◌+◌, ◌<◌, ◌≤◌, List, [], ◌∷◌, ◌++◌, length, map, get_or, set, replicate, refl, ap, sym, subst, ◌∙◌, arith}
use Rattle.std.specs.Prelude.{max}
use Rattle.std.specs.List.{range_with_len, zip}
use Rattle.std.proofs.lemmas.List.{length-map}
use Rattle.std.proofs.lemmas.List.FromFn.{length-map-range_with_len}
use Rattle.std.proofs.lemmas.Slice.Zip.{length-zip}
use Rattle.csdf_analysis.specs.Acceptance.{Accepted, IsAccepted}
use Rattle.csdf_model.proofs.HoldingLemmas.{length_holding}
use Rattle.csdf_core.specs.Planned.{with_capacity}
use Rattle.csdf_floor.specs.declared.outcome.ChannelReport.{ChannelReport}
use Rattle.csdf_floor.specs.declared.outcome.Outcome.{Outcome}
use Rattle.csdf_floor.specs.Continuing.{AreWhole, Segment, at_last, beyond, program_of, segment_in}
use Rattle.csdf_floor.specs.Outcome.{IsOutcome, journal_in, report_of, report_on}
use Rattle.csdf_floor.specs.Work.{Work, program}
use Rattle.csdf_floor.proofs.Continuing.{leaves_as_found}
use Rattle.csdf_run.specs.declared.totals.ChannelTotal.{ChannelTotal}
use Rattle.csdf_run.specs.Totals.{capped, no_total, with_report, report_in, written_in_all, taken_in_all, peak_in_all, total_of, totals_of}

-- ---- of none

map_same : {A : Type 0} (f : ℕ → A) (x : A) → ((i : ℕ) → f i ≡ x) → (k n : ℕ) → map f (range_with_len k n) ≡ replicate n x
map_same f x same k zero = refl
map_same f x same k (suc n) =
    ap (λ y. y ∷ map f (range_with_len (k + 1) n)) (same k) ∙ ap (λ ys. x ∷ ys) (map_same f x same (k + 1) n)

pub totals_at_first : (a : Accepted) → replicate (length a.graph.channels) no_total ≡ totals_of a []
totals_at_first a = sym (map_same (total_of a []) no_total (λ i. refl) 0 (length a.graph.channels))

-- ---- of one more

written_more : (a : Accepted) (past : List Segment) (g : Segment) (c : ℕ)
    → written_in_all a (past ++ g ∷ []) c ≡ written_in_all a past c + (report_in (at_last a past) g c).written
written_more a [] g c = (let e : (report_in a g c).written + 0 ≡ 0 + (report_in a g c).written = omega arith in e)
written_more a (first ∷ past) g c = (let rest = written_more (beyond a first) past g c in omega arith)

taken_more : (a : Accepted) (past : List Segment) (g : Segment) (c : ℕ)
    → taken_in_all a (past ++ g ∷ []) c ≡ taken_in_all a past c + (report_in (at_last a past) g c).taken
taken_more a [] g c = (let e : (report_in a g c).taken + 0 ≡ 0 + (report_in a g c).taken = omega arith in e)
taken_more a (first ∷ past) g c = (let rest = taken_more (beyond a first) past g c in omega arith)

peak_more : (a : Accepted) (past : List Segment) (g : Segment) (c : ℕ)
    → peak_in_all a (past ++ g ∷ []) c ≡ max (peak_in_all a past c) (report_in (at_last a past) g c).peak
peak_more a [] g c = (let e : max (report_in a g c).peak 0 ≡ max 0 (report_in a g c).peak = omega arith in e)
peak_more a (first ∷ past) g c = (let rest = peak_more (beyond a first) past g c in omega arith)

capped_more : (sum more : ℕ) → capped (sum + more) ≡ capped (capped sum + more)
capped_more sum more = omega arith

total_more : (a : Accepted) (past : List Segment) (g : Segment) (c : ℕ)
    → total_of a (past ++ g ∷ []) c ≡ with_report (total_of a past c, report_in (at_last a past) g c)
total_more a past g c =
    ap (λ n. record { written = capped n; taken = capped (taken_in_all a (past ++ g ∷ []) c); peak = peak_in_all a (past ++ g ∷ []) c }) (written_more a past g c)
    ∙ ap (λ n. record {
      written = capped (written_in_all a past c + (report_in (at_last a past) g c).written);
      taken = capped n;
      peak = peak_in_all a (past ++ g ∷ []) c;
    }) (taken_more a past g c)
    ∙ ap (λ n. record {
      written = capped (written_in_all a past c + (report_in (at_last a past) g c).written);
      taken = capped (taken_in_all a past c + (report_in (at_last a past) g c).taken);
      peak = n;
    }) (peak_more a past g c)
    ∙ ap (λ n. record {
      written = n;
      taken = capped (taken_in_all a past c + (report_in (at_last a past) g c).taken);
      peak = max (peak_in_all a past c) (report_in (at_last a past) g c).peak;
    }) (capped_more (written_in_all a past c) (report_in (at_last a past) g c).written)
    ∙ ap (λ n. record {
      written = capped (capped (written_in_all a past c) + (report_in (at_last a past) g c).written);
      taken = n;
      peak = max (peak_in_all a past c) (report_in (at_last a past) g c).peak;
    }) (capped_more (taken_in_all a past c) (report_in (at_last a past) g c).taken)

-- ---- of each channel

zip_maps : (f : ℕ → ChannelTotal) (h : ℕ → ChannelReport) (k n : ℕ)
    → map with_report (zip (map f (range_with_len k n)) (map h (range_with_len k n))) ≡ map (λ c. with_report (f c, h c)) (range_with_len k n)
zip_maps f h k zero = refl
zip_maps f h k (suc n) = ap (λ ys. with_report (f k, h k) ∷ ys) (zip_maps f h (k + 1) n)

map_each : (f h : ℕ → ChannelTotal) → ((i : ℕ) → f i ≡ h i) → (k n : ℕ) → map f (range_with_len k n) ≡ map h (range_with_len k n)
map_each f h same k zero = refl
map_each f h same k (suc n) = ap (λ y. y ∷ map f (range_with_len (k + 1) n)) (same k) ∙ ap (λ ys. h k ∷ ys) (map_each f h same (k + 1) n)

channels_at_last : (a : Accepted) (past : List Segment) → IsAccepted a → AreWhole a past
    → length (at_last a past).graph.channels ≡ length a.graph.channels
channels_at_last a [] ok whole = refl
channels_at_last a (g ∷ past) ok whole =
    let found = leaves_as_found a g ok whole.0 in
    channels_at_last (beyond a g) past found.accepted whole.1 ∙ length_holding a.graph.channels _ found.as_many

plan_channels : (a : Accepted) (g : Segment) → IsAccepted a → length (program_of a g).plan.channels ≡ length a.graph.channels
plan_channels a g ok =
    let len = length-map (zip a.graph.channels a.capacities) with_capacity in
    let both = length-zip a.graph.channels a.capacities in
    let each = ok.least.completes.each_channel in
    omega arith

pub told_each : (w : Work) (o : Outcome) → IsAccepted w.accepted → IsOutcome w o → length o.report.items ≡ length w.accepted.graph.channels
told_each w o ok is =
    ap (λ (rs : List ChannelReport). length rs) is.report
    ∙ length-map-range_with_len (report_of (program w) (journal_in o)) 0 (length (program w).plan.channels)
    ∙ plan_channels w.accepted (segment_in w o) ok

pub totals_more : (a : Accepted) (past : List Segment) (g : Segment) → IsAccepted a → AreWhole a past → IsAccepted (at_last a past)
    → map with_report (zip (totals_of a past) (report_on (program_of (at_last a past) g) g.journal)) ≡ totals_of a (past ++ g ∷ [])
totals_more a past g ok whole here =
    let len : length (program_of (at_last a past) g).plan.channels ≡ length a.graph.channels =
    plan_channels (at_last a past) g here ∙ channels_at_last a past ok whole in
    ap (λ n. map with_report (zip (totals_of a past) (map (report_in (at_last a past) g) (range_with_len 0 n)))) len
    ∙ zip_maps (total_of a past) (report_in (at_last a past) g) 0 (length a.graph.channels)
    ∙ map_each (λ c. with_report (total_of a past c, report_in (at_last a past) g c)) (total_of a (past ++ g ∷ []))
    (λ c. sym (total_more a past g c)) 0 (length a.graph.channels)

-- ---- as the code adds them, channel after channel

abbrev pub AreAdded : ℕ → List ChannelTotal → List ChannelReport → List ChannelTotal → Type 0
AreAdded i [] [] [] = Unit {0}
AreAdded i [] [] (z ∷ zs) = ⊥
AreAdded i [] (y ∷ ys) zs = ⊥
AreAdded i (x ∷ xs) [] zs = ⊥
AreAdded i (x ∷ xs) (y ∷ ys) [] = ⊥
AreAdded zero (x ∷ xs) (y ∷ ys) (z ∷ zs) = (z ≡ x) × AreAdded zero xs ys zs
AreAdded (suc i) (x ∷ xs) (y ∷ ys) (z ∷ zs) = (z ≡ with_report (x, y)) × AreAdded i xs ys zs

pub added_none : (xs : List ChannelTotal) (ys : List ChannelReport) → length xs ≡ length ys → AreAdded 0 xs ys xs
added_none [] [] each = tt
added_none [] (y ∷ ys) each = absurd (omega arith)
added_none (x ∷ xs) [] each = absurd (omega arith)
added_none (x ∷ xs) (y ∷ ys) each = (refl, added_none xs ys (omega arith))

added_one : (i : ℕ) (xs : List ChannelTotal) (ys : List ChannelReport) (zs : List ChannelTotal) (d : ChannelTotal) (e : ChannelReport) → i < length ys
    → AreAdded i xs ys zs → AreAdded (suc i) xs ys (set zs i (with_report (get_or zs i d, get_or ys i e)))
added_one i [] [] [] d e lt so = absurd (omega arith)
added_one i [] [] (c ∷ zs) d e lt so = absurd so
added_one i [] (b ∷ ys) zs d e lt so = absurd so
added_one i (a ∷ xs) [] zs d e lt so = absurd so
added_one i (a ∷ xs) (b ∷ ys) [] d e lt so = absurd so
added_one zero (a ∷ xs) (b ∷ ys) (c ∷ zs) d e lt so = (ap (λ (t : ChannelTotal). with_report (t, b)) so.0, so.1)
added_one (suc i) (a ∷ xs) (b ∷ ys) (c ∷ zs) d e lt so = (so.0, added_one i xs ys zs d e (omega arith) so.1)

pub added_next : (i : ℕ) (xs : List ChannelTotal) (ys : List ChannelReport) (zs : List ChannelTotal) (d r : ChannelTotal) (e : ChannelReport)
    → i < length ys → AreAdded i xs ys zs → r ≡ with_report (get_or zs i d, get_or ys i e) → AreAdded (i + 1) xs ys (set zs i r)
added_next i xs ys zs d r e lt so is =
    let next : suc i ≡ i + 1 = omega arith in
    subst (λ n. AreAdded n xs ys (set zs i r)) next
    (subst (λ (t : ChannelTotal). AreAdded (suc i) xs ys (set zs i t)) (sym is) (added_one i xs ys zs d e lt so))

pub added_all : (i : ℕ) (xs : List ChannelTotal) (ys : List ChannelReport) (zs : List ChannelTotal) → length ys ≤ i → AreAdded i xs ys zs
    → zs ≡ map with_report (zip xs ys)
added_all i [] [] [] le so = refl
added_all i [] [] (c ∷ zs) le so = absurd so
added_all i [] (b ∷ ys) zs le so = absurd so
added_all i (a ∷ xs) [] zs le so = absurd so
added_all i (a ∷ xs) (b ∷ ys) [] le so = absurd so
added_all zero (a ∷ xs) (b ∷ ys) (c ∷ zs) le so = absurd (omega arith)
added_all (suc i) (a ∷ xs) (b ∷ ys) (c ∷ zs) le so =
    ap (λ t. t ∷ zs) so.0 ∙ ap (λ ts. with_report (a, b) ∷ ts) (added_all i xs ys zs (omega arith) so.1)
