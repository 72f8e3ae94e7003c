-- A stream's segments, one after the other.
use Rattle.std.proofs.Common.{◌≡◌, ℕ, ◌+◌, cond, List, [], ◌∷◌, ◌++◌, take, refl, ap, sym, ◌∙◌, arith, append_assoc, append-nil, zero, suc, length}
use Rattle.std.specs.Prelude.{ℤ, Option, not}
use Rattle.std.specs.Io.KnownBytes.{Appends}
use Rattle.std.proofs.KnownBytes.{Appends-trans}
use Rattle.std.proofs.lemmas.Grind.{flat_map-append}
use Rattle.std.proofs.lemmas.List.Sums.{sum_by-append}
use Rattle.csdf_bytes.specs.Device.{EmitsSome}
use Rattle.csdf_bytes.specs.Samples.{fits, written_bytes}
use Rattle.csdf_bytes.specs.TokenText.{token_line}
use Rattle.csdf_model.proofs.HoldingLemmas.{names_holding}
use Rattle.csdf_analysis.specs.Acceptance.{Accepted, IsAccepted}
use Rattle.csdf_floor.specs.Continuing.{AreWhole, IsPlayed, Segment, at_last, beyond, feeds_of, left_by, sink_in, sink_in_all}
use Rattle.csdf_core.specs.Rows.{joined}
use Rattle.csdf_floor.proofs.Joinings.{length_joined_feeds}
use Rattle.csdf_floor.specs.Work.{feed_of}
use Rattle.csdf_floor.proofs.Continuing.{leaves_as_found}
use Rattle.csdf_run.specs.Totals.{capped}
use Rattle.csdf_stream.specs.declared.options.TokenFormat.{TokenFormat}
use Rattle.csdf_stream.specs.declared.options.TokenFormat.TheVariants.{Text, Samples}
use Rattle.csdf_stream.specs.Flowing.{AreOneRun, IsAlike, IsBegun, fed, sunk}
use Rattle.csdf_stream.specs.Writing.{bytes_in, clipped_in}

-- ---- tokens of one segment more

pub fed_more : (past : List Segment) (g : Segment) (i : ℕ) → fed (past ++ g ∷ []) i ≡ fed past i ++ feed_of g.feeds i
fed_more [] g i = append-nil (feed_of g.feeds i)
fed_more (first ∷ past) g i =
    ap (λ (xs : List ℤ). feed_of first.feeds i ++ xs) (fed_more past g i) ∙ sym (append_assoc (feed_of first.feeds i) (fed past i) (feed_of g.feeds i))

pub sunk_more : (a : Accepted) (past : List Segment) (g : Segment) (t : ℕ) → sunk a (past ++ g ∷ []) t ≡ sunk a past t ++ sink_in (at_last a past) t g
sunk_more a [] g t = append-nil (sink_in a t g)
sunk_more a (first ∷ past) g t =
    ap (λ (xs : List ℤ). sink_in a t first ++ xs) (sunk_more (beyond a first) past g t)
    ∙ sym (append_assoc (sink_in a t first) (sunk (beyond a first) past t) (sink_in (at_last (beyond a first) past) t g))

-- ---- their bytes

pub bytes_more : (format : TokenFormat) (xs ys : List ℤ) → bytes_in format (xs ++ ys) ≡ bytes_in format xs ++ bytes_in format ys
bytes_more Text xs ys = flat_map-append token_line xs ys
bytes_more (Samples f) xs ys = flat_map-append (written_bytes f) xs ys

pub clipped_more : (format : TokenFormat) (xs ys : List ℤ) → clipped_in format (xs ++ ys) ≡ clipped_in format xs + clipped_in format ys
clipped_more Text xs ys = refl
clipped_more (Samples f) xs ys = sum_by-append (λ z. cond (not (fits f z)) 1 0) xs ys

pub no_bytes : (format : TokenFormat) → bytes_in format [] ≡ []
no_bytes Text = refl
no_bytes (Samples f) = refl

pub none_clipped : (format : TokenFormat) → clipped_in format [] ≡ 0
none_clipped Text = refl
none_clipped (Samples f) = refl

pub capped_sum : (x y : ℕ) → capped (capped x + y) ≡ capped (x + y)
capped_sum x y = omega arith

-- what was written before, and then a beginning of more
pub begun_on : (before middle after : Option (List ℕ)) (whole more : List ℕ) → Appends before middle whole → EmitsSome middle after more
    → IsBegun before after whole more
begun_on before middle after whole more one two = record {
  count = two.count;
  within = two.fits;
  put = Appends-trans before middle after whole (take two.count more) one two.put;
}

-- ---- the graph that goes on

pub alike_all : (a : Accepted) (past : List Segment) → IsAccepted a → AreWhole a past → IsAlike a (at_last a past)
alike_all a [] ok whole = record { actors = refl; names = refl; firings = refl }
alike_all a (g ∷ past) ok whole =
    let found = leaves_as_found a g ok whole.0 in
    let rest = alike_all (beyond a g) past found.accepted whole.1 in
    record {
      actors = rest.actors;
      names = rest.names ∙ names_holding a.graph.channels (left_by a g) found.as_many;
      firings = rest.firings;
    }

-- ---- one run

at_joined : (xs ys : List (List ℤ)) (i : ℕ) → length xs ≡ length ys → feed_of (joined xs ys) i ≡ feed_of xs i ++ feed_of ys i
at_joined [] [] i e = refl
at_joined [] (y ∷ ys) i e = absurd (omega arith)
at_joined (x ∷ xs) [] i e = absurd (omega arith)
at_joined (x ∷ xs) (y ∷ ys) zero e = refl
at_joined (x ∷ xs) (y ∷ ys) (suc i) e = at_joined xs ys i (omega arith)

feeds_each : (a : Accepted) (past : List Segment) (last : Segment) → AreWhole a past → IsPlayed (at_last a past) last → length (feeds_of past last) ≡ length a.graph.actors
feeds_each a [] last whole played = played.each_actor
feeds_each a (g ∷ past) last whole played =
    let rest = feeds_each (beyond a g) past last whole.1 played in
    length_joined_feeds g.feeds (feeds_of past last) (whole.0.played.each_actor ∙ sym rest) ∙ rest

fed_all : (a : Accepted) (past : List Segment) (last : Segment) (i : ℕ) → AreWhole a past → IsPlayed (at_last a past) last
    → fed (past ++ last ∷ []) i ≡ feed_of (feeds_of past last) i
fed_all a [] last i whole played = append-nil (feed_of last.feeds i)
fed_all a (g ∷ past) last i whole played =
    ap (λ (xs : List ℤ). feed_of g.feeds i ++ xs) (fed_all (beyond a g) past last i whole.1 played)
    ∙ sym (at_joined g.feeds (feeds_of past last) i (whole.0.played.each_actor ∙ sym (feeds_each (beyond a g) past last whole.1 played)))

sunk_all : (a : Accepted) (past : List Segment) (last : Segment) (t : ℕ) → sunk a (past ++ last ∷ []) t ≡ sink_in_all a t past last
sunk_all a [] last t = append-nil (sink_in a t last)
sunk_all a (g ∷ past) last t = ap (λ (xs : List ℤ). sink_in a t g ++ xs) (sunk_all (beyond a g) past last t)

pub one_run : (a : Accepted) (past : List Segment) (last : Segment) → AreWhole a past → IsPlayed (at_last a past) last → AreOneRun a past last
one_run a past last whole played = record {
  fed_alike = λ i. fed_all a past last i whole played;
  sunk_alike = λ t. sunk_all a past last t;
}
