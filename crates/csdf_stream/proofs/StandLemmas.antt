-- A stream on its way, after any number of segments.
use Rattle.std.proofs.Common.{◌≡◌, ℕ, zero, suc, ◌+◌, ◌-◌, ◌*◌, ◌<◌, ◌≤◌, cond, Bool, true, false, List, [], ◌∷◌, ◌++◌, length, map, get_or, refl, ap, sym, subst, ◌∙◌, inl, inr, arith}
use Rattle.std.specs.Prelude.{◌≢◌, ℤ, Option, None, Some, min, IfSome, All}
use Rattle.std.proofs.lemmas.List.{get_or-map, length-map}
use Rattle.std.proofs.lemmas.List.FromFn.{get_or-map-range_with_len}
use Rattle.csdf_model.specs.declared.parts.Kernel.{Kernel}
use Rattle.csdf_model.specs.Graph.{Actor, Graph}
use Rattle.csdf_model.specs.Kernels.{is_sink_kernel, is_source_kernel}
use Rattle.csdf_analysis.specs.Acceptance.{Accepted, IsAccepted}
use Rattle.csdf_floor.specs.Continuing.{AreWhole, Segment, at_last, periods_of, program_of, sink_in}
use Rattle.csdf_floor.specs.Floor.{sink_of, sinks_of}
use Rattle.csdf_floor.specs.Work.{AreFeeds, feeds_in}
use Rattle.csdf_run.specs.Streaming.{StandsAfter}
use Rattle.csdf_stream.specs.declared.flow.Flow.{Flow}
use Rattle.csdf_stream.specs.declared.flow.FlowPlan.{FlowPlan}
use Rattle.csdf_stream.specs.Feeding.{source_at}
use Rattle.csdf_stream.specs.Flowing.{AreBuffersFor, Devices, HaveClipped, HaveRead, HaveWritten, IsAlike, IsReady, IsSegmentOf}
use Rattle.csdf_stream.specs.Lengths.{left_after}
use Rattle.csdf_stream.specs.Ports.{numbers_from, sinks_in, sources_in}
use Rattle.csdf_stream.specs.Writing.{of_sink}
use Rattle.csdf_stream.proofs.FlowLemmas.{alike_all}
use Rattle.csdf_stream.proofs.PortLemmas.{IsNumber, number_at}

-- how many periods all segments have
abbrev pub periods_in : List Segment → ℕ
periods_in [] = 0
periods_in (g ∷ more) = g.periods + periods_in more

pub periods_more : (past : List Segment) (g : Segment) → periods_in (past ++ g ∷ []) ≡ periods_in past + g.periods
periods_more [] g = omega arith
periods_more (first ∷ past) g = (let rest = periods_more past g in omega arith)

pub periods_all : (past : List Segment) (g : Segment) → periods_of past g ≡ periods_in past + g.periods
periods_all [] g = omega arith
periods_all (first ∷ past) g = (let rest = periods_all past g in omega arith)

-- how many periods are left of those that are asked for
abbrev pub IsLeft : Option ℕ → List Segment → Option ℕ → Type 0
IsLeft None past None = Unit {0}
IsLeft None past (Some n) = ⊥
IsLeft (Some k) past None = ⊥
IsLeft (Some k) past (Some n) = (1 ≤ n) × (periods_in past + n ≡ k)

-- a flow after these segments
pub record Stands (a : Accepted) (p : FlowPlan) (asked : Option ℕ) (d : Devices) (past : List Segment) (flow : Flow) : Type 0 where
  pub stream : StandsAfter a past flow.stream
  pub goes : flow.stream.is_over ≡ false
  pub read : HaveRead p.format p.sources.items past flow.buffers.readers.items d
  pub written : HaveWritten p.format a p.sinks.items past d
  pub clipped : HaveClipped p.format a p.sinks.items past flow.buffers.clipped.items
  pub left : IsLeft asked past flow.left
  pub readers : length flow.buffers.readers.items ≡ length p.sources.items
  pub counts : length flow.buffers.clipped.items ≡ length p.sinks.items
  pub feeds : AreFeeds a.graph (feeds_in flow.buffers.feeds.items)

-- ---- what depends on actors and firings alone

feeds_alike : (g h : Graph) (fs : List (List ℤ)) → h.actors ≡ g.actors → AreFeeds g fs → AreFeeds h fs
feeds_alike g h fs same is = record {
  each_actor = is.each_actor ∙ ap (λ (actors : List Actor). length actors) (sym same);
  short = is.short;
  only_sources = λ i none. is.only_sources i
      (ap (λ (actors : List Actor). get_or (map (λ (actor : Actor). is_source_kernel actor.kernel) actors) i false) (sym same) ∙ none);
}

pub ready_alike : (a b : Accepted) (p : FlowPlan) → IsAlike a b → IsReady a p → IsReady b p
ready_alike a b p same is = record {
  sources = is.sources ∙ ap (λ (actors : List Actor). numbers_from (λ (actor : Actor). is_source_kernel actor.kernel) 0 actors) (sym same.actors);
  sinks = is.sinks ∙ ap (λ (actors : List Actor). numbers_from (λ (actor : Actor). is_sink_kernel actor.kernel) 0 actors) (sym same.actors);
  some_worker = is.some_worker;
  few_workers = is.few_workers;
  some_usual = is.some_usual;
  some_last = is.some_last;
  few_usual = subst (λ (q : List ℕ). All (λ n. p.usual * n ≤ 16384000) q) (sym same.firings) is.few_usual;
  few_last = subst (λ (q : List ℕ). All (λ n. p.last * n ≤ 16384000) q) (sym same.firings) is.few_last;
}

module _ (a : Accepted) (p : FlowPlan) (asked : Option ℕ) (d : Devices) (past : List Segment) (flow : Flow) (ok : IsAccepted a) (ready : IsReady a p)
    (stands : Stands a p asked d past flow) where
  same : IsAlike a flow.stream.accepted
  same = subst (λ (b : Accepted). IsAlike a b) (sym stands.stream.here) (alike_all a past ok stands.stream.whole)

  pub ready_now : IsReady flow.stream.accepted p
  ready_now = ready_alike a flow.stream.accepted p same ready

  pub buffers_now : AreBuffersFor flow.stream.accepted p flow.buffers
  buffers_now = record {
    readers = stands.readers;
    fed = feeds_alike a.graph flow.stream.accepted.graph (feeds_in flow.buffers.feeds.items) same.actors stands.feeds;
    clipped = stands.counts;
  }

  pub alike_now : IsAlike a flow.stream.accepted
  alike_now = same

-- ---- a sink's list

-- the actor in a place among the sinks is one
module _ (a : Accepted) (sinks : List ℕ) (k : ℕ) (is : sinks ≡ sinks_in a.graph) (lt : k < length sinks) where
  here : IsNumber (λ (x : Actor). is_sink_kernel x.kernel) 0 a.graph.actors (get_or (sinks_in a.graph) k 0)
  here = number_at (λ (x : Actor). is_sink_kernel x.kernel) 0 a.graph.actors k 0 (subst (λ (xs : List ℕ). k < length xs) is lt)

  within : source_at sinks k < length a.graph.actors
  within = (let high = here.within in subst (λ (xs : List ℕ). get_or xs k 0 < length a.graph.actors) (sym is) (omega arith))

  is_sink : (kernels : List Kernel) (e : Kernel) → kernels ≡ map (λ (x : Actor). x.kernel) a.graph.actors
      → is_sink_kernel (get_or kernels (source_at sinks k) e) ≡ true
  is_sink kernels e same = by a.graph.actors refl
    where
      by : (actors : List Actor) → actors ≡ a.graph.actors → is_sink_kernel (get_or kernels (source_at sinks k) e) ≡ true
      by [] none = absurd (let x = within in let n = ap (λ (xs : List Actor). length xs) none in omega arith)
      by (x ∷ more) all =
          ap (λ (ks : List Kernel). is_sink_kernel (get_or ks (source_at sinks k) e)) same
          ∙ ap is_sink_kernel (get_or-map (λ (x : Actor). x.kernel) a.graph.actors (source_at sinks k) x e within)
          ∙ ap (λ (xs : List ℕ). is_sink_kernel (get_or a.graph.actors (get_or xs k 0) x).kernel) is
          ∙ here.so x (get_or (sinks_in a.graph) k 0) (omega arith)

-- what a sink took in a segment
pub sink_list : (a : Accepted) (sinks : List ℕ) (k : ℕ) (g : Segment) (lists : List (List ℤ)) → sinks ≡ sinks_in a.graph → k < length sinks
    → lists ≡ sinks_of (program_of a g) g.journal → of_sink sinks lists k ≡ sink_in a (source_at sinks k) g
sink_list a sinks k g lists is lt told =
    let t : ℕ = source_at sinks k in
    let inside : t < length (program_of a g).plan.sources =
    (let x = within a sinks k is lt in let n = length-map a.graph.actors (λ (x : Actor). is_source_kernel x.kernel) in omega arith) in
    ap (λ (xs : List (List ℤ)). get_or xs t []) told
    ∙ get_or-map-range_with_len (sink_of (program_of a g) g.journal) 0 (length (program_of a g).plan.sources) t t [] inside (omega arith)
    ∙ ap (λ (b : Bool). cond b (sink_in a t g) []) (is_sink a sinks k is lt (program_of a g).kernels _ refl)

-- ---- and back

pub on_sinks : (a : Accepted) (p : FlowPlan) (past : List Segment) → IsAccepted a → AreWhole a past → IsReady a p → p.sinks.items ≡ sinks_in (at_last a past).graph
on_sinks a p past ok whole ready = (ready_alike a (at_last a past) p (alike_all a past ok whole) ready).sinks

pub on_sources : (a : Accepted) (p : FlowPlan) (past : List Segment) → IsAccepted a → AreWhole a past → IsReady a p
    → p.sources.items ≡ sources_in (at_last a past).graph
on_sources a p past ok whole ready = (ready_alike a (at_last a past) p (alike_all a past ok whole) ready).sources

pub feeds_back : (a : Accepted) (past : List Segment) (b : Accepted) (fs : List (List ℤ)) → IsAccepted a → AreWhole a past → b ≡ at_last a past
    → AreFeeds b.graph fs → AreFeeds a.graph fs
feeds_back a past b fs ok whole is feeds =
    feeds_alike (at_last a past).graph a.graph fs (sym (alike_all a past ok whole).actors) (subst (λ (x : Accepted). AreFeeds x.graph fs) is feeds)

-- ---- periods that are left

less_than : (u m n : ℕ) → n ≡ min u m → n ≤ m
less_than u m n is = omega (arith, is)

within_left : (a : Accepted) (p : FlowPlan) (m n : ℕ) → IsSegmentOf a p (Some m) n → n ≤ m
within_left a p m n is = elim is.which [
  | inl usual ↦ less_than p.usual m n usual
  | inr last ↦ less_than p.last m n last
]

pub left_next : (b : Accepted) (p : FlowPlan) (asked old new : Option ℕ) (past : List Segment) (g : Segment) (n : ℕ) → IsLeft asked past old → IsSegmentOf b p old n
    → g.periods ≡ n → new ≡ left_after old n → new ≢ Some 0 → IsLeft asked (past ++ g ∷ []) new
left_next b p None None new past g n is segment many after some = subst (λ (o : Option ℕ). IsLeft None (past ++ g ∷ []) o) (sym after) tt
left_next b p None (Some m) new past g n is segment many after some = absurd is
left_next b p (Some k) None new past g n is segment many after some = absurd is
left_next b p (Some k) (Some m) new past g n is segment many after some =
    let le = within_left b p m n segment in
    let all = periods_more past g in
    let sum = is.1 in
    let rest : 1 ≤ m - n = at_least (m - n) (λ none. some (after ∙ ap Some none)) in
    subst (λ (o : Option ℕ). IsLeft (Some k) (past ++ g ∷ []) o) (sym after) (rest, omega (arith, le, all, sum, many))
  where
    at_least : (x : ℕ) → (x ≡ 0 → ⊥) → 1 ≤ x
    at_least zero not_none = absurd (not_none refl)
    at_least (suc x) not_none = omega arith

pub left_done : (b : Accepted) (p : FlowPlan) (asked old new : Option ℕ) (past : List Segment) (g : Segment) (n : ℕ) → IsLeft asked past old → IsSegmentOf b p old n
    → g.periods ≡ n → new ≡ left_after old n → new ≡ Some 0 → asked ≡ Some (periods_of past g)
left_done b p None None new past g n is segment many after none = absurd (let e : None ≡ Some 0 = sym after ∙ none in cc)
left_done b p None (Some m) new past g n is segment many after none = absurd is
left_done b p (Some k) None new past g n is segment many after none = absurd is
left_done b p (Some k) (Some m) new past g n is segment many after none =
    let le = within_left b p m n segment in
    let all = periods_all past g in
    let sum = is.1 in
    let gone : m - n ≡ 0 = some_same (sym after ∙ none) in
    ap Some (let x : k ≡ periods_of past g = omega (arith, le, all, sum, many, gone) in x)
  where
    some_same : {x y : ℕ} → Some x ≡ Some y → x ≡ y
    some_same e = (cc)

pub left_first : (asked : Option ℕ) → IfSome asked (λ n. 1 ≤ n) → IsLeft asked [] asked
left_first None some = tt
left_first (Some k) some = (some, omega arith)

pub left_some : (asked : Option ℕ) (past : List Segment) (left : Option ℕ) → IsLeft asked past left → IfSome left (λ n. 1 ≤ n)
left_some None past None is = tt
left_some None past (Some n) is = absurd is
left_some (Some k) past None is = absurd is
left_some (Some k) past (Some n) is = is.0
