-- What comes of a stream, from what came of its parts.
use Rattle.std.proofs.Common.{◌≡◌, ℕ, ◌≤◌, Bool, true, false, nat_lt, List, length, map, take, refl, ap, sym, subst, ◌∙◌, inl, inr, arith}
use Rattle.std.proofs.Common.{Option, None, Result, Ok, Err}
use Rattle.std.specs.Prelude.{◌⊎◌, IfErr, IfOk, OnErr, OnOk, is_none}
use Rattle.std.specs.Global.{Vec}
use Rattle.std.proofs.lemmas.Bool.{ltb-false}
use Rattle.std.proofs.lemmas.List.{length-map, take_all}
use Rattle.csdf_graph.specs.GraphText.{IsGraphOf}
use Rattle.csdf_model.specs.Graph.{Actor, Graph}
use Rattle.csdf_analysis.specs.Acceptance.{Accepted, IsNotAccepted}
use Rattle.csdf_analysis.specs.declared.fault.AcceptFault.{AcceptFault}
use Rattle.csdf_run.specs.Streaming.{StreamView}
use Rattle.csdf_run.specs.declared.totals.ChannelTotal.{ChannelTotal}
use Rattle.csdf_stream.specs.declared.end.StreamEnd.{StreamEnd}
use Rattle.csdf_floor.specs.Continuing.{at_last}
use Rattle.csdf_run.specs.declared.no_outcome.NoOutcome.TheVariants as run
use Rattle.csdf_stream.specs.declared.end.StreamFault.{StreamFault}
use Rattle.csdf_stream.specs.declared.end.StreamFault.TheVariants as why
use Rattle.csdf_stream.specs.declared.options.TokenFormat.{TokenFormat}
use Rattle.csdf_stream.specs.Flowing.{Devices as Flow, IsAlike, IsCauseOf, IsStopped}
use Rattle.csdf_stream.specs.Ports.{numbers_from, sinks_in, sources_in}
use Rattle.csdf_model.specs.Kernels.{is_sink_kernel, is_source_kernel}
use Rattle.csdf_answers.specs.declared.fault.DeviceName.TheVariants.{Output}
use Rattle.csdf_answers.specs.declared.fault.ToolFault.{ToolFault}
use Rattle.csdf_answers.specs.declared.fault.ToolFault.TheVariants as fault
use Rattle.csdf_answers.specs.declared.question.Form.{Form}
use Rattle.csdf_answers.specs.Faults.{accept_fault}
use Rattle.csdf_answers.specs.Printed.{names_of}
use Rattle.csdf_words.specs.CommandLine.{FolderNames, StreamOrder}
use Rattle.csdf_disk.specs.Acts.{Act, Asks, Devices, Marks, devices}
use Rattle.csdf_flows.specs.Flows.{AreReady, FlowsOverFiles, IsAcceptedOf, IsFlow, IsStoppedBy, IsUnkept, IsUnmade, Placed, RefusesStream, StopsFiles, StopsMade}
use Rattle.csdf_flows.specs.Flows.{Through, StopsOverFiles, StopsOverStandard, flow_file_view, keeps, lack_by, lack_of, leave_of, make_of, one_for, open_of, sinks_at, sources_at, standard_flow}
use Rattle.csdf_files.specs.GraphFiles.{IsGivenBy}
use Rattle.csdf_files.specs.Places.{Apart, sink_places}
use Rattle.csdf_told.specs.Reports.{TellsStream}
use Rattle.csdf_flows.specs.declared.flow_fault.Medium.TheVariants as medium
use Rattle.csdf_flows.specs.declared.flow_files.FlowFile.{FlowFile}
use Rattle.csdf_flows.proofs.FlowLemmas.{as_many_sinks, as_many_sources, report_alike}
use Rattle.csdf_run.proofs.TokenRuns.{room_actors}

-- ---- the graph

-- a graph that fits the words is accepted or not
pub refuses : (order : StreamOrder) (bytes : List ℕ) (g : Graph) (result : Result Accepted ToolFault) → IsGraphOf bytes (Ok g) → lack_of order g ≡ None
    → IfErr result (λ f. (f ≡ fault.Memory) ⊎ ((refusal : AcceptFault) × IsNotAccepted g refusal × (f ≡ accept_fault (names_of g.channels) refusal)))
    → IfErr result (λ f. (f ≡ fault.Memory) ⊎ RefusesStream order bytes f)
refuses order bytes g (Ok a) of fits h = tt
refuses order bytes g (Err f) of fits (inl memory) = inl memory
refuses order bytes g (Err f) of fits (inr (refusal, is, told)) = inr (inr (g, of, inr (refusal, fits, is, told)))

-- words without folders fit a graph of one source and one sink at most
module _ (endless : Bool) (n m : ℕ) where
  few : (one two : Bool) → nat_lt 1 n ≡ one → nat_lt 1 m ≡ two → lack_by true endless n m ≡ None → (one ≡ false) × (two ≡ false)
  few true two at there e = absurd (cc)
  few false true at there e = absurd (cc)
  few false false at there e = (refl, refl)

  pub are_few : lack_by true endless n m ≡ None → (n ≤ 1) × (m ≤ 1)
  are_few e =
      let both = few (nat_lt 1 n) (nat_lt 1 m) refl refl e in
      (ltb-false 1 n both.0, ltb-false 1 m both.1)

-- so it is with the accepted graph, whose actors are the same
pub fits_standard : (order : StreamOrder) (bytes : List ℕ) (a : Accepted) → order.folders ≡ None → IsAcceptedOf order bytes a
    → (length (sources_in a.graph) ≤ 1) × (length (sinks_in a.graph) ≤ 1)
fits_standard order bytes a none is =
    let fits = ap (λ (f : Option FolderNames). lack_by (is_none f) (is_none order.periods) (length (sources_in is.graph)) (length (sinks_in is.graph))) (sym none) ∙ is.fits in
    let both = are_few (is_none order.periods) (length (sources_in is.graph)) (length (sinks_in is.graph)) fits in
    let same = sym (room_actors order.room a.q is.graph a.graph is.room) in (
      subst (λ (xs : List Actor). length (numbers_from (λ (actor : Actor). is_source_kernel actor.kernel) 0 xs) ≤ 1) same both.0,
      subst (λ (xs : List Actor). length (numbers_from (λ (actor : Actor). is_sink_kernel actor.kernel) 0 xs) ≤ 1) same both.1,
    )

-- ---- over files that were made

pub given_up : (order : StreamOrder) (a : Accepted) (files : List Placed) (before after : Option (List Act)) (n : ℕ) (f : ToolFault) (d : Flow) (ins outs : List Bool)
    → length files ≤ n → (f ≡ fault.Memory) ⊎ IsStoppedBy order medium.Files a d ins outs f → Asks before after (map leave_of (take n files))
    → StopsMade order a files before after f
given_up order a files before after n f d ins outs many why left =
    inl (subst (λ (fs : List Placed). Asks before after (map leave_of fs)) (take_all n files many) left, by why)
  where
    by : (f ≡ fault.Memory) ⊎ IsStoppedBy order medium.Files a d ins outs f
        → (f ≡ fault.Memory) ⊎ ((d : Flow) × (ins : List Bool) × (outs : List Bool) × IsStoppedBy order medium.Files a d ins outs f)
    by (inl memory) = inl memory
    by (inr stopped) = inr (d, ins, outs, stopped)

pub not_kept : (order : StreamOrder) (a : Accepted) (files : List Placed) (before after : Option (List Act)) (f : ToolFault) (d : Flow) (report : List ℕ)
    → IsFlow order a d report → (acts : List Act) × Asks before after acts × IsUnkept files d.after acts f → StopsMade order a files before after f
not_kept order a files before after f d report flows (acts, asked, unkept) = inr (d, report, acts, flows, asked, unkept)

-- ---- over the files of folders

-- as many devices as there are actors for them
pub sources_open : {D : Type 0} (folder : List ℕ) (g : Graph) (files : List FlowFile) (ds : List D) → length ds ≡ length files
    → map flow_file_view files ≡ sources_at folder g.actors → length ds ≡ length (sources_in g)
sources_open folder g files ds same are = same ∙ sym (length-map files flow_file_view) ∙ ap length are ∙ sym (as_many_sources folder g)

pub sinks_open : {D : Type 0} (folder : List ℕ) (g : Graph) (files : List FlowFile) (ds : List D) → length ds ≡ length files
    → map flow_file_view files ≡ sinks_at folder g.actors → length ds ≡ length (sinks_in g)
sinks_open folder g files ds same are = same ∙ sym (length-map files flow_file_view) ∙ ap length are ∙ sym (as_many_sinks folder g)

-- the files of an accepted graph are made where no sink's file is in use and those of all sources were opened
module _ (order : StreamOrder) (folders : FolderNames) (a : Accepted) (before looked opened : Option (List Act)) (actors : List Actor) (same : actors ≡ a.graph.actors)
    (found : (looks : List Act) × Asks before looked looks × Apart (sink_places folders.sinks actors) looks)
    (ins outs : List Placed) (are_in : ins ≡ sources_at folders.sources actors) (are_out : outs ≡ sinks_at folders.sinks actors)
    (at_opens : Asks looked opened (map open_of ins)) where
  apart : Apart (sink_places folders.sinks a.graph.actors) found.0
  apart = subst (λ (xs : List Actor). Apart (sink_places folders.sinks xs) found.0) same found.2

  opens : Asks looked opened (map open_of (sources_at folders.sources a.graph.actors))
  opens = subst (λ (fs : List Placed). Asks looked opened (map open_of fs)) (are_in ∙ ap (sources_at folders.sources) same) at_opens

  made_as : outs ≡ sinks_at folders.sinks a.graph.actors
  made_as = are_out ∙ ap (sinks_at folders.sinks) same

  pub not_made : (after : Option (List Act)) (f : ToolFault) → (f ≡ fault.Memory) ⊎ ((acts : List Act) × Asks opened after acts × IsUnmade outs acts f)
      → StopsFiles order folders a before after f
  not_made after f (inl memory) = inl memory
  not_made after f (inr (acts, asked, unmade)) =
      inr (inr (inr (inl (record {
        looked = looked;
        opened = opened;
        looks = found.0;
        acts = acts;
        apart = apart;
        at_looks = found.1;
        at_opens = opens;
        at_makes = asked;
        unmade = subst (λ (fs : List Placed). IsUnmade fs acts f) made_as unmade;
      }))))

  module _ (made after : Option (List Act)) (at_makes : Asks opened made (map make_of outs)) (files : List Placed) (are : files ≡ sinks_at folders.sinks actors) where
    kept_as : files ≡ sinks_at folders.sinks a.graph.actors
    kept_as = are ∙ ap (sinks_at folders.sinks) same

    ready : AreReady folders a.graph before made
    ready = record {
      looked = looked;
      opened = opened;
      looks = found.0;
      apart = apart;
      at_looks = found.1;
      at_opens = opens;
      at_makes = subst (λ (fs : List Placed). Asks opened made (map make_of fs)) made_as at_makes;
    }

    pub flowed : (result : Result (Vec ℕ) ToolFault)
        → IfOk result (λ report. (d : Flow) × IsFlow order a d report.items × Asks made after (keeps files d.after))
        → IfOk result (λ report. FlowsOverFiles order folders a before after report.items)
    flowed (Ok report) (d, flows, kept) = record {
      made = made;
      d = d;
      ready = ready;
      flows = flows;
      kept = subst (λ (fs : List Placed). Asks made after (keeps fs d.after)) kept_as kept;
    }
    flowed (Err f) h = tt

    stopped_by : (f : ToolFault) → StopsMade order a (sinks_at folders.sinks a.graph.actors) made after f → StopsFiles order folders a before after f
    stopped_by f (inl (left, why)) = inr (inr (inr (inr (inl (record { made = made; ready = ready; left = left; stopped = why })))))
    stopped_by f (inr (d, report, acts, flows, asked, unkept)) =
        inr (inr (inr (inr (inr (record { made = made; d = d; report = report; acts = acts; ready = ready; flows = flows; asked = asked; unkept = unkept })))))

    pub not_flowed : (result : Result (Vec ℕ) ToolFault) → IfErr result (StopsMade order a files made after) → IfErr result (StopsFiles order folders a before after)
    not_flowed (Ok report) h = tt
    not_flowed (Err f) h = stopped_by f (subst (λ (fs : List Placed). StopsMade order a fs made after f) kept_as h)

-- ---- over the files of folders, and the report on standard output

module _ (order : StreamOrder) (folders : FolderNames) (left : Option (List ℕ)) (before read after : Option (List Act)) (m : Marks) (a : Accepted)
    (found : (bytes : List ℕ) × IsGivenBy order.graph (devices left before read) bytes × IsAcceptedOf order bytes a) where
  pub stops_files : (f : ToolFault) → StopsFiles order folders a read after f → StopsOverFiles order folders (devices left before after) m f
  stops_files f why = record { bytes = found.0; accepted = a; read = read; given = found.1; is = found.2; stops = inl why }

  pub stops_writing : (report : List ℕ) → FlowsOverFiles order folders a read after report → m.output ≡ true
      → StopsOverFiles order folders (devices left before after) m (fault.Device Output)
  stops_writing report flows failed =
      record { bytes = found.0; accepted = a; read = read; given = found.1; is = found.2; stops = inr (report, flows, refl, failed) }

-- ---- from standard input to standard output, and the report on standard error

pub stops_standard : (order : StreamOrder) (d : Devices) (t : Through) (m : Marks) (a : Accepted) (left : Option (List ℕ)) → left ≡ t.left
    → (bytes : List ℕ) × IsGivenBy order.graph d bytes × IsAcceptedOf order bytes a → (f : ToolFault)
    → (f ≡ fault.Memory) ⊎ IsStoppedBy order medium.Standard a (standard_flow a.graph left t.rest t.before t.after) (one_for (sources_in a.graph) m.input)
    (one_for (sinks_in a.graph) m.output) f → StopsOverStandard order d t m f
stops_standard order d t m a left same (bytes, given, is) f why = record {
  bytes = bytes;
  accepted = a;
  given = given;
  is = is;
  stops =
      subst (λ (all : Option (List ℕ)). (f ≡ fault.Memory) ⊎ IsStoppedBy order medium.Standard a (standard_flow a.graph all t.rest t.before t.after)
      (one_for (sources_in a.graph) m.input) (one_for (sinks_in a.graph) m.output) f) same why;
}

-- the report is on standard error, or that has failed
pub told_or_mute : {X E A B : Type 0} (result : Result X E) → OnOk result A → OnErr result B → A ⊎ B
told_or_mute (Ok x) a b = inl a
told_or_mute (Err e) a b = inr b

-- ---- the report, by the graph that the stream began with

pub tells_as : (form : Form) (a : Accepted) (s : StreamView) (end : StreamEnd) (g : Graph) (totals : List ChannelTotal) (text : List ℕ) → IsAlike a s.accepted
    → g ≡ s.accepted.graph → totals ≡ s.totals → TellsStream form g totals end text → TellsStream form a.graph s.totals end text
tells_as form a s end g totals text alike graph all told =
    report_alike a s.accepted alike form s.totals end text
    (subst (λ (ts : List ChannelTotal). TellsStream form s.accepted.graph ts end text) all
    (subst (λ (x : Graph). TellsStream form x totals end text) graph told))

-- ---- workers

-- what stops a stream by so many workers may stop one by more
pub stopped_by_more : (k m : ℕ) (a : Accepted) (format : TokenFormat) (d : Flow) (f : StreamFault) → k ≤ m → IsStopped a format k d f → IsStopped a format m d f
stopped_by_more k m a format d f more h = record {
  past = h.past;
  readers = h.readers;
  whole = h.whole;
  read = h.read;
  left = h.left;
  cause = by f h.cause;
}
  where
    by : (g : StreamFault) → IsCauseOf (at_last a h.past) k h.readers d g → IsCauseOf (at_last a h.past) m h.readers d g
    by (why.Source i fault) c = c
    by (why.TooMany i) c = c
    by (why.Sink t) c = c
    by (why.Run run.Memory) c = c
    by (why.Run run.Worker) c = omega (arith, c, more)
    by why.Memory c = c
