-- The sinks' texts of a complete run, whatever the room.
use Rattle.std.proofs.Common.{◌≡◌, ℕ, ◌*◌, ◌≤◌, List, ◌∷◌, map, refl, ap, sym, subst, ◌∙◌, Result, Ok, Err, Option, None, []}
use Rattle.std.specs.Prelude.{ℤ, All, MatchResult}
use Rattle.csdf_model.specs.Graph as graph
use Rattle.csdf_model.specs.Graph.{Actor, Graph}
use Rattle.csdf_graph.specs.declared.fault.GraphFault.{GraphFault}
use Rattle.csdf_graph.specs.declared.fault.GraphFault.TheVariants.{NotToml}
use Rattle.csdf_graph.specs.GraphText.{IsGraphIn, IsGraphOf, IsJudged, file_of, unjoined_in}
use Rattle.csdf_graph.specs.Passes.{or_fault}
use Rattle.csdf_analysis.specs.Acceptance.{Accepted}
use Rattle.csdf_analysis.specs.declared.room.Room.{Room}
use Rattle.csdf_analysis.specs.declared.room.Room.TheVariants.{Least, Periods, Auto}
use Rattle.csdf_analysis.specs.Room.{IsWithRoom, channel_with_room, with_room}
use Rattle.csdf_core.specs.State.{present}
use Rattle.csdf_floor.specs.declared.ending.Ending.TheVariants.{Complete}
use Rattle.csdf_floor.specs.Endings.{IsEnding}
use Rattle.csdf_floor.specs.Journal.{Program, program_for, state_of}
use Rattle.csdf_floor.specs.Laws.{AllSpent}
use Rattle.csdf_floor.specs.Outcome.{journal_in}
use Rattle.csdf_floor.specs.Rooms.{DifferInRoom, without_room}
use Rattle.csdf_floor.specs.Work.{HasFewFirings, feeds_in}
use Rattle.csdf_floor.proofs.Rooms.{differ_in_room, same_period}
use Rattle.csdf_floor.proofs.Works.{playable_program}
use Rattle.csdf_floor.specs.declared.outcome.Outcome.{Outcome}
use Rattle.csdf_run.specs.declared.texts.Texts.{Texts}
use Rattle.csdf_analysis.specs.declared.length.Length.{Length}
use Rattle.csdf_run.specs.Texts.{MayGraphGoOn, TellGraphRun, TellGraphSameInAnyRoom, TellSameInAnyRoom, feeds_from, sink_texts, texts_in}
use Rattle.csdf_run.specs.Tokens.{IsGraphRun, IsGraphRunSameInAnyRoom}
use Rattle.csdf_run.proofs.FeedTexts.{run_of_texts}
use Rattle.csdf_run.proofs.Lengths.{may_run, one_length}

-- a text is one graph
one_of : {A : Type 0} (read : Result A GraphFault) (P : A → Result Graph GraphFault → Type 0) (g h : Graph) → ((x : A) → P x (Ok g) → P x (Ok h) → g ≡ h)
    → MatchResult read (λ x. P x (Ok g)) (λ fault. Ok g ≡ Err fault) → MatchResult read (λ x. P x (Ok h)) (λ fault. Ok h ≡ Err fault) → g ≡ h
one_of (Ok x) P g h one p q = one x p q
one_of (Err fault) P g h one p q = absurd (cc)

one_graph : (bytes : List ℕ) (g h : Graph) → IsGraphOf bytes (Ok g) → IsGraphOf bytes (Ok h) → g ≡ h
one_graph bytes g h =
    one_of (or_fault NotToml (file_of bytes)) IsGraphIn g h (λ file. one_of (unjoined_in file) IsJudged g h (λ found p q. p.0 ∙ sym q.0))

-- room is no part of a graph without it
bare_rows : (q : List ℕ) (m : ℕ) (cs : List graph.Channel) → map (λ (c : graph.Channel). record c { capacity = None }) (map (channel_with_room q m) cs)
    ≡ map (λ (c : graph.Channel). record c { capacity = None }) cs
bare_rows q m [] = refl
bare_rows q m (c ∷ cs) = ap (λ (xs : List graph.Channel). record c { capacity = None } ∷ xs) (bare_rows q m cs)

bare_graph : (q : List ℕ) (m : ℕ) (g : Graph) → without_room (with_room q m g) ≡ without_room g
bare_graph q m g = ap (λ (cs : List graph.Channel). record { actors = g.actors; channels = cs; cells = None }) (bare_rows q m g.channels)

pub bare_with : (room : Room) (q : List ℕ) (g h : Graph) → IsWithRoom room q g h → without_room h ≡ without_room g
bare_with Least q g h same = ap without_room same
bare_with (Periods n) q g h same = ap without_room same ∙ bare_graph q n g
bare_with Auto q g h auto = ap without_room auto.2 ∙ bare_graph q auto.0 g

one_feeds : (actors others : List Actor) (texts : List (List ℕ)) (one two : List (List ℤ)) → actors ≡ others → feeds_from 0 actors texts ≡ Ok one
    → feeds_from 0 others texts ≡ Ok two → one ≡ two
one_feeds actors others texts one two e x y =
    let z : Ok one ≡ Ok two = sym x ∙ ap (λ (xs : List Actor). feeds_from 0 xs texts) e ∙ y in cc

module _ (room other_room : Room) (g : Graph) (texts : List (List ℕ)) (how_long : Length) (firings others : Option ℕ) (o u : Outcome)
    (may : MayGraphGoOn room g how_long) (r : IsGraphRun room g texts how_long firings o) (s : IsGraphRun other_room g texts how_long others u) where
  abbrev a : Accepted
  a = r.accepted

  abbrev b : Accepted
  b = s.accepted

  same_bare : without_room a.graph ≡ without_room b.graph
  same_bare = bare_with room a.q g a.graph r.read.in_room.roomy ∙ sym (bare_with other_room b.q g b.graph s.read.in_room.roomy)

  same_actors : a.graph.actors ≡ b.graph.actors
  same_actors = ap (λ (g : Graph). g.actors) same_bare

  same_feeds : r.feeds ≡ s.feeds
  same_feeds = one_feeds a.graph.actors b.graph.actors texts r.feeds s.feeds same_actors r.read.tokens s.read.tokens

  same_vector : a.q ≡ b.q
  same_vector = same_period a b r.read.in_room.accepted s.read.in_room.accepted same_bare

  same_length : r.periods ≡ s.periods
  same_length = one_length how_long a b r.periods s.periods same_vector r.goes_on s.goes_on

  few : HasFewFirings b s.periods
  few = subst (HasFewFirings b) same_length
      (subst (All (λ q. r.periods * q ≤ 16384000)) same_vector (may_run room g how_long a r.periods may r.goes_on r.read.in_room).1)

  abbrev w : Program
  w = program_for a r.feeds r.periods firings

  abbrev v : Program
  v = program_for b s.feeds s.periods others

  differ : DifferInRoom w v
  differ = subst (λ (n : ℕ). DifferInRoom w (program_for b s.feeds n others)) same_length
      (subst (λ (feeds : List (List ℤ)). DifferInRoom w (program_for b feeds r.periods others)) same_feeds
      (differ_in_room a b r.feeds r.periods firings others r.read.in_room.accepted s.read.in_room.accepted same_bare))

  same_sinks : o.ending ≡ Complete → u.ending ≡ Complete → feeds_in o.sinks.items ≡ feeds_in u.sinks.items
  same_sinks one two =
      let all : AllSpent v.plan (present (state_of v (journal_in u))) =
      subst (IsEnding v.plan (present (state_of v (journal_in u)))) two s.outcome.ending in
      let playable = playable_program b s.feeds s.periods others s.read.in_room.accepted few in
      let beside = r.outcome.rooms v (journal_in u) differ playable s.outcome.honest in
      (beside.complete one all).sinks ∙ sym s.outcome.sinks

pub run_same_in_any_room : (room : Room) (g : Graph) (texts : List (List ℕ)) (how_long : Length) (firings : Option ℕ) (o : Outcome)
    → MayGraphGoOn room g how_long → IsGraphRun room g texts how_long firings o → IsGraphRunSameInAnyRoom g texts how_long o
run_same_in_any_room room g texts how_long firings o may r other_room others u s =
    same_sinks room other_room g texts how_long firings others o u may r s

module _ (room other_room : Room) (g : Graph) (texts : List (List ℕ)) (how_long : Length) (firings others : Option ℕ) (t u : Texts)
    (may : MayGraphGoOn room g how_long) (r : TellGraphRun room g texts how_long firings t) (s : TellGraphRun other_room g texts how_long others u) where
  abbrev one_run : IsGraphRun room g texts how_long firings r.outcome
  one_run = run_of_texts room g texts how_long firings t r

  abbrev other_run : IsGraphRun other_room g texts how_long others s.outcome
  other_run = run_of_texts other_room g texts how_long others u s

  same_texts : t.ending ≡ Complete → u.ending ≡ Complete → texts_in t.sinks.items ≡ texts_in u.sinks.items
  same_texts one two =
      let sinks = same_sinks room other_room g texts how_long firings others r.outcome s.outcome may one_run other_run
      (sym r.told.ending ∙ one) (sym s.told.ending ∙ two) in
      let actors = same_actors room other_room g texts how_long firings others r.outcome s.outcome may one_run other_run in
      r.told.sinks ∙ ap (sink_texts r.accepted.graph.actors) sinks
      ∙ ap (λ (xs : List Actor). sink_texts xs (feeds_in s.outcome.sinks.items)) actors
      ∙ sym s.told.sinks

pub same_in_any_room : (room : Room) (g : Graph) (texts : List (List ℕ)) (how_long : Length) (firings : Option ℕ) (t : Texts)
    → MayGraphGoOn room g how_long → TellGraphRun room g texts how_long firings t → TellGraphSameInAnyRoom g texts how_long t
same_in_any_room room g texts how_long firings t may r other_room others u s =
    same_texts room other_room g texts how_long firings others t u may r s

-- what is the same for the graph is for its file
pub same_of_file : (bytes : List ℕ) (g : Graph) (texts : List (List ℕ)) (how_long : Length) (t : Texts)
    → IsGraphOf bytes (Ok g) → TellGraphSameInAnyRoom g texts how_long t → TellSameInAnyRoom bytes texts how_long t
same_of_file bytes g texts how_long t read same room firings other run =
    same room firings other
    (subst (λ (h : Graph). TellGraphRun room h texts how_long firings other) (one_graph bytes run.graph g run.read read) run.holds)
