-- Texts as loops read and write them.
use Rattle.std.proofs.Common.{◌≡◌, ℕ, zero, suc, ◌+◌, ◌<◌, ◌≤◌, Bool, true, false, cond, List, [], ◌∷◌, ◌++◌, length, map, drop}
use Rattle.std.proofs.Common.{take, get_or, refl, ap, sym, subst, ◌∙◌, arith, append_assoc, append-nil, Result, Ok, Err}
use Rattle.std.specs.Prelude.{ℤ, Option, nat_lt}
use Rattle.std.specs.Result.{result_map_both}
use Rattle.std.proofs.lemmas.Bool.Decides.{nat_tests}
use Rattle.std.proofs.lemmas.List.{get_or-drop, length-map}
use Rattle.std.proofs.lemmas.List.Elements.{All-from_get_or}
use Rattle.std.proofs.lemmas.List.FromFn.{get_or-map-range_with_len}
use Rattle.csdf_bytes.specs.declared.tokens.TokenFault.{TokenFault}
use Rattle.csdf_bytes.specs.declared.tokens.TokenFault.TheVariants.{TooMany}
use Rattle.csdf_model.specs.Graph.{Actor, Graph, numbers_from}
use Rattle.csdf_bytes.specs.TokenText.{collected, entry_of, no_more_than, token_text, tokens_in, tokens_up_to, words_from}
use Rattle.csdf_core.specs.Planned.{is_source_kernel}
use Rattle.csdf_core.specs.Streams.{IsPrefix}
use Rattle.csdf_floor.specs.declared.ending.Ending.{Ending}
use Rattle.csdf_floor.specs.declared.ending.Ending.TheVariants.{Complete, Stopped, Starved, Dry}
use Rattle.csdf_floor.specs.declared.outcome.Outcome.{Outcome}
use Rattle.csdf_run.specs.declared.texts.Texts.{Texts}
use Rattle.csdf_floor.specs.Journal.{Program}
use Rattle.csdf_floor.specs.Outcome.{IsEndBeside, sequential_list}
use Rattle.csdf_analysis.specs.declared.room.Room.{Room}
use Rattle.csdf_analysis.specs.declared.length.Length.{Length}
use Rattle.csdf_run.specs.Texts.{◌>>=◌, AreTextsBeside, IsTextBeside, TellGraphRun, TellSequentialGraphRun, feed_in, feeds_from, sink_texts, sinks_among, text_at}
use Rattle.csdf_run.specs.Tokens.{IsGraphRun, IsSequentialGraphRun}
use Rattle.csdf_floor.specs.Work.{AreFeeds, feed_of, feeds_in, is_sink_kernel, program}

-- ---- the feeds, one actor after the other

-- what was made before, and what is still made
abbrev pub with_front : List (List ℤ) → Result (List (List ℤ)) (ℕ × TokenFault) → Result (List (List ℤ)) (ℕ × TokenFault)
with_front front read = read >>= λ feeds. Ok (front ++ feeds)

regroup : (front : List (List ℤ)) (feed : List ℤ) (read : Result (List (List ℤ)) (ℕ × TokenFault))
    → with_front front (read >>= λ feeds. Ok (feed ∷ feeds)) ≡ with_front (front ++ feed ∷ []) read
regroup front feed (Ok feeds) = ap Ok (sym (append_assoc front (feed ∷ []) feeds))
regroup front feed (Err why) = refl

drop_one : {A : Type 0} (n : ℕ) (xs : List A) → drop 1 (drop n xs) ≡ drop (suc n) xs
drop_one zero xs = refl
drop_one (suc n) [] = refl
drop_one (suc n) (x ∷ xs) = drop_one n xs

module _ (a n : ℕ) (actor : Actor) (actors : List Actor) (texts : List (List ℕ)) (front : List (List ℤ)) where
  first : get_or (drop n texts) 0 [] ≡ get_or texts n []
  first = get_or-drop n texts 0 [] ∙ ap (λ k. get_or texts k []) (let e : n + 0 ≡ n = omega arith in e)

  abbrev of_source : Result (List ℤ) (ℕ × TokenFault) → Result (List (List ℤ)) (ℕ × TokenFault)
  of_source read = read >>= λ feed. feeds_from (suc a) actors (drop 1 (drop n texts)) >>= λ feeds. Ok (feed ∷ feeds)

  abbrev of_other : Result (List (List ℤ)) (ℕ × TokenFault)
  of_other = feeds_from (suc a) actors (drop n texts) >>= λ feeds. Ok ([] ∷ feeds)

  at_source : is_source_kernel actor.kernel ≡ true → feeds_from a (actor ∷ actors) (drop n texts) ≡ of_source (feed_in a (get_or texts n []))
  at_source is = ap (λ b. cond b (of_source (feed_in a (get_or (drop n texts) 0 []))) of_other) is ∙ ap (λ text. of_source (feed_in a text)) first

  pub source_next : (feed : List ℤ) (total : Result (List (List ℤ)) (ℕ × TokenFault)) → is_source_kernel actor.kernel ≡ true
      → feed_in a (get_or texts n []) ≡ Ok feed
      → with_front front (feeds_from a (actor ∷ actors) (drop n texts)) ≡ total
      → with_front (front ++ feed ∷ []) (feeds_from (a + 1) actors (drop (n + 1) texts)) ≡ total
  source_next feed total is ok so_far =
      ap (λ k. with_front (front ++ feed ∷ []) (feeds_from k actors (drop (n + 1) texts))) (let e : a + 1 ≡ suc a = omega arith in e)
      ∙ ap (λ k. with_front (front ++ feed ∷ []) (feeds_from (suc a) actors (drop k texts))) (let e : n + 1 ≡ suc n = omega arith in e)
      ∙ ap (λ ts. with_front (front ++ feed ∷ []) (feeds_from (suc a) actors ts)) (sym (drop_one n texts))
      ∙ sym (regroup front feed (feeds_from (suc a) actors (drop 1 (drop n texts))))
      ∙ sym (ap (with_front front) (at_source is ∙ ap of_source ok))
      ∙ so_far

  pub source_fails : (why : ℕ × TokenFault) (total : Result (List (List ℤ)) (ℕ × TokenFault)) → is_source_kernel actor.kernel ≡ true
      → feed_in a (get_or texts n []) ≡ Err why
      → with_front front (feeds_from a (actor ∷ actors) (drop n texts)) ≡ total → total ≡ Err why
  source_fails why total is fails so_far = sym so_far ∙ ap (with_front front) (at_source is ∙ ap of_source fails)

  pub other_next : (total : Result (List (List ℤ)) (ℕ × TokenFault)) → is_source_kernel actor.kernel ≡ false
      → with_front front (feeds_from a (actor ∷ actors) (drop n texts)) ≡ total
      → with_front (front ++ [] ∷ []) (feeds_from (a + 1) actors (drop n texts)) ≡ total
  other_next total is so_far =
      ap (λ k. with_front (front ++ [] ∷ []) (feeds_from k actors (drop n texts))) (let e : a + 1 ≡ suc a = omega arith in e)
      ∙ sym (regroup front [] (feeds_from (suc a) actors (drop n texts)))
      ∙ sym (ap (λ b. with_front front (cond b (of_source (feed_in a (get_or (drop n texts) 0 []))) of_other)) is)
      ∙ so_far

pub feeds_end : (a : ℕ) (texts : List (List ℕ)) (front : List (List ℤ)) (total : Result (List (List ℤ)) (ℕ × TokenFault))
    → with_front front (feeds_from a [] texts) ≡ total → total ≡ Ok front
feeds_end a texts front total so_far = sym so_far ∙ ap Ok (append-nil front)

-- ---- feeds that were read can be run over

no_more : (limit : ℕ) (read : Result (List ℤ) TokenFault) (feed : List ℤ) → no_more_than limit read ≡ Ok feed → length feed ≤ limit
no_more limit (Err why) feed e = absurd (cc)
no_more limit (Ok tokens) feed e = by (nat_lt limit (length tokens)) refl e
  where
    by : (b : Bool) → nat_lt limit (length tokens) ≡ b → cond b (Err TooMany) (Ok tokens) ≡ Ok feed → length feed ≤ limit
    by true past e = absurd (cc)
    by false within e =
        let few : length tokens ≤ limit = grind (arith, nat_tests) in
        let same : tokens ≡ feed = cc in
        subst (λ ts. length ts ≤ limit) same few

up_to_limit : (limit : ℕ) (entries : List (Result ℤ TokenFault)) (feed : List ℤ) → tokens_up_to limit entries ≡ Ok feed → length feed ≤ limit
unfolding tokens_up_to
up_to_limit limit entries feed e = no_more limit (collected (take (limit + 1) entries)) feed e

tokens_few : (text : List ℕ) (feed : List ℤ) → tokens_in text ≡ Ok feed → length feed ≤ 1000000
tokens_few text feed e = by (nat_lt 16777216 (length text)) e
  where
    by : (b : Bool) → cond b (Err TooMany) (tokens_up_to 1000000 (map entry_of (words_from 1 text))) ≡ Ok feed → length feed ≤ 1000000
    by true e = absurd (cc)
    by false e = up_to_limit 1000000 (map entry_of (words_from 1 text)) feed e

feed_few : (a : ℕ) (text : List ℕ) (feed : List ℤ) → feed_in a text ≡ Ok feed → length feed ≤ 1000000
feed_few a text feed e = by (tokens_in text) refl e
  where
    by : (read : Result (List ℤ) TokenFault) → tokens_in text ≡ read
        → result_map_both {D = ℕ × TokenFault} (λ tokens. tokens) (λ why. (a, why)) read ≡ Ok feed → length feed ≤ 1000000
    by (Ok tokens) is e = let same : tokens ≡ feed = cc in subst (λ ts. length ts ≤ 1000000) same (tokens_few text tokens is)
    by (Err why) is e = absurd (cc)

-- so many feeds, each of at most 1,000,000 tokens, and empty where the actor is no source
abbrev AreFed : List Actor → List (List ℤ) → Type 0
AreFed [] [] = Unit {0}
AreFed [] (feed ∷ feeds) = ⊥
AreFed (actor ∷ actors) [] = ⊥
AreFed (actor ∷ actors) (feed ∷ feeds) = ((length feed ≤ 1000000) × (is_source_kernel actor.kernel ≡ false → feed ≡ [])) × AreFed actors feeds

cons_read : (feed : List ℤ) (read : Result (List (List ℤ)) (ℕ × TokenFault)) (feeds : List (List ℤ)) → (read >>= λ rest. Ok (feed ∷ rest)) ≡ Ok feeds
    → (rest : List (List ℤ)) × (read ≡ Ok rest) × (feed ∷ rest ≡ feeds)
cons_read feed (Ok rest) feeds e = (rest, refl, cc)
cons_read feed (Err why) feeds e = absurd (cc)

-- one actor more, where the rest are fed
abbrev IsFedAfter : ℕ → List Actor → List (List ℕ) → Type 0
IsFedAfter a actors texts = (feeds : List (List ℤ)) → feeds_from a actors texts ≡ Ok feeds → AreFed actors feeds

source_fed : (a : ℕ) (actor : Actor) (actors : List Actor) (texts : List (List ℕ)) (feeds : List (List ℤ)) (read : Result (List ℤ) (ℕ × TokenFault))
    → IsFedAfter (suc a) actors (drop 1 texts) → is_source_kernel actor.kernel ≡ true → feed_in a (get_or texts 0 []) ≡ read
    → (read >>= λ feed. feeds_from (suc a) actors (drop 1 texts) >>= λ rest. Ok (feed ∷ rest)) ≡ Ok feeds → AreFed (actor ∷ actors) feeds
source_fed a actor actors texts feeds (Ok feed) after is ok e =
    let more = cons_read feed (feeds_from (suc a) actors (drop 1 texts)) feeds e in
    subst (AreFed (actor ∷ actors)) more.2 ((feed_few a (get_or texts 0 []) feed ok, λ none. absurd (cc)), after more.0 more.1)
source_fed a actor actors texts feeds (Err why) after is fails e = absurd (cc)

actor_fed : (a : ℕ) (actor : Actor) (actors : List Actor) (texts : List (List ℕ)) (feeds : List (List ℤ)) (b : Bool)
    → IsFedAfter (suc a) actors (drop 1 texts) → IsFedAfter (suc a) actors texts → is_source_kernel actor.kernel ≡ b
    → cond b (feed_in a (get_or texts 0 []) >>= λ feed. feeds_from (suc a) actors (drop 1 texts) >>= λ rest. Ok (feed ∷ rest))
    (feeds_from (suc a) actors texts >>= λ rest. Ok ([] ∷ rest)) ≡ Ok feeds
    → AreFed (actor ∷ actors) feeds
actor_fed a actor actors texts feeds true after same is e = source_fed a actor actors texts feeds (feed_in a (get_or texts 0 [])) after is refl e
actor_fed a actor actors texts feeds false after same is e =
    let more = cons_read [] (feeds_from (suc a) actors texts) feeds e in
    subst (AreFed (actor ∷ actors)) more.2 ((omega arith, λ none. refl), same more.0 more.1)

read_fed : (a : ℕ) (actors : List Actor) (texts : List (List ℕ)) (feeds : List (List ℤ)) → feeds_from a actors texts ≡ Ok feeds → AreFed actors feeds
read_fed a [] texts feeds e = let same : [] ≡ feeds = cc in subst (AreFed []) same tt
read_fed a (actor ∷ actors) texts feeds e =
    actor_fed a actor actors texts feeds (is_source_kernel actor.kernel) (read_fed (suc a) actors (drop 1 texts)) (read_fed (suc a) actors texts) refl e

fed_length : (actors : List Actor) (feeds : List (List ℤ)) → AreFed actors feeds → length feeds ≡ length actors
fed_length [] [] h = refl
fed_length [] (feed ∷ feeds) h = absurd h
fed_length (actor ∷ actors) [] h = absurd h
fed_length (actor ∷ actors) (feed ∷ feeds) h = let rest = fed_length actors feeds h.1 in omega (arith, rest)

fed_at : (actors : List Actor) (feeds : List (List ℤ)) → AreFed actors feeds → (i : ℕ)
    → (length (get_or feeds i []) ≤ 1000000) × (get_or (map (λ (actor : Actor). is_source_kernel actor.kernel) actors) i false ≡ false → get_or feeds i [] ≡ [])
fed_at [] [] h i = (omega arith, λ none. refl)
fed_at [] (feed ∷ feeds) h i = absurd h
fed_at (actor ∷ actors) [] h i = absurd h
fed_at (actor ∷ actors) (feed ∷ feeds) h zero = h.0
fed_at (actor ∷ actors) (feed ∷ feeds) h (suc i) = fed_at actors feeds h.1 i

pub can_be_run : (g : Graph) (texts : List (List ℕ)) (feeds : List (List ℤ)) → feeds_from 0 g.actors texts ≡ Ok feeds → AreFeeds g feeds
can_be_run g texts feeds e =
    let fed = read_fed 0 g.actors texts feeds e in
    record {
      each_actor = fed_length g.actors feeds fed;
      short = All-from_get_or (λ feed. length feed ≤ 1000000) feeds [] (λ i lt. (fed_at g.actors feeds fed i).0);
      only_sources = λ a none. (fed_at g.actors feeds fed a).1 none;
    }

-- ---- the sinks' texts beside the sequential run

-- the list, or a front of it where the run was held back
abbrev IsListBeside : Ending → List ℤ → List ℤ → Type 0
IsListBeside Complete list told = told ≡ list
IsListBeside Dry list told = told ≡ list
IsListBeside Stopped list told = IsPrefix told list
IsListBeside Starved list told = IsPrefix told list

text_beside : (ending : Ending) (list told : List ℤ) → IsListBeside ending list told → IsTextBeside ending list (token_text told)
text_beside Complete list told same = ap token_text same
text_beside Dry list told same = ap token_text same
text_beside Stopped list told front = (told, front, refl)
text_beside Starved list told front = (told, front, refl)

-- the numbers of the sinks among actors from number i on
abbrev sinks_from : ℕ → List Actor → List ℕ
sinks_from i actors = numbers_from i (λ (actor : Actor). is_sink_kernel actor.kernel) actors

one_beside : (ending : Ending) (list : ℕ → List ℤ) (lists : List (List ℤ)) (i : ℕ) (later : List ℕ) (b : Bool) → IsListBeside ending (list i) (feed_of lists i)
    → AreTextsBeside ending list later (map (text_at lists) later)
    → AreTextsBeside ending list (cond b (i ∷ later) later) (map (text_at lists) (cond b (i ∷ later) later))
one_beside ending list lists i later true here rest = (text_beside ending (list i) (feed_of lists i) here, rest)
one_beside ending list lists i later false here rest = rest

texts_beside : (ending : Ending) (list : ℕ → List ℤ) (lists : List (List ℤ)) (i : ℕ) (actors : List Actor)
    → ((a : ℕ) → a < i + length actors → IsListBeside ending (list a) (feed_of lists a))
    → AreTextsBeside ending list (sinks_from i actors) (map (text_at lists) (sinks_from i actors))
texts_beside ending list lists i [] each = tt
texts_beside ending list lists i (actor ∷ actors) each =
    one_beside ending list lists i (sinks_from (suc i) actors) (is_sink_kernel actor.kernel) (each i (omega arith))
    (texts_beside ending list lists (suc i) actors (λ a lt. each a (omega arith)))

lists_beside : (w : Program) (o : Outcome) (run : List ℕ) (ending : Ending) → IsEndBeside w o run ending → (a : ℕ) → a < length w.plan.sources
    → IsListBeside ending (sequential_list w run a) (feed_of (feeds_in o.sinks.items) a)
lists_beside w o run Complete end a lt =
    ap (λ lists. get_or lists a []) end.sinks ∙ get_or-map-range_with_len (sequential_list w run) 0 (length w.plan.sources) a a [] lt (omega arith)
lists_beside w o run Dry end a lt =
    ap (λ lists. get_or lists a []) end.sinks ∙ get_or-map-range_with_len (sequential_list w run) 0 (length w.plan.sources) a a [] lt (omega arith)
lists_beside w o run Stopped end a lt = end.sinks a lt
lists_beside w o run Starved end a lt = end.sinks a lt

-- an outcome beside the sequential run
pub run_as_sequential : (room : Room) (g : Graph) (texts : List (List ℕ)) (how_long : Length) (firings : Option ℕ) (o : Outcome)
    → IsGraphRun room g texts how_long firings o → IsSequentialGraphRun room g texts how_long firings o
run_as_sequential room g texts how_long firings o r = record {
  accepted = r.accepted;
  feeds = r.feeds;
  periods = r.periods;
  goes_on = r.goes_on;
  read = r.read;
  sinks = λ run is.
      let w : Program = program (record { accepted = r.accepted; feeds = r.feeds; periods = r.periods; firings = firings }) in
      let actors = r.accepted.graph.actors in
      let many : length w.plan.sources ≡ length actors = length-map actors (λ (actor : Actor). is_source_kernel actor.kernel) in
      let lists = lists_beside w o run o.ending (r.outcome.sequential run is) in
      texts_beside o.ending (sequential_list w run) (feeds_in o.sinks.items) 0 actors (λ a lt. lists a (omega arith));
}

-- a run that texts tell
abbrev pub run_of_texts : (room : Room) (g : Graph) (texts : List (List ℕ)) (how_long : Length) (firings : Option ℕ) (t : Texts)
    → (r : TellGraphRun room g texts how_long firings t) → IsGraphRun room g texts how_long firings r.outcome
run_of_texts room g texts how_long firings t r =
    record { accepted = r.accepted; feeds = r.feeds; periods = r.periods; goes_on = r.goes_on; read = r.read; outcome = r.told.outcome }

pub as_sequential : (room : Room) (g : Graph) (texts : List (List ℕ)) (how_long : Length) (firings : Option ℕ) (t : Texts) → TellGraphRun room g texts how_long firings t
    → TellSequentialGraphRun room g texts how_long firings t
unfolding run_as_sequential
as_sequential room g texts how_long firings t r = record {
  accepted = r.accepted;
  feeds = r.feeds;
  periods = r.periods;
  goes_on = r.goes_on;
  read = r.read;
  sinks = λ run is.
      let w : Program = program (record { accepted = r.accepted; feeds = r.feeds; periods = r.periods; firings = firings }) in
      let actors = r.accepted.graph.actors in
      let beside = run_as_sequential room g texts how_long firings r.outcome (run_of_texts room g texts how_long firings t r) in
      let told : AreTextsBeside t.ending (sequential_list w run) (sinks_among actors) (sink_texts actors (feeds_in r.outcome.sinks.items)) =
      subst (λ ending. AreTextsBeside ending (sequential_list w run) (sinks_among actors) (sink_texts actors (feeds_in r.outcome.sinks.items)))
      (sym r.told.ending) (beside.sinks run is) in
      subst (AreTextsBeside t.ending (sequential_list w run) (sinks_among actors)) (sym r.told.sinks) told;
}
