-- Files that are read: a graph file, and the token files of sources, one after the other.
use Rattle.std.proofs.Common.{◌≡◌, ℕ, ◌+◌, ◌<◌, Bool, true, false, cond, List, [], ◌∷◌, ◌++◌, length, map, take, get_or, refl, ap, sym}
use Rattle.std.proofs.Common.{subst, ◌∙◌, arith, inl, inr, Ok, Err, Option, filter}
use Rattle.std.specs.Prelude.{◌⊎◌}
use Rattle.std.specs.List.{zip, AllByRecursion}
use Rattle.std.specs.Path.{path_join}
use Rattle.std.proofs.lemmas.List.{append-nil, length_push, map-append, take_more}
use Rattle.std.proofs.lemmas.List.Elements.{filter-append}
use Rattle.csdf_model.specs.Graph.{Actor, Graph}
use Rattle.csdf_core.specs.Planned.{is_source_kernel}
use Rattle.csdf_disk.specs.Acts.{Act, Asks, IsRead, OnlyReads, Read}
use Rattle.csdf_files.specs.GraphFiles.{graph_reads, is_input}
use Rattle.csdf_answers.specs.declared.fault.ToolFault.{ToolFault}
use Rattle.csdf_answers.specs.declared.fault.ToolFault.TheVariants.{Memory}
use Rattle.csdf_files.proofs.DiskLemmas.{asks_more, asks_none, both_read}
use Rattle.csdf_files.specs.Files.{IsFeedMissing}
use Rattle.csdf_files.specs.Places.{in_file}
use Rattle.csdf_run_files.specs.Running.{LacksFeed, feed_paths, feed_reads, read_whole, run_reads}
use Rattle.csdf_words.specs.CommandLine.{Order}

pub rows_read : (rows : List (List ℕ × List ℕ)) → AllByRecursion IsRead (map read_whole rows)
rows_read [] = tt
rows_read (row ∷ rows) = (tt, rows_read rows)

pub graph_read : (word bytes : List ℕ) → AllByRecursion IsRead (graph_reads word bytes)
graph_read word bytes = by (is_input word)
  where
    by : (b : Bool) → AllByRecursion IsRead (cond b [] (Read word (Ok bytes) ∷ []))
    by true = tt
    by false = (tt, tt)

pub only_graph : (a b : Option (List Act)) (word bytes : List ℕ) → Asks a b (graph_reads word bytes) → OnlyReads a b
only_graph a b word bytes p = (graph_reads word bytes, graph_read word bytes, p)

pub only_feeds : (a b : Option (List Act)) (folder : List ℕ) (actors : List Actor) (texts : List (List ℕ)) → Asks a b (feed_reads folder actors texts)
    → OnlyReads a b
only_feeds a b folder actors texts p = (feed_reads folder actors texts, rows_read (zip (feed_paths folder actors) texts), p)

pub run_read : (order : Order) (g : Graph) (bytes : List ℕ) (feeds : List (List ℕ)) → AllByRecursion IsRead (run_reads order g bytes feeds)
run_read order g bytes feeds =
    both_read (graph_reads order.graph bytes) (feed_reads order.folder g.actors feeds) (graph_read order.graph bytes)
    (rows_read (zip (feed_paths order.folder g.actors) feeds))

-- ---- one source after another

zip_one_more : (xs ys : List (List ℕ)) (x y : List ℕ) → length xs ≡ length ys → zip (xs ++ x ∷ []) (ys ++ y ∷ []) ≡ zip xs ys ++ (x, y) ∷ []
zip_one_more [] [] x y same = refl
zip_one_more [] (v ∷ ys) x y same = absurd (omega (arith, same))
zip_one_more (u ∷ xs) [] x y same = absurd (omega (arith, same))
zip_one_more (u ∷ xs) (v ∷ ys) x y same = ap (λ (rows : List (List ℕ × List ℕ)). (u, v) ∷ rows) (zip_one_more xs ys x y (omega (arith, same)))

module _ (folder : List ℕ) (actors : List Actor) (actor : Actor) where
  abbrev is_source : Actor → Bool
  is_source a = is_source_kernel a.kernel

  abbrev path_of : Actor → List ℕ
  path_of a = path_join folder (in_file a.name)

  paths_split : feed_paths folder (actors ++ actor ∷ []) ≡ feed_paths folder actors ++ map path_of (cond (is_source actor) (actor ∷ []) [])
  paths_split =
      ap (map path_of) (filter-append is_source actors (actor ∷ []))
      ∙ map-append path_of (filter is_source actors) (cond (is_source actor) (actor ∷ []) [])

  pub paths_more : is_source actor ≡ true → feed_paths folder (actors ++ actor ∷ []) ≡ feed_paths folder actors ++ path_of actor ∷ []
  paths_more is = paths_split ∙ ap (λ b. feed_paths folder actors ++ map path_of (cond b (actor ∷ []) [])) is

  pub paths_same : is_source actor ≡ false → feed_paths folder (actors ++ actor ∷ []) ≡ feed_paths folder actors
  paths_same is =
      paths_split ∙ ap (λ b. feed_paths folder actors ++ map path_of (cond b (actor ∷ []) [])) is ∙ append-nil (feed_paths folder actors)

  pub reads_more : (texts : List (List ℕ)) (text : List ℕ) → is_source actor ≡ true → length (feed_paths folder actors) ≡ length texts
      → feed_reads folder (actors ++ actor ∷ []) (texts ++ text ∷ []) ≡ feed_reads folder actors texts ++ Read (path_of actor) (Ok text) ∷ []
  reads_more texts text is same =
      ap (λ paths. map read_whole (zip paths (texts ++ text ∷ []))) (paths_more is)
      ∙ ap (map read_whole) (zip_one_more (feed_paths folder actors) texts (path_of actor) text same)
      ∙ map-append read_whole (zip (feed_paths folder actors) texts) ((path_of actor, text) ∷ [])

-- the token files of the sources before a place were read, one after the other
pub record IsReadTo (before now : Option (List Act)) (folder : List ℕ) (actors : List Actor) (place : ℕ) (texts : List (List ℕ)) : Type 0 where
  pub asked : Asks before now (feed_reads folder (take place actors) texts)
  pub many : length (feed_paths folder (take place actors)) ≡ length texts

pub only_read_to : (before now : Option (List Act)) (folder : List ℕ) (actors : List Actor) (place : ℕ) (texts : List (List ℕ))
    → IsReadTo before now folder actors place texts → OnlyReads before now
only_read_to before now folder actors place texts h = only_feeds before now folder (take place actors) texts h.asked

pub none_read : (before : Option (List Act)) (folder : List ℕ) (actors : List Actor) → IsReadTo before before folder actors 0 []
none_read before folder actors = record { asked = asks_none before; many = refl }

module _ (before now next : Option (List Act)) (folder : List ℕ) (actors : List Actor) (place : ℕ) (actor : Actor) (texts : List (List ℕ))
    (there : place < length actors) (at : get_or actors place actor ≡ actor) (so_far : IsReadTo before now folder actors place texts) where
  longer : take (place + 1) actors ≡ take place actors ++ actor ∷ []
  longer = take_more actors place actor there ∙ ap (λ (a : Actor). take place actors ++ a ∷ []) at

  pub read_next : (text : List ℕ) → is_source_kernel actor.kernel ≡ true → Asks now next (Read (path_join folder (in_file actor.name)) (Ok text) ∷ [])
      → IsReadTo before next folder actors (place + 1) (texts ++ text ∷ [])
  read_next text is asked = record {
    asked = subst (Asks before next) (sym (ap (λ front. feed_reads folder front (texts ++ text ∷ [])) longer
        ∙ reads_more folder (take place actors) actor texts text is so_far.many))
        (asks_more before now next (feed_reads folder (take place actors) texts) _ so_far.asked asked);
    many =
        (let one = ap length (ap (feed_paths folder) longer ∙ paths_more folder (take place actors) actor is) in
        let two = length_push (feed_paths folder (take place actors)) (path_join folder (in_file actor.name)) in
        let three = length_push texts text in
        let same = so_far.many in
        omega (arith, one, two, three, same));
  }

  pub skip_next : is_source_kernel actor.kernel ≡ false → IsReadTo before now folder actors (place + 1) texts
  skip_next is =
      let same : feed_paths folder (take (place + 1) actors) ≡ feed_paths folder (take place actors) =
      ap (feed_paths folder) longer ∙ paths_same folder (take place actors) actor is in
      record {
        asked = subst (λ paths. Asks before now (map read_whole (zip paths texts))) (sym same) so_far.asked;
        many = ap length same ∙ so_far.many;
      }

  pub missing_next : (f : ToolFault) → (f ≡ Memory) ⊎ ((is_source_kernel actor.kernel ≡ true) × IsFeedMissing folder actor.name now next f)
      → (f ≡ Memory) ⊎ ((acts : List Act) × Asks before next acts × LacksFeed folder actors acts f)
  missing_next f (inl memory) = inl memory
  missing_next f (inr missing) =
      let h = missing.1 in
      let last : List Act = Read (path_join folder (in_file actor.name)) (Err h.why) ∷ [] in
      let front : List Act = feed_reads folder (take place actors) texts in
      inr (
        front ++ last,
        asks_more before now next front last so_far.asked h.files,
        record {
          place = place;
          actor = actor;
          texts = texts;
          why = h.why;
          within = there;
          here = at;
          source = missing.0;
          each = so_far.many;
          acts_are = refl;
          told = h.told;
        },
      )
