-- Token files that are read one source after the other, and what was read of them.
use Rattle.std.proofs.Common.{◌≡◌, ℕ, ◌+◌, ◌<◌, Bool, true, false, cond, List, [], ◌∷◌, ◌++◌, length, take, get_or, refl, ap, sym, subst, ◌∙◌, arith, Ok, Option, Result}
use Rattle.std.specs.Prelude.{ℤ}
use Rattle.std.specs.Global.{Vec}
use Rattle.std.specs.Path.{path_join}
use Rattle.std.proofs.lemmas.List.{append-nil, length-map, length-take, take_more}
use Rattle.std.proofs.lemmas.List.Sums.{length-filter}
use Rattle.csdf_bytes.specs.declared.tokens.TokenFault.{TokenFault}
use Rattle.csdf_model.specs.Graph.{Actor, Graph}
use Rattle.csdf_core.specs.Planned.{is_source_kernel}
use Rattle.csdf_run.specs.declared.tokens.FeedFault.{FeedFault}
use Rattle.csdf_run.specs.Texts.{◌>>=◌, feed_in, feeds_from, source_count}
use Rattle.csdf_run.specs.Tokens.{AreReadOf, read_in, told_at, with_last}
use Rattle.csdf_run.proofs.TokenRuns.{feeds_push, sources_among}
use Rattle.csdf_disk.specs.Acts.{Act, OnlyReads}
use Rattle.csdf_run_files.specs.Running.{IsFeedOf, IsReadAll, feed_paths}
use Rattle.csdf_files.specs.Places.{in_file}
use Rattle.csdf_run_files.proofs.ReadLemmas.{IsReadTo, none_read, read_next, skip_next}
use Rattle.csdf_files.proofs.DiskLemmas.{only_none, only_read}

-- one path for each source
paths_each : (folder : List ℕ) (actors : List Actor) → length (feed_paths folder actors) ≡ length (sources_among actors)
paths_each folder actors = length-map (sources_among actors) (λ (a : Actor). path_join folder (in_file a.name))

path_count : (folder : List ℕ) (actors : List Actor) → length (feed_paths folder actors) ≡ source_count actors
path_count folder actors = paths_each folder actors ∙ length-filter (λ (a : Actor). is_source_kernel a.kernel) actors

-- the token files of the sources before a place were read, and this is what their texts hold
pub record IsFedTo (before now : Option (List Act)) (folder : List ℕ) (actors : List Actor) (place : ℕ) (read : Result (List (List ℤ)) (ℕ × TokenFault)) : Type 0 where
  pub texts : List (List ℕ)
  pub so_far : IsReadTo before now folder actors place texts
  pub fed : feeds_from 0 (take place actors) texts ≡ read

pub none_fed : (before : Option (List Act)) (folder : List ℕ) (actors : List Actor) → IsFedTo before before folder actors 0 (Ok [])
none_fed before folder actors = record { texts = []; so_far = none_read before folder actors; fed = refl }

module _ (before now next : Option (List Act)) (folder : List ℕ) (actors : List Actor) (place : ℕ) (actor : Actor)
    (there : place < length actors) (at : get_or actors place actor ≡ actor) (read : Result (List (List ℤ)) (ℕ × TokenFault))
    (is_fed : IsFedTo before now folder actors place read) where
  longer : take (place + 1) actors ≡ take place actors ++ actor ∷ []
  longer = take_more actors place actor there ∙ ap (λ (a : Actor). take place actors ++ a ∷ []) at

  each : length is_fed.texts ≡ length (sources_among (take place actors))
  each = sym is_fed.so_far.many ∙ paths_each folder (take place actors)

  here : 0 + length (take place actors) ≡ place
  here = let e = length-take place actors in omega (arith, e, there)

  -- one actor more, by what it is told of its texts
  fed_more : (more : List (List ℕ)) (of : ℕ → Result (List ℤ) (ℕ × TokenFault))
      → ((b : ℕ) → feeds_from b (actor ∷ []) more ≡ (of b >>= λ feed. Ok (feed ∷ [])))
      → feeds_from 0 (take (place + 1) actors) (is_fed.texts ++ more) ≡ with_last read (of place)
  fed_more more of one =
      ap (λ (xs : List Actor). feeds_from 0 xs (is_fed.texts ++ more)) longer
      ∙ feeds_push actor more of one 0 (take place actors) is_fed.texts each
      ∙ ap (λ (k : ℕ). with_last (feeds_from 0 (take place actors) is_fed.texts) (of k)) here
      ∙ ap (λ front. with_last front (of place)) is_fed.fed

  pub actor_next : (told : Result (List ℤ) TokenFault) (more : Result (List (List ℤ)) (ℕ × TokenFault)) → IsFeedOf folder actor now next told
      → more ≡ with_last read (told_at place told) → IsFedTo before next folder actors (place + 1) more
  actor_next told more is same = by (is_source_kernel actor.kernel) refl
    where
      by : (b : Bool) → is_source_kernel actor.kernel ≡ b → IsFedTo before next folder actors (place + 1) more
      by true source =
          let came = is.source source in
          let text = came.0 in
          let one : (b : ℕ) → feeds_from b (actor ∷ []) (text ∷ []) ≡ (feed_in b text >>= λ feed. Ok (feed ∷ [])) =
          λ b. ap (λ c. cond c (feed_in b text >>= λ feed. Ok (feed ∷ [])) (feeds_from (b + 1) [] (text ∷ []) >>= λ feeds. Ok ([] ∷ feeds))) source in
          record {
            texts = is_fed.texts ++ text ∷ [];
            so_far = read_next before now next folder actors place actor is_fed.texts there at is_fed.so_far text source came.1;
            fed = fed_more (text ∷ []) (λ b. feed_in b text) one ∙ ap (λ t. with_last read (told_at place t)) came.2 ∙ sym same;
          }
      by false other =
          let none = is.other other in
          let one : (b : ℕ) → feeds_from b (actor ∷ []) [] ≡ Ok ([] ∷ []) =
          λ b. ap (λ c. cond c (feed_in b [] >>= λ feed. Ok (feed ∷ [])) (Ok ([] ∷ []))) other in
          record {
            texts = is_fed.texts;
            so_far = subst (λ (o : Option (List Act)). IsReadTo before o folder actors (place + 1) is_fed.texts) (sym none.0)
                (skip_next before now next folder actors place actor is_fed.texts there at is_fed.so_far other);
            fed = ap (λ ts. feeds_from 0 (take (place + 1) actors) ts) (sym (append-nil is_fed.texts)) ∙ fed_more [] (λ b. Ok []) one
                ∙ ap (λ t. with_last read (told_at place t)) (sym none.1) ∙ sym same;
          }

-- all were read
pub all_fed : (before now : Option (List Act)) (folder : List ℕ) (actors : List Actor) (place : ℕ) (read : Result (Vec (Vec ℤ)) FeedFault)
    → take place actors ≡ actors → IsFedTo before now folder actors place (read_in read)
    → (texts : List (List ℕ)) × IsReadAll folder actors before now texts × AreReadOf actors texts read
all_fed before now folder actors place read all is = (
  is.texts,
  subst (λ (xs : List Actor). IsReadAll folder xs before now is.texts) all (record { asked = is.so_far.asked; each = is.so_far.many }),
  record {
    each_source = sym (subst (λ (xs : List Actor). length (feed_paths folder xs) ≡ length is.texts) all is.so_far.many) ∙ path_count folder actors;
    tokens = subst (λ (xs : List Actor). feeds_from 0 xs is.texts ≡ read_in read) all is.fed;
  },
)

-- what was read for the actors of a graph
pub read_as : (g : Graph) (actors : List Actor) (texts : List (List ℕ)) (read : Result (Vec (Vec ℤ)) FeedFault) → actors ≡ g.actors → AreReadOf actors texts read
    → AreReadOf g.actors texts read
read_as g actors texts read same is = subst (λ (xs : List Actor). AreReadOf xs texts read) same is

-- what an actor is told of its tokens only reads
pub only_feed : (folder : List ℕ) (actor : Actor) (before after : Option (List Act)) (told : Result (List ℤ) TokenFault) → IsFeedOf folder actor before after told
    → OnlyReads before after
only_feed folder actor before after told is = by (is_source_kernel actor.kernel) refl
  where
    by : (b : Bool) → is_source_kernel actor.kernel ≡ b → OnlyReads before after
    by true source = let came = is.source source in only_read before after (path_join folder (in_file actor.name)) (Ok came.0) came.1
    by false other = subst (OnlyReads before) (sym (is.other other).0) (only_none before)
