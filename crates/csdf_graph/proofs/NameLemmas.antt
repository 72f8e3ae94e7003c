-- A loop that numbers names.
use Rattle.std.proofs.Common.{◌≡◌, ℕ, ◌+◌, ◌<◌, true, false, List, [], ◌∷◌, ◌++◌, length, map, get_or, take, drop, String, Global, Bor, string_bytes, Ok, Err}
use Rattle.std.proofs.Common.{Result, refl, sym, ap, subst, ◌∙◌}
use Rattle.std.specs.String.{string_eq}
use Rattle.std.specs.List.{list_any}
use Rattle.std.specs.Str.{bytes_eq}
use Rattle.std.proofs.lemmas.Bool.{and_parts, not-true}
use Rattle.std.proofs.lemmas.List.{drop_more, take_more, take-map, map_push}
use Rattle.indexmap.specs.IndexSet.{insert_key}
use Rattle.std.specs.Result.{result_and}
use Rattle.csdf_graph.specs.declared.fault.GraphFault.{GraphFault}
use Rattle.csdf_graph.specs.declared.fault.GraphFault.TheVariants.{Name, Memory}
use Rattle.csdf_graph.specs.declared.names.Kind.{Kind}
use Rattle.csdf_graph.specs.FaultPlace.{fault_place}
use Rattle.csdf_graph.specs.Passes.{each, Fails}
use Rattle.csdf_model.specs.Names.{is_name}
use Rattle.csdf_graph.specs.Names.{is_free, at, name_at, names_of}
use Rattle.csdf_graph.proofs.PassLemmas.{with_front, made_more}
use Rattle.csdf_graph.proofs.TreeLemmas.{list_any_map}

-- a free name goes last
pub keys_grow : (keys new : List (String Global)) (k : String Global) (name : List ℕ) → new ≡ insert_key string_eq keys k → string_bytes k ≡ name
    → is_free name (map string_bytes keys) ≡ true
    → map string_bytes new ≡ map string_bytes keys ++ name ∷ []
keys_grow keys new k name grown same free =
    let unused : list_any (bytes_eq name) (map string_bytes keys) ≡ false = not-true _ (and_parts (is_name name) _ free).1 in
    let none : list_any (string_eq k) keys ≡ false = ap (λ t. list_any (λ x. bytes_eq t (string_bytes x)) keys) same
    ∙ sym (list_any_map string_bytes (bytes_eq name) keys) ∙ unused in
    rw (grown, none, map_push string_bytes keys k, same) refl

module _ (kind : Kind) (names : List (Bor (List ℕ))) where
  abbrev texts : List (List ℕ)
  texts = map (λ n. n.now) names

  -- the names so far: those that are taken are all of them, or they have the fault of the whole
  abbrev pub NamesStand : Result (Unit {0}) GraphFault → List (List ℕ) → ℕ → Type 0
  NamesStand (Ok u) taken i = (taken ≡ take i texts)
      × (with_front taken (each (name_at kind texts) i (map (λ n. n.now) (drop i names))) ≡ names_of kind texts)
  NamesStand (Err fault) taken i = Fails fault (names_of kind texts)

  refused : (i : ℕ) (d : Bor (List ℕ)) (taken : List (List ℕ)) → i < length names → taken ≡ take i texts → is_free (get_or names i d).now taken ≡ false
      → with_front taken (each (name_at kind texts) i (map (λ n. n.now) (drop i names))) ≡ names_of kind texts
      → names_of kind texts ≡ Err (Name (at kind (fault_place i)))
  refused i d taken lt so_far is_taken whole =
      let wrong : name_at kind texts i (get_or names i d).now ≡ Err (Name (at kind (fault_place i))) = rw (← so_far, is_taken) refl in
      let one : with_front taken (each (name_at kind texts) i (map (λ n. n.now) (drop i names))) ≡ Err (Name (at kind (fault_place i))) =
      rw (drop_more names i d lt, wrong) refl in
      sym whole ∙ one

  pub name_refused : (checked after : Result (Unit {0}) GraphFault) (i : ℕ) (d : Bor (List ℕ)) (taken : List (List ℕ)) (fault : GraphFault) → i < length names
      → is_free (get_or names i d).now taken ≡ false → after ≡ result_and checked (Err fault) → ((fault ≡ Memory → ⊥) → fault ≡ Name (at kind (fault_place i)))
      → NamesStand checked taken i → NamesStand after taken (i + 1)
  name_refused (Ok u) after i d taken fault lt is_taken is told so_far =
      subst (λ a. NamesStand a taken (i + 1)) (sym is) (λ other. refused i d taken lt so_far.0 is_taken so_far.1 ∙ ap Err (sym (told other)))
  name_refused (Err e) after i d taken fault lt is_taken is told so_far = subst (λ a. NamesStand a taken (i + 1)) (sym is) so_far

  pub name_taken : (checked : Result (Unit {0}) GraphFault) (i : ℕ) (d : Bor (List ℕ)) (taken next : List (List ℕ)) → i < length names
      → is_free (get_or names i d).now taken ≡ true
      → next ≡ taken ++ (get_or names i d).now ∷ []
      → NamesStand checked taken i → NamesStand checked next (i + 1)
  name_taken (Ok u) i d taken next lt free grown so_far =
      let right : name_at kind texts i (get_or names i d).now ≡ Ok (get_or names i d).now = rw (← so_far.0, free) refl in
      let more : take (i + 1) texts ≡ take i texts ++ (get_or names i d).now ∷ [] = take-map (λ n. n.now) (i + 1) names
      ∙ ap (map (λ n. n.now)) (take_more names i d lt) ∙ map_push (λ n. n.now) (take i names) (get_or names i d)
      ∙ ap (λ ns. ns ++ (get_or names i d).now ∷ []) (sym (take-map (λ n. n.now) i names)) in (
        grown ∙ ap (λ ns. ns ++ (get_or names i d).now ∷ []) so_far.0 ∙ sym more,
        made_more (name_at kind texts) (λ n. n.now) i (get_or names i d) (drop i names) (drop (i + 1) names) (drop_more names i d lt)
            (names_of kind texts) taken (get_or names i d).now next grown right so_far.1,
      )
  name_taken (Err e) i d taken next lt free grown so_far = so_far
