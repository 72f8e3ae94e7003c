-- The kernel of a table, once its weights and its shift were read.
use Rattle.std.proofs.Common.{◌≡◌, ℕ, ℤ, Bool, true, false, cond, ◌||◌, List, codes, Option, Some, None, option_map, refl, ap, ◌∙◌}
use Rattle.std.specs.Prelude.{is_some, option_and_then}
use Rattle.toml.specs.Data.{Data, Members, as_integer, get_member}
use Rattle.csdf_graph.specs.Tree.{all_some, elements_of, found_or, optional_integer_at, optional_integers_at}
use Rattle.csdf_graph.specs.Shape.{KernelDraft, kernel_of, kernel_with, plain_kernel}
use Rattle.std.specs.Str.{bytes_eq}
use Rattle.csdf_graph.proofs.PassFacts.{some_is}

-- what stands at a key that may be absent
abbrev at_key : {A : Type 0} → (Data → Option A) → Option Data → Option (Option A)
at_key f o = found_or None (λ d. option_map Some (f d)) o

read_is : {A : Type 0} (f : Data → Option A) (o : Option Data) (found : Option A) → at_key f o ≡ Some found
    → (is_some o ≡ is_some found) × (option_and_then f o ≡ found)
read_is {A = A} f None found e = let none : None ≡ found = some_is None found e in (ap is_some none, none)
read_is {A = A} f (Some d) found e = by (f d) refl e
  where
    by : (r : Option A) → f d ≡ r → option_map Some r ≡ Some found → (true ≡ is_some found) × (f d ≡ found)
    by None is h = absurd cc
    by (Some x) is h = let same : Some x ≡ found = some_is (Some x) found h in (ap is_some same, is ∙ same)

unread_is : {A : Type 0} (f : Data → Option A) (o : Option Data) → at_key f o ≡ None → (is_some o ≡ true) × (option_and_then f o ≡ None)
unread_is {A = A} f None e = absurd cc
unread_is {A = A} f (Some d) e = by (f d) refl e
  where
    by : (r : Option A) → f d ≡ r → option_map Some r ≡ None → (true ≡ true) × (f d ≡ None)
    by None is h = (refl, is)
    by (Some x) is h = absurd cc

regrouped : {A B C : Type 0} (g : B → Option C) (h : A → Option B) (o : Option A) → option_and_then g (option_and_then h o) ≡ option_and_then (λ d. option_and_then g (h d)) o
regrouped g h None = refl
regrouped g h (Some d) = refl

module _ (word : List ℕ) (ms : Members) where
  abbrev weights_of : Data → Option (List ℤ)
  weights_of d = option_and_then (all_some as_integer) (elements_of d)

  abbrev same_weights : option_and_then (all_some as_integer) (option_and_then elements_of (get_member (codes "weights") ms))
      ≡ option_and_then weights_of (get_member (codes "weights") ms)
  same_weights = regrouped (all_some as_integer) elements_of (get_member (codes "weights") ms)

  pub kernel_read : (w : Option (List ℤ)) (s : Option ℤ) → optional_integers_at (codes "weights") ms ≡ Some w → optional_integer_at (codes "shift") ms ≡ Some s
      → kernel_of word ms ≡ kernel_with word w s
  unfolding kernel_of kernel_with
  kernel_read w s weights shift =
      let a = read_is weights_of (get_member (codes "weights") ms) w weights in
      let b = read_is as_integer (get_member (codes "shift") ms) s shift in
      rw (same_weights, a.1, a.0, b.1, b.0) refl

  -- weights that are no integers
  pub no_weights : optional_integers_at (codes "weights") ms ≡ None → kernel_of word ms ≡ None
  unfolding kernel_of
  no_weights none =
      let a = unread_is weights_of (get_member (codes "weights") ms) none in
      rw (same_weights, a.1, a.0) (both (bytes_eq word (codes "fir")))
    where
      both : (b : Bool) → ◌≡◌ {A = Option KernelDraft} (cond b None None) None
      both true = refl
      both false = refl

  -- a shift that is no integer
  pub no_shift : optional_integer_at (codes "shift") ms ≡ None → kernel_of word ms ≡ None
  unfolding kernel_of
  no_shift none =
      let b = unread_is as_integer (get_member (codes "shift") ms) none in
      rw (b.1, b.0) (nothing (bytes_eq word (codes "fir")) (is_some (get_member (codes "weights") ms))
      (option_and_then (all_some as_integer) (option_and_then elements_of (get_member (codes "weights") ms))) (plain_kernel word))
    where
      nothing : (b x : Bool) (w : Option (List ℤ)) (plain : Option KernelDraft) → cond b (option_and_then (λ ws. None) w) (cond (x || true) None plain) ≡ None
      nothing true x None plain = refl
      nothing true x (Some ws) plain = refl
      nothing false true w plain = refl
      nothing false false w plain = refl
