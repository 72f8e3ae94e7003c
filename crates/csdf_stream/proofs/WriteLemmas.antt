-- What is written, sink after sink.
use Rattle.std.proofs.Common.{◌≡◌, ℕ, ◌+◌, ◌<◌, ◌≤◌, List, length, map, get_or, set, refl, ap, sym, subst, ◌∙◌, inl, inr, arith}
use Rattle.std.specs.Prelude.{ℤ, Option, None}
use Rattle.std.specs.Io.KnownBytes.{Appends}
use Rattle.std.proofs.KnownBytes.{Appends-nil}
use Rattle.std.proofs.lemmas.Bool.Decides.{eqb_tells, leb_tells}
use Rattle.std.proofs.lemmas.List.{get_or-map, get_or-set_same, get_or-set_other, length-map, map-set, take_all}
use Rattle.csdf_bytes.specs.Device.{EmitsSome}
use Rattle.csdf_run.specs.Totals.{capped}
use Rattle.csdf_stream.specs.declared.options.TokenFormat.{TokenFormat}
use Rattle.csdf_stream.specs.Writing.{AreBegun, bytes_in, clipped_in, of_sink}

-- the sinks before a place are written, and no other
pub record AreWrittenTo (format : TokenFormat) (sinks : List ℕ) (lists : List (List ℤ)) (before after : List (Option (List ℕ))) (k : ℕ) : Type 0 where
  pub done : (j : ℕ) → j < k → Appends (get_or before j None) (get_or after j None) (bytes_in format (of_sink sinks lists j))
  pub rest : (j : ℕ) → k ≤ j → get_or after j None ≡ get_or before j None

pub written_none : (format : TokenFormat) (sinks : List ℕ) (lists : List (List ℤ)) (before : List (Option (List ℕ)))
    → AreWrittenTo format sinks lists before before 0
written_none format sinks lists before = record { done = λ j lt. absurd (omega (arith, lt)); rest = λ j le. refl }

module _ (format : TokenFormat) (sinks : List ℕ) (lists : List (List ℤ)) (before after : List (Option (List ℕ))) (k : ℕ) (v : Option (List ℕ))
    (within : k < length after) (so_far : AreWrittenTo format sinks lists before after k) where
  pub written_next : Appends (get_or after k None) v (bytes_in format (of_sink sinks lists k)) → AreWrittenTo format sinks lists before (set after k v) (k + 1)
  written_next put = record {
    done = λ j lt. elim (eqb_tells j k) [
      | inl same ↦ subst (λ i. Appends (get_or before i None) (get_or (set after k v) i None) (bytes_in format (of_sink sinks lists i))) (sym same.1)
          (subst (λ o. Appends (get_or before k None) o (bytes_in format (of_sink sinks lists k))) (sym (get_or-set_same after k v None within))
          (subst (λ o. Appends o v (bytes_in format (of_sink sinks lists k))) (so_far.rest k (omega arith)) put))
      | inr other ↦ subst (λ o. Appends (get_or before j None) o (bytes_in format (of_sink sinks lists j)))
          (sym (get_or-set_other after k j v None other.1))
          (so_far.done j (let ne = other.1 in omega (arith, lt)))
    ];
    rest = λ j le. get_or-set_other after k j v None (λ e. absurd (omega (arith, le, e))) ∙ so_far.rest j (omega (arith, le));
  }

  pub begun_at : EmitsSome (get_or after k None) v (bytes_in format (of_sink sinks lists k)) → AreBegun format sinks lists before (set after k v)
  begun_at some = λ j lt. elim (eqb_tells j k) [
    | inl same ↦ subst (λ i. EmitsSome (get_or before i None) (get_or (set after k v) i None) (bytes_in format (of_sink sinks lists i))) (sym same.1)
        (subst (λ o. EmitsSome (get_or before k None) o (bytes_in format (of_sink sinks lists k))) (sym (get_or-set_same after k v None within))
        (subst (λ o. EmitsSome o v (bytes_in format (of_sink sinks lists k))) (so_far.rest k (omega arith)) some))
    | inr other ↦ subst (λ o. EmitsSome (get_or before j None) o (bytes_in format (of_sink sinks lists j)))
        (sym (get_or-set_other after k j v None other.1))
        (begun_other j other.1)
  ]
    where
      whole : (o p : Option (List ℕ)) (bytes : List ℕ) → Appends o p bytes → EmitsSome o p bytes
      whole o p bytes put = record {
        count = length bytes;
        fits = omega arith;
        put = subst (Appends o p) (sym (take_all (length bytes) bytes (omega arith))) put;
      }

      nothing : (o : Option (List ℕ)) (bytes : List ℕ) → EmitsSome o o bytes
      nothing o bytes = record { count = 0; fits = omega arith; put = Appends-nil o }

      begun_other : (j : ℕ) → (j ≡ k → ⊥) → EmitsSome (get_or before j None) (get_or after j None) (bytes_in format (of_sink sinks lists j))
      begun_other j apart = elim (leb_tells k j) [
        | inr lt ↦ whole _ _ _ (so_far.done j lt.1)
        | inl ge ↦ subst (λ o. EmitsSome (get_or before j None) o (bytes_in format (of_sink sinks lists j))) (sym (so_far.rest j ge.1)) (nothing _ _)
      ]

-- ---- as the code writes them

module _ {D : Type 0} (written : D → Option (List ℕ)) (format : TokenFormat) (sinks : List ℕ) (lists : List (List ℤ)) (before : List (Option (List ℕ))) (ds : List D)
    (k : ℕ) (d y : D) (within : k < length ds) (so_far : AreWrittenTo format sinks lists before (map written ds) k) (tokens : List ℤ)
    (same : tokens ≡ of_sink sinks lists k) where
  here : k < length (map written ds)
  here = (let n = length-map ds written in omega (arith, n, within))

  old : written (get_or ds k y) ≡ get_or (map written ds) k None
  old = sym (get_or-map written ds k y None within)

  pub written_put : Appends (written (get_or ds k y)) (written d) (bytes_in format tokens) → AreWrittenTo format sinks lists before (map written (set ds k d)) (k + 1)
  written_put put =
      subst (λ (os : List (Option (List ℕ))). AreWrittenTo format sinks lists before os (k + 1)) (sym (map-set written ds k d))
      (written_next format sinks lists before (map written ds) k (written d) here so_far
      (subst (λ o. Appends o (written d) (bytes_in format (of_sink sinks lists k))) old
      (subst (λ (ts : List ℤ). Appends (written (get_or ds k y)) (written d) (bytes_in format ts)) same put)))

  pub begun_put : EmitsSome (written (get_or ds k y)) (written d) (bytes_in format tokens) → AreBegun format sinks lists before (map written (set ds k d))
  begun_put some =
      subst (λ (os : List (Option (List ℕ))). AreBegun format sinks lists before os) (sym (map-set written ds k d))
      (begun_at format sinks lists before (map written ds) k (written d) here so_far
      (subst (λ o. EmitsSome o (written d) (bytes_in format (of_sink sinks lists k))) old
      (subst (λ (ts : List ℤ). EmitsSome (written (get_or ds k y)) (written d) (bytes_in format ts)) same some)))

-- ---- how many are none of the format

pub record AreClippedTo (format : TokenFormat) (sinks : List ℕ) (lists : List (List ℤ)) (before after : List ℕ) (k : ℕ) : Type 0 where
  pub done : (j : ℕ) → j < k → get_or after j 0 ≡ capped (get_or before j 0 + clipped_in format (of_sink sinks lists j))
  pub rest : (j : ℕ) → k ≤ j → get_or after j 0 ≡ get_or before j 0

pub clipped_none : (format : TokenFormat) (sinks : List ℕ) (lists : List (List ℤ)) (before : List ℕ) → AreClippedTo format sinks lists before before 0
clipped_none format sinks lists before = record { done = λ j lt. absurd (omega (arith, lt)); rest = λ j le. refl }

pub clipped_next : (format : TokenFormat) (sinks : List ℕ) (lists : List (List ℤ)) (before after : List ℕ) (k n : ℕ) → k < length after
    → AreClippedTo format sinks lists before after k
    → n ≡ capped (get_or after k 0 + clipped_in format (of_sink sinks lists k))
    → AreClippedTo format sinks lists before (set after k n) (k + 1)
clipped_next format sinks lists before after k n within so_far is = record {
  done = λ j lt. elim (eqb_tells j k) [
    | inl same ↦ ap (λ (i : ℕ). get_or (set after k n) i 0) same.1
        ∙ get_or-set_same after k n 0 within
        ∙ is
        ∙ ap (λ (m : ℕ). capped (m + clipped_in format (of_sink sinks lists k))) (so_far.rest k (omega arith))
        ∙ ap (λ (i : ℕ). capped (get_or before i 0 + clipped_in format (of_sink sinks lists i))) (sym same.1)
    | inr other ↦ get_or-set_other after k j n 0 other.1 ∙ so_far.done j (let ne = other.1 in omega (arith, lt))
  ];
  rest = λ j le. get_or-set_other after k j n 0 (λ e. absurd (omega (arith, le, e))) ∙ so_far.rest j (omega (arith, le));
}
