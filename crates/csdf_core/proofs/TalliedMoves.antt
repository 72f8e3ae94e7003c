-- What the moves keep of the tallies.
use Rattle.std.proofs.Common.{◌≡◌, ◌≢◌, ℕ, suc, ◌+◌, ◌≤◌, inl, inr, List, [], ◌∷◌, ◌++◌, length, take, drop, refl, ap, sym, subst, ◌∙◌, arith}
use Rattle.std.specs.Prelude.{ℤ}
use Rattle.std.specs.List.{AllByRecursion}
use Rattle.std.proofs.lemmas.List.Sums.{sum_by-cons}
use Rattle.std.proofs.lemmas.List.{length-drop, length-append, length-take-le}
use Rattle.std.proofs.lemmas.Bool.Decides.{eqb_tells}
use Rattle.csdf_model.specs.Rates.{rate, total}
use Rattle.csdf_core.specs.Plan.{Channel, gives_of}
use Rattle.csdf_core.specs.Rows.{shares, gift}
use Rattle.csdf_core.specs.State.{Stream}
use Rattle.csdf_core.proofs.Flows.{drained, filled}
use Rattle.csdf_core.proofs.Tallies.{AreTallied, takes_own, takes_none, gives_own, gives_none}

-- a firing finds its tokens, where its actor's inputs have been written so often
abbrev pub IsFed : (ℕ → ℕ) → ℕ → ℕ → Channel → Type 0
IsFed put a k c = c.to ≡ a → total c.consume (suc k) ≤ length c.initial + total c.produce (put c.from)

module _ (put got begun put2 got2 begun2 : ℕ → ℕ) where
  -- all counts as before
  pub tallied_same : (cs : List Channel) (sts : List Stream) → ((b : ℕ) → put2 b ≡ put b) → ((b : ℕ) → got2 b ≡ got b) → ((b : ℕ) → begun2 b ≡ begun b)
      → AreTallied put got begun cs sts → AreTallied put2 got2 begun2 cs sts
  tallied_same [] sts p g b t = tt
  tallied_same (c ∷ cs) [] p g b t = tt
  tallied_same (c ∷ cs) (st ∷ sts) p g b t = (
    record {
      written = t.0.written ∙ ap (λ n. length c.initial + total c.produce n) (sym (p c.from));
      taken = t.0.taken ∙ ap (total c.consume) (sym (g c.to));
      covered = subst (λ n. total c.consume n ≤ length st.written) (sym (b c.to)) t.0.covered;
    },
    tallied_same cs sts p g b t.1,
  )

  -- actor a begins firing k
  pub tallied_begun : (a k : ℕ) (cs : List Channel) (sts : List Stream) → ((b : ℕ) → put2 b ≡ put b) → ((b : ℕ) → got2 b ≡ got b)
      → ((b : ℕ) → b ≢ a → begun2 b ≡ begun b) → begun2 a ≡ suc k
      → AllByRecursion (IsFed put a k) cs → AreTallied put got begun cs sts → AreTallied put2 got2 begun2 cs sts
  tallied_begun a k [] sts p g other own fed t = tt
  tallied_begun a k (c ∷ cs) [] p g other own fed t = tt
  tallied_begun a k (c ∷ cs) (st ∷ sts) p g other own fed t = (
    record {
      written = t.0.written ∙ ap (λ n. length c.initial + total c.produce n) (sym (p c.from));
      taken = t.0.taken ∙ ap (total c.consume) (sym (g c.to));
      covered = elim (eqb_tells c.to a) [
        | inl e ↦ subst (λ n. total c.consume n ≤ length st.written) (sym (ap begun2 e.1 ∙ own)) (let all = t.0.written in let some = fed.0 e.1 in omega arith)
        | inr e ↦ subst (λ n. total c.consume n ≤ length st.written) (sym (other c.to e.1)) t.0.covered
      ];
    },
    tallied_begun a k cs sts p g other own fed.1 t.1,
  )

  -- it reads
  pub tallied_read : (a k : ℕ) (cs : List Channel) (sts : List Stream) → ((b : ℕ) → put2 b ≡ put b) → ((b : ℕ) → b ≢ a → got2 b ≡ got b) → got a ≡ k
      → got2 a ≡ suc k → ((b : ℕ) → begun2 b ≡ begun b)
      → AreTallied put got begun cs sts → AreTallied put2 got2 begun2 cs (drained a k cs sts)
  tallied_read a k [] sts p other was own b t = tt
  tallied_read a k (c ∷ cs) [] p other was own b t = tt
  tallied_read a k (c ∷ cs) (st ∷ sts) p other was own b t = (
    record {
      written = t.0.written ∙ ap (λ n. length c.initial + total c.produce n) (sym (p c.from));
      taken = elim (eqb_tells c.to a) [
        | inl e ↦
            let before : st.taken ≡ total c.consume k = t.0.taken ∙ ap (total c.consume) (ap got e.1 ∙ was) in
            let now : total c.consume (got2 c.to) ≡ total c.consume (suc k) = ap (total c.consume) (ap got2 e.1 ∙ own) in
            let last : total c.consume (suc k) ≡ total c.consume k + rate c.consume k = refl in
            let takes = takes_own a k c e.1 in
            omega arith
        | inr e ↦
            let before = t.0.taken in
            let now : total c.consume (got2 c.to) ≡ total c.consume (got c.to) = ap (total c.consume) (other c.to e.1) in
            let none = takes_none a k c e.1 in
            omega arith
      ];
      covered = subst (λ n. total c.consume n ≤ length st.written) (sym (b c.to)) t.0.covered;
    },
    tallied_read a k cs sts p other was own b t.1,
  )

  -- it writes
  pub tallied_written : (a k : ℕ) (v : List ℤ) (cs : List Channel) (sts : List Stream) → length sts ≡ length cs → length v ≡ gift a k cs
      → ((b : ℕ) → b ≢ a → put2 b ≡ put b) → put a ≡ k → put2 a ≡ suc k → ((b : ℕ) → got2 b ≡ got b) → ((b : ℕ) → begun2 b ≡ begun b)
      → AreTallied put got begun cs sts → AreTallied put2 got2 begun2 cs (filled sts (shares a k cs v))
  tallied_written a k v [] sts len whole other was own g b t = tt
  tallied_written a k v (c ∷ cs) [] len whole other was own g b t = tt
  tallied_written a k v (c ∷ cs) (st ∷ sts) len whole other was own g b t =
      let n : ℕ = gives_of a k c in
      let sums : gift a k (c ∷ cs) ≡ n + gift a k cs = sum_by-cons (gives_of a k) c cs in
      let here : length (take n v) ≡ n = length-take-le n v (omega arith) in
      let grown : length (st.written ++ take n v) ≡ length st.written + n = length-append st.written (take n v) ∙ ap (λ m. length st.written + m) here in
      let left : length (drop n v) ≡ gift a k cs = (let e = length-drop n v in omega arith) in (
        record {
          written = elim (eqb_tells c.from a) [
            | inl e ↦
                let before : length st.written ≡ length c.initial + total c.produce k = t.0.written
                ∙ ap (λ m. length c.initial + total c.produce m) (ap put e.1 ∙ was) in
                let now : total c.produce (put2 c.from) ≡ total c.produce (suc k) = ap (total c.produce) (ap put2 e.1 ∙ own) in
                let last : total c.produce (suc k) ≡ total c.produce k + rate c.produce k = refl in
                let gives = gives_own a k c e.1 in
                omega arith
            | inr e ↦
                let before = t.0.written in
                let now : total c.produce (put2 c.from) ≡ total c.produce (put c.from) = ap (total c.produce) (other c.from e.1) in
                let none = gives_none a k c e.1 in
                omega arith
          ];
          taken = t.0.taken ∙ ap (total c.consume) (sym (g c.to));
          covered = (let now : total c.consume (begun2 c.to) ≡ total c.consume (begun c.to) = ap (total c.consume) (b c.to) in let before = t.0.covered in
              omega arith);
        },
        tallied_written a k (drop n v) cs sts (omega arith) left other was own g b t.1,
      )
