-- An actor that can go, by the counts of firings alone; and persistence: it still can once others have gone on.
use Rattle.std.proofs.Common.{◌≡◌, ℕ, suc, ◌+◌, ◌-◌, ◌<◌, ◌≤◌, ◌==◌, ◌&&◌, nat_lt, nat_le, cond, inl, inr, List, [], ◌∷◌, length, map, refl, ap, subst, ◌∙◌}
use Rattle.std.proofs.Common.{arith, Bool, true, false, Some, None, ltb-false, le-ltb, eqb-true, eq-eqb}
use Rattle.std.specs.Prelude.{slice_index}
use Rattle.std.specs.List.{zip, position_from, AllByRecursion}
use Rattle.std.proofs.lemmas.List.{length-drop}
use Rattle.std.proofs.lemmas.Bool.Decides.{eqb_tells}
use Rattle.csdf_model.specs.Rates.{rate, total}
use Rattle.csdf_analysis.proofs.CountLemmas.{total_mono}
use Rattle.csdf_core.specs.Plan.{Channel, Plan, takes_of, gives_of}
use Rattle.csdf_core.specs.Rows.{Row, is_short, is_full}
use Rattle.csdf_core.specs.State.{Stream, waiting}
use Rattle.csdf_core.specs.Step.{given, is_source}
use Rattle.csdf_core.proofs.RoomLemmas.{second_false}
use Rattle.csdf_core.proofs.Tallies.{IsTallied, AreTallied, takes_own, takes_none, gives_own}
use Rattle.csdf_core.proofs.TalliedMoves.{IsFed}

-- the firings of b once actor a has read its firing k
abbrev pub later : (ℕ → ℕ) → ℕ → ℕ → ℕ → ℕ
later got a k b = cond (b == a) (suc k) (got b)

-- an output has room for what firing k of a puts in
abbrev pub IsRoomy : (ℕ → ℕ) → ℕ → ℕ → Channel → Type 0
IsRoomy got a k c = c.from ≡ a → length c.initial + total c.produce (suc k) ≤ c.capacity + total c.consume (later got a k c.to)

abbrev pub IsAbleAt : (ℕ → ℕ) → (ℕ → ℕ) → ℕ → ℕ → Channel → Type 0
IsAbleAt put got a k c = IsFed put a k c × IsRoomy got a k c

-- firing k of a is neither spent, dry, short nor full, where the actors have written and read so many firings
pub record IsAble (plan : Plan) (put got : ℕ → ℕ) (a k : ℕ) : Type 0 where
  pub exists : a < length plan.sources
  pub below : nat_le (slice_index plan.limits a) k ≡ false
  pub wet : (is_source plan a && nat_lt (slice_index plan.supplies a) (given plan a (suc k))) ≡ false
  pub rows : AllByRecursion (IsAbleAt put got a k) plan.channels

-- ---- persistence

able_row : (put got put2 got2 : ℕ → ℕ) (a k : ℕ) (c : Channel) → ((b : ℕ) → put b ≤ put2 b) → ((b : ℕ) → got b ≤ got2 b) → IsAbleAt put got a k c
    → IsAbleAt put2 got2 a k c
able_row put got put2 got2 a k c p g able = (
  (λ to. let enough = able.0 to in let more = total_mono c.produce (put c.from) (put2 c.from) (p c.from) in omega arith),
  (λ from.
      let room = able.1 from in
      let more : total c.consume (later got a k c.to) ≤ total c.consume (later got2 a k c.to) =
      total_mono c.consume (later got a k c.to) (later got2 a k c.to) (by (c.to == a) (g c.to)) in
      omega arith),
)
  where
    by : (b : Bool) → got c.to ≤ got2 c.to → cond b (suc k) (got c.to) ≤ cond b (suc k) (got2 c.to)
    by true le = omega arith
    by false le = le

able_rows : (put got put2 got2 : ℕ → ℕ) (a k : ℕ) (cs : List Channel) → ((b : ℕ) → put b ≤ put2 b) → ((b : ℕ) → got b ≤ got2 b)
    → AllByRecursion (IsAbleAt put got a k) cs → AllByRecursion (IsAbleAt put2 got2 a k) cs
able_rows put got put2 got2 a k [] p g all = tt
able_rows put got put2 got2 a k (c ∷ cs) p g all = (able_row put got put2 got2 a k c p g all.0, able_rows put got put2 got2 a k cs p g all.1)

pub able_later : (plan : Plan) (put got put2 got2 : ℕ → ℕ) (a k : ℕ) → ((b : ℕ) → put b ≤ put2 b) → ((b : ℕ) → got b ≤ got2 b) → IsAble plan put got a k
    → IsAble plan put2 got2 a k
able_later plan put got put2 got2 a k p g able = record {
  exists = able.exists;
  below = able.below;
  wet = able.wet;
  rows = able_rows put got put2 got2 a k plan.channels p g able.rows;
}

-- ---- the step's tests and the counts

and_false : (b c : Bool) → (b ≡ true → c ≡ false) → (b && c) ≡ false
and_false true c e = e refl
and_false false c e = refl

module _ (put got begun : ℕ → ℕ) (a k : ℕ) (puts : put a ≡ k) (gots : got a ≡ k) (begins : begun a ≡ k) (under : (b : ℕ) → got b ≤ begun b) where
  -- an input that isn't short
  fed_row : (c : Channel) (st : Stream) → IsTallied put got begun c st → is_short a k (c, waiting st) ≡ false → IsFed put a k c
  fed_row c st t off to =
      let enough : takes_of a k c ≤ length (waiting st) = ltb-false _ _ off in
      let len : length (waiting st) ≡ length st.written - st.taken = length-drop st.taken st.written in
      let takes = takes_own a k c to in
      let was : st.taken ≡ total c.consume k = t.taken ∙ ap (total c.consume) (ap got to ∙ gots) in
      let covered : total c.consume k ≤ length st.written = subst (λ n. total c.consume n ≤ length st.written) (ap begun to ∙ begins) t.covered in
      let last : total c.consume (suc k) ≡ total c.consume k + rate c.consume k = refl in
      let all = t.written in
      omega arith

  not_short : (c : Channel) (st : Stream) → IsTallied put got begun c st → IsFed put a k c → is_short a k (c, waiting st) ≡ false
  not_short c st t fed = le-ltb _ _ (elim (eqb_tells c.to a) [
    | inl e ↦
        let enough = fed e.1 in
        let len : length (waiting st) ≡ length st.written - st.taken = length-drop st.taken st.written in
        let takes = takes_own a k c e.1 in
        let was : st.taken ≡ total c.consume k = t.taken ∙ ap (total c.consume) (ap got e.1 ∙ gots) in
        let last : total c.consume (suc k) ≡ total c.consume k + rate c.consume k = refl in
        let all = t.written in
        omega arith
    | inr e ↦ let none = takes_none a k c e.1 in omega arith
  ])

  -- what an output would hold
  full_sum : (c : Channel) (st : Stream) → IsTallied put got begun c st → IsFed put a k c → c.from ≡ a
      → length (waiting st) - takes_of a k c + gives_of a k c + total c.consume (later got a k c.to) ≡ length c.initial + total c.produce (suc k)
  full_sum c st t fed from =
      let len : length (waiting st) ≡ length st.written - st.taken = length-drop st.taken st.written in
      let all : length st.written ≡ length c.initial + total c.produce k = t.written ∙ ap (λ n. length c.initial + total c.produce n) (ap put from ∙ puts) in
      let gives = gives_own a k c from in
      let last : total c.produce (suc k) ≡ total c.produce k + rate c.produce k = refl in
      let lawful : total c.consume (got c.to) ≤ total c.consume (begun c.to) = total_mono c.consume (got c.to) (begun c.to) (under c.to) in
      let covered = t.covered in
      let taken = t.taken in
      elim (eqb_tells c.to a) [
        | inl e ↦
            let enough = fed e.1 in
            let whole = t.written in
            let takes = takes_own a k c e.1 in
            let was : st.taken ≡ total c.consume k = t.taken ∙ ap (total c.consume) (ap got e.1 ∙ gots) in
            let now : total c.consume (later got a k c.to) ≡ total c.consume (suc k) = ap (λ b. total c.consume (cond b (suc k) (got c.to))) e.0 in
            let end : total c.consume (suc k) ≡ total c.consume k + rate c.consume k = refl in
            omega arith
        | inr e ↦
            let none = takes_none a k c e.1 in
            let now : total c.consume (later got a k c.to) ≡ total c.consume (got c.to) = ap (λ b. total c.consume (cond b (suc k) (got c.to))) e.0 in
            omega arith
      ]

  able_at : (c : Channel) (st : Stream) → IsTallied put got begun c st → is_short a k (c, waiting st) ≡ false → is_full a k (c, waiting st) ≡ false
      → IsAbleAt put got a k c
  able_at c st t short full =
      let fed : IsFed put a k c = fed_row c st t short in (
        fed,
        (λ from.
            let room : length (waiting st) - takes_of a k c + gives_of a k c ≤ c.capacity = ltb-false _ _ (second_false _ _ (eq-eqb c.from a from) full) in
            let sum = full_sum c st t fed from in
            omega arith),
      )

  not_full : (c : Channel) (st : Stream) → IsTallied put got begun c st → IsAbleAt put got a k c → is_full a k (c, waiting st) ≡ false
  not_full c st t able = and_false _ _ (λ on.
      let from : c.from ≡ a = eqb-true c.from a on in
      let sum = full_sum c st t able.0 from in
      let room = able.1 from in
      le-ltb _ _ (omega arith))

  pub able_all : (cs : List Channel) (sts : List Stream) → length sts ≡ length cs → AreTallied put got begun cs sts
      → AllByRecursion (λ (row : Row). is_short a k row ≡ false) (zip cs (map waiting sts))
      → AllByRecursion (λ (row : Row). is_full a k row ≡ false) (zip cs (map waiting sts))
      → AllByRecursion (IsAbleAt put got a k) cs
  able_all [] sts len t short full = tt
  able_all (c ∷ cs) [] len t short full = absurd (omega arith)
  able_all (c ∷ cs) (st ∷ sts) len t short full = (able_at c st t.0 short.0 full.0, able_all cs sts (omega arith) t.1 short.1 full.1)

  -- no test of a list passes
  pub none_short : (cs : List Channel) (sts : List Stream) (i : ℕ) → AreTallied put got begun cs sts → AllByRecursion (IsAbleAt put got a k) cs
      → position_from (is_short a k) i (zip cs (map waiting sts)) ≡ None
  none_short [] sts i t able = refl
  none_short (c ∷ cs) [] i t able = refl
  none_short (c ∷ cs) (st ∷ sts) i t able =
      ap (λ (b : Bool). cond b (Some i) (position_from (is_short a k) (i + 1) (zip cs (map waiting sts)))) (not_short c st t.0 able.0.0)
      ∙ none_short cs sts (i + 1) t.1 able.1

  pub none_full : (cs : List Channel) (sts : List Stream) (i : ℕ) → AreTallied put got begun cs sts → AllByRecursion (IsAbleAt put got a k) cs
      → position_from (is_full a k) i (zip cs (map waiting sts)) ≡ None
  none_full [] sts i t able = refl
  none_full (c ∷ cs) [] i t able = refl
  none_full (c ∷ cs) (st ∷ sts) i t able =
      ap (λ (b : Bool). cond b (Some i) (position_from (is_full a k) (i + 1) (zip cs (map waiting sts)))) (not_full c st t.0 able.0)
      ∙ none_full cs sts (i + 1) t.1 able.1
