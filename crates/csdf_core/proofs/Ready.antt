-- One channel stays ready at each accepted move.
use Rattle.std.proofs.Common.{◌≡◌, ℕ, ◌+◌, ◌-◌, ◌<◌, ◌≤◌, List, [], ◌∷◌, ◌++◌, inl, inr, length, set, take, drop, ap, subst, ◌∙◌, sym, arith, false}
use Rattle.std.specs.Prelude.{ℤ}
use Rattle.std.specs.List.{zip, AllByRecursion}
use Rattle.std.proofs.lemmas.List.{get_or-set_other, length-drop, length-append, length-take}
use Rattle.std.proofs.lemmas.Bool.{ltb-false, eq-eqb}
use Rattle.std.proofs.lemmas.Bool.Decides.{eqb_tells}
use Rattle.csdf_core.specs.Plan.{Channel}
use Rattle.csdf_core.specs.declared.stage.Stage.{Stage}
use Rattle.csdf_core.specs.declared.stage.Stage.TheVariants.{Idle, Begun, Fetched, Written}
use Rattle.csdf_core.specs.Plan.{takes_of, gives_of}
use Rattle.csdf_core.specs.Rows.{Row, is_short, is_full, left, joined, shares, AreThere}
use Rattle.csdf_core.specs.State.{Present}
use Rattle.csdf_core.specs.Step.{count, stage}
use Rattle.csdf_core.specs.Ready.{IsReady}
use Rattle.csdf_core.proofs.Kept.{stage_set}
use Rattle.csdf_core.proofs.RoomLemmas.{second_false}
use Rattle.csdf_core.proofs.Tallies.{takes_none, gives_none}

pub begin_ready : (p : Present) (a : ℕ) (c : Channel) (held : List ℤ) → a < length p.stages → is_short a (count p a) (c, held) ≡ false
    → is_full a (count p a) (c, held) ≡ false → IsReady p.counts p.stages c held → IsReady p.counts (set p.stages a Begun) c held
begin_ready p a c held lt enough room r = record {
  fits = r.fits;
  input = λ h. elim (stage_set p.stages a c.to Begun Begun lt h) [
    | inl e ↦ subst (λ (b : ℕ). takes_of b (count p b) c ≤ length held) (sym e.0) (ltb-false _ _ enough)
    | inr e ↦ r.input e.1
  ];
  begun = λ h. elim (stage_set p.stages a c.from Begun Begun lt h) [
    | inl e ↦ subst (λ (b : ℕ). length held - takes_of b (count p b) c + gives_of b (count p b) c ≤ c.capacity) (sym e.0)
        (ltb-false _ _ (second_false _ _ (eq-eqb c.from a e.0) room))
    | inr e ↦ r.begun e.1
  ];
  fetched = λ h. elim (stage_set p.stages a c.from Begun Fetched lt h) [
    | inl e ↦ let bad = e.1 in absurd (cc)
    | inr e ↦ r.fetched e.1
  ];
}

pub read_ready : (p : Present) (a : ℕ) (c : Channel) (held : List ℤ) → a < length p.stages → stage p a ≡ Begun → IsReady p.counts p.stages c held
    → IsReady p.counts (set p.stages a Fetched) c (drop (takes_of a (count p a) c) held)
read_ready p a c held lt was r =
    let len : length (drop (takes_of a (count p a) c) held) ≡ length held - takes_of a (count p a) c = length-drop _ held in
    record {
      fits = let f = r.fits in omega arith;
      input = λ h. elim (stage_set p.stages a c.to Fetched Begun lt h) [
        | inl e ↦ let bad = e.1 in absurd (cc)
        | inr e ↦ let none = takes_none a (count p a) c e.0 in let old = r.input e.1 in omega arith
      ];
      begun = λ h. elim (stage_set p.stages a c.from Fetched Begun lt h) [
        | inl e ↦ let bad = e.1 in absurd (cc)
        | inr e ↦ let old = r.begun e.1 in omega arith
      ];
      fetched = λ h. elim (stage_set p.stages a c.from Fetched Fetched lt h) [
        | inl e ↦ subst (λ (b : ℕ). length (drop (takes_of a (count p a) c) held) + gives_of b (count p b) c ≤ c.capacity) (sym e.0)
            (let old : length held - takes_of a (count p a) c + gives_of a (count p a) c ≤ c.capacity = subst
            (λ (b : ℕ). length held - takes_of b (count p b) c + gives_of b (count p b) c ≤ c.capacity) e.0 (r.begun (ap (stage p) e.0 ∙ was)) in
            omega arith)
        | inr e ↦ let old = r.fetched e.1 in omega arith
      ];
    }

pub write_ready : (p : Present) (a : ℕ) (c : Channel) (held v : List ℤ) → a < length p.stages → stage p a ≡ Fetched → IsReady p.counts p.stages c held
    → IsReady p.counts (set p.stages a Written) c (held ++ take (gives_of a (count p a) c) v)
write_ready p a c held v lt was r =
    let len : length (held ++ take (gives_of a (count p a) c) v) ≤ length held + gives_of a (count p a) c =
    omega (arith, length-append held (take (gives_of a (count p a) c) v), length-take (gives_of a (count p a) c) v) in
    let more : length held ≤ length (held ++ take (gives_of a (count p a) c) v) = omega (arith, length-append held (take (gives_of a (count p a) c) v)) in
    record {
      fits = elim (eqb_tells c.from a) [
        | inl e ↦ let old : length held + gives_of a (count p a) c ≤ c.capacity =
            subst (λ (b : ℕ). length held + gives_of b (count p b) c ≤ c.capacity) e.1 (r.fetched (ap (stage p) e.1 ∙ was)) in omega arith
        | inr e ↦ let none = gives_none a (count p a) c e.1 in let old = r.fits in omega arith
      ];
      input = λ h. elim (stage_set p.stages a c.to Written Begun lt h) [
        | inl e ↦ let bad = e.1 in absurd (cc)
        | inr e ↦ let old = r.input e.1 in omega arith
      ];
      begun = λ h. elim (stage_set p.stages a c.from Written Begun lt h) [
        | inl e ↦ let bad = e.1 in absurd (cc)
        | inr e ↦ let none = gives_none a (count p a) c e.0 in let old = r.begun e.1 in omega arith
      ];
      fetched = λ h. elim (stage_set p.stages a c.from Written Fetched lt h) [
        | inl e ↦ let bad = e.1 in absurd (cc)
        | inr e ↦ let none = gives_none a (count p a) c e.0 in let old = r.fetched e.1 in omega arith
      ];
    }

pub finish_ready : (p : Present) (a n : ℕ) (c : Channel) (held : List ℤ) → a < length p.stages → IsReady p.counts p.stages c held
    → IsReady (set p.counts a n) (set p.stages a Idle) c held
finish_ready p a n c held lt r = record {
  fits = r.fits;
  input = λ h. elim (stage_set p.stages a c.to Idle Begun lt h) [
    | inl e ↦ let bad = e.1 in absurd (cc)
    | inr e ↦ subst (λ (k : ℕ). takes_of c.to k c ≤ length held) (sym (get_or-set_other p.counts a c.to n 0 e.0)) (r.input e.1)
  ];
  begun = λ h. elim (stage_set p.stages a c.from Idle Begun lt h) [
    | inl e ↦ let bad = e.1 in absurd (cc)
    | inr e ↦ subst (λ (k : ℕ). length held - takes_of c.from k c + gives_of c.from k c ≤ c.capacity) (sym (get_or-set_other p.counts a c.from n 0 e.0))
        (r.begun e.1)
  ];
  fetched = λ h. elim (stage_set p.stages a c.from Idle Fetched lt h) [
    | inl e ↦ let bad = e.1 in absurd (cc)
    | inr e ↦ subst (λ (k : ℕ). length held + gives_of c.from k c ≤ c.capacity) (sym (get_or-set_other p.counts a c.from n 0 e.0)) (r.fetched e.1)
  ];
}

-- the tokens of a begun firing are there
pub are_there : (p : Present) (a : ℕ) (cs : List Channel) (ts : List (List ℤ)) → stage p a ≡ Begun
    → AllByRecursion (λ (row : Row). IsReady p.counts p.stages row.0 row.1) (zip cs ts) → AreThere a (count p a) cs ts
are_there p a [] ts was r = tt
are_there p a (c ∷ cs) [] was r = tt
are_there p a (c ∷ cs) (t ∷ ts) was r = (
  elim (eqb_tells c.to a) [
    | inl e ↦ subst (λ (b : ℕ). takes_of b (count p b) c ≤ length t) e.1 (r.0.input (ap (stage p) e.1 ∙ was))
    | inr e ↦ let none = takes_none a (count p a) c e.1 in omega arith
  ],
  are_there p a cs ts was r.1,
)

abbrev pub AreReady : List ℕ → List Stage → List Channel → List (List ℤ) → Type 0
AreReady counts stages cs ts = AllByRecursion (λ (row : Row). IsReady counts stages row.0 row.1) (zip cs ts)

pub begin_all : (p : Present) (a : ℕ) (cs : List Channel) (ts : List (List ℤ)) → a < length p.stages
    → AllByRecursion (λ (row : Row). is_short a (count p a) row ≡ false) (zip cs ts)
    → AllByRecursion (λ (row : Row). is_full a (count p a) row ≡ false) (zip cs ts)
    → AreReady p.counts p.stages cs ts → AreReady p.counts (set p.stages a Begun) cs ts
begin_all p a [] ts lt enough room r = tt
begin_all p a (c ∷ cs) [] lt enough room r = tt
begin_all p a (c ∷ cs) (t ∷ ts) lt enough room r = (begin_ready p a c t lt enough.0 room.0 r.0, begin_all p a cs ts lt enough.1 room.1 r.1)

pub read_all : (p : Present) (a : ℕ) (cs : List Channel) (ts : List (List ℤ)) → a < length p.stages → stage p a ≡ Begun
    → AreReady p.counts p.stages cs ts → AreReady p.counts (set p.stages a Fetched) cs (left a (count p a) cs ts)
read_all p a [] ts lt was r = tt
read_all p a (c ∷ cs) [] lt was r = tt
read_all p a (c ∷ cs) (t ∷ ts) lt was r = (read_ready p a c t lt was r.0, read_all p a cs ts lt was r.1)

pub write_all : (p : Present) (a : ℕ) (cs : List Channel) (ts : List (List ℤ)) (v : List ℤ) → a < length p.stages → stage p a ≡ Fetched
    → AreReady p.counts p.stages cs ts → AreReady p.counts (set p.stages a Written) cs (joined ts (shares a (count p a) cs v))
write_all p a [] ts v lt was r = tt
write_all p a (c ∷ cs) [] v lt was r = tt
write_all p a (c ∷ cs) (t ∷ ts) v lt was r = (write_ready p a c t v lt was r.0, write_all p a cs ts (drop (gives_of a (count p a) c) v) lt was r.1)

pub finish_all : (p : Present) (a n : ℕ) (cs : List Channel) (ts : List (List ℤ)) → a < length p.stages
    → AreReady p.counts p.stages cs ts → AreReady (set p.counts a n) (set p.stages a Idle) cs ts
finish_all p a n [] ts lt r = tt
finish_all p a n (c ∷ cs) [] lt r = tt
finish_all p a n (c ∷ cs) (t ∷ ts) lt r = (finish_ready p a n c t lt r.0, finish_all p a n cs ts lt r.1)
