-- What honest moves keep: each firing's tokens in its outputs are the kernel's value of those at its places in its inputs.
use Rattle.std.proofs.Common.{◌≡◌, ℕ, suc, ◌<◌, ◌≤◌, inl, inr, List, [], length, get_or, set, replicate, refl, ap, sym, subst, ◌∙◌, arith, length-set}
use Rattle.std.proofs.Common.{eq-or-lt_of_le}
use Rattle.std.specs.Prelude.{ℤ}
use Rattle.std.proofs.lemmas.List.{get_or-set_other, get_or-set_same, length-replicate}
use Rattle.std.proofs.lemmas.Bool.Decides.{eqb_tells}
use Rattle.csdf_core.specs.declared.stage.Stage.TheVariants.{Idle, Begun, Fetched, Written}
use Rattle.csdf_core.specs.Moves.{Move}
use Rattle.csdf_core.specs.Moves.{Begin, Read, Write, Finish, Close}
use Rattle.csdf_core.specs.Plan.{Channel, gives_of}
use Rattle.csdf_core.specs.Rows.{shares, gift}
use Rattle.csdf_core.specs.State.{Stream, State, present, opening}
use Rattle.csdf_core.specs.Step.{count, stage, answer, accepted}
use Rattle.csdf_core.proofs.Kept.{reads, writes, finishes, stage_set}
use Rattle.csdf_core.proofs.Flows.{drained, filled}
use Rattle.csdf_core.proofs.Opening.{alike}
use Rattle.csdf_floor.specs.Journal.{Program, value, reads_after, no_reads, IsHonestMove}
use Rattle.csdf_core.specs.Going.{begun_at}
use Rattle.csdf_core.specs.Going.{CanGo}
use Rattle.csdf_core.proofs.FiringCounts.{put_at, got_at, put, got, begun, staged_same, staged_other, staged_as, finished_as, put_begun}
use Rattle.csdf_floor.proofs.Places.{inputs_at, outputs_at, taken_is, inputs-drained, outputs-drained, inputs-filled, outputs-filled, outputs_new}
use Rattle.csdf_core.proofs.Booked.{IsBooked, booked_opening, booked_begun, booked_read, booked_written, booked_finished, can_begin}

-- what firing k of a wrote is the kernel's value
abbrev pub IsValueAt : Program → List Stream → ℕ → ℕ → Type 0
IsValueAt w sts a k = outputs_at a k w.plan.channels sts ≡ shares a k w.plan.channels (value w a k (inputs_at a k w.plan.channels sts))

-- all that is written is
abbrev pub AreValues : Program → State → Type 0
AreValues w s = (a k : ℕ) → k < put s.counts s.stages a → IsValueAt w s.streams a k

-- an actor that has read holds the tokens at its firing's places
abbrev pub AreKept : Program → State → List (List ℤ) → Type 0
AreKept w s kept = (a : ℕ) → stage (present s) a ≡ Fetched → get_or kept a [] ≡ inputs_at a (count (present s) a) w.plan.channels s.streams

pub record IsFaithful (w : Program) (s : State) (kept : List (List ℤ)) : Type 0 where
  pub booked : IsBooked w.plan s
  pub each : length kept ≡ length w.plan.sources
  pub values : AreValues w s
  pub keeps : AreKept w s kept

pub faithful_begun : (w : Program) (s : State) (kept : List (List ℤ)) (a : ℕ) → IsFaithful w s kept → CanGo w.plan (present s) a
    → IsFaithful w (accepted w.plan s (Begin a)) kept
faithful_begun w s kept a f can =
    let lt : a < length s.stages = (let there = can.exists in let staged = f.booked.staged in omega arith) in
    record {
      booked = booked_begun w.plan s a f.booked can;
      each = f.each;
      values = λ b k less. f.values b k (let same = staged_as put_at s.counts s.stages a Begun Idle lt can.idle refl b in omega arith);
      keeps = λ b at. elim (stage_set s.stages a b Begun Fetched lt at) [
        | inl e ↦ let bad = e.1 in absurd (cc)
        | inr e ↦ f.keeps b e.1
      ];
    }

pub faithful_read : (w : Program) (s : State) (kept : List (List ℤ)) (a : ℕ) → IsFaithful w s kept → a < length w.plan.sources → stage (present s) a ≡ Begun
    → IsFaithful w (accepted w.plan s (Read a)) (set kept a (answer w.plan (present s) (Read a)))
faithful_read w s kept a f there at =
    let lt : a < length s.stages = (let staged = f.booked.staged in omega arith) in
    let ltk : a < length kept = (let each = f.each in omega arith) in
    let k : ℕ = count (present s) a in
    let cs : List Channel = w.plan.channels in
    let read : answer w.plan (present s) (Read a) ≡ inputs_at a k cs s.streams =
    taken_is (put s.counts s.stages) (got s.counts s.stages) (begun s.counts s.stages) a k cs s.streams (ap (λ x. got_at x (get_or s.counts a 0)) at)
    f.booked.tallied in
    record {
      booked = booked_read w.plan s a f.booked there at;
      each = length-set kept a (answer w.plan (present s) (Read a)) ∙ f.each;
      values = λ b j less.
          let old = f.values b j (let same = staged_as put_at s.counts s.stages a Fetched Begun lt at refl b in omega arith) in
          outputs-drained a k b j cs s.streams ∙ old ∙ ap (λ (xs : List ℤ). shares b j cs (value w b j xs)) (sym (inputs-drained a k b j cs s.streams));
      keeps = λ b at2. elim (eqb_tells b a) [
        | inl e ↦ subst (λ (d : ℕ). get_or (set kept a (answer w.plan (present s) (Read a))) d []
            ≡ inputs_at d (get_or s.counts d 0) cs (drained a k cs s.streams)) (sym e.1)
            (get_or-set_same kept a (answer w.plan (present s) (Read a)) [] ltk ∙ read ∙ sym (inputs-drained a k a k cs s.streams))
        | inr e ↦ get_or-set_other kept a b (answer w.plan (present s) (Read a)) [] e.1
            ∙ f.keeps b (sym (get_or-set_other s.stages a b Fetched Idle e.1) ∙ at2)
            ∙ sym (inputs-drained a k b (get_or s.counts b 0) cs s.streams)
      ];
    }

pub faithful_written : (w : Program) (s : State) (kept : List (List ℤ)) (a : ℕ) (v : List ℤ) → IsFaithful w s kept → a < length w.plan.sources
    → stage (present s) a ≡ Fetched
    → length v ≡ gift a (count (present s) a) w.plan.channels → v ≡ value w a (count (present s) a) (get_or kept a [])
    → IsFaithful w (accepted w.plan s (Write a v)) kept
faithful_written w s kept a v f there at whole is =
    let lt : a < length s.stages = (let staged = f.booked.staged in omega arith) in
    let k : ℕ = count (present s) a in
    let cs : List Channel = w.plan.channels in
    let p : ℕ → ℕ = put s.counts s.stages in
    let g : ℕ → ℕ = got s.counts s.stages in
    let r : ℕ → ℕ = begun s.counts s.stages in
    let sts2 : List Stream = filled s.streams (shares a k cs v) in
    let under : (b : ℕ) → p b ≤ r b = λ b. put_begun (get_or s.stages b Idle) (get_or s.counts b 0) in
    let inputs : (b j : ℕ) → suc j ≤ r b → inputs_at b j cs sts2 ≡ inputs_at b j cs s.streams =
    λ b j le. inputs-filled p g r (gives_of a k) v b j cs s.streams f.booked.streamed le f.booked.tallied in
    let begins : r a ≡ suc k = ap (λ x. begun_at x (get_or s.counts a 0)) at in
    let puts : p a ≡ k = ap (λ x. put_at x (get_or s.counts a 0)) at in
    let old : (b j : ℕ) → j < p b → IsValueAt w sts2 b j = λ b j less.
    (outputs-filled p g r (gives_of a k) v b j cs s.streams f.booked.streamed (omega arith) f.booked.tallied
    ∙ f.values b j less
    ∙ ap (λ (xs : List ℤ). shares b j cs (value w b j xs)) (sym (inputs b j (let u = under b in omega arith)))) in
    let new : IsValueAt w sts2 a k =
    outputs_new p g r v a k cs s.streams f.booked.streamed puts f.booked.tallied
    ∙ ap (shares a k cs) (is ∙ ap (value w a k) (f.keeps a at ∙ sym (inputs a k (omega arith)))) in
    record {
      booked = booked_written w.plan s a v f.booked there at whole;
      each = f.each;
      values = λ b j less. elim (eqb_tells b a) [
        | inl e ↦ subst (λ (d : ℕ). IsValueAt w sts2 d j) (sym e.1)
            (let now : put s.counts (set s.stages a Written) a ≡ suc k = staged_same put_at s.counts s.stages a Written lt in
            let lessa : j < put s.counts (set s.stages a Written) a = subst (λ (d : ℕ). j < put s.counts (set s.stages a Written) d) e.1 less in
            let most : j ≤ k = omega arith in
            elim (eq-or-lt_of_le most) [
              | inl same ↦ subst (IsValueAt w sts2 a) (sym same) new
              | inr lower ↦ old a j (omega arith)
            ])
        | inr e ↦ old b j (let same = staged_other put_at s.counts s.stages a b Written e.1 in omega arith)
      ];
      keeps = λ b at2. elim (stage_set s.stages a b Written Fetched lt at2) [
        | inl e ↦ let bad = e.1 in absurd (cc)
        | inr e ↦ f.keeps b e.1 ∙ sym (inputs b (get_or s.counts b 0) (let more : r b ≡ suc (get_or s.counts b 0) =
            ap (λ x. begun_at x (get_or s.counts b 0)) e.1 in omega arith))
      ];
    }

pub faithful_finished : (w : Program) (s : State) (kept : List (List ℤ)) (a : ℕ) → IsFaithful w s kept → a < length w.plan.sources
    → stage (present s) a ≡ Written → IsFaithful w (accepted w.plan s (Finish a)) kept
faithful_finished w s kept a f there at =
    let lt : a < length s.stages = (let staged = f.booked.staged in omega arith) in
    let ltc : a < length s.counts = (let counted = f.booked.counted in omega arith) in
    let k : ℕ = count (present s) a in
    record {
      booked = booked_finished w.plan s a f.booked there at;
      each = f.each;
      values = λ b j less. f.values b j (let same = finished_as put_at s.counts s.stages a ltc lt at (λ n. refl) b in omega arith);
      keeps = λ b at2. elim (eqb_tells b a) [
        | inl e ↦ let idle : get_or (set s.stages a Idle) b Idle ≡ Idle = rw e.1 (get_or-set_same s.stages a Idle Idle lt) in absurd (cc)
        | inr e ↦ f.keeps b (sym (get_or-set_other s.stages a b Idle Idle e.1) ∙ at2)
            ∙ ap (λ n. inputs_at b n w.plan.channels s.streams) (sym (get_or-set_other s.counts a b (suc k) 0 e.1))
      ];
    }

pub faithful_honest : (w : Program) (s : State) (kept : List (List ℤ)) (m : Move) → IsFaithful w s kept → IsHonestMove w s kept m
    → IsFaithful w (accepted w.plan s m) (reads_after w.plan s kept m)
faithful_honest w s kept (Begin a) f h = faithful_begun w s kept a f (can_begin w.plan (present s) a h.accepted)
faithful_honest w s kept (Read a) f h = let r = reads w.plan (present s) a h.accepted in faithful_read w s kept a f r.there r.at
faithful_honest w s kept (Write a v) f h = let r = writes w.plan (present s) a v h.accepted in faithful_written w s kept a v f r.0.there r.0.at r.1 h.just
faithful_honest w s kept (Finish a) f h = let r = finishes w.plan (present s) a h.accepted in faithful_finished w s kept a f r.there r.at
faithful_honest w s kept (Close c) f h = record {
  booked = (let b = f.booked in record { counted = b.counted; staged = b.staged; streamed = b.streamed; tallied = b.tallied });
  each = f.each;
  values = f.values;
  keeps = f.keeps;
}

pub faithful_opening : (w : Program) → IsFaithful w (opening w.plan) (no_reads w.plan)
faithful_opening w = record {
  booked = booked_opening w.plan;
  each = length-replicate (length w.plan.sources) [];
  values = λ a k less.
      let none : put (replicate (length w.plan.sources) 0) (replicate (length w.plan.sources) Idle) a ≡ 0 =
      ap (λ x. put_at x (get_or (replicate (length w.plan.sources) 0) a 0)) (alike (length w.plan.sources) a Idle) ∙ alike (length w.plan.sources) a 0 in
      absurd (omega arith);
  keeps = λ a at. let idle = alike (length w.plan.sources) a Idle in absurd (cc);
}
