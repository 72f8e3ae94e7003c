-- A floor, from one block of firings to the next.
use Rattle.std.proofs.Common.{◌≡◌, ◌≢◌, ℕ, ◌+◌, ◌<◌, ◌-◌, ◌==◌, ◌&&◌, inl, inr, List, ◌++◌, length, append_assoc, map, get_or, ap, sym, subst, ◌∙◌, arith}
use Rattle.std.proofs.Common.{Bool, true, false, not, refl, None}
use Rattle.std.specs.Prelude.{◌⊎◌, slice_index_or}
use Rattle.std.proofs.lemmas.List.{get_or-set_other}
use Rattle.std.proofs.lemmas.Bool.Decides.{eqb_tells}
use Rattle.csdf_core.specs.declared.stage.Stage.TheVariants.{Idle, Fetched}
use Rattle.csdf_core.specs.declared.stage.Stage.{Stage}
use Rattle.csdf_core.specs.Moves.{Move}
use Rattle.csdf_core.specs.Moves.{Begin}
use Rattle.csdf_core.specs.Plan.{Channel, Plan}
use Rattle.csdf_core.specs.Ports.{outputs_at}
use Rattle.csdf_core.specs.State.{Present, present}
use Rattle.csdf_core.specs.Step.{count, stage, is_stage, is_open, is_over, producer, refusal}
use Rattle.csdf_core.proofs.Booked.{can_begin}
use Rattle.csdf_floor.specs.Journal.{state_of}
use Rattle.csdf_floor.specs.Work.{Work, program}
use Rattle.csdf_floor.specs.Floor.{FloorView, HasGone, IsBetween, closes}
use Rattle.csdf_floor.specs.Inside.{AreClosed, is_in}
use Rattle.csdf_floor.specs.Making.{HasMade, made_moves, closes_made}
use Rattle.csdf_floor.proofs.Closes.{over_same, in_outputs}
use Rattle.csdf_floor.proofs.Floors.{marked, or_both, over_at, and_true}

pub not_over : (plan : Plan) (p : Present) (a : ℕ) → refusal plan p (Begin a) ≡ None → is_over plan p a ≡ false
not_over plan p a free = let can = can_begin plan p a free in or_both _ _ can.not_spent can.not_dry

not_and_false : (b : Bool) → not (b && false) ≡ true
not_and_false true = refl
not_and_false false = refl

module _ (old mid new : FloorView) (a n : ℕ) (moves : List Move) (between : IsBetween old.core.plan old.core.now)
    (idle : stage old.core.now a ≡ Idle) (on : is_over old.core.plan old.core.now a ≡ false) (made : HasMade old mid a n moves)
    (closed : AreClosed mid new (outputs_at mid.core.plan.channels a)) where
  abbrev before : Plan
  before = old.core.plan

  abbrev p : Present
  p = old.core.now

  abbrev m : Present
  m = mid.core.now

  abbrev q : Present
  q = new.core.now

  plan : new.core.plan ≡ before
  plan = closed.plan ∙ made.plan

  same_stage : (b : ℕ) → stage q b ≡ stage p b
  same_stage b = ap (λ (xs : List Stage). get_or xs b Idle) closed.stages ∙ ap (λ (xs : List Stage). get_or xs b Idle) made.stages

  other_count : (b : ℕ) → b ≢ a → count q b ≡ count p b
  other_count b ne = ap (λ (ns : List ℕ). get_or ns b 0) closed.counts ∙ ap (λ (ns : List ℕ). get_or ns b 0) made.counts
      ∙ get_or-set_other p.counts a b (count p a + n) 0 ne

  mark : (c : ℕ) → is_open q c ≡ (is_open p c && not (is_in c (outputs_at mid.core.plan.channels a)
      && is_over mid.core.plan m (producer mid.core.plan c)))
  mark c = closed.opens c ∙ ap (λ (os : List Bool). slice_index_or os c false
      && not (is_in c (outputs_at mid.core.plan.channels a) && is_over mid.core.plan m (producer mid.core.plan c))) made.opens

  among : (c : ℕ) → c < length before.channels → is_in c (outputs_at mid.core.plan.channels a) ≡ (producer before c == a)
  among c lt = ap (λ (u : Plan). is_in c (outputs_at u.channels a)) made.plan ∙ in_outputs a 0 c before.channels (omega arith) (omega arith)
      ∙ (let e : c - 0 ≡ c = omega arith in ap (λ k. get_or (map (λ (d : Channel). d.from) before.channels) k 0 == a) e)

  maker : (c : ℕ) → producer new.core.plan c ≡ producer before c
  maker c = ap (λ (u : Plan). producer u c) plan

  -- an output of the actor
  own_mark : (c : ℕ) → c < length before.channels → (producer before c == a) ≡ true → producer before c ≡ a
      → is_open q c ≡ not (is_stage (stage q (producer new.core.plan c)) Idle && is_over new.core.plan q (producer new.core.plan c))
  own_mark c lt eqb same =
      let was_open : is_open p c ≡ true = between.open_until_over c lt
      ∙ ap (λ b. not (is_stage (stage p b) Idle && is_over before p b)) same
      ∙ ap (λ o. not (is_stage (stage p a) Idle && o)) on
      ∙ not_and_false (is_stage (stage p a) Idle) in
      let over : is_over new.core.plan q (producer new.core.plan c) ≡ is_over mid.core.plan m (producer mid.core.plan c) =
      over_same mid.core.plan new.core.plan m q (producer new.core.plan c) closed.plan closed.counts
      ∙ ap (is_over mid.core.plan m) (ap (λ (u : Plan). producer u c) closed.plan) in
      let rests : is_stage (stage q (producer new.core.plan c)) Idle ≡ true = ap (λ b. is_stage (stage q b) Idle) (maker c ∙ same)
      ∙ ap (λ (x : Stage). is_stage x Idle) (same_stage a ∙ idle) in
      marked (is_open q c) (is_open p c) (is_over mid.core.plan m (producer mid.core.plan c))
      (is_over new.core.plan q (producer new.core.plan c)) (is_stage (stage q (producer new.core.plan c)) Idle)
      was_open over rests (mark c ∙ ap (λ b. is_open p c && not (b && is_over mid.core.plan m (producer mid.core.plan c))) (among c lt ∙ eqb))

  -- a channel of another actor
  far_mark : (c : ℕ) → c < length before.channels → (producer before c == a) ≡ false → producer before c ≢ a
      → is_open q c ≡ not (is_stage (stage q (producer new.core.plan c)) Idle && is_over new.core.plan q (producer new.core.plan c))
  far_mark c lt eqb ne =
      let b : ℕ = producer before c in
      let same : is_open q c ≡ is_open p c = mark c
      ∙ ap (λ x. is_open p c && not (x && is_over mid.core.plan m (producer mid.core.plan c))) (among c lt ∙ eqb) ∙ and_true (is_open p c) in
      let over : is_over new.core.plan q (producer new.core.plan c) ≡ is_over before p b = ap (is_over new.core.plan q) (maker c)
      ∙ over_at before new.core.plan p q b plan (other_count b ne) in
      same
      ∙ between.open_until_over c lt
      ∙ ap (λ x. not (is_stage (stage p b) Idle && x)) (sym over)
      ∙ ap (λ (x : Stage). not (is_stage x Idle && is_over new.core.plan q (producer new.core.plan c)))
      (sym (ap (stage q) (maker c) ∙ same_stage b))

  pub between_made : IsBetween new.core.plan new.core.now
  between_made = record {
    at = λ b lt. subst (λ (x : Stage). (x ≡ Idle) ⊎ (x ≡ Fetched)) (sym (same_stage b))
        (between.at b (subst (λ (u : Plan). b < length u.sources) plan lt));
    open_until_over = λ c lt.
        let there : c < length before.channels = subst (λ (u : Plan). c < length u.channels) plan lt in
        elim (eqb_tells (producer before c) a) [
          | inl e ↦ own_mark c there e.0 e.1
          | inr e ↦ far_mark c there e.0 e.1
        ];
  }

-- all moves of a block
pub has_gone_made : (old mid new : FloorView) (a n : ℕ) → HasMade old mid a n (made_moves old a n)
    → AreClosed mid new (outputs_at mid.core.plan.channels a) → mid.core.now ≡ present (state_of (program mid.work) mid.journal)
    → HasGone old new (made_moves old a n ++ closes_made old a n)
has_gone_made old mid new a n made closed now =
    let journal : mid.journal ≡ old.journal ++ made_moves old a n = made.gone.journal in
    let present_is : mid.core.now ≡ present (state_of (program old.work) (old.journal ++ made_moves old a n)) =
    now ∙ ap (λ (w : Work). present (state_of (program w) mid.journal)) made.gone.work
    ∙ ap (λ (js : List Move). present (state_of (program old.work) js)) journal in
    record {
      work = closed.gone.work ∙ made.gone.work;
      keeps = closed.gone.keeps ∙ made.gone.keeps;
      journal = closed.gone.journal
          ∙ ap (λ (js : List Move). js ++ closes mid.core.plan mid.core.now (outputs_at mid.core.plan.channels a)) journal
          ∙ ap (λ (u : Plan). (old.journal ++ made_moves old a n) ++ closes u mid.core.now (outputs_at u.channels a)) made.plan
          ∙ ap (λ (p : Present). (old.journal ++ made_moves old a n) ++ closes old.core.plan p (outputs_at old.core.plan.channels a)) present_is
          ∙ append_assoc old.journal (made_moves old a n) (closes_made old a n);
    }
