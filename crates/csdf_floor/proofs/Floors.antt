-- A floor between its calls.
use Rattle.std.proofs.Common.{◌≡◌, ◌≢◌, ℕ, zero, suc, ◌+◌, ◌<◌, ◌≤◌, ◌-◌, ◌==◌, ◌&&◌, ◌||◌, inl, inr, List, [], ◌∷◌, ◌++◌, length, append_assoc, map, get_or}
use Rattle.std.proofs.Common.{replicate, refl, ap, sym, subst, ◌∙◌, arith, Bool, true, false, not, cond, Some, None, Option, ltb-true, eqb-true}
use Rattle.std.specs.Prelude.{ℤ, Result, Ok, Err, IsErrAnd, option_map, ◌⊎◌, nat_le, nat_lt, slice_index, slice_index_or}
use Rattle.std.proofs.lemmas.List.{get_or-set_other}
use Rattle.std.proofs.lemmas.Bool.Decides.{eqb_tells}
use Rattle.std.specs.List.{range_with_len}
use Rattle.csdf_core.specs.declared.stage.Stage.TheVariants.{Idle, Fetched}
use Rattle.csdf_core.specs.declared.stage.Stage.{Stage}
use Rattle.csdf_core.specs.declared.refusal.Refusal.{Refusal}
use Rattle.csdf_core.specs.Moves.{Move}
use Rattle.csdf_core.specs.Moves.{Begin, Write, Finish}
use Rattle.csdf_core.specs.Plan.{Channel, Plan}
use Rattle.csdf_core.specs.Ports.{outputs_at}
use Rattle.csdf_core.specs.State.{Present, present, opening}
use Rattle.csdf_core.specs.Step.{count, stage, is_stage, is_open, is_over, is_source, given, exists, refusal, producer}
use Rattle.csdf_core.proofs.Booked.{can_begin}
use Rattle.csdf_core.proofs.Peaks.{peaks_from_opening}
use Rattle.csdf_floor.specs.declared.fault.StartFault.{StartFault}
use Rattle.csdf_floor.specs.declared.fault.StartFault.TheVariants.{Unknown, Moved, Refused}
use Rattle.csdf_kernel.specs.Value.{value_of}
use Rattle.csdf_floor.specs.Journal.{value, reads_of, state_of}
use Rattle.csdf_floor.specs.Work.{Work, program}
use Rattle.csdf_floor.specs.Floor.{FloorView, HasGone, IsBetween, IsFloor, IsStartAnswer, IsUnderWay, Task, closes, closes_after, ending_of, start_refusal}
use Rattle.csdf_floor.specs.Inside.{BookView, IsBook, AreClosed, HasTaken, HasGiven, is_in}
use Rattle.csdf_floor.proofs.Closes.{over_same, in_outputs}
use Rattle.csdf_floor.proofs.Journals.{value_is}
use Rattle.csdf_floor.proofs.Works.{playable_program}

pub floor_is : (f : FloorView) (reads : List (List ℤ)) → IsBook f reads → IsBetween f.core.plan f.core.now → IsFloor f
floor_is f reads b between = record {
  work = b.work;
  kept = b.kept;
  peaks = λ c. ap (λ (ps : List ℕ). get_or ps c 0) b.peaks
      ∙ peaks_from_opening (program f.work).plan c f.journal
      (playable_program f.work.accepted f.work.feeds f.work.periods f.work.firings b.work.accepted b.work.few_firings);
  sinks = b.sinks;
  between = between;
}

-- ---- an answer to a start tells whether the begin is accepted, and is told by it

pub started : {T : Type 0} (o : Option Refusal) (answer : T) → o ≡ None → IsStartAnswer (option_map Refused o) (Ok answer)
started o answer e = subst (λ (x : Option Refusal). IsStartAnswer (option_map Refused x) (Ok answer)) (sym e) tt

pub accepted_of : {T : Type 0} (o : Option Refusal) (answer : T) → IsStartAnswer (option_map Refused o) (Ok answer) → o ≡ None
accepted_of None answer is = refl
accepted_of (Some why) answer is = absurd (cc)

-- ---- before any firing

all_idle : (n a : ℕ) → get_or (replicate n Idle) a Idle ≡ Idle
all_idle zero a = refl
all_idle (suc n) zero = refl
all_idle (suc n) (suc a) = all_idle n a

all_open : (n c : ℕ) → c < n → get_or (replicate n true) c false ≡ true
all_open zero c lt = absurd (omega arith)
all_open (suc n) zero lt = refl
all_open (suc n) (suc c) lt = all_open n c (omega arith)

in_range : (k n c : ℕ) → k ≤ c → c < k + n → is_in c (range_with_len k n) ≡ true
in_range k zero c le lt = absurd (omega arith)
in_range k (suc n) c le lt = elim (eqb_tells k c) [
  | inl e ↦ ap (λ b. b || is_in c (range_with_len (k + 1) n)) e.0
  | inr e ↦ ap (λ b. b || is_in c (range_with_len (k + 1) n)) e.0 ∙ in_range (k + 1) n c (let ne = e.1 in omega (arith, ne)) (omega arith)
]

-- the mark of a channel that was looked at, and that of its producer
pub marked : (b was over over2 idle : Bool) → was ≡ true → over2 ≡ over → idle ≡ true → b ≡ (was && not (true && over)) → b ≡ not (idle && over2)
marked b was over over2 idle e f g is = is ∙ ap (λ o. o && not (true && over)) e ∙ ap not (sym f) ∙ ap (λ i. not (i && over2)) (sym g)

-- all that were due are closed
module _ (old new : FloorView) (first : old.core.now ≡ present (opening old.core.plan))
    (closed : AreClosed old new (range_with_len 0 (length old.core.plan.channels))) where
  at_rest : (a : ℕ) → stage new.core.now a ≡ Idle
  at_rest a =
      ap (λ (xs : List Stage). get_or xs a Idle) closed.stages
      ∙ ap (λ (p : Present). stage p a) first
      ∙ all_idle (length old.core.plan.sources) a

  pub between_opened : IsBetween new.core.plan new.core.now
  between_opened = record {
    at = λ a lt. inl (at_rest a);
    open_until_over = λ c lt.
        let n : ℕ = length old.core.plan.channels in
        let there : c < n = (let e = ap (λ (u : Plan). length u.channels) closed.plan in omega arith) in
        let within : is_in c (range_with_len 0 n) ≡ true = in_range 0 n c (omega arith) (omega arith) in
        let opened : is_open old.core.now c ≡ true = ap (λ (p : Present). is_open p c) first ∙ all_open n c there in
        let maker : producer new.core.plan c ≡ producer old.core.plan c = ap (λ (u : Plan). producer u c) closed.plan in
        let over : is_over new.core.plan new.core.now (producer new.core.plan c) ≡ is_over old.core.plan old.core.now (producer old.core.plan c) =
        over_same old.core.plan new.core.plan old.core.now new.core.now (producer new.core.plan c) closed.plan closed.counts
        ∙ ap (is_over old.core.plan old.core.now) maker in
        let idle : is_stage (stage new.core.now (producer new.core.plan c)) Idle ≡ true = ap (λ s. is_stage s Idle) (at_rest (producer new.core.plan c)) in
        marked (is_open new.core.now c) (is_open old.core.now c) _ _ _ opened over idle (closed.opens c
        ∙ ap (λ b. is_open old.core.now c && not (b && is_over old.core.plan old.core.now (producer old.core.plan c))) within);
  }

-- ---- a start

-- nothing refuses it: the actor is there, stands at this firing, and may begin it
pub record MayStart (f : FloorView) (a k : ℕ) : Type 0 where
  pub there : a < length f.core.plan.sources
  pub firing : count f.core.now a ≡ k
  pub accepted : refusal f.core.plan f.core.now (Begin a) ≡ None

-- nothing is refused only where no test of the refusals fails
none_fails : (b e : Bool) (o : Option Refusal) (moved : StartFault) → cond (not b) (Some Unknown) (cond (not e) (Some moved) (option_map Refused o)) ≡ None
    → (b ≡ true) × (e ≡ true) × (o ≡ None)
none_fails true true None moved is = (refl, refl, refl)
none_fails true true (Some why) moved is = absurd (cc)
none_fails true false o moved is = absurd (cc)
none_fails false e o moved is = absurd (cc)

pub may_start : (f : FloorView) (a k : ℕ) → start_refusal f a k ≡ None → MayStart f a k
may_start f a k none =
    let all = none_fails (exists f.core.plan a) (count f.core.now a == k) (refusal f.core.plan f.core.now (Begin a)) (Moved (count f.core.now a)) none in
    record {
      there = ltb-true a (length f.core.plan.sources) all.0;
      firing = eqb-true (count f.core.now a) k all.1;
      accepted = all.2;
    }

-- the mark of a channel of another actor, whose stage and counts stay
other_mark : (plan plan2 : Plan) (p q : Present) (c : ℕ) → plan2 ≡ plan → q.counts ≡ p.counts → is_open q c ≡ is_open p c
    → stage q (producer plan c) ≡ stage p (producer plan c)
    → is_open p c ≡ not (is_stage (stage p (producer plan c)) Idle && is_over plan p (producer plan c))
    → is_open q c ≡ not (is_stage (stage q (producer plan2 c)) Idle && is_over plan2 q (producer plan2 c))
other_mark plan plan2 p q c same counts open_mark at was =
    let maker : producer plan2 c ≡ producer plan c = ap (λ (u : Plan). producer u c) same in
    let over : is_over plan2 q (producer plan2 c) ≡ is_over plan p (producer plan c) = over_same plan plan2 p q (producer plan2 c) same counts
    ∙ ap (is_over plan p) maker in
    open_mark ∙ was
    ∙ ap (λ b. not (is_stage (stage p (producer plan c)) Idle && b)) (sym over)
    ∙ ap (λ (x : Stage). not (is_stage x Idle && is_over plan2 q (producer plan2 c))) (sym (ap (stage q) maker ∙ at))

pub or_both : (b c : Bool) → b ≡ false → c ≡ false → (b || c) ≡ false
or_both true c e f = absurd (cc)
or_both false c e f = f

pub between_taken : (old new : BookView) (a k : ℕ) → IsBetween old.shown.core.plan old.shown.core.now → MayStart old.shown a k → HasTaken old new a
    → IsBetween new.shown.core.plan new.shown.core.now
between_taken old new a k between may taken =
    let p : Present = old.shown.core.now in
    let q : Present = new.shown.core.now in
    let can = can_begin old.shown.core.plan p a may.accepted in
    let others : (b : ℕ) → b ≢ a → stage q b ≡ stage p b = λ b ne. ap (λ (xs : List Stage). get_or xs b Idle) taken.stages
    ∙ get_or-set_other p.stages a b Fetched Idle ne in
    record {
      at = λ b lt. elim (eqb_tells b a) [
        | inl e ↦ inr (ap (stage q) e.1 ∙ taken.has_read)
        | inr e ↦ subst (λ (x : Stage). (x ≡ Idle)
            ⊎ (x ≡ Fetched)) (sym (others b e.1)) (between.at b (subst (λ (u : Plan). b < length u.sources) taken.plan lt))
      ];
      open_until_over = λ c lt.
          let there : c < length old.shown.core.plan.channels = subst (λ (u : Plan). c < length u.channels) taken.plan lt in
          let opens : is_open q c ≡ is_open p c = ap (λ (os : List Bool). get_or os c false) taken.opens in
          let was = between.open_until_over c there in
          elim (eqb_tells (producer old.shown.core.plan c) a) [
            | inl e ↦
                let on : is_over old.shown.core.plan p a ≡ false = or_both _ _ can.not_spent can.not_dry in
                let now : stage q (producer new.shown.core.plan c) ≡ Fetched = ap (stage q) (ap (λ (u : Plan). producer u c) taken.plan ∙ e.1)
                ∙ taken.has_read in
                let shut : is_open p c ≡ not (is_stage (stage p a) Idle && is_over old.shown.core.plan p a) = was
                ∙ ap (λ b. not (is_stage (stage p b) Idle && is_over old.shown.core.plan p b)) e.1 in
                opens
                ∙ shut
                ∙ ap (λ b. not (is_stage (stage p a) Idle && b)) on
                ∙ none (is_stage (stage p a) Idle)
                ∙ sym (ap (λ (x : Stage). not (is_stage x Idle && is_over new.shown.core.plan q (producer new.shown.core.plan c))) now)
            | inr e ↦ other_mark old.shown.core.plan new.shown.core.plan p q c taken.plan taken.counts opens (others (producer old.shown.core.plan c) e.1) was
          ];
    }
  where
    none : (b : Bool) → not (b && false) ≡ true
    none true = refl
    none false = refl

-- ---- a delivery

-- whether an actor makes no firing more is told by its own count
pub over_at : (plan plan2 : Plan) (p q : Present) (a : ℕ) → plan2 ≡ plan → count q a ≡ count p a → is_over plan2 q a ≡ is_over plan p a
over_at plan plan2 p q a same counts =
    ap (λ (u : Plan). is_over u q a) same
    ∙ ap (λ n. nat_le (slice_index plan.limits a) n || (is_source plan a && nat_lt (slice_index plan.supplies a) (given plan a (suc n)))) counts

pub and_true : (b : Bool) → (b && true) ≡ b
and_true true = refl
and_true false = refl

module _ (old mid new : BookView) (a : ℕ) (v : List ℤ) (between : IsBetween old.shown.core.plan old.shown.core.now)
    (had_read : stage old.shown.core.now a ≡ Fetched) (gave : HasGiven old mid a v)
    (closed : AreClosed mid.shown new.shown (outputs_at mid.shown.core.plan.channels a)) where
  abbrev before : Plan
  before = old.shown.core.plan

  abbrev p : Present
  p = old.shown.core.now

  abbrev m : Present
  m = mid.shown.core.now

  abbrev q : Present
  q = new.shown.core.now

  plan : new.shown.core.plan ≡ before
  plan = closed.plan ∙ gave.plan

  own : stage q a ≡ Idle
  own = ap (λ (xs : List Stage). get_or xs a Idle) closed.stages ∙ gave.idle

  other_stage : (b : ℕ) → b ≢ a → stage q b ≡ stage p b
  other_stage b ne = ap (λ (xs : List Stage). get_or xs b Idle) closed.stages ∙ ap (λ (xs : List Stage). get_or xs b Idle) gave.stages
      ∙ get_or-set_other p.stages a b Idle Idle ne

  other_count : (b : ℕ) → b ≢ a → count q b ≡ count p b
  other_count b ne = ap (λ (ns : List ℕ). get_or ns b 0) closed.counts ∙ ap (λ (ns : List ℕ). get_or ns b 0) gave.counts
      ∙ get_or-set_other p.counts a b (suc (count p a)) 0 ne

  mark : (c : ℕ) → is_open q c ≡ (is_open p c && not (is_in c (outputs_at mid.shown.core.plan.channels a)
      && is_over mid.shown.core.plan m (producer mid.shown.core.plan c)))
  mark c = closed.opens c ∙ ap (λ (os : List Bool). slice_index_or os c false
      && not (is_in c (outputs_at mid.shown.core.plan.channels a) && is_over mid.shown.core.plan m (producer mid.shown.core.plan c))) gave.opens

  among : (c : ℕ) → c < length before.channels → is_in c (outputs_at mid.shown.core.plan.channels a) ≡ (producer before c == a)
  among c lt = ap (λ (u : Plan). is_in c (outputs_at u.channels a)) gave.plan ∙ in_outputs a 0 c before.channels (omega arith) (omega arith)
      ∙ (let e : c - 0 ≡ c = omega arith in ap (λ k. get_or (map (λ (d : Channel). d.from) before.channels) k 0 == a) e)

  maker : (c : ℕ) → producer new.shown.core.plan c ≡ producer before c
  maker c = ap (λ (u : Plan). producer u c) plan

  -- an output of the actor
  own_mark : (c : ℕ) → c < length before.channels → (producer before c == a) ≡ true → producer before c ≡ a
      → is_open q c ≡ not (is_stage (stage q (producer new.shown.core.plan c)) Idle && is_over new.shown.core.plan q (producer new.shown.core.plan c))
  own_mark c lt eqb same =
      let was_open : is_open p c ≡ true = between.open_until_over c lt
      ∙ ap (λ (x : Stage). not (is_stage x Idle && is_over before p (producer before c))) (ap (stage p) same ∙ had_read) in
      let over : is_over new.shown.core.plan q (producer new.shown.core.plan c) ≡ is_over mid.shown.core.plan m (producer mid.shown.core.plan c) =
      over_same mid.shown.core.plan new.shown.core.plan m q (producer new.shown.core.plan c) closed.plan closed.counts
      ∙ ap (is_over mid.shown.core.plan m) (ap (λ (u : Plan). producer u c) closed.plan) in
      let idle : is_stage (stage q (producer new.shown.core.plan c)) Idle ≡ true = ap (λ b. is_stage (stage q b) Idle) (maker c ∙ same)
      ∙ ap (λ (x : Stage). is_stage x Idle) own in
      marked (is_open q c) (is_open p c) (is_over mid.shown.core.plan m (producer mid.shown.core.plan c))
      (is_over new.shown.core.plan q (producer new.shown.core.plan c)) (is_stage (stage q (producer new.shown.core.plan c)) Idle)
      was_open over idle (mark c ∙ ap (λ b. is_open p c && not (b && is_over mid.shown.core.plan m (producer mid.shown.core.plan c))) (among c lt ∙ eqb))

  -- a channel of another actor
  far_mark : (c : ℕ) → c < length before.channels → (producer before c == a) ≡ false → producer before c ≢ a
      → is_open q c ≡ not (is_stage (stage q (producer new.shown.core.plan c)) Idle && is_over new.shown.core.plan q (producer new.shown.core.plan c))
  far_mark c lt eqb ne =
      let b : ℕ = producer before c in
      let same : is_open q c ≡ is_open p c = mark c
      ∙ ap (λ x. is_open p c && not (x && is_over mid.shown.core.plan m (producer mid.shown.core.plan c))) (among c lt ∙ eqb) ∙ and_true (is_open p c) in
      let over : is_over new.shown.core.plan q (producer new.shown.core.plan c) ≡ is_over before p b = ap (is_over new.shown.core.plan q) (maker c)
      ∙ over_at before new.shown.core.plan p q b plan (other_count b ne) in
      same
      ∙ between.open_until_over c lt
      ∙ ap (λ x. not (is_stage (stage p b) Idle && x)) (sym over)
      ∙ ap (λ (x : Stage). not (is_stage x Idle && is_over new.shown.core.plan q (producer new.shown.core.plan c)))
      (sym (ap (stage q) (maker c) ∙ other_stage b ne))

  pub between_delivered : IsBetween new.shown.core.plan new.shown.core.now
  between_delivered = record {
    at = λ b lt. elim (eqb_tells b a) [
      | inl e ↦ inl (ap (stage q) e.1 ∙ own)
      | inr e ↦ subst (λ (x : Stage). (x ≡ Idle) ⊎ (x ≡ Fetched)) (sym (other_stage b e.1)) (between.at b (subst (λ (u : Plan). b < length u.sources) plan lt))
    ];
    open_until_over = λ c lt.
        let there : c < length before.channels = subst (λ (u : Plan). c < length u.channels) plan lt in
        elim (eqb_tells (producer before c) a) [
          | inl e ↦ own_mark c there e.0 e.1
          | inr e ↦ far_mark c there e.0 e.1
        ];
  }

-- a fault that is handed on answers as the start that gave it
pub handed_on : {Y : Type 0} (X : Type 0) (first : Option StartFault) (result : Result Y StartFault) (fault : StartFault)
    → IsErrAnd result (λ told. told ≡ fault) → IsStartAnswer {T = X} first (Err fault) → IsStartAnswer first result
handed_on X first (Ok y) fault same answer = absurd same
handed_on X (Some why) (Err told) fault same answer = let is = same in let first = answer in cc
handed_on X None (Err told) fault same answer = same ∙ answer

-- what a done job gives is what its firing has to write
pub gift_just : (f : FloorView) (t : Task) (v : List ℤ) → IsUnderWay f t → v ≡ value_of t.kernel t.counts t.inputs
    → v ≡ value (program f.work) t.actor (count f.core.now t.actor) (get_or (reads_of (program f.work) f.journal) t.actor [])
gift_just f t v under is =
    is
    ∙ ap (λ (u : Task). value_of u.kernel u.counts u.inputs) under.same
    ∙ sym (value_is (program f.work) t.actor (count f.core.now t.actor) (get_or (reads_of (program f.work) f.journal) t.actor []))

-- all moves of a delivery
pub has_delivered : (f : FloorView) (old mid new : BookView) (t : Task) (v : List ℤ) → old.shown ≡ f → v ≡ value_of t.kernel t.counts t.inputs
    → HasGiven old mid t.actor v
    → AreClosed mid.shown new.shown (outputs_at mid.shown.core.plan.channels t.actor)
    → mid.shown.core.now ≡ present (state_of (program mid.shown.work) mid.shown.journal)
    → HasGone f new.shown (ending_of t ++ closes_after f t)
has_delivered f old mid new t v same is gave closed now =
    let work : mid.shown.work ≡ f.work = gave.gone.work ∙ ap (λ (g : FloorView). g.work) same in
    let plan : mid.shown.core.plan ≡ f.core.plan = gave.plan ∙ ap (λ (g : FloorView). g.core.plan) same in
    let journal : mid.shown.journal ≡ f.journal ++ ending_of t =
    gave.gone.journal ∙ ap (λ (g : FloorView). g.journal ++ Write t.actor v ∷ Finish t.actor ∷ []) same
    ∙ ap (λ (u : List ℤ). f.journal ++ Write t.actor u ∷ Finish t.actor ∷ []) is in
    let present_is : mid.shown.core.now ≡ present (state_of (program f.work) (f.journal ++ ending_of t)) =
    now ∙ ap (λ (w : Work). present (state_of (program w) mid.shown.journal)) work ∙ ap (λ (js : List Move). present (state_of (program f.work) js)) journal in
    record {
      work = closed.gone.work ∙ work;
      keeps = closed.gone.keeps ∙ gave.gone.keeps ∙ ap (λ (g : FloorView). g.keeps) same;
      journal = closed.gone.journal
          ∙ ap (λ (js : List Move). js ++ closes mid.shown.core.plan mid.shown.core.now (outputs_at mid.shown.core.plan.channels t.actor)) journal
          ∙ ap (λ (u : Plan). (f.journal ++ ending_of t) ++ closes u mid.shown.core.now (outputs_at u.channels t.actor)) plan
          ∙ ap (λ (p : Present). (f.journal ++ ending_of t) ++ closes f.core.plan p (outputs_at f.core.plan.channels t.actor)) present_is
          ∙ append_assoc f.journal (ending_of t) (closes_after f t);
    }
