-- A book, from one block of firings to the next.
use Rattle.std.proofs.Common.{◌≡◌, ℕ, zero, suc, ◌+◌, ◌<◌, ◌==◌, eqb-true, map, filter, cond, inl, inr, List, [], ◌∷◌, ◌++◌, length, get_or, set, take, drop, replicate, refl, ap, ap₂}
use Rattle.std.proofs.Common.{sym, subst, ◌∙◌, arith, append-nil, append_assoc, Bool, true, false, length-set}
use Rattle.std.specs.Prelude.{ℤ, Result, Ok, Err, OnOk}
use Rattle.std.proofs.Math.Seq.{take-append_seam, drop-append_seam}
use Rattle.std.proofs.lemmas.List.{get_or-set_other, get_or-set_same, set-set, set-get_or, take-append-drop, length-drop, length-append}
use Rattle.std.proofs.lemmas.Bool.Decides.{eqb_tells}
use Rattle.csdf_model.specs.declared.parts.Kernel.TheVariants.{Sink}
use Rattle.csdf_core.specs.declared.stage.Stage.{Stage}
use Rattle.csdf_core.specs.declared.stage.Stage.TheVariants.{Idle, Begun, Fetched, Written}
use Rattle.csdf_core.specs.Blocks.{firings_of, answers_to, reads_among, parts_of, needs_of, gifts_of, AreReadEach}
use Rattle.csdf_core.specs.Engine.{CanFire}
use Rattle.csdf_core.specs.Phases.{HasPhases}
use Rattle.csdf_core.proofs.OnePhase.{rate_one}
use Rattle.csdf_core.proofs.Fewer.{can_begin}
use Rattle.csdf_core.proofs.Kept.{begins}
use Rattle.csdf_core.specs.Moves.{Move}
use Rattle.csdf_core.specs.Moves.{Begin, Read, Write, Finish}
use Rattle.csdf_core.specs.Next.{next}
use Rattle.csdf_core.specs.Plan.{Plan, Channel, from_at, produce_at, gives_of}
use Rattle.csdf_core.specs.Rows.{need, gift}
use Rattle.csdf_core.specs.State.{State, Present, present, opening}
use Rattle.csdf_core.specs.Step.{answer, accepted, count, stage}
use Rattle.csdf_model.specs.Rates.{rate}
use Rattle.csdf_core.specs.Shows.{View, Follows, PassesThrough, Plays}
use Rattle.csdf_journal.specs.View.{JournalView}
use Rattle.csdf_floor.specs.Floor.{FloorView, IsKept}
use Rattle.csdf_floor.specs.Inside.{IsBook, ListsView}
use Rattle.csdf_floor.specs.Journal.{Program, output_counts, value, state_of, reads_of, IsJust}
use Rattle.csdf_floor.specs.Making.{made_value, AreKeptValues, AreOwnValues, HasMade}
use Rattle.csdf_floor.specs.Sequential.{firing, fired, moves_from}
use Rattle.csdf_floor.specs.Work.{Work, program, is_sink_kernel}
use Rattle.csdf_floor.proofs.Books.{floor_of, accepted_as, now_next, book_moved, book_read, sinks_after, sinks_each, write_just, staged, counted}
use Rattle.csdf_floor.proofs.Bounds.{after_is}
use Rattle.csdf_floor.proofs.Journals.{state_push}
use Rattle.csdf_floor.proofs.Sequential.{length_value}

-- an actor that can make some firings is idle
pub can_idle : (plan : Plan) (p : Present) (a n : ℕ) → 0 < n → CanFire plan p a n → stage p a ≡ Idle
can_idle plan p a n some can = (begins plan p a (can_begin plan a p n some can)).idle

-- the buffer of an idle actor may hold anything
pub book_buffer : (f : FloorView) (reads : List (List ℤ)) (a : ℕ) (x : List ℤ) → IsBook f reads → stage f.core.now a ≡ Idle → IsBook f (set reads a x)
book_buffer f reads a x b idle = record {
  work = b.work;
  kept = b.kept;
  peaks = b.peaks;
  sinks = b.sinks;
  each_actor = length-set reads a x ∙ b.each_actor;
  last_reads = λ t lt has_read. elim (eqb_tells t a) [
    | inl e ↦ absurd (let at : Idle ≡ Fetched = sym (ap (λ i. stage f.core.now i) e.1 ∙ idle) ∙ has_read in cc)
    | inr e ↦ get_or-set_other reads a t x [] e.1 ∙ b.last_reads t lt has_read
  ];
}

-- the state after one move more
state_step : (p : Program) (core nxt : View) (journal : List Move) (m : Move) (tokens : List ℤ) → IsKept p core journal → Follows core nxt m (Ok tokens)
    → state_of p (journal ++ m ∷ []) ≡ accepted p.plan (state_of p journal) m
state_step p core nxt journal m tokens k f =
    state_push p.plan (opening p.plan) journal m
    ∙ after_is p.plan (state_of p journal) m (accepted_as p core nxt journal m tokens k f).0

now_step : (p : Program) (core nxt : View) (journal : List Move) (m : Move) (tokens : List ℤ) → IsKept p core journal → Follows core nxt m (Ok tokens)
    → nxt.now ≡ next p.plan core.now m
now_step p core nxt journal m tokens k f =
    now_next p core nxt journal m tokens k f ∙ ap (λ (u : Plan). next u core.now m) k.plan

four_on : (xs : List Move) (a b c d : Move) (rest : List Move)
    → ((((xs ++ a ∷ []) ++ b ∷ []) ++ c ∷ []) ++ d ∷ []) ++ rest ≡ xs ++ a ∷ b ∷ c ∷ d ∷ rest
four_on [] a b c d rest = refl
four_on (x ∷ xs) a b c d rest = ap (λ (ms : List Move). x ∷ ms) (four_on xs a b c d rest)

-- ---- one firing

module _ {keeps : Bool} (w : Work) (c0 c1 c2 c3 c4 : View) (journal : List Move) (sinks reads : List (List ℤ)) (a : ℕ) (tokens v : List ℤ)
    (b : IsBook (floor_of keeps w c0 journal sinks) reads) (there : a < length c0.plan.sources)
    (f1 : Follows c0 c1 (Begin a) (Ok [])) (f2 : Follows c1 c2 (Read a) (Ok tokens)) (f3 : Follows c2 c3 (Write a v) (Ok []))
    (f4 : Follows c3 c4 (Finish a) (Ok [])) (is : v ≡ value (program w) a (count c0.now a) tokens) where
  abbrev p : Program
  p = program w

  abbrev j1 : List Move
  j1 = journal ++ Begin a ∷ []

  abbrev j2 : List Move
  j2 = j1 ++ Read a ∷ []

  abbrev j3 : List Move
  j3 = j2 ++ Write a v ∷ []

  abbrev j4 : List Move
  j4 = j3 ++ Finish a ∷ []

  abbrev sinks2 : List (List ℤ)
  sinks2 = sinks_after w sinks a tokens

  abbrev reads2 : List (List ℤ)
  reads2 = set reads a tokens

  there1 : a < length c1.plan.sources
  there1 = subst (λ (u : Plan). a < length u.sources) (sym f1.plan) there

  there2 : a < length c2.plan.sources
  there2 = subst (λ (u : Plan). a < length u.sources) (sym f2.plan) there1

  b1 : IsBook (floor_of keeps w c1 j1 sinks) reads
  b1 = book_moved w c0 c1 journal sinks reads (Begin a) [] tt b f1 tt

  b2 : IsBook (floor_of keeps w c2 j2 sinks2) reads2
  b2 = book_read w c1 c2 j1 sinks reads a tokens there1 b1 f2

  now1 : c1.now ≡ next p.plan c0.now (Begin a)
  now1 = now_step p c0 c1 journal (Begin a) [] b.kept f1

  here2 : c2.now ≡ next p.plan c1.now (Read a)
  here2 = now_step p c1 c2 j1 (Read a) tokens b1.kept f2

  now2 : c2.now ≡ next p.plan (next p.plan c0.now (Begin a)) (Read a)
  now2 = here2 ∙ ap (λ (q : Present). next p.plan q (Read a)) now1

  number2 : count c2.now a ≡ count c0.now a
  number2 = ap (λ (q : Present). count q a) now2

  fetched2 : stage c2.now a ≡ Fetched
  fetched2 =
      let len = staged (floor_of keeps w c1 j1 sinks) reads b1 in
      ap (λ (q : Present). stage q a) here2 ∙ get_or-set_same c1.now.stages a Fetched Idle (omega (arith, len, there1))

  last : get_or (reads_of p j2) a [] ≡ tokens
  last =
      let each = b.each_actor in
      sym (b2.last_reads a there2 fetched2) ∙ get_or-set_same reads a tokens [] (omega (arith, each, there))

  just : IsJust p (state_of p j2) (reads_of p j2) (Write a v)
  just = write_just p c2 j2 a v b2.kept (is ∙ ap₂ (value p a) (sym number2) (sym last))

  b3 : IsBook (floor_of keeps w c3 j3 sinks2) reads2
  b3 = book_moved w c2 c3 j2 sinks2 reads2 (Write a v) [] tt b2 f3 just

  pub one_book : IsBook (floor_of keeps w c4 j4 sinks2) reads2
  one_book = book_moved w c3 c4 j3 sinks2 reads2 (Finish a) [] tt b3 f4 tt

  now3 : c3.now ≡ next p.plan (next p.plan (next p.plan c0.now (Begin a)) (Read a)) (Write a v)
  now3 = now_step p c2 c3 j2 (Write a v) [] b2.kept f3 ∙ ap (λ (q : Present). next p.plan q (Write a v)) now2

  pub one_now : c4.now ≡ next p.plan (next p.plan (next p.plan (next p.plan c0.now (Begin a)) (Read a)) (Write a v)) (Finish a)
  one_now = now_step p c3 c4 j3 (Finish a) [] b3.kept f4 ∙ ap (λ (q : Present). next p.plan q (Finish a)) now3

  pub one_plan : c4.plan ≡ c0.plan
  one_plan = f4.plan ∙ f3.plan ∙ f2.plan ∙ f1.plan

  s1 : state_of p j1 ≡ accepted p.plan (state_of p journal) (Begin a)
  s1 = state_step p c0 c1 journal (Begin a) [] b.kept f1

  replied : tokens ≡ answer p.plan (present (state_of p journal)) (Read a)
  replied = (accepted_as p c1 c2 j1 (Read a) tokens b1.kept f2).1 ∙ ap (λ (t : State). answer p.plan (present t) (Read a)) s1

  written : v ≡ value p a (count (present (state_of p journal)) a) (answer p.plan (present (state_of p journal)) (Read a))
  written = is ∙ ap₂ (value p a) (ap (λ (q : Present). count q a) b.kept.shows.same) replied

  pub one_firing : Begin a ∷ Read a ∷ Write a v ∷ Finish a ∷ [] ≡ firing p (state_of p journal) a
  one_firing = ap (λ (u : List ℤ). Begin a ∷ Read a ∷ Write a u ∷ Finish a ∷ []) written

  pub one_state : state_of p j4 ≡ fired p (state_of p journal) a
  one_state =
      state_step p c3 c4 j3 (Finish a) [] b3.kept f4
      ∙ ap (λ (t : State). accepted p.plan t (Finish a)) (state_step p c2 c3 j2 (Write a v) [] b2.kept f3
      ∙ ap (λ (t : State). accepted p.plan t (Write a v)) (state_step p c1 c2 j1 (Read a) tokens b1.kept f2
      ∙ ap (λ (t : State). accepted p.plan t (Read a)) s1)
      ∙ ap (λ (u : List ℤ). accepted p.plan (accepted p.plan (accepted p.plan (state_of p journal) (Begin a)) (Read a)) (Write a u)) written)

-- ---- what the sinks take in two readings

sinks_more : (w : Work) (sinks : List (List ℤ)) (a : ℕ) (xs ys : List ℤ) → a < length sinks
    → sinks_after w (sinks_after w sinks a xs) a ys ≡ sinks_after w sinks a (xs ++ ys)
sinks_more w sinks a xs ys lt = by (is_sink_kernel (get_or (program w).kernels a Sink))
  where
    by : (on : Bool) → cond on (set (cond on (set sinks a (get_or sinks a [] ++ xs)) sinks) a (get_or (cond on (set sinks a (get_or sinks a [] ++ xs)) sinks) a [] ++ ys))
        (cond on (set sinks a (get_or sinks a [] ++ xs)) sinks) ≡ cond on (set sinks a (get_or sinks a [] ++ (xs ++ ys))) sinks
    by true =
        let old : List ℤ = get_or sinks a [] in
        ap (λ (u : List ℤ). set (set sinks a (old ++ xs)) a (u ++ ys)) (get_or-set_same sinks a (old ++ xs) [] lt)
        ∙ set-set sinks a (old ++ xs) ((old ++ xs) ++ ys)
        ∙ ap (set sinks a) (append_assoc old xs ys)
    by false = refl

sinks_none : (w : Work) (sinks : List (List ℤ)) (a : ℕ) → sinks_after w sinks a [] ≡ sinks
sinks_none w sinks a = by (is_sink_kernel (get_or (program w).kernels a Sink))
  where
    by : (on : Bool) → cond on (set sinks a (get_or sinks a [] ++ [])) sinks ≡ sinks
    by true = ap (set sinks a) (append-nil (get_or sinks a [])) ∙ set-get_or sinks a []
    by false = refl

-- only a sink keeps what it read
pub sinks_alike : (w : Work) (sinks : List (List ℤ)) (a : ℕ) (xs ys : List ℤ) → (is_sink_kernel (get_or (program w).kernels a Sink) ≡ true → xs ≡ ys)
    → sinks_after w sinks a xs ≡ sinks_after w sinks a ys
sinks_alike w sinks a xs ys same = by (is_sink_kernel (get_or (program w).kernels a Sink)) same
  where
    by : (on : Bool) → (on ≡ true → xs ≡ ys) → cond on (set sinks a (get_or sinks a [] ++ xs)) sinks ≡ cond on (set sinks a (get_or sinks a [] ++ ys)) sinks
    by true e = ap (λ (u : List ℤ). set sinks a (get_or sinks a [] ++ u)) (e refl)
    by false e = refl

-- ---- n firings

pub record IsMade (keeps : Bool) (w : Work) (core new : View) (journal : List Move) (sinks reads : List (List ℤ)) (a k n : ℕ) (tokens v : List ℤ) : Type 0 where
  pub book : (x : List ℤ) → IsBook (floor_of keeps w new (journal ++ firings_of (program w).plan.channels a k n v) (sinks_after w sinks a tokens)) (set reads a x)
  pub moves : firings_of (program w).plan.channels a k n v ≡ moves_from (program w) (state_of (program w) journal) (replicate n a)
  pub plan : new.plan ≡ core.plan
  pub counts : new.now.counts ≡ set core.now.counts a (k + n)
  pub stages : new.now.stages ≡ core.now.stages
  pub opens : new.now.opens ≡ core.now.opens

pub made_book : {keeps : Bool} → (w : Work) (n : ℕ) (core new : View) (journal : List Move) (sinks reads : List (List ℤ)) (a k : ℕ) (tokens : List ℤ)
    → IsBook (floor_of keeps w core journal sinks) reads → a < length core.plan.sources → stage core.now a ≡ Idle → count core.now a ≡ k
    → length tokens ≡ needs_of (program w).plan.channels a k n
    → PassesThrough core new (firings_of (program w).plan.channels a k n (made_value (program w) a k n tokens))
    (answers_to (program w).plan core.now (firings_of (program w).plan.channels a k n (made_value (program w) a k n tokens)))
    → reads_among (program w).plan core.now (firings_of (program w).plan.channels a k n (made_value (program w) a k n tokens))
    ≡ parts_of (program w).plan.channels a k n tokens
    → IsMade keeps w core new journal sinks reads a k n tokens (made_value (program w) a k n tokens)
made_book w zero core new journal sinks reads a k (x ∷ tokens) b there idle number len through read = absurd (omega arith)
made_book {keeps = keeps} w zero core new journal sinks reads a k [] b there idle number len through read =
    subst (λ (nw : View). IsMade keeps w core nw journal sinks reads a k zero [] []) (sym through) (record {
      book = λ x. book_buffer (floor_of keeps w core (journal ++ []) (sinks_after w sinks a [])) reads a x
          (subst (λ (js : List Move). IsBook (floor_of keeps w core js (sinks_after w sinks a [])) reads) (sym (append-nil journal))
          (subst (λ (ss : List (List ℤ)). IsBook (floor_of keeps w core journal ss) reads) (sym (sinks_none w sinks a)) b)) idle;
      moves = refl;
      plan = refl;
      counts = sym (ap (set core.now.counts a) (let e : k + 0 ≡ get_or core.now.counts a 0 = omega (arith, number) in e) ∙ set-get_or core.now.counts a 0);
      stages = refl;
      opens = refl;
    })
made_book {keeps = keeps} w (suc n) core new journal sinks reads a k tokens b there idle number len through read =
    let p : Program = program w in
    let cs : List Channel = p.plan.channels in
    let g : ℕ = gift a k cs in
    let r : ℕ = need a k cs in
    let part : List ℤ = take r tokens in
    let later : List ℤ = drop r tokens in
    let x : List ℤ = value p a k part in
    let rest : List ℤ = made_value p a (suc k) n later in
    let size : length x ≡ g = length_value p a k part in
    let front : take g (x ++ rest) ≡ x = ap (λ (i : ℕ). take i (x ++ rest)) (sym size) ∙ take-append_seam x rest in
    let back : drop g (x ++ rest) ≡ rest = ap (λ (i : ℕ). drop i (x ++ rest)) (sym size) ∙ drop-append_seam x rest in
    let v : List ℤ = take g (x ++ rest) in
    let t : List ℤ = answer p.plan (next p.plan core.now (Begin a)) (Read a) in
    let ms : List Move = firings_of cs a (suc k) n (drop g (x ++ rest)) in
    let first : t ≡ part = ap (λ (l : List (List ℤ)). get_or l 0 []) read in
    let c1 : View = through.0 in
    let f1 : Follows core c1 (Begin a) (Ok []) = through.1 in
    let c2 : View = through.3.0 in
    let f2 : Follows c1 c2 (Read a) (Ok t) = through.3.1 in
    let c3 : View = through.3.3.0 in
    let f3 : Follows c2 c3 (Write a v) (Ok []) = through.3.3.1 in
    let c4 : View = through.3.3.3.0 in
    let f4 : Follows c3 c4 (Finish a) (Ok []) = through.3.3.3.1 in
    let is : v ≡ value p a (count core.now a) t = front ∙ ap₂ (value p a) (sym number) (sym first) in
    let q4 : c4.now ≡ next p.plan (next p.plan (next p.plan (next p.plan core.now (Begin a)) (Read a)) (Write a v)) (Finish a) =
    one_now w core c1 c2 c3 c4 journal sinks reads a t v b there f1 f2 f3 f4 is in
    let same : c4.plan ≡ core.plan = one_plan w core c1 c2 c3 c4 journal sinks reads a t v b there f1 f2 f3 f4 is in
    let len_c = counted (floor_of keeps w core journal sinks) reads b in
    let len_s = staged (floor_of keeps w core journal sinks) reads b in
    let len_k = sinks_each w core journal sinks reads b in
    let counts4 : c4.now.counts ≡ set core.now.counts a (suc k) = ap (λ (q : Present). q.counts) q4 ∙ ap (λ (i : ℕ). set core.now.counts a (suc i)) number in
    let stages4 : c4.now.stages ≡ core.now.stages = ap (λ (q : Present). q.stages) q4
    ∙ ap (λ (xs : List Stage). set xs a Idle) (ap (λ (xs : List Stage). set xs a Written) (set-set core.now.stages a Begun Fetched)
    ∙ set-set core.now.stages a Fetched Written)
    ∙ set-set core.now.stages a Written Idle
    ∙ ap (set core.now.stages a) (sym idle) ∙ set-get_or core.now.stages a Idle in
    let opens4 : c4.now.opens ≡ core.now.opens = ap (λ (q : Present). q.opens) q4 in
    let number4 : count c4.now a ≡ suc k = ap (λ (ns : List ℕ). get_or ns a 0) counts4 ∙ get_or-set_same core.now.counts a (suc k) 0 (omega (arith, len_c, there)) in
    let idle4 : stage c4.now a ≡ Idle = ap (λ (xs : List Stage). get_or xs a Idle) stages4 ∙ idle in
    let there4 : a < length c4.plan.sources = subst (λ (u : Plan). a < length u.sources) (sym same) there in
    let len4 : length later ≡ needs_of cs a (suc k) n = (let d = length-drop r tokens in omega (arith, d, len)) in
    let step : Present = next p.plan (next p.plan (next p.plan (next p.plan core.now (Begin a)) (Read a)) (Write a v)) (Finish a) in
    let more : PassesThrough c4 new (firings_of cs a (suc k) n rest) (answers_to p.plan c4.now (firings_of cs a (suc k) n rest)) =
    subst (λ (q : Present). PassesThrough c4 new (firings_of cs a (suc k) n rest) (answers_to p.plan q (firings_of cs a (suc k) n rest))) (sym q4)
    (subst (λ (u : List ℤ). PassesThrough c4 new (firings_of cs a (suc k) n u) (answers_to p.plan step (firings_of cs a (suc k) n u))) back
    through.3.3.3.3) in
    let others : reads_among p.plan c4.now (firings_of cs a (suc k) n rest) ≡ parts_of cs a (suc k) n later =
    ap₂ (λ (q : Present) (u : List ℤ). reads_among p.plan q (firings_of cs a (suc k) n u)) q4 (sym back) ∙ ap (drop 1) read in
    let one = one_book w core c1 c2 c3 c4 journal sinks reads a t v b there f1 f2 f3 f4 is in
    let journal4 : List Move = (((journal ++ Begin a ∷ []) ++ Read a ∷ []) ++ Write a v ∷ []) ++ Finish a ∷ [] in
    let ih = made_book {keeps = keeps} w n c4 new journal4 (sinks_after w sinks a t) (set reads a t) a (suc k) later one there4 idle4 number4 len4 more others in
    let took : sinks_after w (sinks_after w sinks a t) a later ≡ sinks_after w sinks a tokens =
    sinks_more w sinks a t later (omega (arith, len_k, there))
    ∙ ap (sinks_after w sinks a) (ap (λ (u : List ℤ). u ++ later) first ∙ take-append-drop r tokens) in
    let tail : ms ≡ firings_of cs a (suc k) n rest = ap (firings_of cs a (suc k) n) back in
    let whole : journal4 ++ firings_of cs a (suc k) n rest ≡ journal ++ firings_of cs a k (suc n) (x ++ rest) =
    ap (λ (u : List Move). journal4 ++ u) (sym tail) ∙ four_on journal (Begin a) (Read a) (Write a v) (Finish a) ms in
    record {
      book = λ y.
          subst (λ (rs : List (List ℤ)). IsBook (floor_of keeps w new (journal ++ firings_of cs a k (suc n) (x ++ rest)) (sinks_after w sinks a tokens)) rs)
          (set-set reads a t y)
          (subst (λ (ss : List (List ℤ)). IsBook (floor_of keeps w new (journal ++ firings_of cs a k (suc n) (x ++ rest)) ss) (set (set reads a t) a y)) took
          (subst (λ (js : List Move). IsBook (floor_of keeps w new js (sinks_after w (sinks_after w sinks a t) a later)) (set (set reads a t) a y)) whole
          (ih.book y)));
      moves = ap₂ (λ (one two : List Move). one ++ two) (one_firing w core c1 c2 c3 c4 journal sinks reads a t v b there f1 f2 f3 f4 is)
          (tail ∙ ih.moves ∙ ap (λ (s : State). moves_from p s (replicate n a)) (one_state w core c1 c2 c3 c4 journal sinks reads a t v b there f1 f2 f3 f4 is));
      plan = ih.plan ∙ same;
      counts = ih.counts ∙ ap (λ (ns : List ℕ). set ns a (suc k + n)) counts4 ∙ set-set core.now.counts a (suc k) (suc k + n)
          ∙ ap (set core.now.counts a) (let e : suc k + n ≡ k + suc n = omega arith in e);
      stages = ih.stages ∙ stages4;
      opens = ih.opens ∙ opens4;
    }

-- ---- as the code makes them

pub length_made : (w : Program) (a k n : ℕ) (tokens : List ℤ) → length (made_value w a k n tokens) ≡ gifts_of w.plan.channels a k n
length_made w a k zero tokens = refl
length_made w a k (suc n) tokens =
    let part : List ℤ = take (need a k w.plan.channels) tokens in
    let later : List ℤ = drop (need a k w.plan.channels) tokens in
    let e = length-append (value w a k part) (made_value w a (suc k) n later) in
    let one = length_value w a k part in
    let rest = length_made w a (suc k) n later in
    omega (arith, e, one, rest)

-- how many tokens the kernel's own values are
pub all_given : (f : FloorView) (a n : ℕ) (v : List ℤ) → f.core.plan ≡ (program f.work).plan → AreOwnValues f a n v
    → length v ≡ gifts_of f.core.plan.channels a (count f.core.now a) n
all_given f a n v same own =
    ap length own.just ∙ length_made (program f.work) a (count f.core.now a) n own.tokens
    ∙ ap (λ (u : Plan). gifts_of u.channels a (count f.core.now a) n) (sym same)

pub fired_book : (keeps : Bool) (w : Work) (core new : View) (journal : List Move) (sinks reads : List (List ℤ)) (a n : ℕ) (v : List ℤ)
    → IsBook (floor_of keeps w core journal sinks) reads → a < length core.plan.sources → stage core.now a ≡ Idle
    → (own : AreOwnValues (floor_of keeps w core journal sinks) a n v)
    → Plays core new (firings_of core.plan.channels a (count core.now a) n v)
    (answers_to core.plan core.now (firings_of core.plan.channels a (count core.now a) n v))
    → IsMade keeps w core new journal sinks reads a (count core.now a) n own.tokens v
fired_book keeps w core new journal sinks reads a n v b there idle own plays =
    let p : Program = program w in
    let k : ℕ = count core.now a in
    let tokens : List ℤ = own.tokens in
    let same : core.plan ≡ p.plan = b.kept.plan in
    let len : length tokens ≡ needs_of p.plan.channels a k n = own.long ∙ ap (λ (u : Plan). needs_of u.channels a k n) same in
    let through : PassesThrough core new (firings_of p.plan.channels a k n (made_value p a k n tokens))
    (answers_to p.plan core.now (firings_of p.plan.channels a k n (made_value p a k n tokens))) =
    subst (λ (x : List ℤ). PassesThrough core new (firings_of p.plan.channels a k n x) (answers_to p.plan core.now (firings_of p.plan.channels a k n x)))
    own.just
    (subst (λ (u : Plan). PassesThrough core new (firings_of u.channels a k n v) (answers_to u core.now (firings_of u.channels a k n v))) same plays.through) in
    let read : reads_among p.plan core.now (firings_of p.plan.channels a k n (made_value p a k n tokens)) ≡ parts_of p.plan.channels a k n tokens =
    subst (λ (x : List ℤ). reads_among p.plan core.now (firings_of p.plan.channels a k n x) ≡ parts_of p.plan.channels a k n tokens) own.just
    (subst (λ (u : Plan). reads_among u core.now (firings_of u.channels a k n v) ≡ parts_of u.channels a k n tokens) same own.read) in
    subst (λ (x : List ℤ). IsMade keeps w core new journal sinks reads a k n tokens x) (sym own.just)
    (made_book {keeps = keeps} w n core new journal sinks reads a k tokens b there idle refl len through read)

-- those of what the buffer holds
pub kept_values : (f : FloorView) (a n : ℕ) (buffer v : List ℤ) → f.core.plan ≡ (program f.work).plan
    → length buffer ≡ needs_of f.core.plan.channels a (count f.core.now a) n → AreReadEach f.core.plan f.core.now a (count f.core.now a) n buffer
    → v ≡ made_value (program f.work) a (count f.core.now a) n buffer → AreKeptValues f a n buffer v
kept_values f a n buffer v same long each just = record {
  own = record {
    tokens = buffer;
    long = long;
    read = each v (ap length just ∙ length_made (program f.work) a (count f.core.now a) n buffer
        ∙ ap (λ (u : Plan). gifts_of u.channels a (count f.core.now a) n) (sym same));
    just = just;
  };
  kept = λ _. refl;
}

-- the book then
pub book_fired : (keeps keeps2 : Bool) (w : Work) (core new : View) (journal moves2 : List Move) (sinks sinks2 reads : List (List ℤ)) (a n : ℕ)
    (tokens v : List ℤ) → IsBook (floor_of keeps w core journal sinks) reads
    → IsMade keeps2 w core new journal sinks reads a (count core.now a) n tokens v
    → moves2 ≡ journal ++ firings_of core.plan.channels a (count core.now a) n v → sinks2 ≡ sinks_after w sinks a tokens
    → IsBook (floor_of keeps2 w new moves2 sinks2) reads
book_fired keeps keeps2 w core new journal moves2 sinks sinks2 reads a n tokens v b made is took =
    let p : Program = program w in
    let k : ℕ = count core.now a in
    let kept : List ℤ = get_or reads a [] in
    let whole : IsBook (floor_of keeps2 w new (journal ++ firings_of p.plan.channels a k n v) (sinks_after w sinks a tokens)) (set reads a kept) =
    made.book kept in
    subst (λ (rs : List (List ℤ)). IsBook (floor_of keeps2 w new moves2 sinks2) rs) (set-get_or reads a [])
    (subst (λ (ss : List (List ℤ)). IsBook (floor_of keeps2 w new moves2 ss) (set reads a kept)) (sym took)
    (subst (λ (js : List Move). IsBook (floor_of keeps2 w new js (sinks_after w sinks a tokens)) (set reads a kept))
    (ap (λ (u : Plan). journal ++ firings_of u.channels a k n v) (sym b.kept.plan) ∙ sym is) whole))

pub has_made : (keeps : Bool) (w : Work) (core new : View) (journal journal2 : JournalView) (sinks lists2 : ListsView) (reads : List (List ℤ)) (a n : ℕ)
    (tokens v : List ℤ) → core.plan ≡ (program w).plan
    → IsMade keeps w core new journal.moves sinks.lists reads a (count core.now a) n tokens v
    → journal2.moves ≡ journal.moves ++ firings_of core.plan.channels a (count core.now a) n v → journal2.keeps ≡ journal.keeps
    → HasMade (floor_of journal.keeps w core journal.moves sinks.lists) (floor_of journal2.keeps w new journal2.moves lists2.lists) a n
    (moves_from (program w) (state_of (program w) journal.moves) (replicate n a))
has_made keeps w core new journal journal2 sinks lists2 reads a n tokens v same made is kept = record {
  gone = record {
    work = refl;
    journal = is ∙ ap (λ (ms : List Move). journal.moves ++ ms)
        (ap (λ (u : Plan). firings_of u.channels a (count core.now a) n v) same ∙ made.moves);
    keeps = kept;
  };
  plan = made.plan;
  counts = made.counts;
  stages = made.stages;
  opens = made.opens;
}

-- ---- the values, by the kernel

same_counts : (a j k : ℕ) (cs : List Channel) → ((c : ℕ) → c < length cs → from_at cs c ≡ a → length (produce_at cs c) ≡ 1)
    → map (gives_of a j) (filter (λ (d : Channel). d.from == a) cs) ≡ map (gives_of a k) (filter (λ (d : Channel). d.from == a) cs)
same_counts a j k [] one = refl
same_counts a j k (x ∷ cs) one = by (x.from == a) refl (same_counts a j k cs (λ c lt e. one (suc c) (omega (arith, lt)) e))
  where
    by : (b : Bool) → (x.from == a) ≡ b
        → map (gives_of a j) (filter (λ (d : Channel). d.from == a) cs) ≡ map (gives_of a k) (filter (λ (d : Channel). d.from == a) cs)
        → map (gives_of a j) (cond b (x ∷ filter (λ (d : Channel). d.from == a) cs) (filter (λ (d : Channel). d.from == a) cs))
        ≡ map (gives_of a k) (cond b (x ∷ filter (λ (d : Channel). d.from == a) cs) (filter (λ (d : Channel). d.from == a) cs))
    by true is rest =
        let same : rate x.produce j ≡ rate x.produce k = rate_one x.produce j k (one zero (omega arith) (eqb-true x.from a is)) in
        ap₂ (λ (n : ℕ) (ns : List ℕ). n ∷ ns) (ap (λ (r : ℕ). cond (x.from == a) r 0) same) rest
    by false is rest = rest

pub same_outputs : (w : Program) (a j k : ℕ) → HasPhases w.plan.channels a 1 → output_counts w a j ≡ output_counts w a k
same_outputs w a j k has = same_counts a j k w.plan.channels has.gives

-- an answer that says more
pub on_ok : {T E : Type 0} → (r : Result T E) (P Q : Type 0) → (P → Q) → OnOk r P → OnOk r Q
on_ok (Ok x) P Q f p = f p
on_ok (Err e) P Q f p = tt
