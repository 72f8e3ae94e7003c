-- A book, from one move to the next.
use Rattle.std.proofs.Common.{◌≡◌, ◌≢◌, ℕ, zero, suc, ◌+◌, ◌<◌, ◌≤◌, cond, inl, inr, List, [], ◌∷◌, ◌++◌, length, map, get_or, set, refl}
use Rattle.std.proofs.Common.{ap, sym, subst, ◌∙◌, arith, append-nil, append_assoc, Bool, true, false, Option, None, eq-eqb, length-set}
use Rattle.std.specs.Prelude.{ℤ, Ok, Err, replicate}
use Rattle.std.specs.Global.{Vec}
use Rattle.std.specs.List.{range_with_len}
use Rattle.std.proofs.lemmas.List.{get_or-set_other, get_or-set_same, map-set, set-set}
use Rattle.std.proofs.lemmas.List.FromFn.{get_or-map-range_with_len, length-map-range_with_len}
use Rattle.std.proofs.lemmas.Bool.Decides.{eqb_tells}
use Rattle.csdf_model.specs.declared.parts.Kernel.TheVariants.{Sink}
use Rattle.csdf_core.specs.declared.stage.Stage.{Stage}
use Rattle.csdf_core.specs.declared.stage.Stage.TheVariants.{Idle, Begun, Fetched, Written}
use Rattle.csdf_core.specs.declared.refusal.Refusal.{Refusal}
use Rattle.csdf_core.specs.Moves.{Move}
use Rattle.csdf_core.specs.Moves.{Begin, Read, Write, Finish, Close}
use Rattle.csdf_core.specs.Next.{next}
use Rattle.csdf_core.specs.Plan.{Plan}
use Rattle.csdf_core.specs.Rows.{gift}
use Rattle.csdf_core.specs.State.{State, Present, present, opening}
use Rattle.csdf_core.specs.Step.{Reply, refusal, answer, after, accepted, state_by, reply_by, reply_to, count, stage, is_over, producer}
use Rattle.csdf_core.specs.Shows.{View, Shows, Follows, raised, raised_over}
use Rattle.csdf_core.proofs.Accepting.{reads_free, writes_free, finishes_free}
use Rattle.csdf_core.proofs.Booked.{can_begin}
use Rattle.csdf_core.proofs.Kept.{reads}
use Rattle.csdf_core.proofs.Next.{present_accepted}
use Rattle.csdf_core.proofs.Runs.{raised_over-push}
use Rattle.csdf_journal.specs.View.{JournalView}
use Rattle.csdf_floor.specs.Journal.{Program, state_of, reads_of, replies_to, no_reads, IsJust, value, took, sink_tokens, reads_after}
use Rattle.csdf_floor.specs.Work.{Work, IsWork, program, feeds_in, is_sink_kernel}
use Rattle.csdf_floor.specs.Floor.{FloorView, IsKept, sink_of, sinks_of}
use Rattle.csdf_floor.specs.Inside.{BookView, ListsView, IsBook, IsNext, HasTaken, HasGiven, first_peaks}
use Rattle.csdf_floor.proofs.Journals.{goes_on, state_push, reads_push, reads_own, reads_others, sink_push, accepted_of_reply}
use Rattle.csdf_floor.proofs.Bounds.{faithful_end}
use Rattle.csdf_floor.proofs.Sequential.{length_value}
use Rattle.csdf_floor.proofs.Works.{item_at}

abbrev pub floor_of : Bool → Work → View → List Move → List (List ℤ) → FloorView
floor_of keeps w core journal sinks = record { work = w; core = core; journal = journal; keeps = keeps; sinks = sinks }

abbrev pub book_of : Work → View → JournalView → ListsView → List (List ℤ) → BookView
book_of w core journal sinks reads = record {
  shown = floor_of journal.keeps w core journal.moves sinks.lists;
  room = journal.room;
  width = journal.width;
  rooms = sinks.rooms;
  reads = reads;
}

-- ---- the core

-- what a core's answer says of the step
pub accepted_as : (w : Program) (core nxt : View) (journal : List Move) (m : Move) (tokens : List ℤ) → IsKept w core journal → Follows core nxt m (Ok tokens)
    → (refusal w.plan (present (state_of w journal)) m ≡ None) × (tokens ≡ answer w.plan (present (state_of w journal)) m)
accepted_as w core nxt journal m tokens k f =
    let reply : Ok tokens ≡ reply_to w.plan (state_of w journal) m = f.reply_is (state_of w journal) k.shows
    ∙ ap (λ (u : Plan). reply_to u (state_of w journal) m) k.plan in
    accepted_of_reply w.plan (state_of w journal) m tokens (sym reply)

-- the core made a move, which goes to the end of the journal
pub moved : (w : Program) (core nxt : View) (journal : List Move) (m : Move) (tokens : List ℤ) → IsKept w core journal → Follows core nxt m (Ok tokens)
    → IsJust w (state_of w journal) (reads_of w journal) m
    → IsKept w nxt (journal ++ m ∷ [])
moved w core nxt journal m tokens k f just =
    let s : State = state_of w journal in
    let is = accepted_as w core nxt journal m tokens k f in
    record {
      plan = f.plan ∙ k.plan;
      honest = goes_on w journal m k.honest (record { accepted = is.0; just = just });
      shows = subst (Shows nxt) (sym (state_push w.plan (opening w.plan) journal m)) (subst (λ (u : Plan). Shows nxt (after u s m)) k.plan (f.shows s k.shows));
    }

-- what is present then
pub now_next : (w : Program) (core nxt : View) (journal : List Move) (m : Move) (tokens : List ℤ) → IsKept w core journal → Follows core nxt m (Ok tokens)
    → nxt.now ≡ next core.plan core.now m
now_next w core nxt journal m tokens k f =
    let s : State = state_of w journal in
    let is : refusal core.plan (present s) m ≡ None = ap (λ (u : Plan). refusal u (present s) m) k.plan ∙ (accepted_as w core nxt journal m tokens k f).0 in
    (f.shows s k.shows).same
    ∙ ap (λ (o : Option Refusal). present (state_by o (accepted core.plan s m) s)) is
    ∙ present_accepted core.plan s m k.shows.lawful
    ∙ ap (λ (p : Present). next core.plan p m) (sym k.shows.same)

peaks_push : (w : Program) (core nxt : View) (journal : List Move) (m : Move) (tokens : List ℤ) (first : List ℕ) → IsKept w core journal
    → Follows core nxt m (Ok tokens)
    → core.peaks ≡ raised_over w.plan (opening w.plan) first journal → nxt.peaks ≡ raised_over w.plan (opening w.plan) first (journal ++ m ∷ [])
peaks_push w core nxt journal m tokens first k f is =
    let s : State = state_of w journal in
    let now : nxt.now ≡ present (after w.plan s m) = (f.shows s k.shows).same ∙ ap (λ (u : Plan). present (after u s m)) k.plan in
    f.peaks
    ∙ ap (λ (ps : List ℕ). raised ps nxt.now.tokens) is
    ∙ ap (λ (p : Present). raised (raised_over w.plan (opening w.plan) first journal) p.tokens) now
    ∙ sym (raised_over-push w.plan (opening w.plan) first journal m)

-- ---- moves that are no reads

abbrev pub IsNoRead : Move → Type 0
IsNoRead (Read a) = ⊥
IsNoRead (Begin a) = Unit {0}
IsNoRead (Write a v) = Unit {0}
IsNoRead (Finish a) = Unit {0}
IsNoRead (Close c) = Unit {0}

map_same : {A : Type 0} (f g : ℕ → A) (xs : List ℕ) → ((x : ℕ) → f x ≡ g x) → map f xs ≡ map g xs
map_same f g [] same = refl
map_same f g (x ∷ xs) same = let here = same x in let rest = map_same f g xs same in cc

took_none : (t : ℕ) (m : Move) (reply : Reply) → IsNoRead m → took t m reply ≡ []
took_none t (Begin a) reply no_read = refl
took_none t (Read a) reply no_read = absurd no_read
took_none t (Write a v) reply no_read = refl
took_none t (Finish a) reply no_read = refl
took_none t (Close c) reply no_read = refl

sinks_stay : (w : Program) (journal : List Move) (m : Move) → IsNoRead m → sinks_of w (journal ++ m ∷ []) ≡ sinks_of w journal
sinks_stay w journal m no_read = map_same (sink_of w (journal ++ m ∷ [])) (sink_of w journal) (range_with_len 0 (length w.plan.sources)) (λ t.
    ap (λ (xs : List ℤ). cond (is_sink_kernel (get_or w.kernels t Sink)) xs [])
    (sink_push w.plan t (opening w.plan) journal m
    ∙ ap (λ (xs : List ℤ). sink_tokens t journal (replies_to w journal) ++ xs) (took_none t m (reply_to w.plan (state_of w journal) m) no_read)
    ∙ append-nil _))

reads_stay : (w : Program) (journal : List Move) (m : Move) → IsNoRead m → reads_of w (journal ++ m ∷ []) ≡ reads_of w journal
reads_stay w journal m no_read = reads_push w.plan (opening w.plan) (no_reads w.plan) journal m ∙ by m no_read
  where
    by : (n : Move) → IsNoRead n → reads_after w.plan (state_of w journal) (reads_of w journal) n ≡ reads_of w journal
    by (Begin a) is = refl
    by (Read a) is = absurd is
    by (Write a v) is = refl
    by (Finish a) is = refl
    by (Close c) is = refl

-- an entry that is not the one put in was there before
was_there : (xs : List Stage) (b a : ℕ) (x y : Stage) → x ≢ y → get_or (set xs b x) a Idle ≡ y → get_or xs a Idle ≡ y
was_there [] b a x y ne e = e
was_there (z ∷ xs) zero zero x y ne e = absurd (ne e)
was_there (z ∷ xs) zero (suc a) x y ne e = e
was_there (z ∷ xs) (suc b) zero x y ne e = e
was_there (z ∷ xs) (suc b) (suc a) x y ne e = was_there xs b a x y ne e

had_read : (plan : Plan) (p : Present) (m : Move) (a : ℕ) → IsNoRead m → stage (next plan p m) a ≡ Fetched → stage p a ≡ Fetched
had_read plan p (Begin b) a is e = was_there p.stages b a Begun Fetched (λ q. absurd (cc)) e
had_read plan p (Read b) a is e = absurd is
had_read plan p (Write b v) a is e = was_there p.stages b a Written Fetched (λ q. absurd (cc)) e
had_read plan p (Finish b) a is e = was_there p.stages b a Idle Fetched (λ q. absurd (cc)) e
had_read plan p (Close c) a is e = e

pub book_moved : {keeps keeps2 : Bool} → (w : Work) (core nxt : View) (journal : List Move) (sinks reads : List (List ℤ)) (m : Move) (tokens : List ℤ)
    → IsNoRead m → IsBook (floor_of keeps w core journal sinks) reads → Follows core nxt m (Ok tokens)
    → IsJust (program w) (state_of (program w) journal) (reads_of (program w) journal) m → IsBook (floor_of keeps2 w nxt (journal ++ m ∷ []) sinks) reads
book_moved w core nxt journal sinks reads m tokens no_read b f just = record {
  work = b.work;
  kept = moved (program w) core nxt journal m tokens b.kept f just;
  peaks = peaks_push (program w) core nxt journal m tokens (first_peaks (program w).plan) b.kept f b.peaks;
  sinks = b.sinks ∙ sym (sinks_stay (program w) journal m no_read);
  each_actor = b.each_actor ∙ ap (λ (u : Plan). length u.sources) (sym f.plan);
  last_reads = λ a lt has_read.
      let was : stage core.now a ≡ Fetched = had_read core.plan core.now m a no_read
      (subst (λ (p : Present). stage p a ≡ Fetched) (now_next (program w) core nxt journal m tokens b.kept f) has_read) in
      b.last_reads a (subst (λ (u : Plan). a < length u.sources) f.plan lt) was
      ∙ ap (λ (rs : List (List ℤ)). get_or rs a []) (sym (reads_stay (program w) journal m no_read));
}

-- ---- a read

-- a list made from the numbers from k on, one of which is another
one_other : {A : Type 0} (f g : ℕ → A) (k n i : ℕ) (y : A) → ((j : ℕ) → j ≢ k + i → g j ≡ f j) → g (k + i) ≡ y
    → map g (range_with_len k n) ≡ set (map f (range_with_len k n)) i y
one_other f g k zero i y same own = refl
one_other {A = A} f g k (suc n) zero y same own =
    let e : k + 0 ≡ k = omega arith in
    let here : g k ≡ y = ap g (sym e) ∙ own in
    let rest : map g (range_with_len (k + 1) n) ≡ map f (range_with_len (k + 1) n) = above (k + 1) n (omega arith) in
    cc
  where
    above : (j m : ℕ) → k + 0 < j → map g (range_with_len j m) ≡ map f (range_with_len j m)
    above j zero lt = refl
    above j (suc m) lt = let first : g j ≡ f j = same j (omega arith) in let others = above (j + 1) m (omega arith) in cc
one_other f g k (suc n) (suc i) y same own =
    let here : g k ≡ f k = same k (omega arith) in
    let e : (k + 1) + i ≡ k + suc i = omega arith in
    let rest = one_other f g (k + 1) n i y (λ j ne. same j (λ q. ne (q ∙ sym e))) (ap g e ∙ own) in
    cc

-- what the others took
took_other : (w : Program) (journal : List Move) (a t : ℕ) → t ≢ a → sink_of w (journal ++ Read a ∷ []) t ≡ sink_of w journal t
took_other w journal a t ne =
    ap (λ (xs : List ℤ). cond (is_sink_kernel (get_or w.kernels t Sink)) xs [])
    (sink_push w.plan t (opening w.plan) journal (Read a)
    ∙ ap (λ (xs : List ℤ). sink_tokens t journal (replies_to w journal) ++ xs) (none (reply_to w.plan (state_of w journal) (Read a)))
    ∙ append-nil _)
  where
    none : (r : Reply) → took t (Read a) r ≡ []
    none (Ok tokens) = elim (eqb_tells a t) [
      | inl e ↦ absurd (ne (sym e.1))
      | inr e ↦ ap (λ b. cond b tokens []) e.0
    ]
    none (Err why) = refl

sink_own : (w : Program) (journal : List Move) (a : ℕ) (tokens : List ℤ) → is_sink_kernel (get_or w.kernels a Sink) ≡ true
    → reply_to w.plan (state_of w journal) (Read a) ≡ Ok tokens
    → sink_of w (journal ++ Read a ∷ []) a ≡ sink_of w journal a ++ tokens
sink_own w journal a tokens is replied =
    let whole : sink_tokens a (journal ++ Read a ∷ []) (replies_to w (journal ++ Read a ∷ [])) ≡ sink_tokens a journal (replies_to w journal) ++ tokens =
    sink_push w.plan a (opening w.plan) journal (Read a)
    ∙ ap (λ (r : Reply). sink_tokens a journal (replies_to w journal) ++ took a (Read a) r) replied
    ∙ ap (λ b. sink_tokens a journal (replies_to w journal) ++ cond b tokens []) (eq-eqb a a refl) in
    ap (λ b. cond b (sink_tokens a (journal ++ Read a ∷ []) (replies_to w (journal ++ Read a ∷ []))) []) is
    ∙ whole
    ∙ ap (λ b. cond b (sink_tokens a journal (replies_to w journal)) [] ++ tokens) (sym is)

sinks_grow : (w : Program) (journal : List Move) (a : ℕ) (tokens : List ℤ) → a < length w.plan.sources → is_sink_kernel (get_or w.kernels a Sink) ≡ true
    → reply_to w.plan (state_of w journal) (Read a) ≡ Ok tokens
    → sinks_of w (journal ++ Read a ∷ []) ≡ set (sinks_of w journal) a (get_or (sinks_of w journal) a [] ++ tokens)
sinks_grow w journal a tokens lt is replied =
    let n : ℕ = length w.plan.sources in
    let at : get_or (sinks_of w journal) a [] ≡ sink_of w journal a = get_or-map-range_with_len (sink_of w journal) 0 n a a [] lt (omega arith) in
    let e : 0 + a ≡ a = omega arith in
    one_other (sink_of w journal) (sink_of w (journal ++ Read a ∷ [])) 0 n a (get_or (sinks_of w journal) a []
    ++ tokens) (λ j ne. took_other w journal a j (λ q. ne (q ∙ sym e)))
    (ap (sink_of w (journal ++ Read a ∷ [])) e ∙ sink_own w journal a tokens is replied ∙ ap (λ (xs : List ℤ). xs ++ tokens) (sym at))

sinks_keep : (w : Program) (journal : List Move) (a : ℕ) → is_sink_kernel (get_or w.kernels a Sink) ≡ false
    → sinks_of w (journal ++ Read a ∷ []) ≡ sinks_of w journal
sinks_keep w journal a is = map_same (sink_of w (journal ++ Read a ∷ [])) (sink_of w journal) (range_with_len 0 (length w.plan.sources))
    (λ t. elim (eqb_tells t a) [
      | inl e ↦
          let off : is_sink_kernel (get_or w.kernels t Sink) ≡ false = ap (λ b. is_sink_kernel (get_or w.kernels b Sink)) e.1 ∙ is in
          ap (λ b. cond b (sink_tokens t (journal ++ Read a ∷ []) (replies_to w (journal ++ Read a ∷ []))) []) off
          ∙ sym (ap (λ b. cond b (sink_tokens t journal (replies_to w journal)) []) off)
      | inr e ↦ took_other w journal a t e.1
    ])

sinks_step : (w : Program) (journal : List Move) (sinks : List (List ℤ)) (a : ℕ) (tokens : List ℤ) (on : Bool) → is_sink_kernel (get_or w.kernels a Sink) ≡ on
    → a < length w.plan.sources → reply_to w.plan (state_of w journal) (Read a) ≡ Ok tokens
    → sinks ≡ sinks_of w journal → cond on (set sinks a (get_or sinks a [] ++ tokens)) sinks ≡ sinks_of w (journal ++ Read a ∷ [])
sinks_step w journal sinks a tokens true is lt replied e = ap (λ (xs : List (List ℤ)). set xs a (get_or xs a [] ++ tokens)) e
    ∙ sym (sinks_grow w journal a tokens lt is replied)
sinks_step w journal sinks a tokens false is lt replied e = e ∙ sym (sinks_keep w journal a is)

-- what the sinks took once the actor has read
abbrev pub sinks_after : Work → List (List ℤ) → ℕ → List ℤ → List (List ℤ)
sinks_after w sinks a tokens = cond (is_sink_kernel (get_or (program w).kernels a Sink)) (set sinks a (get_or sinks a [] ++ tokens)) sinks

pub book_read : {keeps keeps2 : Bool} → (w : Work) (core nxt : View) (journal : List Move) (sinks reads : List (List ℤ)) (a : ℕ) (tokens : List ℤ)
    → a < length core.plan.sources → IsBook (floor_of keeps w core journal sinks) reads → Follows core nxt (Read a) (Ok tokens)
    → IsBook (floor_of keeps2 w nxt (journal ++ Read a ∷ []) (sinks_after w sinks a tokens)) (set reads a tokens)
book_read w core nxt journal sinks reads a tokens there b f =
    let p : Program = program w in
    let is = accepted_as p core nxt journal (Read a) tokens b.kept f in
    let replied : reply_to p.plan (state_of p journal) (Read a) ≡ Ok tokens =
    ap (λ (o : Option Refusal). reply_by o (answer p.plan (present (state_of p journal)) (Read a))) is.0 ∙ ap Ok (sym is.1) in
    let lt : a < length p.plan.sources = subst (λ (u : Plan). a < length u.sources) b.kept.plan there in
    record {
      work = b.work;
      kept = moved p core nxt journal (Read a) tokens b.kept f tt;
      peaks = peaks_push p core nxt journal (Read a) tokens (first_peaks p.plan) b.kept f b.peaks;
      sinks = sinks_step p journal sinks a tokens (is_sink_kernel (get_or p.kernels a Sink)) refl lt replied b.sinks;
      each_actor = length-set reads a tokens ∙ b.each_actor ∙ ap (λ (u : Plan). length u.sources) (sym f.plan);
      last_reads = λ t near has_read. elim (eqb_tells t a) [
        | inl e ↦
            let long : a < length reads = (let h = b.each_actor in omega arith) in
            ap (λ i. get_or (set reads a tokens) i []) e.1
            ∙ get_or-set_same reads a tokens [] long
            ∙ is.1
            ∙ sym (ap (λ i. get_or (reads_of p (journal ++ Read a ∷ [])) i []) e.1
            ∙ ap (λ (rs : List (List ℤ)). get_or rs a []) (reads_push p.plan (opening p.plan) (no_reads p.plan) journal (Read a))
            ∙ reads_own p.plan (state_of p journal) (reads_of p journal) a (let each = (faithful_end p journal b.kept.honest).each in omega arith))
        | inr e ↦
            let now : stage (next core.plan core.now (Read a)) t ≡ Fetched =
            subst (λ (q : Present). stage q t ≡ Fetched) (now_next p core nxt journal (Read a) tokens b.kept f) has_read in
            let was : stage core.now t ≡ Fetched = sym (get_or-set_other core.now.stages a t Fetched Idle e.1) ∙ now in
            get_or-set_other reads a t tokens [] e.1
            ∙ b.last_reads t (subst (λ (u : Plan). t < length u.sources) f.plan near) was
            ∙ sym (ap (λ (rs : List (List ℤ)). get_or rs t []) (reads_push p.plan (opening p.plan) (no_reads p.plan) journal (Read a))
            ∙ reads_others p.plan (state_of p journal) (reads_of p journal) (Read a) t (λ q. e.1 (sym q)))
      ];
    }

-- ---- what makes a move just, by the core

pub write_just : (w : Program) (core : View) (journal : List Move) (a : ℕ) (v : List ℤ) → IsKept w core journal
    → v ≡ value w a (count core.now a) (get_or (reads_of w journal) a []) → IsJust w (state_of w journal) (reads_of w journal) (Write a v)
write_just w core journal a v k is = is ∙ ap (λ (p : Present). value w a (count p a) (get_or (reads_of w journal) a [])) k.shows.same

pub close_just : (w : Program) (core : View) (journal : List Move) (c : ℕ) → IsKept w core journal → stage core.now (producer core.plan c) ≡ Idle
    → is_over core.plan core.now (producer core.plan c) ≡ true
    → IsJust w (state_of w journal) (reads_of w journal) (Close c)
close_just w core journal c k idle over = (
  (ap (λ (u : Plan). stage (present (state_of w journal)) (producer u c)) (sym k.plan) ∙ ap (λ (p : Present). stage p (producer core.plan c)) (sym k.shows.same)
      ∙ idle),
  (ap (λ (u : Plan). is_over u (present (state_of w journal)) (producer u c)) (sym k.plan)
      ∙ ap (λ (p : Present). is_over core.plan p (producer core.plan c)) (sym k.shows.same) ∙ over),
)

-- ---- the book's own fields

pub book_next : {keeps keeps2 : Bool} → (w : Work) (core nxt : View) (journal journal2 : List Move) (m : Move) (sinks reads : List (List ℤ)) (tokens : List ℤ)
    → IsNoRead m → IsBook (floor_of keeps w core journal sinks) reads → Follows core nxt m (Ok tokens)
    → IsJust (program w) (state_of (program w) journal) (reads_of (program w) journal) m → journal2 ≡ journal ++ m ∷ []
    → IsBook (floor_of keeps2 w nxt journal2 sinks) reads
book_next {keeps2 = keeps2} w core nxt journal journal2 m sinks reads tokens no_read b f just is =
    subst (λ (js : List Move). IsBook (floor_of keeps2 w nxt js sinks) reads) (sym is) (book_moved w core nxt journal sinks reads m tokens no_read b f just)

pub next_is : (w : Work) (core nxt : View) (journal journal2 : JournalView) (m : Move) (sinks sinks2 : ListsView) (reads reads2 : List (List ℤ))
    (tokens : List ℤ) → IsBook (floor_of journal.keeps w core journal.moves sinks.lists) reads
    → Follows core nxt m (Ok tokens) → journal2.moves ≡ journal.moves ++ m ∷ [] → journal.room ≤ journal2.room + 1 → journal2.keeps ≡ journal.keeps
    → IsNext (book_of w core journal sinks reads) (book_of w nxt journal2 sinks2 reads2) m
next_is w core nxt journal journal2 m sinks sinks2 reads reads2 tokens b f is room keeps = record {
  gone = record { work = refl; journal = is; keeps = keeps };
  room = room;
  plan = f.plan;
  now = now_next (program w) core nxt journal.moves m tokens b.kept f;
}

-- a list for each actor
pub sinks_each : {keeps : Bool} → (w : Work) (core : View) (journal : List Move) (sinks reads : List (List ℤ))
    → IsBook (floor_of keeps w core journal sinks) reads → length sinks ≡ length core.plan.sources
sinks_each w core journal sinks reads b =
    ap length b.sinks
    ∙ length-map-range_with_len (sink_of (program w) journal) 0 (length (program w).plan.sources)
    ∙ ap (λ (u : Plan). length u.sources) (sym b.kept.plan)

pub read_there : (plan : Plan) (p : Present) (a : ℕ) → refusal plan p (Read a) ≡ None → a < length plan.sources
read_there plan p a none = (reads plan p a none).there

pub book_fetch : {keeps keeps2 : Bool} → (w : Work) (core nxt : View) (moves moves2 : List Move) (sinks sinks2 : List (List ℤ))
    (buffers : List (Vec ℤ)) (buffer : Vec ℤ) (a : ℕ)
    → refusal core.plan core.now (Read a) ≡ None
    → IsBook (floor_of keeps w core moves sinks) (feeds_in buffers) → Follows core nxt (Read a) (Ok buffer.items) → moves2 ≡ moves ++ Read a ∷ []
    → sinks2 ≡ sinks_after w sinks a buffer.items
    → IsBook (floor_of keeps2 w nxt moves2 sinks2) (feeds_in (set buffers a buffer))
book_fetch {keeps2 = keeps2} w core nxt moves moves2 sinks sinks2 buffers buffer a none b f is took =
    let whole = book_read {keeps2 = keeps2} w core nxt moves sinks (feeds_in buffers) a buffer.items (read_there core.plan core.now a none) b f in
    let same : feeds_in (set buffers a buffer) ≡ set (feeds_in buffers) a buffer.items = map-set (λ (v : Vec ℤ). v.items) buffers a buffer in
    subst (λ (rs : List (List ℤ)). IsBook (floor_of keeps2 w nxt moves2 sinks2) rs) (sym same)
    (subst (λ (ss : List (List ℤ)). IsBook (floor_of keeps2 w nxt moves2 ss) (set (feeds_in buffers) a buffer.items)) (sym took)
    (subst (λ (js : List Move). IsBook (floor_of keeps2 w nxt js (sinks_after w sinks a buffer.items)) (set (feeds_in buffers) a buffer.items)) (sym is) whole))

-- ---- before any move

first_reads : (n a : ℕ) → get_or (replicate n Idle) a Idle ≡ Fetched → ⊥
first_reads zero a e = absurd (cc)
first_reads (suc n) zero e = absurd (cc)
first_reads (suc n) (suc a) e = first_reads n a e

first_sinks : (w : Program) (k n : ℕ) → map (sink_of w []) (range_with_len k n) ≡ replicate n []
first_sinks w k zero = refl
first_sinks w k (suc n) = let here : sink_of w [] k ≡ [] = none (is_sink_kernel (get_or w.kernels k Sink)) in let rest = first_sinks w (k + 1) n in cc
  where
    none : (b : Bool) → cond b (sink_tokens k [] (replies_to w [])) [] ≡ []
    none true = refl
    none false = refl

pub book_opened : {keeps : Bool} → (w : Work) (core : View) (sinks reads : List (List ℤ)) → IsWork w → core.plan ≡ (program w).plan
    → Shows core (opening core.plan) → core.peaks ≡ first_peaks core.plan
    → sinks ≡ replicate (length core.plan.sources) [] → length reads ≡ length core.plan.sources → IsBook (floor_of keeps w core [] sinks) reads
book_opened w core sinks reads work plan shows peaks none each = record {
  work = work;
  kept = record { plan = plan; honest = tt; shows = subst (λ (u : Plan). Shows core (opening u)) plan shows };
  peaks = peaks ∙ ap first_peaks plan;
  sinks = none ∙ ap (λ (u : Plan). replicate (length u.sources) []) plan ∙ sym (first_sinks (program w) 0 (length (program w).plan.sources));
  each_actor = each;
  last_reads = λ a lt has_read.
      let now : get_or (replicate (length core.plan.sources) Idle) a Idle ≡ Fetched = subst (λ (p : Present). stage p a ≡ Fetched) shows.same has_read in
      absurd (first_reads (length core.plan.sources) a now);
}

-- ---- the buffer of an idle actor

pub book_resized : (f : FloorView) (buffers : List (Vec ℤ)) (a : ℕ) (x : Vec ℤ) → IsBook f (feeds_in buffers) → stage f.core.now a ≡ Idle
    → IsBook f (feeds_in (set buffers a x))
book_resized f buffers a x b idle =
    let same : feeds_in (set buffers a x) ≡ set (feeds_in buffers) a x.items = map-set (λ (v : Vec ℤ). v.items) buffers a x in
    subst (IsBook f) (sym same) (record {
      work = b.work;
      kept = b.kept;
      peaks = b.peaks;
      sinks = b.sinks;
      each_actor = length-set (feeds_in buffers) a x.items ∙ b.each_actor;
      last_reads = λ t lt has_read. elim (eqb_tells t a) [
        | inl e ↦ absurd (let at : Idle ≡ Fetched = sym (ap (λ i. stage f.core.now i) e.1 ∙ idle) ∙ has_read in cc)
        | inr e ↦ get_or-set_other (feeds_in buffers) a t x.items [] e.1 ∙ b.last_reads t lt has_read
      ];
    })

-- ---- the first two moves of a firing

-- each actor has a stage
pub staged : (f : FloorView) (reads : List (List ℤ)) → IsBook f reads → length f.core.now.stages ≡ length f.core.plan.sources
staged f reads b =
    ap (λ (p : Present). length p.stages) b.kept.shows.same
    ∙ (faithful_end (program f.work) f.journal b.kept.honest).booked.staged
    ∙ ap (λ (u : Plan). length u.sources) (sym b.kept.plan)

pub may_read : (plan plan2 : Plan) (p p2 : Present) (a : ℕ) → length p.stages ≡ length plan.sources → refusal plan p (Begin a) ≡ None → plan2 ≡ plan
    → p2 ≡ next plan p (Begin a) → refusal plan2 p2 (Read a) ≡ None
may_read plan plan2 p p2 a len none same now =
    let there = (can_begin plan p a none).exists in
    let at : stage p2 a ≡ Begun = ap (λ (q : Present). stage q a) now ∙ get_or-set_same p.stages a Begun Idle (omega arith) in
    reads_free plan2 p2 a (let e = ap (λ (u : Plan). length u.sources) same in omega arith) at

pub has_taken : (old mid new : BookView) (a : ℕ) → IsBook old.shown old.reads → refusal old.shown.core.plan old.shown.core.now (Begin a) ≡ None
    → IsNext old mid (Begin a) → mid.reads ≡ old.reads → IsNext mid new (Read a)
    → length (get_or new.reads a []) ≡ length (get_or mid.reads a [])
    → get_or new.reads a [] ≡ get_or (reads_of (program new.shown.work) new.shown.journal) a [] → HasTaken old new a
has_taken old mid new a b none one same two buffer tokens =
    let there = (can_begin old.shown.core.plan old.shown.core.now a none).exists in
    let len = staged old.shown old.reads b in
    let plan : new.shown.core.plan ≡ old.shown.core.plan = two.plan ∙ one.plan in
    let stages : new.shown.core.now.stages ≡ set old.shown.core.now.stages a Fetched =
    ap (λ (p : Present). p.stages) two.now ∙ ap (λ (p : Present). set p.stages a Fetched) one.now ∙ set-set old.shown.core.now.stages a Begun Fetched in
    record {
      gone = record {
        work = two.gone.work ∙ one.gone.work;
        keeps = two.gone.keeps ∙ one.gone.keeps;
        journal = two.gone.journal ∙ ap (λ (js : List Move). js ++ Read a ∷ []) one.gone.journal ∙ append_assoc old.shown.journal (Begin a ∷ []) (Read a ∷ []);
      };
      plan = plan;
      counts = ap (λ (p : Present). p.counts) two.now ∙ ap (λ (p : Present). p.counts) one.now;
      stages = stages;
      opens = ap (λ (p : Present). p.opens) two.now ∙ ap (λ (p : Present). p.opens) one.now;
      buffer = buffer ∙ ap (λ (rs : List (List ℤ)). length (get_or rs a [])) same;
      tokens = tokens;
      there = (let e = ap (λ (u : Plan). length u.sources) plan in omega arith);
      has_read = ap (λ (xs : List Stage). get_or xs a Idle) stages ∙ get_or-set_same old.shown.core.now.stages a Fetched Idle (omega arith);
    }

-- the moves that end a firing
pub may_write : (f : FloorView) (reads : List (List ℤ)) (a : ℕ) (v : List ℤ) → IsBook f reads → a < length f.core.plan.sources → stage f.core.now a ≡ Fetched
    → v ≡ value (program f.work) a (count f.core.now a) (get_or (reads_of (program f.work) f.journal) a []) → refusal f.core.plan f.core.now (Write a v) ≡ None
may_write f reads a v b there at is =
    let w : Program = program f.work in
    let k : ℕ = count f.core.now a in
    writes_free f.core.plan f.core.now a v there at
    (ap length is ∙ length_value w a k (get_or (reads_of w f.journal) a []) ∙ ap (λ (u : Plan). gift a k u.channels) (sym b.kept.plan))

pub may_finish : (plan plan2 : Plan) (p p2 : Present) (a : ℕ) (v : List ℤ) → length p.stages ≡ length plan.sources → a < length plan.sources → plan2 ≡ plan
    → p2 ≡ next plan p (Write a v) → refusal plan2 p2 (Finish a) ≡ None
may_finish plan plan2 p p2 a v len there same now =
    let at : stage p2 a ≡ Written = ap (λ (q : Present). stage q a) now ∙ get_or-set_same p.stages a Written Idle (omega arith) in
    finishes_free plan2 p2 a (let e = ap (λ (u : Plan). length u.sources) same in omega arith) at

pub has_given : (old mid new : BookView) (a : ℕ) (v : List ℤ) → length old.shown.core.now.stages ≡ length old.shown.core.plan.sources
    → a < length old.shown.core.plan.sources → IsNext old mid (Write a v) → IsNext mid new (Finish a)
    → HasGiven old new a v
has_given old mid new a v len there one two =
    let stages : new.shown.core.now.stages ≡ set old.shown.core.now.stages a Idle =
    ap (λ (p : Present). p.stages) two.now ∙ ap (λ (p : Present). set p.stages a Idle) one.now ∙ set-set old.shown.core.now.stages a Written Idle in
    record {
      gone = record {
        work = two.gone.work ∙ one.gone.work;
        keeps = two.gone.keeps ∙ one.gone.keeps;
        journal = two.gone.journal ∙ ap (λ (js : List Move). js ++ Finish a ∷ []) one.gone.journal
            ∙ append_assoc old.shown.journal (Write a v ∷ []) (Finish a ∷ []);
      };
      room = (let r = one.room in let q = two.room in omega arith);
      plan = two.plan ∙ one.plan;
      counts = ap (λ (p : Present). p.counts) two.now ∙ ap (λ (p : Present). set p.counts a (suc (count p a))) one.now;
      stages = stages;
      opens = ap (λ (p : Present). p.opens) two.now ∙ ap (λ (p : Present). p.opens) one.now;
      idle = ap (λ (xs : List Stage). get_or xs a Idle) stages ∙ get_or-set_same old.shown.core.now.stages a Idle Idle (omega arith);
    }

-- what is in the buffer after a read
pub fetch_tokens : {keeps : Bool} → (w : Work) (core nxt : View) (moves moves2 : List Move) (sinks sinks2 : List (List ℤ)) (buffers : List (Vec ℤ))
    (buffer : Vec ℤ) (a : ℕ)
    → refusal core.plan core.now (Read a) ≡ None
    → IsBook (floor_of keeps w core moves sinks) (feeds_in buffers) → Follows core nxt (Read a) (Ok buffer.items) → moves2 ≡ moves ++ Read a ∷ []
    → sinks2 ≡ sinks_after w sinks a buffer.items
    → get_or (feeds_in (set buffers a buffer)) a [] ≡ get_or (reads_of (program w) moves2) a []
fetch_tokens {keeps = keeps} w core nxt moves moves2 sinks sinks2 buffers buffer a none b f is took =
    let whole = book_fetch {keeps2 = keeps} w core nxt moves moves2 sinks sinks2 buffers buffer a none b f is took in
    let there = read_there core.plan core.now a none in
    let len = staged (floor_of keeps w core moves sinks) (feeds_in buffers) b in
    let at : stage nxt.now a ≡ Fetched =
    ap (λ (p : Present). stage p a) (now_next (program w) core nxt moves (Read a) buffer.items b.kept f)
    ∙ get_or-set_same core.now.stages a Fetched Idle (omega arith) in
    whole.last_reads a (let e = ap (λ (u : Plan). length u.sources) f.plan in omega arith) at

pub fetch_length : (buffers : List (Vec ℤ)) (old new : Vec ℤ) (a : ℕ) → a < length buffers → old ≡ get_or buffers a old → length new.items ≡ length old.items
    → length (get_or (feeds_in (set buffers a new)) a []) ≡ length (get_or (feeds_in buffers) a [])
fetch_length buffers old new a lt is same =
    let long = length-set buffers a new in
    ap length (sym (item_at (set buffers a new) a new (omega arith) (sym (get_or-set_same buffers a new new lt)))) ∙ same
    ∙ ap length (item_at buffers a old lt is)

pub counted : (f : FloorView) (reads : List (List ℤ)) → IsBook f reads → length f.core.now.counts ≡ length f.core.plan.sources
counted f reads b =
    ap (λ (p : Present). length p.counts) b.kept.shows.same
    ∙ (faithful_end (program f.work) f.journal b.kept.honest).booked.counted
    ∙ ap (λ (u : Plan). length u.sources) (sym b.kept.plan)
