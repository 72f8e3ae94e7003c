-- What an actor's next firings read and write after one honest journal they read and write after any other.
use Rattle.std.proofs.Common.{◌≡◌, ℕ, zero, suc, ◌<◌, List, [], ◌∷◌, ◌++◌, length, get_or, take, drop, refl, ap, ap₂, sym, subst}
use Rattle.std.proofs.Common.{◌∙◌, arith, None}
use Rattle.std.specs.Prelude.{ℤ}
use Rattle.std.proofs.Math.Seq.{take-append_seam, drop-append_seam}
use Rattle.std.proofs.lemmas.List.{get_or-set_same}
use Rattle.csdf_core.specs.declared.stage.Stage.TheVariants.{Idle, Begun}
use Rattle.csdf_core.specs.Blocks.{AreAccepted, firings_of, parts_of, reads_among}
use Rattle.csdf_core.specs.Going.{begun_at}
use Rattle.csdf_core.specs.Moves.{Move}
use Rattle.csdf_core.specs.Moves.{Begin, Read, Write, Finish}
use Rattle.csdf_core.specs.Next.{next}
use Rattle.csdf_core.specs.Plan.{Channel}
use Rattle.csdf_core.specs.Playable.{IsPlayable}
use Rattle.csdf_core.specs.Rows.{need, gift}
use Rattle.csdf_core.specs.State.{Present, State, opening, present}
use Rattle.csdf_core.specs.Step.{answer, count, refusal, stage}
use Rattle.csdf_core.proofs.FiringCounts.{begun, got, got_at, put}
use Rattle.csdf_core.proofs.FitLemmas.{reached_all}
use Rattle.csdf_core.proofs.Kept.{begins}
use Rattle.csdf_core.proofs.Next.{present_accepted}
use Rattle.csdf_core.proofs.Opening.{reached_opening}
use Rattle.csdf_floor.specs.Journal.{IsHonest, IsJust, Program, no_reads, reads_of, state_of, value}
use Rattle.csdf_floor.specs.Making.{made_value}
use Rattle.csdf_floor.proofs.Agreement.{AreAgreed, agreed_from, agreed_opening, agreed_sym, inputs_agree}
use Rattle.csdf_floor.proofs.Bounds.{after_is, faithful_end}
use Rattle.csdf_floor.proofs.Faithful.{faithful_opening}
use Rattle.csdf_floor.proofs.Journals.{goes_on, reads_own, reads_push, state_push}
use Rattle.csdf_floor.proofs.Places.{inputs_at, taken_is}
use Rattle.csdf_floor.proofs.Sequential.{length_value}

module _ (w : Program) (playable : IsPlayable w.plan) (a : ℕ) where
  abbrev cs : List Channel
  cs = w.plan.channels

  -- what is present after a journal, and how many firings the actor has finished then
  abbrev at : List Move → Present
  at journal = present (state_of w journal)

  -- one more honest move
  more : (journal : List Move) (m : Move) → IsHonest w journal → refusal w.plan (at journal) m ≡ None → IsJust w (state_of w journal) (reads_of w journal) m
      → IsHonest w (journal ++ m ∷ [])
  more journal m honest none just = goes_on w journal m honest (record { accepted = none; just = just })

  now_more : (journal : List Move) (m : Move) → refusal w.plan (at journal) m ≡ None → at (journal ++ m ∷ []) ≡ next w.plan (at journal) m
  now_more journal m none =
      ap present (state_push w.plan (opening w.plan) journal m ∙ after_is w.plan (state_of w journal) m none)
      ∙ present_accepted w.plan (state_of w journal) m (reached_all w.plan (opening w.plan) journal (reached_opening w.plan playable)).lawful

  -- a firing that both journals have begun reads the same
  same_answer : (one two : List Move) (k : ℕ) → IsHonest w one → IsHonest w two → stage (at one) a ≡ Begun → stage (at two) a ≡ Begun
      → count (at one) a ≡ k → count (at two) a ≡ k → answer w.plan (at one) (Read a) ≡ answer w.plan (at two) (Read a)
  same_answer one two k h1 h2 b1 b2 n1 n2 =
      let s : State = state_of w one in
      let t : State = state_of w two in
      let f = faithful_end w one h1 in
      let g = faithful_end w two h2 in
      let same : AreAgreed s.streams t.streams =
      agreed_from w (opening w.plan) t (no_reads w.plan) (reads_of w two) one (faithful_opening w) g h1
      (agreed_sym t.streams (opening w.plan).streams (agreed_opening w two h2)) in
      let first : answer w.plan (present s) (Read a) ≡ inputs_at a (count (present s) a) cs s.streams =
      taken_is (put s.counts s.stages) (got s.counts s.stages) (begun s.counts s.stages) a (count (present s) a) cs s.streams
      (ap (λ x. got_at x (get_or s.counts a 0)) b1) f.booked.tallied in
      let second : answer w.plan (present t) (Read a) ≡ inputs_at a (count (present t) a) cs t.streams =
      taken_is (put t.counts t.stages) (got t.counts t.stages) (begun t.counts t.stages) a (count (present t) a) cs t.streams
      (ap (λ x. got_at x (get_or t.counts a 0)) b2) g.booked.tallied in
      let begun1 : begun s.counts s.stages a ≡ suc k = ap (λ x. begun_at x (get_or s.counts a 0)) b1 ∙ ap suc n1 in
      let begun2 : begun t.counts t.stages a ≡ suc k = ap (λ x. begun_at x (get_or t.counts a 0)) b2 ∙ ap suc n2 in
      first
      ∙ ap (λ (i : ℕ). inputs_at a i cs s.streams) n1
      ∙ inputs_agree (put s.counts s.stages) (got s.counts s.stages) (begun s.counts s.stages) (put t.counts t.stages) (got t.counts t.stages)
      (begun t.counts t.stages) a k cs s.streams t.streams f.booked.streamed g.booked.streamed (omega (arith, begun1)) (omega (arith, begun2)) f.booked.tallied
      g.booked.tallied same
      ∙ ap (λ (i : ℕ). inputs_at a i cs t.streams) (sym n2)
      ∙ sym second

  -- the actor has begun its firing
  record HasBegun (journal : List Move) : Type 0 where
    there : a < length w.plan.sources
    honest : IsHonest w (journal ++ Begin a ∷ [])
    now : at (journal ++ Begin a ∷ []) ≡ next w.plan (at journal) (Begin a)
    stands : stage (at (journal ++ Begin a ∷ [])) a ≡ Begun
    number : count (at (journal ++ Begin a ∷ [])) a ≡ count (at journal) a

  has_begun : (journal : List Move) → IsHonest w journal → refusal w.plan (at journal) (Begin a) ≡ None → HasBegun journal
  has_begun journal honest none =
      let there = (begins w.plan (at journal) a none).there in
      let staged = (faithful_end w journal honest).booked.staged in
      let now : at (journal ++ Begin a ∷ []) ≡ next w.plan (at journal) (Begin a) = now_more journal (Begin a) none in
      record {
        there = there;
        honest = more journal (Begin a) honest none tt;
        now = now;
        stands = ap (λ (q : Present). stage q a) now ∙ get_or-set_same (at journal).stages a Begun Idle (omega (arith, staged, there));
        number = ap (λ (q : Present). count q a) now;
      }

  -- it has made it whole
  abbrev with_firing : List Move → List ℤ → List Move
  with_firing journal v = (((journal ++ Begin a ∷ []) ++ Read a ∷ []) ++ Write a v ∷ []) ++ Finish a ∷ []

  record HasFired (journal : List Move) (v : List ℤ) : Type 0 where
    honest : IsHonest w (with_firing journal v)
    now : at (with_firing journal v) ≡ next w.plan (next w.plan (next w.plan (next w.plan (at journal) (Begin a)) (Read a)) (Write a v)) (Finish a)
    number : count (at (with_firing journal v)) a ≡ suc (count (at journal) a)

  has_fired : (journal : List Move) (v : List ℤ) (rest : List Move) → IsHonest w journal → (b : HasBegun journal)
      → AreAccepted w.plan (at journal) (Begin a ∷ Read a ∷ Write a v ∷ Finish a ∷ rest)
      → v ≡ value w a (count (at journal) a) (answer w.plan (next w.plan (at journal) (Begin a)) (Read a)) → HasFired journal v
  has_fired journal v rest honest b acc is =
      let j1 : List Move = journal ++ Begin a ∷ [] in
      let j2 : List Move = j1 ++ Read a ∷ [] in
      let j3 : List Move = j2 ++ Write a v ∷ [] in
      let p1 : Present = next w.plan (at journal) (Begin a) in
      let p2 : Present = next w.plan p1 (Read a) in
      let p3 : Present = next w.plan p2 (Write a v) in
      let none2 : refusal w.plan (at j1) (Read a) ≡ None = subst (λ (q : Present). refusal w.plan q (Read a) ≡ None) (sym b.now) acc.1.0 in
      let now2 : at j2 ≡ p2 = now_more j1 (Read a) none2 ∙ ap (λ (q : Present). next w.plan q (Read a)) b.now in
      let h2 : IsHonest w j2 = more j1 (Read a) b.honest none2 tt in
      let none3 : refusal w.plan (at j2) (Write a v) ≡ None = subst (λ (q : Present). refusal w.plan q (Write a v) ≡ None) (sym now2) acc.1.1.0 in
      let now3 : at j3 ≡ p3 = now_more j2 (Write a v) none3 ∙ ap (λ (q : Present). next w.plan q (Write a v)) now2 in
      let each = (faithful_end w j1 b.honest).each in
      let there = b.there in
      let last : get_or (reads_of w j2) a [] ≡ answer w.plan p1 (Read a) =
      ap (λ (rs : List (List ℤ)). get_or rs a []) (reads_push w.plan (opening w.plan) (no_reads w.plan) j1 (Read a))
      ∙ reads_own w.plan (state_of w j1) (reads_of w j1) a (omega (arith, each, there))
      ∙ ap (λ (q : Present). answer w.plan q (Read a)) b.now in
      let just : IsJust w (state_of w j2) (reads_of w j2) (Write a v) =
      is ∙ ap₂ (value w a) (sym (ap (λ (q : Present). count q a) now2)) (sym last) in
      let h3 : IsHonest w j3 = more j2 (Write a v) h2 none3 just in
      let none4 : refusal w.plan (at j3) (Finish a) ≡ None = subst (λ (q : Present). refusal w.plan q (Finish a) ≡ None) (sym now3) acc.1.1.1.0 in
      let now4 : at (with_firing journal v) ≡ next w.plan p3 (Finish a) = now_more j3 (Finish a) none4 ∙ ap (λ (q : Present). next w.plan q (Finish a)) now3 in
      let counted = (faithful_end w journal honest).booked.counted in
      record {
        honest = more j3 (Finish a) h3 none4 tt;
        now = now4;
        number = ap (λ (q : Present). count q a) now4
            ∙ get_or-set_same (at journal).counts a (suc (count (at journal) a)) 0 (omega (arith, counted, there));
      }

  -- n firings, which write the kernel's values of what they read after the first journal, read the same after the second
  pub read_again : (n k : ℕ) (v tokens : List ℤ) (one two : List Move) → IsHonest w one → IsHonest w two → count (at one) a ≡ k → count (at two) a ≡ k
      → AreAccepted w.plan (at one) (firings_of cs a k n v) → AreAccepted w.plan (at two) (firings_of cs a k n v) → v ≡ made_value w a k n tokens
      → reads_among w.plan (at one) (firings_of cs a k n v) ≡ parts_of cs a k n tokens
      → reads_among w.plan (at two) (firings_of cs a k n v) ≡ parts_of cs a k n tokens
  read_again zero k v tokens one two h1 h2 n1 n2 acc1 acc2 is read = refl
  read_again (suc n) k v tokens one two h1 h2 n1 n2 acc1 acc2 is read =
      let g : ℕ = gift a k cs in
      let r : ℕ = need a k cs in
      let x : List ℤ = take g v in
      let rest : List ℤ = drop g v in
      let part : List ℤ = take r tokens in
      let later : List ℤ = drop r tokens in
      let y : List ℤ = value w a k part in
      let ys : List ℤ = made_value w a (suc k) n later in
      let size : length y ≡ g = length_value w a k part in
      let front : x ≡ y = ap (take g) is ∙ ap (λ (i : ℕ). take i (y ++ ys)) (sym size) ∙ take-append_seam y ys in
      let back : rest ≡ ys = ap (drop g) is ∙ ap (λ (i : ℕ). drop i (y ++ ys)) (sym size) ∙ drop-append_seam y ys in
      let b1 : HasBegun one = has_begun one h1 acc1.0 in
      let b2 : HasBegun two = has_begun two h2 acc2.0 in
      let t1 : List ℤ = answer w.plan (next w.plan (at one) (Begin a)) (Read a) in
      let t2 : List ℤ = answer w.plan (next w.plan (at two) (Begin a)) (Read a) in
      let first : t1 ≡ part = ap (λ (l : List (List ℤ)). get_or l 0 []) read in
      let same : t2 ≡ t1 =
      sym (ap (λ (q : Present). answer w.plan q (Read a)) b2.now)
      ∙ same_answer (two ++ Begin a ∷ []) (one ++ Begin a ∷ []) k b2.honest b1.honest b2.stands b1.stands (b2.number ∙ n2) (b1.number ∙ n1)
      ∙ ap (λ (q : Present). answer w.plan q (Read a)) b1.now in
      let f1 : HasFired one x = has_fired one x (firings_of cs a (suc k) n rest) h1 b1 acc1 (front ∙ ap₂ (value w a) (sym n1) (sym first)) in
      let f2 : HasFired two x = has_fired two x (firings_of cs a (suc k) n rest) h2 b2 acc2 (front ∙ ap₂ (value w a) (sym n2) (sym (same ∙ first))) in
      let ms : List Move = firings_of cs a (suc k) n rest in
      let tail : reads_among w.plan (at (with_firing one x)) ms ≡ parts_of cs a (suc k) n later =
      ap (λ (q : Present). reads_among w.plan q ms) f1.now ∙ ap (drop 1) read in
      let ih : reads_among w.plan (at (with_firing two x)) ms ≡ parts_of cs a (suc k) n later =
      read_again n (suc k) rest later (with_firing one x) (with_firing two x) f1.honest f2.honest (f1.number ∙ ap suc n1) (f2.number ∙ ap suc n2)
      (subst (λ (q : Present). AreAccepted w.plan q ms) (sym f1.now) acc1.1.1.1.1) (subst (λ (q : Present). AreAccepted w.plan q ms) (sym f2.now) acc2.1.1.1.1)
      back tail in
      ap₂ (λ (z : List ℤ) (zs : List (List ℤ)). z ∷ zs) (same ∙ first) (sym (ap (λ (q : Present). reads_among w.plan q ms) f2.now) ∙ ih)
