-- Two runs have the same token at every place of a channel that both have written.
use Rattle.std.proofs.Common.{◌≡◌, ℕ, zero, suc, ◌+◌, ◌<◌, ◌≤◌, inl, inr, List, [], ◌∷◌, ◌++◌, length, take, drop, get_or, map, refl, ap, sym, subst, ◌∙◌}
use Rattle.std.proofs.Common.{arith, append-nil, take-add, Bool, true, false, cond, filter, ◌==◌}
use Rattle.std.specs.Prelude.{ℤ, pos, sum_by, slice_range}
use Rattle.std.specs.List.{zip, AllByRecursion, AllZip}
use Rattle.std.proofs.lemmas.List.{take-append-le, take-take, take_all, drop-take, length-take-le, get_or-take, length-map}
use Rattle.std.proofs.lemmas.List.Sums.{sum_by-cons}
use Rattle.std.proofs.lemmas.Bool.Decides.{eqb_tells}
use Rattle.csdf_model.specs.Rates.{rate, total}
use Rattle.csdf_model.specs.declared.parts.Kernel.{Kernel}
use Rattle.csdf_model.specs.declared.parts.Kernel.TheVariants.{Sink}
use Rattle.csdf_analysis.proofs.CountLemmas.{total_mono, less_or_not}
use Rattle.csdf_core.specs.declared.stage.Stage.TheVariants.{Idle, Fetched}
use Rattle.csdf_core.specs.Moves.{Move}
use Rattle.csdf_core.specs.Moves.{Begin, Read, Write, Finish, Close}
use Rattle.csdf_core.specs.Plan.{Channel, takes_of, gives_of}
use Rattle.csdf_core.specs.Rows.{shares}
use Rattle.csdf_core.specs.State.{Stream, State, present, opening}
use Rattle.csdf_core.specs.Step.{count, stage, given, is_source, accepted, after, state_after}
use Rattle.csdf_core.specs.Streams.{part}
use Rattle.csdf_core.proofs.Kept.{writes}
use Rattle.csdf_core.proofs.Flows.{drained, filled}
use Rattle.csdf_floor.specs.Journal.{Program, value, inputs, output_counts, reads_after, no_reads, IsHonestMove, IsHonestFrom, IsHonest, reads_of, state_of}
use Rattle.csdf_kernel.specs.Value.{value_of}
use Rattle.csdf_core.specs.Going.{begun_at}
use Rattle.csdf_floor.specs.Laws.{DifferInCapacity, AreAlike, Agree, written_in}
use Rattle.csdf_core.specs.Going.{CanGo}
use Rattle.csdf_floor.specs.Sequential.{fired, IsSequentialFrom, state_from}
use Rattle.csdf_core.proofs.FiringCounts.{put_at, put, got, begun, put_begun}
use Rattle.csdf_core.proofs.Tallies.{AreTallied, takes_own, takes_none, gives_own, gives_none}
use Rattle.csdf_floor.proofs.Places.{inputs_at, outputs_at}
use Rattle.csdf_floor.proofs.Faithful.{IsFaithful, faithful_opening}
use Rattle.csdf_floor.proofs.Bounds.{after_is, faithful_after, faithful_end}
use Rattle.csdf_floor.proofs.Sequential.{kept_by, IsAtRest, rest_fired, goes, after_read}

-- ---- one channel

-- as far as both go they are one
abbrev pub IsAgreed : List ℤ → List ℤ → Type 0
IsAgreed x y = (n : ℕ) → n ≤ length x → n ≤ length y → take n x ≡ take n y

pub agreed_part : (x y : List ℤ) (p n : ℕ) → IsAgreed x y → p + n ≤ length x → p + n ≤ length y → take n (drop p x) ≡ take n (drop p y)
agreed_part x y p n same lex ley = sym (drop-take p n x) ∙ ap (drop p) (same (p + n) lex ley) ∙ drop-take p n y

-- x goes on as y does
agreed_more : (x y : List ℤ) (q g : ℕ) → IsAgreed x y → length x ≡ q → q + g ≤ length y → IsAgreed (x ++ take g (drop q y)) y
agreed_more x y q g same len le n lex ley =
    let front : x ≡ take q y = sym (take_all q x (omega arith)) ∙ same q (omega arith) (omega arith) in
    let whole : x ++ take g (drop q y) ≡ take (q + g) y = ap (λ (z : List ℤ). z ++ take g (drop q y)) front ∙ sym (take-add q g y) in
    let few : length (x ++ take g (drop q y)) ≡ q + g = ap length whole ∙ length-take-le (q + g) y le in
    ap (take n) whole ∙ take-take n (q + g) y (omega arith)

-- x goes past y
agreed_past : (x u y : List ℤ) → IsAgreed x y → length y ≤ length x → IsAgreed (x ++ u) y
agreed_past x u y same le n lex ley = take-append-le n x u (omega arith) ∙ same n (omega arith) ley

-- x stays
agreed_none : (x u y : List ℤ) → IsAgreed x y → u ≡ [] → IsAgreed (x ++ u) y
agreed_none x u y same e = subst (λ (z : List ℤ). IsAgreed z y) (sym (ap (λ (z : List ℤ). x ++ z) e ∙ append-nil x)) same

none_taken : (n : ℕ) (v : List ℤ) → n ≡ 0 → take n v ≡ []
none_taken n v e = ap (λ m. take m v) e

-- ---- all channels

abbrev pub AreAgreed : List Stream → List Stream → Type 0
AreAgreed xs ys = AllByRecursion (λ (pair : Stream × Stream). IsAgreed pair.0.written pair.1.written) (zip xs ys)

pub agreed_self : (xs : List Stream) → AreAgreed xs xs
agreed_self [] = tt
agreed_self (x ∷ xs) = ((λ n a b. refl), agreed_self xs)

pub agreed_sym : (xs ys : List Stream) → AreAgreed xs ys → AreAgreed ys xs
agreed_sym [] [] same = tt
agreed_sym [] (y ∷ ys) same = tt
agreed_sym (x ∷ xs) [] same = tt
agreed_sym (x ∷ xs) (y ∷ ys) same = ((λ n a b. sym (same.0 n b a)), agreed_sym xs ys same.1)

pub agreed-drained : (a k : ℕ) (cs : List Channel) (xs ys : List Stream) → AreAgreed xs ys → AreAgreed (drained a k cs xs) ys
agreed-drained a k [] xs ys same = tt
agreed-drained a k (c ∷ cs) [] ys same = tt
agreed-drained a k (c ∷ cs) (x ∷ xs) [] same = tt
agreed-drained a k (c ∷ cs) (x ∷ xs) (y ∷ ys) same = (same.0, agreed-drained a k cs xs ys same.1)

-- a firing that both have begun has the same inputs in both
pub inputs_agree : (p1 g1 b1 p2 g2 b2 : ℕ → ℕ) (a k : ℕ) (cs : List Channel) (xs ys : List Stream) → length xs ≡ length cs → length ys ≡ length cs
    → suc k ≤ b1 a → suc k ≤ b2 a
    → AreTallied p1 g1 b1 cs xs → AreTallied p2 g2 b2 cs ys → AreAgreed xs ys → inputs_at a k cs xs ≡ inputs_at a k cs ys
inputs_agree p1 g1 b1 p2 g2 b2 a k [] xs ys l1 l2 le1 le2 t1 t2 same = refl
inputs_agree p1 g1 b1 p2 g2 b2 a k (c ∷ cs) [] ys l1 l2 le1 le2 t1 t2 same = absurd (omega arith)
inputs_agree p1 g1 b1 p2 g2 b2 a k (c ∷ cs) (x ∷ xs) [] l1 l2 le1 le2 t1 t2 same = absurd (omega arith)
inputs_agree p1 g1 b1 p2 g2 b2 a k (c ∷ cs) (x ∷ xs) (y ∷ ys) l1 l2 le1 le2 t1 t2 same =
    let rest : inputs_at a k cs xs ≡ inputs_at a k cs ys = inputs_agree p1 g1 b1 p2 g2 b2 a k cs xs ys (omega arith) (omega arith) le1 le2 t1.1 t2.1 same.1 in
    let n : ℕ = takes_of a k c in
    let p : ℕ = total c.consume k in
    let here : take n (drop p x.written) ≡ take n (drop p y.written) = elim (eqb_tells c.to a) [
      | inl e ↦
          let takes = takes_own a k c e.1 in
          let last : total c.consume (suc k) ≡ total c.consume k + rate c.consume k = refl in
          let some1 : total c.consume (suc k) ≤ total c.consume (b1 c.to) = total_mono c.consume (suc k) (b1 c.to) (let q = ap b1 e.1 in omega arith) in
          let some2 : total c.consume (suc k) ≤ total c.consume (b2 c.to) = total_mono c.consume (suc k) (b2 c.to) (let q = ap b2 e.1 in omega arith) in
          let covered1 = t1.0.covered in
          let covered2 = t2.0.covered in
          agreed_part x.written y.written p n same.0 (omega arith) (omega arith)
      | inr e ↦ let none = takes_none a k c e.1 in none_taken n (drop p x.written) none ∙ sym (none_taken n (drop p y.written) none)
    ] in
    ap (λ (z : List ℤ). z ++ inputs_at a k cs xs) here ∙ ap (λ (z : List ℤ). take n (drop p y.written) ++ z) rest

-- a firing that the other has written
agreed_same : (p1 g1 b1 p2 g2 b2 : ℕ → ℕ) (a k : ℕ) (cs : List Channel) (xs ys : List Stream) → length xs ≡ length cs → length ys ≡ length cs → p1 a ≡ k
    → suc k ≤ p2 a
    → AreTallied p1 g1 b1 cs xs → AreTallied p2 g2 b2 cs ys → AreAgreed xs ys → AreAgreed (filled xs (outputs_at a k cs ys)) ys
agreed_same p1 g1 b1 p2 g2 b2 a k [] [] ys l1 l2 at le t1 t2 same = tt
agreed_same p1 g1 b1 p2 g2 b2 a k [] (x ∷ xs) ys l1 l2 at le t1 t2 same = absurd (omega arith)
agreed_same p1 g1 b1 p2 g2 b2 a k (c ∷ cs) [] ys l1 l2 at le t1 t2 same = absurd (omega arith)
agreed_same p1 g1 b1 p2 g2 b2 a k (c ∷ cs) (x ∷ xs) [] l1 l2 at le t1 t2 same = absurd (omega arith)
agreed_same p1 g1 b1 p2 g2 b2 a k (c ∷ cs) (x ∷ xs) (y ∷ ys) l1 l2 at le t1 t2 same = (
  elim (eqb_tells c.from a) [
    | inl e ↦
        let gives = gives_own a k c e.1 in
        let last : total c.produce (suc k) ≡ total c.produce k + rate c.produce k = refl in
        let here : length x.written ≡ length c.initial + total c.produce k = t1.0.written ∙ ap (λ m. length c.initial + total c.produce m) (ap p1 e.1 ∙ at) in
        let some : total c.produce (suc k) ≤ total c.produce (p2 c.from) = total_mono c.produce (suc k) (p2 c.from) (let q = ap p2 e.1 in omega arith) in
        let there = t2.0.written in
        agreed_more x.written y.written (length c.initial + total c.produce k) (gives_of a k c) same.0 here (omega arith)
    | inr e ↦ agreed_none x.written (take (gives_of a k c) (drop (length c.initial + total c.produce k) y.written)) y.written same.0
        (none_taken (gives_of a k c) (drop (length c.initial + total c.produce k) y.written) (gives_none a k c e.1))
  ],
  agreed_same p1 g1 b1 p2 g2 b2 a k cs xs ys (omega arith) (omega arith) at le t1.1 t2.1 same.1,
)

-- one that it has not
agreed_new : (p1 g1 b1 p2 g2 b2 : ℕ → ℕ) (a k : ℕ) (v : List ℤ) (cs : List Channel) (xs ys : List Stream) → length xs ≡ length cs → length ys ≡ length cs
    → p1 a ≡ k → p2 a ≤ k
    → AreTallied p1 g1 b1 cs xs → AreTallied p2 g2 b2 cs ys → AreAgreed xs ys → AreAgreed (filled xs (shares a k cs v)) ys
agreed_new p1 g1 b1 p2 g2 b2 a k v [] [] ys l1 l2 at le t1 t2 same = tt
agreed_new p1 g1 b1 p2 g2 b2 a k v [] (x ∷ xs) ys l1 l2 at le t1 t2 same = absurd (omega arith)
agreed_new p1 g1 b1 p2 g2 b2 a k v (c ∷ cs) [] ys l1 l2 at le t1 t2 same = absurd (omega arith)
agreed_new p1 g1 b1 p2 g2 b2 a k v (c ∷ cs) (x ∷ xs) [] l1 l2 at le t1 t2 same = absurd (omega arith)
agreed_new p1 g1 b1 p2 g2 b2 a k v (c ∷ cs) (x ∷ xs) (y ∷ ys) l1 l2 at le t1 t2 same = (
  elim (eqb_tells c.from a) [
    | inl e ↦
        let here : length x.written ≡ length c.initial + total c.produce k = t1.0.written ∙ ap (λ m. length c.initial + total c.produce m) (ap p1 e.1 ∙ at) in
        let few : total c.produce (p2 c.from) ≤ total c.produce k = total_mono c.produce (p2 c.from) k (let q = ap p2 e.1 in omega arith) in
        let there = t2.0.written in
        agreed_past x.written (take (gives_of a k c) v) y.written same.0 (omega arith)
    | inr e ↦ agreed_none x.written (take (gives_of a k c) v) y.written same.0 (none_taken (gives_of a k c) v (gives_none a k c e.1))
  ],
  agreed_new p1 g1 b1 p2 g2 b2 a k (drop (gives_of a k c) v) cs xs ys (omega arith) (omega arith) at le t1.1 t2.1 same.1,
)

-- ---- moves

-- t has the kernels' values, and stays; s writes one more
pub agreed_written : (w : Program) (s t : State) (kept held : List (List ℤ)) (a : ℕ) → IsFaithful w s kept → IsFaithful w t held → stage (present s) a ≡ Fetched
    → AreAgreed s.streams t.streams
    → AreAgreed (filled s.streams (shares a (count (present s) a) w.plan.channels (value w a (count (present s) a) (get_or kept a [])))) t.streams
agreed_written w s t kept held a fs ft at same =
    let cs : List Channel = w.plan.channels in
    let k : ℕ = count (present s) a in
    let bs = fs.booked in
    let bt = ft.booked in
    let p1 : ℕ → ℕ = put s.counts s.stages in
    let p2 : ℕ → ℕ = put t.counts t.stages in
    let puts : p1 a ≡ k = ap (λ x. put_at x (get_or s.counts a 0)) at in
    let begins : begun s.counts s.stages a ≡ suc k = ap (λ x. begun_at x (get_or s.counts a 0)) at in
    elim (less_or_not k (p2 a)) [
      | inl less ↦
          let under = put_begun (get_or t.stages a Idle) (get_or t.counts a 0) in
          let read : get_or kept a [] ≡ inputs_at a k cs t.streams =
          fs.keeps a at ∙ inputs_agree p1 (got s.counts s.stages) (begun s.counts s.stages) p2 (got t.counts t.stages) (begun t.counts t.stages) a k cs
          s.streams t.streams bs.streamed bt.streamed (omega arith) (omega arith) bs.tallied bt.tallied same in
          let there : outputs_at a k cs t.streams ≡ shares a k cs (value w a k (get_or kept a [])) = ft.values a k less
          ∙ ap (λ (z : List ℤ). shares a k cs (value w a k z)) (sym read) in
          subst (λ (parts : List (List ℤ)). AreAgreed (filled s.streams parts) t.streams) there
          (agreed_same p1 (got s.counts s.stages) (begun s.counts s.stages) p2 (got t.counts t.stages) (begun t.counts t.stages) a k cs s.streams t.streams
          bs.streamed bt.streamed puts less bs.tallied bt.tallied same)
      | inr ge ↦
          agreed_new p1 (got s.counts s.stages) (begun s.counts s.stages) p2 (got t.counts t.stages) (begun t.counts t.stages) a k
          (value w a k (get_or kept a [])) cs s.streams t.streams bs.streamed bt.streamed puts ge bs.tallied bt.tallied same
    ]

agreed_honest : (w : Program) (s t : State) (kept held : List (List ℤ)) (m : Move) → IsFaithful w s kept → IsFaithful w t held → IsHonestMove w s kept m
    → AreAgreed s.streams t.streams → AreAgreed (accepted w.plan s m).streams t.streams
agreed_honest w s t kept held (Begin a) fs ft h same = same
agreed_honest w s t kept held (Read a) fs ft h same = agreed-drained a (count (present s) a) w.plan.channels s.streams t.streams same
agreed_honest w s t kept held (Write a v) fs ft h same =
    let r = writes w.plan (present s) a v h.accepted in
    subst (λ (u : List ℤ). AreAgreed (filled s.streams (shares a (count (present s) a) w.plan.channels u)) t.streams) (sym h.just)
    (agreed_written w s t kept held a fs ft r.0.at same)
agreed_honest w s t kept held (Finish a) fs ft h same = same
agreed_honest w s t kept held (Close c) fs ft h same = same

pub agreed_from : (w : Program) (s t : State) (kept held : List (List ℤ)) (ms : List Move) → IsFaithful w s kept → IsFaithful w t held
    → IsHonestFrom w s kept ms → AreAgreed s.streams t.streams → AreAgreed (state_after w.plan s ms).streams t.streams
agreed_from w s t kept held [] fs ft h same = same
agreed_from w s t kept held (m ∷ ms) fs ft h same =
    agreed_from w (after w.plan s m) t (reads_after w.plan s kept m) held ms (faithful_after w s kept m fs h.0) ft h.1
    (subst (λ (u : State). AreAgreed u.streams t.streams) (sym (after_is w.plan s m h.0.accepted)) (agreed_honest w s t kept held m fs ft h.0 same))

-- any honest journal agrees with the opening
pub agreed_opening : (w : Program) (ms : List Move) → IsHonest w ms → AreAgreed (state_after w.plan (opening w.plan) ms).streams (opening w.plan).streams
agreed_opening w ms h = agreed_from w (opening w.plan) (opening w.plan) (no_reads w.plan) (no_reads w.plan) ms (faithful_opening w) (faithful_opening w) h
    (agreed_self (opening w.plan).streams)

-- ---- the sequential run

agreed_fired : (w : Program) (s t : State) (held : List (List ℤ)) (a : ℕ) (r : IsAtRest w s) → IsFaithful w t held → CanGo w.plan (present s) a
    → AreAgreed s.streams t.streams → AreAgreed (fired w s a).streams t.streams
agreed_fired w s t held a r ft can same =
    let g = goes w s r.kept a r.faithful can in
    let k : ℕ = count (present s) a in
    let read : AreAgreed (after_read w s a).streams t.streams = agreed-drained a k w.plan.channels s.streams t.streams same in
    subst (λ (u : List ℤ). AreAgreed (filled (after_read w s a).streams (shares a k w.plan.channels (value w a k u))) t.streams) g.holds
    (agreed_written w (after_read w s a) t (kept_by w s r.kept a) held a g.second ft g.read read)

pub agreed_sequential : (w : Program) (s t : State) (held : List (List ℤ)) (actors : List ℕ) → IsAtRest w s → IsFaithful w t held → IsSequentialFrom w s actors
    → AreAgreed s.streams t.streams → AreAgreed (state_from w s actors).streams t.streams
agreed_sequential w s t held [] r ft p same = same
agreed_sequential w s t held (a ∷ actors) r ft p same =
    agreed_sequential w (fired w s a) t held actors (rest_fired w s a r p.0.can_go) ft p.1 (agreed_fired w s t held a r ft p.0.can_go same)

-- ---- the law

nothing_agreed : (y : List ℤ) → IsAgreed [] y
nothing_agreed y zero a b = refl
nothing_agreed y (suc n) a b = absurd (omega arith)

pub at_channel : (c : ℕ) (xs ys : List Stream) → AreAgreed xs ys
    → IsAgreed (part c (map (λ (st : Stream). st.written) xs)) (part c (map (λ (st : Stream). st.written) ys))
at_channel c [] ys same = nothing_agreed _
at_channel c (x ∷ xs) [] same = λ n a b. sym (nothing_agreed (part c (map (λ (st : Stream). st.written) (x ∷ xs))) n b a)
at_channel zero (x ∷ xs) (y ∷ ys) same = same.0
at_channel (suc c) (x ∷ xs) (y ∷ ys) same = at_channel c xs ys same.1

at_place : (x y : List ℤ) (i : ℕ) (d : ℤ) → IsAgreed x y → i < length x → i < length y → get_or x i d ≡ get_or y i d
at_place x y i d same lx ly =
    let e : take (suc i) x ≡ take (suc i) y = same (suc i) (omega arith) (omega arith) in
    let lt : i < suc i = omega arith in
    sym (get_or-take (suc i) x i d lt) ∙ ap (λ (z : List ℤ). get_or z i d) e ∙ get_or-take (suc i) y i d lt

-- ---- capacities aside

abbrev pub uncapped : Channel → Channel
uncapped c = record { from = c.from; to = c.to; produce = c.produce; consume = c.consume; initial = c.initial; capacity = 0 }

abbrev unbounded : Program → Program
unbounded w = record {
  plan = record {
    sources = w.plan.sources;
    channels = map uncapped w.plan.channels;
    limits = w.plan.limits;
    supplies = w.plan.supplies;
    firings = w.plan.firings;
    cells = w.plan.cells;
  };
  kernels = w.kernels;
  feeds = w.feeds;
}

tallied_to : (p g b : ℕ → ℕ) (cs : List Channel) (sts : List Stream) → AreTallied p g b cs sts → AreTallied p g b (map uncapped cs) sts
tallied_to p g b [] sts t = tt
tallied_to p g b (c ∷ cs) [] t = tt
tallied_to p g b (c ∷ cs) (st ∷ sts) t = (
  record { written = t.0.written; taken = t.0.taken; covered = t.0.covered },
  tallied_to p g b cs sts t.1,
)

tallied_back : (p g b : ℕ → ℕ) (cs : List Channel) (sts : List Stream) → AreTallied p g b (map uncapped cs) sts → AreTallied p g b cs sts
tallied_back p g b [] sts t = tt
tallied_back p g b (c ∷ cs) [] t = tt
tallied_back p g b (c ∷ cs) (st ∷ sts) t = (
  record { written = t.0.written; taken = t.0.taken; covered = t.0.covered },
  tallied_back p g b cs sts t.1,
)

inputs_uncapped : (a k : ℕ) (cs : List Channel) (sts : List Stream) → inputs_at a k (map uncapped cs) sts ≡ inputs_at a k cs sts
inputs_uncapped a k [] sts = refl
inputs_uncapped a k (c ∷ cs) [] = refl
inputs_uncapped a k (c ∷ cs) (st ∷ sts) = ap (λ (z : List ℤ). take (takes_of a k c) (drop (total c.consume k) st.written) ++ z)
    (inputs_uncapped a k cs sts)

outputs_uncapped : (a k : ℕ) (cs : List Channel) (sts : List Stream) → outputs_at a k (map uncapped cs) sts ≡ outputs_at a k cs sts
outputs_uncapped a k [] sts = refl
outputs_uncapped a k (c ∷ cs) [] = refl
outputs_uncapped a k (c ∷ cs) (st ∷ sts) =
    ap (λ (z : List (List ℤ)). take (gives_of a k c) (drop (length c.initial + total c.produce k) st.written) ∷ z) (outputs_uncapped a k cs sts)

shares_uncapped : (a k : ℕ) (cs : List Channel) (v : List ℤ) → shares a k (map uncapped cs) v ≡ shares a k cs v
shares_uncapped a k [] v = refl
shares_uncapped a k (c ∷ cs) v = ap (λ (z : List (List ℤ)). take (gives_of a k c) v ∷ z) (shares_uncapped a k cs (drop (gives_of a k c) v))

counts_if : (b : Bool) (a k : ℕ) (c : Channel) (xs ys : List Channel) → map (gives_of a k) xs ≡ map (gives_of a k) ys
    → map (gives_of a k) (cond b (uncapped c ∷ xs) xs) ≡ map (gives_of a k) (cond b (c ∷ ys) ys)
counts_if true a k c xs ys e = ap (λ (z : List ℕ). gives_of a k c ∷ z) e
counts_if false a k c xs ys e = e

counts_uncapped : (a k : ℕ) (cs : List Channel) → map (gives_of a k) (filter (λ (d : Channel). d.from == a) (map uncapped cs))
    ≡ map (gives_of a k) (filter (λ (d : Channel). d.from == a) cs)
counts_uncapped a k [] = refl
counts_uncapped a k (c ∷ cs) = counts_if (c.from == a) a k c (filter (λ (d : Channel). d.from == a) (map uncapped cs))
    (filter (λ (d : Channel). d.from == a) cs) (counts_uncapped a k cs)

given_sum : (a n : ℕ) (cs : List Channel) → sum_by (λ (c : Channel). cond (c.from == a) (total c.produce n) 0) (map uncapped cs)
    ≡ sum_by (λ (c : Channel). cond (c.from == a) (total c.produce n) 0) cs
given_sum a n [] = refl
given_sum a n (c ∷ cs) =
    let amount : Channel → ℕ = λ (d : Channel). cond (d.from == a) (total d.produce n) 0 in
    sum_by-cons amount (uncapped c) (map uncapped cs) ∙ ap (λ m. amount c + m) (given_sum a n cs) ∙ sym (sum_by-cons amount c cs)

given_uncapped : (w : Program) (a n : ℕ) → given (unbounded w).plan a n ≡ given w.plan a n
unfolding given
given_uncapped w a n = given_sum a n w.plan.channels

inputs_of_uncapped : (w : Program) (a k : ℕ) (read : List ℤ) → inputs (unbounded w) a k read ≡ inputs w a k read
inputs_of_uncapped w a k read =
    ap (λ m. cond (is_source w.plan a) (slice_range (get_or w.feeds a []) m (given (unbounded w).plan a (suc k))) read) (given_uncapped w a k)
    ∙ ap (λ m. cond (is_source w.plan a) (slice_range (get_or w.feeds a []) (given w.plan a k) m) read) (given_uncapped w a (suc k))

value_uncapped : (w : Program) (a k : ℕ) (read : List ℤ) → value (unbounded w) a k read ≡ value w a k read
unfolding value
value_uncapped w a k read =
    ap (λ (z : List ℕ). value_of (get_or w.kernels a Sink) z (inputs (unbounded w) a k read)) (counts_uncapped a k w.plan.channels)
    ∙ ap (value_of (get_or w.kernels a Sink) (output_counts w a k)) (inputs_of_uncapped w a k read)

values_uncapped : (w : Program) (sts : List Stream) (a k : ℕ)
    → shares a k (map uncapped w.plan.channels) (value (unbounded w) a k (inputs_at a k (map uncapped w.plan.channels) sts))
    ≡ shares a k w.plan.channels (value w a k (inputs_at a k w.plan.channels sts))
values_uncapped w sts a k =
    let cs : List Channel = w.plan.channels in
    shares_uncapped a k cs (value (unbounded w) a k (inputs_at a k (map uncapped cs) sts))
    ∙ ap (shares a k cs) (value_uncapped w a k (inputs_at a k (map uncapped cs) sts) ∙ ap (value w a k) (inputs_uncapped a k cs sts))

faithful_to : (w : Program) (s : State) (kept : List (List ℤ)) → IsFaithful w s kept → IsFaithful (unbounded w) s kept
faithful_to w s kept f = record {
  booked = record {
    counted = f.booked.counted;
    staged = f.booked.staged;
    streamed = f.booked.streamed ∙ sym (length-map w.plan.channels uncapped);
    tallied = tallied_to (put s.counts s.stages) (got s.counts s.stages) (begun s.counts s.stages) w.plan.channels s.streams f.booked.tallied;
  };
  each = f.each;
  values = λ a k less. outputs_uncapped a k w.plan.channels s.streams ∙ f.values a k less ∙ sym (values_uncapped w s.streams a k);
  keeps = λ a at. f.keeps a at ∙ sym (inputs_uncapped a (count (present s) a) w.plan.channels s.streams);
}

faithful_back : (w : Program) (s : State) (kept : List (List ℤ)) → IsFaithful (unbounded w) s kept → IsFaithful w s kept
faithful_back w s kept f = record {
  booked = record {
    counted = f.booked.counted;
    staged = f.booked.staged;
    streamed = f.booked.streamed ∙ length-map w.plan.channels uncapped;
    tallied = tallied_back (put s.counts s.stages) (got s.counts s.stages) (begun s.counts s.stages) w.plan.channels s.streams f.booked.tallied;
  };
  each = f.each;
  values = λ a k less. sym (outputs_uncapped a k w.plan.channels s.streams) ∙ f.values a k less ∙ values_uncapped w s.streams a k;
  keeps = λ a at. f.keeps a at ∙ inputs_uncapped a (count (present s) a) w.plan.channels s.streams;
}

-- ---- the same work

channel_of : ℕ → ℕ → List ℕ → List ℕ → List ℤ → Channel
channel_of from to produce consume initial = record { from = from; to = to; produce = produce; consume = consume; initial = initial; capacity = 0 }

same_channel : (c d : Channel) → DifferInCapacity c d → uncapped c ≡ uncapped d
unfolding channel_of
same_channel c d e =
    ap (λ x. channel_of x c.to c.produce c.consume c.initial) e.from
    ∙ ap (λ x. channel_of d.from x c.produce c.consume c.initial) e.to
    ∙ ap (λ (x : List ℕ). channel_of d.from d.to x c.consume c.initial) e.produce
    ∙ ap (λ (x : List ℕ). channel_of d.from d.to d.produce x c.initial) e.consume
    ∙ ap (λ (x : List ℤ). channel_of d.from d.to d.produce d.consume x) e.initial

pub same_channels : (cs ds : List Channel) → AllZip DifferInCapacity cs ds → map uncapped cs ≡ map uncapped ds
same_channels [] [] e = refl
same_channels [] (d ∷ ds) e = absurd e
same_channels (c ∷ cs) [] e = absurd e
same_channels (c ∷ cs) (d ∷ ds) e =
    ap (λ (x : Channel). x ∷ map uncapped cs) (same_channel c d e.0) ∙ ap (λ (xs : List Channel). uncapped d ∷ xs) (same_channels cs ds e.1)

-- as many tokens are given
pub given_alike : (v w : Program) (a n : ℕ) → AllZip DifferInCapacity v.plan.channels w.plan.channels → given v.plan a n ≡ given w.plan a n
unfolding given
given_alike v w a n e =
    let amount : Channel → ℕ = λ (c : Channel). cond (c.from == a) (total c.produce n) 0 in
    sym (given_sum a n v.plan.channels) ∙ ap (sum_by amount) (same_channels v.plan.channels w.plan.channels e) ∙ given_sum a n w.plan.channels

-- what does not tell of capacities holds of a channel like it
pub of_alike : (P : Channel → Type 0) (c d : Channel) → DifferInCapacity c d → P (uncapped c) → P (uncapped d)
of_alike P c d e holds = subst P (same_channel c d e) holds

-- the program w, told by the parts that v shares with it
like : Program → List Bool → List Channel → List Kernel → List (List ℤ) → Program
like w sources channels kernels feeds = record {
  plan = record { sources = sources; channels = channels; limits = w.plan.limits; supplies = w.plan.supplies; firings = w.plan.firings; cells = w.plan.cells };
  kernels = kernels;
  feeds = feeds;
}

is_like : (v w : Program) → AreAlike v w → unbounded w ≡ like w v.plan.sources (map uncapped v.plan.channels) v.kernels v.feeds
unfolding like
is_like v w e =
    ap (λ (x : List Bool). like w x (map uncapped w.plan.channels) w.kernels w.feeds) (sym e.sources)
    ∙ ap (λ (x : List Channel). like w v.plan.sources x w.kernels w.feeds) (sym (same_channels v.plan.channels w.plan.channels e.channels))
    ∙ ap (λ (x : List Kernel). like w v.plan.sources (map uncapped v.plan.channels) x w.feeds) (sym e.kernels)
    ∙ ap (λ (x : List (List ℤ)). like w v.plan.sources (map uncapped v.plan.channels) v.kernels x) (sym e.feeds)

-- what is faithful to the one is to the other
faithful_like : (v w : Program) (s : State) (kept : List (List ℤ))
    → IsFaithful (like w v.plan.sources (map uncapped v.plan.channels) v.kernels v.feeds) s kept → IsFaithful (unbounded v) s kept
unfolding like value given
faithful_like v w s kept f = record {
  booked = (let b = f.booked in record { counted = b.counted; staged = b.staged; streamed = b.streamed; tallied = b.tallied });
  each = f.each;
  values = f.values;
  keeps = f.keeps;
}

pub faithful_alike : (v w : Program) (s : State) (kept : List (List ℤ)) → AreAlike v w → IsFaithful w s kept → IsFaithful v s kept
faithful_alike v w s kept e f =
    faithful_back v s kept (faithful_like v w s kept (subst (λ (u : Program). IsFaithful u s kept) (is_like v w e) (faithful_to w s kept f)))

first_streams : (cs ds : List Channel) → AllZip DifferInCapacity cs ds
    → map {B = Stream} (λ (c : Channel). record { written = c.initial; taken = 0 }) cs
    ≡ map {B = Stream} (λ (c : Channel). record { written = c.initial; taken = 0 }) ds
first_streams [] [] e = refl
first_streams [] (d ∷ ds) e = absurd e
first_streams (c ∷ cs) [] e = absurd e
first_streams (c ∷ cs) (d ∷ ds) e = rw (e.0.initial, first_streams cs ds e.1) refl

same_opening : (v w : Program) → AreAlike v w → (opening v.plan).streams ≡ (opening w.plan).streams
same_opening v w e = first_streams v.plan.channels w.plan.channels e.channels

-- the inputs of an actor's first firings stand in the same channels
pub inputs_alike : (a k : ℕ) (cs ds : List Channel) (sts : List Stream) → AllZip DifferInCapacity cs ds → inputs_at a k cs sts ≡ inputs_at a k ds sts
inputs_alike a k cs ds sts e =
    sym (inputs_uncapped a k cs sts) ∙ ap (λ (xs : List Channel). inputs_at a k xs sts) (same_channels cs ds e) ∙ inputs_uncapped a k ds sts

pub both_agreed : (v w : Program) (one two : List Move) → AreAlike v w → IsHonest v one → IsHonest w two
    → AreAgreed (state_of v one).streams (state_of w two).streams
both_agreed v w one two e h1 h2 =
    let t : State = state_after w.plan (opening w.plan) two in
    let end = faithful_end w two h2 in
    let first : AreAgreed (opening v.plan).streams t.streams =
    subst (λ (xs : List Stream). AreAgreed xs t.streams) (sym (same_opening v w e)) (agreed_sym t.streams (opening w.plan).streams (agreed_opening w two h2)) in
    agreed_from v (opening v.plan) t (no_reads v.plan) (reads_of w two) one (faithful_opening v) (faithful_alike v w t (reads_of w two) e end) h1 first

pub agree : Agree
agree v w one two c i e h1 h2 l1 l2 =
    let s : State = state_after v.plan (opening v.plan) one in
    let t : State = state_after w.plan (opening w.plan) two in
    let both : AreAgreed s.streams t.streams = both_agreed v w one two e h1 h2 in
    at_place (written_in s c) (written_in t c) i (pos 0) (at_channel c s.streams t.streams both) l1 l2
