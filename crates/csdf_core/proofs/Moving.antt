-- What the firing code moves is what the step says.
use Rattle.std.proofs.Common.{◌≡◌, ℕ, ◌+◌, ◌-◌, ◌<◌, ◌≤◌, ◌==◌, List, [], ◌∷◌, ◌++◌, length, take, drop, refl, ap, subst, ◌∙◌, sym, arith, append-nil, None}
use Rattle.std.proofs.Common.{false, cond}
use Rattle.std.specs.Prelude.{ℤ}
use Rattle.std.specs.List.{zip, AllByRecursion}
use Rattle.csdf_model.specs.Rates.{rate}
use Rattle.csdf_core.specs.Moves.{Read}
use Rattle.csdf_core.specs.Plan.{Channel, Plan, gives_of}
use Rattle.csdf_core.specs.Rows.{taken, left, joined, shares, need, gift, AreThere}
use Rattle.csdf_core.specs.State.{Present}
use Rattle.csdf_core.specs.Step.{count, reserved, held, refusal, first_of, write_table}
use Rattle.csdf_core.specs.Ready.{IsFit}
use Rattle.csdf_core.specs.Shows.{ArePeaks, raised}
use Rattle.csdf_core.specs.Ports.{inputs_at, outputs_at, take_at, give_at, takes_over, taken_over, EnoughOver, puts_over, raise_over}
use Rattle.csdf_core.proofs.Kept.{reads, writes}
use Rattle.csdf_core.proofs.Ready.{are_there}
use Rattle.csdf_core.proofs.Answered.{answered_taken}
use Rattle.csdf_core.proofs.FitLemmas.{length-joined}
use Rattle.csdf_core.proofs.RoomLemmas.{begun_within, reserved_written, room_to_write}
use Rattle.csdf_core.proofs.PortLemmas.{takes_all, taken_all, enough_all, puts_all, raise_all, rates_by_number}

pub enough_here : (plan : Plan) (p : Present) (a k : ℕ) → IsFit plan p → refusal plan p (Read a) ≡ None → k ≡ count p a
    → EnoughOver (take_at plan.channels k) (inputs_at plan.channels a) p.tokens
enough_here plan p a k fit none is =
    let there : AreThere a (count p a) plan.channels p.tokens = are_there p a plan.channels p.tokens (reads plan p a none).at fit.ready in
    subst (λ (n : ℕ). EnoughOver (take_at plan.channels n) (inputs_at plan.channels a) p.tokens) (sym is)
    (enough_all (λ c. c.to == a) (λ c. rate c.consume (count p a)) (take_at plan.channels (count p a)) 0 [] plan.channels p.tokens refl fit.queued
    (rates_by_number (λ c. c.to == a) (λ c. rate c.consume (count p a)) plan.channels) there)

pub left_here : (plan : Plan) (p : Present) (a k : ℕ) (ts : List (List ℤ)) → IsFit plan p → k ≡ count p a
    → ts ≡ takes_over (take_at plan.channels k) (inputs_at plan.channels a) p.tokens → ts ≡ left a (count p a) plan.channels p.tokens
left_here plan p a k ts fit is made =
    made ∙ ap (λ n. takes_over (take_at plan.channels n) (inputs_at plan.channels a) p.tokens) is
    ∙ takes_all (λ c. c.to == a) (λ c. rate c.consume (count p a)) (take_at plan.channels (count p a)) 0 [] plan.channels p.tokens refl fit.queued
    (rates_by_number (λ c. c.to == a) (λ c. rate c.consume (count p a)) plan.channels)

pub answered_here : (plan : Plan) (p : Present) (a k n : ℕ) (into old : List ℤ) → IsFit plan p → refusal plan p (Read a) ≡ None → k ≡ count p a
    → n ≡ need a k plan.channels → into ≡ taken_over (take_at plan.channels k) (inputs_at plan.channels a) p.tokens ++ drop n old
    → take n into ≡ taken a (count p a) plan.channels p.tokens
answered_here plan p a k n into old fit none is all made =
    let there : AreThere a (count p a) plan.channels p.tokens = are_there p a plan.channels p.tokens (reads plan p a none).at fit.ready in
    answered_taken a (count p a) n plan.channels p.tokens into old fit.queued there (all ∙ ap (λ m. need a m plan.channels) is)
    (made ∙ ap (λ m. taken_over (take_at plan.channels m) (inputs_at plan.channels a) p.tokens ++ drop n old) is
    ∙ ap (λ ts. ts ++ drop n old) (taken_all (λ c. c.to == a) (λ c. rate c.consume (count p a)) (take_at plan.channels (count p a)) 0 [] plan.channels p.tokens
    refl fit.queued (rates_by_number (λ c. c.to == a) (λ c. rate c.consume (count p a)) plan.channels)))

pub kept_to_read : (plan : Plan) (p : Present) (a kept more : ℕ) → IsFit plan p → refusal plan p (Read a) ≡ None → kept ≡ reserved plan p
    → more ≡ gift a (count p a) plan.channels - need a (count p a) plan.channels → more ≤ kept
kept_to_read plan p a kept more fit none is some =
    let w = reads plan p a none in
    let lt : a < length p.stages = let there = w.there in let staged = fit.staged in omega arith in
    let b = begun_within plan p a w.there lt w.at in
    omega (arith, b, is, some)

pub kept_to_write : (plan : Plan) (p : Present) (a kept : ℕ) (v : List ℤ) → IsFit plan p → first_of (write_table plan p a v) ≡ None → kept ≡ reserved plan p
    → length v ≤ kept
kept_to_write plan p a kept v fit none is =
    let all = writes plan p a v none in let w = all.0 in
    let lt : a < length p.stages = let there = w.there in let staged = fit.staged in omega arith in
    let b = reserved_written plan p a v w.there lt w.at in
    omega (arith, b, is, all.1)

pub cells_to_write : (plan : Plan) (p : Present) (a free : ℕ) (v : List ℤ) → IsFit plan p → first_of (write_table plan p a v) ≡ None
    → free + held p ≡ plan.cells → length v ≤ free
cells_to_write plan p a free v fit none all =
    let w = (writes plan p a v none).0 in
    let lt : a < length p.stages = let there = w.there in let staged = fit.staged in omega arith in
    let b = room_to_write plan p a w.there lt w.at fit.room in
    omega (arith, b, all, (writes plan p a v none).1)

pub put_here : (plan : Plan) (p : Present) (a k : ℕ) (v : List ℤ) (ts : List (List ℤ)) → IsFit plan p → k ≡ count p a
    → ts ≡ puts_over (give_at plan.channels k) (outputs_at plan.channels a) p.tokens v → ts ≡ joined p.tokens (shares a (count p a) plan.channels v)
put_here plan p a k v ts fit is made =
    made ∙ ap (λ n. puts_over (give_at plan.channels n) (outputs_at plan.channels a) p.tokens v) is
    ∙ puts_all (λ c. c.from == a) (λ c. rate c.produce (count p a)) (give_at plan.channels (count p a)) 0 [] plan.channels p.tokens v refl fit.queued
    (rates_by_number (λ c. c.from == a) (λ c. rate c.produce (count p a)) plan.channels)

-- where nothing is put in, the peaks are high enough
high_elsewhere : (a k : ℕ) (cs : List Channel) (ps : List ℕ) (ts : List (List ℤ)) (v : List ℤ) → length ps ≡ length cs → length ts ≡ length cs → ArePeaks ps ts
    → AllByRecursion (λ (row : Channel × (ℕ × List ℤ)). (row.0.from == a) ≡ false → length row.1.1 ≤ row.1.0) (zip cs (zip ps (joined ts (shares a k cs v))))
high_elsewhere a k [] ps ts v lenp len high = tt
high_elsewhere a k (c ∷ cs) [] ts v lenp len high = absurd (omega arith)
high_elsewhere a k (c ∷ cs) (p ∷ ps) [] v lenp len high = absurd (omega arith)
high_elsewhere a k (c ∷ cs) (p ∷ ps) (t ∷ ts) v lenp len high = (
  λ other.
      let none : gives_of a k c ≡ 0 = ap (λ b. cond b (rate c.produce k) 0) other in
      let same : length (t ++ take (gives_of a k c) v) ≡ length t = ap (λ n. length (t ++ take n v)) none ∙ ap length (append-nil t) in
      let h = high.0 in
      let r : length (t ++ take (gives_of a k c) v) ≤ p = omega arith in r,
  high_elsewhere a k cs ps ts (drop (gives_of a k c) v) (omega arith) (omega arith) high.1,
)

pub peaks_here : (plan : Plan) (p : Present) (a : ℕ) (v : List ℤ) (ts : List (List ℤ)) (old new : List ℕ) → IsFit plan p → length old ≡ length plan.channels
    → ArePeaks old p.tokens → ts ≡ joined p.tokens (shares a (count p a) plan.channels v)
    → new ≡ raise_over (outputs_at plan.channels a) ts old → new ≡ raised old (joined p.tokens (shares a (count p a) plan.channels v))
peaks_here plan p a v ts old new fit len high put made =
    made ∙ ap (λ us. raise_over (outputs_at plan.channels a) us old) put
    ∙ raise_all (λ c. c.from == a) 0 [] [] plan.channels (joined p.tokens (shares a (count p a) plan.channels v)) old refl refl
    (length-joined a (count p a) plan.channels p.tokens v fit.queued) len
    (high_elsewhere a (count p a) plan.channels old p.tokens v len fit.queued high)
