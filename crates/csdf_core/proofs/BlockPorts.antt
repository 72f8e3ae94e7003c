-- What a block of firings does to the inputs and outputs of its actor.
use Rattle.std.proofs.Common.{◌≡◌, ℕ, zero, suc, ◌+◌, ◌<◌, ◌≤◌, List, [], ◌∷◌, length, get_or, take, drop, refl, ap}
use Rattle.std.proofs.Common.{◌∙◌, sym, subst, arith}
use Rattle.std.specs.Prelude.{ℤ, sum_by}
use Rattle.std.specs.List.{AllByRecursion}
use Rattle.std.proofs.lemmas.List.{length-drop, length-take}
use Rattle.csdf_pool.specs.Pool.{Shared, after_puts, after_takes}
use Rattle.csdf_pool.proofs.OneByOne.{puts_are}
use Rattle.csdf_core.specs.Blocks.{from_front}
use Rattle.csdf_core.specs.Ports.{tokens_in, tokens_at, takes_over, puts_over}
use Rattle.csdf_core.specs.Shows.{ArePeaks}
use Rattle.csdf_core.specs.Transfers.{after_takes_over, after_puts_over}
use Rattle.csdf_core.proofs.BlockPools.{Holds, holds_taken, holds_put}

-- a fact of each number from two others
pub both : {P Q R : ℕ → Type 0} (ns : List ℕ) → ((c : ℕ) → P c → Q c → R c) → AllByRecursion P ns → AllByRecursion Q ns → AllByRecursion R ns
both [] f p q = tt
both (c ∷ ns) f p q = (f c p.0 q.0, both ns f p.1 q.1)

abbrev pub AreWithin : List ℕ → ℕ → Type 0
AreWithin ns n = AllByRecursion (λ c. c < n) ns

-- ---- the same of many channels, each with its amount
pub holds_takes : (f : ℕ → ℕ) (ns : List ℕ) (pool : Shared) → AreWithin ns (length pool.chains)
    → Holds pool (after_takes_over f ns pool) (takes_over f ns (tokens_in pool))
holds_takes f [] pool l = record { size = refl; chained = refl; tokens_are = refl; partition = λ part. part }
holds_takes f (c ∷ ns) pool l =
    let h = holds_taken pool c (f c) l.0 in
    let rest = holds_takes f ns (after_takes pool c (f c)) (subst (AreWithin ns) (sym h.chained) l.1) in
    record {
      size = rest.size ∙ h.size;
      chained = rest.chained ∙ h.chained;
      tokens_are = rest.tokens_are ∙ ap (takes_over f ns) h.tokens_are;
      partition = λ part. rest.partition (h.partition part);
    }

-- the cells that are left by a put, and that the rest of what is put finds them
left_free : (pool : Shared) (c n : ℕ) (v : List ℤ) → c < length pool.chains → length v ≤ length pool.free
    → length (after_puts pool c (take n v)).free + length (take n v) ≡ length pool.free
left_free pool c n v lt room =
    let size = length-take n v in
    let is : length (after_puts pool c (take n v)).free ≡ length (drop (length (take n v)) pool.free) =
    ap (λ (q : Shared). length q.free) (puts_are pool.size c pool.chains pool.free (take n v) lt (omega (arith, size, room))) in
    omega (arith, is, length-drop (length (take n v)) pool.free, size, room)

pub holds_puts : (f : ℕ → ℕ) (ns : List ℕ) (pool : Shared) (v : List ℤ) → AreWithin ns (length pool.chains) → length v ≤ length pool.free
    → Holds pool (after_puts_over f ns pool v) (puts_over f ns (tokens_in pool) v)
holds_puts f [] pool v l room = record { size = refl; chained = refl; tokens_are = refl; partition = λ part. part }
holds_puts f (c ∷ ns) pool v l room =
    let size = length-take (f c) v in
    let others = length-drop (f c) v in
    let free = left_free pool c (f c) v l.0 room in
    let h = holds_put pool c (take (f c) v) l.0 (omega (arith, size, room)) in
    let rest = holds_puts f ns (after_puts pool c (take (f c) v)) (drop (f c) v) (subst (AreWithin ns) (sym h.chained) l.1)
    (omega (arith, size, others, free, room)) in
    record {
      size = rest.size ∙ h.size;
      chained = rest.chained ∙ h.chained;
      tokens_are = rest.tokens_are ∙ ap (λ (ts : List (List ℤ)). puts_over f ns ts (drop (f c) v)) h.tokens_are;
      partition = λ part. rest.partition (h.partition part);
    }

pub peak_at : (ps : List ℕ) (ts : List (List ℤ)) (d : ℕ) → ArePeaks ps ts → d < length ps → length (tokens_at ts d) ≤ get_or ps d 0
peak_at [] ts d high lt = absurd (omega arith)
peak_at (p ∷ ps) [] d high lt = omega arith
peak_at (p ∷ ps) (t ∷ ts) zero high lt = high.0
peak_at (p ∷ ps) (t ∷ ts) (suc d) high lt = peak_at ps ts d high.1 (omega arith)

-- a fact of each number from another
pub each : {P Q : ℕ → Type 0} (ns : List ℕ) → ((c : ℕ) → P c → Q c) → AllByRecursion P ns → AllByRecursion Q ns
each [] f p = tt
each (c ∷ ns) f p = (f c p.0, each ns f p.1)

-- a fact of each by its place
pub by_places : (P : ℕ → Type 0) (ns : List ℕ) → ((j : ℕ) → j < length ns → P (get_or ns j 0)) → AllByRecursion P ns
by_places P [] f = tt
by_places P (c ∷ ns) f = (f 0 (omega arith), by_places P ns (λ j lt. f (suc j) (omega arith)))

pub sum_none : (f : ℕ → ℕ) (ns : List ℕ) → length ns ≡ 0 → sum_by f ns ≡ 0
sum_none f [] e = refl
sum_none f (c ∷ ns) e = absurd (omega arith)

pub front_at : (ns : List ℕ) (n : ℕ) (ts : List (List ℤ)) → 0 < length ns → take n (tokens_at ts (get_or ns 0 0)) ≡ from_front ns n ts
front_at [] n ts lt = absurd (omega arith)
front_at (c ∷ ns) n ts lt = refl
