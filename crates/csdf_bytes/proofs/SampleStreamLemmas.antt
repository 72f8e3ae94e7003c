-- Samples, one after another.
use Rattle.std.proofs.Common.{◌≡◌, ℕ, zero, suc, ◌+◌, ◌-◌, ◌*◌, ◌<◌, ◌≤◌, List, [], ◌∷◌, ◌++◌, length, map, take, drop}
use Rattle.std.proofs.Common.{refl, sym, ◌∙◌, ap, subst, arith, append-nil, append_assoc, length-append, length-drop}
use Rattle.std.specs.Prelude.{ℤ, ◌^◌, true, false, is_err, Option, None, Some, Result, Ok, Err, OnOk}
use Rattle.std.specs.Io.KnownBytes.{Consumes, Keeps}
use Rattle.std.proofs.KnownBytes.{Consumes-trans}
use Rattle.std.proofs.lemmas.List.{drop-append-le, drop-drop, length-map, map-append, take-append-le}
use Rattle.csdf_bytes.specs.declared.sample_format.SampleFormat.{SampleFormat}
use Rattle.csdf_bytes.specs.SampleState.{Unsampled}
use Rattle.csdf_bytes.specs.SampleStream.{GivesSamples, ReadsSamples, number_behind}
use Rattle.csdf_bytes.specs.Samples.{first_samples, pieces, size_of, value_of}

-- one piece more
pieces-more : (n k : ℕ) (bs : List ℕ) → pieces n (suc k) bs ≡ pieces n k bs ++ (take n (drop (n * k) bs) ∷ [])
unfolding pieces
pieces-more n zero bs = ap (λ m. take n (drop m bs) ∷ []) (let none : 0 ≡ n * 0 = omega arith in none)
pieces-more n (suc k) bs =
    let next : n + n * k ≡ n * suc k = omega arith in
    ap (λ rest. take n bs ∷ rest) (pieces-more n k (drop n bs))
    ∙ ap (λ rest. take n bs ∷ (pieces n k (drop n bs) ++ (take n rest ∷ []))) (drop-drop (n * k) n bs ∙ ap (λ m. drop m bs) next)

-- no sample at first
pub first_samples-none : (f : SampleFormat) (bs : List ℕ) (before : List ℤ) → before ≡ before ++ first_samples f 0 bs
unfolding pieces
first_samples-none f bs before = sym (append-nil before)

-- one sample more
pub first_samples-more : (f : SampleFormat) (k used : ℕ) (bs : List ℕ) → used ≡ size_of f * k
    → first_samples f (k + 1) bs ≡ first_samples f k bs ++ (value_of f (take ((used + size_of f) - used) (drop used bs)) ∷ [])
first_samples-more f k used bs at =
    let size : size_of f ≡ (used + size_of f) - used = omega arith in
    let next : k + 1 ≡ suc k = omega arith in
    ap (λ m. first_samples f m bs) next
    ∙ ap (map (value_of f)) (pieces-more (size_of f) k bs)
    ∙ map-append (value_of f) (pieces (size_of f) k bs) (take (size_of f) (drop (size_of f * k) bs) ∷ [])
    ∙ ap (λ m. first_samples f k bs ++ (value_of f (take m (drop (size_of f * k) bs)) ∷ [])) size
    ∙ ap (λ m. first_samples f k bs ++ (value_of f (take ((used + size_of f) - used) (drop m bs)) ∷ [])) (sym at)

-- so many samples
length-pieces : (n k : ℕ) (bs : List ℕ) → length (pieces n k bs) ≡ k
unfolding pieces
length-pieces n zero bs = refl
length-pieces n (suc k) bs = ap suc (length-pieces n k (drop n bs))

pub length-first_samples : (f : SampleFormat) (k : ℕ) (bs : List ℕ) → length (first_samples f k bs) ≡ k
length-first_samples f k bs = length-map (pieces (size_of f) k bs) (value_of f) ∙ length-pieces (size_of f) k bs

-- what holds of a call that succeeded
pub on_ok : {T E : Type 0} (r : Result T E) (P : Type 0) → is_err r ≡ false → OnOk r P → P
on_ok (Ok t) P clear holds = holds
on_ok (Err e) P clear holds = absurd (let set : true ≡ false = clear in cc)

-- ---- what a reader gives

-- samples of what was fetched
pub gives-pushed : (most count used : ℕ) (old now : Unsampled) (held behind : List ℕ) (number : ℕ) (before after : List ℤ)
    → old ≡ now → count ≤ most → used ≡ size_of old.format * count → used ≤ length held → held ≡ old.bytes
    → after ≡ before ++ first_samples old.format count held → behind ≡ drop used old.bytes → number ≡ number_behind old.number count
    → GivesSamples most now now.bytes (record { format = old.format; bytes = behind; number = number }) before after
gives-pushed most count used old now held behind number before after is few size within same appended rest counted =
    subst (λ (o : Unsampled). GivesSamples most o o.bytes (record { format = old.format; bytes = behind; number = number }) before after) is (record {
      count = count;
      few = few;
      within = omega (arith, size, within, ap length same);
      appended = appended ∙ ap (λ bs. before ++ first_samples old.format count bs) same;
      behind = rest ∙ ap (λ n. drop n old.bytes) size;
      number = counted;
      format = refl;
    })

-- no sample of what was fetched
pub idle-pushed : (count used : ℕ) (old now : Unsampled) (behind : List ℕ) (number : ℕ) → old ≡ now → count ≡ 0 → used ≡ size_of old.format * count
    → behind ≡ drop used old.bytes → number ≡ number_behind old.number count → old.number < 2 ^ 64
    → record { format = old.format; bytes = behind; number = number } ≡ now
idle-pushed count used old now behind number is none size rest counted small =
    let no_bytes : used ≡ 0 = size ∙ ap (λ n. size_of old.format * n) none ∙ omega arith in
    let same : number ≡ old.number = omega (arith, counted, none, small) in
    ap (λ bs. record { format = old.format; bytes = bs; number = number }) (rest ∙ ap (λ n. drop n old.bytes) no_bytes)
    ∙ ap (λ n. record { format = old.format; bytes = old.bytes; number = n }) same ∙ is

consumes-none : (left rest : Option (List ℕ)) → Keeps left rest → Consumes left rest []
consumes-none None rest kept = tt
consumes-none (Some xs) None kept = absurd kept
consumes-none (Some xs) (Some ys) kept = sym kept

-- where the device was not asked
pub reads-unasked : (most : ℕ) (old new : Unsampled) (left rest : Option (List ℕ)) (before after : List ℤ) → Keeps left rest
    → GivesSamples most old old.bytes new before after → ReadsSamples most old new left rest before after
reads-unasked most old new left rest before after kept given = record {
  fetched = [];
  taken = consumes-none left rest kept;
  given = subst (λ bs. GivesSamples most old bs new before after) (sym (append-nil old.bytes)) given;
}

-- what stays as it was
pub gives-same : (most : ℕ) (old new next : Unsampled) (bytes : List ℕ) (before after : List ℤ) → next.bytes ≡ new.bytes → next.format ≡ new.format
    → next.number ≡ new.number → GivesSamples most old bytes new before after → GivesSamples most old bytes next before after
gives-same most old new next bytes before after bs format number given = record {
  count = given.count;
  few = given.few;
  within = given.within;
  appended = given.appended;
  behind = bs ∙ given.behind;
  number = number ∙ given.number;
  format = format ∙ given.format;
}

-- ---- two reads are one

pieces-add : (n j k : ℕ) (bs : List ℕ) → pieces n (j + k) bs ≡ pieces n j bs ++ pieces n k (drop (n * j) bs)
unfolding pieces
pieces-add n zero k bs =
    ap (λ m. pieces n m bs) (let same : 0 + k ≡ k = omega arith in same)
    ∙ ap (λ m. pieces n k (drop m bs)) (let none : 0 ≡ n * 0 = omega arith in none)
pieces-add n (suc j) k bs =
    let next : n + n * j ≡ n * suc j = omega arith in
    ap (λ m. pieces n m bs) (let same : suc j + k ≡ suc (j + k) = omega arith in same)
    ∙ ap (λ rest. take n bs ∷ rest) (pieces-add n j k (drop n bs))
    ∙ ap (λ rest. take n bs ∷ (pieces n j (drop n bs) ++ pieces n k rest)) (drop-drop (n * j) n bs ∙ ap (λ m. drop m bs) next)

-- bytes behind the pieces
pieces-front : (n k : ℕ) (bs more : List ℕ) → n * k ≤ length bs → pieces n k (bs ++ more) ≡ pieces n k bs
unfolding pieces
pieces-front n zero bs more within = refl
pieces-front n (suc k) bs more within =
    let size : n * suc k ≡ n + n * k = omega arith in
    let here : n ≤ length bs = omega (arith, within, size) in
    let rest : n * k ≤ length (drop n bs) = omega (arith, within, size, length-drop n bs) in
    ap (λ piece. piece ∷ pieces n k (drop n (bs ++ more))) (take-append-le n bs more here)
    ∙ ap (λ bytes. take n bs ∷ pieces n k bytes) (drop-append-le n bs more here)
    ∙ ap (λ others. take n bs ∷ others) (pieces-front n k (drop n bs) more rest)

samples-add : (f : SampleFormat) (j k : ℕ) (bs : List ℕ)
    → first_samples f (j + k) bs ≡ first_samples f j bs ++ first_samples f k (drop (size_of f * j) bs)
samples-add f j k bs =
    ap (map (value_of f)) (pieces-add (size_of f) j k bs) ∙ map-append (value_of f) (pieces (size_of f) j bs) (pieces (size_of f) k (drop (size_of f * j) bs))

samples-front : (f : SampleFormat) (k : ℕ) (bs more : List ℕ) → size_of f * k ≤ length bs → first_samples f k (bs ++ more) ≡ first_samples f k bs
samples-front f k bs more within = ap (map (value_of f)) (pieces-front (size_of f) k bs more within)

numbers-add : (n j k : ℕ) → number_behind (number_behind n j) k ≡ number_behind n (j + k)
numbers-add n j k = omega arith

-- samples of the bytes that are left by others are samples of all the bytes
gives-add : (first second : ℕ) (old middle new : Unsampled) (bs more : List ℕ) (before some after : List ℤ)
    → GivesSamples first old bs middle before some → GivesSamples second middle (middle.bytes ++ more) new some after
    → GivesSamples (first + second) old (bs ++ more) new before after
gives-add first second old middle new bs more before some after one two =
    let within : size_of old.format * one.count ≤ length bs = one.within in
    let left : middle.bytes ++ more ≡ drop (size_of old.format * one.count) (bs ++ more) =
    ap (λ l. l ++ more) one.behind ∙ sym (drop-append-le (size_of old.format * one.count) bs more within) in
    let size : size_of middle.format ≡ size_of old.format = ap size_of one.format in
    let counts : size_of old.format * (one.count + two.count) ≡ size_of old.format * one.count + size_of old.format * two.count = omega arith in
    record {
      count = one.count + two.count;
      few = let a = one.few in let b = two.few in omega (arith, a, b);
      within =
          let rest : size_of old.format * two.count ≤ length (middle.bytes ++ more) =
          subst (λ n. n * two.count ≤ length (middle.bytes ++ more)) size two.within in
          omega (arith, rest, counts, within, ap length left, length-drop (size_of old.format * one.count) (bs ++ more), length-append bs more);
      appended =
          two.appended
          ∙ ap (λ xs. xs ++ first_samples middle.format two.count (middle.bytes ++ more)) one.appended
          ∙ append_assoc before (first_samples old.format one.count bs) _
          ∙ ap (λ f. before ++ (first_samples old.format one.count bs ++ first_samples f two.count (middle.bytes ++ more))) one.format
          ∙ ap (λ l. before ++ (first_samples old.format one.count bs ++ first_samples old.format two.count l)) left
          ∙ ap (λ xs. before ++ (xs ++ first_samples old.format two.count (drop (size_of old.format * one.count) (bs ++ more))))
          (sym (samples-front old.format one.count bs more within))
          ∙ ap (λ xs. before ++ xs) (sym (samples-add old.format one.count two.count (bs ++ more)));
      behind =
          two.behind
          ∙ ap (λ n. drop (n * two.count) (middle.bytes ++ more)) size
          ∙ ap (λ l. drop (size_of old.format * two.count) l) left
          ∙ drop-drop (size_of old.format * two.count) (size_of old.format * one.count) (bs ++ more)
          ∙ ap (λ n. drop n (bs ++ more)) (sym counts);
      number = two.number ∙ ap (λ n. number_behind n two.count) one.number ∙ numbers-add old.number one.count two.count;
      format = two.format ∙ one.format;
    }

pub reads-add : (first second : ℕ) (old middle new : Unsampled) (left between rest : Option (List ℕ)) (before some after : List ℤ)
    → ReadsSamples first old middle left between before some → ReadsSamples second middle new between rest some after
    → ReadsSamples (first + second) old new left rest before after
reads-add first second old middle new left between rest before some after one two = record {
  fetched = one.fetched ++ two.fetched;
  taken = Consumes-trans left between rest one.fetched two.fetched one.taken two.taken;
  given = subst (λ bs. GivesSamples (first + second) old bs new before after) (append_assoc old.bytes one.fetched two.fetched)
      (gives-add first second old middle new (old.bytes ++ one.fetched) two.fetched before some after one.given two.given);
}
