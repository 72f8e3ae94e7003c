-- The bytes of a buffer: those of a list from a start up to an end.
use Rattle.std.proofs.Common.{◌≡◌, ℕ, ◌+◌, ◌-◌, ◌≤◌, List, ◌++◌, length, take, drop, sym, ◌∙◌, ap, arith, length-drop}
use Rattle.std.specs.List.{copy_within}
use Rattle.std.proofs.Math.Seq.{take-add}
use Rattle.std.proofs.lemmas.List.{drop-append-le, drop-drop, drop-take, length-take-le, take-append-le, take_at}
use Rattle.std.proofs.lemmas.Slice.{between_is}

abbrev pub held : List ℕ → ℕ → ℕ → List ℕ
held items start end = take (end - start) (drop start items)

-- bytes before the end stay
pub held-kept : (old new : List ℕ) (start end : ℕ) → take end new ≡ take end old → held new start end ≡ held old start end
held-kept old new start end same = between_is new start end ∙ ap (drop start) same ∙ sym (between_is old start end)

-- more bytes behind the end
pub held-more : (items : List ℕ) (start end n : ℕ) → start ≤ end → held items start (end + n) ≡ held items start end ++ take n (drop end items)
held-more items start end n within =
    let size : (end + n) - start ≡ (end - start) + n = omega (arith, within) in
    let from : start + (end - start) ≡ end = omega (arith, within) in
    ap (λ k. take k (drop start items)) size ∙ take-add (end - start) n (drop start items)
    ∙ ap (λ rest. take (end - start) (drop start items) ++ take n rest) (drop-drop (end - start) start items ∙ ap (λ k. drop k items) from)

-- bytes at the front are gone
pub held-let_go : (items : List ℕ) (start end count : ℕ) → start + count ≤ end → held items (start + count) end ≡ drop count (held items start end)
held-let_go items start end count within =
    let size : end - start ≡ count + (end - (start + count)) = omega (arith, within) in
    ap (take (end - (start + count))) (sym (drop-drop count start items))
    ∙ sym (drop-take count (end - (start + count)) (drop start items))
    ∙ ap (λ k. drop count (take k (drop start items))) (sym size)

pub length-held : (items : List ℕ) (start end : ℕ) → start ≤ end → end ≤ length items → length (held items start end) ≡ end - start
length-held items start end within inside =
    length-take-le (end - start) (drop start items) (omega (arith, length-drop start items, within, inside))

-- bytes that were moved to the front
pub held-moved : (items : List ℕ) (start end : ℕ) → start ≤ end → end ≤ length items → held (copy_within items start end 0) 0 (end - start) ≡ held items start end
held-moved items start end within inside =
    let size : (end - start) - 0 ≡ end - start = omega arith in
    ap (λ k. take k (copy_within items start end 0)) size
    ∙ take_at (held items start end) (drop (0 + (end - start)) items) (end - start) (length-held items start end within inside)

-- bytes with more room behind them
pub held-grown : (items more : List ℕ) (start end : ℕ) → start ≤ end → end ≤ length items → held (items ++ more) start end ≡ held items start end
held-grown items more start end within inside =
    ap (take (end - start)) (drop-append-le start items more (omega (arith, within, inside)))
    ∙ take-append-le (end - start) (drop start items) more (omega (arith, length-drop start items, within, inside))
