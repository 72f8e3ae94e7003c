-- How many tokens each of several firings writes.
use Rattle.std.proofs.Common.{◌≡◌, ℕ, suc, ◌+◌, ◌-◌, ◌<◌, List, [], ◌∷◌, ◌++◌, ap, sym, ◌∙◌, add-one, append_assoc}
use Rattle.csdf_core.specs.Plan.{Channel}
use Rattle.csdf_core.specs.Rows.{gift}
use Rattle.csdf_journal.specs.Noted.{gifts_from}
use Rattle.csdf_floor.proofs.PhaseValues.{left_is}

pub gifts_on : (cs : List Channel) (a k last g : ℕ) (old new whole : List ℕ) → k < last → g ≡ gift a k cs → new ≡ old ++ g ∷ []
    → old ++ gifts_from cs a k (last - k) ≡ whole → new ++ gifts_from cs a (k + 1) (last - (k + 1)) ≡ whole
gifts_on cs a k last g old new whole lt is one all =
    let m : ℕ = last - (k + 1) in
    ap (λ (ns : List ℕ). ns ++ gifts_from cs a (k + 1) m) (one ∙ ap (λ (i : ℕ). old ++ i ∷ []) is)
    ∙ ap (λ (j : ℕ). (old ++ gift a k cs ∷ []) ++ gifts_from cs a j m) (add-one k)
    ∙ append_assoc old (gift a k cs ∷ []) (gifts_from cs a (suc k) m)
    ∙ ap (λ (j : ℕ). old ++ gifts_from cs a k j) (sym (left_is k last lt))
    ∙ all
