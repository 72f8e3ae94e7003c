-- An actor that finds what its next firings need begins the first of them.
use Rattle.std.proofs.Common.{◌≡◌, ℕ, zero, suc, ◌+◌, ◌<◌, ◌≤◌, ◌&&◌, nat_lt, nat_le, cond, List, [], ◌∷◌, length, refl, ap, ◌∙◌, arith}
use Rattle.std.proofs.Common.{Bool, true, false, Option, Some, None, le-ltb}
use Rattle.std.specs.Prelude.{find, IfSome}
use Rattle.std.specs.List.{AllByRecursion}
use Rattle.std.proofs.lemmas.Bool.Decides.{nat_tests}
use Rattle.csdf_core.specs.Blocks.{gifts_of, needs_of}
use Rattle.csdf_core.specs.Plan.{Channel, Plan}
use Rattle.csdf_core.specs.Ports.{inputs_at, take_at}
use Rattle.csdf_core.specs.Step.{given, is_reached}
use Rattle.csdf_core.proofs.BlockPorts.{sum_none}
use Rattle.csdf_core.proofs.PortLemmas.{need_is}
use Rattle.csdf_core.proofs.Totals.{given-suc}

-- what the firings give is told by the sums
pub given_more : (plan : Plan) (a k n : ℕ) → given plan a (k + n) ≡ given plan a k + gifts_of plan.channels a k n
given_more plan a k zero = let e : k + zero ≡ k = omega arith in let t = ap (given plan a) e in omega (arith, t)
given_more plan a k (suc n) =
    let e : k + suc n ≡ suc k + n = omega arith in
    let t = ap (given plan a) e in
    omega (arith, t, given_more plan a (suc k) n, given-suc plan a k)

pub needs_none : (channels : List Channel) (a k n : ℕ) → length (inputs_at channels a) ≡ 0 → needs_of channels a k n ≡ 0
needs_none channels a k zero e = refl
needs_none channels a k (suc n) e =
    omega (
      arith,
      need_is a k channels,
      sum_none (take_at channels k) (inputs_at channels a) e,
      needs_none channels a (suc k) n e,
    )

pub none_found : (test : ℕ → Bool) (ns : List ℕ) → AllByRecursion (λ c. test c ≡ false) ns → find test ns ≡ None
none_found test [] all = refl
none_found test (c ∷ ns) all = ap (λ (b : Bool). cond b (Some c) (find test ns)) all.0 ∙ none_found test ns all.1

pub above : (a b : ℕ) → b < a → nat_le a b ≡ false
above a b lt = grind (arith, nat_tests)

pub not_reached : (o : Option ℕ) (b n : ℕ) → IfSome o (λ most. b + suc n ≤ most) → is_reached o b ≡ false
not_reached None b n h = refl
not_reached (Some most) b n h = above most b (omega arith)

pub dry_free : (b : Bool) (x y : ℕ) → (b ≡ true → y ≤ x) → (b && nat_lt x y) ≡ false
dry_free true x y h = le-ltb x y (h refl)
dry_free false x y h = refl

pub and_none : (b c : Bool) → c ≡ false → (b && c) ≡ false
and_none true c e = e
and_none false c e = refl
