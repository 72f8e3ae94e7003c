-- What a firing reads: of a source its part of the feed, of another actor the tokens that it took.
use Rattle.std.proofs.Common.{◌≡◌, ℕ, List, [], true, false, get_or}
use Rattle.std.specs.Prelude.{ℤ, suc, slice_range}
use Rattle.csdf_core.specs.Step.{given, is_source}
use Rattle.csdf_floor.specs.Journal.{Program, inputs}

pub fed_inputs : (w : Program) (a k : ℕ) (tokens : List ℤ) → is_source w.plan a ≡ true
    → inputs w a k tokens ≡ slice_range (get_or w.feeds a []) (given w.plan a k) (given w.plan a (suc k))
fed_inputs w a k tokens e = rw e

pub read_inputs : (w : Program) (a k : ℕ) (tokens : List ℤ) → is_source w.plan a ≡ false → inputs w a k tokens ≡ tokens
read_inputs w a k tokens e = rw e
