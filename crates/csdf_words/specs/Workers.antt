-- How many workers may be asked for.
use denote.Struct.Props as logic
use Rattle.std.specs.Prelude.{ℕ, ◌≤◌}
use Rattle.csdf_words.specs.declared.workers.Workers.{Workers}
use Rattle.csdf_words.specs.declared.workers.Workers.TheVariants.{Auto, Count}

-- one to eight, where their number is given
abbrev pub AreFew : Workers → Type 0
AreFew Auto = Unit {0}
AreFew (Count n) = (1 ≤ n) × (n ≤ 8)

-- that they are few has one proof at most
pub AreFew-prop : (w : Workers) → IsProp (AreFew w)
AreFew-prop Auto = Prim.hlevel logic.props
AreFew-prop (Count n) = Prim.hlevel logic.props

-- how many there are at most
abbrev pub most_workers : Workers → ℕ
most_workers Auto = 8
most_workers (Count n) = n
