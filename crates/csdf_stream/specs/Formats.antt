-- How tokens lie in bytes.
use denote.Struct.Props as logic
use Rattle.std.specs.Prelude.{◌≤◌, ℕ, List, Option, Some, None, IfSome, codes}
use Rattle.csdf_bytes.specs.Samples.{name_of}
use Rattle.csdf_stream.specs.declared.options.TokenFormat.{TokenFormat}
use Rattle.csdf_stream.specs.declared.options.TokenFormat.TheVariants.{Text, Samples}

abbrev pub format_name : TokenFormat → List ℕ
format_name Text = codes "text"
format_name (Samples format) = name_of format

-- that a number which is given is no less than 1 has one proof at most
pub IsSome-prop : (given : Option ℕ) → IsProp (IfSome given (λ n. 1 ≤ n))
IsSome-prop None = Prim.hlevel logic.props
IsSome-prop (Some n) = Prim.hlevel logic.props
