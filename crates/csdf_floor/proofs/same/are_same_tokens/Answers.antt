use Rattle.std.proofs.lemmas.Bool.Decides.{Decides-int_eq}
use Rattle.std.proofs.lemmas.Slice.Eq.{slice_eq-Decides}
use Rattle.csdf_floor.proofs.same.are_same_tokens.Goals as goal

pub returns : goal.returns
returns c = slice_eq-Decides Decides-int_eq c.args.left.now c.args.right.now c.eq.result c.eq.ensures
