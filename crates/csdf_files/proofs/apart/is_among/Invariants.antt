use Rattle.std.proofs.Common.{◌≡◌, drop}
use Rattle.csdf_files.specs.Places.{is_among}
use Rattle.csdf_files.proofs.apart.is_among.Given as goal

-- none of those so far is it
abbrev pub invariant-loop-other : goal.invariant-loop-other
invariant-loop-other l = is_among l.place (drop l.other-index l.places) ≡ is_among l.place l.places
