use Rattle.std.proofs.Common.{◌<◌, length, ◌∙◌, arith}
use Rattle.std.proofs.lemmas.List.{get_or_default}
use Rattle.std.proofs.lemmas.Bool.{leb-true, le-leb}
use Rattle.csdf_analysis.proofs.FiringLemmas.{there}
use Rattle.csdf_analysis.proofs.RunLemmas.{holds_is}
use Rattle.csdf_analysis.proofs.run.Run.holds_enough.Goals as goal

pub returns : goal.returns
returns c =
    let lt : c.args.number < length c.args.self.now.lengths.items = omega (arith, c.requires.run.at.each_length, c.requires.exists) in
    let len = c.index.ensures ∙ get_or_default _ c.args.number c.index.result.now 0 lt in (
      λ yes d at.
          (let is = holds_is _ _ _ _ _ c.args.number c.args.phase c.consumption.result c.index.result.now d c.consumption.ensures.phased
          c.requires.run.at.held at (c.requires.phase d at) (c.consumption.ensures.value d at) len in
          let le = leb-true c.consumption.result c.index.result.now yes in
          omega (arith, is.0, is.1, le)),
      λ all.
          (let d = there _ c.args.number c.requires.exists in
          let is = holds_is _ _ _ _ _ c.args.number c.args.phase c.consumption.result c.index.result.now (d.0) c.consumption.ensures.phased
          c.requires.run.at.held d.1 (c.requires.phase (d.0) d.1) (c.consumption.ensures.value (d.0) d.1) len in
          let le = all (d.0) d.1 in
          le-leb c.consumption.result c.index.result.now (omega (arith, is.0, is.1, le))),
    )
