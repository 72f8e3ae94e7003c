use Rattle.std.proofs.Common.{◌∷◌, ◌+◌, ◌*◌, ◌/◌, ◌∙◌, ap, drop, get_or}
use Rattle.csdf_bytes.specs.declared.token_line.TheConstants.{PAIRS}
use Rattle.csdf_bytes.proofs.PairLemmas.{pair-digits}
use Rattle.csdf_bytes.proofs.TokenLineLemmas.{put-two}
use Rattle.csdf_bytes.proofs.token_line.put_pair.Goals as goal

pub returns-clause-digits : goal.returns-clause-digits
returns-clause-digits c =
    let pair = pair-digits c.args.number c.requires.small in
    put-two c.args.bytes.now c.args.at _ _ c.requires.within
    ∙ ap (λ first. first ∷ get_or PAIRS (2 * c.args.number + 1) 0 ∷ drop (c.args.at + 2) c.args.bytes.now) pair.0
    ∙ ap (λ second. (48 + c.args.number / 10) ∷ second ∷ drop (c.args.at + 2) c.args.bytes.now) pair.1
