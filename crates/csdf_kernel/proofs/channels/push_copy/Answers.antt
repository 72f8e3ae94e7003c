use Rattle.std.proofs.Common.{◌≡◌, length, ◌∙◌, arith}
use Rattle.std.proofs.lemmas.Grind.{common_steps}
use Rattle.csdf_kernel.specs.Value.{copy_token}
use Rattle.csdf_kernel.proofs.PlaceLemmas.{places_more, copied_at, copied_on}
use Rattle.csdf_kernel.proofs.channels.push_copy.Goals as goal

pub loop-copied-preserved : goal.loop-copied-preserved
loop-copied-preserved c =
    let token : c.token.result ≡ copy_token c.args.inputs.now c.loop-copied._copied =
    c.token.ensures ∙ copied_at c.args.inputs.now c.loop-copied.at c.loop-copied._copied c.loop-copied.invariant.at in
    let more = places_more (copy_token c.args.inputs.now) c.loop-copied._copied in
    record {
      items = grind (arith, common_steps, token, more);
      capacity = c.push_reserved.ensures.capacity ∙ c.loop-copied.invariant.capacity;
      at = λ some. copied_on (length c.args.inputs.now) c.loop-copied.at c.loop-copied._copied c.place_after-at.result some (c.loop-copied.invariant.at some)
          c.place_after-at.ensures.next;
      within = c.place_after-at.ensures.within;
    }
