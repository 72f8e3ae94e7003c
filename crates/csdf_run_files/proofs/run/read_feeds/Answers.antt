use Rattle.std.proofs.Common.{◌≡◌, ◌<◌, List, Ok, length, subst, get_or, map, take, ap, sym, ◌∙◌, arith}
use Rattle.std.specs.Prelude.{ℤ}
use Rattle.csdf_floor.specs.Work.{feeds_in}
use Rattle.std.proofs.lemmas.List.{get_or-map, length-map, take_all}
use Rattle.csdf_model.specs.Graph.{actor_view}
use Rattle.csdf_run.specs.Tokens.{read_in}
use Rattle.csdf_disk.specs.Contents.{told_tokens}
use Rattle.csdf_run_files.proofs.ReadLemmas.{missing_next, only_read_to}
use Rattle.csdf_files.proofs.DiskLemmas.{on_err, only_more}
use Rattle.csdf_run_files.proofs.TokenLemmas.{IsFedTo, actor_next, all_fed, none_fed, only_feed}
use Rattle.csdf_answers.proofs.ToldLemmas.{if_err_fault}
use Rattle.csdf_run_files.proofs.run.read_feeds.Goals as goal

pub loop-number-init : goal.loop-number-init
loop-number-init g c =
    subst (λ (feeds : List (List ℤ)). IsFedTo (g.D.Disk.acts c.args.disk.now) (g.D.Disk.acts c.args.disk.now) c.args.folder.now
    (map actor_view c.args.actors.now) 0 (Ok feeds)) (ap feeds_in (sym c.new.ensures.items)) (none_fed _ _ _)

pub returns-in_err-told-clause-missing : goal.returns-in_err-told-clause-missing
returns-in_err-told-clause-missing g c =
    let actors = c.args.actors.now in
    let i = c.loop-number.number in
    let d = c.index-actors-number.result in
    let fault = c.in_err-told.field-0.0 in
    let there : i < length (map actor_view actors) = omega (arith, c.loop-number-test.true, length-map actors actor_view) in
    let at : get_or (map actor_view actors) i (actor_view d) ≡ actor_view d =
    get_or-map actor_view actors i d (actor_view d) c.loop-number-test.true ∙ ap actor_view (sym c.index-actors-number.is) in
    if_err_fault _ fault _ c.from_residual.ensures.1
    (missing_next _ _ _ c.args.folder.now (map actor_view actors) i (actor_view d) c.loop-number.invariant.texts there at c.loop-number.invariant.so_far fault
    c.in_err-told.ensures.missing)

pub returns-in_err-told-clause-only : goal.returns-in_err-told-clause-only
returns-in_err-told-clause-only g c =
    on_err _ _ (only_more _ _ _ (only_read_to _ _ c.args.folder.now (map actor_view c.args.actors.now) c.loop-number.number
    c.loop-number.invariant.texts c.loop-number.invariant.so_far) c.in_err-told.ensures.only)

pub returns-in_err-feeds-clause-only : goal.returns-in_err-feeds-clause-only
returns-in_err-feeds-clause-only g c =
    on_err _ _ (only_more _ _ _ (only_read_to _ _ c.args.folder.now (map actor_view c.args.actors.now) c.loop-number.number
    c.loop-number.invariant.texts c.loop-number.invariant.so_far)
    (only_feed c.args.folder.now (actor_view c.index-actors-number.result) _ _ _ c.in_ok-told.ensures.read))

pub loop-number-preserved : goal.loop-number-preserved
loop-number-preserved g c =
    let actors = c.args.actors.now in
    let i = c.loop-number.number in
    let d = c.index-actors-number.result in
    let there : i < length (map actor_view actors) = omega (arith, c.loop-number-test.true, length-map actors actor_view) in
    let at : get_or (map actor_view actors) i (actor_view d) ≡ actor_view d =
    get_or-map actor_view actors i d (actor_view d) c.loop-number-test.true ∙ ap actor_view (sym c.index-actors-number.is) in
    actor_next _ _ _ c.args.folder.now (map actor_view actors) i (actor_view d) there at (read_in c.loop-number.feeds) c.loop-number.invariant
    (told_tokens c.in_ok-told.told) (read_in c.in_ok-feeds.feeds) c.in_ok-told.ensures.read c.in_ok-feeds.ensures

pub returns-clause-read : goal.returns-clause-read
returns-clause-read g c =
    let actors = c.args.actors.now in
    let i = c.loop-number.number in
    let all : take i (map actor_view actors) ≡ map actor_view actors =
    take_all i (map actor_view actors) (omega (arith, c.loop-number-test.false, length-map actors actor_view)) in
    all_fed _ _ c.args.folder.now (map actor_view actors) i c.loop-number.feeds all c.loop-number.invariant
