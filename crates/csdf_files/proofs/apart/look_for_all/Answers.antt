use Rattle.std.proofs.Common.{◌≡◌, ◌<◌, ap, arith, get_or, length, map, sym, subst, take, ◌∙◌}
use Rattle.std.proofs.lemmas.List.{get_or-map, length-map, take_all}
use Rattle.csdf_answers.proofs.ToldLemmas.{if_err_fault}
use Rattle.csdf_files.specs.Places.{listed_view}
use Rattle.csdf_files.proofs.ApartLemmas.{AreApartTo, all_apart, none_apart, one_apart, one_in_use, only_apart}
use Rattle.csdf_files.proofs.DiskLemmas.{on_err, only_more}
use Rattle.csdf_files.proofs.apart.look_for_all.Goals as goal

pub loop-file-init : goal.loop-file-init
loop-file-init g c =
    let files = map listed_view c.args.files.now in
    let acts = g.D.Disk.acts c.args.disk.now in
    subst (λ places. AreApartTo acts acts files 0 places) (sym c.new-places.ensures.items) (none_apart acts files)

pub loop-file-preserved : goal.loop-file-preserved
loop-file-preserved g c =
    let files = c.args.files.now in
    let i = c.loop-file.file-index in
    let d = c.file-item.result in
    let there : i < length (map listed_view files) = omega (arith, c.loop-file-test.true, length-map files listed_view) in
    let at : get_or (map listed_view files) i (listed_view d) ≡ listed_view d =
    get_or-map listed_view files i d (listed_view d) c.loop-file-test.true ∙ ap listed_view (sym c.file-item.is) in
    one_apart _ _ _ (map listed_view files) i (listed_view d) c.loop-file.places.items there at c.loop-file.invariant _ c.in_ok-look_for.ensures.apart

pub returns-in_err-look_for-clause-in_use : goal.returns-in_err-look_for-clause-in_use
returns-in_err-look_for-clause-in_use g c =
    let files = c.args.files.now in
    let i = c.loop-file.file-index in
    let d = c.file-item.result in
    let fault = c.in_err-look_for.field-0.0 in
    let there : i < length (map listed_view files) = omega (arith, c.loop-file-test.true, length-map files listed_view) in
    let at : get_or (map listed_view files) i (listed_view d) ≡ listed_view d =
    get_or-map listed_view files i d (listed_view d) c.loop-file-test.true ∙ ap listed_view (sym c.file-item.is) in
    if_err_fault _ fault _ c.from_residual.ensures.1
    (one_in_use _ _ _ (map listed_view files) i (listed_view d) c.loop-file.places.items there at c.loop-file.invariant fault c.in_err-look_for.ensures.in_use)

pub returns-in_err-look_for-clause-only : goal.returns-in_err-look_for-clause-only
returns-in_err-look_for-clause-only g c =
    on_err _ _ (only_more _ _ _ (only_apart _ _ (map listed_view c.args.files.now) c.loop-file.file-index c.loop-file.places.items c.loop-file.invariant)
    c.in_err-look_for.ensures.only)

pub returns-clause-apart : goal.returns-clause-apart
returns-clause-apart g c =
    let files = c.args.files.now in
    let i = c.loop-file.file-index in
    let all : take i (map listed_view files) ≡ map listed_view files =
    take_all i (map listed_view files) (omega (arith, c.loop-file-test.false, length-map files listed_view)) in
    all_apart _ _ (map listed_view files) i c.loop-file.places.items all c.loop-file.invariant
