use Rattle.std.proofs.Common.{◌*◌, ℕ, List, length, get_or, ap, refl, ◌∙◌, arith}
use Rattle.std.proofs.lemmas.List.{length-map, length-set}
use Rattle.csdf_floor.specs.Continuing.{given_in}
use Rattle.csdf_stream.proofs.FeedLemmas.{feeds_filled, few_filled, full_filled, read_filled, source_within, unfed_filled}
use Rattle.std.specs.Prelude.{Err}
use Rattle.csdf_stream.specs.declared.reader.ReaderFault.{ReaderFault}
use Rattle.csdf_stream.proofs.MarkLemmas.{marked_at}
use Rattle.csdf_stream.proofs.feeding.fill_feeds.Goals as goal

pub bounds-firings-actor : goal.bounds-firings-actor
bounds-firings-actor g c =
    let inside = source_within c.args.accepted.now.graph c.args.sources.now c.loop-k.k c.requires.sources c.loop-k-test.true in
    let each = c.vector.ensures.accepted.repetition.firings.each_actor in
    let same = ap (λ (q : List ℕ). length q) (c.as_slice-firings.ensures.value ∙ c.vector.ensures.firings) in
    omega (arith, inside, each, same)

pub bounds-feeds-actor : goal.bounds-feeds-actor
bounds-feeds-actor g c =
    let inside = source_within c.args.accepted.now.graph c.args.sources.now c.loop-k.k c.requires.sources c.loop-k-test.true in
    let each = c.loop-k.invariant.fed.each_actor in
    let n = length-map c.loop-k.feeds (λ v. v.items) in
    omega (arith, inside, each, n)

pub returns-in-Err-clause-read : goal.returns-in-Err-clause-read
returns-in-Err-clause-read g c =
    read_filled g.I.Intake.left c.args.accepted.now c.args.sources.now c.loop-k.readers c.loop-k.devices c.loop-k.feeds c.loop-k.k c.requires.sources c.loop-k-test.true
    (omega (arith, c.loop-k-test.true, c.requires.readers, c.loop-k.invariant.readers)) (omega (arith, c.loop-k-test.true, c.requires.devices, c.loop-k.invariant.devices))
    c.loop-k.invariant.fed c.fill.new.self c.index-readers-k.result c.fill.new.device c.index-devices-k.result c.fill.new.tokens c.index-feeds-actor.result
    c.fill.ensures.given.0 c.fill.ensures.given.1 c.fill.ensures.given.2 _ _ _ c.loop-k.invariant.read

pub returns-in-Err-clause-fed : goal.returns-in-Err-clause-fed
returns-in-Err-clause-fed g c =
    feeds_filled g.I.Intake.left c.args.accepted.now c.args.sources.now c.loop-k.readers c.loop-k.devices c.loop-k.feeds c.loop-k.k c.requires.sources c.loop-k-test.true
    (omega (arith, c.loop-k-test.true, c.requires.readers, c.loop-k.invariant.readers)) (omega (arith, c.loop-k-test.true, c.requires.devices, c.loop-k.invariant.devices))
    c.loop-k.invariant.fed c.fill.new.self c.index-readers-k.result c.fill.new.device c.index-devices-k.result c.fill.new.tokens c.index-feeds-actor.result
    c.fill.ensures.given.0 c.fill.ensures.given.1 c.fill.ensures.given.2
    (few_filled g.I.Intake.left c.args.accepted.now c.args.sources.now c.loop-k.readers c.loop-k.devices c.loop-k.feeds c.loop-k.k c.requires.sources c.loop-k-test.true
    (omega (arith, c.loop-k-test.true, c.requires.readers, c.loop-k.invariant.readers)) (omega (arith, c.loop-k-test.true, c.requires.devices, c.loop-k.invariant.devices))
    c.loop-k.invariant.fed c.fill.new.self c.index-readers-k.result c.fill.new.device c.index-devices-k.result c.fill.new.tokens c.index-feeds-actor.result
    c.fill.ensures.given.0 c.fill.ensures.given.1 c.fill.ensures.given.2 c.in_ok-most.most c.in_ok-most.ensures.few c.fill.ensures.few)

pub returns-in-Err-clause-unfed : goal.returns-in-Err-clause-unfed
returns-in-Err-clause-unfed g c =
    unfed_filled g.I.Intake.left c.args.accepted.now c.args.sources.now c.loop-k.readers c.loop-k.devices c.loop-k.feeds c.loop-k.k c.requires.sources c.loop-k-test.true
    (omega (arith, c.loop-k-test.true, c.requires.readers, c.loop-k.invariant.readers)) (omega (arith, c.loop-k-test.true, c.requires.devices, c.loop-k.invariant.devices))
    c.loop-k.invariant.fed c.fill.new.self c.index-readers-k.result c.fill.new.device c.index-devices-k.result c.fill.new.tokens c.index-feeds-actor.result
    c.fill.ensures.given.0 c.fill.ensures.given.1 c.fill.ensures.given.2 c.args.periods _ c.in-Err.fault refl c.in-Err.ensures.fault

pub returns-in-Err-clause-marked : goal.returns-in-Err-clause-marked
returns-in-Err-clause-marked g c =
    marked_at g.I.Intake.failed c.args.sources.now c.loop-k.devices c.loop-k.k c.fill.new.device c.loop-k-test.true
    (omega (arith, c.loop-k-test.true, c.requires.devices, c.loop-k.invariant.devices)) c.in-Err.fault
    (λ e. c.in-Err.ensures.marked (ap (λ (why : ReaderFault). Err why) e))

pub loop-k-preserved : goal.loop-k-preserved
loop-k-preserved g c =
    let q = ap (λ (xs : List ℕ). get_or xs (get_or c.args.sources.now c.loop-k.k 0) 0) (c.as_slice-firings.ensures.value ∙ c.vector.ensures.firings) in
    record {
      readers = length-set c.loop-k.readers c.loop-k.k c.fill.new.self ∙ c.loop-k.invariant.readers;
      devices = length-set c.loop-k.devices c.loop-k.k c.fill.new.device ∙ c.loop-k.invariant.devices;
      feeds = length-set c.loop-k.feeds (get_or c.args.sources.now c.loop-k.k 0) c.fill.new.tokens ∙ c.loop-k.invariant.feeds;
      read = read_filled g.I.Intake.left c.args.accepted.now c.args.sources.now c.loop-k.readers c.loop-k.devices c.loop-k.feeds c.loop-k.k c.requires.sources
          c.loop-k-test.true
          (omega (arith, c.loop-k-test.true, c.requires.readers, c.loop-k.invariant.readers))
          (omega (arith, c.loop-k-test.true, c.requires.devices, c.loop-k.invariant.devices))
          c.loop-k.invariant.fed c.fill.new.self c.index-readers-k.result c.fill.new.device c.index-devices-k.result c.fill.new.tokens c.index-feeds-actor.result
          c.fill.ensures.given.0 c.fill.ensures.given.1 c.fill.ensures.given.2 _ _ _ c.loop-k.invariant.read;
      fed = feeds_filled g.I.Intake.left c.args.accepted.now c.args.sources.now c.loop-k.readers c.loop-k.devices c.loop-k.feeds c.loop-k.k c.requires.sources
          c.loop-k-test.true
          (omega (arith, c.loop-k-test.true, c.requires.readers, c.loop-k.invariant.readers))
          (omega (arith, c.loop-k-test.true, c.requires.devices, c.loop-k.invariant.devices))
          c.loop-k.invariant.fed c.fill.new.self c.index-readers-k.result c.fill.new.device c.index-devices-k.result c.fill.new.tokens c.index-feeds-actor.result
          c.fill.ensures.given.0 c.fill.ensures.given.1 c.fill.ensures.given.2
          (few_filled g.I.Intake.left c.args.accepted.now c.args.sources.now c.loop-k.readers c.loop-k.devices c.loop-k.feeds c.loop-k.k c.requires.sources
          c.loop-k-test.true
          (omega (arith, c.loop-k-test.true, c.requires.readers, c.loop-k.invariant.readers))
          (omega (arith, c.loop-k-test.true, c.requires.devices, c.loop-k.invariant.devices))
          c.loop-k.invariant.fed c.fill.new.self c.index-readers-k.result c.fill.new.device c.index-devices-k.result c.fill.new.tokens c.index-feeds-actor.result
          c.fill.ensures.given.0 c.fill.ensures.given.1 c.fill.ensures.given.2 c.in_ok-most.most c.in_ok-most.ensures.few c.fill.ensures.few);
      full = full_filled g.I.Intake.left c.args.accepted.now c.args.sources.now c.loop-k.readers c.loop-k.devices c.loop-k.feeds c.loop-k.k c.requires.sources
          c.loop-k-test.true
          (omega (arith, c.loop-k-test.true, c.requires.readers, c.loop-k.invariant.readers))
          (omega (arith, c.loop-k-test.true, c.requires.devices, c.loop-k.invariant.devices))
          c.loop-k.invariant.fed c.fill.new.self c.index-readers-k.result c.fill.new.device c.index-devices-k.result c.fill.new.tokens c.index-feeds-actor.result
          c.fill.ensures.given.0 c.fill.ensures.given.1 c.fill.ensures.given.2 c.args.periods c.in_ok-most.most
          (c.in_ok-most.ensures.value ∙ ap (λ (n : ℕ). given_in c.args.accepted.now.graph.channels (get_or c.args.sources.now c.loop-k.k 0) (c.args.periods * n)) q)
          c.in_default.ensures.full c.loop-k.invariant.full;
    }
