-- Whose device has failed.
use Rattle.std.proofs.Common.{◌≡◌, ℕ, ◌<◌, Bool, true, false, List, length, map, get_or, set, refl, ap, sym, ◌∙◌, arith}
use Rattle.std.specs.Prelude.{Option}
use Rattle.std.proofs.lemmas.List.{get_or-set_same, length-map, map-set}
use Rattle.csdf_analysis.specs.Acceptance.{Accepted}
use Rattle.csdf_stream.specs.declared.end.StreamFault.{StreamFault}
use Rattle.csdf_stream.specs.declared.end.StreamFault.TheVariants as why
use Rattle.csdf_stream.specs.declared.flow.FlowPlan.{FlowPlan}
use Rattle.csdf_stream.specs.declared.reader.Reader.{Reader}
use Rattle.csdf_stream.specs.declared.reader.ReaderFault.{ReaderFault}
use Rattle.csdf_stream.specs.declared.reader.ReaderFault.TheVariants as reader
use Rattle.csdf_stream.specs.Feeding.{source_at}
use Rattle.csdf_stream.specs.Flowing.{IsUnfedBy}
use Rattle.csdf_stream.specs.Marks.{HasFailed, IsMarked, IsReadMarked}

module _ {D : Type 0} (failed : D → Bool) (actors : List ℕ) (ds : List D) (k : ℕ) (d : D) (here : k < length actors) (there : k < length ds) where
  -- the device in a place fails
  pub failed_at : failed d ≡ true → HasFailed actors (map failed (set ds k d)) (source_at actors k)
  failed_at is = (
    k,
    here,
    refl,
    ap (λ (marks : List Bool). get_or marks k false) (map-set failed ds k d)
        ∙ get_or-set_same (map failed ds) k (failed d) false (let n = length-map ds failed in omega (arith, n, there))
        ∙ is,
  )

  pub marked_at : (fault : ReaderFault) → (fault ≡ reader.Read → failed d ≡ true) → IsReadMarked actors (map failed (set ds k d)) (why.Source (source_at actors k) fault)
  marked_at reader.Read is = failed_at (is refl)
  marked_at (reader.Syntax line) is = tt
  marked_at (reader.Range line) is = tt
  marked_at (reader.CutOff number) is = tt
  marked_at reader.Memory is = tt

-- a fault of sources alone
pub marked_read : (a : Accepted) (p : FlowPlan) (readers : List Reader) (rests : List (Option (List ℕ))) (sources sinks : List ℕ) (ins outs : List Bool) (fault : StreamFault)
    → IsUnfedBy a p readers rests fault → IsReadMarked sources ins fault → IsMarked sources sinks ins outs fault
marked_read a p readers rests sources sinks ins outs (why.Source i reader.Read) unfed is = is
marked_read a p readers rests sources sinks ins outs (why.Source i (reader.Syntax line)) unfed is = tt
marked_read a p readers rests sources sinks ins outs (why.Source i (reader.Range line)) unfed is = tt
marked_read a p readers rests sources sinks ins outs (why.Source i (reader.CutOff number)) unfed is = tt
marked_read a p readers rests sources sinks ins outs (why.Source i reader.Memory) unfed is = tt
marked_read a p readers rests sources sinks ins outs (why.TooMany i) unfed is = tt
marked_read a p readers rests sources sinks ins outs (why.Sink t) unfed is = absurd unfed.3
marked_read a p readers rests sources sinks ins outs (why.Run fault) unfed is = tt
marked_read a p readers rests sources sinks ins outs why.Memory unfed is = tt
