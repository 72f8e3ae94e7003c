use Rattle.std.proofs.Common.{◌+◌, ◌++◌, ◌∙◌, ap, arith, take, drop, length-drop}
use Rattle.std.proofs.lemmas.List.{length-take-le, with_items_is}
use Rattle.csdf_bytes.specs.Buffered.{Held}
use Rattle.csdf_bytes.proofs.BufferLemmas.{held, held-kept, held-more}
use Rattle.csdf_bytes.proofs.buffer.Buffer.fetch.Goals as goal

pub returns-in-Err-clause-unchanged : goal.returns-in-Err-clause-unchanged
returns-in-Err-clause-unchanged g c =
    ap (λ items. held items c.self.inside.start c.self.inside.end)
    (with_items_is c.self.inside.bytes c.fetch_behind.new.bytes (c.in-Err.ensures.length ∙ c.deref_mut.ensures.len))
    ∙ held-kept c.self.inside.bytes.items c.fetch_behind.new.bytes c.self.inside.start c.self.inside.end
    (c.in-Err.ensures.front ∙ ap (take c.self.inside.end) c.deref_mut.ensures.value)
    ∙ ap (λ (v : Held). v.bytes) c.self.view_is

pub returns-in-Ok-clause-fetched : goal.returns-in-Ok-clause-fetched
returns-in-Ok-clause-fetched g c = record {
  bytes = take c.in-Ok.count (drop c.self.inside.end c.fetch_behind.new.bytes);
  count = length-take-le c.in-Ok.count (drop c.self.inside.end c.fetch_behind.new.bytes)
      (omega (arith, length-drop c.self.inside.end c.fetch_behind.new.bytes, c.in-Ok.ensures.few.1, c.in-Ok.ensures.length));
  appended =
      ap (λ items. held items c.self.inside.start (c.self.inside.end + c.in-Ok.count))
      (with_items_is c.self.inside.bytes c.fetch_behind.new.bytes (c.in-Ok.ensures.length ∙ c.deref_mut.ensures.len))
      ∙ held-more c.fetch_behind.new.bytes c.self.inside.start c.self.inside.end c.in-Ok.count c.self.invariant.0
      ∙ ap (λ front. front ++ take c.in-Ok.count (drop c.self.inside.end c.fetch_behind.new.bytes))
      (held-kept c.self.inside.bytes.items c.fetch_behind.new.bytes c.self.inside.start c.self.inside.end
      (c.in-Ok.ensures.front ∙ ap (take c.self.inside.end) c.deref_mut.ensures.value)
      ∙ ap (λ (v : Held). v.bytes) c.self.view_is);
  taken = c.in-Ok.ensures.fetched;
  ended = c.in-Ok.ensures.ended;
}
