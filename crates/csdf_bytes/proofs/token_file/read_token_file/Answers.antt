use Rattle.std.proofs.Common.{◌≤◌, ◌++◌, sym, subst, arith, length, List, ℕ, length-append}
use Rattle.std.specs.Prelude.{OnOk}
use Rattle.std.specs.Io.KnownBytes.{Consumes}
use Rattle.std.proofs.KnownBytes.{Consumes-trans, Consumes-whole}
use Rattle.csdf_bytes.specs.FileTokens.{HasRead}
use Rattle.csdf_bytes.specs.TokenStream.{IsOneLine}
use Rattle.csdf_bytes.proofs.FileTokensLemmas.{file-came, file-cause, file-told, has_read-fetched, on_ok, taken-long}
use Rattle.csdf_bytes.proofs.TokenStreamLemmas.{held-same}
use Rattle.csdf_bytes.proofs.token_file.read_token_file.Goals as goal

pub returns-then-count-eq0-clause-told : goal.returns-then-count-eq0-clause-told
returns-then-count-eq0-clause-told g c =
    let came = c.in-Ok-fetch.ensures.fetched in
    let text : List ℕ = c.loop-count.invariant.text ++ came.bytes in
    let size = length-append c.loop-count.invariant.text came.bytes in
    let taken : Consumes (g.I.Intake.left c.args.reader.now) (g.I.Intake.left c.fetch.new.device) text =
    Consumes-trans _ _ _ c.loop-count.invariant.text came.bytes c.loop-count.invariant.taken came.taken in
    let read : HasRead text c.fetch.new.self.line c.fetch.new.self.bytes c.loop-count.file.tokens.items c.loop-count.file.found =
    subst (λ line. HasRead text line c.fetch.new.self.bytes c.loop-count.file.tokens.items c.loop-count.file.found) (sym c.in-Ok-fetch.ensures.line)
    (has_read-fetched c.loop-count.invariant.text came.bytes c.loop-count.file.lines.bytes c.fetch.new.self.bytes c.loop-count.file.lines.line
    c.loop-count.file.tokens.items c.loop-count.file.found c.loop-count.invariant.read came.appended) in
    let whole : OnOk c.loop-count.file.found (IsOneLine c.fetch.new.self.bytes) =
    subst (λ bytes. OnOk c.loop-count.file.found (IsOneLine bytes))
    (sym (held-same c.in-Ok-fetch.count c.loop-count.file.lines.bytes c.fetch.new.self.bytes _ _ came c.if-count-eq0.true)) c.loop-count.invariant.whole in
    let short : length text ≤ 16777216 =
    let room = c.loop-count.invariant.room in
    let some = c.loop-count.invariant.some in omega (arith, size, came.count, c.if-count-eq0.true, room, some) in
    file-told c.told.result c.finish.result (λ tokens. tokens.items) (g.I.Intake.left c.args.reader.now) (g.I.Intake.left c.fetch.new.device) text
    c.told.ensures.told c.told.ensures.text (c.finish.ensures text read whole) taken (came.ended c.if-count-eq0.true) short

pub returns-then-count-eq0-clause-came : goal.returns-then-count-eq0-clause-came
returns-then-count-eq0-clause-came g c =
    let came = c.in-Ok-fetch.ensures.fetched in
    let text : List ℕ = c.loop-count.invariant.text ++ came.bytes in
    let size = length-append c.loop-count.invariant.text came.bytes in
    let taken : Consumes (g.I.Intake.left c.args.reader.now) (g.I.Intake.left c.fetch.new.device) text =
    Consumes-trans _ _ _ c.loop-count.invariant.text came.bytes c.loop-count.invariant.taken came.taken in
    let read : HasRead text c.fetch.new.self.line c.fetch.new.self.bytes c.loop-count.file.tokens.items c.loop-count.file.found =
    subst (λ line. HasRead text line c.fetch.new.self.bytes c.loop-count.file.tokens.items c.loop-count.file.found) (sym c.in-Ok-fetch.ensures.line)
    (has_read-fetched c.loop-count.invariant.text came.bytes c.loop-count.file.lines.bytes c.fetch.new.self.bytes c.loop-count.file.lines.line
    c.loop-count.file.tokens.items c.loop-count.file.found c.loop-count.invariant.read came.appended) in
    let whole : OnOk c.loop-count.file.found (IsOneLine c.fetch.new.self.bytes) =
    subst (λ bytes. OnOk c.loop-count.file.found (IsOneLine bytes))
    (sym (held-same c.in-Ok-fetch.count c.loop-count.file.lines.bytes c.fetch.new.self.bytes _ _ came c.if-count-eq0.true)) c.loop-count.invariant.whole in
    let short : length text ≤ 16777216 =
    let room = c.loop-count.invariant.room in
    let some = c.loop-count.invariant.some in omega (arith, size, came.count, c.if-count-eq0.true, room, some) in
    file-came c.told.result c.finish.result (λ tokens. tokens.items) (g.I.Intake.left c.args.reader.now) (g.I.Intake.left c.fetch.new.device) text
    c.told.ensures.told c.told.ensures.text (c.finish.ensures text read whole) taken short

pub returns-then-count-eq0-clause-text : goal.returns-then-count-eq0-clause-text
returns-then-count-eq0-clause-text g c =
    let came = c.in-Ok-fetch.ensures.fetched in
    let text : List ℕ = c.loop-count.invariant.text ++ came.bytes in
    let read : HasRead text c.fetch.new.self.line c.fetch.new.self.bytes c.loop-count.file.tokens.items c.loop-count.file.found =
    subst (λ line. HasRead text line c.fetch.new.self.bytes c.loop-count.file.tokens.items c.loop-count.file.found) (sym c.in-Ok-fetch.ensures.line)
    (has_read-fetched c.loop-count.invariant.text came.bytes c.loop-count.file.lines.bytes c.fetch.new.self.bytes c.loop-count.file.lines.line
    c.loop-count.file.tokens.items c.loop-count.file.found c.loop-count.invariant.read came.appended) in
    let whole : OnOk c.loop-count.file.found (IsOneLine c.fetch.new.self.bytes) =
    subst (λ bytes. OnOk c.loop-count.file.found (IsOneLine bytes))
    (sym (held-same c.in-Ok-fetch.count c.loop-count.file.lines.bytes c.fetch.new.self.bytes _ _ came c.if-count-eq0.true)) c.loop-count.invariant.whole in
    file-cause c.told.result c.finish.result (λ tokens. tokens.items) text c.told.ensures.told c.told.ensures.text (c.finish.ensures text read whole)

pub returns-then-count-eq0-clause-short : goal.returns-then-count-eq0-clause-short
returns-then-count-eq0-clause-short g c =
    let came = c.in-Ok-fetch.ensures.fetched in
    let text : List ℕ = c.loop-count.invariant.text ++ came.bytes in
    let size = length-append c.loop-count.invariant.text came.bytes in
    let taken : Consumes (g.I.Intake.left c.args.reader.now) (g.I.Intake.left c.fetch.new.device) text =
    Consumes-trans _ _ _ c.loop-count.invariant.text came.bytes c.loop-count.invariant.taken came.taken in
    let short : length text ≤ 16777216 =
    let room = c.loop-count.invariant.room in
    let some = c.loop-count.invariant.some in omega (arith, size, came.count, c.if-count-eq0.true, room, some) in
    on_ok c.told.result _ (Consumes-whole _ _ text (λ bytes. length bytes ≤ 16777216) taken (came.ended c.if-count-eq0.true) short)

pub returns-then-count-room-clause-long : goal.returns-then-count-room-clause-long
returns-then-count-room-clause-long g c = λ _.
    let came = c.in-Ok-fetch.ensures.fetched in
    let text : List ℕ = c.loop-count.invariant.text ++ came.bytes in
    let size = length-append c.loop-count.invariant.text came.bytes in
    let taken : Consumes (g.I.Intake.left c.args.reader.now) (g.I.Intake.left c.fetch.new.device) text =
    Consumes-trans _ _ _ c.loop-count.invariant.text came.bytes c.loop-count.invariant.taken came.taken in
    let room = c.loop-count.invariant.room in
    taken-long _ _ text 16777216 taken (omega (arith, size, came.count, room, c.if-count-room.true))

pub returns-then-count-room-clause-few : goal.returns-then-count-room-clause-few
returns-then-count-room-clause-few g c =
    let came = c.in-Ok-fetch.ensures.fetched in
    let text : List ℕ = c.loop-count.invariant.text ++ came.bytes in
    let size = length-append c.loop-count.invariant.text came.bytes in
    let taken : Consumes (g.I.Intake.left c.args.reader.now) (g.I.Intake.left c.fetch.new.device) text =
    Consumes-trans _ _ _ c.loop-count.invariant.text came.bytes c.loop-count.invariant.taken came.taken in
    let room = c.loop-count.invariant.room in
    record { bytes = text; taken = taken; few = omega (arith, size, came.count, room, c.if-count-room.true) }

pub loop-count-preserved : goal.loop-count-preserved
loop-count-preserved g c =
    let came = c.in-Ok-fetch.ensures.fetched in
    let text : List ℕ = c.loop-count.invariant.text ++ came.bytes in
    let size = length-append c.loop-count.invariant.text came.bytes in
    let taken : Consumes (g.I.Intake.left c.args.reader.now) (g.I.Intake.left c.fetch.new.device) text =
    Consumes-trans _ _ _ c.loop-count.invariant.text came.bytes c.loop-count.invariant.taken came.taken in
    let read : HasRead text c.fetch.new.self.line c.fetch.new.self.bytes c.loop-count.file.tokens.items c.loop-count.file.found =
    subst (λ line. HasRead text line c.fetch.new.self.bytes c.loop-count.file.tokens.items c.loop-count.file.found) (sym c.in-Ok-fetch.ensures.line)
    (has_read-fetched c.loop-count.invariant.text came.bytes c.loop-count.file.lines.bytes c.fetch.new.self.bytes c.loop-count.file.lines.line
    c.loop-count.file.tokens.items c.loop-count.file.found c.loop-count.invariant.read came.appended) in
    let room = c.loop-count.invariant.room in
    record {
      text = text;
      taken = taken;
      room = omega (arith, size, came.count, room, c.in-Ok-fetch.ensures.few);
      some = omega (arith, c.in-Ok-fetch.ensures.few, c.if-count-room.false);
      read = c.note_lines.ensures.read text read;
      whole = c.note_lines.ensures.whole;
    }
