use Rattle.std.proofs.Common.{◌≡◌, ℕ, ◌+◌, ◌<◌, List, length}
use Rattle.std.specs.Prelude.{OnOk}
use Rattle.std.specs.Io.KnownBytes.{Consumes}
use Rattle.csdf_bytes.specs.FileTokens.{HasRead}
use Rattle.csdf_bytes.specs.TokenStream.{IsOneLine}
use Rattle.csdf_bytes.proofs.token_file.read_token_file.Given as goal

abbrev pub invariant-loop-count : goal.invariant-loop-count
invariant-loop-count g l = record {
  text : List ℕ;
  taken : Consumes (g.I.Intake.left l.fn.reader) (g.I.Intake.left l.reader) text;
  room : length text + l.room ≡ 16777217;
  some : 0 < l.room;
  read : HasRead text l.file.lines.line l.file.lines.bytes l.file.tokens.items l.file.found;
  whole : OnOk l.file.found (IsOneLine l.file.lines.bytes);
}

abbrev pub decreases-loop-count : goal.decreases-loop-count
decreases-loop-count g l = l.room
