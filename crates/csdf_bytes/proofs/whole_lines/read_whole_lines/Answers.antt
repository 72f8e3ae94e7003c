use Rattle.std.proofs.Common.{◌≡◌, ℕ, ◌≤◌, ◌+◌, ◌-◌, ◌∙◌, ap, sym, subst, arith, length, take, drop, length-drop, Some}
use Rattle.std.specs.List.{position}
use Rattle.std.proofs.lemmas.List.{take_rest}
use Rattle.csdf_bytes.specs.TokenStream.{ReadsEntry, ReadsOn, entry_at}
use Rattle.csdf_bytes.specs.TokenText.{is_newline}
use Rattle.csdf_bytes.proofs.TokenStreamLemmas.{ends-within, faulty-line, has-line, length-reads-line, one-line, reads-line, reads-then}
use Rattle.csdf_bytes.proofs.whole_lines.read_whole_lines.Goals as goal

pub returns-in_default-clause-whole : goal.returns-in_default-clause-whole
returns-in_default-clause-whole c = λ _.
    one-line (drop c.loop-left.used c.args.text.now)
    (ap (position is_newline) (sym (take_rest c.args.text.now c.loop-left.used)) ∙ sym c.in_default.ensures)

pub returns-in-Err-clause-fault : goal.returns-in-Err-clause-fault
returns-in-Err-clause-fault c = λ told.
    let found : position is_newline (drop c.loop-left.used c.args.text.now) ≡ Some c.in-Some.end =
    ap (position is_newline) (sym (take_rest c.args.text.now c.loop-left.used)) ∙ sym c.in-Some.ensures in
    let size : c.in-Some.end ≡ (c.loop-left.used + c.in-Some.end) - c.loop-left.used = omega arith in
    faulty-line c.loop-left.line (drop c.loop-left.used c.args.text.now) c.in-Some.end c.in-Err.fault found
    (ap (λ n. entry_at c.loop-left.line (take n (drop c.loop-left.used c.args.text.now))) size ∙ c.in-Err.ensures.fault told)

pub loop-left-preserved : goal.loop-left-preserved
loop-left-preserved c =
    let found : position is_newline (drop c.loop-left.used c.args.text.now) ≡ Some c.in-Some.end =
    ap (position is_newline) (sym (take_rest c.args.text.now c.loop-left.used)) ∙ sym c.in-Some.ensures in
    let size : (c.loop-left.used + c.in-Some.end) - c.loop-left.used ≡ c.in-Some.end = omega arith in
    let one : ReadsEntry c.loop-left.line (take c.in-Some.end (drop c.loop-left.used c.args.text.now)) c.loop-left.tokens.items c.push_token.new.tokens.items =
    subst (λ n. ReadsEntry c.loop-left.line (take n (drop c.loop-left.used c.args.text.now)) c.loop-left.tokens.items c.push_token.new.tokens.items) size
    c.in_default-push_token.ensures.read in
    let grown = length-reads-line c.loop-left.tokens.items c.push_token.new.tokens.items c.loop-left.line
    (take c.in-Some.end (drop c.loop-left.used c.args.text.now)) one in
    let used : ℕ = c.loop-left.used + (c.in-Some.end + 1) in
    let inside = ends-within (drop c.loop-left.used c.args.text.now) c.in-Some.end found in
    let within : used ≤ length c.args.text.now = omega (arith, inside, length-drop c.loop-left.used c.args.text.now) in
    let rest = take_rest c.args.text.now used in
    let so_far : ReadsOn c.args.first c.args.text.now c.saturating_add.result (drop used c.args.text.now) c.args.tokens.now.items
    c.push_token.new.tokens.items
    = subst (λ n. ReadsOn c.args.first c.args.text.now n (drop used c.args.text.now) c.args.tokens.now.items c.push_token.new.tokens.items)
    (sym c.saturating_add.ensures)
    (reads-line c.args.first c.loop-left.line c.args.text.now c.loop-left.used c.in-Some.end _ _ _ c.loop-left.invariant.read found one) in
    let quick = c.read_quick_lines-quick-in-loop-left in
    record {
      within = omega (arith, within, quick.ensures.used, ap length rest, length-drop used c.args.text.now);
      read = reads-then c.args.first c.saturating_add.result quick.result.line c.args.text.now used quick.result.used c.args.tokens.now.items
          c.push_token.new.tokens.items quick.new.tokens.items so_far
          (subst (λ text. ReadsOn c.saturating_add.result text quick.result.line (drop quick.result.used text) c.push_token.new.tokens.items
          quick.new.tokens.items) rest quick.ensures.read);
      count = let all = c.loop-left.invariant.count in
          omega (arith, all, quick.ensures.count, grown.0, grown.1, c.len.ensures, c.len-before.ensures, c.loop-left-test.true);
      found = λ _. has-line c.args.text.now c.loop-left.used c.in-Some.end found;
      idle = λ none. absurd (omega arith);
    }
