use Rattle.std.proofs.Common.{arith}
use Rattle.std.proofs.lemmas.Grind.{common_steps}
use Rattle.std.proofs.Common.{◌≡◌, Some, None, ap, inr, map, string_bytes, subst, sym, ◌∙◌}
use Rattle.std.specs.Prelude.{◌⊎◌}
use Rattle.csdf_words.specs.CommandLine.{asked_view, form_asked, form_of}
use Rattle.csdf_answers.specs.declared.fault.ToolFault.TheVariants.{Memory}
use Rattle.std.proofs.lemmas.Result.{on_ok_weaker}
use Rattle.csdf_disk.specs.Acts.{devices}
use Rattle.csdf_tool.specs.Carried.{IsStreamedOut, flows_asked, reads_input}
use Rattle.csdf_flows.specs.Flows.{standard}
use Rattle.csdf_tool.proofs.CauseLemmas.{caused_as, memory_causes}
use Rattle.csdf_tool.proofs.EndLemmas.{at_refusal, at_three, at_zero, carried_as, ended_from, ended_in, lined, lined_unread, on_ok_both, one_asked, some_asked, streamed_as, taken_words, told_as, told_of, use_of}
use Rattle.csdf_tool.proofs.EndLemmas.{nothing_ends, taken_ends, unread_ends}
use Rattle.csdf_tool.proofs.UseLemmas.{two_is_of_files, two_is_told}
use Rattle.csdf_tool.proofs.program.run_words.Goals as goal

pub returns-in-Ok-clause-lined : goal.returns-in-Ok-clause-lined
returns-in-Ok-clause-lined g c =
    lined _ (ended_in _ _ _ _ _ (c.form_of-form.ensures ∙ ap form_asked (sym c.in-Ok.ensures.asked)) (ended_from g.E.Outlet.written c.form_of-form.result c.carry_out-answer.result c.status_after.result c.args.err.now c.carry_out-answer.new.err _ _
    c.carry_out-answer.ensures.silent c.status_after.ensures.ends))

pub returns-in-Ok-clause-carried : goal.returns-in-Ok-clause-carried
returns-in-Ok-clause-carried g c = λ asks taken is zero.
    at_zero c.carry_out-answer.result _ (ended_from g.E.Outlet.written c.form_of-form.result c.carry_out-answer.result c.status_after.result c.args.err.now c.carry_out-answer.new.err _ _
    c.carry_out-answer.ensures.silent c.status_after.ensures.ends) zero
    (carried_as _ c.carry_out-answer.result asks (one_asked c.in-Ok.ensures.asked is) (g.O.Outlet.written c.args.out.now) _ c.carry_out-answer.ensures.carried)

pub returns-in-Ok-clause-caused : goal.returns-in-Ok-clause-caused
returns-in-Ok-clause-caused g c = λ asks taken is some.
    told_of c.carry_out-answer.result _
    (ended_in c.carry_out-answer.result _ _ _ _ (c.form_of-form.ensures ∙ ap form_of (one_asked c.in-Ok.ensures.asked is)) (ended_from g.E.Outlet.written c.form_of-form.result c.carry_out-answer.result c.status_after.result c.args.err.now c.carry_out-answer.new.err _ _
    c.carry_out-answer.ensures.silent c.status_after.ensures.ends)) some
    (caused_as _ c.carry_out-answer.result asks (one_asked c.in-Ok.ensures.asked is) _ _ c.carry_out-answer.ensures.caused)

pub returns-in-Ok-clause-input : goal.returns-in-Ok-clause-input
returns-in-Ok-clause-input g c = λ asks taken is reads failed.
    let same = one_asked c.in-Ok.ensures.asked is in
    let told = c.carry_out-answer.ensures.input (ap reads_input same ∙ reads) failed in
    told_as c.carry_out-answer.result _ told
    (ended_in c.carry_out-answer.result _ _ _ _ (c.form_of-form.ensures ∙ ap form_of same) (ended_from g.E.Outlet.written c.form_of-form.result c.carry_out-answer.result c.status_after.result c.args.err.now c.carry_out-answer.new.err _ _
    c.carry_out-answer.ensures.silent c.status_after.ensures.ends))

pub returns-in-Ok-clause-untouched : goal.returns-in-Ok-clause-untouched
returns-in-Ok-clause-untouched g c = λ why.
    absurd (taken_words (map string_bytes c.args.words.now) _ c.in-Ok.ensures.read c.in-Ok.ensures.asked why)

pub returns-in-Err-clause-carried : goal.returns-in-Err-clause-carried
returns-in-Err-clause-carried g c = λ asks taken is zero.
    let told = taken_ends (map string_bytes c.args.words.now) _ c.in-Err.unread c.in-Err.ensures.unread c.status_of_words.ensures.ends taken (some_asked is) in
    absurd (let no : 3 ≡ 0 = sym told.ends ∙ zero in cc)

pub returns-in-Err-clause-caused : goal.returns-in-Err-clause-caused
returns-in-Err-clause-caused g c = λ asks taken is some.
    let told = taken_ends (map string_bytes c.args.words.now) _ c.in-Err.unread c.in-Err.ensures.unread c.status_of_words.ensures.ends taken (some_asked is) in
    (Memory, memory_causes asks _ _ _ _, inr told)

pub returns-in-Err-clause-input : goal.returns-in-Err-clause-input
returns-in-Err-clause-input g c = λ asks taken is reads failed.
    let told = taken_ends (map string_bytes c.args.words.now) _ c.in-Err.unread c.in-Err.ensures.unread c.status_of_words.ensures.ends taken (some_asked is) in
    inr told

pub returns-in-Err-clause-taken : goal.returns-in-Err-clause-taken
returns-in-Err-clause-taken g c = λ asks taken is two.
    let told = taken_ends (map string_bytes c.args.words.now) _ c.in-Err.unread c.in-Err.ensures.unread c.status_of_words.ensures.ends taken (some_asked is) in
    absurd (let no : 3 ≡ 2 = sym told.ends ∙ two in cc)

pub returns-in-Err-clause-streamed : goal.returns-in-Err-clause-streamed
returns-in-Err-clause-streamed g c = λ asks taken is zero.
    let told = taken_ends (map string_bytes c.args.words.now) _ c.in-Err.unread c.in-Err.ensures.unread c.status_of_words.ensures.ends taken (some_asked is) in
    absurd (let no : 3 ≡ 0 = sym told.ends ∙ zero in cc)

pub returns-in-Err-clause-refused : goal.returns-in-Err-clause-refused
returns-in-Err-clause-refused g c = λ still. c.status_of_words.ensures.refused

pub returns-in-Err-clause-device : goal.returns-in-Err-clause-device
returns-in-Err-clause-device g c = λ still. c.status_of_words.ensures.device

pub returns-in-Err-clause-answered : goal.returns-in-Err-clause-answered
returns-in-Err-clause-answered g c = λ still. c.status_of_words.ensures.answered

pub returns-in-Ok-clause-run : goal.returns-in-Ok-clause-run
returns-in-Ok-clause-run g c = λ asks taken is two.
    two_is_of_files asks _ _ _ (use_of c.carry_out-answer.result _
    (ended_from g.E.Outlet.written c.form_of-form.result c.carry_out-answer.result c.status_after.result c.args.err.now c.carry_out-answer.new.err _ _
    c.carry_out-answer.ensures.silent c.status_after.ensures.ends) two
    (caused_as _ c.carry_out-answer.result asks (one_asked c.in-Ok.ensures.asked is) _ _ c.carry_out-answer.ensures.caused))

pub returns-in-Err-clause-run : goal.returns-in-Err-clause-run
returns-in-Err-clause-run g c = λ asks taken is two.
    let told = taken_ends (map string_bytes c.args.words.now) _ c.in-Err.unread c.in-Err.ensures.unread c.status_of_words.ensures.ends taken (some_asked is) in
    absurd (let no : 3 ≡ 2 = sym told.ends ∙ two in cc)

pub returns-in-Err-clause-nothing : goal.returns-in-Err-clause-nothing
returns-in-Err-clause-nothing g c = λ taken none.
    nothing_ends (map string_bytes c.args.words.now) _ c.in-Err.unread c.in-Err.ensures.unread c.status_of_words.ensures.ends taken

pub returns-in-Ok-clause-nothing : goal.returns-in-Ok-clause-nothing
returns-in-Ok-clause-nothing g c = λ taken none.
    let no : None ≡ Some (asked_view c.in-Ok.request) = sym none ∙ c.in-Ok.ensures.asked in
    absurd (cc)

pub returns-in-Err-clause-unread : goal.returns-in-Err-clause-unread
returns-in-Err-clause-unread g c =
    unread_ends (map string_bytes c.args.words.now) _ c.in-Err.unread c.in-Err.ensures.unread c.status_of_words.ensures.ends

pub returns-in-Ok-clause-refused : goal.returns-in-Ok-clause-refused
returns-in-Ok-clause-refused g c = λ still.
    at_refusal c.carry_out-answer.result _
    (ended_from g.E.Outlet.written c.form_of-form.result c.carry_out-answer.result c.status_after.result c.args.err.now c.carry_out-answer.new.err _ _
    c.carry_out-answer.ensures.silent c.status_after.ensures.ends)
    (c.carry_out-answer.ensures.unwritten (ap flows_asked (sym c.in-Ok.ensures.asked) ∙ still))

pub returns-in-Ok-clause-device : goal.returns-in-Ok-clause-device
returns-in-Ok-clause-device g c = λ still.
    at_three c.carry_out-answer.result _ _
    (ended_from g.E.Outlet.written c.form_of-form.result c.carry_out-answer.result c.status_after.result c.args.err.now c.carry_out-answer.new.err _ _
    c.carry_out-answer.ensures.silent c.status_after.ensures.ends)
    (c.carry_out-answer.ensures.unwritten (ap flows_asked (sym c.in-Ok.ensures.asked) ∙ still)) c.carry_out-answer.ensures.failed

pub returns-in-Ok-clause-answered : goal.returns-in-Ok-clause-answered
returns-in-Ok-clause-answered g c = λ still zero.
    at_zero c.carry_out-answer.result _
    (ended_from g.E.Outlet.written c.form_of-form.result c.carry_out-answer.result c.status_after.result c.args.err.now c.carry_out-answer.new.err _ _
    c.carry_out-answer.ensures.silent c.status_after.ensures.ends) zero
    (on_ok_weaker c.carry_out-answer.result
    (λ e. e ∙ c.carry_out-answer.ensures.unspoken (ap flows_asked (sym c.in-Ok.ensures.asked) ∙ still)) c.status_after.ensures.silent)

pub returns-in-Ok-clause-streamed : goal.returns-in-Ok-clause-streamed
returns-in-Ok-clause-streamed g c = λ asks taken is zero.
    let seen = λ (e : g.row.E.Denot). IsStreamedOut asks (devices (g.I.Intake.left c.args.reader.now) (g.D.Disk.acts c.args.disk.now)
    (g.D.Disk.acts c.carry_out-answer.new.disk)) (standard (g.I.Intake.left c.args.reader.now) (g.I.Intake.left c.carry_out-answer.new.reader)
    (g.O.Outlet.written c.args.out.now) (g.O.Outlet.written c.carry_out-answer.new.out) (g.E.Outlet.written c.args.err.now) (g.E.Outlet.written e)
    (g.E.Outlet.failed e)) in
    at_zero c.carry_out-answer.result _
    (ended_from g.E.Outlet.written c.form_of-form.result c.carry_out-answer.result c.status_after.result c.args.err.now c.carry_out-answer.new.err _ _
    c.carry_out-answer.ensures.silent c.status_after.ensures.ends) zero
    (on_ok_both c.carry_out-answer.result (λ same put. subst seen (sym same) put) c.status_after.ensures.silent
    (streamed_as _ c.carry_out-answer.result asks (one_asked c.in-Ok.ensures.asked is) _ c.carry_out-answer.ensures.streamed))

pub returns-in-Ok-clause-taken : goal.returns-in-Ok-clause-taken
returns-in-Ok-clause-taken g c = λ asks taken is two.
    two_is_told asks _ _ _ (use_of c.carry_out-answer.result _
    (ended_in c.carry_out-answer.result _ _ _ _ (c.form_of-form.ensures ∙ ap form_of (one_asked c.in-Ok.ensures.asked is))
    (ended_from g.E.Outlet.written c.form_of-form.result c.carry_out-answer.result c.status_after.result c.args.err.now c.carry_out-answer.new.err _ _
    c.carry_out-answer.ensures.silent c.status_after.ensures.ends)) two
    (caused_as _ c.carry_out-answer.result asks (one_asked c.in-Ok.ensures.asked is) _ _ c.carry_out-answer.ensures.caused))

pub returns-in-Ok-clause-unread : goal.returns-in-Ok-clause-unread
returns-in-Ok-clause-unread g c = λ some. absurd (some c.in-Ok.ensures.read)

pub returns-in-Err-clause-lined : goal.returns-in-Err-clause-lined
returns-in-Err-clause-lined g c =
    let status = c.status_of_words.result in
    let only : (status ≡ 1) ⊎ (status ≡ 3) → status ≡ 3 = grind (arith, common_steps) in
    lined_unread only c.status_of_words.ensures.lined

pub returns-in-Err-clause-reason : goal.returns-in-Err-clause-reason
returns-in-Err-clause-reason g c = λ none.
    record { why = c.in-Err.unread; unread = c.in-Err.ensures.unread; ends = c.status_of_words.ensures.ends }

pub returns-in-Ok-clause-reason : goal.returns-in-Ok-clause-reason
returns-in-Ok-clause-reason g c = λ none.
    let no : None ≡ Some (asked_view c.in-Ok.request) = sym none ∙ c.in-Ok.ensures.asked in
    absurd (cc)
