use Rattle.std.proofs.Common.{◌≡◌, ◌∙◌, sym, arith, to_z, of_z}
use Rattle.std.proofs.lemmas.Int.{ints}
use mir.Syntax.{w32}
use Rattle.csdf_bytes.proofs.SampleLemmas.{value-s16be, value-s16le, value-s32be, value-s32le, value-s8, value-u8}
use Rattle.csdf_bytes.proofs.sample_format.SampleFormat.value_of.Goals as goal

pub returns-in-U8 : goal.returns-in-U8
returns-in-U8 c =
    let same : to_z w32 (of_z w32 c.from.result) ≡ c.from.result = omega (arith, ints) in
    same ∙ c.from.ensures ∙ sym (value-u8 c.args.self c.args.sample.now c.in-U8.is c.requires)

pub returns-in-S8 : goal.returns-in-S8
returns-in-S8 c =
    let same : to_z w32 (of_z w32 c.from-in-S8.result) ≡ c.from_le_bytes.result = omega (arith, ints) in
    same ∙ c.from_le_bytes.ensures ∙ sym (value-s8 c.args.self c.args.sample.now c.in-S8.is c.requires (λ i. omega (arith, c.type_inv.sample i)))

pub returns-in-S16Le : goal.returns-in-S16Le
returns-in-S16Le c =
    let same : to_z w32 (of_z w32 c.from-in-S16Le.result) ≡ c.from_le_bytes-in-S16Le.result = omega (arith, ints) in
    same ∙ c.from_le_bytes-in-S16Le.ensures ∙ sym (value-s16le c.args.self c.args.sample.now c.in-S16Le.is c.requires (λ i. omega (arith, c.type_inv.sample i)))

pub returns-in-S16Be : goal.returns-in-S16Be
returns-in-S16Be c =
    let same : to_z w32 (of_z w32 c.from-in-S16Be.result) ≡ c.from_be_bytes.result = omega (arith, ints) in
    same ∙ c.from_be_bytes.ensures ∙ sym (value-s16be c.args.self c.args.sample.now c.in-S16Be.is c.requires (λ i. omega (arith, c.type_inv.sample i)))

pub returns-in-S32Le : goal.returns-in-S32Le
returns-in-S32Le c =
    let same : to_z w32 (of_z w32 c.from_le_bytes-in-S32Le.result) ≡ c.from_le_bytes-in-S32Le.result = omega (arith, ints) in
    same ∙ c.from_le_bytes-in-S32Le.ensures ∙ sym (value-s32le c.args.self c.args.sample.now c.in-S32Le.is c.requires (λ i. omega (arith, c.type_inv.sample i)))

pub returns-in-S32Be : goal.returns-in-S32Be
returns-in-S32Be c =
    let same : to_z w32 (of_z w32 c.from_be_bytes-in-S32Be.result) ≡ c.from_be_bytes-in-S32Be.result = omega (arith, ints) in
    same ∙ c.from_be_bytes-in-S32Be.ensures ∙ sym (value-s32be c.args.self c.args.sample.now c.in-S32Be.is c.requires (λ i. omega (arith, c.type_inv.sample i)))
