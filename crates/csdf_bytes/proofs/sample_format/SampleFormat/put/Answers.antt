use Rattle.std.proofs.Common.{◌∙◌, refl}
use Rattle.csdf_bytes.proofs.SampleBytesLemmas.{bytes-s16be, bytes-s16le, bytes-s32be, bytes-s32le, bytes-s8, bytes-u8}
use Rattle.csdf_bytes.proofs.sample_format.SampleFormat.put.Goals as goal

pub returns-in-U8 : goal.returns-in-U8
returns-in-U8 c = c.copy_from_slice.ensures.after ∙ bytes-u8 c.args.self c.args.number c.in-U8.is c.requires.fits c.ranges.number

pub returns-in-S8 : goal.returns-in-S8
returns-in-S8 c =
    c.copy_from_slice-in-S8.ensures.after ∙ c.to_le_bytes.ensures
    ∙ bytes-s8 c.args.self c.args.number c.in-S8.is c.requires.fits c.ranges.number

pub returns-in-S16Le : goal.returns-in-S16Le
returns-in-S16Le c =
    c.copy_from_slice-in-S16Le.ensures.after ∙ c.to_le_bytes-in-S16Le.ensures
    ∙ bytes-s16le c.args.self c.args.number c.in-S16Le.is c.requires.fits c.ranges.number _ refl

pub returns-in-S16Be : goal.returns-in-S16Be
returns-in-S16Be c =
    c.copy_from_slice-in-S16Be.ensures.after ∙ c.to_be_bytes.ensures
    ∙ bytes-s16be c.args.self c.args.number c.in-S16Be.is c.requires.fits c.ranges.number _ refl

pub returns-in-S32Le : goal.returns-in-S32Le
returns-in-S32Le c =
    c.copy_from_slice-in-S32Le.ensures.after ∙ c.to_le_bytes-in-S32Le.ensures
    ∙ bytes-s32le c.args.self c.args.number c.in-S32Le.is c.ranges.number _ refl

pub returns-in-S32Be : goal.returns-in-S32Be
returns-in-S32Be c =
    c.copy_from_slice-in-S32Be.ensures.after ∙ c.to_be_bytes-in-S32Be.ensures
    ∙ bytes-s32be c.args.self c.args.number c.in-S32Be.is c.ranges.number _ refl
