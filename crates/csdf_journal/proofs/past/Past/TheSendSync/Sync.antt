-- A past owns nothing, so threads may share it.
use denote.Param.Send.{IsSync, part_keyless}
use Rattle.csdf_journal.specs.contracts.past.Past.{the_row}
use Rattle.csdf_journal.proofs.past.Past.TheSendSync.Send.{send}

pub sync : IsSync the_row
sync = record { shared = λ d b o κ share. part_keyless the_row send share d b o }
