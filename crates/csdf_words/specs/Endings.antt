-- The texts that the help of the commands ends with.
use Rattle.clap.specs.Words.{Text}
use Rattle.csdf_words.specs.declared.help.TheConstants.{RUN, STREAM, MOVES, CHECK, REPETITION, SCHEDULE, CAPACITY, DOT, EXPLAIN}
use Rattle.csdf_words.specs.declared.help.HelpEnding.{HelpEnding}
use Rattle.csdf_words.specs.declared.help.HelpEnding.TheVariants as of

abbrev pub ending_text : HelpEnding → Text
ending_text of.Run = RUN.now
ending_text of.Stream = STREAM.now
ending_text of.Moves = MOVES.now
ending_text of.Check = CHECK.now
ending_text of.Repetition = REPETITION.now
ending_text of.Schedule = SCHEDULE.now
ending_text of.Capacity = CAPACITY.now
ending_text of.Dot = DOT.now
ending_text of.Explain = EXPLAIN.now
