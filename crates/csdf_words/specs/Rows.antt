-- What the rows of the table of commands say, by the meaning that clap gives to a command.
use Rattle.std.specs.Prelude.{List, [], ◌∷◌, Some, true}
use Rattle.clap.specs.Words.{App, Rule, new_app, new_rule, with_rule, with_subcommand}
use Rattle.clap.specs.declared.builder.action.ArgAction.TheVariants.{SetTrue}
use Rattle.clap.specs.declared.builder.value_parser.ValueParser.TheVariants.{Names, Unsigned}
use Rattle.csdf_words.specs.declared.rows.ArgumentRow.{ArgumentRow}
use Rattle.csdf_words.specs.declared.rows.CommandRow.{CommandRow}
use Rattle.csdf_words.specs.declared.rows.Given.{Given}
use Rattle.csdf_words.specs.declared.rows.Given.TheVariants as given

-- the rule of an argument's row
abbrev pub rule_given : Given → Rule → Rule
rule_given given.Place r = record r { required = true }
rule_given given.LastPlace r = r
rule_given given.Nothing r = record r { long = Some r.id; action = Some SetTrue }
rule_given (given.Text word) r = record r { long = Some r.id; value_names = 1 }
rule_given (given.Number letter range) r = record r { long = Some r.id; value_names = 1; parser = Some (Unsigned range.0 range.1) }
rule_given (given.Name word names) r = record r { long = Some r.id; value_names = 1; parser = Some (Names names) }

abbrev pub rule_of_row : ArgumentRow → Rule
rule_of_row row = rule_given row.given (new_rule row.name.now)

-- a command with the arguments of rows, in turn
abbrev pub with_rows : App → List ArgumentRow → App
with_rows a [] = a
with_rows a (row ∷ rows) = with_rows (with_rule a (rule_of_row row)) rows

-- the command of a row
abbrev pub app_of_row : CommandRow → App
app_of_row row = with_rows (new_app row.name.now) row.arguments.now

-- a program with the commands of rows, in turn
abbrev pub with_command_row : App → CommandRow → App
with_command_row a row = with_subcommand a (app_of_row row).top

abbrev pub with_command_rows : App → List CommandRow → App
with_command_rows a [] = a
with_command_rows a (row ∷ rows) = with_command_rows (with_command_row a row) rows
