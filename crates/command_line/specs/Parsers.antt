-- The commands of `clap` that read the words behind the first.
use Rattle.std.specs.Prelude.{ℕ, true, Some, codes}
use Rattle.clap.specs.Simple.{on_top}
use Rattle.clap.specs.Words.{App, Rule, Text, new_app, new_rule, with_rule}
use Rattle.clap.specs.declared.builder.action.ArgAction.TheVariants.{Set}
use Rattle.clap.specs.declared.builder.value_parser.ValueParser.TheVariants.{Unsigned}

-- the most that 32 and 64 bits hold
abbrev pub most_32 : ℕ
most_32 = 4294967295

abbrev pub most_64 : ℕ
most_64 = 18446744073709551615

-- a command without arguments, all of whose words are arguments
abbrev pub bare : Text → App
bare name = on_top (λ s. record s { no_binary_name = true }) (new_app name)

-- a required argument: a number of at most `most`
abbrev pub number_rule : Text → ℕ → Rule
number_rule id most = record (new_rule id) { required = true; action = Some Set; parser = Some (Unsigned 0 most) }

-- a command of one number
abbrev pub number_app : Text → App
number_app name = with_rule (bare name) (number_rule (codes "number") most_64)

-- a command of the four numbers of a shape
abbrev pub session_app : App
session_app = with_rule (with_rule (with_rule (with_rule (bare (codes "session"))
    (number_rule (codes "k") most_32)) (number_rule (codes "m") most_32)) (number_rule (codes "blocks") most_32)) (number_rule (codes "block") most_32)

-- an argument that may be left out: any text
abbrev pub name_rule : Rule
name_rule = record (new_rule (codes "name")) { action = Some Set }

-- a command that may have a name
abbrev pub named_app : Text → App
named_app name = with_rule (bare name) name_rule
