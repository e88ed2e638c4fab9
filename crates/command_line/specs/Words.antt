-- The command that words say.
use Rattle.std.specs.Prelude.{ℕ, List, [], ◌∷◌, Option, Some, None, option_and_then, option_map, if◌then◌else◌, codes}
use Rattle.std.specs.Str.{bytes_eq}
use Rattle.std.specs.Str.Parse.{digits_value, without_leading_plus}
use Rattle.clap.specs.ValueTests.{is_unsigned_in}
use Rattle.clap.specs.Walk.{is_empty}
use Rattle.clap.specs.Words.{App, Row, Text, fault_of, first_of, matches_of, one_of}
use Rattle.command_line.specs.Parsers.{bare, most_32, most_64, named_app, number_app, session_app}
use Rattle.command_line.specs.declared.command.Command.{Command}
use Rattle.command_line.specs.declared.command.Command.TheVariants.{Carry, Frames, Make, Member, Play, PlayGroups}
use Rattle.command_line.specs.declared.command.Command.TheVariants.{PlayRegroup, Serve, Session, Trial, Verify, Watch}

-- the number that a text writes in decimal digits, behind a plus or not
abbrev pub number_up_to : ℕ → Text → Option ℕ
number_up_to most text = if is_unsigned_in 0 most text then Some (digits_value 10 (without_leading_plus text)) else None

-- the number of an argument
abbrev pub number_at : ℕ → List Row → Text → Option ℕ
number_at most rows id = option_and_then (number_up_to most) (one_of id rows)

-- what is said where a command of `clap` takes the words
abbrev pub if_taken : {X : Type 0} → App → List Text → Option X → Option X
if_taken app words said = if is_empty (fault_of app words) then said else None

-- a command that has no argument
abbrev pub bare_of : Text → Command → List Text → Option Command
bare_of name command words = if_taken (bare name) words (Some command)

abbrev pub session_with : Option ℕ → Option ℕ → Option ℕ → Option ℕ → Option Command
session_with (Some k) (Some m) (Some blocks) (Some block) = Some (Session k m blocks block)
session_with _ _ _ _ = None

abbrev pub session_in : List Row → Option Command
session_in rows = session_with (number_at most_32 rows (codes "k")) (number_at most_32 rows (codes "m"))
    (number_at most_32 rows (codes "blocks")) (number_at most_32 rows (codes "block"))

abbrev pub session_command : List Text → Option Command
session_command words = if_taken session_app words (session_in (matches_of session_app words))

-- the number behind the first word
abbrev pub number_argument : Text → List Text → Option ℕ
number_argument name words = if_taken (number_app name) words (number_at most_64 (matches_of (number_app name) words) (codes "number"))

-- the name behind the first word, or none
abbrev pub named_of : Text → List Text → Option (Option Text)
named_of name words = if_taken (named_app name) words (Some (first_of (codes "name") (matches_of (named_app name) words)))

abbrev pub command_at : Text → List Text → Option Command
command_at word words =
    if bytes_eq word (codes "play") then bare_of word Play words
    else if bytes_eq word (codes "play_groups") then bare_of word PlayGroups words
    else if bytes_eq word (codes "play_regroup") then bare_of word PlayRegroup words
    else if bytes_eq word (codes "verify") then bare_of word Verify words
    else if bytes_eq word (codes "session") then session_command words
    else if bytes_eq word (codes "serve") then bare_of word Serve words
    else if bytes_eq word (codes "member") then option_map Member (named_of word words)
    else if bytes_eq word (codes "watch") then option_map Watch (named_of word words)
    else if bytes_eq word (codes "carry") then bare_of word Carry words
    else if bytes_eq word (codes "make") then option_map Make (number_argument word words)
    else if bytes_eq word (codes "trial") then option_map Trial (number_argument word words)
    else if bytes_eq word (codes "frames") then bare_of word Frames words
    else None

abbrev pub command_of_words : List Text → Option Command
command_of_words [] = None
command_of_words (word ∷ words) = command_at word words
