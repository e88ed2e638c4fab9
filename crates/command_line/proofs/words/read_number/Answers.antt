use Rattle.std.proofs.Common.{List, map, codes, ap, ◌∙◌}
use Rattle.std.specs.String.{string_bytes}
use Rattle.clap.specs.Words.{App, Row, app_of, matches_of}
use Rattle.command_line.specs.Parsers.{most_64, number_app}
use Rattle.command_line.specs.Words.{number_at}
use Rattle.command_line.proofs.Said.{ok}
use Rattle.command_line.proofs.words.read_number.Goals as goal

pub returns-clause-ok : goal.returns-clause-ok
returns-clause-ok c =
    let words = map string_bytes c.args.words.now in
    let app = number_app c.args.name.now in
    let rows = c.in_ok-matches.ensures.rows ∙ ap (λ (a : App). matches_of a words) c.in_ok-one_number.ensures in
    ok app (app_of c.in_ok-one_number.field-0) words (number_at most_64 (matches_of app words) (codes "number")) c.number.result c.ok_or.result
    c.in_ok-one_number.ensures c.in_ok-matches.ensures.taken
    (c.number.ensures ∙ ap (λ (rs : List Row). number_at most_64 rs (codes "number")) rows) c.ok_or.ensures.value
