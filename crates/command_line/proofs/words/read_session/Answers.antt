use Rattle.std.proofs.Common.{◌≡◌, map, ap, ◌∙◌}
use Rattle.std.specs.String.{string_bytes}
use Rattle.clap.specs.Words.{App, app_of, matches_of}
use Rattle.command_line.specs.Parsers.{session_app}
use Rattle.command_line.specs.Words.{session_in, session_with}
use Rattle.command_line.proofs.Said.{ok, wrong}
use Rattle.command_line.proofs.words.read_session.Goals as goal

read-so : (c : goal.Joined-matches) → c.session-2.result ≡ session_in (matches_of session_app (map string_bytes c.args.words.now))
read-so c =
    let words = map string_bytes c.args.words.now in
    let rows = c.in_ok-matches.ensures.rows ∙ ap (λ (a : App). matches_of a words) c.in_ok-session.ensures in
    c.session-2.ensures
    ∙ (λ i. session_with (c.small_number-k.ensures i) (c.small_number-m.ensures i) (c.small_number-blocks.ensures i) (c.small_number-block.ensures i))
    ∙ ap session_in rows

pub returns-clause-ok : goal.returns-clause-ok
returns-clause-ok c =
    let words = map string_bytes c.args.words.now in
    ok session_app (app_of c.in_ok-session.field-0) words (session_in (matches_of session_app words)) c.session-2.result c.ok_or.result
    c.in_ok-session.ensures c.in_ok-matches.ensures.taken (read-so c) c.ok_or.ensures.value

pub returns-clause-bad_words : goal.returns-clause-bad_words
returns-clause-bad_words c =
    let words = map string_bytes c.args.words.now in
    wrong session_app (app_of c.in_ok-session.field-0) words (session_in (matches_of session_app words)) c.session-2.result c.ok_or.result
    c.in_ok-session.ensures c.in_ok-matches.ensures.taken (read-so c) c.ok_or.ensures.value
