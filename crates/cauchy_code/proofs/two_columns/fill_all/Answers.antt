use Rattle.std.proofs.Common.{length, get_or, replicate, ap, ◌∙◌}
use Rattle.cauchy_code.proofs.Fours.{all_added}
use Rattle.cauchy_code.proofs.two_columns.fill_all.Goals as goal

pub returns-clause-a : goal.returns-clause-a
returns-clause-a c =
    let w = c.args.first.now in
    let cleared = c.clear.ensures in
    all_added (length c.args.a.now) c.args.at (λ q. get_or w.rows q 0) (λ q. get_or w.known q 0) c.args.rows.now
    c.args.known.now _ c.add_pieces.new.first _ cleared (c.add_pieces.auto.first ∙ c.clear.auto.bytes)
    c.add_pieces.ensures.first c.add_pieces-2.ensures.first

pub returns-clause-b : goal.returns-clause-b
returns-clause-b c =
    let w = c.args.second.now in
    let cleared = (c.clear-2.ensures ∙ ap (λ n. replicate n 0) c.requires.same) in
    all_added (length c.args.a.now) c.args.at (λ q. get_or w.rows q 0) (λ q. get_or w.known q 0) c.args.rows.now
    c.args.known.now _ c.add_pieces.new.second _ cleared (c.add_pieces.auto.second
    ∙ (c.clear-2.auto.bytes ∙ c.requires.same)) c.add_pieces.ensures.second c.add_pieces-2.ensures.second
