use Rattle.std.proofs.Common.{ℕ, List, Some, option_map, codes, sym, ap, ◌∙◌}
use Rattle.std.specs.Borrow.{Bor}
use Rattle.clap.specs.Words.{found_of}
use Rattle.clap.proofs.WalkLemmas.{first_value-rows}
use Rattle.command_line.proofs.words.name_in.Goals as goal

pub returns-in_ok-new-in-Some : goal.returns-in_ok-new-in-Some
returns-in_ok-new-in-Some c =
    ap Some c.in_ok-new-in-Some.ensures ∙ sym (ap (option_map (λ (s : Bor (List ℕ)). s.now)) c.in-Some.is) ∙ c.get_str.ensures
    ∙ first_value-rows (found_of c.args.matches.now) (codes "name")

pub returns-in-None : goal.returns-in-None
returns-in-None c =
    sym (ap (option_map (λ (s : Bor (List ℕ)). s.now)) c.in-None.is) ∙ c.get_str.ensures ∙ first_value-rows (found_of c.args.matches.now) (codes "name")
