use Rattle.std.proofs.Common.{◌≡◌, [], List, length, refl, sym, subst, arith}
use Rattle.std.proofs.lemmas.Grind.{common_steps}
use Rattle.std.proofs.lemmas.List.{append-nil}
use Rattle.scenario_run.specs.Lines.{lines_of}
use Rattle.run_verify.specs.Runs.{ArePlacesOf}
use Rattle.run_verify.proofs.Finding.{no_lines}
use Rattle.run_verify.proofs.places.read_places.Goals as goal

pub returns : goal.returns
returns c =
    let empty : length c.lines.rest.now ≡ 0 = grind (arith, common_steps) in
    let none = no_lines c.lines.rest.now empty in
    let here = c.lines.invariant.are [] (subst (λ (ls : List _). ArePlacesOf ls []) (sym none) refl) in
    subst (ArePlacesOf (lines_of c.args.text.now)) (append-nil c.lines.places.items) here
