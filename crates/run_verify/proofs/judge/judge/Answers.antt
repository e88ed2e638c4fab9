use Rattle.std.proofs.Common.{◌≡◌, ◌+◌, ℕ, false, List, drop, length, refl, sym, subst, arith}
use Rattle.std.proofs.lemmas.Grind.{common_steps}
use Rattle.scenario_run.specs.Lines.{lines_of}
use Rattle.run_verify.specs.Accounts.{account_of}
use Rattle.run_verify.specs.Courses.{HasFoundBy, IsAccountWithin, IsJudged, IsJudgedBehind, IsPlacedBehind, IsSheetOf, judging_state, logging_by, sheet_on}
use Rattle.run_verify.specs.Courses.{turn_by}
use Rattle.run_verify.specs.Passing.{Account, begins_entry}
use Rattle.run_verify.specs.Sheet.{Sheet}
use Rattle.run_verify.specs.declared.step.Step.{Step}
use Rattle.run_verify.specs.declared.verdict.Verdict.TheVariants.{Refused}
use Rattle.run_verify.proofs.Finding.{no_lines}
use Rattle.run_verify.proofs.Judged.{Goes, judged_lacks}
use Rattle.run_verify.proofs.Moving.{moved_ends, moved_fails, moved_fit, moved_judged, moved_places, moved_within, ok_else, rest_is, split_turn}
use Rattle.run_verify.proofs.Within.{within_first}
use Rattle.run_verify.proofs.judge.judge.Goals as goal

pub lines-init : goal.lines-init
lines-init c = record {
  judged = λ v judged.
      subst (λ (a : Account). IsJudgedBehind 0 (sheet_on c.args.shape c.args.steps.now (lines_of c.args.text.now))
      (judging_state a c.args.steps.now false) (lines_of c.args.text.now) v) c.in_ok-account.ensures judged;
  ends = c.requires.ends;
  fit = c.requires.steps;
  within = subst (IsAccountWithin c.args.shape 0) (sym c.in_ok-account.ensures) (within_first c.args.shape);
  of = c.k-partitions.ensures.in_range;
  few = omega arith;
}

pub place-requires-clause-within : goal.place-requires-clause-within
place-requires-clause-within c =
    let sheet : Sheet = sheet_on c.args.shape c.args.steps.now (lines_of c.args.text.now) in
    let of : IsSheetOf c.args.shape c.args.places.now sheet = record { shape = refl; places_are = c.requires.places } in
    let raw = c.in_ok-found.ensures sheet (drop 1 c.lines.turn.now) of in
    let is = subst (HasFoundBy (begins_entry c.cut_line.result.0.now) sheet (account_of c.lines.account)
    c.step-item.result (drop 1 c.lines.turn.now) c.lines.logging c.cut_line.result.0.now
    (lines_of c.cut_line.result.1.now) (account_of c.pass.new.self)) c.in-Places.is raw in
    subst (IsAccountWithin c.args.shape c.lines.done) (sym is.2) c.lines.invariant.within

pub returns-in-Places : goal.returns-in-Places
returns-in-Places c =
    let sheet : Sheet = sheet_on c.args.shape c.args.steps.now (lines_of c.args.text.now) in
    let of : IsSheetOf c.args.shape c.args.places.now sheet = record { shape = refl; places_are = c.requires.places } in
    let raw = c.in_ok-found.ensures sheet (drop 1 c.lines.turn.now) of in
    let is = subst (HasFoundBy (begins_entry c.cut_line.result.0.now) sheet (account_of c.lines.account)
    c.step-item.result (drop 1 c.lines.turn.now) c.lines.logging c.cut_line.result.0.now
    (lines_of c.cut_line.result.1.now) (account_of c.pass.new.self)) c.in-Places.is raw in
    let split = split_turn c.lines.turn.now c.step-item.result c.in-len1-up.len_at_least c.step-item.is in
    ok_else (IsPlacedBehind c.lines.done c.args.shape (account_of c.pass.new.self) (lines_of c.lines.rest.now)) (IsJudged sheet) c.place.result
    (λ v placed. c.lines.invariant.judged v
    (subst (λ (ls : List (List ℕ)). IsJudgedBehind c.lines.done sheet
    (judging_state (account_of c.lines.account) c.lines.turn.now c.lines.logging) ls v) (sym c.cut_line.ensures.lines)
    (moved_places sheet (account_of c.lines.account) c.lines.turn.now c.step-item.result c.lines.logging
    c.cut_line.result.0.now (lines_of c.cut_line.result.1.now) (account_of c.pass.new.self) split is
    c.lines.invariant.ends c.args.shape refl c.lines.done v
    (subst (λ (ls : List (List ℕ)). IsPlacedBehind c.lines.done c.args.shape (account_of c.pass.new.self) ls v) c.cut_line.ensures.lines placed))))
    c.place.ensures

pub returns-in-Fails : goal.returns-in-Fails
returns-in-Fails c =
    let sheet : Sheet = sheet_on c.args.shape c.args.steps.now (lines_of c.args.text.now) in
    let of : IsSheetOf c.args.shape c.args.places.now sheet = record { shape = refl; places_are = c.requires.places } in
    let raw = c.in_ok-found.ensures sheet (drop 1 c.lines.turn.now) of in
    let is = subst (HasFoundBy (begins_entry c.cut_line.result.0.now) sheet (account_of c.lines.account)
    c.step-item.result (drop 1 c.lines.turn.now) c.lines.logging c.cut_line.result.0.now
    (lines_of c.cut_line.result.1.now) (account_of c.pass.new.self)) c.in-Fails.is raw in
    let split = split_turn c.lines.turn.now c.step-item.result c.in-len1-up.len_at_least c.step-item.is in
    c.lines.invariant.judged (Refused (c.lines.done + 1))
    (subst (λ (ls : List (List ℕ)). IsJudgedBehind c.lines.done sheet
    (judging_state (account_of c.lines.account) c.lines.turn.now c.lines.logging) ls (Refused (c.lines.done + 1)))
    (sym c.cut_line.ensures.lines)
    (moved_fails sheet (account_of c.lines.account) c.lines.turn.now c.step-item.result c.lines.logging
    c.cut_line.result.0.now (lines_of c.cut_line.result.1.now) (account_of c.pass.new.self) split is c.lines.done))

pub lines-preserved : goal.lines-preserved
lines-preserved c =
    let sheet : Sheet = sheet_on c.args.shape c.args.steps.now (lines_of c.args.text.now) in
    let of : IsSheetOf c.args.shape c.args.places.now sheet = record { shape = refl; places_are = c.requires.places } in
    let is = c.in_ok-found.ensures sheet (drop 1 c.lines.turn.now) of in
    let split = split_turn c.lines.turn.now c.step-item.result c.in-len1-up.len_at_least c.step-item.is in
    let goes : Goes c.in_ok-found.found = (c.in_default-2.not-Places, c.in_default-2.not-Fails) in
    let next : c.go_on.result.0.now ≡ turn_by c.in_ok-found.found c.lines.turn.now (drop 1 c.lines.turn.now) =
    subst (λ (more : List Step). c.go_on.result.0.now ≡ turn_by c.in_ok-found.found c.lines.turn.now more)
    (rest_is c.lines.turn.now) c.go_on.ensures.turn in
    let may : c.go_on.result.1 ≡ logging_by c.in_ok-found.found c.lines.logging = c.go_on.ensures.logging in
    record {
      judged = λ v judged. c.lines.invariant.judged v
          (subst (λ (ls : List (List ℕ)). IsJudgedBehind c.lines.done sheet
          (judging_state (account_of c.lines.account) c.lines.turn.now c.lines.logging) ls v) (sym c.cut_line.ensures.lines)
          (moved_judged sheet (account_of c.lines.account) c.lines.turn.now c.step-item.result c.lines.logging
          c.cut_line.result.0.now (lines_of c.cut_line.result.1.now) (account_of c.pass.new.self) split
          c.in_ok-found.found goes is c.go_on.result.0.now c.go_on.result.1 next may c.lines.done v judged));
      ends = moved_ends sheet (account_of c.lines.account) c.lines.turn.now c.step-item.result c.lines.logging
          c.cut_line.result.0.now (lines_of c.cut_line.result.1.now) (account_of c.pass.new.self) split
          c.in_ok-found.found goes is c.go_on.result.0.now c.go_on.result.1 next may c.lines.invariant.ends;
      fit = moved_fit sheet (account_of c.lines.account) c.lines.turn.now c.step-item.result c.lines.logging
          c.cut_line.result.0.now (lines_of c.cut_line.result.1.now) (account_of c.pass.new.self) split
          c.in_ok-found.found goes is c.go_on.result.0.now c.go_on.result.1 next may c.args.shape c.lines.invariant.fit;
      within = moved_within sheet (account_of c.lines.account) c.lines.turn.now c.step-item.result c.lines.logging
          c.cut_line.result.0.now (lines_of c.cut_line.result.1.now) (account_of c.pass.new.self) split
          c.in_ok-found.found goes is c.go_on.result.0.now c.go_on.result.1 next may c.lines.done c.lines.invariant.of
          c.lines.invariant.within;
      of = c.lines.invariant.of;
      few = omega (arith, c.lines.invariant.few, c.cut_line.ensures.shorter);
    }

pub returns : goal.returns
returns c =
    let sheet : Sheet = sheet_on c.args.shape c.args.steps.now (lines_of c.args.text.now) in
    let empty : length c.lines.rest.now ≡ 0 = grind (arith, common_steps) in
    c.lines.invariant.judged (Refused (c.lines.done + 1))
    (judged_lacks sheet (account_of c.lines.account) c.lines.turn.now c.lines.logging (lines_of c.lines.rest.now)
    c.lines.done c.lines.invariant.ends (no_lines c.lines.rest.now empty))
