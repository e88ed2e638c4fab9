use Rattle.std.proofs.Common.{◌≡◌, ℕ, List, ◌∷◌, refl, sym, ap, ◌∙◌, subst, arith}
use Rattle.edge_io.specs.Moving.{Appends}
use Rattle.edge_io.specs.Writing.{HasWrittenPart}
use Rattle.scenario_run.specs.Lines.{lines_of}
use Rattle.scenario_play.specs.Player.{ScriptGoesOn, telling}
use Rattle.scenario_play.proofs.Writing.{Treated, Treated-more, Treated-none, Written, Written-more, Written-none}
use Rattle.scenario_play.proofs.Writing.{Written-short, handed-on, part-played, refused-at, untreated}
use Rattle.scenario_play.proofs.play.play_lines.Goals as goal

pub lines-init : goal.lines-init
lines-init g c =
    let held : List ℕ = g.K.Sink.held c.args.sink.now in
    let text : List (List ℕ) → List ℕ = (telling g.P.Subject.script).text c.args.subject.now in
    let lines : List (List ℕ) = lines_of c.args.text.now in
    record {
      treated = Treated-none text lines held;
      written = Written-none held (text lines);
      verdict = refl;
      entries = refl;
      ready = c.requires.ready;
      within = omega arith;
      later = omega arith;
    }

pub lines-preserved : goal.lines-preserved
lines-preserved g c =
    let tells = telling g.P.Subject.script in
    let line : List ℕ = c.cut_line.result.0.now in
    let rest : List (List ℕ) = lines_of c.cut_line.result.1.now in
    let text : List ℕ = c.in-Some.text.items in
    let on : ScriptGoesOn tells c.lines.number c.lines.subject c.treat_line.new.subject line text = rw c.in-Some.is at c.in_ok-text.ensures in
    let cut : lines_of c.lines.rest.now ≡ line ∷ rest = c.cut_line.ensures.lines in
    let all : List ℕ = (telling g.P.Subject.script).text c.args.subject.now (lines_of c.args.text.now) in
    let held : List ℕ = g.K.Sink.held c.args.sink.now in
    let wrote : Appends (g.K.Sink.held c.lines.sink) (g.K.Sink.held c.write_text.new.sink) text
    = subst (λ (xs : List ℕ). Appends (g.K.Sink.held c.lines.sink) (g.K.Sink.held c.write_text.new.sink) xs)
    c.deref.ensures.value c.in_ok-write_text-in-Some.ensures.whole in
    let before = λ (xs : List (List ℕ)). Treated ((telling g.P.Subject.script).text c.args.subject.now) (lines_of c.args.text.now) held
    (g.K.Sink.held c.lines.sink) ((telling g.P.Subject.script).text c.lines.subject) xs in
    record {
      treated = Treated-more ((telling g.P.Subject.script).text c.args.subject.now) (lines_of c.args.text.now) held
          (g.K.Sink.held c.lines.sink) (g.K.Sink.held c.write_text.new.sink) ((telling g.P.Subject.script).text c.lines.subject)
          ((telling g.P.Subject.script).text c.treat_line.new.subject) line rest text (subst before cut c.lines.invariant.treated) wrote on.text;
      written = Written-more held (g.K.Sink.held c.lines.sink) (g.K.Sink.held c.write_text.new.sink) text ((telling g.P.Subject.script).text c.treat_line.new.subject rest) all
          (subst (λ (xs : List ℕ). Written held (g.K.Sink.held c.lines.sink) xs all)
          (ap ((telling g.P.Subject.script).text c.lines.subject) cut ∙ on.text rest) c.lines.invariant.written)
          wrote;
      verdict = sym (ap ((telling g.P.Subject.script).verdict c.lines.number c.lines.subject) cut ∙ on.verdict rest) ∙ c.lines.invariant.verdict;
      entries = sym (ap ((telling g.P.Subject.script).entries c.lines.subject) cut ∙ on.entries rest) ∙ c.lines.invariant.entries;
      ready = on.ready;
      within = omega (arith, c.lines.invariant.within, c.cut_line.ensures.shorter);
      later = omega (arith, c.lines.invariant.later, c.write_text.ensures.later);
    }

pub returns-in_err-text-clause-end : goal.returns-in_err-text-clause-end
returns-in_err-text-clause-end g c =
    let line : List ℕ = c.cut_line.result.0.now in
    let rest : List (List ℕ) = lines_of c.cut_line.result.1.now in
    let cut : lines_of c.lines.rest.now ≡ line ∷ rest = c.cut_line.ensures.lines in
    let all : List ℕ = (telling g.P.Subject.script).text c.args.subject.now (lines_of c.args.text.now) in
    let told = sym (ap ((telling g.P.Subject.script).verdict c.lines.number c.lines.subject) cut) ∙ c.lines.invariant.verdict in
    let written = subst (λ (xs : List ℕ). Written (g.K.Sink.held c.args.sink.now) (g.K.Sink.held c.lines.sink) xs all)
    (ap ((telling g.P.Subject.script).text c.lines.subject) cut) c.lines.invariant.written in
    let transcript : List ℕ → List ℕ = λ script. (telling g.P.Subject.script).text c.args.subject.now (lines_of script) in
    let before = λ (xs : List (List ℕ)). Treated ((telling g.P.Subject.script).text c.args.subject.now) (lines_of c.args.text.now)
    (g.K.Sink.held c.args.sink.now) (g.K.Sink.held c.lines.sink) ((telling g.P.Subject.script).text c.lines.subject) xs in
    let left = untreated ((telling g.P.Subject.script).text c.args.subject.now) c.args.text.now (g.K.Sink.held c.args.sink.now)
    (g.K.Sink.held c.lines.sink) ((telling g.P.Subject.script).text c.lines.subject) line rest
    (subst before cut c.lines.invariant.treated) in
    handed-on _ _ _ _ transcript c.args.text.now _ c.from_residual.result c.in_err-text.field-0.0 c.from_residual.ensures.1
    (refused-at _ _ _ _ transcript c.args.text.now _ (telling g.P.Subject.script) c.lines.number c.lines.subject line rest c.in_err-text.field-0.0 c.in_err-text.ensures left told
    written)

pub returns-in_err-write_text-in-Some-clause-end : goal.returns-in_err-write_text-in-Some-clause-end
returns-in_err-write_text-in-Some-clause-end g c =
    let tells = telling g.P.Subject.script in
    let line : List ℕ = c.cut_line.result.0.now in
    let rest : List (List ℕ) = lines_of c.cut_line.result.1.now in
    let text : List ℕ = c.in-Some.text.items in
    let on : ScriptGoesOn tells c.lines.number c.lines.subject c.treat_line.new.subject line text = rw c.in-Some.is at c.in_ok-text.ensures in
    let cut : lines_of c.lines.rest.now ≡ line ∷ rest = c.cut_line.ensures.lines in
    let all : List ℕ = (telling g.P.Subject.script).text c.args.subject.now (lines_of c.args.text.now) in
    let held : List ℕ = g.K.Sink.held c.args.sink.now in
    let written = ap ((telling g.P.Subject.script).text c.lines.subject) cut ∙ on.text rest in
    let part : HasWrittenPart held (g.K.Sink.held c.write_text.new.sink) all =
    Written-short held (g.K.Sink.held c.lines.sink) (g.K.Sink.held c.write_text.new.sink) text
    ((telling g.P.Subject.script).text c.treat_line.new.subject rest) all
    (subst (λ (xs : List ℕ). Written held (g.K.Sink.held c.lines.sink) xs all) written c.lines.invariant.written)
    (subst (HasWrittenPart (g.K.Sink.held c.lines.sink) (g.K.Sink.held c.write_text.new.sink)) c.deref.ensures.value
    c.in_err-write_text-in-Some.ensures.short) in
    let transcript : List ℕ → List ℕ = λ script. (telling g.P.Subject.script).text c.args.subject.now (lines_of script) in
    handed-on _ _ _ _ transcript c.args.text.now _ c.from_residual-in_err-write_text-in-Some.result
    c.in_err-write_text-in-Some.field-0.0 c.from_residual-in_err-write_text-in-Some.ensures.1
    (part-played _ _ _ _ transcript c.args.text.now _ _ c.in_err-write_text-in-Some.field-0.0
    c.in_err-write_text-in-Some.ensures.fault c.lines.invariant.later part)
