use Rattle.std.proofs.Common.{rules, ◌≡◌, [], ◌∷◌, ◌++◌, List, Ok, Err, subst, sym, ap, ◌∙◌}
use Rattle.toml.specs.View.{items_view, view}
use Rattle.group_config.specs.MemberReading.{IsMemberOutcome}
use Rattle.group_config.specs.MemberTable.{entries_of, entry_of}
use Rattle.group_config.specs.declared.member_entry.MemberEntry.{MemberEntry}
use Rattle.group_config.proofs.Naming.{behind, left-fails, left-next}
use Rattle.group_config.proofs.member_entries.entries_of.Goals as goal

pub returns-in_err-entry_of : goal.returns-in_err-entry_of
returns-in_err-entry_of c =
    let is : c.left.left.now ≡ c.in-Some.first.now ∷ c.in-Some.rest.now = search rules in
    let found : c.entry_of.result ≡ Err c.in_err-entry_of.field-0.0 = search rules in
    let told : c.from_residual.result ≡ Err c.in_err-entry_of.field-0.0 = search rules in
    subst (IsMemberOutcome (entries_of (items_view c.args.items.now))) (sym told)
    (left-fails c.left.members c.left.left.now c.in-Some.rest.now c.in-Some.first.now
    (entries_of (items_view c.args.items.now)) c.in_err-entry_of.field-0.0 is c.left.invariant
    (subst (IsMemberOutcome (entry_of (view c.in-Some.first.now))) found c.entry_of.ensures))

pub left-preserved : goal.left-preserved
left-preserved c =
    let is : c.left.left.now ≡ c.in-Some.first.now ∷ c.in-Some.rest.now = search rules in
    let found : c.entry_of.result ≡ Ok c.in_ok-entry_of.field-0 = search rules in
    let pushed : c.push.new.self ≡ c.left.members ++ c.in_ok-entry_of.field-0 ∷ [] = search rules in
    ap (λ (es : List MemberEntry). behind es (entries_of (items_view c.in-Some.rest.now))) pushed
    ∙ left-next c.left.members c.left.left.now c.in-Some.rest.now c.in-Some.first.now
    (entries_of (items_view c.args.items.now)) c.in_ok-entry_of.field-0 is c.left.invariant
    (subst (IsMemberOutcome (entry_of (view c.in-Some.first.now))) found c.entry_of.ensures)
