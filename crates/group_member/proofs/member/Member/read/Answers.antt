use Rattle.std.proofs.Common.{rules, ◌≡◌, true, List, [], ◌∷◌, ◌++◌, sym, subst}
use Rattle.std.specs.Prelude.{is_ok}
use Rattle.group_wire.specs.Actions.{Read}
use Rattle.group_wire.specs.State.{Request}
use Rattle.group_member.specs.Acting.{ActsWhere, RequestComes}
use Rattle.group_member.specs.Standing.{Member}
use Rattle.group_member.specs.Words.{CanReadFrom}
use Rattle.group_member.proofs.Learned.{read-acts}
use Rattle.group_member.proofs.Parked.{on-ok}
use Rattle.group_member.proofs.member.Member.read.Goals as goal

pub returns-clause-acts : goal.returns-clause-acts
returns-clause-acts c = on-ok c.map_err.result (λ ok.
    let n = c.self.inside in
    let v : Member = record { words = n.words; signs = n.signs; callers = n.callers; parked = n.parked.items; node = n.node.node } in
    let from = c.args.from in
    let r = c.args.request in
    let can = subst (λ (old : Member). CanReadFrom old.words from) (sym c.self.view_is) c.requires.reads in
    let pushed : is_ok c.push.result ≡ true = search rules in
    let now : c.push.new.self.items ≡ n.parked.items ++ r ∷ [] = search rules in
    subst (λ (old : Member). ActsWhere (RequestComes from old.words.name r) (Read from old.words.name ∷ []) (λ out. out)
    old (record v { parked = c.push.new.self.items })) c.self.view_is
    (subst (λ (rs : List Request). ActsWhere (RequestComes from v.words.name r) (Read from v.words.name ∷ [])
    (λ out. out) v (record v { parked = rs })) (sym now)
    (read-acts v from r can)))
