use Rattle.std.proofs.Common.{rules, ℕ, ◌≡◌, ◌↔◌, ◌≤◌, ◌+◌, IsTrue, leb, sym, ap, subst, ◌∙◌, arith}
use Rattle.group_types.specs.Dimensions.{Dimensions}
use Rattle.membership.specs.Members.{count_known_dead}
use Rattle.group_wire.specs.Sets.{size_of}
use Rattle.group_member.specs.Showing.{own_answerers}
use Rattle.group_member.specs.Standing.{Member}
use Rattle.group_member.specs.Words.{AreWords}
use Rattle.group_member.proofs.Counting.{all_known, at-most-one, known_below, more_known}
use Rattle.group_member.proofs.member.Member.has_enough.Goals as goal

pub returns : goal.returns
returns c =
    let w = c.args.self.now.words in
    let v = c.args.self.now.signs in
    let words = subst (λ (m : Member). AreWords m.words) c.self.view_is c.self.invariant.member.words in
    let shape : c.shape-shape.result ≡ w.shape = c.shape-shape.ensures ∙ ap (λ (m : Member). m.words.shape) c.self.view_is in
    let k : c.k.result ≡ w.shape.k = c.k.ensures.value ∙ ap (λ (s : Dimensions). s.k) shape in
    let m : c.m.result ≡ w.shape.m = c.m.ensures.value ∙ ap (λ (s : Dimensions). s.m) shape in
    let last : c.m-2.result ≡ w.shape.m = c.m-2.ensures.value ∙ ap (λ (s : Dimensions). s.m) shape in
    let over = c.all-test.false in
    let upto = c.all.auto.x-end in
    let end : c.all.x ≡ w.shape.k + w.shape.m = omega (arith, over, upto, k, m) in
    let many : c.all.many ≡ size_of w.shape (own_answerers w v c.args.ping) + count_known_dead w.taken =
    c.all.invariant.count ∙ ap (known_below w v c.args.ping) end ∙ all_known w v c.args.ping words in
    let both : IsTrue (leb c.m-2.result c.all.many) ↔ (c.m-2.result ≤ c.all.many) = search rules in
    (λ yes. let low = both.0 yes in omega (arith, low, many, last), λ enough. both.1 (omega (arith, enough, many, last)))

pub all-preserved : goal.all-preserved
all-preserved c =
    let w = c.args.self.now.words in
    let v = c.args.self.now.signs in
    let low = c.all.invariant.low in
    let one : c.from-many.result ≤ 1 = subst (λ (n : ℕ). n ≤ 1) (sym c.from-many.ensures) (at-most-one c.counts.result) in
    record {
      count = ap (λ (n : ℕ). n + c.from-many.result) c.all.invariant.count
          ∙ more_known w v c.args.ping c.all.x c.from-many.result c.counts.result c.from-many.ensures c.counts.ensures;
      low = omega (arith, low, one);
    }
