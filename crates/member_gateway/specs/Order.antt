-- Gateways of a member come one behind the other.
use Rattle.std.specs.Prelude.{List, [], ◌∷◌, ◌++◌}
use Rattle.std.proofs.Common.{refl, subst}
use Rattle.front_end.specs.Order.{IsOrder}
use Rattle.group_member.specs.Standing.{Member}
use Rattle.member_gateway.specs.Calls.{AreMade, ComesByCalls, MadeCall}
use Rattle.member_gateway.specs.Rules.{IsLaterMember}

abbrev pub made_on : (a b c : Member) (xs ys : List MadeCall) → AreMade a xs b → AreMade b ys c → AreMade a (xs ++ ys) c
made_on a b c [] ys first last = subst (λ v. AreMade v ys c) first last
made_on a b c (x ∷ xs) ys first last = (first.0, made_on x.after b c xs ys first.1 last)

abbrev pub comes_on : (a b c : Member) → ComesByCalls a b → ComesByCalls b c → ComesByCalls a c
comes_on a b c first last = record { calls = first.calls ++ last.calls; made = made_on a b c first.calls last.calls first.made last.made }

abbrev pub member_order : IsOrder IsLaterMember
member_order = record {
  same = λ gateway. record { calls = []; made = refl };
  on = λ first then last before after. comes_on first.member then.member last.member before after;
}
