use Rattle.std.proofs.Common.{◌+◌, ◌<◌, ◌^◌, inl, inr, refl, subst, arith}
use Rattle.std.proofs.lemmas.List.Elements.{All-contains, Contains-get_or}
use Rattle.run_alloc.specs.declared.order.Run.{Run}
use Rattle.run_alloc.specs.Runs.{IsApart}
use Rattle.run_alloc.proofs.Apart.{spread-ends}
use Rattle.run_alloc.proofs.Best.{cut_by}
use Rattle.run_alloc.proofs.cuts.carve.Goals as goal

pub overflow_add-behind : goal.overflow_add-behind
overflow_add-behind c =
    omega (
      arith,
      c.requires.ends,
      All-contains (λ (r : Run). r.at + r.len < 2 ^ 32) c.args.kept.now.runs c.args.run
          (spread-ends c.args.kept.now.runs 0 (2 ^ 32) c.requires.spread) c.requires.kept,
    )

pub put_back-requires-2-clause-apart : goal.put_back-requires-2-clause-apart
put_back-requires-2-clause-apart c k d lt =
    elim (c.put_back.ensures.others _ (Contains-get_or c.put_back.new.kept.runs k d lt)) [
      | inl old ↦ elim (All-contains (IsApart c.args.run) c.remove.new.self.runs _ c.remove.ensures.apart old) [
        | inl below ↦ inl (omega (arith, c.requires.begins))
        | inr above ↦ inr
            (omega (arith, c.requires.begins, c.requires.ends))
      ]
      | inr same ↦ inl (subst (λ (r : Run). r.at + r.len < c.args.at + c.args.len) same (omega (arith, c.requires.some, c.requires.begins)))
    ]

pub put_back-requires-2-clause-inside : goal.put_back-requires-2-clause-inside
put_back-requires-2-clause-inside c =
    omega (
      arith,
      c.requires.begins,
      c.requires.ends,
      All-contains (λ (r : Run). r.at + r.len < 2 ^ 32)
          c.args.kept.now.runs c.args.run (spread-ends c.args.kept.now.runs 0 (2 ^ 32) c.requires.spread) c.requires.kept,
    )

pub returns-clause-cut : goal.returns-clause-cut
returns-clause-cut c =
    cut_by c.args.kept.now.runs c.remove.new.self.runs c.put_back.new.kept.runs c.put_back-2.new.kept.runs c.args.run _
    _ c.args.at c.args.len c.requires.kept c.remove.ensures.cut c.put_back.ensures.joined c.put_back-2.ensures.joined
    refl (omega (arith, c.requires.begins)) refl (omega (arith, c.requires.begins, c.requires.ends))
