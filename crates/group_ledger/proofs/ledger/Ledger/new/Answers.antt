use Rattle.std.proofs.Common.{ℕ, ◌≡◌, ◌≤◌, [], List, Vec, Global, Option, All, length, replicate, sym, ap, subst, ◌∙◌, arith}
use Rattle.std.proofs.lemmas.Grind.{common_steps}
use Rattle.std.proofs.lemmas.List.{length-map, length-replicate}
use Rattle.std.proofs.lemmas.List.Elements.{All-replicate}
use Rattle.group_types.specs.declared.run.Run.{Run}
use Rattle.group_ledger.proofs.Partitions.{items_of}
use Rattle.group_ledger.proofs.Recorded.{stand-none}
use Rattle.group_ledger.proofs.ledger.Ledger.new.Goals as goal

pub invariant_of-result : goal.invariant_of-result
invariant_of-result c =
    let long = length-map c.in_ok-no_places.field-0.items (λ (p : Vec (Option Run) Global). p.items) in
    let many = ap length c.in_ok-no_places.ensures in
    let none : List (Option Run) = [] in
    let all = length-replicate c.k.result none in
    let counts : c.in_ok-vec.field-0.items ≡ replicate 256 0 = c.in_ok-vec.ensures.items_if_clones_equal (λ y same. same) in (
      record {
        callers_all = ap length counts ∙ length-replicate {A = ℕ} 256 0;
        calls_low = subst (All (λ n. n ≤ 0)) (sym counts) (All-replicate (λ n. n ≤ 0) 256 0 (omega arith));
        partitions_all = omega (arith, long, many, all, c.k.ensures.value);
        tickets_stand = stand-none _ _ c.new-2.ensures.items;
      },
      grind (arith, common_steps),
      (λ k d below. grind (arith, common_steps)),
      (λ none. absurd (omega (arith, none))),
    )

pub returns : goal.returns
returns c =
    let counts : c.in_ok-vec.field-0.items ≡ replicate 256 0 = c.in_ok-vec.ensures.items_if_clones_equal (λ y same. same) in
    let places : items_of c.in_ok-no_places.field-0.items ≡ replicate c.args.shape.k [] = c.in_ok-no_places.ensures
    ∙ ap (λ (n : ℕ). replicate n []) c.k.ensures.value in
    λ i. record {
      books = record {
        shape = c.args.shape;
        events = 0;
        asked = counts i;
        log = c.new.ensures.items i;
        places = places i;
        tickets = c.new-2.ensures.items i;
      };
      room = 0;
    }
