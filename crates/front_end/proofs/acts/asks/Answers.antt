use Rattle.std.proofs.Common.{ℕ, List, drop, take, nat_eq, ap, sym, ◌∙◌}
use Rattle.std.proofs.lemmas.List.{take_min}
use Rattle.std.specs.Cmp.Lexicographic.{pointwise}
use Rattle.std.specs.List.{list_any}
use Rattle.memc_proto.specs.declared.request.Request.{Request}
use Rattle.front_end.specs.Ahead.{acts_of}
use Rattle.front_end.specs.Progress.{behind}
use Rattle.front_end.proofs.Walking.{asks_key, any-keys}
use Rattle.front_end.proofs.acts.asks.Goals as goal

pub returns-in-Get : goal.returns-in-Get
returns-in-Get c =
    c.contains.ensures.value
    ∙ ap (λ (ks : List (List ℕ)). list_any (λ k. pointwise nat_eq k c.args.key.now) ks)
    (ap (λ (n : ℕ). take n c.keys_behind-left.result.now) c.min.ensures ∙ take_min c.args.count c.keys_behind-left.result.now
    ∙ ap (take c.args.count) (c.keys_behind-left.ensures.keys ∙ ap (drop c.args.answered) c.keys.ensures))
    ∙ any-keys c.args.key.now (drop c.args.answered c.in-Get.keys) c.in-Get.with_cas c.args.count
    ∙ ap (λ (r : Request). list_any (asks_key c.args.key.now) (take c.args.count (acts_of (behind c.args.answered r)))) (sym c.in-Get.is)
